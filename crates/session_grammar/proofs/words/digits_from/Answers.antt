use Rattle.std.proofs.Common.{sym, ap, ◌∙◌, arith}
use Rattle.std.specs.Option.{option_and_then}
use Rattle.session_grammar.specs.Grammar.{fits_64}
use Rattle.session_grammar.proofs.Decimals.{step_big, all_read}
use Rattle.session_grammar.proofs.words.digits_from.Goals as goal

pub returns : goal.returns
returns c = sym (all_read c.loop-d.n c.loop-d.d-index c.args.digits.now (omega arith) c.loop-d.invariant.small) ∙ ap (option_and_then fits_64) c.loop-d.invariant.same

pub returns-in_default : goal.returns-in_default
returns-in_default c = sym (step_big c.loop-d.n c.loop-d.d-index c.args.digits.now (omega arith) (omega arith) (omega arith) (omega (arith, c.in_default.ensures))) ∙ ap (option_and_then fits_64) c.loop-d.invariant.same

pub returns-in_default-checked_add : goal.returns-in_default-checked_add
returns-in_default-checked_add c = sym (step_big c.loop-d.n c.loop-d.d-index c.args.digits.now (omega arith) (omega arith) (omega arith) (omega (arith, c.in_default-checked_add.ensures, c.in-Some.ensures.1, c.from.ensures))) ∙ ap (option_and_then fits_64) c.loop-d.invariant.same
