use Rattle.std.proofs.Common.{◌≡◌, ◌<◌, ◌^◌, drop}
use Rattle.session_grammar.specs.Grammar.{decimal_from}
use Rattle.session_grammar.proofs.words.digits_from.Given as goal

abbrev pub invariant-loop-d : goal.invariant-loop-d
invariant-loop-d l = record { same : decimal_from l.n (drop l.d-index l.digits) ≡ decimal_from l.start l.digits; small : l.n < 2 ^ 64 }
