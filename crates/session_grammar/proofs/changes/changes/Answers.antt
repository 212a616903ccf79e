use Rattle.std.proofs.Common.{◌∙◌, ap, List, ℕ, Option}
use Rattle.std.specs.Borrow.{Bor}
use Rattle.session_grammar.specs.Plain.{plain_changes}
use Rattle.session_grammar.specs.Grammar.{changes_of}
use Rattle.session_grammar.specs.Plain.{plain_change, fields_of}
use Rattle.session_grammar.proofs.Changing.{one_more}
use Rattle.session_grammar.proofs.changes.changes.Goals as goal

pub loop-left-preserved : goal.loop-left-preserved
loop-left-preserved c =
    let reads = c.in_ok-change.ensures.reads in
    one_more (changes_of (fields_of c.args.fields)) (plain_changes c.loop-left.all) (plain_change c.in_ok-change.change) (plain_changes c.add_to.new.set) (changes_of (fields_of c.loop-left.left)) (changes_of (fields_of c.in_ok-change.rest)) c.loop-left.invariant (ap (λ (l : Option (Bor (List ℕ))). changes_of (fields_of l)) c.in-Some.is ∙ reads.0) c.in_ok-add_to.ensures
