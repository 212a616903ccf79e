use Rattle.session_grammar.proofs.Pairs.{SeenSoFar}
use Rattle.session_grammar.proofs.digits.decode_pairs.Given as goal

abbrev pub invariant-pairs : goal.invariant-pairs
invariant-pairs l = SeenSoFar l.digits l.bytes l.i l.greatest
