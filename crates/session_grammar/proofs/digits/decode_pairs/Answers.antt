use Rattle.std.proofs.Common.{arith}
use Rattle.session_grammar.proofs.Pairs.{one_more, all_seen}
use Rattle.session_grammar.proofs.digits.decode_pairs.Goals as goal

pub pairs-preserved : goal.pairs-preserved
pairs-preserved c =
    one_more c.args.digits.now c.pairs.bytes c.pairs.i c.pairs.greatest c.digit_value-high.result c.digit_value-low.result _ _ (omega arith) (omega arith)
    (c.digit_value-high.ensures.digit, c.digit_value-high.ensures.other) (c.digit_value-low.ensures.digit, c.digit_value-low.ensures.other)
    (omega arith) (λ b d. omega (arith, b, d)) c.pairs.invariant

pub returns : goal.returns
returns c = all_seen c.args.digits.now c.pairs.bytes c.pairs.i c.pairs.greatest (omega arith) (omega arith) c.pairs.invariant
