use Rattle.std.proofs.Common.{arith}
use Rattle.std.proofs.lemmas.Str.{IsCharBoundary-after_ascii}
use Rattle.session_grammar.proofs.FieldCuts.{at_tab, is_tab, no_tab}
use Rattle.session_grammar.proofs.fields.cut.Goals as goal

pub range_from-requires : goal.range_from-requires
range_from-requires c =
    let first = rw (c.as_bytes.ensures.value, c.in-Some.is) at c.memchr.ensures in
    λ _. IsCharBoundary-after_ascii c.args.text.now c.in-Some.at c.utf8.text first.0.high (omega (arith, is_tab c.args.text.now c.in-Some.at first))

pub returns-in-Some-clause-some : goal.returns-in-Some-clause-some
returns-in-Some-clause-some c =
    let first = rw (c.as_bytes.ensures.value, c.in-Some.is) at c.memchr.ensures in
    rw (c.range.ensures.value, c.range_from.ensures.value) (at_tab c.args.text.now c.in-Some.at first)

pub returns-in-None-clause-none : goal.returns-in-None-clause-none
returns-in-None-clause-none c = no_tab c.args.text.now (rw (c.as_bytes.ensures.value, c.in-None.is) at c.memchr.ensures)
