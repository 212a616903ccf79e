use Rattle.std.proofs.Common.{◌≡◌, ◌-◌, length, take, drop, ap, ◌∙◌, arith}
use Rattle.std.specs.Arc.{arc_value}
use Rattle.ty_syntax.specs.Text.{between, spliced}
use Rattle.ty_syntax.proofs.Commons.{changed_part}
use Rattle.ty_syntax.proofs.source.Source.replace.Goals as goal

pub returns-clause-ok : goal.returns-clause-ok
returns-clause-ok c =
    let old = c.args.self.now.text in
    let text = c.args.text.now in
    let front = c.common_front-front.result in
    let back = c.common_back-back.result in
    let was : c.text-old.result.now ≡ old = cc in
    let shown : c.deref-2.result.now ≡ old = cc in
    let first : take front old ≡ take front text = rw was at c.common_front-front.ensures.same in
    let last : drop (length old - back) old ≡ drop (length text - back) text = rw was at c.common_back-back.ensures.same in
    let changed : c.range-changed.result.now ≡ between text front (length text - back) = cc in
    let whole : spliced old front (length old - back) c.range-changed.result.now ≡ text = rw changed (changed_part old text front (length old - back) (length text - back) first last (omega arith)) in
    let repaired : c.in_ok-lines.lines ≡ spliced old front (length old - back) c.range-changed.result.now = rw (was, shown) at c.in_ok-lines.ensures in
    let lines : arc_value c.in_ok-self-inside.field-0 ≡ text = c.in_ok-self-inside.ensures ∙ (repaired ∙ whole) in
    rw lines (ap (λ s. record { id = s.id; text = c.args.text.now }) c.self.view_is)
