-- The first components of both, and what is left after them.
use Rattle.std.proofs.Common.{length, sym, ap, ◌∙◌, arith}
use Rattle.ty_model.specs.Paths.{components, apart}
use Rattle.ty_path.specs.Parts.{plain_component, components_left}
use Rattle.ty_path.proofs.PartLaws.{no_first, its_first, left_as_path}
use Rattle.ty_path.proofs.RelativeLaws.{apart-same, apart-other, apart-left_nil, apart-right_nil}
use Rattle.ty_path.proofs.relative.apart.Goals as goal

pub returns-in_default : goal.returns-in_default
returns-in_default c =
    let none = no_first c.components-after_down.result _ c.loop-next.down.now c.components-after_down.ensures c.new.ensures c.next.new.self c.in_default.ensures.steps in
    sym (apart-left_nil (components c.loop-next.down.now) (components c.loop-next.up.now) none) ∙ c.loop-next.invariant.2

pub returns-in_default-next : goal.returns-in_default-next
returns-in_default-next c =
    let none = no_first c.components-after_up.result _ c.loop-next.up.now c.components-after_up.ensures c.new-in-loop-next.ensures c.next-in-loop-next.new.self c.in_default-next.ensures.steps in
    sym (apart-right_nil (components c.loop-next.down.now) (components c.loop-next.up.now) none) ∙ c.loop-next.invariant.2

pub returns-then-not-is_same : goal.returns-then-not-is_same
returns-then-not-is_same c =
    let down = its_first c.components-after_down.result _ c.loop-next.down.now c.components-after_down.ensures c.new.ensures c.next.new.self c.in-Some.next c.in-Some.ensures.steps in
    let up = its_first c.components-after_up.result _ c.loop-next.up.now c.components-after_up.ensures c.new-in-loop-next.ensures c.next-in-loop-next.new.self c.in-Some-next.other c.in-Some-next.ensures.steps in
    sym (apart-other (components c.loop-next.down.now) (components c.loop-next.up.now) (components_left c.next.new.self) (components_left c.next-in-loop-next.new.self)
    (plain_component c.in-Some.next) (plain_component c.in-Some-next.other) down up (sym c.is_same.ensures ∙ c.if-not-is_same.true))
    ∙ c.loop-next.invariant.2

pub loop-next-smaller : goal.loop-next-smaller
loop-next-smaller c =
    let down = its_first c.components-after_down.result _ c.loop-next.down.now c.components-after_down.ensures c.new.ensures c.next.new.self c.in-Some.next c.in-Some.ensures.steps in
    let rest = left_as_path c.next.new.self _ c.as_str-down.result.now c.as_path.ensures c.as_str-down.ensures in
    omega (arith, ap length down, ap length rest)

pub loop-next-preserved : goal.loop-next-preserved
loop-next-preserved c =
    let down = its_first c.components-after_down.result _ c.loop-next.down.now c.components-after_down.ensures c.new.ensures c.next.new.self c.in-Some.next c.in-Some.ensures.steps in
    let up = its_first c.components-after_up.result _ c.loop-next.up.now c.components-after_up.ensures c.new-in-loop-next.ensures c.next-in-loop-next.new.self c.in-Some-next.other c.in-Some-next.ensures.steps in
    let same = apart-same (components c.loop-next.down.now) (components c.loop-next.up.now) (components_left c.next.new.self) (components_left c.next-in-loop-next.new.self)
    (plain_component c.in-Some.next) (plain_component c.in-Some-next.other) down up (sym c.is_same.ensures ∙ c.if-not-is_same.false) in
    let down_rest = left_as_path c.next.new.self _ c.as_str-down.result.now c.as_path.ensures c.as_str-down.ensures in
    let up_rest = left_as_path c.next-in-loop-next.new.self _ c.as_str-up.result.now c.as_path-in-loop-next.ensures c.as_str-up.ensures in
    (c.as_str-down.utf8, c.as_str-up.utf8, (λ i. apart (down_rest i) (up_rest i)) ∙ sym same ∙ c.loop-next.invariant.2)
