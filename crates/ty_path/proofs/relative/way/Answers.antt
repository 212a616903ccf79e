-- All of `up` was gone up from, and then come the components of `down`.
use Rattle.std.proofs.Common.{◌++◌, map, sym, ap, ◌∙◌, string_bytes}
use Rattle.std.proofs.lemmas.Bool.{OnTrue_at}
use Rattle.ty_model.specs.Paths.{ParentDir, components, slashes}
use Rattle.ty_path.proofs.PartLaws.{at_start}
use Rattle.ty_path.proofs.RelativeLaws.{slashes-append, way-path, way-some}
use Rattle.ty_path.proofs.relative.way.Goals as goal

pub returns : goal.returns
returns c =
    let up = components c.args.up.now in
    let down = components c.args.down.now in
    let none = sym c.in_ok-push_ups.ensures.none ∙ c.if-not-branch.false in
    let ups = OnTrue_at c.if-not-branch.false c.in_ok-push_ups.ensures.ups in
    let start = at_start c.components.result _ c.args.down.now c.components.ensures c.new.ensures in
    let written = c.in_ok-push_components.ensures ∙ (λ i. (ups ∙ ap (λ t. t ++ slashes (map (λ x. ParentDir) up)) c.in_ok-text.ensures.bytes) i ++ slashes (start i)) ∙ sym (slashes-append (map (λ x. ParentDir) up) down) in
    way-some down up (string_bytes c.close.new.text) none (c.close.ensures (map (λ x. ParentDir) up ++ down) (way-path up down c.requires) written)
