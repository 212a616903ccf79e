use Rattle.std.proofs.Common.{sym, ap, ◌∙◌}
use Rattle.ty_model.specs.Values.{Spec, OfPackage, NoPackage}
use Rattle.ty_model.specs.Places.{RefusedAt}
use Rattle.ty_syntax.specs.Id.{root_of}
use Rattle.ty_syntax.specs.Spec.{spec_of}
use Rattle.tinymist_plain.proofs.Packages.{unlisted}
use Rattle.tinymist_plain.proofs.place.place_of.Goals as goal

pub returns-in_ok-share-in-Package : goal.returns-in_ok-share-in-Package
returns-in_ok-share-in-Package c =
    let other = rw c.as_str-in-Package.ensures.value at (sym c.if-eq.ensures) in
    ap (λ (s : Spec). RefusedAt (OfPackage (NoPackage s))) c.in_ok-share-in-Package.ensures
    ∙ sym (unlisted c.args.id.now (spec_of c.in-Package.spec) (sym c.root.ensures ∙ ap root_of c.in-Package.is) other)
