-- Where an id of a package stands, when no package is listed.
use Rattle.std.proofs.Common.{◌≡◌, cond, false, ap, ◌∙◌, None}
use Rattle.std.specs.FinMap as finmap
use Rattle.ty_model.specs.Values.{Id, Spec, spec_cmp, Package, OfPackage, NoPackage, Other}
use Rattle.ty_model.specs.Places.{RefusedAt, place_of, place_in, place_below, listed_root, package_root, is_workspace_spec}

pub unlisted : (id : Id) (spec : Spec) → id.root ≡ Package spec → is_workspace_spec spec ≡ false → place_of finmap.empty id ≡ RefusedAt (OfPackage (NoPackage spec))
unlisted id spec is other =
    ap (place_in finmap.empty id.vpath) is
    ∙ ap (λ b. cond b (RefusedAt (Other None)) (place_below (package_root finmap.empty spec) id.vpath)) other
    ∙ ap (λ o. place_below (listed_root spec o) id.vpath) (finmap.get-empty spec_cmp spec)
