use Rattle.std.proofs.Common.{Err, sym, ap, ◌∙◌}
use Rattle.std.specs.FinMap as map
use Rattle.ty_model.specs.Values.{Spec, spec_cmp, OfPackage, NoPackage}
use Rattle.ty_model.specs.Places.{listed_root}
use Rattle.ty_syntax.specs.Spec.{spec_of}
use Rattle.tinymist_vfs.proofs.ids.resolver.MockRootResolverRootResolver.resolve_package_root.Goals as goal

pub returns : goal.returns
returns c =
    ap (listed_root (spec_of c.args.spec.now)) (map.get-empty spec_cmp (spec_of c.args.spec.now))
    ∙ ap (λ (spec : Spec). Err (OfPackage (NoPackage spec))) (sym c.in_ok-share.ensures)
