use Rattle.std.proofs.Common.{refl, sym}
use Rattle.std.specs.FinMap.{empty, get-empty}
use Rattle.ty_model.specs.Values.{spec_cmp}
use Rattle.tinymist_package.proofs.Listings.{no_root}
use Rattle.tinymist_package.proofs.registry.dummy.DummyRegistryPackageRegistry.resolve.Goals as goal

pub returns : goal.returns
returns c = no_root empty _ _ _ refl (sym (get-empty spec_cmp _)) c.in_ok-share.ensures
