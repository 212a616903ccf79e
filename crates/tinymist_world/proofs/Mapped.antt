-- What a registry says of a package as what a resolver says.
use Rattle.std.proofs.Common.{◌≡◌, ℕ, List, Option, Some, None, Result, Ok, Err, refl, ap, ◌∙◌}
use Rattle.std.specs.FinMap as map
use Rattle.ty_model.specs.Values.{Spec, PackageRefusal, Refusal, OfPackage}
use Rattle.ty_model.specs.Places.{Resolver, listed_root, package_root}
use Rattle.tinymist_package.specs.Registry.{listed_or_none, root_in}

-- a root, or a refusal of the package
abbrev of_package : Result (List ℕ) PackageRefusal → Result (List ℕ) Refusal
of_package (Ok root) = Ok root
of_package (Err refusal) = Err (OfPackage refusal)

listed : (spec : Spec) (found : Option (Result (List ℕ) PackageRefusal)) → listed_root spec found ≡ of_package (listed_or_none spec found)
listed spec None = refl
listed spec (Some (Ok root)) = refl
listed spec (Some (Err refusal)) = refl

pub found_root : (listing : Resolver) (spec : Spec) (root : List ℕ) → root_in listing spec ≡ Ok root → package_root listing spec ≡ Ok root
found_root listing spec root is = listed spec (map.get listing spec) ∙ ap of_package is

pub refused_root : (listing : Resolver) (spec : Spec) (refusal : PackageRefusal) → root_in listing spec ≡ Err refusal → package_root listing spec ≡ Err (OfPackage refusal)
refused_root listing spec refusal is = listed spec (map.get listing spec) ∙ ap of_package is
