-- What a registry answers.
use Rattle.std.specs.Prelude.{◌≡◌, ℕ, List, Option, Some, None, Result, Ok, Err, ⊤}
use Rattle.std.specs.FinMap as map
use Rattle.std.specs.declared.sync.Arc.{Arc}
use Rattle.std.specs.declared.string.String.{String}
use Rattle.std.specs.declared.alloc.Global.{Global}
use Rattle.ty_model.specs.Values.{Spec, PackageRefusal, NoPackage}
use Rattle.ty_model.specs.Places.{Resolver}
use Rattle.ty_path.specs.Shared.{path_text}
use Rattle.ty_syntax.specs.Error.{package_refusal_of}
use Rattle.tinymist_package.specs.declared.fault.PackageFault.{PackageFault}
use Rattle.tinymist_package.specs.declared.fault.PackageFault.TheVariants.{Package, OutOfMemory}

-- what is listed, and else that there is no such package
abbrev pub listed_or_none : Spec → Option (Result (List ℕ) PackageRefusal) → Result (List ℕ) PackageRefusal
listed_or_none spec None = Err (NoPackage spec)
listed_or_none spec (Some root) = root

-- the root of a package in a listing, or why there is none
abbrev pub root_in : Resolver → Spec → Result (List ℕ) PackageRefusal
root_in listing spec = listed_or_none spec (map.get listing spec)

-- this is the root, unless memory is wanting
abbrev pub IsRoot : Result (List ℕ) PackageRefusal → Result (Arc (String Global) Global) PackageFault → Type 0
IsRoot root (Ok path) = root ≡ Ok (path_text path)
IsRoot root (Err (Package error)) = root ≡ Err (package_refusal_of error)
IsRoot root (Err OutOfMemory) = ⊤
