-- A registry in memory: where its packages stand, and what it lists.
use Rattle.std.specs.Prelude.{ℕ, List, ◌∷◌, ◌++◌, codes, Result, Ok, refl}
use Rattle.std.specs.Coded.{Coded, code_by, coded_result}
use Rattle.std.specs.FinMap as map
use Rattle.std.specs.declared.sync.Arc.{Arc}
use Rattle.std.specs.declared.string.String.{String}
use Rattle.std.specs.declared.alloc.Global.{Global}
use Rattle.ty_model.specs.Values.{Spec, spec_key, PackageRefusal, package_key}
use Rattle.ty_model.specs.Codes.{text_code, texts_code, spec_from, package_from, package_back}
use Rattle.ty_model.specs.Places.{Resolver}
use Rattle.ty_path.specs.Shared.{path_text}
use Rattle.ty_persist.specs.Seen.{seen_entries}
use Rattle.ty_syntax.specs.Spec.{numbers_text}

-- where a package in memory stands: /internal-packages/name/version
abbrev pub memory_root : Spec → List ℕ
memory_root spec = codes "/internal-packages/" ++ (spec.name ++ 47 ∷ numbers_text spec.numbers)

-- a path that is shared
abbrev pub Path : Type 0
Path = Arc (String Global) Global

-- a root as what a registry answers
abbrev pub root_at : Path → Result (List ℕ) PackageRefusal
root_at path = Ok (path_text path)

-- the packages of these entries, each with its root
abbrev pub listing_of : List (Spec × Path) → Resolver
listing_of entries = map.from_entries (seen_entries (λ spec. spec) root_at entries)

-- ---- codes

-- specifications have codes
abbrev pub spec_code : Coded Spec
spec_code = code_by (List (List ℕ)) texts_code spec_key spec_from (λ _. refl)

-- what is wrong with a package has codes
abbrev pub package_code : Coded PackageRefusal
package_code = code_by (List (List ℕ)) texts_code package_key package_from package_back

-- listings have codes
abbrev pub resolver_code : Coded Resolver
resolver_code = map.code spec_code (coded_result text_code package_code)
