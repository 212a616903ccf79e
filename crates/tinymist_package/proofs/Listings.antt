-- Maps under specifications as listings.
use Rattle.std.proofs.Common.{◌≡◌, ◌∙◌, ℕ, ap, sym, refl, List, Ok, Err, Some, None}
use Rattle.std.specs.Option.{option_map}
use Rattle.std.specs.FinMap as finmap
use Rattle.std.specs.Map.{lookup}
use Rattle.std.specs.BTreeMap.{is_at}
use Rattle.ty_model.specs.Values.{Spec, spec_key, spec_cmp, NoPackage}
use Rattle.ty_model.specs.Places.{Resolver}
use Rattle.ty_model.specs.Codes.{spec_from}
use Rattle.ty_model.proofs.Tests.{text_exact}
use Rattle.ty_persist.specs.Contents.{put_entry}
use Rattle.ty_persist.proofs.SeenLaws.{get_map, insert_map}
use Rattle.ty_syntax.specs.SpecOrder.{spec_total}
use Rattle.tinymist_package.specs.MemoryRegistry.{Path, root_at, listing_of}
use Rattle.tinymist_package.specs.Registry.{listed_or_none, root_in}

-- specifications that tie are one
pub spec_exact : finmap.IsAntisymmetric spec_cmp
spec_exact a b h =
    let keys : spec_key a ≡ spec_key b = finmap.slice_cmp-IsAntisymmetric text_exact (spec_key a) (spec_key b) h in
    ap spec_from keys

-- what is listed of a package
pub get_listed : (entries : List (Spec × Path)) (spec : Spec) → finmap.get (listing_of entries) spec ≡ option_map root_at (lookup (is_at (spec_cmp spec)) entries)
get_listed entries spec = get_map (λ s. s) root_at spec_cmp spec_cmp (λ a b. refl) spec_total spec_exact entries spec

-- a package that is put in is listed
pub put_listed : (entries : List (Spec × Path)) (spec : Spec) (path : Path) → listing_of (put_entry spec_cmp entries spec path) ≡ finmap.insert (listing_of entries) spec (root_at path)
put_listed = insert_map (λ s. s) root_at spec_cmp spec_cmp (λ a b. refl) spec_total spec_exact

-- a package that was found has its root
pub found_root : (listing : Resolver) (spec key : Spec) (root path : List ℕ) → key ≡ spec → Some (Ok path) ≡ finmap.get listing key → root ≡ path → root_in listing spec ≡ Ok root
found_root listing spec key root path is found same =
    ap (root_in listing) (sym is) ∙ ap (listed_or_none key) (sym found) ∙ ap (λ (p : List ℕ). Ok p) (sym same)

-- a package that wasn't found is none
pub no_root : (listing : Resolver) (spec key named : Spec) → key ≡ spec → None ≡ finmap.get listing key → named ≡ spec → root_in listing spec ≡ Err (NoPackage named)
no_root listing spec key named is missing same =
    ap (root_in listing) (sym is) ∙ ap (listed_or_none key) (sym missing) ∙ ap (λ (s : Spec). Err (NoPackage s)) (is ∙ sym same)
