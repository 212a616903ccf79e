-- Maps under cleaned paths as what folders hold.
use Rattle.std.proofs.Common.{◌≡◌, ℕ, Bool, true, false, ◌&&◌, List, [], ◌∷◌, ◌++◌, map, refl, sym, ap, subst, ◌∙◌, Option, Some, None}
use Rattle.std.specs.Prelude.{T}
use Rattle.std.specs.Ordering.{is_lt}
use Rattle.std.specs.Option.{option_map}
use Rattle.std.specs.List.{AllByRecursion}
use Rattle.std.specs.List.Sorted.{IsStrictlySortedBy}
use Rattle.std.specs.Cmp.{IsTotalOrder}
use Rattle.std.specs.declared.cmp.Ordering.{Ordering}
use Rattle.std.specs.declared.cmp.Ordering.TheVariants.{Less}
use Rattle.std.specs.FinMap as finmap
use Rattle.std.specs.FinMap.Entries.{is_sorted, below_all}
use Rattle.std.specs.Map.{lookup, keys_of}
use Rattle.std.specs.BTreeMap.{is_at}
use Rattle.ty_model.specs.Values.{text_cmp}
use Rattle.ty_model.proofs.Tests.{text_total, text_exact}
use Rattle.ty_persist.specs.Contents.{put_entry, IsAscending}
use Rattle.ty_persist.specs.Seen.{seen_entries}
use Rattle.ty_persist.proofs.SeenLaws.{get_map, insert_map, ascending_seen}
use Rattle.std.specs.Borrow.{Bor}
use Rattle.std.proofs.lemmas.List.{map-append}
use Rattle.tinymist_package.specs.Folders as plain
use Rattle.tinymist_package.specs.Folders.{listed_in, entry_in, one_before, plain_entry}
use Rattle.tinymist_package.specs.declared.folders.FolderEntry.{FolderEntry}
use Rattle.tinymist_package.specs.MemoryFolders.{stored_of, contents_of}
use Rattle.tinymist_package.specs.declared.folders.memory.Stored.{Stored}

-- what stands at a path
pub get_stored : (entries : List (List ℕ × Stored)) (path : List ℕ) → finmap.get (contents_of entries) path ≡ option_map stored_of (lookup (is_at (text_cmp path)) entries)
get_stored entries path = get_map (λ p. p) stored_of text_cmp text_cmp (λ a b. refl) text_total text_exact entries path

-- what is put in stands there
pub put_stored : (entries : List (List ℕ × Stored)) (path : List ℕ) (stored : Stored) → contents_of (put_entry text_cmp entries path stored) ≡ finmap.insert (contents_of entries) path (stored_of stored)
put_stored = insert_map (λ p. p) stored_of text_cmp text_cmp (λ a b. refl) text_total text_exact

-- ---- the entries of a map of ascending entries are these

both : (a b : Bool) → T a → T b → T (a && b)
both true b p q = q
both false b p q = p

module _ {K X : Type 0} (R : K → K → Ordering) where
  below : (k : K) (es : List (K × X)) → AllByRecursion (λ y. R k y ≡ Less) (keys_of es) → T (below_all R k es)
  below k [] h = tt
  below k (e ∷ es) h = both _ _ (subst (λ r. T (is_lt r)) (sym h.0) tt) (below k es h.1)

  sorted : (es : List (K × X)) → IsAscending R es → T (is_sorted R es)
  unfolding IsStrictlySortedBy
  sorted [] h = tt
  sorted (e ∷ es) h = both _ _ (below e.0 es h.0) (sorted es h.1)

  entries_are : IsTotalOrder R → finmap.IsAntisymmetric R → (es : List (K × X)) → IsAscending R es → finmap.entries (finmap.from_entries {R = R} es) ≡ es
  entries_are o exact es h =
      let t : T (is_sorted R es) = sorted es h in
      ap finmap.entries (finmap.same_map o exact (finmap.from_entries es) (finmap.from_sorted es) (λ q. finmap.get-from_entries o es q ∙ sym (finmap.get-from_sorted R es q t)))
      ∙ finmap.entries-from_sorted R es t

-- what is held, in the order of its paths
pub entries_held : (es : List (List ℕ × Stored)) → IsAscending text_cmp es → finmap.entries (contents_of es) ≡ seen_entries (λ p. p) stored_of es
entries_held es h = entries_are text_cmp text_total text_exact (seen_entries (λ p. p) stored_of es) (ascending_seen (λ p. p) stored_of text_cmp text_cmp (λ a b. refl) es h)

-- ---- what a folder lists, one entry after another

before_append : {X : Type 0} (found : Option X) (xs ys : List X) → one_before found (xs ++ ys) ≡ one_before found xs ++ ys
before_append None xs ys = refl
before_append (Some x) xs ys = refl

listed-push : (folder : List ℕ) (es : List (List ℕ × plain.Stored)) (e : List ℕ × plain.Stored) → listed_in folder (es ++ e ∷ []) ≡ listed_in folder es ++ one_before (entry_in folder e) []
listed-push folder [] e = refl
listed-push folder (x ∷ xs) e =
    ap (one_before (entry_in folder x)) (listed-push folder xs e) ∙ before_append (entry_in folder x) (listed_in folder xs) (one_before (entry_in folder e) [])

plain_found : (found : Option FolderEntry) → map plain_entry (one_before found []) ≡ one_before (option_map plain_entry found) []
plain_found None = refl
plain_found (Some entry) = refl

-- an entry of a map as it is seen
abbrev pub seen_pair : Bor (List ℕ) × Bor Stored → List ℕ × plain.Stored
seen_pair y = (y.0.now, stored_of y.1.now)

pub entries_step : (folder : List ℕ) (ys : List (Bor (List ℕ) × Bor Stored)) (y : Bor (List ℕ) × Bor Stored) (before after : List FolderEntry) (found : Option FolderEntry)
    → map plain_entry before ≡ listed_in folder (map seen_pair ys) → option_map plain_entry found ≡ entry_in folder (seen_pair y) → after ≡ before ++ one_before found []
    → map plain_entry after ≡ listed_in folder (map seen_pair (ys ++ y ∷ []))
entries_step folder ys y before after found h is a =
    ap (map plain_entry) a ∙ map-append plain_entry before (one_before found [])
    ∙ ap (λ (l : List (List ℕ × Bool)). map plain_entry before ++ l) (plain_found found)
    ∙ (λ i. h i ++ one_before (is i) [])
    ∙ sym (listed-push folder (map seen_pair ys) (seen_pair y)) ∙ ap (listed_in folder) (sym (map-append seen_pair ys (y ∷ [])))

seen_all : (ys : List (Bor (List ℕ) × Bor Stored)) → map seen_pair ys ≡ seen_entries (λ p. p) stored_of (map (λ y. (y.0.now, y.1.now)) ys)
seen_all [] = refl
seen_all (y ∷ ys) = ap (λ (l : List (List ℕ × plain.Stored)). seen_pair y ∷ l) (seen_all ys)

-- all entries have come
pub listed_all : (folder : List ℕ) (es : List (List ℕ × Stored)) (ys : List (Bor (List ℕ) × Bor Stored)) → map (λ y. (y.0.now, y.1.now)) ys ≡ es → IsAscending text_cmp es
    → listed_in folder (map seen_pair ys) ≡ listed_in folder (finmap.entries (contents_of es))
listed_all folder es ys all order =
    ap (listed_in folder) (seen_all ys ∙ ap (seen_entries (λ p. p) stored_of) all ∙ sym (entries_held es order))
