-- Maps under paths and ids as finite maps.
use Rattle.std.proofs.Common.{◌≡◌, ℕ, Bool, true, false, cond, ◌&&◌, List, [], ◌∷◌, map, refl, sym, ap, subst, ◌∙◌, Some}
use Rattle.std.specs.Prelude.{T}
use Rattle.std.specs.Ordering.{is_lt, eq_by_cmp}
use Rattle.std.specs.List.{AllByRecursion}
use Rattle.std.specs.List.Sorted.{IsStrictlySortedBy}
use Rattle.std.specs.Cmp.{IsTotalOrder}
use Rattle.std.specs.declared.cmp.Ordering.{Ordering}
use Rattle.std.specs.declared.cmp.Ordering.TheVariants.{Less}
use Rattle.std.specs.FinMap as finmap
use Rattle.std.specs.FinMap.Entries.{is_sorted, below_all}
use Rattle.std.specs.Map.{lookup, remove_entry, keys_of}
use Rattle.std.specs.BTreeMap.{is_at}
use Rattle.std.proofs.lemmas.Iterator.Adapters.{option_map_id}
use Rattle.ty_model.specs.Values.{Id, id_cmp, text_cmp}
use Rattle.ty_model.proofs.Tests.{text_total, text_exact, id_total, id_exact}
use Rattle.ty_path.specs.Shared.{path_text}
use Rattle.ty_persist.specs.Contents.{put_entry, IsAscending}
use Rattle.ty_persist.specs.Texts.{is_text}
use Rattle.ty_persist.specs.Seen.{seen_entries}
use Rattle.ty_persist.proofs.SeenLaws.{get_map, get_by_seen_map, insert_map, remove_map, ascending_seen, from_entries-put_entry, from_entries-remove_entry}
use Rattle.tinymist_vfs.specs.Maps.{Path, path_map, id_map}

abbrev pub path_cmp : Path → Path → Ordering
path_cmp a b = text_cmp (path_text a) (path_text b)

find_lookup : {X : Type 0} (q : Id) (es : List (Id × X)) → finmap.find id_cmp q es ≡ lookup (is_at (id_cmp q)) es
find_lookup q [] = refl
find_lookup q (e ∷ es) = ap (cond (eq_by_cmp id_cmp q e.0) (Some e.1)) (find_lookup q es)

module _ {X : Type 0} where
  pub paths_get : (es : List (Path × X)) (k : Path) → finmap.get (path_map es) (path_text k) ≡ lookup (is_at (path_cmp k)) es
  paths_get es k = get_map path_text (λ x. x) path_cmp text_cmp (λ a b. refl) text_total text_exact es k ∙ option_map_id _

  pub text_get : (es : List (Path × X)) (q : List ℕ) → finmap.get (path_map es) q ≡ lookup (is_text q) es
  text_get es q = get_by_seen_map path_text (λ x. x) text_total es q ∙ option_map_id _

  pub paths_put : (es : List (Path × X)) (k : Path) (v : X) → path_map (put_entry path_cmp es k v) ≡ finmap.insert (path_map es) (path_text k) v
  paths_put = insert_map path_text (λ x. x) path_cmp text_cmp (λ a b. refl) text_total text_exact

  pub paths_take : (es : List (Path × X)) (k : Path) → IsAscending path_cmp es → path_map (remove_entry (is_at (path_cmp k)) es) ≡ finmap.remove (path_map es) (path_text k)
  paths_take = remove_map path_text (λ x. x) path_cmp text_cmp (λ a b. refl) text_total text_exact

  pub ids_get : (es : List (Id × X)) (k : Id) → finmap.get (id_map es) k ≡ lookup (is_at (id_cmp k)) es
  ids_get es k = finmap.get-from_entries id_total es k ∙ find_lookup k es

  pub ids_put : (es : List (Id × X)) (k : Id) (v : X) → id_map (put_entry id_cmp es k v) ≡ finmap.insert (id_map es) k v
  ids_put es k v = from_entries-put_entry id_total id_exact es k v

  pub ids_take : (es : List (Id × X)) (k : Id) → IsAscending id_cmp es → id_map (remove_entry (is_at (id_cmp k)) es) ≡ finmap.remove (id_map es) k
  ids_take es k s = from_entries-remove_entry id_total id_exact es k s

-- ---- the entries of a map of ascending entries are these

both : (a b : Bool) → T a → T b → T (a && b)
both true b p q = q
both false b p q = p

module _ {K X : Type 0} (R : K → K → Ordering) where
  below : (k : K) (es : List (K × X)) → AllByRecursion (λ y. R k y ≡ Less) (keys_of es) → T (below_all R k es)
  below k [] h = tt
  below k (e ∷ es) h = both _ _ (subst (λ r. T (is_lt r)) (sym h.0) tt) (below k es h.1)

  sorted : (es : List (K × X)) → IsAscending R es → T (is_sorted R es)
  unfolding IsStrictlySortedBy
  sorted [] h = tt
  sorted (e ∷ es) h = both _ _ (below e.0 es h.0) (sorted es h.1)

  pub entries_are : IsTotalOrder R → finmap.IsAntisymmetric R → (es : List (K × X)) → IsAscending R es → finmap.entries (finmap.from_entries {R = R} es) ≡ es
  entries_are o exact es h =
      let t : T (is_sorted R es) = sorted es h in
      ap finmap.entries (finmap.same_map o exact (finmap.from_entries es) (finmap.from_sorted es) (λ q. finmap.get-from_entries o es q ∙ sym (finmap.get-from_sorted R es q t)))
      ∙ finmap.entries-from_sorted R es t

firsts : {X : Type 0} (es : List (Path × X)) → map (λ e. e.0) (seen_entries path_text (λ x. x) es) ≡ map (λ e. path_text e.0) es
firsts [] = refl
firsts (e ∷ es) = ap (λ (ts : List (List ℕ)). path_text e.0 ∷ ts) (firsts es)

pub keys_by_text : {X : Type 0} (es : List (Path × X)) → IsAscending path_cmp es → finmap.keys (path_map es) ≡ map (λ e. path_text e.0) es
keys_by_text {X} es h =
    ap (map (λ (e : List ℕ × X). e.0)) (entries_are text_cmp text_total text_exact (seen_entries path_text (λ x. x) es) (ascending_seen path_text (λ x. x) path_cmp text_cmp (λ a b. refl) es h))
    ∙ firsts es

pub keys_by_id : {X : Type 0} (es : List (Id × X)) → IsAscending id_cmp es → finmap.keys (id_map es) ≡ map (λ e. e.0) es
keys_by_id {X} es h = ap (map (λ (e : Id × X). e.0)) (entries_are id_cmp id_total id_exact es h)
