-- A map's entries as they are seen, as a finite map: what look-ups, puts and removals make of it.
use Rattle.std.specs.Prelude.{◌≡◌, Bool, true, false, cond, List, [], ◌∷◌, Some, None}
use Rattle.std.proofs.Common.{refl, sym, ap, ◌∙◌}
use Rattle.std.specs.declared.cmp.Ordering.{Ordering}
use Rattle.std.specs.declared.cmp.Ordering.TheVariants.{Less, Equal, Greater}
use Rattle.std.specs.Ordering.{match_ordering, ordering_reverse, is_eq, eq_by_cmp}
use Rattle.std.specs.Option.{option_map}
use Rattle.std.specs.List.{AllByRecursion}
use Rattle.std.specs.List.Sorted.{IsStrictlySortedBy}
use Rattle.std.specs.Cmp.{IsTotalOrder, alike_right, eq_by_cmp_equiv, Equal-is}
use Rattle.std.specs.Map.{keys_of, lookup, remove_entry}
use Rattle.std.specs.BTreeMap.{is_at}
use Rattle.std.specs.FinMap as finmap
use Rattle.std.specs.FinMap.{IsAntisymmetric, from_entries, find, get-from_entries, get-insert, get-remove, same_map}
use Rattle.std.proofs.lemmas.Map.{lookup-remove_entry}
use Rattle.std.proofs.lemmas.Map.Keys.{IsDistinct-from_sorted}
use Rattle.ty_persist.specs.Contents.{put_entry, IsAscending}
use Rattle.ty_persist.specs.Seen.{seen_entries}

-- the order of the keys reads what f gives of them, and no more
abbrev pub Reads : {K A : Type 0} → (K → A) → (K → K → Ordering) → (A → A → Ordering) → Type 0
Reads {K} f cmp R = (a b : K) → cmp a b ≡ R (f a) (f b)

-- a test that has failed fails again
again : {X : Type 0} (b : Bool) (x y z : X) → cond b x z ≡ cond b x (cond b y z)
again true x y z = refl
again false x y z = refl

-- two tests that don't both hold may be made in either order
apart : {X : Type 0} (a b : Bool) (x y z : X) → (a ≡ true → b ≡ false) → cond a x (cond b y z) ≡ cond b y (cond a x z)
apart true b x y z h = ap (λ t. cond t y x) (sym (h refl))
apart false b x y z h = refl

module _ {A : Type 0} {R : A → A → Ordering} (o : IsTotalOrder R) where
  -- q ties with one of two keys in order, so not with the other
  not_both : (q k e : A) → R k e ≡ Greater → is_eq (R q e) ≡ true → is_eq (R q k) ≡ false
  not_both q k e h p = ap is_eq (o.congr q e k ((Equal-is (R q e)).0 p) ∙ o.antisymm e k ∙ ap ordering_reverse h)

  -- a key that ties with k ties with the same keys as k
  one_key : (k x y : A) → is_at (R k) x ≡ true → is_at (R k) y ≡ eq_by_cmp R x y
  one_key k x y h = ap is_eq (o.congr k x y ((Equal-is (R k x)).0 h))

  module _ {B : Type 0} where
    -- a put, by how k stands to the first entry
    find_put_cases : (q k : A) (v : B) (e : A × B) (es : List (A × B)) (t : Ordering) → R k e.0 ≡ t
        → find R q (put_entry R es k v) ≡ cond (eq_by_cmp R q k) (Some v) (find R q es)
        → find R q (match_ordering t ((k, v) ∷ e ∷ es) ((k, v) ∷ es) (e ∷ put_entry R es k v)) ≡ cond (eq_by_cmp R q k) (Some v) (find R q (e ∷ es))
    find_put_cases q k v e es Less h u = refl
    find_put_cases q k v e es Equal h u =
        again (eq_by_cmp R q k) (Some v) (Some e.1) (find R q es)
        ∙ ap (λ r. cond (eq_by_cmp R q k) (Some v) (cond (is_eq r) (Some e.1) (find R q es))) (alike_right o k e.0 q h)
    find_put_cases q k v e es Greater h u =
        ap (cond (eq_by_cmp R q e.0) (Some e.1)) u
        ∙ apart (eq_by_cmp R q e.0) (eq_by_cmp R q k) (Some e.1) (Some v) (find R q es) (not_both q k e.0 h)

    -- a look-up after a put
    pub find-put_entry : (q k : A) (v : B) (es : List (A × B)) → find R q (put_entry R es k v) ≡ cond (eq_by_cmp R q k) (Some v) (find R q es)
    find-put_entry q k v [] = refl
    find-put_entry q k v (e ∷ es) = find_put_cases q k v e es (R k e.0) refl (find-put_entry q k v es)

    -- `find` is a look-up by the order
    find_lookup : (q : A) (es : List (A × B)) → find R q es ≡ lookup (is_at (R q)) es
    find_lookup q [] = refl
    find_lookup q (e ∷ es) = ap (cond (eq_by_cmp R q e.0) (Some e.1)) (find_lookup q es)

    -- a look-up after a removal
    find-remove_entry : (q k : A) (es : List (A × B)) → IsAscending R es → find R q (remove_entry (is_at (R k)) es) ≡ cond (eq_by_cmp R q k) None (find R q es)
    find-remove_entry q k es s =
        find_lookup q (remove_entry (is_at (R k)) es)
        ∙ lookup-remove_entry (eq_by_cmp_equiv o) (is_at (R k)) (one_key k) q es (IsDistinct-from_sorted R (keys_of es) s)
        ∙ ap (λ b. cond b None (lookup (is_at (R q)) es)) ((eq_by_cmp_equiv o).symm k q)
        ∙ ap (cond (eq_by_cmp R q k) None) (sym (find_lookup q es))

    -- a put is `insert` of the finite map
    pub from_entries-put_entry : IsAntisymmetric R → (es : List (A × B)) (k : A) (v : B) → from_entries {R = R} (put_entry R es k v) ≡ finmap.insert (from_entries es) k v
    from_entries-put_entry exact es k v = same_map o exact _ _ (λ q.
        get-from_entries o (put_entry R es k v) q ∙ find-put_entry q k v es
        ∙ ap (cond (eq_by_cmp R q k) (Some v)) (sym (get-from_entries o es q)) ∙ sym (get-insert o (from_entries es) k v q))

    -- a removal is `remove` of the finite map
    pub from_entries-remove_entry : IsAntisymmetric R → (es : List (A × B)) (k : A) → IsAscending R es → from_entries {R = R} (remove_entry (is_at (R k)) es) ≡ finmap.remove (from_entries es) k
    from_entries-remove_entry exact es k s = same_map o exact _ _ (λ q.
        get-from_entries o (remove_entry (is_at (R k)) es) q ∙ find-remove_entry q k es s
        ∙ ap (cond (eq_by_cmp R q k) None) (sym (get-from_entries o es q)) ∙ sym (get-remove o (from_entries es) k q))

-- ---- through f and h
module _ {K V A B : Type 0} (f : K → A) (h : V → B) where
  -- a look-up by what is seen of the keys
  pub lookup_by_seen : (test : A → Bool) (es : List (K × V)) → lookup test (seen_entries f h es) ≡ option_map h (lookup (λ k. test (f k)) es)
  lookup_by_seen test [] = refl
  lookup_by_seen test (e ∷ es) =
      elim (test (f e.0)) as (λ b. cond b (Some (h e.1)) (lookup test (seen_entries f h es)) ≡ option_map h (cond b (Some e.1) (lookup (λ k. test (f k)) es))) [
        | true ↦ refl
        | false ↦ lookup_by_seen test es
      ]

  -- `get` of the finite map that the entries make, at anything that can be seen of a key
  pub get_by_seen_map : {R : A → A → Ordering} → IsTotalOrder R → (es : List (K × V)) (q : A) → finmap.get (from_entries {R = R} (seen_entries f h es)) q ≡ option_map h (lookup (λ k. is_eq (R q (f k))) es)
  get_by_seen_map {R} o es q = get-from_entries o (seen_entries f h es) q ∙ find_lookup o q (seen_entries f h es) ∙ lookup_by_seen (is_at (R q)) es

module _ {K V A B : Type 0} (f : K → A) (h : V → B) (cmp : K → K → Ordering) (R : A → A → Ordering) (reads : Reads f cmp R) where
  -- a look-up of a key by what is seen of it
  lookup_seen : (k : K) (es : List (K × V)) → lookup (is_at (R (f k))) (seen_entries f h es) ≡ option_map h (lookup (is_at (cmp k)) es)
  lookup_seen k [] = refl
  lookup_seen k (e ∷ es) =
      ap (λ t. cond (is_eq t) (Some (h e.1)) (lookup (is_at (R (f k))) (seen_entries f h es))) (sym (reads k e.0))
      ∙ elim (is_at (cmp k) e.0) as (λ b. cond b (Some (h e.1)) (lookup (is_at (R (f k))) (seen_entries f h es)) ≡ option_map h (cond b (Some e.1) (lookup (is_at (cmp k)) es))) [
        | true ↦ refl
        | false ↦ lookup_seen k es
      ]

  -- a put seen, by how k stands to the first entry
  put_seen_cases : (k : K) (v : V) (e : K × V) (es : List (K × V)) (t : Ordering)
      → seen_entries f h (put_entry cmp es k v) ≡ put_entry R (seen_entries f h es) (f k) (h v)
      → seen_entries f h (match_ordering t ((k, v) ∷ e ∷ es) ((k, v) ∷ es) (e ∷ put_entry cmp es k v))
      ≡ match_ordering t ((f k, h v) ∷ (f e.0, h e.1) ∷ seen_entries f h es) ((f k, h v) ∷ seen_entries f h es) ((f e.0, h e.1) ∷ put_entry R (seen_entries f h es) (f k) (h v))
  put_seen_cases k v e es Less u = refl
  put_seen_cases k v e es Equal u = refl
  put_seen_cases k v e es Greater u = ap (λ t. (f e.0, h e.1) ∷ t) u

  -- a put seen is a put of what is seen
  pub put_seen : (k : K) (v : V) (es : List (K × V)) → seen_entries f h (put_entry cmp es k v) ≡ put_entry R (seen_entries f h es) (f k) (h v)
  put_seen k v [] = refl
  put_seen k v (e ∷ es) =
      put_seen_cases k v e es (cmp k e.0) (put_seen k v es)
      ∙ ap (λ t. match_ordering t ((f k, h v) ∷ (f e.0, h e.1) ∷ seen_entries f h es) ((f k, h v) ∷ seen_entries f h es) ((f e.0, h e.1) ∷ put_entry R (seen_entries f h es) (f k) (h v))) (reads k e.0)

  -- a removal seen is a removal by what is seen
  pub remove_seen : (k : K) (es : List (K × V)) → seen_entries f h (remove_entry (is_at (cmp k)) es) ≡ remove_entry (is_at (R (f k))) (seen_entries f h es)
  remove_seen k [] = refl
  remove_seen k (e ∷ es) =
      elim (is_at (cmp k) e.0) as (λ b. seen_entries f h (cond b es (e ∷ remove_entry (is_at (cmp k)) es)) ≡ cond b (seen_entries f h es) ((f e.0, h e.1) ∷ remove_entry (is_at (R (f k))) (seen_entries f h es))) [
        | true ↦ refl
        | false ↦ ap (λ t. (f e.0, h e.1) ∷ t) (remove_seen k es)
      ]
      ∙ ap (λ t. cond (is_eq t) (seen_entries f h es) ((f e.0, h e.1) ∷ remove_entry (is_at (R (f k))) (seen_entries f h es))) (reads k e.0)

  -- keys above k are seen above what is seen of k
  above_seen : (k : K) (es : List (K × V)) → AllByRecursion (λ y. cmp k y ≡ Less) (keys_of es) → AllByRecursion (λ y. R (f k) y ≡ Less) (keys_of (seen_entries f h es))
  above_seen k [] a = tt
  above_seen k (e ∷ es) a = (sym (reads k e.0) ∙ a.0, above_seen k es a.1)

  -- keys that ascend are seen to ascend
  pub ascending_seen : (es : List (K × V)) → IsAscending cmp es → IsAscending R (seen_entries f h es)
  unfolding IsStrictlySortedBy
  ascending_seen [] s = tt
  ascending_seen (e ∷ es) s = (above_seen e.0 es s.0, ascending_seen es s.1)

  module _ (o : IsTotalOrder R) (exact : IsAntisymmetric R) where
    -- `get` of the finite map that the entries make
    pub get_map : (es : List (K × V)) (k : K) → finmap.get (from_entries {R = R} (seen_entries f h es)) (f k) ≡ option_map h (lookup (is_at (cmp k)) es)
    get_map es k = get-from_entries o (seen_entries f h es) (f k) ∙ find_lookup o (f k) (seen_entries f h es) ∙ lookup_seen k es

    -- its `insert`
    pub insert_map : (es : List (K × V)) (k : K) (v : V) → from_entries {R = R} (seen_entries f h (put_entry cmp es k v)) ≡ finmap.insert (from_entries (seen_entries f h es)) (f k) (h v)
    insert_map es k v = ap from_entries (put_seen k v es) ∙ from_entries-put_entry o exact (seen_entries f h es) (f k) (h v)

    -- its `remove`
    pub remove_map : (es : List (K × V)) (k : K) → IsAscending cmp es → from_entries {R = R} (seen_entries f h (remove_entry (is_at (cmp k)) es)) ≡ finmap.remove (from_entries (seen_entries f h es)) (f k)
    remove_map es k s = ap from_entries (remove_seen k es) ∙ from_entries-remove_entry o exact (seen_entries f h es) (f k) (ascending_seen es s)
