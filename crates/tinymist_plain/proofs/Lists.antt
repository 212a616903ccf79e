-- Lists of what stands at paths: finding, putting and taking away.
use Rattle.std.proofs.Common.{◌≡◌, ℕ, ◌+◌, ◌<◌, ◌≤◌, Bool, true, false, cond, not, ◌&&◌, List, [], ◌∷◌, ◌++◌, refl, sym, ap, ◌∙◌, length, take, drop, get_or, add-one, drop-cons, append_assoc, arith, Option, Some, None, Ok, Err}
use Rattle.std.proofs.Math.Seq.{take-suc}
use Rattle.std.proofs.lemmas.List.{map-append, take-append-drop, take-set, drop-set, drop_all}
use Rattle.std.proofs.lemmas.Map.Text.{is_eq-slice_cmp}
use Rattle.std.specs.List.{insert, filter}
use Rattle.std.specs.Prelude.{slice_set}
use Rattle.std.specs.FinMap as finmap
use Rattle.std.specs.FinMap.{put}
use Rattle.std.specs.FinMap.Entries.{by_order, where_key, is_sorted-where_key, find-where_key}
use Rattle.std.specs.Cmp.{eq_by_cmp_equiv}
use Rattle.std.specs.Ordering.{eq_by_cmp}
use Rattle.std.specs.declared.cmp.Ordering.{Ordering}
use Rattle.std.specs.declared.cmp.Ordering.TheVariants.{Less, Equal, Greater}
use Rattle.std.specs.Str.{bytes_eq}
use Rattle.std.specs.String.{string_bytes}
use Rattle.ty_model.specs.Values.{text_cmp, Answer}
use Rattle.ty_model.specs.Batch.{same_entries, dropped, removed, inserted}
use Rattle.ty_model.specs.Version.{Stamp}
use Rattle.ty_model.proofs.Tests.{text_total, text_exact}
use Rattle.tinymist_plain.specs.Lists.{pair_of, pairs, without, put_all, without_all, IsPlace}
use Rattle.tinymist_plain.specs.Kept.{stamped}
use Rattle.tinymist_plain.specs.declared.entries.Entry.{Entry}

-- the path is put among the entries from i on
abbrev pub Passed : {A : Type 0} → List ℕ → List (Entry A) → ℕ → Type 0
Passed {A} path es i = (value : A) → put text_cmp path value (pairs es) ≡ pairs (take i es) ++ put text_cmp path value (pairs (drop i es))

module _ {A : Type 0} (es : List (Entry A)) (i : ℕ) (e : Entry A) (path : List ℕ) (within : i < length es) (is : e ≡ get_or es i e) where
  from_here : drop i es ≡ e ∷ drop (i + 1) es
  from_here = rw (add-one, drop-cons es i e, ← is) refl

  pub decides : bytes_eq path (string_bytes e.path) ≡ true → finmap.find text_cmp path (pairs (drop i es)) ≡ Some e.value
  decides h = rw (from_here, is_eq-slice_cmp path (string_bytes e.path), h) refl

  pub passes : bytes_eq path (string_bytes e.path) ≡ false → finmap.find text_cmp path (pairs (drop i es)) ≡ finmap.find text_cmp path (pairs (drop (i + 1) es))
  passes h = rw (from_here, is_eq-slice_cmp path (string_bytes e.path), h) refl

  -- ---- the place of a path

  put_here : (value : A) → put text_cmp path value (pairs (drop i es)) ≡ by_order (text_cmp path (string_bytes e.path)) ((path, value) ∷ pairs (drop i es)) ((string_bytes e.path, value) ∷ pairs (drop (i + 1) es)) (pair_of e ∷ put text_cmp path value (pairs (drop (i + 1) es)))
  put_here value = rw from_here refl

  longer : pairs (take (i + 1) es) ≡ pairs (take i es) ++ pair_of e ∷ []
  longer = rw (add-one, take-suc es i e within, ← is) (map-append pair_of (take i es) (e ∷ []))

  module _ (passed : Passed path es i) where
    pub goes_on : text_cmp path (string_bytes e.path) ≡ Greater → Passed path es (i + 1)
    goes_on o value =
        let rest = put text_cmp path value (pairs (drop (i + 1) es)) in
        passed value
        ∙ ap (λ ps. pairs (take i es) ++ ps) (put_here value ∙ ap (λ r. by_order r ((path, value) ∷ pairs (drop i es)) ((string_bytes e.path, value) ∷ pairs (drop (i + 1) es)) (pair_of e ∷ rest)) o)
        ∙ sym (append_assoc (pairs (take i es)) (pair_of e ∷ []) rest)
        ∙ ap (λ ps. ps ++ rest) (sym longer)

    pub stands : text_cmp path (string_bytes e.path) ≡ Equal → IsPlace path es (Ok i)
    stands o = (
      within,
      λ value.
          passed value
          ∙ ap (λ ps. pairs (take i es) ++ ps) (put_here value ∙ ap (λ r. by_order r ((path, value) ∷ pairs (drop i es)) ((string_bytes e.path, value) ∷ pairs (drop (i + 1) es)) (pair_of e ∷ put text_cmp path value (pairs (drop (i + 1) es)))) o)
          ∙ ap (λ p. pairs (take i es) ++ (p, value) ∷ pairs (drop (i + 1) es)) (sym (text_exact path (string_bytes e.path) o)),
    )

    pub fits : text_cmp path (string_bytes e.path) ≡ Less → IsPlace path es (Err i)
    fits o = (
      omega (arith, within),
      λ value.
          passed value
          ∙ ap (λ ps. pairs (take i es) ++ ps) (put_here value ∙ ap (λ r. by_order r ((path, value) ∷ pairs (drop i es)) ((string_bytes e.path, value) ∷ pairs (drop (i + 1) es)) (pair_of e ∷ put text_cmp path value (pairs (drop (i + 1) es)))) o),
    )

-- ---- from the start, and past the end

pub starts : {A : Type 0} (es : List (Entry A)) (path : List ℕ) → Passed path es 0
starts es path value = refl

pub ends : {A : Type 0} (es : List (Entry A)) (path : List ℕ) (i : ℕ) → i ≤ length es → length es ≤ i → Passed path es i → IsPlace path es (Err i)
ends es path i within past passed = (
  within,
  λ value.
      passed value ∙ ap (λ (rest : List (Entry _)). pairs (take i es) ++ put text_cmp path value (pairs rest)) (drop_all i es past)
      ∙ sym (ap (λ (rest : List (Entry _)). pairs (take i es) ++ (path, value) ∷ pairs rest) (drop_all i es past)),
)

-- ---- a put

module _ {A : Type 0} (es : List (Entry A)) (i : ℕ) (x : Entry A) (path : List ℕ) (value : A) (x_is : pair_of x ≡ (path, value)) where
  pub set_puts : IsPlace path es (Ok i) → pairs (slice_set es i x) ≡ put text_cmp path value (pairs es)
  set_puts h =
      let cut : slice_set es i x ≡ take i es ++ x ∷ drop (i + 1) es = sym (take-append-drop i (slice_set es i x)) ∙ (λ j. take-set es i x j ++ drop-set es i x h.0 j) in
      ap pairs cut ∙ map-append pair_of (take i es) (x ∷ drop (i + 1) es) ∙ ap (λ p. pairs (take i es) ++ p ∷ pairs (drop (i + 1) es)) x_is ∙ sym (h.1 value)

  pub insert_puts : IsPlace path es (Err i) → pairs (insert es i x) ≡ put text_cmp path value (pairs es)
  insert_puts h = map-append pair_of (take i es) (x ∷ drop i es) ∙ ap (λ p. pairs (take i es) ++ p ∷ pairs (drop i es)) x_is ∙ sym (h.1 value)

-- ---- a removal

pub removes : {A : Type 0} (path : List ℕ) (es : List (Entry A)) → pairs (filter (λ e. not (bytes_eq path (string_bytes e.path))) es) ≡ without path (pairs es)
removes path [] = refl
removes path (e ∷ es) = elim (bytes_eq path (string_bytes e.path)) as (λ b. pairs (cond (not b) (e ∷ filter (λ x. not (bytes_eq path (string_bytes x.path))) es) (filter (λ x. not (bytes_eq path (string_bytes x.path))) es)) ≡ cond (not b) (pair_of e ∷ without path (pairs es)) (without path (pairs es))) [
  | true ↦ removes path es
  | false ↦ ap (λ ps. pair_of e ∷ ps) (removes path es)
]

-- ---- the lists of maps that were changed

by_key : {A : Type 0} (path : List ℕ) (es : List (List ℕ × A)) → where_key text_cmp (λ q. not (eq_by_cmp text_cmp path q)) es ≡ without path es
by_key path [] = refl
by_key path (e ∷ es) = rw (is_eq-slice_cmp path e.0, by_key path es) refl

pub entries-remove : {A : Type 0} (m : finmap.FinMap text_cmp A) (path : List ℕ) → finmap.entries (finmap.remove m path) ≡ without path (finmap.entries m)
entries-remove m path =
    let kept = where_key text_cmp (λ q. not (eq_by_cmp text_cmp path q)) (finmap.entries m) in
    let sorted = is_sorted-where_key text_cmp (λ q. not (eq_by_cmp text_cmp path q)) (finmap.entries m) (finmap.entries_sorted m) in
    ap finmap.entries (finmap.same_map text_total text_exact (finmap.remove m path) (finmap.from_sorted kept) (λ q.
    finmap.get-remove text_total m path q
    ∙ turned (eq_by_cmp text_cmp q path) (eq_by_cmp text_cmp path q) _ ((eq_by_cmp_equiv text_total).symm q path)
    ∙ ap (λ o. cond (not (eq_by_cmp text_cmp path q)) o None) (finmap.get-entries m q)
    ∙ sym (finmap.get-from_sorted text_cmp kept q sorted ∙ find-where_key text_cmp (λ x. not (eq_by_cmp text_cmp path x)) q (λ x t. ap (λ y. not (eq_by_cmp text_cmp path y)) (sym (text_exact q x t))) (finmap.entries m))))
    ∙ finmap.entries-from_sorted text_cmp kept sorted
    ∙ by_key path (finmap.entries m)
  where
    turned : {B : Type 0} (a b : Bool) (o : Option B) → a ≡ b → cond a None o ≡ cond (not b) o None
    turned true true o e = refl
    turned false false o e = refl
    turned true false o e = absurd (cc)
    turned false true o e = absurd (cc)

pub entries-put : {A : Type 0} (m : finmap.FinMap text_cmp A) (path : List ℕ) (value : A) → finmap.entries (finmap.insert m path value) ≡ put text_cmp path value (finmap.entries m)
entries-put m path value = finmap.entries-insert text_total m path value

pub entries-inserted : (files : List (List ℕ × Answer)) (m : finmap.FinMap text_cmp Answer) → finmap.entries (inserted m files) ≡ put_all (finmap.entries m) files
entries-inserted [] m = refl
entries-inserted (f ∷ fs) m = entries-inserted fs (finmap.insert m f.0 f.1) ∙ ap (λ es. put_all es fs) (entries-put m f.0 f.1)

pub entries-removed : (paths : List (List ℕ)) (m : finmap.FinMap text_cmp Answer) → finmap.entries (removed m paths) ≡ without_all (finmap.entries m) paths
entries-removed [] m = refl
entries-removed (path ∷ paths) m = entries-removed paths (finmap.remove m path) ∙ ap (λ es. without_all es paths) (entries-remove m path)

pub entries-dropped : (stamp : Stamp) (paths : List (List ℕ)) (m : finmap.FinMap text_cmp Stamp) → finmap.entries (dropped stamp m paths) ≡ put_all (finmap.entries m) (stamped stamp paths)
entries-dropped stamp [] m = refl
entries-dropped stamp (path ∷ paths) m = entries-dropped stamp paths (finmap.insert m path stamp) ∙ ap (λ es. put_all es (stamped stamp paths)) (entries-put m path stamp)

none : {B : Type 0} (xs : List B) → 0 ≡ length xs → xs ≡ []
none [] e = refl
none (x ∷ xs) e = absurd (omega (arith, e))

pub entries-empty : {K X : Type 0} (R : K → K → Ordering) → finmap.entries (finmap.empty {X = X} {R = R}) ≡ []
entries-empty {X = X} R = none _ (sym (finmap.len-empty R X) ∙ finmap.len-entries (finmap.empty {X = X} {R = R}))

-- ---- two lists that are compared

module _ {A : Type 0} (same : A → A → Bool) (es fs : List (Entry A)) (i : ℕ) (within : i < length es) (within' : i < length fs) (e f : Entry A) (e_is : e ≡ get_or es i e) (f_is : f ≡ get_or fs i f) where
  compared : same_entries bytes_eq same (pairs (drop i es)) (pairs (drop i fs)) ≡ (bytes_eq (string_bytes e.path) (string_bytes f.path) && same e.value f.value && same_entries bytes_eq same (pairs (drop (i + 1) es)) (pairs (drop (i + 1) fs)))
  compared = (λ j. same_entries bytes_eq same (pairs (from_here es i e [] within e_is j)) (pairs (from_here fs i f [] within' f_is j)))

  pub agree : (b : Bool) → b ≡ bytes_eq (string_bytes e.path) (string_bytes f.path) && same e.value f.value → b ≡ true → same_entries bytes_eq same (pairs (drop i es)) (pairs (drop i fs)) ≡ same_entries bytes_eq same (pairs (drop (i + 1) es)) (pairs (drop (i + 1) fs))
  agree b is h = compared ∙ both (bytes_eq (string_bytes e.path) (string_bytes f.path)) (same e.value f.value) _ (sym is ∙ h)
    where
      both : (x y z : Bool) → (x && y) ≡ true → (x && y && z) ≡ z
      both true true z h = refl
      both true false z h = absurd (cc)
      both false y z h = absurd (cc)

  pub differ : (b : Bool) → b ≡ bytes_eq (string_bytes e.path) (string_bytes f.path) && same e.value f.value → b ≡ false → same_entries bytes_eq same (pairs (drop i es)) (pairs (drop i fs)) ≡ false
  differ b is h = compared ∙ none (bytes_eq (string_bytes e.path) (string_bytes f.path)) (same e.value f.value) _ (sym is ∙ h)
    where
      none : (x y z : Bool) → (x && y) ≡ false → (x && y && z) ≡ false
      none true true z h = absurd (cc)
      none true false z h = refl
      none false y z h = refl

pub other_length : {A : Type 0} (same : A → A → Bool) (es fs : List (Entry A)) → ¬ (length es ≡ length fs) → same_entries bytes_eq same (pairs es) (pairs fs) ≡ false
other_length same [] [] h = absurd (h refl)
other_length same [] (f ∷ fs) h = refl
other_length same (e ∷ es) [] h = refl
other_length same (e ∷ es) (f ∷ fs) h = never (bytes_eq (string_bytes e.path) (string_bytes f.path)) (same e.value f.value) _ (other_length same es fs (λ is. h (omega (arith, is))))
  where
    never : (x y z : Bool) → z ≡ false → (x && y && z) ≡ false
    never true true z h = h
    never true false z h = refl
    never false y z h = refl

pub both_end : {A : Type 0} (same : A → A → Bool) (es fs : List (Entry A)) (i : ℕ) → length es ≤ i → length es ≡ length fs → same_entries bytes_eq same (pairs (drop i es)) (pairs (drop i fs)) ≡ true
both_end same es fs i past is = (λ j. same_entries bytes_eq same (pairs (drop_all i es past j)) (pairs (drop_all i fs (omega (arith, past, is)) j)))
