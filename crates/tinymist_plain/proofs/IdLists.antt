-- The list of what stands at ids: finding, putting and taking away.
use Rattle.std.proofs.Common.{◌≡◌, ℕ, ◌+◌, ◌<◌, ◌≤◌, Bool, true, false, cond, not, ◌&&◌, List, [], ◌∷◌, ◌++◌, refl, sym, ap, ◌∙◌, length, take, drop, get_or, add-one, drop-cons, append_assoc, arith, Option, Some, None, Ok, Err}
use Rattle.std.proofs.Math.Seq.{take-suc}
use Rattle.std.proofs.lemmas.List.{map-append, take-append-drop, take-set, drop-set, drop_all}
use Rattle.std.specs.List.{insert, filter}
use Rattle.std.specs.Prelude.{slice_set}
use Rattle.std.specs.FinMap as finmap
use Rattle.std.specs.FinMap.{put}
use Rattle.std.specs.FinMap.Entries.{by_order, where_key, is_sorted-where_key, find-where_key}
use Rattle.std.specs.Cmp.{eq_by_cmp_equiv}
use Rattle.std.specs.Ordering.{eq_by_cmp}
use Rattle.std.specs.declared.cmp.Ordering.TheVariants.{Less, Equal, Greater}
use Rattle.ty_model.specs.Values.{Id, id_cmp, Answer, same_answer}
use Rattle.ty_model.specs.Version.{same_id}
use Rattle.ty_model.specs.Batch.{same_entries}
use Rattle.ty_model.proofs.Tests.{id_total, id_exact}
use Rattle.tinymist_plain.specs.Lists.{id_pair, id_pairs, without_id, IsIdPlace}
use Rattle.tinymist_plain.specs.declared.ids.IdEntry.{IdEntry}

-- the id is put among the entries from i on
abbrev pub Passed : Id → List IdEntry → ℕ → Type 0
Passed id es i = (answer : Answer) → put id_cmp id answer (id_pairs es) ≡ id_pairs (take i es) ++ put id_cmp id answer (id_pairs (drop i es))

module _ (es : List IdEntry) (i : ℕ) (e : IdEntry) (id : Id) (within : i < length es) (is : e ≡ get_or es i e) where
  from_here : drop i es ≡ e ∷ drop (i + 1) es
  from_here = rw (add-one, drop-cons es i e, ← is) refl

  pub decides : same_id id e.id ≡ true → finmap.find id_cmp id (id_pairs (drop i es)) ≡ Some e.answer
  decides h = rw (from_here, h) refl

  pub passes : same_id id e.id ≡ false → finmap.find id_cmp id (id_pairs (drop i es)) ≡ finmap.find id_cmp id (id_pairs (drop (i + 1) es))
  passes h = rw (from_here, h) refl

  -- ---- the place of an id

  put_here : (answer : Answer) → put id_cmp id answer (id_pairs (drop i es)) ≡ by_order (id_cmp id e.id) ((id, answer) ∷ id_pairs (drop i es)) ((e.id, answer) ∷ id_pairs (drop (i + 1) es)) (id_pair e ∷ put id_cmp id answer (id_pairs (drop (i + 1) es)))
  put_here answer = rw from_here refl

  longer : id_pairs (take (i + 1) es) ≡ id_pairs (take i es) ++ id_pair e ∷ []
  longer = rw (add-one, take-suc es i e within, ← is) (map-append id_pair (take i es) (e ∷ []))

  module _ (passed : Passed id es i) where
    pub goes_on : id_cmp id e.id ≡ Greater → Passed id es (i + 1)
    goes_on o answer =
        let rest = put id_cmp id answer (id_pairs (drop (i + 1) es)) in
        passed answer
        ∙ ap (λ ps. id_pairs (take i es) ++ ps) (put_here answer ∙ ap (λ r. by_order r ((id, answer) ∷ id_pairs (drop i es)) ((e.id, answer) ∷ id_pairs (drop (i + 1) es)) (id_pair e ∷ rest)) o)
        ∙ sym (append_assoc (id_pairs (take i es)) (id_pair e ∷ []) rest)
        ∙ ap (λ ps. ps ++ rest) (sym longer)

    pub stands : id_cmp id e.id ≡ Equal → IsIdPlace id es (Ok i)
    stands o = (
      within,
      λ answer.
          passed answer
          ∙ ap (λ ps. id_pairs (take i es) ++ ps) (put_here answer ∙ ap (λ r. by_order r ((id, answer) ∷ id_pairs (drop i es)) ((e.id, answer) ∷ id_pairs (drop (i + 1) es)) (id_pair e ∷ put id_cmp id answer (id_pairs (drop (i + 1) es)))) o)
          ∙ ap (λ p. id_pairs (take i es) ++ (p, answer) ∷ id_pairs (drop (i + 1) es)) (sym (id_exact id e.id o)),
    )

    pub fits : id_cmp id e.id ≡ Less → IsIdPlace id es (Err i)
    fits o = (
      omega (arith, within),
      λ answer.
          passed answer
          ∙ ap (λ ps. id_pairs (take i es) ++ ps) (put_here answer ∙ ap (λ r. by_order r ((id, answer) ∷ id_pairs (drop i es)) ((e.id, answer) ∷ id_pairs (drop (i + 1) es)) (id_pair e ∷ put id_cmp id answer (id_pairs (drop (i + 1) es)))) o),
    )

-- ---- from the start, and past the end

pub starts : (es : List IdEntry) (id : Id) → Passed id es 0
starts es id answer = refl

pub ends : (es : List IdEntry) (id : Id) (i : ℕ) → i ≤ length es → length es ≤ i → Passed id es i → IsIdPlace id es (Err i)
ends es id i within past passed = (
  within,
  λ answer.
      passed answer ∙ ap (λ (rest : List IdEntry). id_pairs (take i es) ++ put id_cmp id answer (id_pairs rest)) (drop_all i es past)
      ∙ sym (ap (λ (rest : List IdEntry). id_pairs (take i es) ++ (id, answer) ∷ id_pairs rest) (drop_all i es past)),
)

-- ---- a put

module _ (es : List IdEntry) (i : ℕ) (x : IdEntry) (id : Id) (answer : Answer) (x_is : id_pair x ≡ (id, answer)) where
  pub set_puts : IsIdPlace id es (Ok i) → id_pairs (slice_set es i x) ≡ put id_cmp id answer (id_pairs es)
  set_puts h =
      let cut : slice_set es i x ≡ take i es ++ x ∷ drop (i + 1) es = sym (take-append-drop i (slice_set es i x)) ∙ (λ j. take-set es i x j ++ drop-set es i x h.0 j) in
      ap id_pairs cut ∙ map-append id_pair (take i es) (x ∷ drop (i + 1) es) ∙ ap (λ p. id_pairs (take i es) ++ p ∷ id_pairs (drop (i + 1) es)) x_is ∙ sym (h.1 answer)

  pub insert_puts : IsIdPlace id es (Err i) → id_pairs (insert es i x) ≡ put id_cmp id answer (id_pairs es)
  insert_puts h = map-append id_pair (take i es) (x ∷ drop i es) ∙ ap (λ p. id_pairs (take i es) ++ p ∷ id_pairs (drop i es)) x_is ∙ sym (h.1 answer)

-- ---- a removal

pub removes : (id : Id) (es : List IdEntry) → id_pairs (filter (λ e. not (same_id id e.id)) es) ≡ without_id id (id_pairs es)
removes id [] = refl
removes id (e ∷ es) = elim (same_id id e.id) as (λ b. id_pairs (cond (not b) (e ∷ filter (λ x. not (same_id id x.id)) es) (filter (λ x. not (same_id id x.id)) es)) ≡ cond (not b) (id_pair e ∷ without_id id (id_pairs es)) (without_id id (id_pairs es))) [
  | true ↦ removes id es
  | false ↦ ap (λ ps. id_pair e ∷ ps) (removes id es)
]

-- ---- the lists of maps that were changed

by_key : (id : Id) (es : List (Id × Answer)) → where_key id_cmp (λ q. not (eq_by_cmp id_cmp id q)) es ≡ without_id id es
by_key id [] = refl
by_key id (e ∷ es) = rw (by_key id es) refl

pub entries-remove : (m : finmap.FinMap id_cmp Answer) (id : Id) → finmap.entries (finmap.remove m id) ≡ without_id id (finmap.entries m)
entries-remove m id =
    let kept = where_key id_cmp (λ q. not (eq_by_cmp id_cmp id q)) (finmap.entries m) in
    let sorted = is_sorted-where_key id_cmp (λ q. not (eq_by_cmp id_cmp id q)) (finmap.entries m) (finmap.entries_sorted m) in
    ap finmap.entries (finmap.same_map id_total id_exact (finmap.remove m id) (finmap.from_sorted kept) (λ q.
    finmap.get-remove id_total m id q
    ∙ turned (eq_by_cmp id_cmp q id) (eq_by_cmp id_cmp id q) _ ((eq_by_cmp_equiv id_total).symm q id)
    ∙ ap (λ o. cond (not (eq_by_cmp id_cmp id q)) o None) (finmap.get-entries m q)
    ∙ sym (finmap.get-from_sorted id_cmp kept q sorted ∙ find-where_key id_cmp (λ x. not (eq_by_cmp id_cmp id x)) q (λ x t. ap (λ y. not (eq_by_cmp id_cmp id y)) (sym (id_exact q x t))) (finmap.entries m))))
    ∙ finmap.entries-from_sorted id_cmp kept sorted
    ∙ by_key id (finmap.entries m)
  where
    turned : {B : Type 0} (a b : Bool) (o : Option B) → a ≡ b → cond a None o ≡ cond (not b) o None
    turned true true o e = refl
    turned false false o e = refl
    turned true false o e = absurd (cc)
    turned false true o e = absurd (cc)

pub entries-put : (m : finmap.FinMap id_cmp Answer) (id : Id) (answer : Answer) → finmap.entries (finmap.insert m id answer) ≡ put id_cmp id answer (finmap.entries m)
entries-put m id answer = finmap.entries-insert id_total m id answer

-- ---- two lists that are compared

module _ (es fs : List IdEntry) (i : ℕ) (within : i < length es) (within' : i < length fs) (e f : IdEntry) (e_is : e ≡ get_or es i e) (f_is : f ≡ get_or fs i f) where
  compared : same_entries same_id same_answer (id_pairs (drop i es)) (id_pairs (drop i fs)) ≡ (same_id e.id f.id && same_answer e.answer f.answer && same_entries same_id same_answer (id_pairs (drop (i + 1) es)) (id_pairs (drop (i + 1) fs)))
  compared = (λ j. same_entries same_id same_answer (id_pairs (from_here es i e e.id within e_is j)) (id_pairs (from_here fs i f f.id within' f_is j)))

  pub agree : (b : Bool) → b ≡ same_id e.id f.id && same_answer e.answer f.answer → b ≡ true → same_entries same_id same_answer (id_pairs (drop i es)) (id_pairs (drop i fs)) ≡ same_entries same_id same_answer (id_pairs (drop (i + 1) es)) (id_pairs (drop (i + 1) fs))
  agree b is h = compared ∙ both (same_id e.id f.id) (same_answer e.answer f.answer) _ (sym is ∙ h)
    where
      both : (x y z : Bool) → (x && y) ≡ true → (x && y && z) ≡ z
      both true true z h = refl
      both true false z h = absurd (cc)
      both false y z h = absurd (cc)

  pub differ : (b : Bool) → b ≡ same_id e.id f.id && same_answer e.answer f.answer → b ≡ false → same_entries same_id same_answer (id_pairs (drop i es)) (id_pairs (drop i fs)) ≡ false
  differ b is h = compared ∙ none (same_id e.id f.id) (same_answer e.answer f.answer) _ (sym is ∙ h)
    where
      none : (x y z : Bool) → (x && y) ≡ false → (x && y && z) ≡ false
      none true true z h = absurd (cc)
      none true false z h = refl
      none false y z h = refl

pub other_length : (es fs : List IdEntry) → ¬ (length es ≡ length fs) → same_entries same_id same_answer (id_pairs es) (id_pairs fs) ≡ false
other_length [] [] h = absurd (h refl)
other_length [] (f ∷ fs) h = refl
other_length (e ∷ es) [] h = refl
other_length (e ∷ es) (f ∷ fs) h = never (same_id e.id f.id) (same_answer e.answer f.answer) _ (other_length es fs (λ is. h (omega (arith, is))))
  where
    never : (x y z : Bool) → z ≡ false → (x && y && z) ≡ false
    never true true z h = h
    never true false z h = refl
    never false y z h = refl

pub both_end : (es fs : List IdEntry) (i : ℕ) → length es ≤ i → length es ≡ length fs → same_entries same_id same_answer (id_pairs (drop i es)) (id_pairs (drop i fs)) ≡ true
both_end es fs i past is = (λ j. same_entries same_id same_answer (id_pairs (drop_all i es past j)) (id_pairs (drop_all i fs (omega (arith, past, is)) j)))
