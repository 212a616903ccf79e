-- Told files: where a batch is one change set, of its inserted files what is told alone decides which path became other.
use Rattle.std.proofs.Common.{◌≡◌, ℕ, Bool, true, false, cond, not, ◌||◌, ◌&&◌, List, [], ◌∷◌, ◌++◌, map, append-nil, refl, sym, ap, subst, ◌∙◌, Option, Some, Result}
use Rattle.std.specs.Prelude.{IfOk}
use Rattle.std.proofs.lemmas.List.Folds.{list_any-append}
use Rattle.std.specs.Cmp.{Equal-is}
use Rattle.std.specs.Ordering.{eq_by_cmp}
use Rattle.std.specs.List.{list_any}
use Rattle.std.specs.FinMap as finmap
use Rattle.ty_model.specs.Values.{Answer, text_cmp, same_answer}
use Rattle.ty_model.specs.Version.{Layers, Stamp, same_stamp}
use Rattle.ty_model.specs.Batch.{Item, ChangeSet, dropped}
use Rattle.ty_model.specs.Standing.{AtPath, at_path, Changes, same_option}
use Rattle.ty_model.specs.Touched.{same_path_at, marked_paths, touched_ids, touched_paths, IsMarked}
use Rattle.ty_model.proofs.Tests.{text_total, text_exact, same_answer-Decides, same_option-Decides, same_stamp-Decides, same_at_path-Decides}
use Rattle.tinymist_vfs.specs.Commits.{IsStaged, told_before}

-- ---- what is told alone

mid_true : (a b c : Bool) → a ≡ true → c ≡ true → (a && b && c) ≡ b
mid_true a true c p q = rw (p, q)
mid_true a false c p q = rw p

pub same_told_at : (old new : Layers) (q : List ℕ) → same_path_at (told_before old new) new q ≡ same_option same_answer (finmap.get old.told q) (finmap.get new.told q)
same_told_at old new q =
    mid_true _ (same_option same_answer (finmap.get old.told q) (finmap.get new.told q)) _
    ((same_option-Decides same_answer same_answer-Decides (finmap.get new.by_path q) (finmap.get new.by_path q)).1 refl)
    ((same_option-Decides same_stamp same_stamp-Decides (finmap.get new.drops q) (finmap.get new.drops q)).1 refl)

-- ---- what is told already

abbrev Texts : Type 0 → Type 0
Texts X = finmap.FinMap text_cmp X

tied : (q k : List ℕ) → eq_by_cmp text_cmp q k ≡ true → q ≡ k
tied q k h = text_exact q k ((Equal-is (text_cmp q k)).0 h)

-- the file that is there already leaves all as it is
pub told_already : (m : Texts Answer) (k : List ℕ) (v : Answer) → true ≡ same_option same_answer (finmap.get m k) (Some v) → m ≡ finmap.insert m k v
told_already m k v is =
    let here : finmap.get m k ≡ Some v = (same_option-Decides same_answer same_answer-Decides (finmap.get m k) (Some v)).0 (sym is) in
    finmap.same_map text_total text_exact m (finmap.insert m k v) (λ q.
    sym (
    finmap.get-insert text_total m k v q
    ∙ (elim (eq_by_cmp text_cmp q k) as (λ t. eq_by_cmp text_cmp q k ≡ t → cond t (Some v) (finmap.get m q) ≡ finmap.get m q) [
      | true ↦ λ t. sym here ∙ ap (λ (x : List ℕ). finmap.get m x) (sym (tied q k t))
      | false ↦ λ t. refl
    ] refl)
    ))

-- ---- marks of keys by a test

-- a text is one of these
abbrev among : List ℕ → List (List ℕ) → Bool
among q ks = list_any (eq_by_cmp text_cmp q) ks

module _ (same : List ℕ → Bool) (revision : ℕ) where
  abbrev marked : Texts ℕ → List (List ℕ) → Texts ℕ
  marked m [] = m
  marked m (k ∷ ks) = marked (cond (same k) m (finmap.insert m k revision)) ks

  -- a key has the revision where it is one of these and is other, else it is as it was
  get-marked : (q : List ℕ) (m : Texts ℕ) (ks : List (List ℕ)) → finmap.get (marked m ks) q ≡ cond (same q) (finmap.get m q) (cond (among q ks) (Some revision) (finmap.get m q))
  get-marked q m [] = elim (same q) as (λ b. finmap.get m q ≡ cond b (finmap.get m q) (finmap.get m q)) [ true ↦ refl | false ↦ refl ]
  get-marked q m (k ∷ ks) =
      let rest = get-marked q (cond (same k) m (finmap.insert m k revision)) ks in
      rest ∙ (
      elim (same k) as (λ b. same k ≡ b → cond (same q) (finmap.get (cond b m (finmap.insert m k revision)) q) (cond (among q ks) (Some revision) (finmap.get (cond b m (finmap.insert m k revision)) q)) ≡ cond (same q) (finmap.get m q) (cond (eq_by_cmp text_cmp q k || among q ks) (Some revision) (finmap.get m q))) [
        | true ↦ λ is. elim (eq_by_cmp text_cmp q k) as (λ t. eq_by_cmp text_cmp q k ≡ t → cond (same q) (finmap.get m q) (cond (among q ks) (Some revision) (finmap.get m q)) ≡ cond (same q) (finmap.get m q) (cond (t || among q ks) (Some revision) (finmap.get m q))) [
          | true ↦ λ t. let here : same q ≡ true = ap same (tied q k t) ∙ is in rw here
          | false ↦ λ t. refl
        ] refl
        | false ↦ λ is. rw (finmap.get-insert text_total m k revision q) (
            elim (eq_by_cmp text_cmp q k) as (λ t. eq_by_cmp text_cmp q k ≡ t → cond (same q) (cond t (Some revision) (finmap.get m q)) (cond (among q ks) (Some revision) (cond t (Some revision) (finmap.get m q))) ≡ cond (same q) (finmap.get m q) (cond (t || among q ks) (Some revision) (finmap.get m q))) [
              | true ↦ λ t. let here : same q ≡ false = ap same (tied q k t) ∙ is in rw here (elim (among q ks) as (λ a. cond a (Some revision) (Some revision) ≡ Some revision) [ true ↦ refl | false ↦ refl ])
              | false ↦ λ t. refl
            ] refl)
      ] refl
      )

-- ---- two tests, of which the narrow one is enough but for some keys

module _ (whole narrow : List ℕ → Bool) (early : List (List ℕ)) (fits : (q : List ℕ) → whole q ≡ true → narrow q ≡ true) (enough : (q : List ℕ) → among q early ≡ false → narrow q ≡ true → whole q ≡ true) where
  by_cases : (w n f l : Bool) (revision : ℕ) (x : Option ℕ) → (w ≡ true → n ≡ true) → (f ≡ false → n ≡ true → w ≡ true)
      → cond n (cond w x (cond f (Some revision) x)) (cond l (Some revision) (cond w x (cond f (Some revision) x))) ≡ cond w x (cond (f || l) (Some revision) x)
  by_cases true true f l revision x p q = refl
  by_cases true false f l revision x p q = absurd (let e = p refl in cc)
  by_cases false true true l revision x p q = refl
  by_cases false true false l revision x p q = absurd (let e = q refl refl in cc)
  by_cases false false true true revision x p q = refl
  by_cases false false true false revision x p q = refl
  by_cases false false false l revision x p q = refl

  all_marked : (revision : ℕ) (m : Texts ℕ) (late : List (List ℕ)) → marked narrow revision (marked whole revision m early) late ≡ marked whole revision m (early ++ late)
  all_marked revision m late =
      finmap.same_map text_total text_exact (marked narrow revision (marked whole revision m early) late) (marked whole revision m (early ++ late)) (λ q.
      get-marked narrow revision q (marked whole revision m early) late
      ∙ ap (λ (x : Option ℕ). cond (narrow q) x (cond (among q late) (Some revision) x)) (get-marked whole revision q m early)
      ∙ by_cases (whole q) (narrow q) (among q early) (among q late) revision (finmap.get m q) (fits q) (enough q)
      ∙ ap (λ b. cond (whole q) (finmap.get m q) (cond b (Some revision) (finmap.get m q))) (sym (list_any-append (eq_by_cmp text_cmp q) early late))
      ∙ sym (get-marked whole revision q m (early ++ late)))

  or_false : (a b : Bool) → (a || b) ≡ false → (a ≡ false) × (b ≡ false)
  or_false true b h = absurd (cc)
  or_false false b h = (refl, h)

  not_false : (b : Bool) → not b ≡ false → b ≡ true
  not_false true h = refl
  not_false false h = absurd (cc)

  -- of keys of which none is other, each is the same
  each_same : (q : List ℕ) (ks : List (List ℕ)) → list_any (λ k. not (whole k)) ks ≡ false → among q ks ≡ true → whole q ≡ true
  each_same q [] none h = absurd (cc)
  each_same q (k ∷ ks) none h =
      let s = or_false (not (whole k)) (list_any (λ j. not (whole j)) ks) none in
      elim (eq_by_cmp text_cmp q k) as (λ t. eq_by_cmp text_cmp q k ≡ t → (t || among q ks) ≡ true → whole q ≡ true) [
        | true ↦ λ t r. ap whole (tied q k t) ∙ not_false (whole k) s.0
        | false ↦ λ t r. each_same q ks s.1 r
      ] refl h

  module _ (none : list_any (λ k. not (whole k)) early ≡ false) where
    narrow_is : (q : List ℕ) → narrow q ≡ whole q
    narrow_is q =
        elim (whole q) as (λ w. whole q ≡ w → narrow q ≡ w) [
          | true ↦ λ w. fits q w
          | false ↦ λ w. elim (narrow q) as (λ n. narrow q ≡ n → n ≡ false) [
            | true ↦ λ n. elim (among q early) as (λ f. among q early ≡ f → true ≡ false) [
              | true ↦ λ f. sym (each_same q early none f) ∙ w
              | false ↦ λ f. sym (enough q f n) ∙ w
            ] refl
            | false ↦ λ n. refl
          ] refl
        ] refl

    any_is : (ks : List (List ℕ)) → list_any (λ k. not (narrow k)) ks ≡ list_any (λ k. not (whole k)) ks
    any_is [] = refl
    any_is (k ∷ ks) = (λ i. not (narrow_is k i) || any_is ks i)

  any_differs : (late : List (List ℕ)) → (list_any (λ k. not (whole k)) early || list_any (λ k. not (narrow k)) late) ≡ list_any (λ k. not (whole k)) (early ++ late)
  any_differs late =
      (elim (list_any (λ k. not (whole k)) early) as (λ b. list_any (λ k. not (whole k)) early ≡ b → (b || list_any (λ k. not (narrow k)) late) ≡ (b || list_any (λ k. not (whole k)) late)) [
        | true ↦ λ b. refl
        | false ↦ λ b. any_is b late
      ] refl)
      ∙ sym (list_any-append (λ k. not (whole k)) early late)

-- ---- a change set

get-dropped_other : (stamp : Stamp) (m : Texts Stamp) (ps : List (List ℕ)) (q : List ℕ) → among q ps ≡ false → finmap.get (dropped stamp m ps) q ≡ finmap.get m q
get-dropped_other stamp m [] q h = refl
get-dropped_other stamp m (p ∷ ps) q h =
    elim (eq_by_cmp text_cmp q p) as (λ t. eq_by_cmp text_cmp q p ≡ t → (t || among q ps) ≡ false → finmap.get (dropped stamp (finmap.insert m p stamp) ps) q ≡ finmap.get m q) [
      | true ↦ λ t r. absurd (cc)
      | false ↦ λ t r. get-dropped_other stamp (finmap.insert m p stamp) ps q r ∙ finmap.get-insert text_total m p stamp q ∙ ap (λ b. cond b (Some stamp) (finmap.get m q)) t
    ] refl h

at_path_is : (a b : Option Answer) (c d : Option Answer) (e f : Option Stamp) → a ≡ b → c ≡ d → e ≡ f → ◌≡◌ {A = AtPath} (record { shadow = a; told = c; drop = e }) (record { shadow = b; told = d; drop = f })
at_path_is a b c d e f p q r = λ i. record { shadow = p i; told = q i; drop = r i }

module _ (old new : Layers) (removes : List (List ℕ)) (inserts : List (List ℕ × Answer)) (is : IsStaged old (ChangeSet removes inserts ∷ []) new) where
  fits_told : (q : List ℕ) → same_path_at old new q ≡ true → same_path_at (told_before old new) new q ≡ true
  fits_told q h =
      let same : at_path old q ≡ at_path new q = (same_at_path-Decides (at_path old q) (at_path new q)).0 h in
      (same_at_path-Decides (at_path (told_before old new) q) (at_path new q)).1 (at_path_is _ _ _ _ _ _ refl (ap (λ (a : AtPath). a.told) same) refl)

  enough_told : (q : List ℕ) → among q removes ≡ false → same_path_at (told_before old new) new q ≡ true → same_path_at old new q ≡ true
  enough_told q out h =
      let same : at_path (told_before old new) q ≡ at_path new q = (same_at_path-Decides (at_path (told_before old new) q) (at_path new q)).0 h in
      let shadow : finmap.get new.by_path q ≡ finmap.get old.by_path q = ap (λ (l : Layers). finmap.get l.by_path q) is.1 in
      let drop : finmap.get new.drops q ≡ finmap.get old.drops q = ap (λ (l : Layers). finmap.get l.drops q) is.1 ∙ get-dropped_other is.0 old.drops removes q out in
      (same_at_path-Decides (at_path old q) (at_path new q)).1 (at_path_is _ _ _ _ _ _ (sym shadow) (ap (λ (a : AtPath). a.told) same) (sym drop))

abbrev changes_of : Changes → Texts ℕ → Changes
changes_of c paths = record { ids = c.ids; paths = paths; reset = c.reset }

pub join_told : (old new : Layers) (revision : ℕ) (c d e : Changes) (removes : List (List ℕ)) (inserts : List (List ℕ × Answer)) (a b : Bool) → IsStaged old (ChangeSet removes inserts ∷ []) new
    → IsMarked old new revision c [] removes a d → IsMarked (told_before old new) new revision d [] (map (λ f. f.0) inserts) b e
    → IsMarked old new revision c [] (removes ++ map (λ f. f.0) inserts) (a || b) e
join_told old new revision c d e removes inserts a b is p q =
    let late : List (List ℕ) = map (λ (f : List ℕ × Answer). f.0) inserts in
    record {
      differs = rw (p.differs, q.differs) (any_differs (same_path_at old new) (same_path_at (told_before old new) new) removes (fits_told old new removes inserts is) (enough_told old new removes inserts is) late);
      after =
          q.after
          ∙ ap (λ (x : Changes). changes_of x (marked_paths (told_before old new) new revision x.paths late)) p.after
          ∙ ap (changes_of c) (all_marked (same_path_at old new) (same_path_at (told_before old new) new) removes (fits_told old new removes inserts is) (enough_told old new removes inserts is) revision c.paths late);
    }

pub only_marked : {F : Type 0} (old new : Layers) (revision : ℕ) (c e : Changes) (batch : List Item) (removes : List (List ℕ)) (inserts : List (List ℕ × Answer)) (r : Result Bool F) → batch ≡ ChangeSet removes inserts ∷ []
    → IfOk r (λ b. IsMarked old new revision c [] (removes ++ map (λ f. f.0) inserts) b e)
    → IfOk r (λ b. IsMarked old new revision c (touched_ids old batch) (touched_paths old batch) b e)
only_marked old new revision c e batch removes inserts r is h =
    subst (λ (items : List Item). IfOk r (λ b. IsMarked old new revision c (touched_ids old items) (touched_paths old items) b e)) (sym is)
    (subst (λ (paths : List (List ℕ)). IfOk r (λ b. IsMarked old new revision c [] paths b e)) (sym (append-nil (removes ++ map (λ (f : List ℕ × Answer). f.0) inserts))) h)
