-- Only keys that a batch touches become other, so the revision rises exactly where one of them did.
use Rattle.std.proofs.Common.{◌≡◌, ℕ, ◌+◌, Bool, true, false, cond, not, ◌||◌, List, [], ◌∷◌, ◌++◌, map, refl, sym, ap, ◌∙◌, Option, Some, None, is_some}
use Rattle.std.proofs.lemmas.List.Folds.{list_any-append}
use Rattle.std.specs.Bool.{Decides}
use Rattle.std.specs.Cmp.{IsTotalOrder, Equal-is}
use Rattle.std.specs.Ordering.{eq_by_cmp}
use Rattle.std.specs.declared.cmp.Ordering.{Ordering}
use Rattle.std.specs.List.{list_any}
use Rattle.std.specs.Option.{unwrap_or}
use Rattle.std.specs.FinMap as finmap
use Rattle.ty_model.specs.Values.{Id, id_cmp, Answer, same_answer, text_cmp}
use Rattle.ty_model.specs.Version.{Layers, Stamp}
use Rattle.ty_model.specs.Batch.{Item, MapPath, UnmapPath, MapId, UnmapId, Clear, ChangeSet, ChangeView, same_layers, dropped, removed, inserted, applied, applied_all, staged, rises, changes_view, next_stamp}
use Rattle.ty_model.specs.Standing.{AtPath, at_path, Changes, Marks, Held, IsCommit}
use Rattle.ty_model.specs.Touched.{item_ids, item_paths, touched_ids, touched_paths, same_id_at, same_path_at, marked_ids, marked_paths, ids_differ, paths_differ, IsMarked, commit_held}
use Rattle.ty_model.proofs.Marks.{same_marks}
use Rattle.ty_model.proofs.Tests.{text_total, text_exact, id_total, id_exact, same_answer-Decides, same_option-Decides, same_at_path-Decides, same_layers-Decides}

or_false : (a b : Bool) → (a || b) ≡ false → (a ≡ false) × (b ≡ false)
or_false true b h = absurd (cc)
or_false false b h = (refl, h)

-- a key is one of these
abbrev pub among : {K : Type 0} → (K → K → Ordering) → K → List K → Bool
among R q ks = list_any (eq_by_cmp R q) ks

module _ {K X : Type 0} {R : K → K → Ordering} (o : IsTotalOrder R) where
  get-insert_other : (m : finmap.FinMap R X) (k : K) (v : X) (q : K) → eq_by_cmp R q k ≡ false → finmap.get (finmap.insert m k v) q ≡ finmap.get m q
  get-insert_other m k v q h = finmap.get-insert o m k v q ∙ ap (λ b. cond b (Some v) (finmap.get m q)) h

  get-remove_other : (m : finmap.FinMap R X) (k q : K) → eq_by_cmp R q k ≡ false → finmap.get (finmap.remove m k) q ≡ finmap.get m q
  get-remove_other m k q h = finmap.get-remove o m k q ∙ ap (λ b. cond b None (finmap.get m q)) h

  none_of : (x : Option X) → is_some x ≡ false → x ≡ None
  none_of None h = refl
  none_of (Some x) h = absurd (cc)

  get-not_key : (m : finmap.FinMap R X) (q : K) → among R q (finmap.keys m) ≡ false → finmap.get m q ≡ None
  get-not_key m q h = none_of (finmap.get m q) (finmap.contains_key-keys m q ∙ h)

get-dropped_other : (stamp : Stamp) (m : finmap.FinMap text_cmp Stamp) (ps : List (List ℕ)) (q : List ℕ) → among text_cmp q ps ≡ false → finmap.get (dropped stamp m ps) q ≡ finmap.get m q
get-dropped_other stamp m [] q h = refl
get-dropped_other stamp m (p ∷ ps) q h =
    let s = or_false _ _ h in
    get-dropped_other stamp (finmap.insert m p stamp) ps q s.1 ∙ get-insert_other text_total m p stamp q s.0

get-removed_other : (m : finmap.FinMap text_cmp Answer) (ps : List (List ℕ)) (q : List ℕ) → among text_cmp q ps ≡ false → finmap.get (removed m ps) q ≡ finmap.get m q
get-removed_other m [] q h = refl
get-removed_other m (p ∷ ps) q h =
    let s = or_false _ _ h in
    get-removed_other (finmap.remove m p) ps q s.1 ∙ get-remove_other text_total m p q s.0

get-inserted_other : (m : finmap.FinMap text_cmp Answer) (fs : List (List ℕ × Answer)) (q : List ℕ) → among text_cmp q (map (λ f. f.0) fs) ≡ false → finmap.get (inserted m fs) q ≡ finmap.get m q
get-inserted_other m [] q h = refl
get-inserted_other m (f ∷ fs) q h =
    let s = or_false _ _ h in
    get-inserted_other (finmap.insert m f.0 f.1) fs q s.1 ∙ get-insert_other text_total m f.0 f.1 q s.0

apart : {K : Type 0} (R : K → K → Ordering) (q : K) (xs ys : List K) → among R q (xs ++ ys) ≡ false → (among R q xs ≡ false) × (among R q ys ≡ false)
apart R q xs ys h = or_false _ _ (sym (list_any-append (eq_by_cmp R q) xs ys) ∙ h)

at_path_is : (a b : Option Answer) (c d : Option Answer) (e f : Option Stamp) → a ≡ b → c ≡ d → e ≡ f → ◌≡◌ {A = AtPath} (record { shadow = a; told = c; drop = e }) (record { shadow = b; told = d; drop = f })
at_path_is a b c d e f p q r = λ i. record { shadow = p i; told = q i; drop = r i }

-- ---- one item, on layers l that agree with those before the batch at q

module _ (old : Layers) (stamp : Stamp) where
  one_id : (q : Id) (l : Layers) (item : Item) → finmap.get l.by_id q ≡ finmap.get old.by_id q → among id_cmp q (item_ids old item) ≡ false → finmap.get (applied stamp l item).by_id q ≡ finmap.get old.by_id q
  one_id q l (MapPath path answer) e h = e
  one_id q l (UnmapPath path) e h = e
  one_id q l (MapId id answer) e h = get-insert_other id_total l.by_id id answer q (or_false _ _ h).0 ∙ e
  one_id q l (UnmapId id) e h = get-remove_other id_total l.by_id id q (or_false _ _ h).0 ∙ e
  one_id q l Clear e h = finmap.get-empty id_cmp q ∙ sym (get-not_key id_total old.by_id q h)
  one_id q l (ChangeSet removes inserts) e h = e
  one_id q l ChangeView e h = e

  one_path : (q : List ℕ) (l : Layers) (item : Item) → at_path l q ≡ at_path old q → among text_cmp q (item_paths old item) ≡ false → at_path (applied stamp l item) q ≡ at_path old q
  one_path q l (MapPath path answer) e h =
      at_path_is _ _ _ _ _ _ (get-insert_other text_total l.by_path path answer q (or_false _ _ h).0) refl refl ∙ e
  one_path q l (UnmapPath path) e h =
      let s = (or_false _ _ h).0 in
      at_path_is _ _ _ _ _ _ (get-remove_other text_total l.by_path path q s) refl (get-insert_other text_total l.drops path stamp q s) ∙ e
  one_path q l (MapId id answer) e h = e
  one_path q l (UnmapId id) e h = e
  one_path q l Clear e h =
      let was : finmap.get l.by_path q ≡ None = ap (λ (a : AtPath). a.shadow) e ∙ get-not_key text_total old.by_path q h in
      let not_in : among text_cmp q (finmap.keys l.by_path) ≡ false = sym (finmap.contains_key-keys l.by_path q) ∙ ap is_some was in
      at_path_is _ _ _ _ _ _ (finmap.get-empty text_cmp q ∙ sym was) refl (get-dropped_other stamp l.drops (finmap.keys l.by_path) q not_in) ∙ e
  one_path q l (ChangeSet removes inserts) e h =
      let s = apart text_cmp q removes (map (λ f. f.0) inserts) h in
      at_path_is _ _ _ _ _ _ refl (get-inserted_other (removed l.told removes) inserts q s.1 ∙ get-removed_other l.told removes q s.0) (get-dropped_other stamp l.drops removes q s.0) ∙ e
  one_path q l ChangeView e h = e

  all_id : (q : Id) (l : Layers) (items : List Item) → finmap.get l.by_id q ≡ finmap.get old.by_id q → among id_cmp q (touched_ids old items) ≡ false → finmap.get (applied_all stamp l items).by_id q ≡ finmap.get old.by_id q
  all_id q l [] e h = e
  all_id q l (item ∷ items) e h =
      let s = apart id_cmp q (item_ids old item) (touched_ids old items) h in
      all_id q (applied stamp l item) items (one_id q l item e s.0) s.1

  all_path : (q : List ℕ) (l : Layers) (items : List Item) → at_path l q ≡ at_path old q → among text_cmp q (touched_paths old items) ≡ false → at_path (applied_all stamp l items) q ≡ at_path old q
  all_path q l [] e h = e
  all_path q l (item ∷ items) e h =
      let s = apart text_cmp q (item_paths old item) (touched_paths old items) h in
      all_path q (applied stamp l item) items (one_path q l item e s.0) s.1

-- ---- marks

id_test : (old new : Layers) (q : Id) → Decides (same_id_at old new q) (finmap.get old.by_id q ≡ finmap.get new.by_id q)
id_test old new q = same_option-Decides same_answer same_answer-Decides (finmap.get old.by_id q) (finmap.get new.by_id q)

path_test : (old new : Layers) (q : List ℕ) → Decides (same_path_at old new q) (at_path old q ≡ at_path new q)
path_test old new q = same_at_path-Decides (at_path old q) (at_path new q)

module _ {K : Type 0} {R : K → K → Ordering} (o : IsTotalOrder R) (exact : finmap.IsAntisymmetric R) (same : K → Bool) (revision : ℕ) where
  -- both `marked_ids` and `marked_paths` are this
  abbrev marked : finmap.FinMap R ℕ → List K → finmap.FinMap R ℕ
  marked m [] = m
  marked m (k ∷ ks) = marked (cond (same k) m (finmap.insert m k revision)) ks

  tied : (q k : K) → eq_by_cmp R q k ≡ true → q ≡ k
  tied q k h = exact q k ((Equal-is (R q k)).0 h)

  -- a key has the revision where it is one of these and is other, else it is as it was
  get-marked : (q : K) (m : finmap.FinMap R ℕ) (ks : List K) → finmap.get (marked m ks) q ≡ cond (same q) (finmap.get m q) (cond (among R q ks) (Some revision) (finmap.get m q))
  get-marked q m [] = elim (same q) as (λ b. finmap.get m q ≡ cond b (finmap.get m q) (finmap.get m q)) [ true ↦ refl | false ↦ refl ]
  get-marked q m (k ∷ ks) =
      let rest = get-marked q (cond (same k) m (finmap.insert m k revision)) ks in
      rest ∙ (
      elim (same k) as (λ b. same k ≡ b → cond (same q) (finmap.get (cond b m (finmap.insert m k revision)) q) (cond (among R q ks) (Some revision) (finmap.get (cond b m (finmap.insert m k revision)) q)) ≡ cond (same q) (finmap.get m q) (cond (eq_by_cmp R q k || among R q ks) (Some revision) (finmap.get m q))) [
        | true ↦ λ is. elim (eq_by_cmp R q k) as (λ t. eq_by_cmp R q k ≡ t → cond (same q) (finmap.get m q) (cond (among R q ks) (Some revision) (finmap.get m q)) ≡ cond (same q) (finmap.get m q) (cond (t || among R q ks) (Some revision) (finmap.get m q))) [
          | true ↦ λ t. let here : same q ≡ true = ap same (tied q k t) ∙ is in rw here
          | false ↦ λ t. refl
        ] refl
        | false ↦ λ is. rw (finmap.get-insert o m k revision q) (
            elim (eq_by_cmp R q k) as (λ t. eq_by_cmp R q k ≡ t → cond (same q) (cond t (Some revision) (finmap.get m q)) (cond (among R q ks) (Some revision) (cond t (Some revision) (finmap.get m q))) ≡ cond (same q) (finmap.get m q) (cond (t || among R q ks) (Some revision) (finmap.get m q))) [
              | true ↦ λ t. let here : same q ≡ false = ap same (tied q k t) ∙ is in rw here (elim (among R q ks) as (λ a. cond a (Some revision) (Some revision) ≡ Some revision) [ true ↦ refl | false ↦ refl ])
              | false ↦ λ t. refl
            ] refl)
      ] refl
      )

-- ---- a commit

module _ (stamp : Stamp) (old : Layers) (batch : List Item) where
  abbrev new : Layers
  new = applied_all stamp old batch

  same_apart_id : (q : Id) → among id_cmp q (touched_ids old batch) ≡ false → same_id_at old new q ≡ true
  same_apart_id q h = (id_test old new q).1 (sym (all_id old stamp q old batch refl h))

  same_apart_path : (q : List ℕ) → among text_cmp q (touched_paths old batch) ≡ false → same_path_at old new q ≡ true
  same_apart_path q h = (path_test old new q).1 (sym (all_path old stamp q old batch refl h))

  by_cases : (b t : Bool) (x y : ℕ) (m : Option ℕ) → (t ≡ false → b ≡ true) → unwrap_or (cond b m (cond t (Some x) m)) 0 ≡ cond b (unwrap_or m 0) x
  by_cases true t x y m h = refl
  by_cases false true x y m h = refl
  by_cases false false x y m h = absurd (let e = h refl in cc)

  pub marks : (revision : ℕ) (c : Changes) → Marks old new revision c (record { ids = marked_ids old new revision c.ids (touched_ids old batch); paths = marked_paths old new revision c.paths (touched_paths old batch); reset = c.reset })
  marks revision c = record {
    reset = refl;
    ids = λ q.
        ap (λ (x : Option ℕ). unwrap_or x 0) (get-marked id_total id_exact (same_id_at old new) revision q c.ids (touched_ids old batch))
        ∙ by_cases (same_id_at old new q) (among id_cmp q (touched_ids old batch)) revision 0 (finmap.get c.ids q) (same_apart_id q);
    paths = λ q.
        ap (λ (x : Option ℕ). unwrap_or x 0) (get-marked text_total text_exact (same_path_at old new) revision q c.paths (touched_paths old batch))
        ∙ by_cases (same_path_at old new q) (among text_cmp q (touched_paths old batch)) revision 0 (finmap.get c.paths q) (same_apart_path q);
  }

  not_false : (b : Bool) → not b ≡ false → b ≡ true
  not_false true h = refl
  not_false false h = absurd (cc)

  -- the layers are the same exactly where no touched key differs
  none_differ : {K : Type 0} (same : K → Bool) (R : K → K → Ordering) → finmap.IsAntisymmetric R → (q : K) (ks : List K) → list_any (λ k. not (same k)) ks ≡ false → (among R q ks ≡ false → same q ≡ true) → same q ≡ true
  none_differ same R exact q [] h out = out refl
  none_differ same R exact q (k ∷ ks) h out =
      let s = or_false (not (same k)) (list_any (λ j. not (same j)) ks) h in
      elim (eq_by_cmp R q k) as (λ t. eq_by_cmp R q k ≡ t → same q ≡ true) [
        | true ↦ λ t.
            let is : q ≡ k = exact q k ((Equal-is (R q k)).0 t) in
            ap same is ∙ not_false (same k) s.0
        | false ↦ λ t. none_differ same R exact q ks s.1 (λ e. out (rw (t, e)))
      ] refl

  differ_false : {K : Type 0} (same : K → Bool) → ((k : K) → same k ≡ true) → (ks : List K) → list_any (λ k. not (same k)) ks ≡ false
  differ_false same h [] = refl
  differ_false same h (k ∷ ks) = rw (h k, differ_false same h ks)

  stays : ids_differ old new (touched_ids old batch) ≡ false → paths_differ old new (touched_paths old batch) ≡ false → new ≡ old
  stays no_ids no_paths =
      let ids : (q : Id) → finmap.get old.by_id q ≡ finmap.get new.by_id q = λ q. (id_test old new q).0 (none_differ (same_id_at old new) id_cmp id_exact q (touched_ids old batch) no_ids (same_apart_id q)) in
      let paths : (q : List ℕ) → at_path old q ≡ at_path new q = λ q. (path_test old new q).0 (none_differ (same_path_at old new) text_cmp text_exact q (touched_paths old batch) no_paths (same_apart_path q)) in
      let by_id = finmap.same_map id_total id_exact new.by_id old.by_id (λ q. sym (ids q)) in
      let by_path = finmap.same_map text_total text_exact new.by_path old.by_path (λ q. sym (ap (λ (a : AtPath). a.shadow) (paths q))) in
      let told = finmap.same_map text_total text_exact new.told old.told (λ q. sym (ap (λ (a : AtPath). a.told) (paths q))) in
      let drops = finmap.same_map text_total text_exact new.drops old.drops (λ q. sym (ap (λ (a : AtPath). a.drop) (paths q))) in
      λ i. record { by_id = by_id i; by_path = by_path i; told = told i; drops = drops i }

  pub layers_differ : same_layers old new ≡ not (ids_differ old new (touched_ids old batch) || paths_differ old new (touched_paths old batch))
  layers_differ =
      elim (same_layers old new) as (λ b. same_layers old new ≡ b → b ≡ not (ids_differ old new (touched_ids old batch) || paths_differ old new (touched_paths old batch))) [
        | true ↦ λ is.
            let e : new ≡ old = (same_layers-Decides old new).0 is in
            let ids = differ_false (same_id_at old new) (λ q. (id_test old new q).1 (ap (λ (l : Layers). finmap.get l.by_id q) (sym e))) (touched_ids old batch) in
            let paths = differ_false (same_path_at old new) (λ q. (path_test old new q).1 (ap (λ (l : Layers). at_path l q) (sym e))) (touched_paths old batch) in
            rw (ids, paths)
        | false ↦ λ is.
            elim (ids_differ old new (touched_ids old batch)) as (λ d. ids_differ old new (touched_ids old batch) ≡ d → false ≡ not (d || paths_differ old new (touched_paths old batch))) [
              | true ↦ λ d. refl
              | false ↦ λ d.
                  elim (paths_differ old new (touched_paths old batch)) as (λ p. paths_differ old new (touched_paths old batch) ≡ p → false ≡ not p) [
                    | true ↦ λ p. refl
                    | false ↦ λ p.
                        let yes : same_layers old new ≡ true = (same_layers-Decides old new).1 (stays d p) in
                        sym is ∙ yes
                  ] refl
            ] refl
      ] refl

not_not : (b : Bool) → not (not b) ≡ b
not_not true = refl
not_not false = refl

pub rises_is : (space revision : ℕ) (old : Layers) (batch : List Item) (new : Layers) → new ≡ staged space revision old batch
    → rises space revision old batch ≡ (ids_differ old new (touched_ids old batch) || paths_differ old new (touched_paths old batch) || changes_view batch)
rises_is space revision old batch new is =
    rw is (ap (λ b. not b || changes_view batch) (layers_differ (next_stamp space revision) old batch) ∙ ap (λ b. b || changes_view batch) (not_not _))

-- ---- what is kept

module _ (h : Held) (batch : List Item) (b view : Bool) (c : Changes) (new : Layers) (is : new ≡ staged h.space h.revision h.layers batch) (mark : ℕ)
    (marked : IsMarked h.layers new mark h.changes (touched_ids h.layers batch) (touched_paths h.layers batch) b c) (views : view ≡ changes_view batch) where
  pub rises_by : rises h.space h.revision h.layers batch ≡ (b || view)
  rises_by = rises_is h.space h.revision h.layers batch new is ∙ rw (marked.differs, views)

  pub commit_stays : (b || view) ≡ false → IsCommit h batch h
  commit_stays none =
      let low : rises h.space h.revision h.layers batch ≡ false = rises_by ∙ none in
      record { space = refl; version = λ resolver. rw low; marks = same_marks h.layers h.revision h.changes }

  pub commit_rises : (b || view) ≡ true → mark ≡ h.revision + 1 → IsCommit h batch (record h { revision = mark; layers = new; changes = c })
  commit_rises some next =
      let high : rises h.space h.revision h.layers batch ≡ true = rises_by ∙ some in
      record {
        space = refl;
        version = λ resolver. rw (high, next, is);
        marks = rw (marked.after, is) (marks (next_stamp h.space h.revision) h.layers batch mark h.changes);
      }

abbrev rose : Held → List Item → Held
rose h batch = record {
  space = h.space;
  revision = h.revision + 1;
  layers = staged h.space h.revision h.layers batch;
  reset = h.reset;
  changes = record {
    ids = marked_ids h.layers (staged h.space h.revision h.layers batch) (h.revision + 1) h.changes.ids (touched_ids h.layers batch);
    paths = marked_paths h.layers (staged h.space h.revision h.layers batch) (h.revision + 1) h.changes.paths (touched_paths h.layers batch);
    reset = h.changes.reset;
  };
}

-- what is held after a commit is a commit
pub is_commit : (h : Held) (batch : List Item) → IsCommit h batch (commit_held h batch)
is_commit h batch =
    elim (rises h.space h.revision h.layers batch) as (λ b. rises h.space h.revision h.layers batch ≡ b → IsCommit h batch (cond b (rose h batch) h)) [
      | true ↦ λ e. record {
        space = refl;
        version = λ resolver. rw e;
        marks = marks (next_stamp h.space h.revision) h.layers batch (h.revision + 1) h.changes;
      }
      | false ↦ λ e. record { space = refl; version = λ resolver. rw e; marks = same_marks h.layers h.revision h.changes }
    ] refl

module _ (h : Held) (batch : List Item) (b view : Bool) (c : Changes) (new : Layers) (is : new ≡ staged h.space h.revision h.layers batch) (mark : ℕ)
    (marked : IsMarked h.layers new mark h.changes (touched_ids h.layers batch) (touched_paths h.layers batch) b c) (views : view ≡ changes_view batch) where
  pub held_stays : (b || view) ≡ false → h ≡ commit_held h batch
  held_stays none =
      let low : rises h.space h.revision h.layers batch ≡ false = rises_by h batch b view c new is mark marked views ∙ none in
      rw low

  pub held_rises : (b || view) ≡ true → mark ≡ h.revision + 1 → record h { revision = mark; layers = new; changes = c } ≡ commit_held h batch
  held_rises some next =
      let high : rises h.space h.revision h.layers batch ≡ true = rises_by h batch b view c new is mark marked views ∙ some in
      rw (high, marked.after, next, is)
