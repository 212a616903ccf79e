-- One step of a loop over keys.
use Rattle.std.proofs.Common.{◌≡◌, ℕ, ◌+◌, ◌<◌, Bool, ◌||◌, List, [], ◌∷◌, ◌++◌, length, take, map, get_or, refl, sym, ap, ◌∙◌}
use Rattle.std.proofs.lemmas.List.{map-append}
use Rattle.std.specs.Borrow.{Bor}
use Rattle.std.specs.FinMap as finmap
use Rattle.ty_path.specs.Shared.{path_text}
use Rattle.ty_model.specs.Values.{Id, Answer, text_cmp}
use Rattle.ty_model.specs.Version as plain
use Rattle.ty_model.specs.Version.{Stamp}
use Rattle.ty_model.specs.Batch.{dropped, removed, inserted, applied, applied_all}
use Rattle.ty_model.specs.Standing.{Changes}
use Rattle.ty_model.specs.Touched.{IsMarked, touched_ids, touched_paths, item_ids, item_paths}
use Rattle.ty_model.proofs.Folds.{dropped-push, removed-push, inserted-push, applied-push, touched_ids-push, touched_paths-push, map-take_push}
use Rattle.ty_model.proofs.Marks.{join_marked}
use Rattle.tinymist_vfs.specs.Maps.{Path}
use Rattle.tinymist_vfs.specs.Items.{file_of, item_of, items_of}
use Rattle.tinymist_vfs.specs.declared.batch.item.Item.{Item}

abbrev Texts : Type 0 → Type 0
Texts X = finmap.FinMap text_cmp X

module _ (ps : List Path) (i : ℕ) (p q : Path) (within : i < length ps) (is : p ≡ get_or ps i p) (same : path_text q ≡ path_text p) where
  pub drop_step : (stamp : Stamp) (a b c : Texts Stamp) → b ≡ dropped stamp a (map path_text (take i ps)) → c ≡ finmap.insert b (path_text q) stamp → c ≡ dropped stamp a (map path_text (take (i + 1) ps))
  drop_step stamp a b c h e =
      e ∙ ap (λ (m : Texts Stamp). finmap.insert m (path_text q) stamp) h ∙ ap (λ (k : List ℕ). finmap.insert (dropped stamp a (map path_text (take i ps))) k stamp) same
      ∙ sym (dropped-push stamp a (map path_text (take i ps)) (path_text p)) ∙ ap (dropped stamp a) (sym (map-take_push path_text ps i p within is))

  pub remove_step : (a b c : Texts Answer) → b ≡ removed a (map path_text (take i ps)) → c ≡ finmap.remove b (path_text p) → c ≡ removed a (map path_text (take (i + 1) ps))
  remove_step a b c h e =
      e ∙ ap (λ (m : Texts Answer). finmap.remove m (path_text p)) h
      ∙ sym (removed-push a (map path_text (take i ps)) (path_text p)) ∙ ap (removed a) (sym (map-take_push path_text ps i p within is))

pub insert_step : (fs : List (Path × Answer)) (i : ℕ) (f : Path × Answer) (q : Path) (x : Answer) → i < length fs → f ≡ get_or fs i f → path_text q ≡ path_text f.0 → x ≡ f.1
    → (a b c : Texts Answer) → b ≡ inserted a (map file_of (take i fs)) → c ≡ finmap.insert b (path_text q) x → c ≡ inserted a (map file_of (take (i + 1) fs))
insert_step fs i f q x within is same value a b c h e =
    e ∙ ap (λ (m : Texts Answer). finmap.insert m (path_text q) x) h ∙ (λ j. finmap.insert (inserted a (map file_of (take i fs))) (same j) (value j))
    ∙ sym (inserted-push a (map file_of (take i fs)) (file_of f)) ∙ ap (inserted a) (sym (map-take_push file_of fs i f within is))

pub drop_key_step : {X : Type 0} (ys : List (Bor Path × Bor X)) (y : Bor Path × Bor X) (q : Path) → path_text q ≡ path_text y.0.now
    → (stamp : Stamp) (a b c : Texts Stamp) → b ≡ dropped stamp a (map (λ e. path_text e.0.now) ys) → c ≡ finmap.insert b (path_text q) stamp → c ≡ dropped stamp a (map (λ e. path_text e.0.now) (ys ++ y ∷ []))
drop_key_step {X} ys y q same stamp a b c h e =
    let texts = λ (z : Bor Path × Bor X). path_text z.0.now in
    e ∙ ap (λ (m : Texts Stamp). finmap.insert m (path_text q) stamp) h ∙ ap (λ (k : List ℕ). finmap.insert (dropped stamp a (map texts ys)) k stamp) same
    ∙ sym (dropped-push stamp a (map texts ys) (texts y)) ∙ ap (dropped stamp a) (sym (map-append texts ys (y ∷ [])))

pub apply_step : (items : List Item) (i : ℕ) (item : Item) → i < length items → item ≡ get_or items i item
    → (stamp : Stamp) (a b c : plain.Layers) → b ≡ applied_all stamp a (items_of (take i items)) → c ≡ applied stamp b (item_of item) → c ≡ applied_all stamp a (items_of (take (i + 1) items))
apply_step items i item within is stamp a b c h e =
    e ∙ ap (λ (l : plain.Layers). applied stamp l (item_of item)) h
    ∙ sym (applied-push stamp a (items_of (take i items)) (item_of item)) ∙ ap (applied_all stamp a) (sym (map-take_push item_of items i item within is))

-- ---- keys of a map

texts : {X : Type 0} (ys : List (Bor Path × Bor X)) → map (λ (e : Path × X). path_text e.0) (map (λ (y : Bor Path × Bor X). (y.0.now, y.1.now)) ys) ≡ map (λ (y : Bor Path × Bor X). path_text y.0.now) ys
texts [] = refl
texts (y ∷ ys) = ap (λ (t : List (List ℕ)). path_text y.0.now ∷ t) (texts ys)

ids : {X : Type 0} (ys : List (Bor Id × Bor X)) → map (λ (e : Id × X). e.0) (map (λ (y : Bor Id × Bor X). (y.0.now, y.1.now)) ys) ≡ map (λ (y : Bor Id × Bor X). y.0.now) ys
ids [] = refl
ids (y ∷ ys) = ap (λ (t : List Id). y.0.now ∷ t) (ids ys)

pub ids_so_far : {X : Type 0} (es : List (Id × X)) (ys : List (Bor Id × Bor X)) → map (λ y. (y.0.now, y.1.now)) ys ≡ es → map (λ y. y.0.now) ys ≡ map (λ e. e.0) es
ids_so_far {X} es ys h = sym (ids ys) ∙ ap (map (λ (e : Id × X). e.0)) h

pub keys_so_far : {X : Type 0} (es : List (Path × X)) (ys : List (Bor Path × Bor X)) → map (λ y. (y.0.now, y.1.now)) ys ≡ es → map (λ y. path_text y.0.now) ys ≡ map (λ e. path_text e.0) es
keys_so_far {X} es ys h = sym (texts ys) ∙ ap (map (λ (e : Path × X). path_text e.0)) h

pub files_texts : (fs : List (Path × Answer)) → map (λ (f : List ℕ × Answer). f.0) (map file_of fs) ≡ map (λ (f : Path × Answer). path_text f.0) fs
files_texts [] = refl
files_texts (f ∷ fs) = ap (λ (t : List (List ℕ)). path_text f.0 ∷ t) (files_texts fs)

-- ---- marks

module _ (old new : plain.Layers) (revision : ℕ) (a b c : Changes) (seen more : Bool) where
  pub mark_path_step : (ps : List Path) (i : ℕ) (p : Path) → i < length ps → p ≡ get_or ps i p
      → IsMarked old new revision a [] (map path_text (take i ps)) seen b → IsMarked old new revision b [] (path_text p ∷ []) more c
      → IsMarked old new revision a [] (map path_text (take (i + 1) ps)) (seen || more) c
  mark_path_step ps i p within is h k =
      rw (map-take_push path_text ps i p within is) (join_marked old new revision a b c [] [] (map path_text (take i ps)) (path_text p ∷ []) seen more h k)

  pub mark_file_step : (fs : List (Path × Answer)) (i : ℕ) (f : Path × Answer) → i < length fs → f ≡ get_or fs i f
      → IsMarked old new revision a [] (map (λ e. path_text e.0) (take i fs)) seen b → IsMarked old new revision b [] (path_text f.0 ∷ []) more c
      → IsMarked old new revision a [] (map (λ e. path_text e.0) (take (i + 1) fs)) (seen || more) c
  mark_file_step fs i f within is h k =
      let texts_of = λ (e : Path × Answer). path_text e.0 in
      rw (map-take_push texts_of fs i f within is) (join_marked old new revision a b c [] [] (map texts_of (take i fs)) (path_text f.0 ∷ []) seen more h k)

  pub mark_key_step : {X : Type 0} (ys : List (Bor Path × Bor X)) (y : Bor Path × Bor X)
      → IsMarked old new revision a [] (map (λ e. path_text e.0.now) ys) seen b → IsMarked old new revision b [] (path_text y.0.now ∷ []) more c
      → IsMarked old new revision a [] (map (λ e. path_text e.0.now) (ys ++ y ∷ [])) (seen || more) c
  mark_key_step {X} ys y h k =
      let texts_of = λ (z : Bor Path × Bor X). path_text z.0.now in
      rw (map-append texts_of ys (y ∷ [])) (join_marked old new revision a b c [] [] (map texts_of ys) (path_text y.0.now ∷ []) seen more h k)

  pub mark_id_step : {X : Type 0} (ys : List (Bor Id × Bor X)) (y : Bor Id × Bor X)
      → IsMarked old new revision a (map (λ e. e.0.now) ys) [] seen b → IsMarked old new revision b (y.0.now ∷ []) [] more c
      → IsMarked old new revision a (map (λ e. e.0.now) (ys ++ y ∷ [])) [] (seen || more) c
  mark_id_step {X} ys y h k =
      let ids_of = λ (z : Bor Id × Bor X). z.0.now in
      rw (map-append ids_of ys (y ∷ [])) (join_marked old new revision a b c (map ids_of ys) (y.0.now ∷ []) [] [] seen more h k)

  pub mark_item_step : (items : List Item) (i : ℕ) (item : Item) → i < length items → item ≡ get_or items i item
      → IsMarked old new revision a (touched_ids old (items_of (take i items))) (touched_paths old (items_of (take i items))) seen b
      → IsMarked old new revision b (item_ids old (item_of item)) (item_paths old (item_of item)) more c
      → IsMarked old new revision a (touched_ids old (items_of (take (i + 1) items))) (touched_paths old (items_of (take (i + 1) items))) (seen || more) c
  mark_item_step items i item within is h k =
      let before = items_of (take i items) in
      rw (map-take_push item_of items i item within is, touched_ids-push old before (item_of item), touched_paths-push old before (item_of item))
      (join_marked old new revision a b c (touched_ids old before) (item_ids old (item_of item)) (touched_paths old before) (item_paths old (item_of item)) seen more h k)

-- ---- keys that are gathered

pub path_step : {X : Type 0} (ps : List Path) (ys : List (Bor Path × Bor X)) (y : Bor Path × Bor X) (q : Path) (new : List Path) → map path_text ps ≡ map (λ e. path_text e.0.now) ys → path_text q ≡ path_text y.0.now → new ≡ ps ++ q ∷ [] → map path_text new ≡ map (λ e. path_text e.0.now) (ys ++ y ∷ [])
path_step {X} ps ys y q new h same e =
    let texts = λ (z : Bor Path × Bor X). path_text z.0.now in
    ap (map path_text) e ∙ map-append path_text ps (q ∷ []) ∙ ap (λ (ts : List (List ℕ)). ts ++ path_text q ∷ []) h ∙ ap (λ (t : List ℕ). map texts ys ++ t ∷ []) same ∙ sym (map-append texts ys (y ∷ []))

pub id_step : {X : Type 0} (is : List Id) (ys : List (Bor Id × Bor X)) (y : Bor Id × Bor X) (q : Id) (new : List Id) → is ≡ map (λ e. e.0.now) ys → q ≡ y.0.now → new ≡ is ++ q ∷ [] → new ≡ map (λ e. e.0.now) (ys ++ y ∷ [])
id_step {X} is ys y q new h same e =
    let ids = λ (z : Bor Id × Bor X). z.0.now in
    e ∙ ap (λ (js : List Id). js ++ q ∷ []) h ∙ ap (λ (j : Id). map ids ys ++ j ∷ []) same ∙ sym (map-append ids ys (y ∷ []))
