-- One more key at the end.
use Rattle.std.proofs.Common.{◌≡◌, ℕ, ◌+◌, ◌<◌, List, [], ◌∷◌, ◌++◌, length, take, map, get_or, refl, sym, ap, ◌∙◌, add-one}
use Rattle.std.proofs.Math.Seq.{take-suc}
use Rattle.std.proofs.lemmas.List.{map-append}
use Rattle.std.specs.FinMap as finmap
use Rattle.ty_model.specs.Values.{Answer, text_cmp}
use Rattle.ty_model.specs.Version.{Stamp, Layers}
use Rattle.ty_model.specs.Batch.{Item, dropped, removed, inserted, applied, applied_all}
use Rattle.ty_model.specs.Touched.{touched_ids, touched_paths, item_ids, item_paths}
use Rattle.std.proofs.Common.{append_assoc, append-nil}
use Rattle.ty_model.specs.Values.{Id}

pub dropped-push : (stamp : Stamp) (m : finmap.FinMap text_cmp Stamp) (ps : List (List ℕ)) (p : List ℕ) → dropped stamp m (ps ++ p ∷ []) ≡ finmap.insert (dropped stamp m ps) p stamp
dropped-push stamp m [] p = refl
dropped-push stamp m (q ∷ ps) p = dropped-push stamp (finmap.insert m q stamp) ps p

pub removed-push : (m : finmap.FinMap text_cmp Answer) (ps : List (List ℕ)) (p : List ℕ) → removed m (ps ++ p ∷ []) ≡ finmap.remove (removed m ps) p
removed-push m [] p = refl
removed-push m (q ∷ ps) p = removed-push (finmap.remove m q) ps p

pub inserted-push : (m : finmap.FinMap text_cmp Answer) (fs : List (List ℕ × Answer)) (f : List ℕ × Answer) → inserted m (fs ++ f ∷ []) ≡ finmap.insert (inserted m fs) f.0 f.1
inserted-push m [] f = refl
inserted-push m (g ∷ fs) f = inserted-push (finmap.insert m g.0 g.1) fs f

pub applied-push : (stamp : Stamp) (l : Layers) (items : List Item) (item : Item) → applied_all stamp l (items ++ item ∷ []) ≡ applied stamp (applied_all stamp l items) item
applied-push stamp l [] item = refl
applied-push stamp l (x ∷ items) item = applied-push stamp (applied stamp l x) items item

pub touched_ids-push : (l : Layers) (items : List Item) (item : Item) → touched_ids l (items ++ item ∷ []) ≡ touched_ids l items ++ item_ids l item
touched_ids-push l [] item = append-nil (item_ids l item)
touched_ids-push l (x ∷ items) item = ap (λ (t : List Id). item_ids l x ++ t) (touched_ids-push l items item) ∙ sym (append_assoc (item_ids l x) (touched_ids l items) (item_ids l item))

pub touched_paths-push : (l : Layers) (items : List Item) (item : Item) → touched_paths l (items ++ item ∷ []) ≡ touched_paths l items ++ item_paths l item
touched_paths-push l [] item = append-nil (item_paths l item)
touched_paths-push l (x ∷ items) item = ap (λ (t : List (List ℕ)). item_paths l x ++ t) (touched_paths-push l items item) ∙ sym (append_assoc (item_paths l x) (touched_paths l items) (item_paths l item))

-- one more element of a list that is read by f
pub map-take_push : {X Y : Type 0} (f : X → Y) (xs : List X) (i : ℕ) (x : X) → i < length xs → x ≡ get_or xs i x → map f (take (i + 1) xs) ≡ map f (take i xs) ++ f x ∷ []
map-take_push f xs i x within is =
    ap (map f) (ap (λ n. take n xs) (add-one i) ∙ take-suc xs i x within ∙ ap (λ y. take i xs ++ y ∷ []) (sym is)) ∙ map-append f (take i xs) (x ∷ [])
