-- A look-up, a put and a removal at a place of the plain list.
use Rattle.std.proofs.Common.{◌≡◌, ℕ, zero, suc, ◌<◌, List, [], ◌∷◌, ◌++◌, length, take, drop, set, get_or, slice_get, Some, None, cond, refl, sym, ap, subst, ◌∙◌, arith}
use Rattle.std.specs.declared.cmp.Ordering.{Ordering}
use Rattle.std.specs.declared.sync.Arc.{Arc}
use Rattle.std.specs.declared.alloc.Global.{Global}
use Rattle.std.specs.Ordering.{match_ordering, is_eq}
use Rattle.std.specs.List.{insert, remove}
use Rattle.std.specs.Map.{lookup, remove_entry}
use Rattle.std.specs.BTreeMap.{is_at}
use Rattle.std.specs.Cmp.{IsTotalOrder}
use Rattle.std.proofs.lemmas.Map.{lookup-none}
use Rattle.std.proofs.lemmas.Map.Entries.{none_below_head}
use Rattle.std.proofs.lemmas.List.{map-append, set_split, take-append-drop}
use Rattle.ty_persist_plain.specs.declared.entry.Entry.{Entry}
use Rattle.ty_persist.specs.Contents.{put_entry, IsAscending}
use Rattle.ty_persist_plain.specs.ListMap.{pair}
use Rattle.ty_persist_plain.specs.ListMap.{pairs, IsFoundAt, IsGapAt}
use Rattle.ty_persist.proofs.Entries.{lookup_past, put_past, remove_past, ascending_back}

split_at : {A : Type 0} (es : List A) (i : ℕ) (x : A) → slice_get es i ≡ Some x → es ≡ take i es ++ x ∷ drop (suc i) es
split_at [] i x h = cc
split_at (y ∷ es) zero x h = ap (λ z. z ∷ es) (cc)
split_at (y ∷ es) (suc i) x h = ap (λ t. y ∷ t) (split_at es i x h)

-- the element at a place that an index reads
pub some_at : {A : Type 0} (es : List A) (i : ℕ) (x : A) → i < length es → x ≡ get_or es i x → slice_get es i ≡ Some x
some_at [] i x h e = absurd (omega arith)
some_at (y ∷ es) zero x h e = ap Some (sym e)
some_at (y ∷ es) (suc i) x h e = some_at es i x (omega arith) e

drop_found : {A : Type 0} (es : List A) (i : ℕ) (x : A) → slice_get es i ≡ Some x → drop i es ≡ x ∷ drop (suc i) es
drop_found [] i x h = cc
drop_found (y ∷ es) zero x h = ap (λ z. z ∷ es) (cc)
drop_found (y ∷ es) (suc i) x h = drop_found es i x h

drop_none : {A : Type 0} (es : List A) (i : ℕ) → slice_get es i ≡ None → drop i es ≡ []
drop_none [] zero h = refl
drop_none [] (suc i) h = refl
drop_none (y ∷ es) zero h = cc
drop_none (y ∷ es) (suc i) h = drop_none es i h

module _ {K V : Type 0} {R : K → K → Ordering} (o : IsTotalOrder R) (k : K) (es : List (Arc (Entry K V) Global)) (i : ℕ) where
  pairs_at : (x : Arc (Entry K V) Global) → slice_get es i ≡ Some x → pairs es ≡ pairs (take i es) ++ pair x.value ∷ pairs (drop (suc i) es)
  pairs_at x h = ap pairs (split_at es i x h) ∙ map-append _ (take i es) (x ∷ drop (suc i) es)

  pub lookup_found : (x : Arc (Entry K V) Global) → slice_get es i ≡ Some x → IsFoundAt R k es i → lookup (is_at (R k)) (pairs es) ≡ Some x.value.value
  lookup_found x h f =
      ap (lookup (is_at (R k))) (pairs_at x h)
      ∙ lookup_past o k (pairs (take i es)) (pair x.value ∷ pairs (drop (suc i) es)) f.passed
      ∙ ap (λ t. cond (is_eq t) (Some x.value.value) (lookup (is_at (R k)) (pairs (drop (suc i) es)))) (f.same x h)

  pub put_found : (v : V) (x y : Arc (Entry K V) Global) → slice_get es i ≡ Some x → pair y.value ≡ (k, v) → IsFoundAt R k es i → pairs (set es i y) ≡ put_entry R (pairs es) k v
  put_found v x y h e f =
      ap pairs (set_split es i y f.within) ∙ map-append _ (take i es) (y ∷ drop (suc i) es)
      ∙ ap (λ p. pairs (take i es) ++ p ∷ pairs (drop (suc i) es)) e
      ∙ sym (ap (λ t. put_entry R t k v) (pairs_at x h)
      ∙ put_past o k v (pairs (take i es)) (pair x.value ∷ pairs (drop (suc i) es)) f.passed
      ∙ ap (λ t. pairs (take i es) ++ match_ordering t ((k, v) ∷ pair x.value ∷ pairs (drop (suc i) es)) ((k, v) ∷ pairs (drop (suc i) es)) (pair x.value ∷ put_entry R (pairs (drop (suc i) es)) k v)) (f.same x h))

  pub remove_found : (x : Arc (Entry K V) Global) → slice_get es i ≡ Some x → IsFoundAt R k es i → pairs (remove es i) ≡ remove_entry (is_at (R k)) (pairs es)
  remove_found x h f =
      map-append _ (take i es) (drop (suc i) es)
      ∙ sym (ap (remove_entry (is_at (R k))) (pairs_at x h)
      ∙ remove_past o k (pairs (take i es)) (pair x.value ∷ pairs (drop (suc i) es)) f.passed
      ∙ ap (λ t. pairs (take i es) ++ cond (is_eq t) (pairs (drop (suc i) es)) (pair x.value ∷ remove_entry (is_at (R k)) (pairs (drop (suc i) es)))) (f.same x h))

  drop_at : (x : Arc (Entry K V) Global) → slice_get es i ≡ Some x → drop i es ≡ x ∷ drop (suc i) es
  drop_at x h = drop_found es i x h

  pub lookup_gap : IsAscending R (pairs es) → IsGapAt R k es i → lookup (is_at (R k)) (pairs es) ≡ None
  lookup_gap s f =
      let whole : pairs es ≡ pairs (take i es) ++ pairs (drop i es) = sym (ap pairs (take-append-drop i es)) ∙ map-append _ (take i es) (drop i es) in
      let past = ap (lookup (is_at (R k))) whole ∙ lookup_past o k (pairs (take i es)) (pairs (drop i es)) f.passed in
      past ∙ elim (slice_get es i) as (λ g. slice_get es i ≡ g → lookup (is_at (R k)) (pairs (drop i es)) ≡ None) [
        | None ↦ λ h. ap (λ t. lookup (is_at (R k)) (pairs t)) (drop_none es i h)
        | Some x ↦ λ h.
            ap (λ t. lookup (is_at (R k)) (pairs t)) (drop_at x h)
            ∙ lookup-none (is_at (R k)) (pair x.value ∷ pairs (drop (suc i) es)) (none_below_head o k (pair x.value) (pairs (drop (suc i) es))
            (subst (λ t. IsAscending R (pairs t)) (drop_at x h) (ascending_back R (pairs (take i es)) (pairs (drop i es)) (subst (IsAscending R) whole s))) (f.above x h))
      ] refl

  pub put_gap : (v : V) (y : Arc (Entry K V) Global) → pair y.value ≡ (k, v) → IsGapAt R k es i → pairs (insert es i y) ≡ put_entry R (pairs es) k v
  put_gap v y e f =
      let whole : pairs es ≡ pairs (take i es) ++ pairs (drop i es) = sym (ap pairs (take-append-drop i es)) ∙ map-append _ (take i es) (drop i es) in
      let past = ap (λ t. put_entry R t k v) whole ∙ put_past o k v (pairs (take i es)) (pairs (drop i es)) f.passed in
      map-append _ (take i es) (y ∷ drop i es) ∙ ap (λ p. pairs (take i es) ++ p ∷ pairs (drop i es)) e
      ∙ sym (past ∙ ap (λ t. pairs (take i es) ++ t) (elim (slice_get es i) as (λ g. slice_get es i ≡ g → put_entry R (pairs (drop i es)) k v ≡ (k, v) ∷ pairs (drop i es)) [
        | None ↦ λ h. ap (λ t. put_entry R (pairs t) k v) (drop_none es i h) ∙ ap (λ t. (k, v) ∷ pairs t) (sym (drop_none es i h))
        | Some x ↦ λ h.
            ap (λ t. put_entry R (pairs t) k v) (drop_at x h)
            ∙ ap (λ t. match_ordering t ((k, v) ∷ pair x.value ∷ pairs (drop (suc i) es)) ((k, v) ∷ pairs (drop (suc i) es)) (pair x.value ∷ put_entry R (pairs (drop (suc i) es)) k v)) (f.above x h)
            ∙ ap (λ t. (k, v) ∷ pairs t) (sym (drop_at x h))
      ] refl))
