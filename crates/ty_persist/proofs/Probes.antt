-- Look-ups by what is seen of a key, in entries whose keys ascend: which side of an entry they lead to.
use Rattle.std.proofs.Common.{◌≡◌, List, ◌∷◌, ◌++◌, Some, sym, ap, subst, ◌∙◌}
use Rattle.std.specs.declared.cmp.Ordering.{Ordering}
use Rattle.std.specs.declared.cmp.Ordering.TheVariants.{Less, Equal, Greater}
use Rattle.std.specs.Ordering.{is_eq}
use Rattle.std.specs.Cmp.{IsTotalOrder}
use Rattle.std.specs.Map.{lookup}
use Rattle.std.specs.BTreeMap.{is_at}
use Rattle.std.proofs.lemmas.List.{map-append}
use Rattle.std.proofs.lemmas.Iterator.Adapters.{option_map_id}
use Rattle.ty_persist.specs.Contents.{IsAscending}
use Rattle.ty_persist.specs.Seen.{seen_entries}
use Rattle.ty_persist.proofs.SeenLaws.{Reads, lookup_by_seen, ascending_seen}
use Rattle.ty_persist.proofs.Entries.{lookup_left, lookup_middle, lookup_right}

module _ {K V A : Type 0} (f : K → A) (cmp : K → K → Ordering) (R : A → A → Ordering) (reads : Reads f cmp R) (o : IsTotalOrder R) (q : A) (l : List (K × V)) (e : K × V) (r : List (K × V)) (s : IsAscending cmp (l ++ e ∷ r)) where
  through : (es : List (K × V)) → lookup (λ k. is_eq (R q (f k))) es ≡ lookup (is_at (R q)) (seen_entries f (λ v. v) es)
  through es = sym (lookup_by_seen f (λ v. v) (is_at (R q)) es ∙ option_map_id _)

  parted : seen_entries f (λ v. v) (l ++ e ∷ r) ≡ seen_entries f (λ v. v) l ++ (f e.0, e.1) ∷ seen_entries f (λ v. v) r
  parted = map-append _ l (e ∷ r)

  ascends : IsAscending R (seen_entries f (λ v. v) l ++ (f e.0, e.1) ∷ seen_entries f (λ v. v) r)
  ascends = subst (IsAscending R) parted (ascending_seen f (λ v. v) cmp R reads (l ++ e ∷ r) s)

  pub probe_left : R q (f e.0) ≡ Less → lookup (λ k. is_eq (R q (f k))) (l ++ e ∷ r) ≡ lookup (λ k. is_eq (R q (f k))) l
  probe_left h = through (l ++ e ∷ r) ∙ ap (lookup (is_at (R q))) parted ∙ lookup_left o q _ _ _ ascends h ∙ sym (through l)

  pub probe_middle : R q (f e.0) ≡ Equal → lookup (λ k. is_eq (R q (f k))) (l ++ e ∷ r) ≡ Some e.1
  probe_middle h = through (l ++ e ∷ r) ∙ ap (lookup (is_at (R q))) parted ∙ lookup_middle o q _ _ _ ascends h

  pub probe_right : R q (f e.0) ≡ Greater → lookup (λ k. is_eq (R q (f k))) (l ++ e ∷ r) ≡ lookup (λ k. is_eq (R q (f k))) r
  probe_right h = through (l ++ e ∷ r) ∙ ap (lookup (is_at (R q))) parted ∙ lookup_right o q _ _ _ ascends h ∙ sym (through r)
