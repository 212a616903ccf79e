-- What one more component does to kept ones that stand in a text, each with a slash behind it.
use Rattle.std.proofs.Common.{◌≡◌, ℕ, ◌+◌, ◌≤◌, true, false, true≢false, length, get_or, arith, append_assoc, length-append, IsUtf8, List, [], ◌∷◌, ◌++◌, reverse, refl, sym, ap, ◌∙◌, subst, Bor, bytes_eq}
use Rattle.std.specs.declared.path.components.Component as item
use Rattle.std.specs.declared.path.components.Component.TheVariants as item_of
use Rattle.std.specs.String.Boundary.{IsSplitPoint}
use Rattle.std.proofs.lemmas.Bool.{both_ways}
use Rattle.std.proofs.lemmas.List.{reverse-append, reverse-reverse, get_or_at}
use Rattle.std.proofs.lemmas.Slice.Eq.{bytes_eq-Decides}
use Rattle.std.proofs.lemmas.Str.{lead_after_ascii}
use Rattle.ty_model.specs.Paths.{Component, RootDir, CurDir, ParentDir, Normal, components, component_text, kept_with, kept_of, cleaned, AreKept, ArePath, slashes}
use Rattle.ty_model.proofs.PathLaws.{slashes-push, cleaned_with, components-slashes, cleaned-path, path-kept, cleaned_again-push}
use Rattle.ty_path.specs.Parts.{IsOpen, plain_component, name_first, without_name}

-- ---- the last of them

no_name_first : (kept : List Component) → name_first kept ≡ false → without_name kept ≡ kept
no_name_first [] h = refl
no_name_first (RootDir ∷ kept) h = refl
no_name_first (CurDir ∷ kept) h = refl
no_name_first (ParentDir ∷ kept) h = refl
no_name_first (Normal name ∷ kept) h = absurd (true≢false h)

name_taken : (kept : List Component) → name_first kept ≡ true → without_name kept ≡ kept_with kept ParentDir
name_taken [] h = absurd (true≢false (sym h))
name_taken (RootDir ∷ kept) h = absurd (true≢false (sym h))
name_taken (CurDir ∷ kept) h = absurd (true≢false (sym h))
name_taken (ParentDir ∷ kept) h = absurd (true≢false (sym h))
name_taken (Normal name ∷ kept) h = refl

item-no_name : (kept : List Component) (c : item.Component) → ((name : Bor (List ℕ)) → c ≡ item_of.Normal name → ⊥) → name_first (plain_component c ∷ kept) ≡ false
item-no_name kept item_of.RootDir h = refl
item-no_name kept item_of.CurDir h = refl
item-no_name kept item_of.ParentDir h = refl
item-no_name kept (item_of.Normal name) h = absurd (h name refl)

-- what is no name and not the root alone lets .. stay
up_stays : (kept : List Component) → AreKept kept → name_first kept ≡ false → bytes_eq (slashes (reverse kept)) (47 ∷ []) ≡ false → kept_with kept ParentDir ≡ ParentDir ∷ kept
up_stays [] k n r = refl
up_stays (RootDir ∷ kept) k n r = absurd (both_ways _ (subst (λ cs. bytes_eq (slashes (reverse (RootDir ∷ cs))) (47 ∷ []) ≡ false) k r) refl)
up_stays (CurDir ∷ kept) k n r = absurd k
up_stays (ParentDir ∷ kept) k n r = refl
up_stays (Normal name ∷ kept) k n r = absurd (true≢false n)

module _ (text : List ℕ) (o : IsOpen text) where
  -- the last component is the first that is kept
  last_first : (front : List Component) (c : Component) → components text ≡ front ++ c ∷ [] → reverse (components text) ≡ c ∷ reverse front
  last_first front c e = ap reverse e ∙ reverse-append front (c ∷ [])

  with_up : cleaned (components text ++ ParentDir ∷ []) ≡ reverse (kept_with (reverse (components text)) ParentDir)
  with_up = cleaned_with (components text) ParentDir o.kept

  as_it_was : name_first (reverse (components text)) ≡ false → text ≡ slashes (reverse (without_name (reverse (components text))))
  as_it_was h = o.written ∙ ap slashes (sym (reverse-reverse (components text)) ∙ ap reverse (sym (no_name_first (reverse (components text)) h)))

  -- ---- taking a name back

  pub empty_no_name : components text ≡ [] → name_first (reverse (components text)) ≡ false
  empty_no_name e = ap (λ cs. name_first (reverse cs)) e

  pub other_no_name : (front : List Component) (c : item.Component) → components text ≡ front ++ plain_component c ∷ [] → ((name : Bor (List ℕ)) → c ≡ item_of.Normal name → ⊥) → name_first (reverse (components text)) ≡ false
  other_no_name front c e h = ap name_first (last_first front (plain_component c) e) ∙ item-no_name (reverse front) c h

  pub not_taken : name_first (reverse (components text)) ≡ false → text ≡ slashes (reverse (without_name (reverse (components text))))
  not_taken = as_it_was

  pub ends_with_name : (front : List Component) (name : List ℕ) → components text ≡ front ++ Normal name ∷ [] → text ≡ slashes front ++ (name ++ 47 ∷ [])
  ends_with_name front name e = o.written ∙ ap slashes e ∙ slashes-push front (Normal name)

  pub name_is_first : (front : List Component) (name : List ℕ) → components text ≡ front ++ Normal name ∷ [] → name_first (reverse (components text)) ≡ true
  name_is_first front name e = ap name_first (last_first front (Normal name) e)

  pub taken : (front : List Component) (name : List ℕ) → components text ≡ front ++ Normal name ∷ [] → slashes front ≡ slashes (reverse (without_name (reverse (components text))))
  taken front name e = ap slashes (sym (reverse-reverse front) ∙ ap (λ k. reverse (without_name k)) (sym (last_first front (Normal name) e)))

  -- ---- going up

  pub up_to_front : name_first (reverse (components text)) ≡ true → slashes (reverse (without_name (reverse (components text)))) ≡ slashes (cleaned (components text ++ ParentDir ∷ []))
  up_to_front h = ap (λ k. slashes (reverse k)) (name_taken (reverse (components text)) h) ∙ ap slashes (sym with_up)

  pub up_at_root : bytes_eq text (47 ∷ []) ≡ true → text ≡ slashes (cleaned (components text ++ ParentDir ∷ []))
  up_at_root h = let e = (bytes_eq-Decides text (47 ∷ [])).0 h in subst (λ t. t ≡ slashes (cleaned (components t ++ ParentDir ∷ []))) (sym e) refl

  pub up_added : name_first (reverse (components text)) ≡ false → bytes_eq text (47 ∷ []) ≡ false → text ++ (46 ∷ 46 ∷ 47 ∷ []) ≡ slashes (cleaned (components text ++ ParentDir ∷ []))
  up_added n r =
      let other = subst (λ t. bytes_eq t (47 ∷ []) ≡ false) (o.written ∙ ap slashes (sym (reverse-reverse (components text)))) r in
      ap (λ t. t ++ (46 ∷ 46 ∷ 47 ∷ [])) o.written ∙ sym (slashes-push (components text) ParentDir)
      ∙ ap slashes (sym (with_up ∙ ap reverse (up_stays (reverse (components text)) o.kept n other) ∙ reverse-append (ParentDir ∷ []) (reverse (components text)) ∙ ap (λ cs. cs ++ ParentDir ∷ []) (reverse-reverse (components text))))

  -- ---- any other component

  kept_too : (c : Component) → kept_with (reverse (components text)) c ≡ c ∷ reverse (components text) → text ++ (component_text c ++ 47 ∷ []) ≡ slashes (cleaned (components text ++ c ∷ []))
  kept_too c e =
      ap (λ xs. xs ++ (component_text c ++ 47 ∷ [])) o.written ∙ sym (slashes-push (components text) c)
      ∙ ap slashes (sym (cleaned_with (components text) c o.kept ∙ ap reverse e ∙ reverse-append (c ∷ []) (reverse (components text)) ∙ ap (λ cs. cs ++ c ∷ []) (reverse-reverse (components text))))

  pub root_kept : text ++ (47 ∷ []) ≡ slashes (cleaned (components text ++ RootDir ∷ []))
  root_kept = kept_too RootDir refl

  pub name_kept : (name : List ℕ) → text ++ (name ++ 47 ∷ []) ≡ slashes (cleaned (components text ++ Normal name ∷ []))
  name_kept name = kept_too (Normal name) refl

  pub dot_dropped : text ≡ slashes (cleaned (components text ++ CurDir ∷ []))
  dot_dropped = o.written ∙ ap slashes (sym (cleaned_with (components text) CurDir o.kept ∙ reverse-reverse (components text)))

-- what is kept so far is open for more
pub open_so_far : (text : List ℕ) (xs : List Component) → ArePath xs → text ≡ slashes (cleaned xs) → IsOpen text
open_so_far text xs h e =
    let same : components text ≡ cleaned xs = ap components e ∙ components-slashes (cleaned xs) (cleaned-path xs h) in
    record {
      written = e ∙ ap slashes (sym same);
      kept = subst AreKept (sym (ap reverse same ∙ reverse-reverse (kept_of [] xs))) (path-kept xs h);
    }

-- one more of them
pub keep_more : (text new : List ℕ) (xs : List Component) (c : Component) → ArePath xs → text ≡ slashes (cleaned xs) → new ≡ slashes (cleaned (components text ++ c ∷ [])) → new ≡ slashes (cleaned (xs ++ c ∷ []))
keep_more text new xs c h e k =
    let same : components text ≡ cleaned xs = ap components e ∙ components-slashes (cleaned xs) (cleaned-path xs h) in
    k ∙ ap (λ cs. slashes (cleaned (cs ++ c ∷ []))) same ∙ ap slashes (cleaned_again-push xs c h)

-- ---- where the text may be cut

ends_in_slash : (c : Component) (cs : List Component) → (xs : List ℕ) × (slashes (c ∷ cs) ≡ xs ++ 47 ∷ [])
ends_in_slash c [] = (component_text c, refl)
ends_in_slash c (d ∷ cs) =
    let more = ends_in_slash d cs in
    (component_text c ++ 47 ∷ more.0, ap (λ xs. component_text c ++ 47 ∷ xs) more.1 ∙ sym (append_assoc (component_text c) (47 ∷ more.0) (47 ∷ [])))

cut_after_slash : (text xs rest : List ℕ) → IsUtf8 text → text ≡ (xs ++ 47 ∷ []) ++ rest → (n : ℕ) → n ≡ length xs + 1 → IsSplitPoint text n
cut_after_slash text xs rest u e n h =
    let long : length xs + 1 ≤ length text = omega (arith, ap length e, length-append (xs ++ 47 ∷ []) rest, length-append xs (47 ∷ [])) in
    let slash : get_or text (length xs) 0 ≡ 47 = ap (λ l. get_or l (length xs) 0) (e ∙ append_assoc xs (47 ∷ []) rest) ∙ get_or_at xs 47 rest 0 (length xs) refl in
    subst (IsSplitPoint text) (sym h) (long, λ z l k. lead_after_ascii text (length xs) u (omega (arith, slash)) l k)

-- between two components
pub cut_after : (cs : List Component) (text rest : List ℕ) → IsUtf8 text → text ≡ slashes cs ++ rest → (n : ℕ) → n ≡ length (slashes cs) → IsSplitPoint text n
cut_after [] text rest u e n h = (omega arith, λ z. absurd (omega arith))
cut_after (c ∷ cs) text rest u e n h =
    let more = ends_in_slash c cs in
    cut_after_slash text more.0 rest u (e ∙ ap (λ xs. xs ++ rest) more.1) n (h ∙ ap length more.1 ∙ length-append more.0 (47 ∷ []))

-- how long the front is where a name ends the text
pub front_len : (text front name : List ℕ) (n : ℕ) → text ≡ front ++ (name ++ 47 ∷ []) → n ≡ length text → n ≡ length front + (length name + 1)
front_len text front name n e h = omega (arith, h, ap length e, length-append front (name ++ 47 ∷ []), length-append name (47 ∷ []))
