-- Paths without the components that a test leaves out.
use Rattle.std.proofs.Common.{◌≡◌, ℕ, Bool, true, false, cond, not, List, [], ◌∷◌, ◌++◌, filter, reverse, refl, sym, ap, ◌∙◌, subst, append-nil}
use Rattle.std.proofs.lemmas.List.{reverse-append, reverse-reverse}
use Rattle.std.proofs.lemmas.List.Elements.{filter-append}
use Rattle.ty_model.specs.Paths.{Component, RootDir, CurDir, ParentDir, Normal, components, component_text, is_dot, is_up, kept_with, kept_of, cleaned, normalized, AreKept, ArePath, AllMayFollow, AreUps, slashes}
use Rattle.ty_model.proofs.PathLaws.{slashes-push, cleaned_with, components-slashes, kept-path, path-kept, kept_of-append, ArePath-from_follows}
use Rattle.ty_path.specs.Parts.{IsOpen, without_name}

filter-reverse : (p : Component → Bool) (xs : List Component) → filter p (reverse xs) ≡ reverse (filter p xs)
filter-reverse p [] = refl
filter-reverse p (x ∷ xs) =
    ap (filter p) (reverse-append (x ∷ []) xs) ∙ filter-append p (reverse xs) (x ∷ []) ∙ ap (λ ys. ys ++ filter p (x ∷ [])) (filter-reverse p xs)
    ∙ elim (p x) as (λ t. reverse (filter p xs) ++ cond t (x ∷ []) [] ≡ reverse (cond t (x ∷ filter p xs) (filter p xs))) [
      | true ↦ sym (reverse-append (x ∷ []) (filter p xs))
      | false ↦ append-nil (reverse (filter p xs))
    ]

-- ---- without ..

abbrev pub no_up : Component → Bool
no_up c = not (is_up c)

ups_left_out : (kept : List Component) → AreUps kept → filter no_up kept ≡ []
ups_left_out [] h = refl
ups_left_out (RootDir ∷ kept) h = absurd h
ups_left_out (CurDir ∷ kept) h = absurd h
ups_left_out (ParentDir ∷ kept) h = ups_left_out kept h
ups_left_out (Normal name ∷ kept) h = absurd h

filter-kept : (kept : List Component) → AreKept kept → AreKept (filter no_up kept)
filter-kept [] h = tt
filter-kept (RootDir ∷ kept) h = subst (λ k. AreKept (RootDir ∷ filter no_up k)) (sym h) refl
filter-kept (CurDir ∷ kept) h = absurd h
filter-kept (ParentDir ∷ kept) h = subst AreKept (sym (ups_left_out kept h)) tt
filter-kept (Normal name ∷ kept) h = (h.0, filter-kept kept h.1)

filter-kept_with : (kept : List Component) (c : Component) → (c ≡ ParentDir → ⊥) → filter no_up (kept_with kept c) ≡ kept_with (filter no_up kept) c
filter-kept_with kept RootDir h = refl
filter-kept_with kept CurDir h = refl
filter-kept_with kept ParentDir h = absurd (h refl)
filter-kept_with kept (Normal name) h = refl

filter-up : (kept : List Component) → AreKept kept → filter no_up (kept_with kept ParentDir) ≡ without_name (filter no_up kept)
filter-up [] h = refl
filter-up (RootDir ∷ kept) h = refl
filter-up (CurDir ∷ kept) h = absurd h
filter-up (ParentDir ∷ kept) h = ups_left_out kept h ∙ ap without_name (sym (ups_left_out kept h))
filter-up (Normal name ∷ kept) h = refl

-- what is normalized, the last one first
normal_first : List Component → List Component
normal_first xs = filter no_up (kept_of [] xs)

module _ (text : List ℕ) (xs : List Component) (h : ArePath xs) (e : text ≡ slashes (normalized xs)) where
  kept : AreKept (filter no_up (kept_of [] xs))
  kept = filter-kept (kept_of [] xs) (path-kept xs h)

  as_reverse : normalized xs ≡ reverse (filter no_up (kept_of [] xs))
  as_reverse = filter-reverse no_up (kept_of [] xs)

  reads : components text ≡ reverse (filter no_up (kept_of [] xs))
  reads = ap components (e ∙ ap slashes as_reverse) ∙ components-slashes (reverse (filter no_up (kept_of [] xs))) (kept-path (filter no_up (kept_of [] xs)) kept)

  reads_first : reverse (components text) ≡ filter no_up (kept_of [] xs)
  reads_first = ap reverse reads ∙ reverse-reverse (filter no_up (kept_of [] xs))

  normalized-push : (c : Component) → normalized (xs ++ c ∷ []) ≡ reverse (filter no_up (kept_with (kept_of [] xs) c))
  normalized-push c = ap (λ k. filter no_up (reverse k)) (kept_of-append [] xs (c ∷ [])) ∙ filter-reverse no_up (kept_with (kept_of [] xs) c)

  -- the normalized components so far are open for more
  pub open_normalized : IsOpen text
  open_normalized = record { written = e ∙ ap slashes (as_reverse ∙ sym reads); kept = subst AreKept (sym reads_first) kept }

  pub normalized_more : (new : List ℕ) (c : Component) → (c ≡ ParentDir → ⊥) → new ≡ slashes (cleaned (components text ++ c ∷ [])) → new ≡ slashes (normalized (xs ++ c ∷ []))
  normalized_more new c other k =
      k ∙ ap slashes (cleaned_with (components text) c (subst AreKept (sym reads_first) kept) ∙ ap (λ ks. reverse (kept_with ks c)) reads_first
      ∙ ap reverse (sym (filter-kept_with (kept_of [] xs) c other)) ∙ sym (normalized-push c))

  pub normalized_up : (new : List ℕ) → new ≡ slashes (reverse (without_name (reverse (components text)))) → new ≡ slashes (normalized (xs ++ ParentDir ∷ []))
  normalized_up new k =
      k ∙ ap slashes (ap (λ ks. reverse (without_name ks)) reads_first ∙ ap reverse (sym (filter-up (kept_of [] xs) (path-kept xs h))) ∙ sym (normalized-push ParentDir))

pub normalized-path : (xs : List Component) → ArePath xs → ArePath (normalized xs)
normalized-path xs h = subst ArePath (sym (filter-reverse no_up (kept_of [] xs))) (kept-path (filter no_up (kept_of [] xs)) (filter-kept (kept_of [] xs) (path-kept xs h)))

-- ---- without .

abbrev pub no_dot : Component → Bool
no_dot c = not (is_dot c)

follow-filter : (p : Component → Bool) (cs : List Component) → AllMayFollow cs → AllMayFollow (filter p cs)
follow-filter p [] h = tt
follow-filter p (c ∷ cs) h = elim (p c) as (λ t. AllMayFollow (cond t (c ∷ filter p cs) (filter p cs))) [ true ↦ (h.0, follow-filter p cs h.1) | false ↦ follow-filter p cs h.1 ]

pub no_dot-path : (cs : List Component) → ArePath cs → ArePath (filter no_dot cs)
no_dot-path [] h = tt
no_dot-path (RootDir ∷ cs) h = follow-filter no_dot cs h
no_dot-path (CurDir ∷ cs) h = ArePath-from_follows (filter no_dot cs) (follow-filter no_dot cs h)
no_dot-path (ParentDir ∷ cs) h = (tt, follow-filter no_dot cs h.1)
no_dot-path (Normal name ∷ cs) h = (h.0, follow-filter no_dot cs h.1)

-- one more component among those that are left
pub no_dot_kept : (text : List ℕ) (xs : List Component) (c : Component) → (c ≡ CurDir → ⊥) → text ≡ slashes (filter no_dot xs) → text ++ (component_text c ++ 47 ∷ []) ≡ slashes (filter no_dot (xs ++ c ∷ []))
no_dot_kept text xs c other e =
    ap (λ t. t ++ (component_text c ++ 47 ∷ [])) e ∙ sym (slashes-push (filter no_dot xs) c)
    ∙ ap slashes (ap (λ ys. filter no_dot xs ++ ys) (sym (alone c other)) ∙ sym (filter-append no_dot xs (c ∷ [])))
  where
    alone : (c : Component) → (c ≡ CurDir → ⊥) → filter no_dot (c ∷ []) ≡ c ∷ []
    alone RootDir h = refl
    alone CurDir h = absurd (h refl)
    alone ParentDir h = refl
    alone (Normal name) h = refl

pub dot_left_out : (text : List ℕ) (xs : List Component) (c : Component) → c ≡ CurDir → text ≡ slashes (filter no_dot xs) → text ≡ slashes (filter no_dot (xs ++ c ∷ []))
dot_left_out text xs c is e =
    e ∙ ap slashes (sym (append-nil (filter no_dot xs)) ∙ sym (ap (λ x. filter no_dot (xs ++ x ∷ [])) is ∙ filter-append no_dot xs (CurDir ∷ [])))
