-- A line of fields, each after a tab.
use Rattle.std.proofs.Common.{◌≡◌, ℕ, ◌+◌, ◌<◌, suc, List, [], ◌∷◌, ◌++◌, length, take, get_or, map, sym, ap, ◌∙◌, arith, append_assoc, append-nil}
use Rattle.std.proofs.Math.Seq.{take-suc}
use Rattle.std.proofs.lemmas.List.{map-append}
use Rattle.session_grammar.specs.Reply.{tabbed}

-- the fields, each after a tab
abbrev pub tabs : List (List ℕ) → List ℕ
tabs [] = []
tabs (field ∷ fields) = 9 ∷ field ++ tabs fields

pub tabs-push : (fields : List (List ℕ)) (field : List ℕ) → tabs (fields ++ field ∷ []) ≡ tabs fields ++ 9 ∷ field
tabs-push [] field = ap (λ (f : List ℕ). 9 ∷ f) (append-nil field)
tabs-push (f ∷ fs) field = ap (λ (r : List ℕ). 9 ∷ f ++ r) (tabs-push fs field) ∙ sym (append_assoc (9 ∷ f) (tabs fs) (9 ∷ field))

pub tabbed_is : (first : List ℕ) (fields : List (List ℕ)) → tabbed (first ∷ fields) ≡ first ++ tabs fields
tabbed_is first [] = sym (append-nil first)
tabbed_is first (f ∷ fs) = ap (λ (r : List ℕ). first ++ 9 ∷ r) (tabbed_is f fs)

module _ {A : Type 0} (f : A → List ℕ) (head : List ℕ) (items : List A) where
  -- one more item stands in the line, after a tab
  pub tabs-next : (i : ℕ) (item : A) (line pushed all : List ℕ) → line ≡ head ++ tabs (map f (take i items)) → pushed ≡ line ++ 9 ∷ [] → all ≡ pushed ++ f item → item ≡ get_or items i item → i < length items → all ≡ head ++ tabs (map f (take (i + 1) items))
  tabs-next i item line pushed all e p a is within =
      let next : i + 1 ≡ suc i = omega arith in
      let more : take (i + 1) items ≡ take i items ++ item ∷ [] = ap (λ (n : ℕ). take n items) next ∙ take-suc items i item within ∙ ap (λ (x : A). take i items ++ x ∷ []) (sym is) in
      a ∙ ap (λ (x : List ℕ). x ++ f item) (p ∙ ap (λ (x : List ℕ). x ++ 9 ∷ []) e)
      ∙ append_assoc (head ++ tabs (map f (take i items))) (9 ∷ []) (f item)
      ∙ append_assoc head (tabs (map f (take i items))) (9 ∷ f item)
      ∙ ap (λ (x : List ℕ). head ++ x) (sym (tabs-push (map f (take i items)) (f item)))
      ∙ ap (λ (x : List (List ℕ)). head ++ tabs x) (sym (map-append f (take i items) (item ∷ [])) ∙ ap (map f) (sym more))
