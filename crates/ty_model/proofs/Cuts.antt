-- The first part of a text, and the parts after it.
use Rattle.std.proofs.Common.{◌≡◌, ℕ, ◌+◌, ◌<◌, ◌==◌, suc, true, false, cond, not, List, [], ◌∷◌, length, take, drop, refl, arith, Option, Some, None, eqb}
use Rattle.std.specs.List.{position_or_len, before_first, after_first}
use Rattle.std.specs.Option.{MatchOption, IfSome, IfNone}
use Rattle.std.specs.Borrow.{Bor}
use Rattle.ty_model.specs.Paths.{parts_at, onto_first}

none_of : (c : ℕ) (s : List ℕ) → position_or_len (λ b. eqb b c) s ≡ length s → parts_at c s ≡ s ∷ []
none_of c [] h = refl
none_of c (b ∷ bs) h =
    elim (b == c) as (λ t. cond (not t) (1 + position_or_len (λ d. eqb d c) bs) 0 ≡ length (b ∷ bs) → cond t ([] ∷ parts_at c bs) (onto_first b (parts_at c bs)) ≡ (b ∷ bs) ∷ []) [
      | true ↦ λ e. absurd (omega (arith, e))
      | false ↦ λ e. rw (none_of c bs (omega (arith, e)))
    ] h

first_of : (c : ℕ) (s : List ℕ) → position_or_len (λ b. eqb b c) s < length s → parts_at c s ≡ before_first (λ b. eqb b c) s ∷ parts_at c (after_first (λ b. eqb b c) s)
first_of c [] h = absurd (omega arith)
first_of c (b ∷ bs) h =
    elim (b == c) as (λ t. cond (not t) (1 + position_or_len (λ d. eqb d c) bs) 0 < length (b ∷ bs)
    → cond t ([] ∷ parts_at c bs) (onto_first b (parts_at c bs)) ≡ take (cond (not t) (1 + position_or_len (λ d. eqb d c) bs) 0) (b ∷ bs) ∷ parts_at c (drop (cond (not t) (1 + position_or_len (λ d. eqb d c) bs) 0 + 1) (b ∷ bs))) [
      | true ↦ λ e. refl
      | false ↦ λ e.
          let next = first_of c bs (omega (arith, e)) in
          let one : 1 + position_or_len (λ d. eqb d c) bs ≡ suc (position_or_len (λ d. eqb d c) bs) = omega arith in
          let two : 1 + position_or_len (λ d. eqb d c) bs + 1 ≡ suc (position_or_len (λ d. eqb d c) bs + 1) = omega arith in
          rw (next, two, one) refl
    ] h

pub cut_is : (c : ℕ) (s : List ℕ) (r : Option (Bor (List ℕ) × Bor (List ℕ))) → MatchOption r (position_or_len (λ b. eqb b c) s ≡ length s) (λ x. (position_or_len (λ b. eqb b c) s < length s) × (x.0.now ≡ before_first (λ b. eqb b c) s) × (x.1.now ≡ after_first (λ b. eqb b c) s))
    → MatchOption r (parts_at c s ≡ s ∷ []) (λ x. parts_at c s ≡ x.0.now ∷ parts_at c x.1.now)
cut_is c s None h = none_of c s h
cut_is c s (Some x) h = rw (h.1, h.2) (first_of c s h.0)

pub some_part : (r : Option (Bor (List ℕ) × Bor (List ℕ))) (A : Type 0) (B : Bor (List ℕ) × Bor (List ℕ) → Type 0) → MatchOption r A B → IfSome r B
some_part None A B h = tt
some_part (Some x) A B h = h

pub none_part : (r : Option (Bor (List ℕ) × Bor (List ℕ))) (A : Type 0) (B : Bor (List ℕ) × Bor (List ℕ) → Type 0) → MatchOption r A B → IfNone r A
none_part None A B h = h
none_part (Some x) A B h = tt

-- a text has at least one part
pub some_parts : (c : ℕ) (s : List ℕ) → (x : List ℕ) × (xs : List (List ℕ)) × (parts_at c s ≡ x ∷ xs)
some_parts c [] = ([], [], refl)
some_parts c (b ∷ bs) =
    elim (b == c) as (λ t. (x : List ℕ) × (xs : List (List ℕ)) × (cond t ([] ∷ parts_at c bs) (onto_first b (parts_at c bs)) ≡ x ∷ xs)) [
      | true ↦ ([], parts_at c bs, refl)
      | false ↦ elim (parts_at c bs) as (λ ps. (x : List ℕ) × (xs : List (List ℕ)) × (onto_first b ps ≡ x ∷ xs)) [
        | [] ↦ (b ∷ [], [], refl)
        | p ∷ ps ↦ (b ∷ p, ps, refl)
      ]
    ]
