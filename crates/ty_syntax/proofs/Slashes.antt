-- Slashes at the front of a text, and the depth of its parts.
use Rattle.std.proofs.Common.{◌≡◌, ◌≢◌, ℕ, ◌==◌, Bool, true, false, cond, not, ◌||◌, List, [], ◌∷◌, map, filter, refl, sym, ap, Option, Some, None}
use Rattle.std.proofs.lemmas.Bool.{eqb-true}
use Rattle.std.specs.Prelude.{is_some}
use Rattle.std.specs.Option.{option_map_or}
use Rattle.std.specs.Str.{bytes_eq}
use Rattle.ty_model.specs.Paths.{without_slash, counted, counted_after_dot, component_of, climbs_from, escapes, is_absolute, parts_at, dot, counts, CurDir, RootDir}

-- a text that doesn't begin with a slash has none to lose
pub without_none : (text : List ℕ) → ((rest : List ℕ) → text ≢ 47 ∷ rest) → text ≡ without_slash text
without_none [] none = refl
without_none (b ∷ bs) none =
    elim (b == 47) as (λ t. (b == 47) ≡ t → b ∷ bs ≡ cond t bs (b ∷ bs)) [
      | true ↦ λ is. absurd (none bs (ap (λ (x : ℕ). x ∷ bs) (eqb-true b 47 is)))
      | false ↦ λ _. refl
    ] refl

-- a part . counts for nothing
counts-dot : (part : List ℕ) → bytes_eq part dot ≡ true → counts part ≡ false
counts-dot part is = elim (bytes_eq part []) as (λ t. not (t || bytes_eq part dot) ≡ false) [
  | true ↦ refl
  | false ↦ ap not is
]

counted-dot : (part : List ℕ) (parts : List (List ℕ)) → bytes_eq part dot ≡ true → counted (part ∷ parts) ≡ counted parts
counted-dot part parts is = ap (λ t. map component_of (cond t (part ∷ filter counts parts) (filter counts parts))) (counts-dot part is)

-- a first . counts for nothing
climbs-dot : (parts : List (List ℕ)) → climbs_from 0 (counted_after_dot parts) ≡ climbs_from 0 (counted parts)
climbs-dot [] = refl
climbs-dot (part ∷ parts) =
    elim (bytes_eq part dot) as (λ t. bytes_eq part dot ≡ t → climbs_from 0 (cond t (CurDir ∷ counted parts) (counted (part ∷ parts))) ≡ climbs_from 0 (counted (part ∷ parts))) [
      | true ↦ λ is. ap (climbs_from 0) (sym (counted-dot part parts is))
      | false ↦ λ _. refl
    ] refl

-- the root counts for nothing
pub climbs-parts : (text : List ℕ) → climbs_from 0 (counted (parts_at 47 text)) ≡ escapes text
climbs-parts text =
    elim (is_absolute text) as (λ t. climbs_from 0 (counted (parts_at 47 text)) ≡ climbs_from 0 (cond t (RootDir ∷ counted (parts_at 47 text)) (counted_after_dot (parts_at 47 text)))) [
      | true ↦ refl
      | false ↦ sym (climbs-dot (parts_at 47 text))
    ]

-- after the last part
pub climbs-last : (after : Option ℕ) (b : Bool) → is_some after ≡ not b → option_map_or (λ d. climbs_from d []) after true ≡ b
climbs-last None true is = refl
climbs-last None false is = cc
climbs-last (Some d) true is = cc
climbs-last (Some d) false is = refl
