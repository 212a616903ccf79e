-- A clean path and names behind it join to a clean path.
use Rattle.std.proofs.Common.{◌≡◌, ℕ, Bool, true, false, true≢false, cond, ◌&&◌, ◌||◌, eqb, List, [], ◌∷◌, ◌++◌, refl, sym, ap, ◌∙◌, bytes_eq, ◌⊎◌, inl, inr}
use Rattle.std.proofs.lemmas.Bool.{eqb-true}
use Rattle.std.proofs.lemmas.Slice.Eq.{bytes_eq-Decides}
use Rattle.ty_model.specs.Paths.{onto_first, parts_at, is_absolute, ends_in_slash, dot, dot_dot, counts, or_dot, clean, join}
use Rattle.ty_model.proofs.PathLaws.{parts-slash}
use Rattle.ty_path.specs.Clean.{are_clean}
use Rattle.ty_path.proofs.CleanLaws.{clean_text, clean_text-is, clean_text-from, are_clean-append, parts_text, dotted_text, absolute_text, relative_text}

-- ---- names behind a path

pub names_relative : (other : List ℕ) → are_clean false (parts_at 47 other) ≡ true → is_absolute other ≡ false
names_relative [] h = refl
names_relative (b ∷ other) h =
    elim (eqb b 47) as (λ t. eqb b 47 ≡ t → are_clean false (parts_at 47 (b ∷ other)) ≡ true → t ≡ false) [
      | true ↦ λ is h. absurd (true≢false (sym h ∙ ap (λ t. are_clean false (cond t ([] ∷ parts_at 47 other) (onto_first b (parts_at 47 other)))) is))
      | false ↦ λ _ _. refl
    ] refl h

names_some : (other : List ℕ) → are_clean false (parts_at 47 other) ≡ true → bytes_eq other [] ≡ false
names_some [] h = absurd (true≢false (sym h))
names_some (b ∷ other) h = refl

join_names : (b : ℕ) (base other : List ℕ) → are_clean false (parts_at 47 other) ≡ true → join (b ∷ base) other ≡ cond (ends_in_slash (b ∷ base)) ((b ∷ base) ++ other) ((b ∷ base) ++ 47 ∷ other)
join_names b base other h = rw (names_relative other h, names_some other h) refl

pub names_behind_dot : (base other : List ℕ) → bytes_eq base dot ≡ true → are_clean false (parts_at 47 other) ≡ true → other ≡ clean (join base other)
names_behind_dot base other is h =
    sym (ap (λ b. clean (join b other)) ((bytes_eq-Decides base dot).0 is)
    ∙ ap clean (join_names 46 [] other h) ∙ ap or_dot (parts_text false other h) ∙ dotted_text false other h)

-- ---- no clean part ends in a slash

ends-some : (text : List ℕ) → ends_in_slash text ≡ true → (front : List ℕ) × (text ≡ front ++ 47 ∷ [])
ends-some [] h = absurd (true≢false (sym h))
ends-some (b ∷ []) h = ([], ap (λ x. x ∷ []) (eqb-true b 47 h))
ends-some (b ∷ c ∷ text) h = let more = ends-some (c ∷ text) h in (b ∷ more.0, ap (λ xs. b ∷ xs) more.1)

and_none : (a b : Bool) → b ≡ false → (a && b) ≡ false
and_none true b h = h
and_none false b h = refl

last_empty : (ups : Bool) (ps : List (List ℕ)) → are_clean ups (ps ++ [] ∷ []) ≡ false
last_empty ups [] = refl
last_empty ups (p ∷ ps) =
    elim (bytes_eq p dot_dot) as (λ t. cond t (ups && are_clean true (ps ++ [] ∷ [])) (counts p && are_clean false (ps ++ [] ∷ [])) ≡ false) [
      | true ↦ and_none ups _ (last_empty true ps)
      | false ↦ and_none (counts p) _ (last_empty false ps)
    ]

no_end : (ups : Bool) (text : List ℕ) → are_clean ups (parts_at 47 text) ≡ true → ends_in_slash text ≡ false
no_end ups text h =
    elim (ends_in_slash text) as (λ t. ends_in_slash text ≡ t → t ≡ false) [
      | true ↦ λ is.
          let some = ends-some text is in
          absurd (true≢false (sym h ∙ ap (λ t. are_clean ups (parts_at 47 t)) some.1 ∙ ap (are_clean ups) (parts-slash some.0 []) ∙ last_empty ups (parts_at 47 some.0)))
      | false ↦ λ _. refl
    ] refl

-- ---- a clean path and names

-- the root, a path behind it, or a relative path
abbrev pub Kinds : List ℕ → Type 0
Kinds text = (text ≡ 47 ∷ []) ⊎ (((rest : List ℕ) × (text ≡ 47 ∷ rest) × (are_clean false (parts_at 47 rest) ≡ true)) ⊎ ((is_absolute text ≡ false) × (are_clean true (parts_at 47 text) ≡ true)))

pub kinds : (text : List ℕ) → clean_text text ≡ true → bytes_eq text dot ≡ false → Kinds text
kinds [] h other = absurd (true≢false (sym h))
kinds (b ∷ bs) h other =
    elim (bytes_eq (b ∷ bs) (47 ∷ [])) as (λ t. bytes_eq (b ∷ bs) (47 ∷ []) ≡ t → (t || cond (eqb b 47) (are_clean false (parts_at 47 bs)) (are_clean true (parts_at 47 (b ∷ bs)))) ≡ true → Kinds (b ∷ bs)) [
      | true ↦ λ is _. inl ((bytes_eq-Decides (b ∷ bs) (47 ∷ [])).0 is)
      | false ↦ λ _ h. elim (eqb b 47) as (λ t. eqb b 47 ≡ t → cond t (are_clean false (parts_at 47 bs)) (are_clean true (parts_at 47 (b ∷ bs))) ≡ true → Kinds (b ∷ bs)) [
        | true ↦ λ is h. inr (inl (bs, ap (λ (x : ℕ). x ∷ bs) (eqb-true b 47 is), h))
        | false ↦ λ relative h. inr (inr (relative, h))
      ] refl h
    ] refl (sym (ap (λ t. t || (bytes_eq (b ∷ bs) (47 ∷ []) || cond (eqb b 47) (are_clean false (parts_at 47 bs)) (are_clean true (parts_at 47 (b ∷ bs))))) other) ∙ h)

below_path : (b : ℕ) (base other : List ℕ) → are_clean false (parts_at 47 other) ≡ true → ends_in_slash (b ∷ base) ≡ false → join (b ∷ base) other ≡ (b ∷ base) ++ 47 ∷ other
below_path b base other h e = join_names b base other h ∙ ap (λ t. cond t ((b ∷ base) ++ other) ((b ∷ base) ++ 47 ∷ other)) e

joined_absolute : (rest other : List ℕ) → are_clean false (parts_at 47 rest) ≡ true → are_clean false (parts_at 47 other) ≡ true → clean_text (join (47 ∷ rest) other) ≡ true
joined_absolute [] other r h = absurd (true≢false (sym r))
joined_absolute (c ∷ rest) other r h =
    ap clean_text (below_path 47 (c ∷ rest) other h (no_end false (c ∷ rest) r))
    ∙ absolute_text ((c ∷ rest) ++ 47 ∷ other) (ap (are_clean false) (parts-slash (c ∷ rest) other) ∙ are_clean-append false (parts_at 47 (c ∷ rest)) (parts_at 47 other) r h)

joined_relative : (base other : List ℕ) → is_absolute base ≡ false → are_clean true (parts_at 47 base) ≡ true → are_clean false (parts_at 47 other) ≡ true → clean_text (join base other) ≡ true
joined_relative [] other not_root r h = absurd (true≢false (sym r))
joined_relative (b ∷ base) other not_root r h =
    ap clean_text (below_path b base other h (no_end true (b ∷ base) r))
    ∙ relative_text b (base ++ 47 ∷ other) not_root (ap (are_clean true) (parts-slash (b ∷ base) other) ∙ are_clean-append true (parts_at 47 (b ∷ base)) (parts_at 47 other) r h)

pub names_behind : (base other : List ℕ) → clean base ≡ base → bytes_eq base dot ≡ false → are_clean false (parts_at 47 other) ≡ true → clean (join base other) ≡ join base other
names_behind base other c not_dot h =
    clean_text-is (join base other) (elim (kinds base (clean_text-from base c) not_dot) [
      | inl root ↦ ap (λ b. clean_text (join b other)) root ∙ ap clean_text (join_names 47 [] other h) ∙ absolute_text other h
      | inr (inl more) ↦ ap (λ b. clean_text (join b other)) more.1 ∙ joined_absolute more.0 other more.2 h
      | inr (inr relative) ↦ joined_relative base other relative.0 relative.1 h
    ])
