-- Clean ids by the lists of all versions.
use Rattle.std.proofs.Common.{◌≡◌, ℕ, ◌≤◌, ◌&&◌, Bool, true, false, cond, List, [], ◌∷◌, map, refl, sym, ap, ◌∙◌}
use Rattle.std.specs.Prelude.{nat_le}
use Rattle.std.specs.List.{list_all}
use Rattle.std.proofs.lemmas.Bool.{le-leb}
use Rattle.ty_model.specs.Values.{Id}
use Rattle.ty_model.specs.Version.{Version}
use Rattle.ty_model.specs.Space as model
use Rattle.ty_model.specs.Standing.{since, all_same, entries_at, same_entries_at, is_clean, are_clean}
use Rattle.tinymist_plain.specs.Kept.{Listed, listed, version_of, id_entries, same_past, all_clean, space_of, part_of}
use Rattle.tinymist_plain.specs.declared.space.Space.{Space}
use Rattle.tinymist_plain.proofs.Edits.{latest_is}
use Rattle.tinymist_plain.proofs.Looks.{entries_are}

by_past : (now : Version) (r : ℕ) (id : Id) (past : List Version) → list_all (same_entries_at (entries_at now id)) (map (λ v. entries_at v id) (since r past)) ≡ same_past (listed now) r id (map listed past)
by_past now r id [] = refl
by_past now r id (v ∷ vs) = elim (nat_le r v.revision) as (λ b. list_all (same_entries_at (entries_at now id)) (map (λ v. entries_at v id) (cond b (v ∷ since r vs) (since r vs))) ≡ cond b (same_entries_at (id_entries (listed now) id) (id_entries (listed v) id) && same_past (listed now) r id (map listed vs)) (same_past (listed now) r id (map listed vs))) [
  | true ↦ λ j. same_entries_at (entries_are now id j) (entries_are v id j) && by_past now r id vs j
  | false ↦ by_past now r id vs
]

clean_is : (now : Version) (past : List Version) (r : ℕ) (id : Id) → nat_le r now.revision ≡ true → is_clean (now ∷ past) r id ≡ same_past (listed now) r id (map listed past)
clean_is now past r id within = ap (λ b. all_same same_entries_at (map (λ v. entries_at v id) (cond b (now ∷ since r past) (since r past)))) within ∙ by_past now r id past

past_of : ℕ → Id → List Listed → Bool
past_of r id [] = true
past_of r id (v ∷ vs) = same_past v r id vs

module _ (p : Space) (s : model.Space) (r : ℕ) (is : space_of p ≡ part_of s) (within : r ≤ p.latest.revision) where
  one_clean : (id : Id) → same_past (version_of p.latest) r id (map version_of p.past.items) ≡ is_clean (s.now ∷ s.past) r id
  unfolding past_of
  one_clean id =
      let same : p.latest.revision ≡ s.now.revision = ap (λ (v : Listed). v.revision) (latest_is p s is) in
      ap (λ (k : ℕ × List Listed). past_of r id k.1) is ∙ sym (clean_is s.now s.past r id (ap (nat_le r) (sym same) ∙ le-leb r p.latest.revision within))

  pub cleans : (ids : List Id) → all_clean p r ids ≡ are_clean (s.now ∷ s.past) r ids
  cleans ids = λ j. list_all (λ id. one_clean id j) ids
