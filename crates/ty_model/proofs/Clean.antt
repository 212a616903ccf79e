-- Where change revisions stand for a list of versions, they tell which ids are clean.
use Rattle.std.proofs.Common.{◌≡◌, ℕ, ◌≤◌, Bool, true, false, cond, ◌&&◌, List, [], ◌∷◌, map, refl, sym, ap, ◌∙◌, arith, inl, inr}
use Rattle.std.specs.Prelude.{nat_le}
use Rattle.std.specs.List.{list_all}
use Rattle.std.proofs.lemmas.Bool.Decides.{leb_tells}
use Rattle.std.proofs.lemmas.Bool.{and_parts}
use Rattle.std.specs.FinMap as finmap
use Rattle.ty_model.specs.Values.{Id, same_answer}
use Rattle.ty_model.specs.Places.{Resolver}
use Rattle.ty_model.specs.Places.{Place, At, Rootless, RefusedAt, place_of}
use Rattle.ty_model.specs.Version.{Version, same_stamp}
use Rattle.ty_model.specs.Standing.{since, all_same, same_option, at_path, same_at_path, RisesByOne, Agrees, Changes, changed_id, StandsFor, entries_at, same_entries_at, at_place_of, nothing_at, is_clean, are_clean, path_by, clean_by}
use Rattle.ty_model.proofs.Standing.{not_later, since_none, le_true}

-- ---- tests of a list

-- a test of two versions, at all of these
abbrev pub all_alike : (Version → Version → Bool) → List Version → Bool
all_alike same [] = true
all_alike same (x ∷ xs) = list_all (same x) xs

list_all_map : {A : Type 0} (p : A → Bool) (f : Version → A) (xs : List Version) → list_all p (map f xs) ≡ list_all (λ x. p (f x)) xs
list_all_map p f [] = refl
list_all_map p f (x ∷ xs) = ap (λ b. p (f x) && b) (list_all_map p f xs)

all_same_map : {A : Type 0} (same : A → A → Bool) (f : Version → A) (xs : List Version) → all_same same (map f xs) ≡ all_alike (λ x y. same (f x) (f y)) xs
all_same_map same f [] = refl
all_same_map same f (x ∷ xs) = list_all_map (same (f x)) f xs

four : (a b c d : Bool) → ((a && b) && (c && d)) ≡ ((a && c) && (b && d))
four true true c d = refl
four true false true d = refl
four true false false d = refl
four false b true d = refl
four false b false d = refl

list_all_and : (p q : Version → Bool) (xs : List Version) → list_all (λ x. p x && q x) xs ≡ (list_all p xs && list_all q xs)
list_all_and p q [] = refl
list_all_and p q (x ∷ xs) = ap (λ b. (p x && q x) && b) (list_all_and p q xs) ∙ four (p x) (q x) (list_all p xs) (list_all q xs)

all_alike_and : (p q : Version → Version → Bool) (xs : List Version) → all_alike (λ x y. p x y && q x y) xs ≡ (all_alike p xs && all_alike q xs)
all_alike_and p q [] = refl
all_alike_and p q (x ∷ xs) = list_all_and (p x) (q x) xs

list_all_true : (p : Version → Bool) → ((x : Version) → p x ≡ true) → (xs : List Version) → list_all p xs ≡ true
list_all_true p h [] = refl
list_all_true p h (x ∷ xs) = rw (h x, list_all_true p h xs)

last_false : (a b : Bool) → b ≡ false → (a && b) ≡ false
last_false true b h = h
last_false false b h = refl

-- ---- resolvers

-- where all of these have the reset stamp of v, a test that reads their resolvers reads that of v
same_place : (v : Version) (id : Id) (us : List Version) (r : ℕ) → Agrees v us → list_all (λ u. same_stamp v.reset u.reset) (since r us) ≡ true
    → list_all (λ u. same_at_path (at_place_of v.layers (place_of v.resolver id)) (at_place_of u.layers (place_of u.resolver id))) (since r us)
    ≡ list_all (λ u. same_at_path (at_place_of v.layers (place_of v.resolver id)) (at_place_of u.layers (place_of v.resolver id))) (since r us)
same_place v id [] r h t = refl
same_place v id (u ∷ us) r h t =
    let here = λ (resolver : Resolver). same_at_path (at_place_of v.layers (place_of v.resolver id)) (at_place_of u.layers (place_of resolver id)) in
    let left = λ (x : Version). same_at_path (at_place_of v.layers (place_of v.resolver id)) (at_place_of x.layers (place_of x.resolver id)) in
    let right = λ (x : Version). same_at_path (at_place_of v.layers (place_of v.resolver id)) (at_place_of x.layers (place_of v.resolver id)) in
    let stamp = λ (x : Version). same_stamp v.reset x.reset in
    elim (nat_le r u.revision) as (λ b. list_all stamp (cond b (u ∷ since r us) (since r us)) ≡ true → list_all left (cond b (u ∷ since r us) (since r us)) ≡ list_all right (cond b (u ∷ since r us) (since r us))) [
      | true ↦ λ g.
          let p = and_parts (stamp u) (list_all stamp (since r us)) g in
          let resolver : v.resolver ≡ u.resolver = h.0 p.0 in
          let heads : left u ≡ right u = ap here (sym resolver) in
          λ i. heads i && same_place v id us r h.1 p.1 i
      | false ↦ λ g. same_place v id us r h.1 g
    ] t

none : (us : List Version) → true ≡ all_alike (λ x y. same_at_path nothing_at nothing_at) us
none [] = refl
none (u ∷ us) = sym (list_all_true (λ x. same_at_path nothing_at nothing_at) (λ x. refl) us)

-- ---- clean

module _ (c : Changes) (v : Version) (vs : List Version) (s : StandsFor c (v ∷ vs)) (r : ℕ) (id : Id) where
  abbrev recent : List Version
  recent = since r (v ∷ vs)

  abbrev id_alike : Version → Version → Bool
  id_alike x y = same_option same_answer (finmap.get x.layers.by_id id) (finmap.get y.layers.by_id id)

  abbrev place_alike : Version → Version → Bool
  place_alike x y = same_at_path (at_place_of x.layers (place_of x.resolver id)) (at_place_of y.layers (place_of y.resolver id))

  abbrev reset_alike : Version → Version → Bool
  reset_alike x y = same_stamp x.reset y.reset

  parts : is_clean (v ∷ vs) r id ≡ ((all_alike id_alike recent && all_alike place_alike recent) && all_alike reset_alike recent)
  parts =
      all_same_map same_entries_at (λ u. entries_at u id) recent
      ∙ all_alike_and (λ x y. id_alike x y && place_alike x y) reset_alike recent
      ∙ ap (λ b. b && all_alike reset_alike recent) (all_alike_and id_alike place_alike recent)

  resets_are : nat_le c.reset r ≡ all_alike reset_alike recent
  resets_are = s.resets r ∙ all_same_map same_stamp (λ u. u.reset) recent

  ids_are : c.reset ≤ r → nat_le (changed_id c id) r ≡ all_alike id_alike recent
  ids_are low = s.ids id r low ∙ all_same_map (same_option same_answer) (λ u. finmap.get u.layers.by_id id) recent

  -- the places are those of the last resolver
  at_one_place : c.reset ≤ r → all_alike place_alike recent ≡ all_alike (λ x y. same_at_path (at_place_of x.layers (place_of v.resolver id)) (at_place_of y.layers (place_of v.resolver id))) recent
  at_one_place low =
      elim (leb_tells r v.revision) [
        | inl p ↦
            let e : recent ≡ v ∷ since r vs = rw p.0 in
            let stamps : all_alike reset_alike recent ≡ true = sym resets_are ∙ le_true c.reset r low in
            let tail : list_all (λ u. same_stamp v.reset u.reset) (since r vs) ≡ true = sym (ap (all_alike reset_alike) e) ∙ stamps in
            ap (all_alike place_alike) e ∙ same_place v id vs r s.history.agreed.0 tail
            ∙ sym (ap (all_alike (λ x y. same_at_path (at_place_of x.layers (place_of v.resolver id)) (at_place_of y.layers (place_of v.resolver id)))) e)
        | inr p ↦
            let e : recent ≡ [] = since_none v.revision r (v ∷ vs) (not_later v vs s.history.rising) p.1 in
            rw e
      ]

  by_place : c.reset ≤ r → (place : Place) → path_by c r place ≡ all_alike (λ x y. same_at_path (at_place_of x.layers place) (at_place_of y.layers place)) recent
  by_place low (At path) = s.paths path r low ∙ all_same_map same_at_path (λ u. at_path u.layers path) recent
  by_place low Rootless = none recent
  by_place low (RefusedAt refusal) = none recent

  pub clean_is : clean_by c v.resolver r id ≡ is_clean (v ∷ vs) r id
  clean_is =
      elim (leb_tells c.reset r) [
        | inl p ↦
            let low = p.1 in
            (λ i. (ids_are low i && (by_place low (place_of v.resolver id) ∙ sym (at_one_place low)) i) && resets_are i) ∙ sym parts
        | inr p ↦
            let gone : all_alike reset_alike recent ≡ false = sym resets_are ∙ p.0 in
            last_false _ _ p.0 ∙ sym (parts ∙ last_false _ _ gone)
      ]

pub clean_all : (c : Changes) (v : Version) (vs : List Version) (s : StandsFor c (v ∷ vs)) (r : ℕ) (ids : List Id) → list_all (clean_by c v.resolver r) ids ≡ are_clean (v ∷ vs) r ids
clean_all c v vs s r [] = refl
clean_all c v vs s r (id ∷ ids) = λ i. clean_is c v vs s r id i && clean_all c v vs s r ids i

-- ---- since the newest revision

older_none : (v : Version) (vs : List Version) (r : ℕ) → RisesByOne (v ∷ vs) → v.revision ≤ r → since r vs ≡ []
older_none v [] r rising le = refl
older_none v (w ∷ ws) r rising le = since_none w.revision r (w ∷ ws) (not_later w ws rising.1) (let up = rising.0 in omega arith)

one_newest : (v : Version) (vs : List Version) (r : ℕ) → RisesByOne (v ∷ vs) → v.revision ≤ r → (id : Id) → is_clean (v ∷ vs) r id ≡ true
one_newest v vs r rising le id =
    let none = older_none v vs r rising le in
    elim (nat_le r v.revision) as (λ b. all_same same_entries_at (map (λ u. entries_at u id) (cond b (v ∷ since r vs) (since r vs))) ≡ true) [
      | true ↦ rw none
      | false ↦ rw none
    ]

-- since the newest revision every id is clean
pub newest_clean : (v : Version) (vs : List Version) (r : ℕ) → RisesByOne (v ∷ vs) → v.revision ≤ r → (ids : List Id) → are_clean (v ∷ vs) r ids ≡ true
newest_clean v vs r rising le [] = refl
newest_clean v vs r rising le (id ∷ ids) = rw (one_newest v vs r rising le id, newest_clean v vs r rising le ids)
