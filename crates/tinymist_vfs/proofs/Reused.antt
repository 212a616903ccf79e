-- An id that is clean has the same answer in all versions since.
use Rattle.std.proofs.Common.{◌≡◌, ◌≤◌, ℕ, Bool, true, false, cond, ◌&&◌, List, [], ◌∷◌, map, refl, sym, ap, ◌∙◌, arith, Result, Ok, Err}
use Rattle.std.specs.Prelude.{nat_le, All, Contains, IfOk, IsTrue}
use Rattle.std.specs.List.{list_all}
use Rattle.std.specs.Option.{option_or}
use Rattle.std.proofs.lemmas.Bool.{and_parts}
use Rattle.std.proofs.lemmas.List.Elements.{All-cons, All-contains}
use Rattle.ty_model.specs.Values.{Id, same_answer}
use Rattle.ty_model.specs.Places.{Resolver, Place, At, Rootless, RefusedAt, place_of}
use Rattle.ty_model.specs.Version.{Layers, Version, same_stamp}
use Rattle.ty_model.specs.Disk.{Told}
use Rattle.ty_model.specs.LookUp.{Decision, Asks, said_or, place_decision, decision, answer_by, look}
use Rattle.ty_model.specs.Standing.{since, all_same, same_option, AtPath, same_at_path, at_place_of, entries_at, same_entries_at, is_clean, are_clean, clean_by, Agrees, AllAgree}
use Rattle.ty_model.specs.Held.{Kept, version_of, Standing}
use Rattle.ty_model.proofs.Tests.{same_answer-Decides, same_option-Decides, same_at_path-Decides}
use Rattle.ty_syntax.specs.declared.error.FileFault.{FileFault}
use Rattle.tinymist_vfs.specs.Reading.{source_of}
use Rattle.tinymist_vfs.specs.Reuse.{SameAnswers}
use Rattle.ty_model.proofs.Clean.{newest_clean}
use Rattle.tinymist_vfs.proofs.Stood.{clean_stood}

-- ---- two versions

same_at_place : (l m : Layers) (place : Place) → at_place_of l place ≡ at_place_of m place → place_decision l place ≡ place_decision m place
same_at_place l m (At path) is = ap (λ (a : AtPath). said_or (option_or a.shadow a.told) (Asks path)) is
same_at_place l m Rootless is = refl
same_at_place l m (RefusedAt refusal) is = refl

-- the same entries, and the same resolver where the reset stamps are the same
module _ (v w : Version) (id : Id) (agrees : same_stamp v.reset w.reset ≡ true → v.resolver ≡ w.resolver) where
  decide_alike : same_entries_at (entries_at v id) (entries_at w id) ≡ true → decision v id ≡ decision w id
  decide_alike same =
      let a = entries_at v id in
      let b = entries_at w id in
      let outer = and_parts (same_option same_answer a.shadow b.shadow && same_at_path a.path b.path) (same_stamp a.reset b.reset) same in
      let inner = and_parts (same_option same_answer a.shadow b.shadow) (same_at_path a.path b.path) outer.0 in
      let shadows = (same_option-Decides same_answer same_answer-Decides a.shadow b.shadow).0 inner.0 in
      let paths = (same_at_path-Decides a.path b.path).0 inner.1 in
      let places : place_of w.resolver id ≡ place_of v.resolver id = ap (λ (r : Resolver). place_of r id) (sym (agrees outer.1)) in
      let by_place : place_decision v.layers (place_of v.resolver id) ≡ place_decision w.layers (place_of w.resolver id) =
      same_at_place v.layers w.layers (place_of v.resolver id) (paths ∙ ap (at_place_of w.layers) places) ∙ ap (place_decision w.layers) (sym places) in
      λ i. said_or (shadows i) (by_place i)

-- ---- a list of versions

all_alike : (v : Version) (id : Id) (us : List Version) → Agrees v us → list_all (same_entries_at (entries_at v id)) (map (λ u. entries_at u id) us) ≡ true → All (λ (u : Version). decision v id ≡ decision u id) us
all_alike v id [] agrees same = λ k d lt. absurd (omega arith)
all_alike v id (u ∷ us) agrees same =
    let p = and_parts (same_entries_at (entries_at v id) (entries_at u id)) (list_all (same_entries_at (entries_at v id)) (map (λ (x : Version). entries_at x id) us)) same in
    All-cons (λ (x : Version). decision v id ≡ decision x id) u us (decide_alike v u id agrees.0 p.0) (all_alike v id us agrees.1 p.1)

one_decision : (us : List Version) (id : Id) → AllAgree us → all_same same_entries_at (map (λ u. entries_at u id) us) ≡ true → (v w : Version) → Contains us v → Contains us w → decision v id ≡ decision w id
one_decision [] id agree same v w has_v has_w = absurd (omega (arith, has_v.1))
one_decision (u ∷ us) id agree same v w has_v has_w =
    let alike = λ (x : Version). decision u id ≡ decision x id in
    let each : All alike (u ∷ us) = All-cons alike u us refl (all_alike u id us agree.0 same) in
    sym (All-contains alike (u ∷ us) v each has_v) ∙ All-contains alike (u ∷ us) w each has_w

agrees_since : (v : Version) (r : ℕ) (us : List Version) → Agrees v us → Agrees v (since r us)
agrees_since v r [] agrees = tt
agrees_since v r (u ∷ us) agrees =
    elim (nat_le r u.revision) as (λ b. Agrees v (cond b (u ∷ since r us) (since r us))) [
      | true ↦ (agrees.0, agrees_since v r us agrees.1)
      | false ↦ agrees_since v r us agrees.1
    ]

agree_since : (r : ℕ) (vs : List Version) → AllAgree vs → AllAgree (since r vs)
agree_since r [] agree = tt
agree_since r (v ∷ vs) agree =
    elim (nat_le r v.revision) as (λ b. AllAgree (cond b (v ∷ since r vs) (since r vs))) [
      | true ↦ (agrees_since v r vs agree.0, agree_since r vs agree.1)
      | false ↦ agree_since r vs agree.1
    ]

-- ---- ids that are clean

all_true : (test : Id → Bool) (ids : List Id) → list_all test ids ≡ true → All (λ (id : Id). test id ≡ true) ids
all_true test [] is = λ k d lt. absurd (omega arith)
all_true test (id ∷ ids) is =
    let p = and_parts (test id) (list_all test ids) is in
    All-cons (λ (x : Id). test x ≡ true) id ids p.0 (all_true test ids p.1)

-- ids that are clean have the same answers and sources in all versions since
pub same_answers : (versions : List Version) (r : ℕ) (disk : Told) (ids : List Id) → AllAgree versions → are_clean versions r ids ≡ true → SameAnswers versions r disk ids
same_answers versions r disk ids agree clean id v w has has_v has_w =
    let here : is_clean versions r id ≡ true = All-contains (λ (x : Id). is_clean versions r x ≡ true) ids id (all_true (is_clean versions r) ids clean) has in
    let one = one_decision (since r versions) id (agree_since r versions agree) here v w has_v has_w in
    let looks : look v disk id ≡ look w disk id = ap (λ (d : Decision). answer_by d disk) one in
    (looks, ap source_of looks)

-- the answer of a call that finds all of these clean
pub reused : {R : Type 0} (known : R → Resolver) (k : Kept R) (past : List Version) → Standing known k past → (r : ℕ) (ids : List Id) (disk : Told) (result : Result Bool FileFault)
    → IfOk result (λ b. b ≡ list_all (clean_by k.held.changes (known k.resolver) r) ids) → IfOk result (λ b. IsTrue b → SameAnswers (version_of known k ∷ past) r disk ids)
reused known k past s r ids disk (Ok b) h = λ is. same_answers (version_of known k ∷ past) r disk ids s.history.agreed (sym (clean_stood known k past s r ids (Ok b) h) ∙ is)
reused known k past s r ids disk (Err e) h = h

-- since the newest revision every id is clean
pub newest_reused : {R : Type 0} (known : R → Resolver) (k : Kept R) (past : List Version) → Standing known k past → (r : ℕ) (ids : List Id) (disk : Told) → k.held.revision ≤ r → SameAnswers (version_of known k ∷ past) r disk ids
newest_reused known k past s r ids disk le = same_answers (version_of known k ∷ past) r disk ids s.history.agreed (newest_clean (version_of known k) past r s.history.rising le ids)
