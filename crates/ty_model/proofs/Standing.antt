-- Change revisions still stand for the versions after one more.
use Rattle.std.proofs.Common.{◌≡◌, ℕ, ◌+◌, ◌<◌, ◌≤◌, Bool, true, false, cond, ◌&&◌, List, [], ◌∷◌, map, refl, sym, ap, subst, ◌∙◌, arith, Option, Some, None, inl, inr}
use Rattle.std.specs.Prelude.{nat_le}
use Rattle.std.specs.Bool.{Decides}
use Rattle.std.specs.List.{list_all}
use Rattle.std.specs.Option.{unwrap_or}
use Rattle.std.proofs.lemmas.Bool.{le-leb}
use Rattle.std.proofs.lemmas.Bool.Decides.{leb_tells}
use Rattle.std.specs.Ordering.{eq_by_cmp}
use Rattle.std.specs.FinMap as finmap
use Rattle.ty_model.specs.Values.{Id, id_cmp, text_cmp, Answer, same_answer}
use Rattle.ty_model.specs.Places.{Resolver}
use Rattle.ty_model.specs.Version.{Stamp, Layers, Version, same_stamp}
use Rattle.ty_model.specs.Batch.{Item, MapPath, UnmapPath, MapId, UnmapId, Clear, ChangeSet, ChangeView, reset, rises, staged, next_stamp, dropped, applied, applied_all}
use Rattle.ty_model.specs.Standing.{since, all_same, same_since, same_option, at_path, same_at_path, RisesByOne, IsStamped, AllStamped, Agrees, Changes, changed_id, changed_path, StandsFor, Marks, Held, IsCommit, version_with, past_after, Stands}
use Rattle.ty_model.specs.Touched.{commit_held}
use Rattle.ty_model.proofs.Commits.{is_commit}
use Rattle.ty_model.proofs.Tests.{text_total, same_answer-Decides, same_option-Decides, same_at_path-Decides, same_stamp-Decides}

pub le_true : (n m : ℕ) → n ≤ m → nat_le n m ≡ true
le_true n m h = le-leb n m h

pub le_false : (n m : ℕ) → m < n → nat_le n m ≡ false
le_false n m h = elim (leb_tells n m) [ inl p ↦ absurd (omega (arith, p.1)) | inr p ↦ p.0 ]

pub true_le : (n m : ℕ) → nat_le n m ≡ true → n ≤ m
true_le n m h = elim (leb_tells n m) [ inl p ↦ p.1 | inr p ↦ absurd (let e = p.0 in cc) ]

-- ---- the revisions of a history

-- no version of the tail is later than v
abbrev pub NotLater : ℕ → List Version → Type 0
NotLater n [] = Unit {0}
NotLater n (v ∷ vs) = (v.revision ≤ n) × NotLater n vs

weaken : (n m : ℕ) (vs : List Version) → n ≤ m → NotLater n vs → NotLater m vs
weaken n m [] le h = tt
weaken n m (v ∷ vs) le h = (omega arith, weaken n m vs le h.1)

pub not_later : (v : Version) (vs : List Version) → RisesByOne (v ∷ vs) → NotLater v.revision (v ∷ vs)
not_later v [] h = (omega arith, tt)
not_later v (w ∷ vs) h =
    let rest = not_later w vs h.1 in
    let up = h.0 in
    let le : w.revision ≤ v.revision = omega arith in
    (omega arith, weaken w.revision v.revision (w ∷ vs) le rest)

pub since_none : (n r : ℕ) (vs : List Version) → NotLater n vs → n < r → since r vs ≡ []
since_none n r [] h lt = refl
since_none n r (v ∷ vs) h lt = rw (le_false r v.revision (omega (arith, h.0)), since_none n r vs h.1 lt)

-- ---- one more version

module _ {A : Type 0} (same : A → A → Bool) (decides : (x y : A) → Decides (same x y) (x ≡ y)) (f : Version → A) where
  -- `c` tells since when f is the same in these versions
  abbrev pub Tells : ℕ → List Version → ℕ → Type 0
  Tells c vs r = nat_le c r ≡ same_since same f r vs

  module _ (w v : Version) (vs : List Version) (rising : RisesByOne (v ∷ vs)) (next : w.revision ≡ v.revision + 1) (c : ℕ) (r : ℕ) (was : Tells c (v ∷ vs) r) where
    later : NotLater v.revision (v ∷ vs)
    later = not_later v vs rising

    -- past the version before, nothing is compared
    past : v.revision < r → nat_le c r ≡ true
    past lt = was ∙ rw (since_none v.revision r (v ∷ vs) later lt)

    alone : v.revision < r → same_since same f r (w ∷ v ∷ vs) ≡ true
    alone lt =
        elim (nat_le r w.revision) as (λ b. all_same same (map f (cond b (w ∷ since r (v ∷ vs)) (since r (v ∷ vs)))) ≡ true) [
          | true ↦ rw (since_none v.revision r (v ∷ vs) later lt)
          | false ↦ rw (since_none v.revision r (v ∷ vs) later lt)
        ]

    within : r ≤ v.revision → same_since same f r (w ∷ v ∷ vs) ≡ (same (f w) (f v) && list_all (same (f w)) (map f (since r vs)))
    within le = rw (le_true r w.revision (omega (arith, next)), le_true r v.revision le)

    before : r ≤ v.revision → nat_le c r ≡ list_all (same (f v)) (map f (since r vs))
    before le = was ∙ rw (le_true r v.revision le)

    pub tells_stays : same (f v) (f w) ≡ true → Tells c (w ∷ v ∷ vs) r
    tells_stays is =
        let e : f v ≡ f w = (decides (f v) (f w)).0 is in
        let back : same (f w) (f v) ≡ true = (decides (f w) (f v)).1 (sym e) in
        elim (leb_tells r v.revision) [
          | inl p ↦ before p.1 ∙ ap (λ (x : A). list_all (same x) (map f (since r vs))) e ∙ sym (within p.1 ∙ rw back)
          | inr p ↦ past (omega (arith, p.1)) ∙ sym (alone (omega (arith, p.1)))
        ]

    pub tells_changed : same (f v) (f w) ≡ false → Tells w.revision (w ∷ v ∷ vs) r
    tells_changed is =
        let no : same (f w) (f v) ≡ false = elim (same (f w) (f v)) as (λ b. same (f w) (f v) ≡ b → b ≡ false) [
          | true ↦ λ h.
              let t : same (f v) (f w) ≡ true = (decides (f v) (f w)).1 (sym ((decides (f w) (f v)).0 h)) in
              sym t ∙ is
          | false ↦ λ _. refl
        ] refl in
        elim (leb_tells r v.revision) [
          | inl p ↦ le_false w.revision r (omega (arith, next, p.1)) ∙ sym (within p.1 ∙ rw no)
          | inr p ↦ le_true w.revision r (omega (arith, next, p.1)) ∙ sym (alone (omega (arith, p.1)))
        ]

    pub tells_marked : (after : ℕ) → after ≡ cond (same (f v) (f w)) c w.revision → Tells after (w ∷ v ∷ vs) r
    tells_marked after is =
        elim (same (f v) (f w)) as (λ b. same (f v) (f w) ≡ b → after ≡ cond b c w.revision → Tells after (w ∷ v ∷ vs) r) [
          | true ↦ λ h e. ap (λ (n : ℕ). nat_le n r) e ∙ tells_stays h
          | false ↦ λ h e. ap (λ (n : ℕ). nat_le n r) e ∙ tells_changed h
        ] refl is

-- ---- stamps

module _ (n : ℕ) where
  abbrev Within : finmap.FinMap text_cmp Stamp → Type 0
  Within m = (path : List ℕ) (s : Stamp) → finmap.get m path ≡ Some s → s.revision ≤ n

  insert_within : (m : finmap.FinMap text_cmp Stamp) (p : List ℕ) (stamp : Stamp) → stamp.revision ≤ n → Within m → Within (finmap.insert m p stamp)
  insert_within m p stamp low h path s is =
      let e : cond (eq_by_cmp text_cmp path p) (Some stamp) (finmap.get m path) ≡ Some s = sym (finmap.get-insert text_total m p stamp path) ∙ is in
      elim (eq_by_cmp text_cmp path p) as (λ b. cond b (Some stamp) (finmap.get m path) ≡ Some s → s.revision ≤ n) [
        | true ↦ λ k. let same : stamp ≡ s = cc in subst (λ (t : Stamp). t.revision ≤ n) same low
        | false ↦ λ k. h path s k
      ] e

  dropped_within : (stamp : Stamp) → stamp.revision ≤ n → (m : finmap.FinMap text_cmp Stamp) (ps : List (List ℕ)) → Within m → Within (dropped stamp m ps)
  dropped_within stamp low m [] h = h
  dropped_within stamp low m (p ∷ ps) h = dropped_within stamp low (finmap.insert m p stamp) ps (insert_within m p stamp low h)

  one_within : (stamp : Stamp) → stamp.revision ≤ n → (l : Layers) (item : Item) → Within l.drops → Within (applied stamp l item).drops
  one_within stamp low l (MapPath path answer) h = h
  one_within stamp low l (UnmapPath path) h = insert_within l.drops path stamp low h
  one_within stamp low l (MapId id answer) h = h
  one_within stamp low l (UnmapId id) h = h
  one_within stamp low l Clear h = dropped_within stamp low l.drops (finmap.keys l.by_path) h
  one_within stamp low l (ChangeSet removes inserts) h = dropped_within stamp low l.drops removes h
  one_within stamp low l ChangeView h = h

  all_within : (stamp : Stamp) → stamp.revision ≤ n → (l : Layers) (items : List Item) → Within l.drops → Within (applied_all stamp l items).drops
  all_within stamp low l [] h = h
  all_within stamp low l (item ∷ items) h = all_within stamp low (applied stamp l item) items (one_within stamp low l item h)

-- ---- the first law: a commit

reset_tells : (x y : Stamp) → Decides (same_stamp x y) (x ≡ y)
reset_tells = same_stamp-Decides

id_tells : (x y : Option Answer) → Decides (same_option same_answer x y) (x ≡ y)
id_tells = same_option-Decides same_answer same_answer-Decides

-- change revisions that are marked stand for one version more
agrees_too : (v w : Version) → w.reset ≡ v.reset → w.resolver ≡ v.resolver → (us : List Version) → Agrees v us → Agrees w us
agrees_too v w reset_is resolver_is [] h = tt
agrees_too v w reset_is resolver_is (u ∷ us) h =
    (λ same. resolver_is ∙ h.0 (subst (λ (x : Stamp). same_stamp x u.reset ≡ true) reset_is same), agrees_too v w reset_is resolver_is us h.1)

lower : (c d r : ℕ) → d ≡ c → d ≤ r → c ≤ r
lower c d r e h = omega arith

pub marked_stands : (c d : Changes) (v w : Version) (vs : List Version) → StandsFor c (v ∷ vs)
    → w.revision ≡ v.revision + 1 → w.reset ≡ v.reset → w.resolver ≡ v.resolver → IsStamped w → Marks v.layers w.layers w.revision c d
    → StandsFor d (w ∷ v ∷ vs)
marked_stands c d v w vs s next reset_is resolver_is stamped m = record {
  history = record {
    rising = (next, s.history.rising);
    stamped = (stamped, s.history.stamped);
    agreed = ((λ _. resolver_is, agrees_too v w reset_is resolver_is vs s.history.agreed.0), s.history.agreed);
  };
  resets = λ r. ap (λ (n : ℕ). nat_le n r) m.reset ∙ tells_stays same_stamp reset_tells (λ u. u.reset) w v vs s.history.rising next c.reset r (s.resets r) ((reset_tells v.reset w.reset).1 (sym reset_is));
  ids = λ id r low. tells_marked (same_option same_answer) id_tells (λ u. finmap.get u.layers.by_id id) w v vs s.history.rising next (changed_id c id) r (s.ids id r (lower c.reset d.reset r m.reset low)) (changed_id d id) (m.ids id);
  paths = λ path r low. tells_marked same_at_path same_at_path-Decides (λ u. at_path u.layers path) w v vs s.history.rising next (changed_path c path) r (s.paths path r (lower c.reset d.reset r m.reset low)) (changed_path d path) (m.paths path);
}

same_tells : (c d : Changes) (vs : List Version) → d.reset ≡ c.reset → ((id : Id) → changed_id d id ≡ changed_id c id) → ((path : List ℕ) → changed_path d path ≡ changed_path c path) → StandsFor c vs → StandsFor d vs
same_tells c d vs reset_is ids_are paths_are s = record {
  history = s.history;
  resets = λ r. ap (λ (n : ℕ). nat_le n r) reset_is ∙ s.resets r;
  ids = λ id r low. ap (λ (n : ℕ). nat_le n r) (ids_are id) ∙ s.ids id r (lower c.reset d.reset r reset_is low);
  paths = λ path r low. ap (λ (n : ℕ). nat_le n r) (paths_are path) ∙ s.paths path r (lower c.reset d.reset r reset_is low);
}

-- the change revisions and the version after a commit stand for the versions after it
module _ (old new : Held) (batch : List Item) (k : IsCommit old batch new) (resolver : Resolver) (past : List Version) (s : Stands old resolver past) where
  abbrev v : Version
  v = version_with old resolver

  abbrev stage : Layers
  stage = staged old.space old.revision old.layers batch

  is_when : (b : Bool) → rises old.space old.revision old.layers batch ≡ b → version_with new resolver ≡ cond b (record v { layers = stage; revision = old.revision + 1 }) v
  is_when b e = k.version resolver ∙ ap (λ t. cond t (record v { layers = stage; revision = old.revision + 1 }) v) e

  quiet : version_with new resolver ≡ v → Stands new resolver past
  quiet is =
      let layers : new.layers ≡ old.layers = ap (λ (u : Version). u.layers) is in
      let ids : (id : Id) → changed_id new.changes id ≡ changed_id old.changes id = λ id.
      k.marks.ids id ∙ ap (λ b. cond b (changed_id old.changes id) new.revision) ((id_tells (finmap.get old.layers.by_id id) (finmap.get new.layers.by_id id)).1 (ap (λ (l : Layers). finmap.get l.by_id id) (sym layers))) in
      let paths : (path : List ℕ) → changed_path new.changes path ≡ changed_path old.changes path = λ path.
      k.marks.paths path ∙ ap (λ b. cond b (changed_path old.changes path) new.revision) ((same_at_path-Decides (at_path old.layers path) (at_path new.layers path)).1 (ap (λ (l : Layers). at_path l path) (sym layers))) in
      let at : StandsFor new.changes (v ∷ past) = same_tells old.changes new.changes (v ∷ past) k.marks.reset ids paths s in
      subst (λ (u : Version). StandsFor new.changes (u ∷ past)) (sym is) at

  loud : version_with new resolver ≡ record v { layers = stage; revision = old.revision + 1 } → Stands new resolver (v ∷ past)
  loud is =
      let next : new.revision ≡ old.revision + 1 = ap (λ (u : Version). u.revision) is in
      let layers : new.layers ≡ stage = ap (λ (u : Version). u.layers) is in
      let reset_is : new.reset ≡ old.reset = ap (λ (u : Version). u.reset) is in
      let was = s.history.stamped.0 in
      let drops : (path : List ℕ) (t : Stamp) → finmap.get new.layers.drops path ≡ Some t → t.revision ≤ new.revision = λ path t e.
      let le = all_within (old.revision + 1) (next_stamp old.space old.revision) (omega arith) old.layers batch (λ p u g. let w = was.drops p u g in omega arith) path t (ap (λ (l : Layers). finmap.get l.drops path) (sym layers) ∙ e) in
      omega arith in
      let low : new.reset.revision ≤ new.revision =
      let w = was.reset in
      let r : new.reset.revision ≡ old.reset.revision = ap (λ (x : Stamp). x.revision) reset_is in
      omega arith in
      marked_stands old.changes new.changes v (version_with new resolver) past s next reset_is refl (record { reset = low; drops = drops }) k.marks

  pub commit_stands : Stands new resolver (past_after old.space v past batch)
  commit_stands =
      elim (rises old.space old.revision old.layers batch) as (λ b. rises old.space old.revision old.layers batch ≡ b → Stands new resolver (cond b (v ∷ past) past)) [
        | true ↦ λ e. loud (is_when true e)
        | false ↦ λ e. quiet (is_when false e)
      ] refl

-- ---- the second law: a reset

module _ (c : Changes) (v : Version) (vs : List Version) (s : StandsFor c (v ∷ vs)) (space : ℕ) (resolver : Resolver) where
  abbrev w : Version
  w = reset space v resolver

  fresh_stamp : (u : Version) → u.reset.revision ≤ v.revision → same_stamp w.reset u.reset ≡ true → ⊥
  fresh_stamp u low h =
      let e : w.reset ≡ u.reset = (reset_tells w.reset u.reset).0 h in
      let r : v.revision + 1 ≡ u.reset.revision = ap (λ (x : Stamp). x.revision) e in
      omega arith

  fresh_all : (us : List Version) → AllStamped us → NotLater v.revision us → Agrees w us
  fresh_all [] h l = tt
  fresh_all (u ∷ us) h l =
      let low : u.reset.revision ≤ v.revision = let a = h.0.reset in let b = l.0 in omega arith in
      (λ same. absurd (fresh_stamp u low same), fresh_all us h.1 l.1)

  other_stamp : same_stamp v.reset w.reset ≡ false
  other_stamp = elim (same_stamp v.reset w.reset) as (λ b. same_stamp v.reset w.reset ≡ b → b ≡ false) [
    | true ↦ λ h. absurd (fresh_stamp v s.history.stamped.0.reset ((reset_tells w.reset v.reset).1 (sym ((reset_tells v.reset w.reset).0 h))))
    | false ↦ λ _. refl
  ] refl

  far : (r : ℕ) → w.revision ≤ r → c.reset ≤ r
  far r low = true_le c.reset r (past same_stamp reset_tells (λ u. u.reset) w v vs s.history.rising refl c.reset r (s.resets r) (omega arith))

  pub reset_stands : StandsFor (record { ids = finmap.empty; paths = finmap.empty; reset = v.revision + 1 }) (w ∷ v ∷ vs)
  reset_stands = record {
    history = record {
      rising = (refl, s.history.rising);
      stamped = (record { reset = omega arith; drops = λ path t e. absurd (let n : None ≡ Some t = sym (finmap.get-empty text_cmp path) ∙ e in cc) }, s.history.stamped);
      agreed = (fresh_all (v ∷ vs) s.history.stamped (not_later v vs s.history.rising), s.history.agreed);
    };
    resets = λ r. tells_changed same_stamp reset_tells (λ u. u.reset) w v vs s.history.rising refl c.reset r (s.resets r) other_stamp;
    ids = λ id r low.
        let f = λ (u : Version). finmap.get u.layers.by_id id in
        let was = s.ids id r (far r low) in
        ap (λ (o : Option ℕ). nat_le (unwrap_or o 0) r) (finmap.get-empty id_cmp id) ∙ le_true 0 r (omega arith)
        ∙ sym (alone (same_option same_answer) id_tells f w v vs s.history.rising refl (changed_id c id) r was (omega arith));
    paths = λ path r low.
        let f = λ (u : Version). at_path u.layers path in
        let was = s.paths path r (far r low) in
        ap (λ (o : Option ℕ). nat_le (unwrap_or o 0) r) (finmap.get-empty text_cmp path) ∙ le_true 0 r (omega arith)
        ∙ sym (alone same_at_path same_at_path-Decides f w v vs s.history.rising refl (changed_path c path) r was (omega arith));
  }

one : {A : Type 0} (same : A → A → Bool) (f : Version → A) (r : ℕ) (v : Version) → nat_le 0 r ≡ same_since same f r (v ∷ [])
one same f r v = le_true 0 r (omega arith) ∙ (
    elim (nat_le r v.revision) as (λ b. true ≡ all_same same (map f (cond b (v ∷ []) []))) [ true ↦ refl | false ↦ refl ])

-- a new value stands for its one version
pub first_stands : (v : Version) → IsStamped v → StandsFor (record { ids = finmap.empty; paths = finmap.empty; reset = 0 }) (v ∷ [])
first_stands v stamped = record {
  history = record { rising = tt; stamped = (stamped, tt); agreed = (tt, tt) };
  resets = λ r. one same_stamp (λ u. u.reset) r v;
  ids = λ id r low. ap (λ (o : Option ℕ). nat_le (unwrap_or o 0) r) (finmap.get-empty id_cmp id) ∙ one (same_option same_answer) (λ u. finmap.get u.layers.by_id id) r v;
  paths = λ path r low. ap (λ (o : Option ℕ). nat_le (unwrap_or o 0) r) (finmap.get-empty text_cmp path) ∙ one same_at_path (λ u. at_path u.layers path) r v;
}

-- what is held after a commit stands for the versions after it
pub held_stands : (h : Held) (batch : List Item) (resolver : Resolver) (past : List Version) → Stands h resolver past → Stands (commit_held h batch) resolver (past_after h.space (version_with h resolver) past batch)
held_stands h batch resolver past s = commit_stands h (commit_held h batch) batch (is_commit h batch) resolver past s
