-- Values that show spaces, one beside the other, and what is found in both.
use Rattle.std.proofs.Common.{◌≡◌, ℕ, ◌+◌, ◌-◌, ◌==◌, zero, suc, Bool, true, false, cond, List, [], ◌∷◌, ◌++◌, length, length-append, refl, sym, ap, subst, ◌∙◌, arith, Option, Some, None, Result, Ok, Err, IfOk}
use Rattle.std.specs.Prelude.{slice_get, slice_set}
use Rattle.ty_model.specs.Held.{Kept, Standing, version_of}
use Rattle.ty_model.specs.Space.{Space, snapshot_of}
use Rattle.ty_model.specs.Counters.{Counters}
use Rattle.ty_model.specs.Values.{Id}
use Rattle.ty_model.specs.Version.{Version}
use Rattle.ty_syntax.specs.declared.tags.TagFault.{TagFault}
use Rattle.tinymist_vfs.specs.declared.ids.resolver.MockRootResolver.{MockRootResolver}
use Rattle.session_grammar.specs.Command.{Target, Live, View, IdWord}
use Rattle.tinymist_session.specs.declared.machine.tags.TaggedIds.{TaggedIds}
use Rattle.tinymist_session.specs.Machine.{State, Stepped, view_at, space_at, id_for, ids_for, on_named, replied, snapshot_step}
use Rattle.session_grammar.specs.Reply.{Reply, BadView, BadId}
use Rattle.tinymist_session.specs.Shown.{IsShown, Shows, AllShow, known, kept_at, target_kept}

abbrev Values : Type 0
Values = List (Kept MockRootResolver)

-- a space that this value shows, where the other has one
pub record Found (o : Option Space) (k : Kept MockRootResolver) : Type 0 where
  pub space : Space
  pub there : o ≡ Some space
  pub shows : Shows k space

-- ---- lists side by side

pub found : (kept : Values) (spaces : List Space) (i : ℕ) (k : Kept MockRootResolver) → AllShow kept spaces → slice_get kept i ≡ Some k → Found (slice_get spaces i) k
found [] spaces i k all e = absurd (cc)
found (v ∷ vs) [] i k all e = absurd all
found (v ∷ vs) (s ∷ ss) zero k all e =
    let same : v ≡ k = cc in
    record { space = s; there = refl; shows = subst (λ (x : Kept MockRootResolver). Shows x s) same all.0 }
found (v ∷ vs) (s ∷ ss) (suc i) k all e = found vs ss i k all.1 e

pub missing : (kept : Values) (spaces : List Space) (i : ℕ) → AllShow kept spaces → slice_get kept i ≡ None → slice_get spaces i ≡ None
missing [] [] i all e = refl
missing [] (s ∷ ss) i all e = absurd all
missing (v ∷ vs) [] i all e = refl
missing (v ∷ vs) (s ∷ ss) zero all e = absurd (cc)
missing (v ∷ vs) (s ∷ ss) (suc i) all e = missing vs ss i all.1 e

pub set_both : (kept : Values) (spaces : List Space) (i : ℕ) (k : Kept MockRootResolver) (s : Space) → AllShow kept spaces → Shows k s → AllShow (slice_set kept i k) (slice_set spaces i s)
set_both [] [] i k s all h = all
set_both [] (x ∷ xs) i k s all h = absurd all
set_both (v ∷ vs) [] i k s all h = absurd all
set_both (v ∷ vs) (x ∷ xs) zero k s all h = (h, all.1)
set_both (v ∷ vs) (x ∷ xs) (suc i) k s all h = (all.0, set_both vs xs i k s all.1 h)

pub set_space : (kept : Values) (spaces : List Space) (i : ℕ) (old new : Space) → AllShow kept spaces → slice_get spaces i ≡ Some old → ((k : Kept MockRootResolver) → Shows k old → Shows k new) → AllShow kept (slice_set spaces i new)
set_space [] [] i old new all e h = all
set_space [] (x ∷ xs) i old new all e h = absurd all
set_space (v ∷ vs) [] i old new all e h = absurd all
set_space (v ∷ vs) (x ∷ xs) zero old new all e h =
    let same : x ≡ old = cc in
    (h v (subst (λ (s : Space). Shows v s) same all.0), all.1)
set_space (v ∷ vs) (x ∷ xs) (suc i) old new all e h = (all.0, set_space vs xs i old new all.1 e h)

pub push_both : (kept : Values) (spaces : List Space) (k : Kept MockRootResolver) (s : Space) → AllShow kept spaces → Shows k s → AllShow (kept ++ k ∷ []) (spaces ++ s ∷ [])
push_both [] [] k s all h = (h, all)
push_both [] (x ∷ xs) k s all h = absurd all
push_both (v ∷ vs) [] k s all h = absurd all
push_both (v ∷ vs) (x ∷ xs) k s all h = (all.0, push_both vs xs k s all.1 h)

pub same_length : (kept : Values) (spaces : List Space) → AllShow kept spaces → length kept ≡ length spaces
same_length [] [] all = refl
same_length [] (x ∷ xs) all = absurd all
same_length (v ∷ vs) [] all = absurd all
same_length (v ∷ vs) (x ∷ xs) all = ap suc (same_length vs xs all.1)

-- ---- a view, and a target

module _ (live : Kept MockRootResolver) (views : Values) (tags : TaggedIds) (s : State) (is : IsShown live views tags s) where
  by_zero : (b : Bool) (i : ℕ) (k : Kept MockRootResolver) → cond b None (slice_get views i) ≡ Some k → Found (cond b None (slice_get s.views i)) k
  by_zero true i k e = absurd (cc)
  by_zero false i k e = found views s.views i k is.views_are e

  none_by_zero : (b : Bool) (i : ℕ) → cond b None (slice_get views i) ≡ None → cond b None (slice_get s.views i) ≡ None
  none_by_zero true i e = refl
  none_by_zero false i e = missing views s.views i is.views_are e

  pub view_found : (k : ℕ) (v : Kept MockRootResolver) → kept_at views k ≡ Some v → Found (view_at s.views k) v
  view_found k v e = by_zero (k == 0) (k - 1) v e

  pub view_missing : (k : ℕ) → kept_at views k ≡ None → view_at s.views k ≡ None
  view_missing k e = none_by_zero (k == 0) (k - 1) e

  pub target_found : (t : Target) (v : Kept MockRootResolver) → target_kept live views t ≡ Some v → Found (space_at s t) v
  target_found Live v e =
      let same : live ≡ v = cc in
      record { space = s.live; there = refl; shows = subst (λ (x : Kept MockRootResolver). Shows x s.live) same is.live_is }
  target_found (View k) v e = view_found k v e

  pub target_missing : (t : Target) → target_kept live views t ≡ None → space_at s t ≡ None
  target_missing Live e = absurd (cc)
  target_missing (View k) e = view_missing k e

  -- the id of a word, by what has a tag
  pub id_is : (word : IdWord) (id found : Option Id) → id ≡ id_for tags.ids.items word → id ≡ found → id_for s.tagged word ≡ found
  id_is word id found e f = ap (λ (ids : List Id). id_for ids word) (sym is.tagged) ∙ sym e ∙ f

  pub ids_are : (words : List IdWord) (ids found : Option (List Id)) → ids ≡ ids_for tags.ids.items words → ids ≡ found → ids_for s.tagged words ≡ found
  ids_are words ids found e f = ap (λ (all : List Id). ids_for all words) (sym is.tagged) ∙ sym e ∙ f

-- ---- a step on a space and what is named in it

module _ {A : Type 0} (s : State) (named : Option A) (f : Space → A → Stepped) where
  pub no_space : (o : Option Space) → o ≡ None → on_named s o named f ≡ replied s BadView
  no_space o e = ap (λ (x : Option Space). on_named s x named f) e

  pub no_name : (o : Option Space) (k : Kept MockRootResolver) → Found o k → named ≡ None → on_named s o named f ≡ replied s BadId
  no_name o k it e = ap (λ (x : Option Space). on_named s x named f) it.there ∙ ap (λ (x : Option A). on_named s (Some it.space) x f) e

  pub bad_view : (o : Option Space) → o ≡ None → BadView ≡ (on_named s o named f).reply
  bad_view o e = ap (λ (x : Stepped). x.reply) (sym (no_space o e))

  pub bad_id : (o : Option Space) (k : Kept MockRootResolver) → Found o k → named ≡ None → BadId ≡ (on_named s o named f).reply
  bad_id o k it e = ap (λ (x : Stepped). x.reply) (sym (no_name o k it e))

  pub on_both : (o : Option Space) (space : Space) (a : A) → o ≡ Some space → named ≡ Some a → on_named s o named f ≡ f space a
  on_both o space a there e = ap (λ (x : Option Space). on_named s x named f) there ∙ ap (λ (x : Option A). on_named s (Some space) x f) e

  pub on_found : (o : Option Space) (k : Kept MockRootResolver) (a : A) (r : Reply) → Found o k → named ≡ Some a → ((space : Space) → Shows k space → r ≡ (f space a).reply) → r ≡ (on_named s o named f).reply
  on_found o k a r it e h = h it.space it.shows ∙ ap (λ (x : Stepped). x.reply) (sym (on_both o it.space a it.there e))

-- ---- a snapshot

pub snapshot_shows : (r : Result (Kept MockRootResolver) TagFault) (live : Kept MockRootResolver) (space : Space) (n : ℕ) → Shows live space → IfOk r (λ v. v.held.space ≡ n) → IfOk r (λ v. version_of known v ≡ version_of known live) → IfOk r (λ v. Standing known v space.past) → IfOk r (λ v. Shows v (snapshot_of n space))
snapshot_shows (Ok v) live space n is number version stands = record {
  same = ap (λ (m : ℕ). (m, version_of known v)) number ∙ ap (λ (w : Version). (n, w)) (version ∙ ap (λ (p : ℕ × Version). p.1) is.same);
  stands = stands;
}
snapshot_shows (Err e) live space n is number version stands = tt

pub snapshot_number : (kept new : Values) (spaces : List Space) (k : Kept MockRootResolver) (n : ℕ) → AllShow kept spaces → new ≡ kept ++ k ∷ [] → n ≡ length new → n ≡ length spaces + 1
snapshot_number kept new spaces k n all e is = omega (arith, is, ap length e, length-append kept (k ∷ []), same_length kept spaces all)

pub snapshot_is_shown : (live : Kept MockRootResolver) (views new : Values) (tags : TaggedIds) (s : State) (view : Kept MockRootResolver) (counters : Counters) → IsShown live views tags s → new ≡ views ++ view ∷ [] → Shows view (snapshot_of tags.counters.next_space s.live) → counters ≡ record tags.counters { next_space = tags.counters.next_space + 1 } → IsShown live new (record tags { counters = counters }) (snapshot_step s).state
snapshot_is_shown live views new tags s view counters is e shows drawn = record {
  live_is = is.live_is;
  views_are = subst (λ (vs : Values). AllShow vs (s.views ++ snapshot_of s.next_space s.live ∷ [])) (sym e) (push_both views s.views view (snapshot_of s.next_space s.live) is.views_are (subst (λ (n : ℕ). Shows view (snapshot_of n s.live)) is.next shows));
  next = ap (λ (c : Counters). c.next_space) drawn ∙ ap (λ (n : ℕ). n + 1) is.next;
  next_tag = ap (λ (c : Counters). c.next_id) drawn ∙ is.next_tag;
  tagged = is.tagged;
}
