-- An edit of a target: its reply, what is shown after it, and how far revisions rise.
use Rattle.std.proofs.Common.{◌≡◌, ◌≢◌, ℕ, ◌+◌, ◌-◌, ◌≤◌, ◌==◌, zero, suc, max, Bool, true, false, cond, List, [], ◌∷◌, ◌++◌, map, length, refl, sym, ap, subst, ◌∙◌, arith, inl, inr, Option, Some, None}
use Rattle.std.specs.Prelude.{slice_get, slice_set}
use Rattle.std.proofs.lemmas.Bool.Decides.{eqb_tells}
use Rattle.std.proofs.lemmas.List.{map-append}
use Rattle.std.proofs.lemmas.Option.{slice_get_past}
use Rattle.ty_model.specs.Batch.{Item, commit, rises}
use Rattle.ty_model.specs.Held.{Kept}
use Rattle.ty_model.specs.Places.{Resolver}
use Rattle.ty_model.specs.Space.{Space, after_commit}
use Rattle.ty_model.specs.Standing.{Held, StandsFor, version_with, past_after}
use Rattle.ty_model.specs.Values.{Id}
use Rattle.ty_model.specs.Version.{Version}
use Rattle.ty_model.proofs.Standing.{held_stands}
use Rattle.tinymist_vfs.specs.Commits.{committed}
use Rattle.tinymist_vfs.specs.declared.ids.resolver.MockRootResolver.{MockRootResolver}
use Rattle.session_grammar.specs.Command.{Target, Live, View, IdWord}
use Rattle.tinymist_session.specs.declared.machine.tags.TaggedIds.{TaggedIds}
use Rattle.tinymist_session.specs.Machine.{State, space_at, with_space, edit_in, edit_step, id_edit_step, id_for, on_named, edited}
use Rattle.session_grammar.specs.Reply.{AtRevision, BadView}
use Rattle.tinymist_session.specs.Shown.{IsShown, Shows, shown, space_shown, known, highest, top_revision}
use Rattle.tinymist_session.proofs.Showing.{found, missing, set_both}

-- ---- a commit, as it is shown

picked : (b : Bool) (new old : Held) (r : Resolver) → new.space ≡ old.space → ◌≡◌ {A = ℕ × Version} ((cond b new old).space, version_with (cond b new old) r) (old.space, cond b (version_with new r) (version_with old r))
picked true new old r e = ap (λ (n : ℕ). (n, version_with new r)) e
picked false new old r e = refl

after : ℕ × Version → List Item → ℕ × Version
after s batch = (s.0, commit s.0 s.1 batch)

shown-committed : (k : Kept MockRootResolver) (batch : List Item) → shown (committed k batch) ≡ after (shown k) batch
unfolding after
shown-committed k batch = picked (rises k.held.space k.held.revision k.held.layers batch) _ k.held (known k.resolver) refl

same_after : (k : Kept MockRootResolver) (s : Space) (batch : List Item) → shown k ≡ space_shown s → shown (committed k batch) ≡ space_shown (after_commit s batch)
unfolding after
same_after k s batch e = shown-committed k batch ∙ ap (λ (p : ℕ × Version). after p batch) e

pub shows_commit : (k : Kept MockRootResolver) (s : Space) (batch : List Item) → Shows k s → Shows (committed k batch) (after_commit s batch)
shows_commit k s batch is = record {
  same = same_after k s batch is.same;
  stands = subst (λ (p : ℕ × Version). StandsFor (committed k batch).held.changes ((shown (committed k batch)).1 ∷ past_after p.0 p.1 s.past batch)) is.same (held_stands k.held batch (known k.resolver) s.past is.stands);
}

not_zero : (n : ℕ) → n ≢ 0 → (n == 0) ≡ false
not_zero n h = elim (eqb_tells n 0) [ inl same ↦ absurd (h same.1) | inr other ↦ other.0 ]

revision_of : (k : Kept MockRootResolver) (s : Space) → Shows k s → k.held.revision ≡ s.now.revision
revision_of k s is = ap (λ (p : ℕ × Version). p.1.revision) is.same

module _ (live : Kept MockRootResolver) (views : List (Kept MockRootResolver)) (tags : TaggedIds) (s : State) (is : IsShown live views tags s) where
  -- ---- edits

  module _ (item : Item) where
    pub live_reply : AtRevision (committed live (item ∷ [])).held.revision ≡ (edit_step s Live item).reply
    live_reply = ap AtRevision (revision_of (committed live (item ∷ [])) _ (shows_commit live s.live (item ∷ []) is.live_is))

    pub live_shows : IsShown (committed live (item ∷ [])) views tags (edit_step s Live item).state
    live_shows = record { live_is = shows_commit live s.live (item ∷ []) is.live_is; views_are = is.views_are; next = is.next; next_tag = is.next_tag; tagged = is.tagged }

    module _ (k : ℕ) (some : k ≢ 0) where
      view_is : (o : Option Space) → slice_get s.views (k - 1) ≡ o → space_at s (View k) ≡ o
      view_is o e = rw (not_zero k some) e

      module _ (view : Kept MockRootResolver) (e : slice_get views (k - 1) ≡ Some view) where
        pub view_reply : AtRevision (committed view (item ∷ [])).held.revision ≡ (edit_step s (View k) item).reply
        view_reply =
            let f = found views s.views (k - 1) view is.views_are e in
            ap AtRevision (revision_of (committed view (item ∷ [])) _ (shows_commit view f.space (item ∷ []) f.shows))
            ∙ ap (λ (o : Option Space). (edit_in s (View k) item o).reply) (sym (view_is (Some f.space) f.there))

        put_shows : (space : Space) → Shows (committed view (item ∷ [])) space → IsShown live (slice_set views (k - 1) (committed view (item ∷ []))) tags (with_space s (View k) space)
        put_shows space same = record {
          live_is = is.live_is;
          views_are = set_both views s.views (k - 1) (committed view (item ∷ [])) space is.views_are same;
          next = is.next;
          next_tag = is.next_tag;
          tagged = is.tagged;
        }

        pub view_shows : IsShown live (slice_set views (k - 1) (committed view (item ∷ []))) tags (edit_step s (View k) item).state
        view_shows =
            let f = found views s.views (k - 1) view is.views_are e in
            subst (λ (o : Option Space). IsShown live (slice_set views (k - 1) (committed view (item ∷ []))) tags (edit_in s (View k) item o).state) (sym (view_is (Some f.space) f.there))
            (put_shows (after_commit f.space (item ∷ [])) (shows_commit view f.space (item ∷ []) f.shows))

      pub no_view : length views ≤ k - 1 → edit_step s (View k) item ≡ record { state = s; reply = BadView }
      no_view past = ap (edit_in s (View k) item) (view_is None (missing views s.views (k - 1) is.views_are (slice_get_past views (k - 1) past)))

    -- no view has the number 0
    pub no_view_0 : (k : ℕ) → k ≡ 0 → edit_step s (View k) item ≡ record { state = s; reply = BadView }
    no_view_0 k e = ap (λ (n : ℕ). edit_step s (View n) item) e

-- ---- an edit by id, where the word names one

edits_by : (s : State) (target : Target) (item : Id → Item) (id : Id) (o : Option Space) → on_named s o (Some id) (λ space found. edited s target (item found) space) ≡ edit_in s target (item id) o
edits_by s target item id None = refl
edits_by s target item id (Some space) = refl

pub named_edit : (s : State) (target : Target) (word : IdWord) (item : Id → Item) (id : Id) → id_for s.tagged word ≡ Some id → id_edit_step s target word item ≡ edit_step s target (item id)
named_edit s target word item id e =
    ap (λ (x : Option Id). on_named s (space_at s target) x (λ space found. edited s target (item found) space)) e
    ∙ edits_by s target item id (space_at s target)

-- ---- the greatest revision

rises_by_one : (b : Bool) (new old : Held) → new.revision ≡ old.revision + 1 → (cond b new old).revision ≤ old.revision + 1
rises_by_one true new old e = omega (arith, e)
rises_by_one false new old e = omega arith

pub committed_rises : (k : Kept MockRootResolver) (batch : List Item) → (committed k batch).held.revision ≤ k.held.revision + 1
committed_rises k batch = rises_by_one (rises k.held.space k.held.revision k.held.layers batch) _ k.held refl

pub live_top : (old new : Kept MockRootResolver) (views : List (Kept MockRootResolver)) → new.held.revision ≤ old.held.revision + 1 → top_revision new views ≤ top_revision old views + 1
live_top old new views h = omega (arith, h)

highest_set : (views : List (Kept MockRootResolver)) (k : ℕ) (old new : Kept MockRootResolver) → slice_get views k ≡ Some old → new.held.revision ≤ old.held.revision + 1 → highest (map shown (slice_set views k new)) ≤ highest (map shown views) + 1
highest_set [] k old new e h = absurd (cc)
highest_set (v ∷ vs) zero old new e h =
    let same : v ≡ old = cc in
    omega (arith, h, ap (λ (x : Kept MockRootResolver). x.held.revision) same)
highest_set (v ∷ vs) (suc k) old new e h = omega (arith, highest_set vs k old new e h)

pub view_top : (live : Kept MockRootResolver) (views : List (Kept MockRootResolver)) (k : ℕ) (old new : Kept MockRootResolver) → slice_get views k ≡ Some old → new.held.revision ≤ old.held.revision + 1 → top_revision live (slice_set views k new) ≤ top_revision live views + 1
view_top live views k old new e h = omega (arith, highest_set views k old new e h)

highest_at : (views : List (Kept MockRootResolver)) (k : ℕ) (view : Kept MockRootResolver) → slice_get views k ≡ Some view → view.held.revision ≤ highest (map shown views)
highest_at [] k view e = absurd (cc)
highest_at (v ∷ vs) zero view e =
    let same : v ≡ view = cc in
    omega (arith, ap (λ (x : Kept MockRootResolver). x.held.revision) same)
highest_at (v ∷ vs) (suc k) view e = omega (arith, highest_at vs k view e)

pub view_below : (live : Kept MockRootResolver) (views : List (Kept MockRootResolver)) (k : ℕ) (view : Kept MockRootResolver) → slice_get views k ≡ Some view → view.held.revision ≤ top_revision live views
view_below live views k view e = omega (arith, highest_at views k view e)

highest_push : (xs : List (ℕ × Version)) (x : ℕ × Version) → highest (xs ++ x ∷ []) ≡ max (highest xs) x.1.revision
highest_push [] x = omega arith
highest_push (y ∷ ys) x = omega (arith, highest_push ys x)

-- a view of the live revision
pub snapshot_top : (live view : Kept MockRootResolver) (views new : List (Kept MockRootResolver)) → new ≡ views ++ view ∷ [] → view.held.revision ≡ live.held.revision → top_revision live new ≤ top_revision live views
snapshot_top live view views new e same =
    let all = ap (map shown) e ∙ map-append shown views (view ∷ []) in
    omega (arith, ap highest all, highest_push (map shown views) (shown view), same)
