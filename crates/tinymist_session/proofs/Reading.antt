-- Reads of views and questions to targets: their replies, and what stays of the state.
use Rattle.std.proofs.Common.{◌≡◌, ℕ, ◌-◌, ◌==◌, Bool, true, false, cond, not, ◌&&◌, List, [], ◌∷◌, ◌++◌, refl, sym, ap, subst, ◌∙◌, Option, Some, None}
use Rattle.std.specs.Prelude.{slice_get}
use Rattle.std.specs.List.{list_any}
use Rattle.ty_model.specs.Values.{Id, Answer}
use Rattle.ty_model.specs.Version.{same_id}
use Rattle.ty_model.specs.Places.{detached_entry}
use Rattle.ty_model.specs.Held.{Kept}
use Rattle.ty_model.specs.Disk.{Told}
use Rattle.ty_model.specs.Space.{Space}
use Rattle.tinymist_vfs.specs.declared.ids.resolver.MockRootResolver.{MockRootResolver}
use Rattle.tinymist_session.specs.declared.machine.tags.TaggedIds.{TaggedIds}
use Rattle.session_grammar.specs.Command.{Target, IdWord}
use Rattle.session_grammar.specs.Reply.{Reply}
use Rattle.tinymist_session.specs.Machine.{State, Stepped, view_at, id_for, with_asked, asking, on_named, read_in, read_step, source_in, source_step, listed}
use Rattle.tinymist_session.specs.Shown.{IsShown, Shows}
use Rattle.tinymist_session.proofs.Showing.{Found, set_space}

-- asked ids are no part of what is shown
asked_by : (b : Bool) (k : Kept MockRootResolver) (view : Space) (asked : List Id) → Shows k view → Shows k (cond b (record view { asked = asked }) view)
asked_by true k view asked is = record { same = is.same; stands = is.stands }
asked_by false k view asked is = is

shows_asked : (id : Id) (view : Space) (k : Kept MockRootResolver) → Shows k view → Shows k (with_asked id view)
shows_asked id view k is = asked_by (view.compiling && not (list_any (same_id id) view.asked)) k view (view.asked ++ id ∷ []) is

module _ (live : Kept MockRootResolver) (views : List (Kept MockRootResolver)) (tags : TaggedIds) (s : State) (is : IsShown live views tags s) where
  got : (b : Bool) (i : ℕ) (view : Space) → cond b None (slice_get s.views i) ≡ Some view → slice_get s.views i ≡ Some view
  got true i view e = absurd (cc)
  got false i view e = e

  shows_asking : (k : ℕ) (view : Space) (id : Id) → view_at s.views k ≡ Some view → IsShown live views tags (asking s k view id)
  shows_asking k view id e = record {
    live_is = is.live_is;
    views_are = set_space views s.views (k - 1) view (with_asked id view) is.views_are (got (k == 0) (k - 1) view e) (shows_asked id view);
    next = is.next;
    next_tag = is.next_tag;
    tagged = is.tagged;
  }

  -- ---- a step that is shown in each case is shown

  shows_on : {A : Type 0} → (o : Option Space) (named : Option A) (f : Space → A → Stepped) → ((space : Space) (a : A) → o ≡ Some space → IsShown live views tags (f space a).state) → IsShown live views tags (on_named s o named f).state
  shows_on None named f h = is
  shows_on (Some space) None f h = is
  shows_on (Some space) (Some a) f h = h space a refl

  pub read_shows : (told : Told) (k : ℕ) (word : IdWord) → IsShown live views tags (read_step s told k word).state
  read_shows told k word = shows_on (view_at s.views k) (id_for s.tagged word) (read_in s told k) (λ view id e. shows_asking k view id e)

  unless : (b : Bool) (new : State) → IsShown live views tags new → IsShown live views tags (cond b s new)
  unless true new h = is
  unless false new h = h

  pub source_shows : (told : Told) (k : ℕ) (word : IdWord) (reply : Answer → Reply) → IsShown live views tags (source_step s told k word reply).state
  source_shows told k word reply =
      shows_on (view_at s.views k) (id_for s.tagged word) (source_in s told reply k) (λ view id e. unless (same_id id detached_entry) (asking s k view id) (shows_asking k view id e))

  pub question_shows : {A : Type 0} → (o : Option Space) (named : Option A) (f : Space → A → Stepped) → ((space : Space) (a : A) → (f space a).state ≡ s) → IsShown live views tags (on_named s o named f).state
  question_shows o named f h = shows_on o named f (λ space a e. subst (λ (x : State). IsShown live views tags x) (sym (h space a)) is)

  -- ---- what is listed of a target

  pub some_listed : (reply : Space → Reply) (r : Reply) (t : Target) (k : Kept MockRootResolver) (o : Option Space) → Found o k → ((space : Space) → Shows k space → r ≡ reply space) → r ≡ listed reply o
  some_listed reply r t k o it h = h it.space it.shows ∙ ap (listed reply) (sym it.there)
