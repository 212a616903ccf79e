-- What a question leaves of the state.
use Rattle.std.proofs.Common.{◌≡◌, ℕ, ◌-◌, ◌==◌, zero, suc, Bool, true, false, cond, not, ◌&&◌, List, [], ◌∷◌, ◌++◌, map, get_or, refl, sym, ap, ◌∙◌, Option, Some, None}
use Rattle.std.specs.Prelude.{slice_get, slice_set}
use Rattle.std.specs.List.{list_any}
use Rattle.std.proofs.Math.Seq.{map-set_same}
use Rattle.ty_model.specs.Values.{Id, Answer}
use Rattle.ty_model.specs.Version.{same_id}
use Rattle.ty_model.specs.Places.{detached_entry}
use Rattle.ty_model.specs.Disk.{Told}
use Rattle.ty_model.specs.Space.{Space}
use Rattle.session_grammar.specs.Command.{Target, IdWord}
use Rattle.session_grammar.specs.Reply.{Reply}
use Rattle.tinymist_session.specs.Machine as machine
use Rattle.tinymist_session.specs.Machine.{Stepped, view_at, space_at, with_asked, asking, on_named, id_for, ids_for, read_in, read_step, source_in, source_step, path_step, clean_step}
use Rattle.tinymist_plain.specs.Kept.{part_of, IsKept}
use Rattle.tinymist_plain.specs.declared.state.State.{State}

-- asked ids are no part of what is kept
part-asked : (id : Id) (w : Space) → part_of (with_asked id w) ≡ part_of w
part-asked id w = elim (w.compiling && not (list_any (same_id id) w.asked)) as (λ b. part_of (cond b (record w { asked = w.asked ++ id ∷ [] }) w) ≡ part_of w) [ true ↦ refl | false ↦ refl ]

item_at : (views : List Space) (k : ℕ) (w : Space) → slice_get views k ≡ Some w → get_or views k w ≡ w
item_at [] k w e = refl
item_at (v ∷ vs) zero w e = cc
item_at (v ∷ vs) (suc k) w e = item_at vs k w e

-- what a reader of spaces sees of the views, where it doesn't see asked ids
module _ {A : Type 0} (f : Space → A) (stays : (id : Id) (w : Space) → f (with_asked id w) ≡ f w) where
  pub views_same : (views : List Space) (k : ℕ) (w : Space) (id : Id) → slice_get views k ≡ Some w → map f (slice_set views k (with_asked id w)) ≡ map f views
  views_same views k w id e = map-set_same f views k (with_asked id w) w (stays id w ∙ ap f (sym (item_at views k w e)))

pub got : (b : Bool) (o : Option Space) (w : Space) → cond b None o ≡ Some w → o ≡ Some w
got true o w e = cc
got false o w e = e

module _ (p : State) (s : machine.State) (is : IsKept p s) where
  asking_keeps : (k : ℕ) (w : Space) (id : Id) → view_at s.views k ≡ Some w → IsKept p (asking s k w id)
  asking_keeps k w id e = record {
    live = is.live;
    views = is.views ∙ sym (views_same part_of part-asked s.views (k - 1) w id (got (k == 0) (slice_get s.views (k - 1)) w e));
    next_space = is.next_space;
    next_tag = is.next_tag;
    tagged = is.tagged;
  }

  keeps : {A : Type 0} (o : Option Space) (named : Option A) (f : Space → A → Stepped) → ((w : Space) (a : A) → o ≡ Some w → IsKept p (f w a).state) → IsKept p (on_named s o named f).state
  keeps None named f h = is
  keeps (Some w) None f h = is
  keeps (Some w) (Some a) f h = h w a refl

  pub read_keeps : (told : Told) (k : ℕ) (word : IdWord) → IsKept p (read_step s told k word).state
  read_keeps told k word = keeps (view_at s.views k) (id_for s.tagged word) (read_in s told k) (λ w id e. asking_keeps k w id e)

  pub source_keeps : (told : Told) (k : ℕ) (word : IdWord) (reply : Answer → Reply) → IsKept p (source_step s told k word reply).state
  source_keeps told k word reply = keeps (view_at s.views k) (id_for s.tagged word) (source_in s told reply k) (λ w id e.
      elim (same_id id detached_entry) as (λ b. IsKept p (cond b s (asking s k w id))) [
        | true ↦ is
        | false ↦ asking_keeps k w id e
      ])

  pub path_keeps : (target : Target) (word : IdWord) → IsKept p (path_step s target word).state
  path_keeps target word = keeps (space_at s target) (id_for s.tagged word) _ (λ w id e. is)

  pub clean_keeps : (target : Target) (r : ℕ) (words : List IdWord) → IsKept p (clean_step s target r words).state
  clean_keeps target r words = keeps (space_at s target) (ids_for s.tagged words) _ (λ w ids e. is)
