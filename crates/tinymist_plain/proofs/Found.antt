-- The spaces that are kept of a state, and steps on what a line names.
use Rattle.std.proofs.Common.{◌≡◌, ℕ, ◌-◌, ◌==◌, true, false, cond, List, refl, sym, ap, ◌∙◌, Option, Some, None}
use Rattle.std.specs.Prelude.{slice_get}
use Rattle.std.specs.Option.{option_map, is_some}
use Rattle.std.proofs.lemmas.Option.{slice_get-map}
use Rattle.ty_model.specs.Values.{Id}
use Rattle.ty_model.specs.Space.{Space as Whole}
use Rattle.session_grammar.specs.Command.{Target, Live, View, IdWord}
use Rattle.session_grammar.specs.Reply.{BadView, BadId}
use Rattle.tinymist_session.specs.Machine as machine
use Rattle.tinymist_session.specs.Machine.{Stepped, view_at, space_at, on_named, id_for, ids_for}
use Rattle.tinymist_plain.specs.Kept.{Listed, space_of, part_of, IsKept, view_kept, space_kept}
use Rattle.tinymist_plain.specs.declared.space.Space.{Space}
use Rattle.tinymist_plain.specs.declared.state.State.{State}

-- this space stands there, and the other keeps its parts
abbrev pub Stands : Space → Option Whole → Type 0
Stands p o = (w : Whole) × (o ≡ Some w) × (space_of p ≡ part_of w)

stands : (o : Option Whole) (p : Space) → option_map space_of (Some p) ≡ option_map part_of o → Stands p o
stands None p e = absurd (cc)
stands (Some w) p e = (w, refl, cc)

missing : (o : Option Whole) → option_map space_of None ≡ option_map part_of o → o ≡ None
missing None e = refl
missing (Some w) e = absurd (cc)

pub some_space : (o : Option Space) → is_some o ≡ true → (space : Space) × (Some space ≡ o)
some_space None e = absurd (cc)
some_space (Some space) e = (space, refl)

pub no_space_in : (o : Option Space) → is_some o ≡ false → None ≡ o
no_space_in None e = refl
no_space_in (Some space) e = absurd (cc)

-- an option that isn't some
pub none_by : {A : Type 0} (o : Option A) → ((x : A) → ¬ (o ≡ Some x)) → None ≡ o
none_by None h = refl
none_by (Some x) h = absurd (h x refl)

module _ (p : State) (s : machine.State) (is : IsKept p s) where
  views_agree : (k : ℕ) → option_map space_of (view_kept p.views.items k) ≡ option_map part_of (view_at s.views k)
  views_agree k = elim (k == 0) as (λ b. option_map space_of (cond b None (slice_get p.views.items (k - 1))) ≡ option_map part_of (cond b None (slice_get s.views (k - 1)))) [
    | true ↦ refl
    | false ↦ sym (slice_get-map space_of p.views.items (k - 1)) ∙ ap (λ (vs : List (ℕ × List Listed)). slice_get vs (k - 1)) is.views ∙ slice_get-map part_of s.views (k - 1)
  ]

  spaces_agree : (target : Target) → option_map space_of (space_kept p target) ≡ option_map part_of (space_at s target)
  spaces_agree Live = ap Some is.live
  spaces_agree (View k) = views_agree k

  pub view_found : (k : ℕ) (view : Space) → Some view ≡ view_kept p.views.items k → Stands view (view_at s.views k)
  view_found k view e = stands (view_at s.views k) view (ap (option_map space_of) e ∙ views_agree k)

  pub view_missing : (k : ℕ) → None ≡ view_kept p.views.items k → view_at s.views k ≡ None
  view_missing k e = missing (view_at s.views k) (ap (option_map space_of) e ∙ views_agree k)

  pub space_found : (target : Target) (space : Space) → Some space ≡ space_kept p target → Stands space (space_at s target)
  space_found target space e = stands (space_at s target) space (ap (option_map space_of) e ∙ spaces_agree target)

  pub space_missing : (target : Target) → None ≡ space_kept p target → space_at s target ≡ None
  space_missing target e = missing (space_at s target) (ap (option_map space_of) e ∙ spaces_agree target)

  -- ---- what words name

  pub named_as : (word : IdWord) (id : Id) → Some id ≡ id_for p.tagged.items word → id_for s.tagged word ≡ Some id
  named_as word id e = ap (λ (ids : List Id). id_for ids word) (sym is.tagged) ∙ sym e

  pub unnamed_as : (word : IdWord) → None ≡ id_for p.tagged.items word → id_for s.tagged word ≡ None
  unnamed_as word e = ap (λ (ids : List Id). id_for ids word) (sym is.tagged) ∙ sym e

  pub all_named_as : (words : List IdWord) (ids : List Id) → Some ids ≡ ids_for p.tagged.items words → ids_for s.tagged words ≡ Some ids
  all_named_as words ids e = ap (λ (tagged : List Id). ids_for tagged words) (sym is.tagged) ∙ sym e

-- ---- steps on a space and what is named in it

module _ {A : Type 0} (s : machine.State) (f : Whole → A → Stepped) (o : Option Whole) (named : Option A) where
  pub bad_view : o ≡ None → BadView ≡ (on_named s o named f).reply
  bad_view e = ap (λ (o : Option Whole). (on_named s o named f).reply) (sym e)

  pub bad_id : (w : Whole) → o ≡ Some w → named ≡ None → BadId ≡ (on_named s o named f).reply
  bad_id w e none = λ j. (on_named s (sym e j) (sym none j) f).reply

  pub both_named : (w : Whole) (a : A) → o ≡ Some w → named ≡ Some a → f w a ≡ on_named s o named f
  both_named w a e some = λ j. on_named s (sym e j) (sym some j) f
