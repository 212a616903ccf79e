-- What edits make of a state.
use Rattle.std.proofs.Common.{◌≡◌, ◌≢◌, ℕ, ◌-◌, ◌≤◌, ◌==◌, true, false, List, [], ◌∷◌, map, length, sym, ap, subst, ◌∙◌, inl, inr, Option, Some, None}
use Rattle.std.specs.Prelude.{slice_get, slice_set}
use Rattle.std.specs.Option.{is_some}
use Rattle.std.proofs.lemmas.Bool.Decides.{eqb_tells}
use Rattle.std.proofs.lemmas.List.{map-set}
use Rattle.std.proofs.lemmas.Option.{slice_get_past}
use Rattle.ty_model.specs.Values.{Id}
use Rattle.ty_model.specs.Batch.{Item}
use Rattle.ty_model.specs.Space as model_space
use Rattle.ty_model.specs.Space.{after_commit}
use Rattle.session_grammar.specs.Command.{Target, Live, View, IdWord}
use Rattle.tinymist_session.specs.Machine as machine
use Rattle.tinymist_session.specs.Machine.{space_at, with_space, edit_in, edit_step, edited, on_named, id_for, id_edit_step}
use Rattle.session_grammar.specs.Reply.{AtRevision, BadView, BadId}
use Rattle.tinymist_plain.specs.Kept.{Listed, space_of, part_of, IsKept, space_kept}
use Rattle.tinymist_plain.specs.declared.space.Space.{Space}
use Rattle.tinymist_plain.specs.declared.state.State.{State}
use Rattle.tinymist_plain.proofs.Found.{some_space, no_space_in, space_found, space_missing, named_as, unnamed_as, both_named}

revision_of : ℕ × List Listed → ℕ
revision_of (n, []) = 0
revision_of (n, v ∷ vs) = v.revision

not_zero : (n : ℕ) → n ≢ 0 → (n == 0) ≡ false
not_zero n h = elim (eqb_tells n 0) [ inl same ↦ absurd (h same.1) | inr other ↦ other.0 ]

-- a space after the commit of one item
abbrev pub Commits : Space → Space → Item → Type 0
Commits old new item = (w : model_space.Space) → space_of old ≡ part_of w → space_of new ≡ part_of (after_commit w (item ∷ []))

module _ (p : State) (s : machine.State) (item : Item) (is : IsKept p s) where
  pub live_reply : (new : Space) → Commits p.live new item → AtRevision new.latest.revision ≡ (edit_step s Live item).reply
  unfolding revision_of
  live_reply new h = ap (λ (k : ℕ × List Listed). AtRevision (revision_of k)) (h s.live is.live)

  pub live_keeps : (new : Space) → Commits p.live new item → IsKept (record p { live = new }) (edit_step s Live item).state
  live_keeps new h = record { live = h s.live is.live; views = is.views; next_space = is.next_space; next_tag = is.next_tag; tagged = is.tagged }

  module _ (k : ℕ) (some : k ≢ 0) where
    kept_is : (view : Space) → slice_get p.views.items (k - 1) ≡ Some view → Some view ≡ space_kept p (View k)
    kept_is view e = rw (not_zero k some) (sym e)

    module _ (view new : Space) (e : slice_get p.views.items (k - 1) ≡ Some view) (h : Commits view new item) where
      pub view_reply : AtRevision new.latest.revision ≡ (edit_step s (View k) item).reply
      unfolding revision_of
      view_reply =
          let there = space_found p s is (View k) view (kept_is view e) in
          ap (λ (kept : ℕ × List Listed). AtRevision (revision_of kept)) (h there.0 there.2)
          ∙ ap (λ (o : Option model_space.Space). (edit_in s (View k) item o).reply) (sym there.1)

      put_keeps : (q : State) → q.live ≡ p.live → q.views.items ≡ slice_set p.views.items (k - 1) new → q.next_space ≡ p.next_space → q.next_tag ≡ p.next_tag → q.tagged.items ≡ p.tagged.items → (space : model_space.Space) → space_of new ≡ part_of space → IsKept q (with_space s (View k) space)
      put_keeps q live views next_space next_tag tagged space same = record {
        live = ap space_of live ∙ is.live;
        views =
            ap (map space_of) views
            ∙ map-set space_of p.views.items (k - 1) new
            ∙ ap (λ (xs : List (ℕ × List Listed)). slice_set xs (k - 1) (space_of new)) is.views
            ∙ ap (slice_set (map part_of s.views) (k - 1)) same
            ∙ sym (map-set part_of s.views (k - 1) space);
        next_space = next_space ∙ is.next_space;
        next_tag = next_tag ∙ is.next_tag;
        tagged = tagged ∙ is.tagged;
      }

      pub view_keeps : (q : State) → q.live ≡ p.live → q.views.items ≡ slice_set p.views.items (k - 1) new → q.next_space ≡ p.next_space → q.next_tag ≡ p.next_tag → q.tagged.items ≡ p.tagged.items → IsKept q (edit_step s (View k) item).state
      view_keeps q live views next_space next_tag tagged =
          let there = space_found p s is (View k) view (kept_is view e) in
          subst (λ (o : Option model_space.Space). IsKept q (edit_in s (View k) item o).state) (sym there.1)
          (put_keeps q live views next_space next_tag tagged (after_commit there.0 (item ∷ [])) (h there.0 there.2))

    pub no_space : length p.views.items ≤ k - 1 → edit_step s (View k) item ≡ record { state = s; reply = BadView }
    no_space past = ap (edit_in s (View k) item) (space_missing p s is (View k) (rw (not_zero k some) (sym (slice_get_past p.views.items (k - 1) past))))

  -- no view has the number 0
  pub no_space_0 : (k : ℕ) → k ≡ 0 → edit_step s (View k) item ≡ record { state = s; reply = BadView }
  no_space_0 k e = ap (λ (n : ℕ). edit_step s (View n) item) e

-- ---- an edit of an id that a word names

module _ (p : State) (s : machine.State) (is : IsKept p s) (target : Target) (word : IdWord) (item : Id → Item) where
  pub id_edit_nowhere : is_some (space_kept p target) ≡ false → id_edit_step s target word item ≡ record { state = s; reply = BadView }
  id_edit_nowhere e = ap (λ (o : Option model_space.Space). on_named s o (id_for s.tagged word) (λ space id. edited s target (item id) space)) (space_missing p s is target (no_space_in (space_kept p target) e))

  module _ (e : is_some (space_kept p target) ≡ true) where
    pub id_edit_unnamed : None ≡ id_for p.tagged.items word → id_edit_step s target word item ≡ record { state = s; reply = BadId }
    id_edit_unnamed none =
        let here = some_space (space_kept p target) e in
        let there = space_found p s is target here.0 here.1 in
        λ j. on_named s (there.1 j) (unnamed_as p s is word none j) (λ space id. edited s target (item id) space)

    pub id_edit_is : (id : Id) → Some id ≡ id_for p.tagged.items word → edit_step s target (item id) ≡ id_edit_step s target word item
    id_edit_is id some =
        let here = some_space (space_kept p target) e in
        let there = space_found p s is target here.0 here.1 in
        ap (edit_in s target (item id)) there.1
        ∙ both_named s (λ space id. edited s target (item id) space) (space_at s target) (id_for s.tagged word) there.0 id there.1 (named_as p s is word id some)
