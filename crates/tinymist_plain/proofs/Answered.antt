-- What questions are answered, by what is kept of a state.
use Rattle.std.proofs.Common.{◌≡◌, ℕ, ◌≤◌, ◌&&◌, Bool, true, cond, List, ◌∷◌, map, sym, ap, ◌∙◌, Some, None}
use Rattle.std.proofs.lemmas.Bool.{le-leb}
use Rattle.std.specs.Prelude.{nat_le}
use Rattle.std.specs.FinMap as finmap
use Rattle.ty_model.specs.Values.{Id, Answer}
use Rattle.ty_model.specs.Version as model
use Rattle.ty_model.specs.Places.{place_of}
use Rattle.ty_model.specs.Disk.{Told}
use Rattle.ty_model.specs.Space.{Space as Whole}
use Rattle.ty_model.specs.Standing.{are_clean}
use Rattle.session_grammar.specs.Command.{Target, IdWord}
use Rattle.session_grammar.specs.Reply.{Reply, PathList, IdList, IsClean, BadView, BadRevision, reply_to, place_reply}
use Rattle.tinymist_session.specs.Machine as machine
use Rattle.tinymist_session.specs.Machine.{Stepped, view_at, space_at, id_for, ids_for, replied, read_in, read_step, source_at, source_in, source_step, path_step, path_list, id_list, has_revision, clean_reply, clean_step}
use Rattle.tinymist_plain.specs.Kept.{Listed, listed, version_of, layers_of, looked, all_clean, space_of, part_of, IsKept, view_kept, space_kept}
use Rattle.tinymist_plain.specs.declared.space.Space.{Space}
use Rattle.tinymist_plain.specs.declared.state.State.{State}
use Rattle.tinymist_plain.proofs.Edits.{latest_is}
use Rattle.tinymist_plain.proofs.Looks.{looks}
use Rattle.tinymist_plain.proofs.Clean.{cleans}
use Rattle.tinymist_plain.proofs.Found.{view_found, space_found, space_missing, named_as, all_named_as, both_named}

abbrev reply : Stepped → Reply
reply stepped = stepped.reply

module _ (p : State) (s : machine.State) (is : IsKept p s) where
  -- ---- questions of views

  module _ (told : Told) (k : ℕ) (word : IdWord) (view : Space) (id : Id) (here : Some view ≡ view_kept p.views.items k) (named : Some id ≡ id_for p.tagged.items word) where
    pub read_says : (answer : Answer) → answer ≡ looked (version_of view.latest) told id → reply_to answer ≡ (read_step s told k word).reply
    read_says answer says =
        let there = view_found p s is k view here in
        ap reply_to (says ∙ looks view.latest there.0.now told id (latest_is view there.0 there.2))
        ∙ ap reply (both_named s (read_in s told k) (view_at s.views k) (id_for s.tagged word) there.0 id there.1 (named_as p s is word id named))

    pub source_says : (with : Answer → Reply) (answer : Answer) → ((v : model.Version) → version_of view.latest ≡ listed v → answer ≡ source_at v told id) → with answer ≡ (source_step s told k word with).reply
    source_says with answer says =
        let there = view_found p s is k view here in
        ap with (says there.0.now (latest_is view there.0 there.2))
        ∙ ap reply (both_named s (source_in s told with k) (view_at s.views k) (id_for s.tagged word) there.0 id there.1 (named_as p s is word id named))

  -- ---- questions of targets

  module _ (target : Target) where
    pub paths_say : (space : Space) → Some space ≡ space_kept p target → PathList (map (λ e. e.0) (layers_of space.latest).by_path) ≡ machine.listed path_list (space_at s target)
    paths_say space here =
        let there = space_found p s is target space here in
        ap (λ (v : Listed). PathList (map (λ e. e.0) v.layers.by_path)) (latest_is space there.0 there.2)
        ∙ ap (machine.listed path_list) (sym there.1)

    pub ids_say : (space : Space) → Some space ≡ space_kept p target → IdList (map (λ e. e.0) (layers_of space.latest).by_id) ≡ machine.listed id_list (space_at s target)
    ids_say space here =
        let there = space_found p s is target space here in
        ap (λ (v : Listed). IdList (map (λ e. e.0) v.layers.by_id)) (latest_is space there.0 there.2)
        ∙ ap (machine.listed id_list) (sym there.1)

    pub nothing_listed : (list : Whole → Reply) → None ≡ space_kept p target → BadView ≡ machine.listed list (space_at s target)
    nothing_listed list none = ap (machine.listed list) (sym (space_missing p s is target none))

    pub path_says : (word : IdWord) (space : Space) (id : Id) → Some space ≡ space_kept p target → Some id ≡ id_for p.tagged.items word → place_reply id (place_of finmap.empty id) ≡ (path_step s target word).reply
    path_says word space id here named =
        let there = space_found p s is target space here in
        ap (λ (v : Listed). place_reply id (place_of v.resolver id)) (latest_is space there.0 there.2)
        ∙ ap reply (both_named s (λ space id. replied s (place_reply id (place_of space.now.resolver id))) (space_at s target) (id_for s.tagged word) there.0 id there.1 (named_as p s is word id named))

    pub clean_says : (r : ℕ) (words : List IdWord) (space : Space) (ids : List Id) → Some space ≡ space_kept p target → Some ids ≡ ids_for p.tagged.items words
        → (w : Whole) × (space_of space ≡ part_of w) × (clean_reply w r ids ≡ (clean_step s target r words).reply)
    clean_says r words space ids here named =
        let there = space_found p s is target space here in
        (there.0, there.2, ap reply (both_named s (λ space ids. replied s (clean_reply space r ids)) (space_at s target) (ids_for s.tagged words) there.0 ids there.1 (all_named_as p s is words ids named)))

-- ---- clean ids of one space

module _ (p : Space) (s : Whole) (r : ℕ) (is : space_of p ≡ part_of s) (within : r ≤ p.latest.revision) (past_first : 2 ≤ r) where
  had : has_revision s r ≡ true
  had =
      let same : p.latest.revision ≡ s.now.revision = ap (λ (v : Listed). v.revision) (latest_is p s is) in
      λ j. le-leb 2 r past_first j && (ap (λ (n : ℕ). nat_le r n) (sym same) ∙ le-leb r p.latest.revision within) j

  pub replies_clean : (ids : List Id) (clean : Bool) → clean ≡ all_clean p r ids → IsClean clean ≡ clean_reply s r ids
  replies_clean ids clean says =
      ap IsClean (says ∙ cleans p s r is within ids)
      ∙ ap (λ b. cond b (IsClean (are_clean (s.now ∷ s.past) r ids)) BadRevision) (sym had)
