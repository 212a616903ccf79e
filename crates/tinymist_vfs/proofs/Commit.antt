-- What a commit does to what is kept.
use Rattle.std.proofs.Common.{◌≡◌, ℕ, ◌+◌, Bool, true, false, cond, not, ◌||◌, ◌&&◌, List, [], ◌∷◌, Some, Result, Ok, Err, refl, ap, subst, sym, ◌∙◌}
use Rattle.std.specs.Prelude.{IfOk, OnOk}
use Rattle.std.specs.FinMap as finmap
use Rattle.std.proofs.lemmas.Cmp.{eq_by_cmp_equiv}
use Rattle.std.specs.List.{list_any}
use Rattle.ty_model.specs.Version as plain
use Rattle.ty_model.specs.Batch as change
use Rattle.ty_model.specs.Batch.{MapPath, applied_all, staged, rises, is_view, changes_view, next_stamp}
use Rattle.ty_model.specs.Places.{Resolver}
use Rattle.ty_model.specs.Standing.{Changes, Held, IsCommit, Stands, past_after, version_with, same_option}
use Rattle.ty_model.specs.Touched.{IsMarked, touched_ids, touched_paths}
use Rattle.ty_model.specs.Held.{Kept}
use Rattle.ty_model.specs.Values.{Answer, same_answer}
use Rattle.ty_model.specs.Touched.{same_path_at, commit_held}
use Rattle.ty_model.proofs.Commits.{rises_by, held_stays, held_rises, is_commit}
use Rattle.ty_model.proofs.Standing.{held_stands}
use Rattle.ty_model.proofs.Tests.{text_total, same_answer-Decides, same_option-Decides, same_stamp-Decides}
use Rattle.tinymist_vfs.specs.Items.{item_of, items_of}
use Rattle.tinymist_vfs.specs.Commits.{IsStaged, committed, put_held}
use Rattle.tinymist_vfs.specs.declared.batch.item.Item.{Item}

any_view : (items : List Item) → list_any (λ i. is_view (item_of i)) items ≡ changes_view (items_of items)
any_view [] = refl
any_view (i ∷ items) = ap (λ b. is_view (item_of i) || b) (any_view items)

pub is_staged : (old shared new : plain.Layers) (stamp : plain.Stamp) (items : List change.Item) → shared ≡ old → new ≡ applied_all stamp shared items → IsStaged old items new
is_staged old shared new stamp items same done = (stamp, done ∙ ap (λ (l : plain.Layers). applied_all stamp l items) same)

module _ {R : Type 0} (k : Kept R) (items : List Item) (differs view : Bool) (c0 c : Changes) (l0 new : plain.Layers) (stamp : plain.Stamp) (mark : ℕ)
    (shared : l0 ≡ k.held.layers) (stamped : stamp ≡ next_stamp k.held.space k.held.revision) (done : new ≡ applied_all stamp l0 (items_of items)) (changes : c0 ≡ k.held.changes)
    (marked : IsMarked k.held.layers new mark c0 (touched_ids k.held.layers (items_of items)) (touched_paths k.held.layers (items_of items)) differs c)
    (views : view ≡ list_any (λ i. is_view (item_of i)) items) where
  is : new ≡ staged k.held.space k.held.revision k.held.layers (items_of items)
  is = done ∙ (λ i. applied_all (stamped i) (shared i) (items_of items))

  seen : view ≡ changes_view (items_of items)
  seen = views ∙ any_view items

  now : IsMarked k.held.layers new mark k.held.changes (touched_ids k.held.layers (items_of items)) (touched_paths k.held.layers (items_of items)) differs c
  now = subst (λ (x : Changes). IsMarked k.held.layers new mark x (touched_ids k.held.layers (items_of items)) (touched_paths k.held.layers (items_of items)) differs c) changes marked

  pub raised : (differs || view) ≡ true → rises k.held.space k.held.revision k.held.layers (items_of items) ≡ true
  raised some = rises_by k.held (items_of items) differs view c new is mark now seen ∙ some

  pub stays : (differs || view) ≡ false → k ≡ committed k (items_of items)
  stays none = ap (put_held k) (held_stays k.held (items_of items) differs view c new is mark now seen none)

  pub rose : (differs || view) ≡ true → mark ≡ k.held.revision + 1 → put_held k (record (k.held) { revision = mark; layers = new; changes = c }) ≡ committed k (items_of items)
  rose some next = ap (put_held k) (held_rises k.held (items_of items) differs view c new is mark now seen some next)

-- ---- one shadow

-- the layers with a shadow at the path
abbrev pub shadowed : plain.Layers → List ℕ → Answer → plain.Layers
shadowed l path answer = record l { by_path = finmap.insert l.by_path path answer }

and_true : (a b c : Bool) → b ≡ true → c ≡ true → (a && b && c) ≡ a
and_true true b c p q = rw (p, q)
and_true false b c p q = refl

-- the path has the same exactly where its shadow is the same
same_at_shadow : (l : plain.Layers) (path : List ℕ) (answer : Answer) → same_path_at l (shadowed l path answer) path ≡ same_option same_answer (finmap.get l.by_path path) (Some answer)
same_at_shadow l path answer =
    let here : finmap.get (finmap.insert l.by_path path answer) path ≡ Some answer = finmap.get-insert text_total l.by_path path answer path ∙ ap (λ b. cond b (Some answer) (finmap.get l.by_path path)) ((eq_by_cmp_equiv text_total).refl path) in
    let told = (same_option-Decides same_answer same_answer-Decides (finmap.get l.told path) (finmap.get l.told path)).1 refl in
    let drop = (same_option-Decides plain.same_stamp same_stamp-Decides (finmap.get l.drops path) (finmap.get l.drops path)).1 refl in
    rw here (and_true (same_option same_answer (finmap.get l.by_path path) (Some answer)) _ _ told drop)

-- the change revisions, where the path may be marked
abbrev marked_where : Bool → Changes → List ℕ → ℕ → Changes
marked_where same c path revision = record c { paths = cond same c.paths (finmap.insert c.paths path revision) }

one_marked : (l : plain.Layers) (c : Changes) (path : List ℕ) (answer : Answer) (revision : ℕ) (same : Bool) → same ≡ same_option same_answer (finmap.get l.by_path path) (Some answer)
    → IsMarked l (shadowed l path answer) revision c [] (path ∷ []) (not same || false) (marked_where same c path revision)
one_marked l c path answer revision same is =
    let same_is : same_path_at l (shadowed l path answer) path ≡ same = same_at_shadow l path answer ∙ sym is in
    record {
      differs = ap (λ b. not b || false) (sym same_is);
      after = ap (λ b. marked_where b c path revision) (sym same_is);
    }

module _ {R : Type 0} (k : Kept R) (path : List ℕ) (answer : Answer) where
  abbrev batch : List change.Item
  batch = MapPath path answer ∷ []

  pub shadow_stays : true ≡ same_option same_answer (finmap.get k.held.layers.by_path path) (Some answer) → k ≡ committed k batch
  shadow_stays is = ap (put_held k) (held_stays k.held batch false false k.held.changes (shadowed k.held.layers path answer) refl 0 (one_marked k.held.layers k.held.changes path answer 0 true is) refl refl)

  module _ (is : false ≡ same_option same_answer (finmap.get k.held.layers.by_path path) (Some answer)) where
    pub shadow_raises : rises k.held.space k.held.revision k.held.layers batch ≡ true
    shadow_raises = rises_by k.held batch true false (marked_where false k.held.changes path 0) (shadowed k.held.layers path answer) refl 0 (one_marked k.held.layers k.held.changes path answer 0 false is) refl

    pub shadow_rose : (l : plain.Layers) (c : Changes) (revision : ℕ) → l ≡ shadowed k.held.layers path answer → c ≡ record (k.held.changes) { paths = finmap.insert k.held.changes.paths path revision } → revision ≡ k.held.revision + 1
        → put_held k (record (k.held) { revision = revision; layers = l; changes = c }) ≡ committed k batch
    shadow_rose l c revision is_l is_c next =
        rw (is_l, is_c) (ap (put_held k) (held_rises k.held batch true false (marked_where false k.held.changes path revision) (shadowed k.held.layers path answer) refl revision (one_marked k.held.layers k.held.changes path answer revision false is) refl refl next))

-- ---- what a holder that committed is left with

module _ {R H : Type 0} (kept : H → Kept R) (with_held : H → Held → H) (holds : (s : H) (h : Held) → kept (with_held s h) ≡ put_held (kept s) h) (old new : H) (batch : List change.Item) where
  left_held : new ≡ with_held old (commit_held (kept old).held batch) → commit_held (kept old).held batch ≡ (kept new).held
  left_held is = sym (ap (λ (k : Kept R). k.held) (ap kept is ∙ holds old (commit_held (kept old).held batch)))

  -- the answer of a commit
  abbrev pub Commits : {F : Type 0} → Result ℕ F → Type 0
  Commits r = IfOk r (λ n. (new ≡ with_held old (commit_held (kept old).held batch)) × (n ≡ (commit_held (kept old).held batch).revision))

  pub left_commit : {F : Type 0} (r : Result ℕ F) → Commits r → OnOk r (IsCommit (kept old).held batch (kept new).held)
  left_commit (Ok n) done = subst (λ (h : Held). IsCommit (kept old).held batch h) (left_held done.0) (is_commit (kept old).held batch)
  left_commit (Err e) done = tt

  pub left_stands : (resolver : Resolver) (past : List plain.Version) → Stands (kept old).held resolver past → {F : Type 0} (r : Result ℕ F) → Commits r
      → OnOk r (Stands (kept new).held resolver (past_after (kept old).held.space (version_with (kept old).held resolver) past batch))
  left_stands resolver past s (Ok n) done = subst (λ (h : Held). Stands h resolver (past_after (kept old).held.space (version_with (kept old).held resolver) past batch)) (left_held done.0) (held_stands (kept old).held batch resolver past s)
  left_stands resolver past s (Err e) done = tt
