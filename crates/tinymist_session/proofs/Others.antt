-- A step changes no space but its target.
use Rattle.std.proofs.Common.{◌≡◌, ◌≢◌, ℕ, ◌+◌, ◌-◌, ◌==◌, zero, suc, Bool, true, false, cond, List, [], ◌∷◌, ◌++◌, refl, sym, ap, ◌∙◌, arith, Option, Some, None}
use Rattle.std.proofs.lemmas.Bool.{eqb-false}
use Rattle.std.specs.Prelude.{slice_get, slice_set}
use Rattle.ty_model.specs.Values.{Id, Answer}
use Rattle.ty_model.specs.Version.{same_id}
use Rattle.ty_model.specs.Disk.{Told}
use Rattle.ty_model.specs.Places.{place_of, detached_entry}
use Rattle.ty_model.specs.Batch as batch
use Rattle.ty_model.specs.Batch.{Item}
use Rattle.ty_model.specs.Space.{Space, after_commit, snapshot_of}
use Rattle.session_grammar.specs.Grammar.{answer_at}
use Rattle.session_grammar.specs.Command.{Target, Live, View, Command, Edit, MapId, UnmapId, Rootless, Snapshot, Read, Source, Line, Paths, Ids, Path, Clean, IdWord}
use Rattle.session_grammar.specs.Reply.{Reply, place_reply, text_reply, line_reply}
use Rattle.tinymist_session.specs.Machine.{State, Stepped, view_at, space_at, with_space, with_asked, asking, edited, edit_in, id_edit_step, on_named, read_in, source_in, source_step, replied, clean_reply, id_for, ids_for, step, changed_space, LeavesOthers}

pub slice_get-set_other : {A : Type 0} → (xs : List A) (i j : ℕ) (y : A) → i ≢ j → slice_get (slice_set xs i y) j ≡ slice_get xs j
slice_get-set_other [] i j y h = refl
slice_get-set_other (x ∷ xs) zero zero y h = absurd (h refl)
slice_get-set_other (x ∷ xs) zero (suc j) y h = refl
slice_get-set_other (x ∷ xs) (suc i) zero y h = refl
slice_get-set_other (x ∷ xs) (suc i) (suc j) y h = slice_get-set_other xs i j y (λ e. h (ap suc e))

pub slice_get-push : {A : Type 0} → (xs : List A) (j : ℕ) (x y : A) → slice_get xs j ≡ Some x → slice_get (xs ++ y ∷ []) j ≡ Some x
slice_get-push [] j x y e = absurd (cc)
slice_get-push (z ∷ zs) zero x y e = e
slice_get-push (z ∷ zs) (suc j) x y e = slice_get-push zs j x y e

module _ (s : State) (space : Space) where
  -- ---- a view by its number

  at_view : (b : Bool) (i : ℕ) (found : Space) → cond b None (slice_get s.views i) ≡ Some found → (b ≡ false) × (slice_get s.views i ≡ Some found)
  at_view true i found e = absurd (cc)
  at_view false i found e = (refl, e)

  set_view : (n k : ℕ) (put found : Space) → view_at s.views n ≡ Some found → n ≢ k → view_at s.views k ≡ Some space → view_at (slice_set s.views (n - 1) put) k ≡ Some space
  set_view n k put found there h e =
      let of_n = at_view (n == 0) (n - 1) found there in
      let of_k = at_view (k == 0) (k - 1) space e in
      rw of_k.0 (slice_get-set_other s.views (n - 1) (k - 1) put (λ same. h (omega (arith, eqb-false n 0 of_n.0, eqb-false k 0 of_k.0, same))) ∙ of_k.1)

  push_view : (k : ℕ) (view : Space) → view_at s.views k ≡ Some space → view_at (s.views ++ view ∷ []) k ≡ Some space
  push_view k view e =
      let of_k = at_view (k == 0) (k - 1) space e in
      rw of_k.0 (slice_get-push s.views (k - 1) space view of_k.1)

  -- ---- edits

  put_others : (target other : Target) (put found : Space) → space_at s target ≡ Some found → target ≢ other → space_at s other ≡ Some space → space_at (with_space s target put) other ≡ Some space
  put_others Live Live put found there h e = absurd (h refl)
  put_others Live (View k) put found there h e = e
  put_others (View n) Live put found there h e = e
  put_others (View n) (View k) put found there h e = set_view n k put found there (λ same. h (ap View same)) e

  edit_others : (target other : Target) (item : Item) (o : Option Space) → space_at s target ≡ o → target ≢ other → space_at s other ≡ Some space → space_at (edit_in s target item o).state other ≡ Some space
  edit_others target other item None is h e = e
  edit_others target other item (Some found) is h e = put_others target other (after_commit found (item ∷ [])) found is h e

  on_others : {A : Type 0} → (other : Target) (o : Option Space) (named : Option A) (f : Space → A → Stepped) → ((found : Space) (a : A) → o ≡ Some found → space_at (f found a).state other ≡ Some space) → space_at s other ≡ Some space → space_at (on_named s o named f).state other ≡ Some space
  on_others other None named f h e = e
  on_others other (Some found) None f h e = e
  on_others other (Some found) (Some a) f h e = h found a refl

  id_edit_others : (target other : Target) (word : IdWord) (item : Id → Item) → target ≢ other → space_at s other ≡ Some space → space_at (id_edit_step s target word item).state other ≡ Some space
  id_edit_others target other word item h e = on_others other (space_at s target) (id_for s.tagged word) (λ found id. edited s target (item id) found) (λ found id there. put_others target other (after_commit found (item id ∷ [])) found there h e) e

  -- ---- an id of a view is asked for

  asking_others : (view : ℕ) (other : Target) (found : Space) (id : Id) → View view ≢ other → view_at s.views view ≡ Some found → space_at s other ≡ Some space → space_at (asking s view found id) other ≡ Some space
  asking_others view Live found id h there e = e
  asking_others view (View k) found id h there e = set_view view k (with_asked id found) found there (λ same. h (ap View same)) e

  read_others : (disk : Told) (view : ℕ) (other : Target) (word : IdWord) → View view ≢ other → space_at s other ≡ Some space → space_at (step s disk (Read view word)).state other ≡ Some space
  read_others disk view other word h e = on_others other (view_at s.views view) (id_for s.tagged word) (read_in s disk view) (λ found id there. asking_others view other found id h there e) e

  unless_others : (b : Bool) (other : Target) (new : State) → space_at s other ≡ Some space → space_at new other ≡ Some space → space_at (cond b s new) other ≡ Some space
  unless_others true other new e h = e
  unless_others false other new e h = h

  source_others : (disk : Told) (view : ℕ) (other : Target) (word : IdWord) (reply : Answer → Reply) → View view ≢ other → space_at s other ≡ Some space → space_at (source_step s disk view word reply).state other ≡ Some space
  source_others disk view other word reply h e =
      on_others other (view_at s.views view) (id_for s.tagged word) (source_in s disk reply view)
      (λ found id there. unless_others (same_id id detached_entry) other (asking s view found id) e (asking_others view other found id h there e)) e

  -- ---- a snapshot

  snapshot_others : (disk : Told) (other : Target) → space_at s other ≡ Some space → space_at (step s disk Snapshot).state other ≡ Some space
  snapshot_others disk Live e = e
  snapshot_others disk (View k) e = push_view k (snapshot_of s.next_space s.live) e

  -- each space but the one that the command may change is as before, and a view that is there stays
  pub others : (disk : Told) (command : Command) (other : Target) → changed_space command ≢ Some other → space_at s other ≡ Some space → space_at (step s disk command).state other ≡ Some space
  others disk (Edit target item) other h e = edit_others target other item (space_at s target) refl (λ same. h (ap Some same)) e
  others disk (MapId target word content) other h e = id_edit_others target other word (λ id. batch.MapId id (answer_at id.vpath content)) (λ same. h (ap Some same)) e
  others disk (UnmapId target word) other h e = id_edit_others target other word batch.UnmapId (λ same. h (ap Some same)) e
  others disk (Rootless vpath) Live h e = e
  others disk (Rootless vpath) (View k) h e = e
  others disk Snapshot other h e = snapshot_others disk other e
  others disk (Read view word) other h e = read_others disk view other word (λ same. h (ap Some same)) e
  others disk (Source view word) other h e = source_others disk view other word text_reply (λ same. h (ap Some same)) e
  others disk (Line view word offset) other h e = source_others disk view other word (line_reply offset) (λ same. h (ap Some same)) e
  others disk (Paths target) other h e = e
  others disk (Ids target) other h e = e
  others disk (Path target word) other h e = on_others other (space_at s target) (id_for s.tagged word) (λ found id. replied s (place_reply id (place_of found.now.resolver id))) (λ found id there. e) e
  others disk (Clean target r words) other h e = on_others other (space_at s target) (ids_for s.tagged words) (λ found ids. replied s (clean_reply found r ids)) (λ found ids there. e) e

pub leaves_others : LeavesOthers
leaves_others disk s command target space h e = others s space disk command target h e
