-- A commit that would be full is refused.
use Rattle.std.proofs.Common.{◌≡◌, ℕ, ◌+◌, ◌^◌, ◌<◌, true, List, ap, arith, rules, Result, Ok, Err}
use Rattle.std.specs.Prelude.{IfOk, IsErr}
use Rattle.ty_model.specs.Batch as change
use Rattle.ty_model.specs.Batch.{rises}
use Rattle.ty_model.specs.Standing.{Held}
use Rattle.ty_model.specs.Touched.{commit_held}
use Rattle.ty_model.specs.Held.{Kept}
use Rattle.tinymist_vfs.specs.Commits.{committed, is_full}
use Rattle.tinymist_vfs.specs.declared.batch.revise.ReviseFault.{ReviseFault}

raised_to : (h : Held) (batch : List change.Item) → rises h.space h.revision h.layers batch ≡ true → (commit_held h batch).revision ≡ h.revision + 1
raised_to h batch is = rw is

pub full_refused : {R : Type 0} (old new : Kept R) (batch : List change.Item) (r : Result ℕ ReviseFault) → IfOk r (λ n. n < 2 ^ 64) → IfOk r (λ n. (new ≡ committed old batch) × (n ≡ new.held.revision)) → is_full old.held batch → IsErr r
full_refused {R} old new batch (Ok n) below done full =
    let up = raised_to old.held batch full.0 in
    let is : new.held.revision ≡ (commit_held old.held batch).revision = ap (λ (k : Kept R). k.held.revision) done.0 in
    let same = done.1 in
    let at = full.1 in
    absurd (omega arith)
full_refused old new batch (Err e) below done full = search rules
