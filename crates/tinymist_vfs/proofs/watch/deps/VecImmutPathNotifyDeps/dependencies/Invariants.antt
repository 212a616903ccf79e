use Rattle.std.proofs.Common.{length}
use Rattle.tinymist_vfs.specs.Deps.{CallsAt}
use Rattle.tinymist_vfs.proofs.watch.deps.VecImmutPathNotifyDeps.dependencies.Given as goal

-- calls at the paths that are left end as calls at all of them
abbrev pub invariant-loop-path : goal.invariant-loop-path
invariant-loop-path g l =
    goal.G-IsAlwaysCallable g l.f
    × ((last : _) → CallsAt (goal.G-step g) l.rest l.f last → CallsAt (goal.G-step g) l.initial.rest l.initial.f last)

abbrev pub decreases-loop-path : goal.decreases-loop-path
decreases-loop-path g l = length l.rest
