use Rattle.std.proofs.Common.{◌-◌, length, drop}
use Rattle.tinymist_package.specs.Walk.{Walks, IsOwn, files_of}
use Rattle.tinymist_package.proofs.pack.map_pack.MapPackPackFs.hand_to.Given as goal

-- the files that are left are walked as all of them are
abbrev pub invariant-loop-path : goal.invariant-loop-path
invariant-loop-path g l =
    g.T.TakesFiles.takes_any l.taker
    × ((r : _) (last : _) → Walks g.T.TakesFiles.takes (IsOwn 0 0) l.taker (files_of (drop l.at l.self.files.entries)) r last → Walks g.T.TakesFiles.takes (IsOwn 0 0) l.initial.taker (files_of l.self.files.entries) r last)

abbrev pub decreases-loop-path : goal.decreases-loop-path
decreases-loop-path g l = length l.self.files.entries - l.at
