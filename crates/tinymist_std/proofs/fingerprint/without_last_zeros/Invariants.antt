use Rattle.std.proofs.Common.{◌≡◌, length}
use Rattle.tinymist_std.specs.Fingerprint.{without_last_zeros}
use Rattle.tinymist_std.proofs.fingerprint.without_last_zeros.Given as goal

abbrev pub invariant-loop-last : goal.invariant-loop-last
invariant-loop-last l = without_last_zeros l.kept ≡ without_last_zeros l.bytes

abbrev pub decreases-loop-last : goal.decreases-loop-last
decreases-loop-last l = length l.kept
