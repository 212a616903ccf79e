use Rattle.std.proofs.Common.{◌≡◌, map}
use Rattle.tinymist_vfs.proofs.vfs.listing.ids_of.Given as goal

abbrev pub invariant-loop-id : goal.invariant-loop-id
invariant-loop-id l = l.ids.items ≡ map (λ e. e.0.now) l.yielded
