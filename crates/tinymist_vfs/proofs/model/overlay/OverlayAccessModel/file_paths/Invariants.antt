use Rattle.std.proofs.Common.{◌≡◌, map}
use Rattle.tinymist_vfs.proofs.model.overlay.OverlayAccessModel.file_paths.Given as goal

abbrev pub invariant-loop-key : goal.invariant-loop-key
invariant-loop-key g l = map g.K.Share.seen l.keys.items ≡ map (λ e. g.K.Share.seen e.0.now) l.yielded
