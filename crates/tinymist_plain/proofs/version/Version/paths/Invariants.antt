use Rattle.std.proofs.Common.{◌≡◌, take, map}
use Rattle.ty_path.specs.Shared.{path_text}
use Rattle.tinymist_plain.specs.Lists.{pairs}
use Rattle.tinymist_plain.proofs.version.Version.paths.Given as goal

abbrev pub invariant-loop-entry : goal.invariant-loop-entry
invariant-loop-entry l = map path_text l.paths.items ≡ map (λ e. e.0) (pairs (take l.entry-index l.self.by_path.items))
