use Rattle.std.proofs.Common.{◌≡◌, take, map}
use Rattle.tinymist_plain.specs.Lists.{id_pairs}
use Rattle.tinymist_plain.proofs.version.Version.ids.Given as goal

abbrev pub invariant-loop-entry : goal.invariant-loop-entry
invariant-loop-entry l = l.ids.items ≡ map (λ e. e.0) (id_pairs (take l.entry-index l.self.by_id.items))
