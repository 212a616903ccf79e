use Rattle.std.proofs.Common.{◌≡◌, ◌+◌, ◌*◌, ◌≤◌, true, take}
use Rattle.std.specs.List.{list_all}
use Rattle.ty_model.specs.Standing.{clean_by}
use Rattle.tinymist_vfs.proofs.vfs.Vfs.are_ids_clean.Given as goal

abbrev pub invariant-loop-id : goal.invariant-loop-id
invariant-loop-id g l = record { clean : list_all (clean_by l.self.held.changes (g.R.RootResolver.known l.self.resolver) l.rev) (take l.id-index l.ids) ≡ true; cost : l.steps ≤ l.initial.steps + 2 * l.id-index }
