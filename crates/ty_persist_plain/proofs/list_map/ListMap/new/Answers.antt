use Rattle.ty_persist.proofs.Entries.{ascending_nil}
use Rattle.ty_persist_plain.proofs.list_map.ListMap.new.Goals as goal

pub invariant_of-result : goal.invariant_of-result
invariant_of-result g c = rw c.new.ensures.items (ascending_nil _)
