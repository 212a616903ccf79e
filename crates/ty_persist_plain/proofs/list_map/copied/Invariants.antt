use Rattle.std.proofs.Common.{◌≡◌, ◌+◌, ◌≤◌, take}
use Rattle.ty_persist_plain.specs.ListMap.{pairs}
use Rattle.ty_persist_plain.proofs.list_map.copied.Given as goal

-- the entries so far are copied, one step each
abbrev pub invariant-loop-entry : goal.invariant-loop-entry
invariant-loop-entry g l = record {
  same : pairs l.made.items ≡ pairs (take l.entry-index l.entries);
  cost : l.steps ≤ l.fn.steps + l.entry-index;
}
