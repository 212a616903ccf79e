use Rattle.std.proofs.Common.{length, ◌-◌, ◌≤◌, take}
use Rattle.ty_persist_plain.specs.ListMap.{ArePassed}
use Rattle.ty_persist_plain.proofs.list_map.place.Given as goal

-- the keys so far are below the key
abbrev pub invariant-loop-i : goal.invariant-loop-i
invariant-loop-i g l = record { within : l.i ≤ length l.entries; passed : ArePassed g.K.Ord.cmp l.key (take l.i l.entries) }

abbrev pub decreases-loop-i : goal.decreases-loop-i
decreases-loop-i g l = length l.entries - l.i
