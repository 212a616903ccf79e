-- A space: its versions, the last one now, and what belongs to it.
use Rattle.std.specs.Prelude.{ℕ, Bool, true, List, [], Option}
use Rattle.ty_model.specs.Values.{Id}
use Rattle.ty_model.specs.Version.{Version}
use Rattle.ty_model.specs.Batch.{Item, commit}
use Rattle.ty_model.specs.Standing.{past_after}

-- what an editor has open: a root and a main file, each where there is one
pub record Entry : Type 0 where
  pub root : Option (List ℕ)
  pub main : Option Id

-- `past` are the versions before `now`, the newest first
pub record Space : Type 0 where
  pub number : ℕ
  pub now : Version
  pub past : List Version
  pub entry : Entry
  pub universe : ℕ
  pub asked : List Id
  pub compiling : Bool

-- the space after a commit of a batch on it
abbrev pub after_commit : Space → List Item → Space
after_commit s batch = record s { now = commit s.number s.now batch; past = past_after s.number s.now s.past batch }

-- a snapshot of the live space under a fresh number
abbrev pub snapshot_of : ℕ → Space → Space
snapshot_of number s = record s { number = number; asked = []; compiling = true }
