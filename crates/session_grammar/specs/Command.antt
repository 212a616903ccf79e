-- The commands of a session.
use Rattle.std.specs.Prelude.{ℕ, List}
use Rattle.ty_model.specs.Values.{Refusal}
use Rattle.ty_model.specs.Batch.{Item}

-- an id as it is written in a line: a path, or a tag
pub data IdWord : Type 0 where
  PathWord : (path : List ℕ) → IdWord
  TagWord : (tag : ℕ) → IdWord

-- a content as it is written in a line: the bytes of a file, a missing file, or another refusal
pub data ContentWord : Type 0 where
  BytesWord : (bytes : List ℕ) → ContentWord
  MissingWord : ContentWord
  RefusedWord : (refusal : Refusal) → ContentWord

-- the live state, or the view of a number
pub data Target : Type 0 where
  Live : Target
  View : (number : ℕ) → Target

-- what a line asks for
pub data Command : Type 0 where
  Edit : (target : Target) (item : Item) → Command
  MapId : (target : Target) (id : IdWord) (content : ContentWord) → Command
  UnmapId : (target : Target) (id : IdWord) → Command
  Rootless : (vpath : List ℕ) → Command
  Snapshot : Command
  Read : (view : ℕ) (id : IdWord) → Command
  Source : (view : ℕ) (id : IdWord) → Command
  Line : (view : ℕ) (id : IdWord) (offset : ℕ) → Command
  Paths : (target : Target) → Command
  Ids : (target : Target) → Command
  Path : (target : Target) (id : IdWord) → Command
  Clean : (target : Target) (revision : ℕ) (ids : List IdWord) → Command
