-- The look-up of an id in a version, over a disk.
use Rattle.std.specs.Prelude.{ℕ, List, Option, Some, None}
use Rattle.std.specs.Option.{option_or}
use Rattle.std.specs.FinMap as map
use Rattle.ty_model.specs.Values.{Id, Answer, Refused, AccessDenied}
use Rattle.ty_model.specs.Places.{Place, At, Rootless, RefusedAt, place_of}
use Rattle.ty_model.specs.Disk.{Told, answer_of}
use Rattle.ty_model.specs.Version.{Layers, Version}

-- what a version says of an id by itself: an answer, or a path that the disk decides
pub data Decision : Type 0 where
  Says : (answer : Answer) → Decision
  Asks : (path : List ℕ) → Decision

-- what an overlay or the told files have, if anything
abbrev pub said_or : Option Answer → Decision → Decision
said_or (Some answer) otherwise = Says answer
said_or None otherwise = otherwise

-- the path overlay before the told files, and these before the disk
abbrev pub path_decision : Layers → List ℕ → Decision
path_decision l path = said_or (option_or (map.get l.by_path path) (map.get l.told path)) (Asks path)

-- what the layers say of an id that stands there
abbrev pub place_decision : Layers → Place → Decision
place_decision l (At path) = path_decision l path
place_decision l Rootless = Says (Refused AccessDenied)
place_decision l (RefusedAt refusal) = Says (Refused refusal)

-- the id overlay before the path of the id
abbrev pub decision : Version → Id → Decision
decision v id = said_or (map.get v.layers.by_id id) (place_decision v.layers (place_of v.resolver id))

-- the answer of a decision over a disk
abbrev pub answer_by : Decision → Told → Answer
answer_by (Says answer) disk = answer
answer_by (Asks path) disk = answer_of disk path

-- the answer that an id has in a version over a disk
abbrev pub look : Version → Told → Id → Answer
look v disk id = answer_by (decision v id) disk
