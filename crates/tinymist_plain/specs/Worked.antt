-- Worked sessions by the definition.
use Rattle.std.specs.Prelude.{◌≡◌, ℕ, List, []}
use Rattle.ty_model.specs.Disk.{Told, NothingElse}
use Rattle.tinymist_session.specs.Session.{Whole, default_limits, end_of, replies_to}

-- a disk without files
abbrev pub no_files : Told
no_files = record { files = []; rest = NothingElse }

-- over it, under the default limits, each line of the input is good, and these are the replies
abbrev pub IsWorked : List ℕ → List ℕ → Type 0
IsWorked input replies = (replies_to default_limits no_files input ≡ replies) × (end_of default_limits input ≡ Whole)
