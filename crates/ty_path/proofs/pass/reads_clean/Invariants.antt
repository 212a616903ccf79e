-- Some bytes were read of the part, and with it the rest answers for the whole text.
use Rattle.std.proofs.Common.{◌≡◌, ℕ, List, drop}
use Rattle.ty_model.specs.Paths.{parts_at}
use Rattle.ty_path.specs.Clean.{are_clean, part_of}
use Rattle.ty_path.proofs.CleanLaws.{onto}
use Rattle.ty_path.proofs.pass.reads_clean.Given as goal

abbrev pub invariant-loop-byte : goal.invariant-loop-byte
invariant-loop-byte l =
    (read : List ℕ) × (part_of read ≡ l.part) ×
    (are_clean l.may_be_up (onto read (parts_at 47 (drop l.byte-index l.text))) ≡ are_clean l.ups (parts_at 47 l.text))
