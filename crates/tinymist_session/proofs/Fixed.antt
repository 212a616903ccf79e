-- A read leaves a fixed disk as it was.
use Rattle.std.proofs.Common.{◌≡◌, List, ℕ, ap, ◌∙◌, Option, Some, Result, Ok, Err, inl, inr}
use Rattle.ty_model.specs.Disk.{Told, IsFixed}
use Rattle.ty_model.specs.LookUp.{Decision, Says, Asks}
use Rattle.ty_model.proofs.DiskLaws.{fixed_stays}
use Rattle.ty_syntax.specs.declared.error.FileFault.{FileFault}
use Rattle.ty_syntax.specs.declared.error.FileFault.TheVariants.{File, OutOfMemory}
use Rattle.tinymist_vfs.specs.Reading.{ReadsAsTold, AsksAsTold}

asks_fixed : (path : List ℕ) (told : Told) (r : Result (List ℕ) FileFault) (after : Option Told) → IsFixed told → AsksAsTold path (Some told) r after → after ≡ Some told
asks_fixed path told (Ok bytes) after fixed h = h.1 ∙ ap Some (fixed_stays told path fixed)
asks_fixed path told (Err (File error)) after fixed h = h.1 ∙ ap Some (fixed_stays told path fixed)
asks_fixed path told (Err OutOfMemory) after fixed h = elim h [ inl same ↦ same | inr asked ↦ asked ∙ ap Some (fixed_stays told path fixed) ]

pub reads_fixed : (d : Decision) (told : Told) (r : Result (List ℕ) FileFault) (after : Option Told) → IsFixed told → ReadsAsTold d (Some told) r after → after ≡ Some told
reads_fixed (Says answer) told r after fixed h = h.1
reads_fixed (Asks path) told r after fixed h = asks_fixed path told r after fixed h
