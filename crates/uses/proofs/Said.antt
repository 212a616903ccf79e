-- What a read answers, by what the version decides.
use Rattle.std.proofs.Common.{◌≡◌, ℕ, List, ◌∙◌, ap, Option, Some, Result, Ok, Err, inl, inr}
use Rattle.std.specs.Prelude.{IfOk}
use Rattle.ty_model.specs.Disk.{Told, IsFixed, answer_of}
use Rattle.ty_model.proofs.DiskLaws.{fixed_stays}
use Rattle.ty_model.specs.LookUp.{Decision, Says, Asks}
use Rattle.ty_model.specs.Values.{Id, Answer, Content}
use Rattle.ty_syntax.specs.Source.{Source}
use Rattle.ty_syntax.specs.declared.error.FileFault.{FileFault}
use Rattle.ty_syntax.specs.declared.error.FileFault.TheVariants.{File, OutOfMemory}
use Rattle.ty_cells.specs.Snapshot.{AnswersAs}
use Rattle.tinymist_vfs.specs.Reading.{ReadsAsTold, AsksAsTold, SourcesAsTold, source_of}

-- the bytes that a version decides are read
pub says_bytes : (d : Decision) (told : Option Told) (read : List ℕ) (after : Option Told) → ReadsAsTold d told (Ok read) after → (bytes : List ℕ) → d ≡ Says (Content bytes) → read ≡ bytes
says_bytes (Says answer) told read after h bytes is =
    let one : answer ≡ Content read = h.0 in
    let other : answer ≡ Content bytes = cc in
    cc
says_bytes (Asks path) told read after h bytes is = absurd (cc)

-- and their text is the source
pub says_source : (d : Decision) (id : Id) (told : Option Told) (source : Source) (after : Option Told) → SourcesAsTold d id told (Ok source) after → (answer : Answer) → d ≡ Says answer → source_of answer ≡ Content source.text
says_source (Says answer) id told source after h other is =
    let same : answer ≡ other = cc in
    rw (← same) h.0.1
says_source (Asks path) id told source after h other is = absurd (cc)

asked : (path : List ℕ) (disk : Told) (r : Result (List ℕ) FileFault) (after : Option Told) → AsksAsTold path (Some disk) r after → AnswersAs (answer_of disk path) r
asked path disk (Ok bytes) after h = h.0
asked path disk (Err (File error)) after h = h.0
asked path disk (Err OutOfMemory) after h = tt

-- what a disk is asked for is answered as it tells
pub reads_asked : (d : Decision) (disk : Told) (r : Result (List ℕ) FileFault) (after : Option Told) → ReadsAsTold d (Some disk) r after → (path : List ℕ) → d ≡ Asks path → AnswersAs (answer_of disk path) r
reads_asked (Says answer) disk r after h path is = absurd (cc)
reads_asked (Asks place) disk r after h path is =
    let same : place ≡ path = cc in
    rw (← same) (asked place disk r after h)

asks_fixed : (path : List ℕ) (told : Told) (r : Result (List ℕ) FileFault) (after : Option Told) → IsFixed told → AsksAsTold path (Some told) r after → after ≡ Some told
asks_fixed path told (Ok bytes) after fixed h = h.1 ∙ ap Some (fixed_stays told path fixed)
asks_fixed path told (Err (File error)) after fixed h = h.1 ∙ ap Some (fixed_stays told path fixed)
asks_fixed path told (Err OutOfMemory) after fixed h = elim h [ inl same ↦ same | inr asked ↦ asked ∙ ap Some (fixed_stays told path fixed) ]

told_stays : (told after : Told) → Some after ≡ Some told → after ≡ told
told_stays told after same = cc

-- a read leaves a fixed disk as it was
pub reads_stay : (d : Decision) (told after : Told) (r : Result (List ℕ) FileFault) → IsFixed told → ReadsAsTold d (Some told) r (Some after) → after ≡ told
reads_stay (Says answer) told after r fixed h = told_stays told after h.1
reads_stay (Asks path) told after r fixed h = told_stays told after (asks_fixed path told r (Some after) fixed h)
