-- A read of an id, and its source: the answer, and what the disk tells before and after.
use Rattle.std.specs.Prelude.{◌≡◌, ◌⊎◌, ℕ, List, Option, Some, None, Result, Ok, Err, IfOk, ⊤, string_bytes}
use Rattle.ty_model.specs.Disk.{Told, answer_of, after_ask}
use Rattle.ty_model.specs.LookUp as plain
use Rattle.ty_syntax.specs.Error.{refusal_of}
use Rattle.ty_syntax.specs.Source.{Source}
use Rattle.ty_syntax.specs.Text.{text_of}
use Rattle.ty_syntax.specs.declared.error.FileFault.{FileFault}
use Rattle.ty_syntax.specs.declared.error.FileFault.TheVariants.{File, OutOfMemory}
use Rattle.ty_model.specs.Values.{Id, Answer, Content, Refused, InvalidUtf8}
use Rattle.ty_cells.specs.Snapshot.{AnswersAs}
use Rattle.tinymist_vfs.specs.declared.vfs.read.Decision.{Decision}
use Rattle.tinymist_vfs.specs.declared.vfs.read.Decision.TheVariants.{Says, Refuses, Asks}

-- what a version decides, as plain data
abbrev pub decision_of : Decision → plain.Decision
decision_of (Says answer) = plain.Says answer
decision_of (Refuses error) = plain.Says (Refused (refusal_of error))
decision_of (Asks path) = plain.Asks (string_bytes path)

-- the disk was asked for the path: where memory was wanting, it may have given the answer or not
abbrev pub AsksAsTold : List ℕ → Option Told → Result (List ℕ) FileFault → Option Told → Type 0
AsksAsTold path None result after = after ≡ None
AsksAsTold path (Some disk) (Ok bytes) after = AnswersAs (answer_of disk path) (Ok bytes) × (after ≡ Some (after_ask disk path))
AsksAsTold path (Some disk) (Err (File error)) after = AnswersAs (answer_of disk path) (Err (File error)) × (after ≡ Some (after_ask disk path))
AsksAsTold path (Some disk) (Err OutOfMemory) after = (after ≡ Some disk) ⊎ (after ≡ Some (after_ask disk path))

-- what the version decides is the answer, and only what it doesn't decide is asked of the disk
abbrev pub ReadsAsTold : plain.Decision → Option Told → Result (List ℕ) FileFault → Option Told → Type 0
ReadsAsTold (plain.Says answer) told result after = AnswersAs answer result × (after ≡ told)
ReadsAsTold (plain.Asks path) told result after = AsksAsTold path told result after

-- ---- sources

-- a text as an answer; bytes without one are refused
abbrev pub text_answer : Option (List ℕ) → Answer
text_answer (Some text) = Content text
text_answer None = Refused InvalidUtf8

-- the text of what is said of a file, or why there is none
abbrev pub source_of : Answer → Answer
source_of (Content bytes) = text_answer (text_of bytes)
source_of (Refused refusal) = Refused refusal

-- the result is the source of the id where this is said of its file, unless memory is wanting
abbrev pub SourcesAs : Answer → Id → Result Source FileFault → Type 0
SourcesAs answer id (Ok source) = (source.id ≡ id) × (source_of answer ≡ Content source.text)
SourcesAs answer id (Err (File error)) = source_of answer ≡ Refused (refusal_of error)
SourcesAs answer id (Err OutOfMemory) = ⊤

-- the disk was asked for the path of the id: where memory was wanting, it may have given the answer or not
abbrev pub AsksSourceAsTold : List ℕ → Id → Option Told → Result Source FileFault → Option Told → Type 0
AsksSourceAsTold path id None result after = IfOk result (λ source. source.id ≡ id) × (after ≡ None)
AsksSourceAsTold path id (Some disk) (Ok source) after = SourcesAs (answer_of disk path) id (Ok source) × (after ≡ Some (after_ask disk path))
AsksSourceAsTold path id (Some disk) (Err (File error)) after = SourcesAs (answer_of disk path) id (Err (File error)) × (after ≡ Some (after_ask disk path))
AsksSourceAsTold path id (Some disk) (Err OutOfMemory) after = (after ≡ Some disk) ⊎ (after ≡ Some (after_ask disk path))

-- the source of what the version decides, and only of what it doesn't decide is the disk asked
abbrev pub SourcesAsTold : plain.Decision → Id → Option Told → Result Source FileFault → Option Told → Type 0
SourcesAsTold (plain.Says answer) id told result after = SourcesAs answer id result × (after ≡ told)
SourcesAsTold (plain.Asks path) id told result after = AsksSourceAsTold path id told result after
