-- What is said of a file, as an answer.
use Rattle.std.specs.Prelude.{◌≡◌, ℕ, Bool, true, List, Result, Ok, Err, ⊤}
use Rattle.std.specs.Borrow.{Bor}
use Rattle.std.specs.Arc.{arc_value}
use Rattle.std.specs.declared.sync.Arc.{Arc}
use Rattle.std.specs.declared.alloc.Global.{Global}
use Rattle.ty_model.specs.Values.{Answer, Content, Refused}
use Rattle.ty_syntax.specs.declared.error.FileError.{FileError}
use Rattle.ty_syntax.specs.declared.error.FileFault.{FileFault}
use Rattle.ty_syntax.specs.declared.error.FileFault.TheVariants.{File, OutOfMemory}
use Rattle.ty_syntax.specs.Error.{refusal_of}

-- bytes, or an error that is shared
abbrev pub answer_by : Result (List ℕ) (Arc FileError Global) → Answer
answer_by (Ok bytes) = Content bytes
answer_by (Err error) = Refused (refusal_of (arc_value error))

-- the result is this answer, unless memory is wanting
abbrev pub AnswersAs : Answer → Result (List ℕ) FileFault → Type 0
AnswersAs answer (Ok bytes) = answer ≡ Content bytes
AnswersAs answer (Err (File error)) = answer ≡ Refused (refusal_of error)
AnswersAs answer (Err OutOfMemory) = ⊤

-- the same, where the bytes are lent
abbrev pub AnswersAsLent : Answer → Result (Bor (List ℕ)) FileFault → Type 0
AnswersAsLent answer (Ok bytes) = answer ≡ Content bytes.now
AnswersAsLent answer (Err (File error)) = answer ≡ Refused (refusal_of error)
AnswersAsLent answer (Err OutOfMemory) = ⊤

-- true of bytes, and else what is wrong, unless memory is wanting
abbrev pub SaysFile : Answer → Result Bool FileFault → Type 0
SaysFile answer (Ok is) = (is ≡ true) × ((bytes : List ℕ) × (answer ≡ Content bytes))
SaysFile answer (Err (File error)) = answer ≡ Refused (refusal_of error)
SaysFile answer (Err OutOfMemory) = ⊤
