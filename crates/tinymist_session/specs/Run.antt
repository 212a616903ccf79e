-- What a run of a session answers, and what its sink took.
use Rattle.std.specs.Prelude.{◌≡◌, ◌⊎◌, ℕ, ◌+◌, ◌*◌, ◌≤◌, Bool, IsTrue, List, [], ◌∷◌, ◌++◌, length, codes, All, Option, Some, OnOk, Result, Ok, Err, IsErrOf, ⊤}
use Rattle.std.specs.Fmt.{decimal}
use Rattle.std.specs.Io.KnownBytes.{append_known, prepend_known, IsAtEnd}
use Rattle.ty_model.specs.Faults.{Rose}
use Rattle.ty_model.specs.Disk.{Told, IsFixed}
use Rattle.tinymist_session.specs.Session as session
use Rattle.tinymist_session.specs.Session.{End, Whole, Bad, Over, end_of, replies_to, ended, good_commands, replies_from}
use Rattle.tinymist_session.specs.Machine.{opening}
use Rattle.session_lines.specs.Lf.{IsLine}
use Rattle.session_lines.specs.LineSource.{SourceSeen, TakenWithin}
use Rattle.session_lines.specs.ByteSink.{SinkSeen, HasRefused}
use Rattle.tinymist_session.specs.declared.session.SessionFault.{SessionFault}
use Rattle.tinymist_session.specs.declared.session.SessionFault.TheVariants.{ReadFault, WriteFault, BadLine, Full, OutOfMemory}

-- the answers that go with an end: each of these ends has one, and a fault or out of memory may come in its place
abbrev pub EndFits : End → Result (Unit {0}) SessionFault → Type 0
EndFits end (Ok done) = end ≡ Whole
EndFits end (Err (BadLine n)) = end ≡ Bad n
EndFits end (Err Full) = end ≡ Over
EndFits end (Err ReadFault) = ⊤
EndFits end (Err WriteFault) = ⊤
EndFits end (Err OutOfMemory) = ⊤

-- some prefix of the replies was taken
abbrev pub TakesPrefix : Option (List ℕ) → Option (List ℕ) → List ℕ → Type 0
TakesPrefix old new replies = (part : List ℕ) × (more : List ℕ) × (new ≡ append_known old part) × (part ++ more ≡ replies)

-- what the sink took with an answer: all of the replies, or a prefix of them
abbrev pub Written : List ℕ → Option (List ℕ) → Option (List ℕ) → Result (Unit {0}) SessionFault → Type 0
Written replies old new (Ok done) = new ≡ append_known old replies
Written replies old new (Err (BadLine n)) = new ≡ append_known old replies
Written replies old new (Err Full) = new ≡ append_known old replies
Written replies old new (Err ReadFault) = TakesPrefix old new replies
Written replies old new (Err WriteFault) = TakesPrefix old new replies
Written replies old new (Err OutOfMemory) = TakesPrefix old new replies

-- what was received of an input before a read failed: good lines, each ended by LF, and the start of one more
pub record Received (limits : session.Limits) (input : List ℕ) (left : Option (List ℕ)) : Type 0 where
  pub lines : List (List ℕ)
  pub rest : List ℕ
  pub all : Some input ≡ prepend_known (ended lines ++ rest) left
  pub whole : All IsLine lines
  pub front : IsLine rest
  pub good : length (good_commands limits lines) ≡ length lines
  pub within : length lines ≤ limits.max_lines
  pub short : length rest ≤ limits.max_line
  pub last : length lines ≡ limits.max_lines → rest ≡ []

-- the replies to the lines that were received whole
abbrev pub replies_received : (limits : session.Limits) → Told → (input : List ℕ) (left : Option (List ℕ)) → Received limits input left → List ℕ
replies_received limits disk input left r = replies_from disk opening (good_commands limits r.lines)

-- the most bytes that a session takes: all its lines with their LF, and one piece
abbrev pub most_bytes : session.Limits → ℕ
most_bytes limits = limits.max_lines * (limits.max_line + 1) + 65536

-- this holds, unless the session was cut off by a fault or out of memory
abbrev pub UnlessCutOff : Result (Unit {0}) SessionFault → Type 0 → Type 0
UnlessCutOff (Ok done) P = P
UnlessCutOff (Err (BadLine n)) P = P
UnlessCutOff (Err Full) P = P
UnlessCutOff (Err ReadFault) P = ⊤
UnlessCutOff (Err WriteFault) P = ⊤
UnlessCutOff (Err OutOfMemory) P = ⊤

-- a session over a source, a disk and a sink: each as it was, and as it is
pub record Answered (limits : session.Limits) (source source' : SourceSeen) (disk disk' : Option Told) (sink sink' : SinkSeen) (r : Result (Unit {0}) SessionFault) : Type 0 where
  -- the answer goes with the end of the input
  pub ends : (input : List ℕ) → source.left ≡ Some input → EndFits (end_of limits input) r
  -- the sink took the replies of the plain machine
  pub written : (input : List ℕ) (told : Told) → source.left ≡ Some input → disk ≡ Some told → IsFixed told → Written (replies_to limits told input) sink.taken sink'.taken r
  -- at a read fault, the replies to the lines that were received
  pub received : (input : List ℕ) → source.left ≡ Some input → IsErrOf r ReadFault → Received limits input source'.left
  pub answered : (input : List ℕ) (told : Told) → source.left ≡ Some input → disk ≡ Some told → IsFixed told → IsErrOf r ReadFault
      → (lines : Received limits input source'.left) × (sink'.taken ≡ append_known sink.taken (replies_received limits told input source'.left lines))
  -- the source is read no further than it needs
  pub bounded : (input : List ℕ) → source.left ≡ Some input → TakenWithin (most_bytes limits) input source'.left
  -- a disk with one answer for each path is left as it was
  pub disk_stays : (told : Told) → disk ≡ Some told → IsFixed told → disk' ≡ Some told
  -- only after the input was read to its end
  pub read : OnOk r (IsAtEnd source'.left)
  -- what was answered has gone on before the source is asked, so also where that read fails
  pub was_flushed_before_read : IsErrOf r ReadFault → IsTrue sink'.flushed
  -- what was written has gone on
  pub was_flushed : UnlessCutOff r (IsTrue sink'.flushed)
  -- so it has where memory ran out, or the flush failed
  pub was_flushed_without_memory : IsErrOf r OutOfMemory → IsTrue sink'.flushed ⊎ Rose sink.faults sink'.faults
  -- faults have their causes
  pub read_cause : IsErrOf r ReadFault → Rose source.faults source'.faults
  pub write_cause : IsErrOf r WriteFault → HasRefused sink sink'

-- the status of an answer
abbrev pub status_of : Result (Unit {0}) SessionFault → ℕ
status_of (Ok done) = 0
status_of (Err ReadFault) = 1
status_of (Err WriteFault) = 2
status_of (Err (BadLine n)) = 3
status_of (Err Full) = 4
status_of (Err OutOfMemory) = 5

-- what is said of a fault
abbrev pub fault_text : SessionFault → List ℕ
fault_text ReadFault = codes "read fault"
fault_text WriteFault = codes "write fault"
fault_text (BadLine n) = codes "bad line " ++ decimal n
fault_text Full = codes "too many lines"
fault_text OutOfMemory = codes "out of memory"

-- the fault line of an answer; none of a session that ended well
abbrev pub fault_line : Result (Unit {0}) SessionFault → List ℕ
fault_line (Ok done) = []
fault_line (Err fault) = fault_text fault ++ 10 ∷ []

-- the line where the arguments are those of no session
abbrev pub bad_words_line : List ℕ
bad_words_line = codes "bad words" ++ 10 ∷ []

-- a sink was told this line: it took all of it and flushed it, unless it failed, and else a prefix of it
pub record IsTold (line : List ℕ) (old new : SinkSeen) : Type 0 where
  pub front : TakesPrefix old.taken new.taken line
  pub whole : (new.taken ≡ append_known old.taken line) ⊎ HasRefused old new
  pub gone_on : (line ≡ []) ⊎ (IsTrue new.flushed ⊎ Rose old.faults new.faults)
