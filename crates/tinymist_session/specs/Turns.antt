-- One line of a session, and the lines that are left.
use Rattle.std.specs.Prelude.{◌≡◌, ℕ, ◌+◌, ◌-◌, ◌≤◌, Bool, true, false, List, [], ◌∷◌, ◌++◌, length, take, Option, Some, None, IsSome, Result, Ok, Err, ⊤}
use Rattle.std.specs.Io.KnownBytes.{append_known, prepend_known}
use Rattle.ty_model.specs.Disk.{Told}
use Rattle.ty_model.specs.Held.{Kept}
use Rattle.tinymist_session.specs.declared.machine.tags.TaggedIds.{TaggedIds}
use Rattle.tinymist_vfs.specs.declared.ids.resolver.MockRootResolver.{MockRootResolver}
use Rattle.session_grammar.specs.Command.{Command}
use Rattle.session_lines.specs.ByteSink.{TakesFront}
use Rattle.session_grammar.specs.Reply.{reply_line}
use Rattle.session_lines.specs.Lf.{IsLine}
use Rattle.tinymist_session.specs.Machine.{State, Stepped, step}
use Rattle.tinymist_session.specs.Session as session
use Rattle.tinymist_session.specs.Session.{End, Whole, Bad, lines_of, good_line, good_commands, end_with, replies_from}
use Rattle.tinymist_session.specs.declared.session.SessionFault.{SessionFault}
use Rattle.tinymist_session.specs.declared.session.SessionFault.TheVariants.{ReadFault, WriteFault, BadLine, Full, OutOfMemory}
use Rattle.tinymist_session.specs.Run.{EndFits, Written}
use Rattle.tinymist_session.specs.Shown.{IsShown}

-- an answer to the line that reads as this command, if any
abbrev pub TurnReads : Option Command → ℕ → Result (Unit {0}) SessionFault → Type 0
TurnReads command n (Ok done) = IsSome command
TurnReads command n (Err (BadLine m)) = (m ≡ n) × (command ≡ None)
TurnReads command n (Err WriteFault) = IsSome command
TurnReads command n (Err OutOfMemory) = ⊤
TurnReads command n (Err ReadFault) = ⊥
TurnReads command n (Err Full) = ⊥

-- the step was taken, and its reply is what the sink took; at a fault a prefix of it
abbrev pub TurnSays : Stepped → Option (List ℕ) → Option (List ℕ) → Kept MockRootResolver → List (Kept MockRootResolver) → TaggedIds → Result (Unit {0}) SessionFault → Type 0
TurnSays stepped old new live views tags (Ok done) = IsShown live views tags stepped.state × (new ≡ append_known old (reply_line stepped.reply))
TurnSays stepped old new live views tags (Err fault) = TakesFront old new (reply_line stepped.reply)

-- ---- what is left of an input, where n good lines stood before it

-- the commands of lines after n others
abbrev pub commands_after : session.Limits → ℕ → List (List ℕ) → List Command
commands_after limits n lines = good_commands limits (take (limits.max_lines - n) lines)

-- the end of lines after n good ones
abbrev pub end_after : session.Limits → ℕ → List (List ℕ) → End
end_after limits n lines = end_with (n + length lines) (n + length (take (limits.max_lines - n) lines)) (n + length (commands_after limits n lines))

-- the end of what is left, after so many lines
abbrev pub ends : session.Limits → ℕ → List ℕ → End
ends limits n rest = end_after limits n (lines_of rest)

-- the replies to what is left, after so many lines
abbrev pub replies : session.Limits → Told → State → ℕ → List ℕ → List ℕ
replies limits told s n rest = replies_from told s (commands_after limits n (lines_of rest))

-- ---- one line of a source that tells

-- a good line stands before what is left
pub record GoodLine (limits : session.Limits) (rest next : List ℕ) : Type 0 where
  pub line : List ℕ
  pub command : Command
  pub cut : rest ≡ (line ++ 10 ∷ []) ++ next
  pub whole : IsLine line
  pub short : length line ≤ limits.max_line
  pub good : good_line limits line ≡ Some command

-- the end of an input by one line more: a good line leaves it as it was
abbrev pub PassEnds : session.Limits → ℕ → List ℕ → Option (List ℕ) → Result Bool SessionFault → Type 0
PassEnds limits n rest left (Ok true) = (next : List ℕ) × (left ≡ Some next) × (ends limits n rest ≡ ends limits (n + 1) next) × GoodLine limits rest next
PassEnds limits n rest left (Ok false) = ends limits n rest ≡ Whole
PassEnds limits n rest left (Err fault) = EndFits (ends limits n rest) (Err fault)

-- a line was answered, and the rest goes on from there
pub record Passed (limits : session.Limits) (told : Told) (s : State) (n : ℕ) (rest : List ℕ) (left old new : Option (List ℕ)) (live : Kept MockRootResolver) (views : List (Kept MockRootResolver)) (tags : TaggedIds) : Type 0 where
  pub next : List ℕ
  pub state : State
  pub piece : List ℕ
  pub left_is : left ≡ Some next
  pub shown : IsShown live views tags state
  pub taken : new ≡ append_known old piece
  pub goes_on : replies limits told s n rest ≡ piece ++ replies limits told state (n + 1) next
  pub first : GoodLine limits rest next
  pub stepped : state ≡ (step s told first.command).state
  pub said : piece ≡ reply_line (step s told first.command).reply

-- the replies by one line more: the reply to it, and those still to come
abbrev pub PassSays : session.Limits → Told → State → ℕ → List ℕ → Option (List ℕ) → Option (List ℕ) → Option (List ℕ) → Kept MockRootResolver → List (Kept MockRootResolver) → TaggedIds → Result Bool SessionFault → Type 0
PassSays limits told s n rest left old new live views tags (Ok true) = Passed limits told s n rest left old new live views tags
PassSays limits told s n rest left old new live views tags (Ok false) = new ≡ append_known old (replies limits told s n rest)
PassSays limits told s n rest left old new live views tags (Err fault) = Written (replies limits told s n rest) old new (Err fault)

-- the part of a line that was received before a read failed
pub record Broken (limits : session.Limits) (rest : List ℕ) (left : Option (List ℕ)) : Type 0 where
  pub part : List ℕ
  pub cut : Some rest ≡ prepend_known part left
  pub whole : IsLine part
  pub short : length part ≤ limits.max_line
