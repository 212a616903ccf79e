-- A whole session: the lines of an input, its end, and the replies to it.
use Rattle.std.specs.Prelude.{ℕ, ◌+◌, ◌==◌, nat_lt, nat_le, if◌then◌else◌, List, [], ◌∷◌, ◌++◌, length, take, Option, Some, None}
use Rattle.ty_model.specs.Paths.{onto_first}
use Rattle.ty_model.specs.Disk.{Told}
use Rattle.session_grammar.specs.Command.{Command}
use Rattle.session_grammar.specs.Grammar.{command_of}
use Rattle.session_grammar.specs.Reply.{reply_line}
use Rattle.tinymist_session.specs.Machine.{State, opening, step}

-- the most bytes of a line without its LF, and the most lines
pub record Limits : Type 0 where
  pub max_line : ℕ
  pub max_lines : ℕ

-- the limits of a session whose arguments don't state any
abbrev pub default_limits : Limits
default_limits = record { max_line = 16777216; max_lines = 1000000 }

-- the parts of an input cut at LF, where a rest without LF counts if it has a byte
abbrev pub lines_of : List ℕ → List (List ℕ)
lines_of [] = []
lines_of (b ∷ bs) = if b == 10 then [] ∷ lines_of bs else onto_first b (lines_of bs)

-- the lines, each ended by LF
abbrev pub ended : List (List ℕ) → List ℕ
ended [] = []
ended (line ∷ lines) = line ++ 10 ∷ ended lines

-- what a good line reads as: one that isn't too long and is a command
abbrev pub good_line : Limits → List ℕ → Option Command
good_line limits line = if nat_le (length line) limits.max_line then command_of line else None

-- a command before later ones; none where its line is not good
abbrev pub before : Option Command → List Command → List Command
before None later = []
before (Some command) later = command ∷ later

-- the commands of the lines before the first that isn't good
abbrev pub good_commands : Limits → List (List ℕ) → List Command
good_commands limits [] = []
good_commands limits (line ∷ lines) = before (good_line limits line) (good_commands limits lines)

-- how an input ends: its lines are good, or this one isn't, or there are too many
pub data End : Type 0 where
  Whole : End
  Bad : (line : ℕ) → End
  Over : End

-- the end of lines of which so many come before the limit, and so many of these are good
abbrev pub end_with : ℕ → ℕ → ℕ → End
end_with all within good =
    if nat_lt good within then Bad (good + 1)
    else if nat_lt within all then Over
    else Whole

-- the lines that the limit lets in
abbrev pub lines_within : Limits → List ℕ → List (List ℕ)
lines_within limits input = take limits.max_lines (lines_of input)

-- the commands of an input
abbrev pub commands_of : Limits → List ℕ → List Command
commands_of limits input = good_commands limits (lines_within limits input)

-- the end of an input
abbrev pub end_of : Limits → List ℕ → End
end_of limits input = end_with (length (lines_of input)) (length (lines_within limits input)) (length (commands_of limits input))

-- the machine's replies to commands, one after another
abbrev pub replies_from : Told → State → List Command → List ℕ
replies_from disk s [] = []
replies_from disk s (command ∷ commands) =
    let stepped = step s disk command in
    reply_line stepped.reply ++ replies_from disk stepped.state commands

-- the replies to an input
abbrev pub replies_to : Limits → Told → List ℕ → List ℕ
replies_to limits disk input = replies_from disk opening (commands_of limits input)
