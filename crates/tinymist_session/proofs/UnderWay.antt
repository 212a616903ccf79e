-- A run that goes on: what is known after the first lines of an input were answered.
use Rattle.std.specs.Prelude.{◌≡◌, ℕ, ◌+◌, ◌*◌, ◌≤◌, List, [], ◌∷◌, ◌++◌, length, All, Option, Some}
use Rattle.std.specs.Io.KnownBytes.{append_known}
use Rattle.ty_model.specs.Disk.{Told}
use Rattle.ty_model.specs.Held.{Kept}
use Rattle.tinymist_vfs.specs.declared.ids.resolver.MockRootResolver.{MockRootResolver}
use Rattle.tinymist_session.specs.declared.machine.tags.TaggedIds.{TaggedIds}
use Rattle.session_grammar.specs.Command.{Command}
use Rattle.session_lines.specs.Lf.{IsLine}
use Rattle.tinymist_session.specs.Machine.{State, opening, step}
use Rattle.tinymist_session.specs.Session as session
use Rattle.tinymist_session.specs.Session.{ended, good_commands, replies_from}
use Rattle.tinymist_session.specs.Shown.{IsShown}
use Rattle.tinymist_session.specs.Turns.{ends, replies}

-- the state after commands, one after another
abbrev pub state_after : Told → State → List Command → State
state_after disk s [] = s
state_after disk s (command ∷ commands) = state_after disk (step s disk command).state commands

-- n good lines of the input stand before the rest
pub record Front (limits : session.Limits) (input : List ℕ) (n : ℕ) (lines : List (List ℕ)) (rest : List ℕ) : Type 0 where
  pub cut : input ≡ ended lines ++ rest
  pub whole : All IsLine lines
  pub count : length lines ≡ n
  pub good : length (good_commands limits lines) ≡ length lines
  pub size : length (ended lines) ≤ n * (limits.max_line + 1)

-- n lines of the input were answered, and the rest goes on from there
pub record Ahead (limits : session.Limits) (input : List ℕ) (n : ℕ) (left : Option (List ℕ)) : Type 0 where
  pub rest : List ℕ
  pub lines : List (List ℕ)
  pub front : Front limits input n lines rest
  pub left_is : left ≡ Some rest
  pub same_end : ends limits 0 input ≡ ends limits n rest

-- n lines were answered: what was taken, and the replies still to come, are the replies to the input
pub record Pending (limits : session.Limits) (told : Told) (input : List ℕ) (n : ℕ) (left : Option (List ℕ)) (disk : Option Told) (old new : Option (List ℕ)) (live : Kept MockRootResolver) (views : List (Kept MockRootResolver)) (tags : TaggedIds) : Type 0 where
  pub rest : List ℕ
  pub state : State
  pub done : List ℕ
  pub lines : List (List ℕ)
  pub front : Front limits input n lines rest
  pub state_is : state ≡ state_after told opening (good_commands limits lines)
  pub done_is : done ≡ replies_from told opening (good_commands limits lines)
  pub left_is : left ≡ Some rest
  pub disk_is : disk ≡ Some told
  pub shown : IsShown live views tags state
  pub taken : new ≡ append_known old done
  pub goes_on : replies limits told opening 0 input ≡ done ++ replies limits told state n rest
