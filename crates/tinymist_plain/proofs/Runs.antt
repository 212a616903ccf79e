-- One command more that is answered.
use Rattle.std.proofs.Common.{◌≡◌, ℕ, ◌+◌, ◌<◌, List, [], ◌∷◌, ◌++◌, length, drop, get_or, map, refl, sym, ap, ◌∙◌, append_assoc, append-nil, add-one, drop-cons}
use Rattle.ty_model.specs.Disk.{Told}
use Rattle.session_grammar.specs.Command.{Command as Asked}
use Rattle.session_grammar.specs.Reply.{reply_line}
use Rattle.tinymist_session.specs.Machine as machine
use Rattle.tinymist_session.specs.Machine.{opening, step}
use Rattle.tinymist_session.specs.Session.{replies_from}
use Rattle.session_grammar.specs.Plain.{plain_command}
use Rattle.session_grammar.specs.declared.command.Command.{Command}
use Rattle.tinymist_plain.specs.Kept.{IsKept}
use Rattle.tinymist_plain.specs.declared.state.State.{State}

-- these bytes were replied so far, and the replies go on from what is kept
pub record Pending (told : Told) (all later : List Asked) (done : List ℕ) (p : State) : Type 0 where
  pub state : machine.State
  pub kept : IsKept p state
  pub goes_on : done ++ replies_from told state later ≡ replies_from told opening all

pub next : (told : Told) (all : List Asked) (commands : List Command) (i : ℕ) (x : Command) → i < length commands → x ≡ get_or commands i x → (done line : List ℕ) (old new : State) (pending : Pending told all (map plain_command (drop i commands)) done old)
    → line ≡ reply_line (step pending.state told (plain_command x)).reply → IsKept new (step pending.state told (plain_command x)).state
    → Pending told all (map plain_command (drop (i + 1) commands)) (done ++ line) new
next told all commands i x within is done line old new pending says kept =
    let here : drop i commands ≡ x ∷ drop (i + 1) commands = rw (add-one, drop-cons commands i x, ← is) refl in
    let after = (step pending.state told (plain_command x)).state in
    record {
      state = after;
      kept = kept;
      goes_on =
          append_assoc done line (replies_from told after (map plain_command (drop (i + 1) commands)))
          ∙ ap (λ (l : List ℕ). done ++ (l ++ replies_from told after (map plain_command (drop (i + 1) commands)))) says
          ∙ ap (λ (cs : List Command). done ++ replies_from told pending.state (map plain_command cs)) (sym here)
          ∙ pending.goes_on;
    }

pub all_done : (told : Told) (all : List Asked) (done : List ℕ) (p : State) → Pending told all [] done p → done ≡ replies_from told opening all
all_done told all done p pending = sym (append-nil done) ∙ pending.goes_on
