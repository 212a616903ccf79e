-- What was answered of an input so far.
use Rattle.std.proofs.Common.{◌≡◌, ℕ, ◌+◌, List, [], ◌∷◌, ◌++◌, refl, sym, ap, ◌∙◌, append_assoc, Bool, Option, Some, Result, Err}
use Rattle.std.specs.Io.KnownBytes.{append_known}
use Rattle.ty_model.specs.Held.{Kept}
use Rattle.tinymist_session.specs.declared.machine.tags.TaggedIds.{TaggedIds}
use Rattle.ty_model.specs.Disk.{Told}
use Rattle.tinymist_vfs.specs.declared.ids.resolver.MockRootResolver.{MockRootResolver}
use Rattle.tinymist_session.specs.Machine.{State, step, opening}
use Rattle.session_grammar.specs.Reply.{reply_line}
use Rattle.tinymist_session.specs.Session as session
use Rattle.tinymist_session.specs.Session.{good_commands, replies_from}
use Rattle.tinymist_session.specs.declared.session.SessionFault.{SessionFault}
use Rattle.tinymist_session.specs.declared.session.SessionFault.TheVariants.{ReadFault}
use Rattle.tinymist_session.specs.Shown.{IsShown}
use Rattle.tinymist_session.specs.Turns.{replies, Passed}
use Rattle.tinymist_session.proofs.UnderWay.{Pending, state_after}
use Rattle.session_lines.proofs.Known.{append-append}
use Rattle.tinymist_session.proofs.Passes.{append-nil_known}
use Rattle.tinymist_session.proofs.Fronts.{front_start, front_push, commands_push, replies_push, state_push}

module _ (limits : session.Limits) (told : Told) (input : List ℕ) (n : ℕ) where
  pub at_start : (left : Option (List ℕ)) (disk : Option Told) (old : Option (List ℕ)) (live : Kept MockRootResolver) (views : List (Kept MockRootResolver)) (tags : TaggedIds) → left ≡ Some input → disk ≡ Some told → IsShown live views tags opening → Pending limits told input 0 left disk old old live views tags
  at_start left disk old live views tags l d shown = record { rest = input; state = opening; done = []; lines = []; front = front_start limits input; state_is = refl; done_is = refl; left_is = l; disk_is = d; shown = shown; taken = append-nil_known old; goes_on = refl }

  pub goes_on : (left left' : Option (List ℕ)) (disk disk' : Option Told) (old mid new : Option (List ℕ)) (live live' : Kept MockRootResolver) (views views' : List (Kept MockRootResolver)) (tags tags' : TaggedIds)
      → (p : Pending limits told input n left disk old mid live views tags) → disk' ≡ Some told → Passed limits told p.state n p.rest left' mid new live' views' tags' → Pending limits told input (n + 1) left' disk' old new live' views' tags'
  goes_on left left' disk disk' old mid new live live' views views' tags tags' p d q = record {
    rest = q.next;
    state = q.state;
    done = p.done ++ q.piece;
    lines = p.lines ++ q.first.line ∷ [];
    front = front_push limits input n p.lines p.rest p.front q.next q.first;
    state_is =
        let cs = good_commands limits p.lines in
        q.stepped ∙ ap (λ (s : State). (step s told q.first.command).state) p.state_is ∙ sym (state_push told opening cs q.first.command)
        ∙ ap (state_after told opening) (sym (commands_push limits p.lines q.first.line q.first.command p.front.good q.first.good));
    done_is =
        let cs = good_commands limits p.lines in
        ap (λ (d : List ℕ). d ++ q.piece) p.done_is
        ∙ ap (λ (r : List ℕ). replies_from told opening cs ++ r) (q.said ∙ ap (λ (s : State). reply_line (step s told q.first.command).reply) p.state_is)
        ∙ sym (replies_push told opening cs q.first.command)
        ∙ ap (replies_from told opening) (sym (commands_push limits p.lines q.first.line q.first.command p.front.good q.first.good));
    left_is = q.left_is;
    disk_is = d;
    shown = q.shown;
    taken = q.taken ∙ ap (λ (k : Option (List ℕ)). append_known k q.piece) p.taken ∙ append-append old p.done q.piece;
    goes_on = p.goes_on ∙ ap (λ (r : List ℕ). p.done ++ r) q.goes_on ∙ sym (append_assoc p.done q.piece (replies limits told q.state (n + 1) q.next));
  }

-- the same fault, where a line was read and where a session ends
pub fault_again : (fault : SessionFault) (r : Result (Unit {0}) SessionFault) (q : Result Bool SessionFault) → r ≡ Err fault → q ≡ Err fault → r ≡ Err ReadFault → q ≡ Err ReadFault
fault_again fault r q e f h = cc
