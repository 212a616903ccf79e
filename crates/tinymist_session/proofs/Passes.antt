-- One line of a session: its end and its replies.
use Rattle.std.proofs.Common.{◌≡◌, ◌⊎◌, ℕ, ◌+◌, ◌<◌, ◌≤◌, inl, inr, List, [], ◌∷◌, ◌++◌, length, take, drop, refl, sym, ap, subst, ◌∙◌, append_assoc, append-nil, arith, length-append, Option, Some, None, Result, Ok, Err}
use Rattle.std.specs.Prelude.{IsSome}
use Rattle.std.specs.Io.KnownBytes.{prepend_known, append_known, IsAtEnd}
use Rattle.std.proofs.lemmas.List.{take-append-drop}
use Rattle.ty_model.specs.Disk.{Told}
use Rattle.session_grammar.specs.Command.{Command}
use Rattle.session_grammar.specs.Grammar.{command_of}
use Rattle.tinymist_session.specs.Machine.{State, step, opening}
use Rattle.session_grammar.specs.Reply.{reply_line}
use Rattle.session_grammar.specs.declared.command.Command.{Command as Said}
use Rattle.session_grammar.specs.Plain.{plain_command}
use Rattle.session_lines.specs.Lf.{IsLine}
use Rattle.tinymist_session.specs.Session as session
use Rattle.tinymist_session.specs.Session.{End, Whole, Bad, Over, lines_of, replies_from, replies_to}
use Rattle.tinymist_session.proofs.Lines.{lines-lf, lines-last, lines-long, some_line, end_over, commands_start, end_good, end_bad, end_long, commands_good, commands_bad, commands_long}
use Rattle.tinymist_session.specs.declared.session.SessionFault.{SessionFault}
use Rattle.tinymist_session.specs.declared.session.SessionFault.TheVariants.{ReadFault, WriteFault, BadLine, Full, OutOfMemory}
use Rattle.tinymist_session.specs.Run.{EndFits, TakesPrefix, Written, UnlessCutOff}
use Rattle.session_lines.specs.ByteSink.{TakesFront}
use Rattle.tinymist_session.specs.Turns.{TurnReads, commands_after, end_after, ends, replies}
use Rattle.session_lines.proofs.Known.{append-append, known_left}

pub some_command : (o : Option Command) → IsSome o → (c : Command) × (o ≡ Some c)
some_command None h = absurd (cc)
some_command (Some c) h = (c, refl)

pub append-nil_known : (known : Option (List ℕ)) → known ≡ append_known known []
append-nil_known None = refl
append-nil_known (Some bs) = ap Some (sym (append-nil bs))

pub nothing_yet : (old new : Option (List ℕ)) (all : List ℕ) → new ≡ old → TakesPrefix old new all
nothing_yet old new all e = ([], all, e ∙ append-nil_known old, refl)

pub front : (old new : Option (List ℕ)) (piece tail all : List ℕ) → TakesFront old new piece → all ≡ piece ++ tail → TakesPrefix old new all
front old new piece tail all h e = (take h.0 piece, drop h.0 piece ++ tail, h.1, sym (append_assoc (take h.0 piece) (drop h.0 piece) tail) ∙ ap (λ (p : List ℕ). p ++ tail) (take-append-drop h.0 piece) ∙ sym e)

module _ (limits : session.Limits) (n : ℕ) (line rest : List ℕ) (more : List (List ℕ)) (room : n < limits.max_lines) (size : length line ≤ limits.max_line) (first : lines_of rest ≡ line ∷ more) where
  pub ends_ok : (c : Command) → command_of line ≡ Some c → ends limits n rest ≡ end_after limits (n + 1) more
  ends_ok c is = ap (end_after limits n) first ∙ end_good limits n line more room c size is

  ends_none : command_of line ≡ None → ends limits n rest ≡ Bad (n + 1)
  ends_none is = ap (end_after limits n) first ∙ end_bad limits n line more room size is

  pub ends_err : (number : ℕ) → number ≡ n + 1 → (fault : SessionFault) → TurnReads (command_of line) number (Err fault) → EndFits (ends limits n rest) (Err fault)
  ends_err number e ReadFault h = absurd h
  ends_err number e WriteFault h = tt
  ends_err number e (BadLine m) h = ends_none h.1 ∙ ap Bad (sym (h.0 ∙ e))
  ends_err number e Full h = absurd h
  ends_err number e OutOfMemory h = tt

  module _ (told : Told) (s : State) where
    pub replies_ok : (c : Command) → command_of line ≡ Some c → replies limits told s n rest ≡ reply_line (step s told c).reply ++ replies_from told (step s told c).state (commands_after limits (n + 1) more)
    replies_ok c is = ap (λ (ls : List (List ℕ)). replies_from told s (commands_after limits n ls)) first ∙ ap (replies_from told s) (commands_good limits n line more room c size is)

    replies_none : command_of line ≡ None → replies limits told s n rest ≡ []
    replies_none is = ap (λ (ls : List (List ℕ)). replies_from told s (commands_after limits n ls)) first ∙ ap (replies_from told s) (commands_bad limits n line more room size is)

    module _ (old new : Option (List ℕ)) (quiet : command_of line ≡ None → new ≡ old) (says : (c : Command) → command_of line ≡ Some c → TakesFront old new (reply_line (step s told c).reply)) where
      prefix : (o : Option Command) → command_of line ≡ o → TakesPrefix old new (replies limits told s n rest)
      prefix None is = nothing_yet old new (replies limits told s n rest) (quiet is)
      prefix (Some c) is = front old new (reply_line (step s told c).reply) _ (replies limits told s n rest) (says c is) (replies_ok c is)

      pub written_err : (number : ℕ) (fault : SessionFault) → TurnReads (command_of line) number (Err fault) → Written (replies limits told s n rest) old new (Err fault)
      written_err number ReadFault h = absurd h
      written_err number WriteFault h = prefix (command_of line) refl
      written_err number (BadLine m) h = quiet h.1 ∙ append-nil_known old ∙ ap (append_known old) (sym (replies_none h.1))
      written_err number Full h = absurd h
      written_err number OutOfMemory h = prefix (command_of line) refl

-- ---- where the first line is

pub first_lf : (line next rest : List ℕ) → IsLine line → rest ≡ (line ++ 10 ∷ []) ++ next → lines_of rest ≡ line ∷ lines_of next
first_lf line next rest plain e = ap lines_of (e ∙ append_assoc line (10 ∷ []) next) ∙ lines-lf line next plain

pub first_last : (line rest : List ℕ) → IsLine line → 0 < length line → rest ≡ line → lines_of rest ≡ line ∷ []
first_last [] rest plain some e = absurd (omega arith)
first_last (b ∷ bs) rest plain some e = ap lines_of e ∙ lines-last b bs plain

-- what a line that LF ends leaves of the input
pub record WholeLine (after : Option (List ℕ)) (line rest : List ℕ) : Type 0 where
  pub next : List ℕ
  pub left_is : after ≡ Some next
  pub cut : rest ≡ (line ++ 10 ∷ []) ++ next
  pub first : lines_of rest ≡ line ∷ lines_of next

pub whole_line : (before after : Option (List ℕ)) (line rest : List ℕ) → before ≡ prepend_known (line ++ 10 ∷ []) after → IsLine line → before ≡ Some rest → WholeLine after line rest
whole_line before after line rest e plain is =
    let known = known_left before after (line ++ 10 ∷ []) rest e is in
    record { next = known.0; left_is = known.1; cut = known.2; first = first_lf line known.0 rest plain known.2 }

module _ (limits : session.Limits) (n : ℕ) (line next rest : List ℕ) (room : n < limits.max_lines) (long : limits.max_line < length line) (plain : IsLine line) (e : rest ≡ line ++ next) where
  first_long : (line' : List ℕ) → line ≡ line' → (more : List ℕ) × (lines : List (List ℕ)) × (lines_of rest ≡ (line ++ more) ∷ lines)
  first_long [] is = absurd (omega (arith, ap length is))
  first_long (b ∷ bs) is = let l = lines-long b bs next (rw is at plain) in (l.0, l.1, rw (e, is) l.2)

  pub long_ends : ends limits n rest ≡ Bad (n + 1)
  long_ends = let f = first_long line refl in ap (end_after limits n) f.2 ∙ end_long limits n (line ++ f.0) f.1 room (omega (arith, length-append line f.0))

  pub long_replies : (told : Told) (s : State) → replies limits told s n rest ≡ []
  long_replies told s = let f = first_long line refl in ap (λ (ls : List (List ℕ)). replies_from told s (commands_after limits n ls)) f.2 ∙ ap (replies_from told s) (commands_long limits n (line ++ f.0) f.1 room (omega (arith, length-append line f.0)))

pub nothing_more : (known : Option (List ℕ)) (all : List ℕ) → all ≡ [] → known ≡ append_known known all
nothing_more known all e = append-nil_known known ∙ ap (append_known known) (sym e)

pub at_end : (known : Option (List ℕ)) (next : List ℕ) → known ≡ Some next → IsAtEnd known → next ≡ []
at_end None next e h = absurd (cc)
at_end (Some xs) next e h = let same : xs ≡ next = cc in sym same ∙ h

-- a last line without LF is the only one
pub only_line : (before after : Option (List ℕ)) (line rest : List ℕ) → before ≡ prepend_known line after → IsLine line → 0 < length line → IsAtEnd after → before ≡ Some rest → lines_of rest ≡ line ∷ []
only_line before after line rest e plain some done is =
    let known = known_left before after line rest e is in
    let none = at_end after known.0 known.1 done in
    first_last line rest plain some (known.2 ∙ ap (λ (next : List ℕ). line ++ next) none ∙ append-nil line)

-- a line of which more bytes follow
pub long_read : (line more next rest : List ℕ) → rest ≡ (line ++ more) ++ next → rest ≡ line ++ (more ++ next)
long_read line more next rest e = e ∙ append_assoc line more next

-- ---- over many lines

exact : (old mid new : Option (List ℕ)) (done all rest : List ℕ) → mid ≡ append_known old done → all ≡ done ++ rest → new ≡ append_known mid rest → new ≡ append_known old all
exact old mid new done all rest m e w = w ∙ ap (λ (k : Option (List ℕ)). append_known k rest) m ∙ append-append old done rest ∙ ap (append_known old) (sym e)

some_front : (old mid new : Option (List ℕ)) (done all rest : List ℕ) → mid ≡ append_known old done → all ≡ done ++ rest → TakesPrefix mid new rest → TakesPrefix old new all
some_front old mid new done all rest m e w = (
  done ++ w.0,
  w.1,
  w.2 ∙ ap (λ (k : Option (List ℕ)). append_known k w.0) m ∙ append-append old done w.0,
  append_assoc done w.0 w.1 ∙ ap (λ (r : List ℕ). done ++ r) w.3 ∙ sym e,
)

pub written_after : (old mid new : Option (List ℕ)) (done all rest : List ℕ) (r : Result (Unit {0}) SessionFault) → mid ≡ append_known old done → all ≡ done ++ rest → Written rest mid new r → Written all old new r
written_after old mid new done all rest (Ok u) m e w = exact old mid new done all rest m e w
written_after old mid new done all rest (Err (BadLine n)) m e w = exact old mid new done all rest m e w
written_after old mid new done all rest (Err Full) m e w = exact old mid new done all rest m e w
written_after old mid new done all rest (Err ReadFault) m e w = some_front old mid new done all rest m e w
written_after old mid new done all rest (Err WriteFault) m e w = some_front old mid new done all rest m e w
written_after old mid new done all rest (Err OutOfMemory) m e w = some_front old mid new done all rest m e w

-- where nothing more was written
pub written_quiet : (old new : Option (List ℕ)) (all : List ℕ) (r : Result (Unit {0}) SessionFault) → new ≡ old → UnlessCutOff r (all ≡ []) → Written all old new r
written_quiet old new all (Ok u) e q = e ∙ nothing_more old all q
written_quiet old new all (Err (BadLine n)) e q = e ∙ nothing_more old all q
written_quiet old new all (Err Full) e q = e ∙ nothing_more old all q
written_quiet old new all (Err ReadFault) e q = nothing_yet old new all e
written_quiet old new all (Err WriteFault) e q = nothing_yet old new all e
written_quiet old new all (Err OutOfMemory) e q = nothing_yet old new all e

pub fits_after : (end later : End) (r : Result (Unit {0}) SessionFault) → end ≡ later → EndFits later r → EndFits end r
fits_after end later r e h = subst (λ (x : End). EndFits x r) (sym e) h

-- ---- the end of a run

part_of : (old new : Option (List ℕ)) (replies : List ℕ) → new ≡ append_known old replies → TakesPrefix old new replies
part_of old new replies e = (replies, [], e, append-nil replies)

-- what was written is a front of the replies, whatever the answer
pub some_written : (replies : List ℕ) (old new : Option (List ℕ)) (r : Result (Unit {0}) SessionFault) → Written replies old new r → TakesPrefix old new replies
some_written replies old new (Ok u) w = part_of old new replies w
some_written replies old new (Err (BadLine n)) w = part_of old new replies w
some_written replies old new (Err Full) w = part_of old new replies w
some_written replies old new (Err ReadFault) w = w
some_written replies old new (Err WriteFault) w = w
some_written replies old new (Err OutOfMemory) w = w

-- an answer that gives way to a write fault
pub ends_flushed : (end : End) (r r' : Result (Unit {0}) SessionFault) → (r' ≡ r) ⊎ (r' ≡ Err WriteFault) → EndFits end r → EndFits end r'
ends_flushed end r r' same fits = elim same [ inl e ↦ rw e fits | inr e ↦ rw e tt ]

pub written_flushed : (replies : List ℕ) (old mid new : Option (List ℕ)) (r r' : Result (Unit {0}) SessionFault) → (r' ≡ r) ⊎ (r' ≡ Err WriteFault) → new ≡ mid → Written replies old mid r → Written replies old new r'
written_flushed replies old mid new r r' same e w = elim same [ inl is ↦ rw (is, e) w | inr is ↦ rw (is, e) (some_written replies old mid r w) ]

-- what is left is told once
pub same_rest : (left : Option (List ℕ)) (a b : List ℕ) → left ≡ Some a → left ≡ Some b → a ≡ b
same_rest left a b e f = cc

-- a byte after the last line that may come
pub byte_over : (limits : session.Limits) (rest : List ℕ) (old new : Option (List ℕ)) (more : List ℕ) → old ≡ Some rest → old ≡ prepend_known more new → 0 < length more → ends limits limits.max_lines rest ≡ Over
byte_over limits rest old new [] is e some = absurd (omega arith)
byte_over limits rest old new (b ∷ bs) is e some =
    let known = known_left old new (b ∷ bs) rest e is in
    let line = some_line b (bs ++ known.0) in
    ap (end_after limits limits.max_lines) (ap lines_of known.2 ∙ line.2) ∙ end_over limits line.0 line.1

-- the command that was read is that of the line
pub some_said : (said : Said) (read line : List ℕ) (command : Command) → Some (plain_command said) ≡ command_of read → read ≡ line → command_of line ≡ Some command → plain_command said ≡ command
some_said said read line command e same is = let both : Some (plain_command said) ≡ Some command = e ∙ ap command_of same ∙ is in cc

-- at the start
pub replies_start : (limits : session.Limits) (told : Told) (input : List ℕ) → replies_to limits told input ≡ replies limits told opening 0 input
replies_start limits told input = ap (replies_from told opening) (sym (commands_start limits input))
