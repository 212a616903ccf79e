-- One byte more of an input that is cut into lines, and one line more of its commands.
use Rattle.std.proofs.Common.{◌≡◌, ℕ, ◌+◌, ◌<◌, ◌≤◌, ◌==◌, false, true, List, [], ◌∷◌, ◌++◌, length, take, drop, get_or, map, refl, sym, ap, ◌∙◌, append_assoc, append-nil, add-one, drop-cons, arith, Option, Some, None}
use Rattle.std.proofs.lemmas.Bool.{eqb-true}
use Rattle.std.proofs.lemmas.List.{map-append, drop_all, take-map, length-map}
use Rattle.std.proofs.lemmas.List.Folds.{list_any-append}
use Rattle.session_lines.specs.Lf.{IsLine}
use Rattle.session_grammar.specs.Command.{Command}
use Rattle.tinymist_session.specs.Session.{Limits, lines_of, good_line, good_commands, before, lines_within, commands_of, end_with, end_of}
use Rattle.tinymist_session.proofs.Lines.{lines-lf, lines-last}

-- these lines, and those that a line makes with what is to come after it
abbrev pub cut_so_far : List (List ℕ) → List ℕ → List ℕ → List (List ℕ)
cut_so_far done line later = done ++ lines_of (line ++ later)

module _ (input : List ℕ) (i b : ℕ) (within : i < length input) (is : b ≡ get_or input i 0) where
  from_here : drop i input ≡ b ∷ drop (i + 1) input
  from_here = rw (add-one, drop-cons input i 0, ← is) refl

  at_lf : (done : List (List ℕ)) (line : List ℕ) → IsLine line → b ≡ 10 → cut_so_far (done ++ line ∷ []) [] (drop (i + 1) input) ≡ cut_so_far done line (drop i input)
  at_lf done line plain lf =
      append_assoc done (line ∷ []) (lines_of (drop (i + 1) input))
      ∙ ap (λ (ls : List (List ℕ)). done ++ ls) (sym (lines-lf line (drop (i + 1) input) plain))
      ∙ ap (λ (later : List ℕ). cut_so_far done line later) (ap (λ (n : ℕ). n ∷ drop (i + 1) input) (sym lf) ∙ sym from_here)

  pub at_other : (done : List (List ℕ)) (line : List ℕ) → cut_so_far done (line ++ b ∷ []) (drop (i + 1) input) ≡ cut_so_far done line (drop i input)
  at_other done line = ap (λ (bs : List ℕ). done ++ lines_of bs) (append_assoc line (b ∷ []) (drop (i + 1) input) ∙ ap (λ (later : List ℕ). line ++ later) (sym from_here))

  pub cut_at_lf : {A : Type 0} (bytes : A → List ℕ) (lines lines' : List A) (line : A) (line' : List ℕ) → lines' ≡ lines ++ line ∷ [] → line' ≡ [] → IsLine (bytes line) → b ≡ 10
      → cut_so_far (map bytes lines') line' (drop (i + 1) input) ≡ cut_so_far (map bytes lines) (bytes line) (drop i input)
  cut_at_lf bytes lines lines' line line' more fresh plain lf =
      (λ j. cut_so_far (map bytes (more j)) (fresh j) (drop (i + 1) input))
      ∙ ap (λ (done : List (List ℕ)). cut_so_far done [] (drop (i + 1) input)) (map-append bytes lines (line ∷ []))
      ∙ at_lf (map bytes lines) (bytes line) plain lf

pub other_byte : (b : ℕ) → ¬ (b ≡ 10) → (b == 10) ≡ false
other_byte b h = elim (b == 10) as (λ t. (b == 10) ≡ t → t ≡ false) [ true ↦ λ e. absurd (h (eqb-true b 10 e)) | false ↦ λ e. refl ] refl

pub stays_line : (line : List ℕ) (b : ℕ) → IsLine line → (b == 10) ≡ false → IsLine (line ++ b ∷ [])
stays_line line b plain other = list_any-append (λ c. c == 10) line (b ∷ []) ∙ rw (plain, other) refl

-- after the last byte nothing is to come
pub at_last : (input : List ℕ) (i : ℕ) (done : List (List ℕ)) (line : List ℕ) → length input ≤ i → cut_so_far done line (drop i input) ≡ cut_so_far done line []
at_last input i done line past = ap (λ (later : List ℕ). cut_so_far done line later) (drop_all i input past)

-- a rest that has a byte is a line
pub at_rest : (done : List (List ℕ)) (line : List ℕ) → IsLine line → 0 < length line → done ++ line ∷ [] ≡ cut_so_far done line []
at_rest done [] plain some = absurd (omega arith)
at_rest done (b ∷ bs) plain some = ap (λ (ls : List (List ℕ)). done ++ ls) (sym (ap lines_of (append-nil (b ∷ bs)) ∙ lines-last b bs plain))

pub at_end : (done : List (List ℕ)) (line : List ℕ) → length line ≡ 0 → done ≡ cut_so_far done line []
at_end done [] none = sym (append-nil done)
at_end done (b ∷ bs) none = absurd (omega arith)

-- ---- commands

module _ (limits : Limits) (done : List Command) (line : List ℕ) (lines : List (List ℕ)) where
  pub one_more : (command : Command) → good_line limits line ≡ Some command → (done ++ command ∷ []) ++ good_commands limits lines ≡ done ++ good_commands limits (line ∷ lines)
  one_more command is =
      append_assoc done (command ∷ []) (good_commands limits lines)
      ∙ ap (λ (o : Option Command). done ++ before o (good_commands limits lines)) (sym is)

  pub no_more : good_line limits line ≡ None → done ≡ done ++ good_commands limits (line ∷ lines)
  no_more is = sym (append-nil done) ∙ ap (λ (o : Option Command). done ++ before o (good_commands limits lines)) (sym is)

-- ---- a whole input, whose lines and commands are read by these functions

module _ {A B : Type 0} (bytes : A → List ℕ) (asked : B → Command) (limits : Limits) (input : List ℕ) (lines within : List A) (commands : List B)
    (cut : map bytes lines ≡ lines_of input) (let_in : within ≡ take limits.max_lines lines) (good : map asked commands ≡ good_commands limits (map bytes within)) where
  within_is : map bytes within ≡ lines_within limits input
  within_is = ap (map bytes) let_in ∙ sym (take-map bytes limits.max_lines lines) ∙ ap (take limits.max_lines) cut

  pub commands_are : map asked commands ≡ commands_of limits input
  commands_are = good ∙ ap (good_commands limits) within_is

  pub ends_as : (all inside answered : ℕ) → all ≡ length lines → inside ≡ length within → answered ≡ length commands → end_with all inside answered ≡ end_of limits input
  ends_as all inside answered p q r = λ i. end_with
      ((p ∙ sym (length-map lines bytes) ∙ ap length cut) i)
      ((q ∙ sym (length-map within bytes) ∙ ap length within_is) i)
      ((r ∙ sym (length-map commands asked) ∙ ap length commands_are) i)
