-- The first line of an input, and what it makes of the end and the commands.
use Rattle.std.proofs.Common.{◌≡◌, ℕ, ◌+◌, ◌-◌, ◌<◌, ◌≤◌, ◌==◌, ◌||◌, suc, Bool, true, false, cond, List, [], ◌∷◌, ◌++◌, length, take, refl, ap, ◌∙◌, arith, Option, Some, None, inl, inr, add-zero, zero-add}
use Rattle.std.proofs.Math.Seq.{take-nil}
use Rattle.std.proofs.lemmas.Bool.{le-leb}
use Rattle.std.proofs.lemmas.Bool.Decides.{leb_tells}
use Rattle.std.specs.Prelude.{nat_le, nat_lt}
use Rattle.std.specs.List.{list_any}
use Rattle.ty_model.specs.Paths.{onto_first}
use Rattle.session_grammar.specs.Command.{Command}
use Rattle.session_grammar.specs.Grammar.{command_of}
use Rattle.session_lines.specs.Lf.{IsLine}
use Rattle.tinymist_session.specs.Session.{Limits, lines_of, Whole, Bad, Over, good_line, good_commands, before, end_with, end_of, commands_of}
use Rattle.tinymist_session.specs.Turns.{commands_after, end_after, ends}

parts : (a b : Bool) → (a || b) ≡ false → (a ≡ false) × (b ≡ false)
parts true b h = absurd (cc)
parts false b h = (refl, h)

pub lines-lf : (line rest : List ℕ) → IsLine line → lines_of (line ++ 10 ∷ rest) ≡ line ∷ lines_of rest
lines-lf [] rest h = refl
lines-lf (b ∷ bs) rest h =
    let p = parts (b == 10) (list_any (λ c. c == 10) bs) h in
    rw (p.0, lines-lf bs rest p.1)

onto : (b : ℕ) (all : List (List ℕ)) (l : List ℕ) (ls : List (List ℕ)) → (b == 10) ≡ false → all ≡ l ∷ ls → cond (b == 10) ([] ∷ all) (onto_first b all) ≡ (b ∷ l) ∷ ls
onto b all l ls e is = rw (e, is)

-- a line that goes on has at least its first bytes
pub lines-long : (b : ℕ) (bs rest : List ℕ) → IsLine (b ∷ bs) → (more : List ℕ) × (lines : List (List ℕ)) × (lines_of ((b ∷ bs) ++ rest) ≡ ((b ∷ bs) ++ more) ∷ lines)
lines-long b [] rest h =
    let p = parts (b == 10) false h in
    elim (lines_of rest) as (λ ls. (more : List ℕ) × (lines : List (List ℕ)) × (cond (b == 10) ([] ∷ ls) (onto_first b ls) ≡ (b ∷ more) ∷ lines)) [
      | [] ↦ ([], [], rw p.0)
      | l ∷ ls ↦ (l, ls, rw p.0)
    ]
lines-long b (c ∷ cs) rest h =
    let p = parts (b == 10) (list_any (λ d. d == 10) (c ∷ cs)) h in
    let next = lines-long c cs rest p.1 in
    (next.0, next.1, onto b (lines_of ((c ∷ cs) ++ rest)) ((c ∷ cs) ++ next.0) next.1 p.0 next.2)

pub lines-last : (b : ℕ) (bs : List ℕ) → IsLine (b ∷ bs) → lines_of (b ∷ bs) ≡ (b ∷ bs) ∷ []
lines-last b [] h = let p = parts (b == 10) false h in rw p.0
lines-last b (c ∷ cs) h =
    let p = parts (b == 10) (list_any (λ d. d == 10) (c ∷ cs)) h in
    rw (p.0, lines-last c cs p.1)

-- ---- one line of a session

fits : (n m : ℕ) → n ≤ m → nat_le n m ≡ true
fits n m h = le-leb n m h

past : (m n : ℕ) → m < n → nat_le n m ≡ false
past m n h = elim (leb_tells n m) [ inl p ↦ absurd (omega (arith, p.1)) | inr p ↦ p.0 ]

below : (m n : ℕ) → m < n → nat_lt m n ≡ true
below m n h = le-leb (suc m) n h

not_below : (m n : ℕ) → n ≤ m → nat_lt m n ≡ false
not_below m n h = past n (suc m) (omega arith)

-- moving one line from those to come to those before
shifted : (n a b c : ℕ) → end_with (n + suc a) (n + suc b) (n + suc c) ≡ end_with (n + 1 + a) (n + 1 + b) (n + 1 + c)
shifted n a b c =
    let move = λ (m : ℕ). let e : n + suc m ≡ n + 1 + m = omega arith in e in
    λ i. end_with (move a i) (move b i) (move c i)

-- a line that isn't too long is good as what it reads as
pub is_good : (limits : Limits) (line : List ℕ) → length line ≤ limits.max_line → good_line limits line ≡ command_of line
is_good limits line h = rw (fits (length line) limits.max_line h)

module _ (limits : Limits) (n : ℕ) (line : List ℕ) (rest : List (List ℕ)) (room : n < limits.max_lines) where
  budget : limits.max_lines - n ≡ suc (limits.max_lines - (n + 1))
  budget = omega arith

  within : take (limits.max_lines - n) (line ∷ rest) ≡ line ∷ take (limits.max_lines - (n + 1)) rest
  within = rw budget refl

  commands_at : commands_after limits n (line ∷ rest) ≡ before (good_line limits line) (commands_after limits (n + 1) rest)
  commands_at = ap (good_commands limits) within

  long : limits.max_line < length line → good_line limits line ≡ None
  long h = rw (past limits.max_line (length line) h)

  -- a good line is passed
  commands_some : (command : Command) → good_line limits line ≡ Some command → commands_after limits n (line ∷ rest) ≡ command ∷ commands_after limits (n + 1) rest
  commands_some command is = commands_at ∙ ap (λ (o : Option Command). before o (commands_after limits (n + 1) rest)) is

  end_some : (command : Command) → good_line limits line ≡ Some command → end_after limits n (line ∷ rest) ≡ end_after limits (n + 1) rest
  end_some command is =
      (λ i. end_with (n + suc (length rest)) (n + length (within i)) (n + length (commands_some command is i)))
      ∙ shifted n (length rest) (length (take (limits.max_lines - (n + 1)) rest)) (length (commands_after limits (n + 1) rest))

  -- a line that isn't good ends it
  commands_none : good_line limits line ≡ None → commands_after limits n (line ∷ rest) ≡ []
  commands_none is = commands_at ∙ ap (λ (o : Option Command). before o (commands_after limits (n + 1) rest)) is

  end_none : good_line limits line ≡ None → end_after limits n (line ∷ rest) ≡ Bad (n + 1)
  end_none is =
      (λ i. end_with (n + suc (length rest)) (n + length (within i)) (n + length (commands_none is i)))
      ∙ ap (λ b. cond b (Bad (n + 0 + 1)) (cond (nat_lt (n + suc (length (take (limits.max_lines - (n + 1)) rest))) (n + suc (length rest))) Over Whole)) (below (n + 0) (n + suc (length (take (limits.max_lines - (n + 1)) rest))) (omega arith))
      ∙ ap (λ (m : ℕ). Bad (m + 1)) (add-zero n)

  pub end_good : (command : Command) → length line ≤ limits.max_line → command_of line ≡ Some command → end_after limits n (line ∷ rest) ≡ end_after limits (n + 1) rest
  end_good command h is = end_some command (is_good limits line h ∙ is)

  pub commands_good : (command : Command) → length line ≤ limits.max_line → command_of line ≡ Some command → commands_after limits n (line ∷ rest) ≡ command ∷ commands_after limits (n + 1) rest
  commands_good command h is = commands_some command (is_good limits line h ∙ is)

  pub end_bad : length line ≤ limits.max_line → command_of line ≡ None → end_after limits n (line ∷ rest) ≡ Bad (n + 1)
  end_bad h is = end_none (is_good limits line h ∙ is)

  pub commands_bad : length line ≤ limits.max_line → command_of line ≡ None → commands_after limits n (line ∷ rest) ≡ []
  commands_bad h is = commands_none (is_good limits line h ∙ is)

  pub end_long : limits.max_line < length line → end_after limits n (line ∷ rest) ≡ Bad (n + 1)
  end_long h = end_none (long h)

  pub commands_long : limits.max_line < length line → commands_after limits n (line ∷ rest) ≡ []
  commands_long h = commands_none (long h)

-- ---- past the last line

abbrev no_lines : List (List ℕ)
no_lines = []

none_left : (n : ℕ) → n - n ≡ 0
none_left n = omega arith

module _ (limits : Limits) where
  pub commands_over : (lines : List (List ℕ)) → commands_after limits limits.max_lines lines ≡ []
  commands_over lines = rw (none_left limits.max_lines) refl

  pub end_over : (line : List ℕ) (rest : List (List ℕ)) → end_after limits limits.max_lines (line ∷ rest) ≡ Over
  end_over line rest =
      rw (none_left limits.max_lines, not_below (limits.max_lines + 0) (limits.max_lines + 0) (omega arith), below (limits.max_lines + 0) (limits.max_lines + suc (length rest)) (omega arith)) refl

  -- no line is left
  pub end_nothing : (n : ℕ) → end_after limits n [] ≡ Whole
  end_nothing n =
      let none : take (limits.max_lines - n) no_lines ≡ no_lines = take-nil (limits.max_lines - n) in
      rw (none, not_below (n + 0) (n + 0) (omega arith)) refl

  pub commands_nothing : (n : ℕ) → commands_after limits n [] ≡ []
  commands_nothing n = ap (good_commands limits) (take-nil (limits.max_lines - n))

  -- at the start
  pub end_start : (input : List ℕ) → ends limits 0 input ≡ end_of limits input
  end_start input =
      let all : limits.max_lines - 0 ≡ limits.max_lines = omega arith in
      let none = λ (m : ℕ). zero-add m in
      rw all (λ i. end_with (none (length (lines_of input)) i) (none (length (take limits.max_lines (lines_of input))) i) (none (length (commands_of limits input)) i))

  pub commands_start : (input : List ℕ) → commands_after limits 0 (lines_of input) ≡ commands_of limits input
  commands_start input = let all : limits.max_lines - 0 ≡ limits.max_lines = omega arith in rw all refl

-- an input with a byte has a line
pub some_line : (b : ℕ) (bs : List ℕ) → (line : List ℕ) × (lines : List (List ℕ)) × (lines_of (b ∷ bs) ≡ line ∷ lines)
some_line b bs =
    elim (b == 10) as (λ t. (line : List ℕ) × (lines : List (List ℕ)) × (cond t ([] ∷ lines_of bs) (onto_first b (lines_of bs)) ≡ line ∷ lines)) [
      | true ↦ ([], lines_of bs, refl)
      | false ↦ elim (lines_of bs) as (λ ls. (line : List ℕ) × (lines : List (List ℕ)) × (onto_first b ls ≡ line ∷ lines)) [
        | [] ↦ (b ∷ [], [], refl)
        | l ∷ ls ↦ (b ∷ l, ls, refl)
      ]
    ]
