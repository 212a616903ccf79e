-- The good lines of an input, one more after another, and what was received before a read failed.
use Rattle.std.proofs.Common.{◌≡◌, ℕ, ◌+◌, ◌*◌, ◌<◌, suc, List, [], ◌∷◌, ◌++◌, length, refl, sym, ap, ◌∙◌, append_assoc, append-nil, arith, length-append, Option, Some, None}
use Rattle.std.specs.Io.KnownBytes.{prepend_known, append_known}
use Rattle.std.proofs.Math.Nat.{mul-le-mul_right}
use Rattle.std.proofs.lemmas.List.Elements.{All-nil, All-push}
use Rattle.ty_model.specs.Disk.{Told}
use Rattle.session_grammar.specs.Command.{Command}
use Rattle.session_lines.specs.Lf.{IsLine}
use Rattle.tinymist_session.specs.Machine.{State, step, opening}
use Rattle.session_grammar.specs.Reply.{reply_line}
use Rattle.tinymist_session.specs.Session.{Limits, ended, before, good_line, good_commands, replies_from}
use Rattle.session_lines.specs.LineSource.{TakenWithin}
use Rattle.tinymist_session.specs.Run.{Received, replies_received, most_bytes}
use Rattle.tinymist_session.specs.Turns.{GoodLine, Broken}
use Rattle.tinymist_session.proofs.UnderWay.{Front, state_after}

ended_push : (lines : List (List ℕ)) (line : List ℕ) → ended (lines ++ line ∷ []) ≡ ended lines ++ (line ++ 10 ∷ [])
ended_push [] line = refl
ended_push (l ∷ ls) line = ap (λ (r : List ℕ). l ++ 10 ∷ r) (ended_push ls line) ∙ sym (append_assoc l (10 ∷ ended ls) (line ++ 10 ∷ []))

one_more : (o : Option Command) (later longer : List Command) (n : ℕ) (c : Command) → length (before o later) ≡ suc n → (length later ≡ n → longer ≡ later ++ c ∷ []) → before o longer ≡ before o later ++ c ∷ []
one_more None later longer n c e next = absurd (omega (arith, e))
one_more (Some d) later longer n c e next = ap (λ (r : List Command). d ∷ r) (next (omega (arith, e)))

pub commands_push : (limits : Limits) (lines : List (List ℕ)) (line : List ℕ) (c : Command) → length (good_commands limits lines) ≡ length lines → good_line limits line ≡ Some c → good_commands limits (lines ++ line ∷ []) ≡ good_commands limits lines ++ c ∷ []
commands_push limits [] line c e is = ap (λ (o : Option Command). before o []) is
commands_push limits (l ∷ ls) line c e is = one_more (good_line limits l) (good_commands limits ls) (good_commands limits (ls ++ line ∷ [])) (length ls) c e (λ same. commands_push limits ls line c same is)

module _ (told : Told) where
  pub replies_push : (s : State) (cs : List Command) (c : Command) → replies_from told s (cs ++ c ∷ []) ≡ replies_from told s cs ++ reply_line (step (state_after told s cs) told c).reply
  replies_push s [] c = append-nil (reply_line (step s told c).reply)
  replies_push s (d ∷ ds) c =
      let first = reply_line (step s told d).reply in
      let next = (step s told d).state in
      ap (λ (r : List ℕ). first ++ r) (replies_push next ds c) ∙ sym (append_assoc first (replies_from told next ds) (reply_line (step (state_after told next ds) told c).reply))

  pub state_push : (s : State) (cs : List Command) (c : Command) → state_after told s (cs ++ c ∷ []) ≡ (step (state_after told s cs) told c).state
  state_push s [] c = refl
  state_push s (d ∷ ds) c = state_push (step s told d).state ds c

next_product : (n k : ℕ) → (n + 1) * k ≡ n * k + k
next_product n k = omega arith

module _ (limits : Limits) (input : List ℕ) where
  -- no line yet
  pub front_start : Front limits input 0 [] input
  front_start = record { cut = refl; whole = All-nil IsLine; count = refl; good = refl; size = omega arith }

  module _ (n : ℕ) (lines : List (List ℕ)) (rest : List ℕ) (f : Front limits input n lines rest) where
    -- one more good line
    pub front_push : (next : List ℕ) → (g : GoodLine limits rest next) → Front limits input (n + 1) (lines ++ g.line ∷ []) next
    front_push next g =
        let long = length-append lines (g.line ∷ []) in
        let all = commands_push limits lines g.line g.command f.good g.good in
        record {
          cut = f.cut ∙ ap (λ (r : List ℕ). ended lines ++ r) g.cut ∙ sym (append_assoc (ended lines) (g.line ++ 10 ∷ []) next) ∙ ap (λ (r : List ℕ). r ++ next) (sym (ended_push lines g.line));
          whole = All-push IsLine lines g.line f.whole g.whole;
          count = omega (arith, long, f.count);
          good = ap length all ∙ omega (arith, length-append (good_commands limits lines) (g.command ∷ []), long, f.good);
          size = omega (arith, ap length (ended_push lines g.line), length-append (ended lines) (g.line ++ 10 ∷ []), length-append g.line (10 ∷ []), f.size, g.short, next_product n (limits.max_line + 1));
        }

    -- a read fails within a line
    pub front_broken : (left : Option (List ℕ)) → n < limits.max_lines → Broken limits rest left → Received limits input left
    front_broken left room b = record {
      lines = lines;
      rest = b.part;
      all = whole left b.part b.cut;
      whole = f.whole;
      front = b.whole;
      good = f.good;
      within = omega (arith, f.count);
      short = b.short;
      last = λ e. absurd (omega (arith, f.count, e));
    }
      where
        whole : (left : Option (List ℕ)) (part : List ℕ) → Some rest ≡ prepend_known part left → Some input ≡ prepend_known (ended lines ++ part) left
        whole None part e = absurd (cc)
        whole (Some l) part e =
            let same : rest ≡ part ++ l = cc in
            ap Some (f.cut ∙ ap (λ (r : List ℕ). ended lines ++ r) same ∙ sym (append_assoc (ended lines) part l))

    -- a read fails after the last line that may come
    pub front_last : (left : Option (List ℕ)) → n ≡ limits.max_lines → left ≡ Some rest → Received limits input left
    front_last left full is = record {
      lines = lines;
      rest = [];
      all = ap Some (f.cut ∙ ap (λ (xs : List ℕ). xs ++ rest) (sym (append-nil (ended lines)))) ∙ ap (prepend_known (ended lines ++ [])) (sym is);
      whole = f.whole;
      front = refl;
      good = f.good;
      within = omega (arith, f.count, full);
      short = omega arith;
      last = λ e. refl;
    }

    -- the replies to these lines are all that was taken
    module _ (told : Told) (old new left : Option (List ℕ)) (e : new ≡ append_known old (replies_from told opening (good_commands limits lines))) where
      pub broken_answered : n < limits.max_lines → Broken limits rest left → (r : Received limits input left) × (new ≡ append_known old (replies_received limits told input left r))
      unfolding front_broken
      broken_answered room b = (front_broken left room b, e)

      pub last_answered : n ≡ limits.max_lines → left ≡ Some rest → (r : Received limits input left) × (new ≡ append_known old (replies_received limits told input left r))
      unfolding front_last
      last_answered full is = (front_last left full is, e)

    -- what a line takes of the rest is taken of the input
    pub front_bounded : (left : Option (List ℕ)) → n < limits.max_lines → TakenWithin (limits.max_line + 65536) rest left → TakenWithin (most_bytes limits) input left
    front_bounded left room t = record {
      rest = t.rest;
      left_is = t.left_is;
      within = omega (arith, ap length f.cut, length-append (ended lines) rest, f.size, t.within, next_product n (limits.max_line + 1), mul-le-mul_right (limits.max_line + 1) room);
    }

    pub front_bounded_last : (left : Option (List ℕ)) → n ≡ limits.max_lines → TakenWithin 65536 rest left → TakenWithin (most_bytes limits) input left
    front_bounded_last left full t = record {
      rest = t.rest;
      left_is = t.left_is;
      within = omega (arith, ap length f.cut, length-append (ended lines) rest, f.size, t.within, ap (λ (m : ℕ). m * (limits.max_line + 1)) full);
    }
