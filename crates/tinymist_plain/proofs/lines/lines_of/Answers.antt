use Rattle.std.proofs.Common.{◌≡◌, ◌∙◌, ◌+◌, ◌++◌, [], ◌∷◌, ap, sym, map, refl, List, ℕ, Vec, Global, get_or, drop, arith, ◌==◌, vec_len}
use Rattle.std.proofs.lemmas.Bool.{eqb-true, eqb-false}
use Rattle.std.proofs.lemmas.List.{map-append}
use Rattle.std.specs.List.{list_any}
use Rattle.tinymist_plain.proofs.Cuts.{cut_so_far, cut_at_lf, at_other, other_byte, stays_line, at_last, at_rest, at_end}
use Rattle.tinymist_plain.proofs.lines.lines_of.Goals as goal
use Rattle.tinymist_plain.proofs.lines.lines_of.Goals.{then-b-eq10+in_ok-push, else-b-eq10+in_ok-push-2, then-not-is_empty+in_ok-push-3, else-not-is_empty}

abbrev items : Vec ℕ Global → List ℕ
items v = v.items

abbrev all_items : Vec (Vec ℕ Global) Global → List (Vec ℕ Global)
all_items v = v.items

pub loop-b-preserved : goal.loop-b-preserved
loop-b-preserved c =
    let b = get_or c.args.input.now c.loop-b.b-index 0 in
    elim c.if-b-eq10.branch [
      | then-b-eq10+in_ok-push w ↦
          let fresh : c.if-b-eq10.line.items ≡ [] = ap items w.line-is ∙ w.new-line-then-b-eq10.ensures.items in
          record {
            cut = cut_at_lf c.args.input.now c.loop-b.b-index b (omega arith) refl items c.loop-b.lines.items c.if-b-eq10.lines.items c.loop-b.line c.if-b-eq10.line.items
                (ap all_items w.lines-is ∙ w.in_ok-push.ensures.items) fresh c.loop-b.invariant.plain w.if-b-eq10.true
                ∙ c.loop-b.invariant.cut;
            plain = ap (list_any (λ b. b == 10)) fresh;
          }
      | else-b-eq10+in_ok-push-2 w ↦
          let longer : c.if-b-eq10.line.items ≡ c.loop-b.line.items ++ b ∷ [] = ap items w.line-is ∙ w.in_ok-push-2.ensures.items in
          record {
            cut = (λ j. cut_so_far (map items (all_items (w.lines-is j))) (longer j) (drop (c.loop-b.b-index + 1) c.args.input.now))
                ∙ at_other c.args.input.now c.loop-b.b-index b (omega arith) refl (map items c.loop-b.lines.items) c.loop-b.line.items
                ∙ c.loop-b.invariant.cut;
            plain = ap (list_any (λ b. b == 10)) longer ∙ stays_line c.loop-b.line.items b c.loop-b.invariant.plain (other_byte b w.if-b-eq10.false);
          }
    ]

pub returns : goal.returns
returns c =
    let last = sym (at_last c.args.input.now c.loop-b.b-index (map items c.loop-b.lines.items) c.loop-b.line.items c.loop-b-test.false) ∙ c.loop-b.invariant.cut in
    elim c.if-not-is_empty.branch [
      | then-not-is_empty+in_ok-push-3 w ↦
          ap (λ v. map items (all_items v)) w.lines-is ∙ ap (map items) w.in_ok-push-3.ensures.items ∙ map-append items c.loop-b.lines.items (c.loop-b.line ∷ [])
          ∙ at_rest (map items c.loop-b.lines.items) c.loop-b.line.items c.loop-b.invariant.plain (omega (arith, c.loop-b.line.ok.0, eqb-false (vec_len c.loop-b.line) 0 (sym c.is_empty.ensures ∙ w.if-not-is_empty.true))) ∙ last
      | else-not-is_empty w ↦
          ap (λ v. map items (all_items v)) w.lines-is
          ∙ at_end (map items c.loop-b.lines.items) c.loop-b.line.items (sym c.loop-b.line.ok.0 ∙ eqb-true (vec_len c.loop-b.line) 0 (sym c.is_empty.ensures ∙ w.if-not-is_empty.false)) ∙ last
    ]
