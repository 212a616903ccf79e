use Rattle.std.proofs.Common.{◌≡◌, ◌+◌, true, false, take, arith}
use Rattle.std.proofs.lemmas.List.{length-take}
use Rattle.std.proofs.lemmas.List.Sums.{sum_by_more}
use Rattle.ty_syntax.specs.Text.{units, units_of}
use Rattle.ty_syntax.specs.Lines.{ends_line}
use Rattle.ty_syntax.proofs.Starts.{with_entry, without_entry}
use Rattle.ty_syntax.proofs.Texts.{few_units}
use Rattle.ty_syntax.proofs.lines.scan.Goals as goal
use Rattle.ty_syntax.proofs.lines.scan.Goals.{then-ends_line+in_ok-push, else-ends_line}

pub loop-at-preserved : goal.loop-at-preserved
loop-at-preserved c =
    let text = c.args.text.now in
    let at = c.loop-at.at in
    let counted : c.loop-at.utf16 + c.units_of-utf16.result ≡ units (take (at + 1) text) = cc (sum_by_more units_of text at 0 (omega arith)) in
    record {
      starts = elim c.if-ends_line.branch [
        | then-ends_line+in_ok-push w ↦
            let ends : ends_line text at ≡ true = cc in
            with_entry text at (c.loop-at.utf16 + c.units_of-utf16.result) c.loop-at.starts.items c.if-ends_line.starts.items c.loop-at.invariant.starts ends counted (rw w.starts-is w.in_ok-push.ensures.items)
        | else-ends_line w ↦
            let ends : ends_line text at ≡ false = cc in
            rw w.starts-is (without_entry text at c.loop-at.starts.items c.loop-at.invariant.starts ends)
      ];
      units = counted;
      few = omega arith;
    }

pub loop-at-init : goal.loop-at-init
loop-at-init c =
    let few = few_units (take c.args.from c.args.text.now) in
    record {
      starts = c.requires.starts;
      units = c.requires.before;
      few = omega (arith, few, c.requires.before, length-take c.args.from c.args.text.now);
    }
