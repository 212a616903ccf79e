use Rattle.std.proofs.Common.{is_some, length, sym, ap, ◌∙◌, arith}
use Rattle.ty_persist.proofs.Entries.{length_put, ascending_put}
use Rattle.ty_persist.proofs.Low.{height_fits, low_more}
use Rattle.ty_persist.proofs.Puts.{as_many, put_keeps}
use Rattle.ty_persist.proofs.map.Map.place.Goals as goal

pub put-requires : goal.put-requires
put-requires g c = record { height_fits = height_fits _ _ c.self.invariant.2 (omega (arith, c.self.invariant.0)) }

pub add-requires : goal.add-requires
add-requires g c = record { height_fits = rw c.put.ensures.height (height_fits _ _ c.self.invariant.2 (omega (arith, c.self.invariant.0))) }

pub invariant_of-self-in-Replaced : goal.invariant_of-self-in-Replaced
invariant_of-self-in-Replaced g c =
    let es = c.self.inside.tree.entries in
    let ok = rw c.in-Replaced.is at c.in_ok-before.ensures.ok in
    let kept = put_keeps g.met.K.Ord.total c.args.key c.args.value c.in_ok-before.field-0 es c.put.new.self.entries c.self.invariant.1 c.in_ok-before.ensures.ok in
    let many = ap length ok.1 ∙ as_many g.met.K.Ord.total c.args.key c.args.value es c.self.invariant.1 ok.0 in
    (c.self.invariant.0 ∙ sym many, kept.0, rw c.put.ensures.height (low_more _ _ _ kept.1 c.self.invariant.2))

pub invariant_of-self-in-Added : goal.invariant_of-self-in-Added
invariant_of-self-in-Added g c =
    let es = c.self.inside.tree.entries in
    let ok = rw c.in-Added.is at c.in_ok-before.ensures.ok in
    let kept = put_keeps g.met.K.Ord.total c.args.key c.args.value c.in_ok-before.field-0 es c.put.new.self.entries c.self.invariant.1 c.in_ok-before.ensures.ok in
    let many = rw (ap is_some ok.0) at (length_put g.met.K.Ord.total c.args.key c.args.value es c.self.invariant.1) in
    (omega (arith, many, ap length ok.1, c.self.invariant.0, c.in_ok-grown.ensures), kept.0, rw c.put.ensures.height (low_more _ _ _ kept.1 c.self.invariant.2))

pub invariant_of-self-in-Waits : goal.invariant_of-self-in-Waits
invariant_of-self-in-Waits g c =
    let es = c.self.inside.tree.entries in
    let ok = rw c.in-Waits.is at c.in_ok-before.ensures.ok in
    let many = rw (ap is_some ok.0) at (length_put g.met.K.Ord.total c.args.key c.args.value es c.self.invariant.1) in
    let new = rw (ok.1, ap (λ p. p.0) ok.2, ap (λ p. p.1) ok.2) at c.in_ok-add-in-Waits.ensures.ok in
    (omega (arith, many, ap length new, c.self.invariant.0, c.in_ok-grown.ensures), rw new (ascending_put g.met.K.Ord.total _ _ _ c.self.invariant.1), c.add.ensures.low (rw c.put.ensures.height (low_more _ _ _ (put_keeps g.met.K.Ord.total c.args.key c.args.value c.in_ok-before.field-0 es c.put.new.self.entries c.self.invariant.1 c.in_ok-before.ensures.ok).1 c.self.invariant.2)))
