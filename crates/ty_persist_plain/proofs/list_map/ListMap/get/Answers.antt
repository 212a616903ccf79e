use Rattle.std.proofs.Common.{Some, sym, ap, ◌∙◌}
use Rattle.ty_persist_plain.proofs.Places.{some_at, lookup_found, lookup_gap}
use Rattle.ty_persist_plain.proofs.list_map.ListMap.get.Goals as goal

pub returns-in-Ok : goal.returns-in-Ok
returns-in-Ok g c =
    let es = c.self.inside.entries.items in
    let x = c.index.result.now in
    let found = rw c.deref.ensures.value at c.in-Ok.ensures.found in
    rw (← c.self.view_is) (ap (λ e. Some e.value) c.deref-in-Ok.ensures ∙ sym (lookup_found g.met.K.Ord.total c.args.key.now es c.in-Ok.i x (some_at es c.in-Ok.i x found.within c.index.ensures) found))

pub returns-in-Err : goal.returns-in-Err
returns-in-Err g c = rw (← c.self.view_is) (sym (lookup_gap g.met.K.Ord.total c.args.key.now c.self.inside.entries.items c.in-Err.field-0 c.self.invariant (rw c.deref.ensures.value at c.in-Err.ensures.absent)))
