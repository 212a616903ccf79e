use Rattle.std.proofs.Common.{Some, sym, ap, subst, ◌∙◌}
use Rattle.std.specs.Option.{option_map}
use Rattle.ty_persist.specs.Contents.{IsAscending}
use Rattle.ty_persist.proofs.Entries.{ascending_remove, remove_absent}
use Rattle.ty_persist_plain.proofs.Places.{some_at, lookup_found, remove_found, lookup_gap}
use Rattle.ty_persist_plain.proofs.list_map.ListMap.remove.Goals as goal

pub invariant_of-self : goal.invariant_of-self
invariant_of-self g c =
    let es = c.self.inside.entries.items in
    let x = c.index.result.now in
    let found = rw c.deref.ensures.value at c.in-Ok.ensures.found in
    let same = remove_found g.met.K.Ord.total c.args.key.now es c.in-Ok.i x (some_at es c.in-Ok.i x found.within c.index.ensures) found in
    rw c.remove.ensures.items (subst (IsAscending g.K.Ord.cmp) (sym same) (ascending_remove g.met.K.Ord.total _ _ c.self.invariant))

pub returns-in_ok-before-in-Ok-clause-ok : goal.returns-in_ok-before-in-Ok-clause-ok
returns-in_ok-before-in-Ok-clause-ok g c =
    let es = c.self.inside.entries.items in
    let x = c.index.result.now in
    let found = rw c.deref.ensures.value at c.in-Ok.ensures.found in
    let same = remove_found g.met.K.Ord.total c.args.key.now es c.in-Ok.i x (some_at es c.in-Ok.i x found.within c.index.ensures) found in
    rw (c.remove.ensures.items, ← c.self.view_is) same

pub returns-in_ok-before-in-Ok-clause-before : goal.returns-in_ok-before-in-Ok-clause-before
returns-in_ok-before-in-Ok-clause-before g c =
    let es = c.self.inside.entries.items in
    let x = c.index.result.now in
    let found = rw c.deref.ensures.value at c.in-Ok.ensures.found in
    let there = lookup_found g.met.K.Ord.total c.args.key.now es c.in-Ok.i x (some_at es c.in-Ok.i x found.within c.index.ensures) found in
    rw (← c.self.view_is) (ap Some (c.in_ok-before-in-Ok.ensures ∙ ap (λ e. g.V.Share.seen e.value) c.deref-in-Ok.ensures) ∙ sym (ap (option_map g.V.Share.seen) there))

pub returns-in-Err-clause-before : goal.returns-in-Err-clause-before
returns-in-Err-clause-before g c =
    rw (← c.self.view_is) (sym (ap (option_map g.V.Share.seen) (lookup_gap g.met.K.Ord.total c.args.key.now c.self.inside.entries.items c.in-Err.field-0 c.self.invariant (rw c.deref.ensures.value at c.in-Err.ensures.absent))))

pub returns-in-Err-clause-ok : goal.returns-in-Err-clause-ok
returns-in-Err-clause-ok g c =
    rw (← c.self.view_is) (sym (remove_absent _ _ (lookup_gap g.met.K.Ord.total c.args.key.now c.self.inside.entries.items c.in-Err.field-0 c.self.invariant (rw c.deref.ensures.value at c.in-Err.ensures.absent))))
