use Rattle.std.proofs.Common.{Some, sym, ap, subst, ◌∙◌}
use Rattle.std.specs.Option.{option_map}
use Rattle.ty_persist.specs.Contents.{IsAscending}
use Rattle.ty_persist_plain.specs.ListMap.{pair}
use Rattle.ty_persist.proofs.Entries.{ascending_put}
use Rattle.ty_persist_plain.proofs.Places.{some_at, lookup_found, put_found, lookup_gap, put_gap}
use Rattle.ty_persist_plain.proofs.list_map.ListMap.insert.Goals as goal

pub invariant_of-self-in-Err : goal.invariant_of-self-in-Err
invariant_of-self-in-Err g c =
    let es = c.self.inside.entries.items in
    let same = put_gap g.met.K.Ord.total c.args.key es c.in-Err.i c.args.value c.in_ok-entry-in-Err.entry (ap pair c.in_ok-entry-in-Err.ensures.ok) (rw c.deref.ensures.value at c.in-Err.ensures.absent) in
    rw (c.in_ok-insert-in-Err.ensures.items) (subst (IsAscending g.K.Ord.cmp) (sym same) (ascending_put g.met.K.Ord.total _ _ _ c.self.invariant))

pub returns-in_ok-insert-in-Err-clause-ok : goal.returns-in_ok-insert-in-Err-clause-ok
returns-in_ok-insert-in-Err-clause-ok g c =
    let es = c.self.inside.entries.items in
    let same = put_gap g.met.K.Ord.total c.args.key es c.in-Err.i c.args.value c.in_ok-entry-in-Err.entry (ap pair c.in_ok-entry-in-Err.ensures.ok) (rw c.deref.ensures.value at c.in-Err.ensures.absent) in
    rw (c.in_ok-insert-in-Err.ensures.items, ← c.self.view_is) same

pub returns-in_ok-insert-in-Err-clause-before : goal.returns-in_ok-insert-in-Err-clause-before
returns-in_ok-insert-in-Err-clause-before g c =
    rw (← c.self.view_is) (sym (ap (option_map g.V.Share.seen) (lookup_gap g.met.K.Ord.total c.args.key c.self.inside.entries.items c.in-Err.i c.self.invariant (rw c.deref.ensures.value at c.in-Err.ensures.absent))))

pub returns-in_ok-self-inside-in-Ok-clause-before : goal.returns-in_ok-self-inside-in-Ok-clause-before
returns-in_ok-self-inside-in-Ok-clause-before g c =
    let es = c.self.inside.entries.items in
    let x = c.index.result.now in
    let found = rw c.deref.ensures.value at c.in-Ok.ensures.found in
    let there = lookup_found g.met.K.Ord.total c.args.key es c.in-Ok.i x (some_at es c.in-Ok.i x found.within c.index.ensures) found in
    rw (← c.self.view_is) (ap Some (c.in_ok-before-in-Ok.ensures ∙ ap (λ e. g.V.Share.seen e.value) c.deref-in-Ok.ensures) ∙ sym (ap (option_map g.V.Share.seen) there))

pub invariant_of-self : goal.invariant_of-self
invariant_of-self g c =
    let es = c.self.inside.entries.items in
    let x = c.index.result.now in
    let found = rw c.deref.ensures.value at c.in-Ok.ensures.found in
    let same = put_found g.met.K.Ord.total c.args.key es c.in-Ok.i c.args.value x c.in_ok-self-inside-in-Ok.field-0 (some_at es c.in-Ok.i x found.within c.index.ensures) (ap pair c.in_ok-self-inside-in-Ok.ensures.ok) found in
    subst (IsAscending g.K.Ord.cmp) (sym same) (ascending_put g.met.K.Ord.total _ _ _ c.self.invariant)

pub returns-in_ok-self-inside-in-Ok-clause-ok : goal.returns-in_ok-self-inside-in-Ok-clause-ok
returns-in_ok-self-inside-in-Ok-clause-ok g c =
    let es = c.self.inside.entries.items in
    let x = c.index.result.now in
    let found = rw c.deref.ensures.value at c.in-Ok.ensures.found in
    let same = put_found g.met.K.Ord.total c.args.key es c.in-Ok.i c.args.value x c.in_ok-self-inside-in-Ok.field-0 (some_at es c.in-Ok.i x found.within c.index.ensures) (ap pair c.in_ok-self-inside-in-Ok.ensures.ok) found in
    rw (← c.self.view_is) same
