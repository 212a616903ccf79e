use Rattle.std.proofs.Common.{sym, ◌∙◌, refl, arith}
use Rattle.tinymist_vfs.specs.Items.{items_of}
use Rattle.tinymist_vfs.proofs.Commit.{is_staged, stays, rose, raised}
use Rattle.tinymist_vfs.proofs.vfs.Vfs.commit_staged.Goals as goal

pub mark_all-requires : goal.mark_all-requires
mark_all-requires g c = is_staged _ _ _ c.next-stamp.result (items_of c.args.batch.now) c.in_ok-layers.ensures.same c.in_ok-apply_all.ensures

pub returns-then-not-either-clause-ok : goal.returns-then-not-either-clause-ok
returns-then-not-either-clause-ok g c =
    rw (← c.self.view_is)
    (stays _ c.args.batch.now _ _ _ _ _ _ _ _ c.in_ok-layers.ensures.same c.next-stamp.ensures c.in_ok-apply_all.ensures c.in_ok-changes.ensures.same c.in_ok-differs.ensures c.changes_view.ensures (sym c.either.ensures ∙ c.if-not-either.true), refl)

pub returns-then-self-clause-full : goal.returns-then-self-clause-full
returns-then-self-clause-full g c = λ _.
    rw (← c.self.view_is)
    (raised (record { held = record { space = c.self.inside.space; revision = c.self.inside.revision; layers = c.self.inside.layers; reset = c.self.inside.reset; changes = c.self.inside.changes }; resolver = c.self.inside.resolver }) c.args.batch.now _ _ _ _ _ _ _ _ c.in_ok-layers.ensures.same c.next-stamp.ensures c.in_ok-apply_all.ensures c.in_ok-changes.ensures.same c.in_ok-differs.ensures c.changes_view.ensures (sym c.either.ensures ∙ c.if-not-either.false), c.if-self.true)

pub returns-clause-ok : goal.returns-clause-ok
returns-clause-ok g c =
    rw (← c.self.view_is)
    (rose _ c.args.batch.now _ _ _ _ _ _ _ _ c.in_ok-layers.ensures.same c.next-stamp.ensures c.in_ok-apply_all.ensures c.in_ok-changes.ensures.same c.in_ok-differs.ensures c.changes_view.ensures (sym c.either.ensures ∙ c.if-not-either.false) (omega (arith, c.saturating_add-revision.ensures, c.if-self.false)), refl)
