use Rattle.std.proofs.Common.{sym, refl, ◌∙◌}
use Rattle.tinymist_vfs.proofs.Commit.{shadow_stays, shadow_raises, shadow_rose}
use Rattle.tinymist_vfs.proofs.vfs.Vfs.commit_shadow.Goals as goal

pub returns-then-has_shadow-clause-ok : goal.returns-then-has_shadow-clause-ok
returns-then-has_shadow-clause-ok g c =
    rw (← c.self.view_is)
    (shadow_stays (record { held = record { space = c.self.inside.space; revision = c.self.inside.revision; layers = c.self.inside.layers; reset = c.self.inside.reset; changes = c.self.inside.changes }; resolver = c.self.inside.resolver }) c.args.path.now c.args.shadow.now (sym c.if-has_shadow.true ∙ c.has_shadow.ensures), refl)

pub returns-then-revision-clause-full : goal.returns-then-revision-clause-full
returns-then-revision-clause-full g c = λ _.
    rw (← c.self.view_is)
    (shadow_raises (record { held = record { space = c.self.inside.space; revision = c.self.inside.revision; layers = c.self.inside.layers; reset = c.self.inside.reset; changes = c.self.inside.changes }; resolver = c.self.inside.resolver }) c.args.path.now c.args.shadow.now (sym c.if-has_shadow.false ∙ c.has_shadow.ensures), c.if-revision.true)

pub returns-clause-ok : goal.returns-clause-ok
returns-clause-ok g c =
    rw (← c.self.view_is)
    (shadow_rose (record { held = record { space = c.self.inside.space; revision = c.self.inside.revision; layers = c.self.inside.layers; reset = c.self.inside.reset; changes = c.self.inside.changes }; resolver = c.self.inside.resolver }) c.args.path.now c.args.shadow.now (sym c.if-has_shadow.false ∙ c.has_shadow.ensures) _ _ _ c.in_ok-map_path.ensures.layers c.in_ok-map_path.ensures.marks refl, refl)
