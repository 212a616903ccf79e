use Rattle.std.proofs.Common.{◌≡◌, List, [], ◌∷◌, length, refl, sym, subst, arith}
use Rattle.std.specs.Borrow.{Bor}
use denote.Param.Always.{mut_next}
use Rattle.tinymist_vfs.specs.Maps.{Path}
use Rattle.tinymist_vfs.specs.Deps.{CallsAt}
use Rattle.tinymist_vfs.proofs.watch.deps.VecImmutPathNotifyDeps.dependencies.Goals as goal

-- at no path there is no call
no_calls : {G : Type 0} (step : G → Bor Path → Unit {0} → G → Type 0) (paths : List Path) (f : G) → length paths ≡ 0 → CallsAt step paths f f
no_calls step [] f none = refl
no_calls step (p ∷ ps) f none = absurd (omega arith)

-- one call, and then those at the other paths
one_call : {G : Type 0} (step : G → Bor Path → Unit {0} → G → Type 0) (paths more : List Path) (lent : Bor Path) (f g h : G) → paths ≡ lent.now ∷ more → step f lent tt g → CallsAt step more g h → CallsAt step paths f h
one_call step paths more lent f g h is call calls = subst (λ ps. CallsAt step ps f h) (sym is) (g, (lent, refl, call), calls)

pub loop-path-preserved : goal.loop-path-preserved
loop-path-preserved g c = (
  mut_next g.G.FnMut c.loop-path.f (c.in-Some.path, tt) tt c.f.new.self c.f.new.self c.f.ensures refl c.loop-path.invariant.0,
  λ last calls. c.loop-path.invariant.1 last (one_call (goal.G-step g) c.loop-path.rest.now c.in-Some.more.now c.in-Some.path c.loop-path.f c.f.new.self last c.in-Some.ensures.cases.0 c.f.ensures calls),
)

pub returns : goal.returns
returns g c =
    subst (λ paths. CallsAt (goal.G-step g) paths c.args.f.now c.loop-path.f) c.as_slice-rest.ensures.value
    (c.loop-path.invariant.1 c.loop-path.f (no_calls (goal.G-step g) c.loop-path.rest.now c.loop-path.f c.in_default.ensures.cases))
