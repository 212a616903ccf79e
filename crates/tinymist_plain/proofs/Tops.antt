-- How far the revisions of a state rise.
use Rattle.std.proofs.Common.{◌≡◌, ℕ, ◌+◌, ◌≤◌, zero, suc, max, List, [], ◌∷◌, ◌++◌, ap, arith, Some}
use Rattle.std.specs.Prelude.{slice_get, slice_set}
use Rattle.tinymist_plain.specs.Kept.{Listed, space_of, highest, top_revision}
use Rattle.tinymist_plain.specs.declared.space.Space.{Space}
use Rattle.tinymist_plain.specs.declared.state.State.{State}

revision_of : ℕ × List Listed → ℕ
revision_of (n, []) = 0
revision_of (n, v ∷ vs) = v.revision

highest_set : (views : List Space) (k : ℕ) (old new : Space) → slice_get views k ≡ Some old → new.latest.revision ≤ old.latest.revision + 1 → highest (slice_set views k new) ≤ highest views + 1
highest_set [] k old new e h = absurd (cc)
highest_set (v ∷ vs) zero old new e h =
    let same : v ≡ old = cc in
    omega (arith, h, ap (λ (x : Space). x.latest.revision) same)
highest_set (v ∷ vs) (suc k) old new e h = omega (arith, highest_set vs k old new e h)

highest_at : (views : List Space) (k : ℕ) (view : Space) → slice_get views k ≡ Some view → view.latest.revision ≤ highest views
highest_at [] k view e = absurd (cc)
highest_at (v ∷ vs) zero view e =
    let same : v ≡ view = cc in
    omega (arith, ap (λ (x : Space). x.latest.revision) same)
highest_at (v ∷ vs) (suc k) view e = omega (arith, highest_at vs k view e)

highest_push : (xs : List Space) (x : Space) → highest (xs ++ x ∷ []) ≡ max (highest xs) x.latest.revision
highest_push [] x = omega arith
highest_push (y ∷ ys) x = omega (arith, highest_push ys x)

pub live_top : (p q : State) → q.views.items ≡ p.views.items → q.live.latest.revision ≤ p.live.latest.revision + 1 → top_revision q ≤ top_revision p + 1
live_top p q same h = omega (arith, ap highest same, h)

pub view_top : (p q : State) (k : ℕ) (old new : Space) → slice_get p.views.items k ≡ Some old → new.latest.revision ≤ old.latest.revision + 1 → q.live ≡ p.live → q.views.items ≡ slice_set p.views.items k new → top_revision q ≤ top_revision p + 1
view_top p q k old new e h live views = omega (arith, highest_set p.views.items k old new e h, ap highest views, ap (λ (x : Space). x.latest.revision) live)

pub view_below : (p : State) (k : ℕ) (view : Space) → slice_get p.views.items k ≡ Some view → view.latest.revision ≤ top_revision p
view_below p k view e = omega (arith, highest_at p.views.items k view e)

-- a view with the live version
pub snapshot_top : (p q : State) (view : Space) (n : ℕ) → q.live ≡ p.live → q.views.items ≡ p.views.items ++ view ∷ [] → space_of view ≡ (n, (space_of p.live).1) → top_revision q ≤ top_revision p
unfolding revision_of
snapshot_top p q view n live e same = omega (arith, ap highest e, highest_push p.views.items view, ap revision_of same, ap (λ (x : Space). x.latest.revision) live)
