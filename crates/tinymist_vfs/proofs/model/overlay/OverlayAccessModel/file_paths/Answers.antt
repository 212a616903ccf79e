use Rattle.std.proofs.Common.{◌≡◌, List, [], ◌∷◌, map, refl, sym, ap, ◌∙◌}
use Rattle.std.specs.Borrow.{Bor}
use Rattle.std.specs.Map.Iter.{deref_pair}
use Rattle.std.proofs.lemmas.Map.Iter.{iter_end}
use Rattle.tinymist_vfs.proofs.model.overlay.OverlayAccessModel.file_paths.Goals as goal

keys_seen : {K X S : Type 0} (f : K → S) (ys : List (Bor K × Bor X)) → map (λ (e : K × X). f e.0) (map (λ (y : Bor K × Bor X). (y.0.now, y.1.now)) ys) ≡ map (λ (y : Bor K × Bor X). f y.0.now) ys
keys_seen f [] = refl
keys_seen f (y ∷ ys) = ap (λ keys. f y.0.now ∷ keys) (keys_seen f ys)

pub returns : goal.returns
returns g c =
    let all = iter_end deref_pair c.args.self.now.files.entries c.loop-key.yielded _ _ _ _ (c.into_iter-key-iterator.ensures.into_iter_gives ∙ c.iter-key-items.ensures.rest) c.loop-key.yielded_by c.in-None.is c.next.ensures.steps in
    c.loop-key.invariant ∙ sym (keys_seen g.K.Share.seen c.loop-key.yielded) ∙ ap (map (λ e. g.K.Share.seen e.0)) all.0
