use Rattle.std.proofs.Common.{List, [], ◌∷◌, ◌++◌, sym, subst, ◌∙◌, map-id}
use Rattle.std.proofs.lemmas.Iterator.Adapters.{YieldsList-from_vec}
use Rattle.std.proofs.lemmas.Iterator.Consumers.{YieldsList-end}
use Rattle.std.specs.List.{AllZip}
use Rattle.tinymist_std.proofs.parts.each_unlocked.Goals as goal

all_zip_more : {A B : Type 0} (R : A → B → Type 0) (xs : List A) (ys : List B) (x : A) (y : B)
    → AllZip R xs ys → R x y → AllZip R (xs ++ x ∷ []) (ys ++ y ∷ [])
all_zip_more R [] [] x y h r = (r, tt)
all_zip_more R [] (b ∷ ys) x y h r = absurd h
all_zip_more R (a ∷ xs) [] x y h r = absurd h
all_zip_more R (a ∷ xs) (b ∷ ys) x y h r = (h.0, all_zip_more R xs ys x y h.1 r)

pub loop-part-preserved : goal.loop-part-preserved
loop-part-preserved g c =
    subst (λ maps. AllZip (λ part given. g.F.Fn.post c.args.unlock (part, tt) given) (c.loop-part.yielded ++ c.in-Some.part ∷ []) maps) (sym c.in_ok-push.ensures.items)
    (all_zip_more (λ part given. g.F.Fn.post c.args.unlock (part, tt) given) c.loop-part.yielded c.loop-part.unlocked.items c.in-Some.part c.unlock.result c.loop-part.invariant c.unlock.ensures)

pub returns : goal.returns
returns g c =
    let all = YieldsList-end (YieldsList-from_vec c.args.parts.items (cc) (cc)) c.loop-part.yielded c.loop-part.part-iterator c.loop-part.yielded_by c.next.result c.next.new.self c.in-None.is c.next.ensures.steps in
    subst (λ parts. AllZip (λ part given. g.F.Fn.post c.args.unlock (part, tt) given) parts c.loop-part.unlocked.items) (sym (map-id c.loop-part.yielded) ∙ all.0) c.loop-part.invariant
