-- The library strips the same front.
use Rattle.std.proofs.Common.{Some, refl, sym, ap, ◌∙◌, subst, true≢false}
use Rattle.std.specs.Path.{path_bytes, StripsPrefix, PathStartsWith}
use Rattle.ty_model.specs.Paths.{text_of, ArePath}
use Rattle.ty_model.proofs.PathLaws.{components-path}
use Rattle.ty_path.proofs.PartLaws.{at_start}
use Rattle.ty_path.proofs.RelativeLaws.{strip_prefix-some, strip_prefix-none}
use Rattle.ty_path.proofs.relative.strip_prefix.Goals as goal

pub text_of-requires : goal.text_of-requires
text_of-requires c =
    subst ArePath (sym (at_start c.components.result (path_bytes c.in-Ok.rest) (path_bytes c.in-Ok.rest) c.components.ensures refl)) (components-path (path_bytes c.in-Ok.rest))

pub returns-in_ok-text_of-in-Ok : goal.returns-in_ok-text_of-in-Ok
returns-in_ok-text_of-in-Ok c =
    let rest = path_bytes c.in-Ok.rest in
    let strips = subst (λ p. StripsPrefix p c.args.base.now rest) c.new.ensures c.in-Ok.ensures.rest in
    ap Some (c.in_ok-text_of-in-Ok.ensures ∙ ap text_of (at_start c.components.result rest rest c.components.ensures refl))
    ∙ sym (strip_prefix-some c.args.path.now c.args.base.now rest strips)

pub returns-in-Err : goal.returns-in-Err
returns-in-Err c =
    sym (strip_prefix-none c.args.path.now c.args.base.now
    (λ starts. true≢false (sym (c.in-Err.ensures.succeeds.1 (subst (λ p. PathStartsWith p c.args.base.now) (sym c.new.ensures) starts)))))
