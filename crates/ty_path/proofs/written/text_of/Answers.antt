use Rattle.std.proofs.Common.{◌++◌, ap, ◌∙◌}
use Rattle.ty_model.specs.Paths.{slashes}
use Rattle.ty_path.specs.Parts.{components_left}
use Rattle.ty_path.proofs.written.text_of.Goals as goal

pub returns : goal.returns
returns c =
    let rest = components_left c.args.components in
    c.close.ensures rest c.requires (c.in_ok-push_components.ensures ∙ ap (λ t. t ++ slashes rest) c.in_ok-text.ensures.bytes)
