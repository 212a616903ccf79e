-- The text holds what is kept of the components so far.
use Rattle.std.proofs.Common.{◌≡◌, map, string_bytes}
use Rattle.ty_model.specs.Paths.{slashes, cleaned}
use Rattle.ty_path.specs.Parts.{plain_component}
use Rattle.ty_path.proofs.cleaned.clean_anew.Given as goal

abbrev pub invariant-loop-component : goal.invariant-loop-component
invariant-loop-component l =
    (goal.iterator-loop-component).can_next l.component-iterator ×
    (goal.iterator-loop-component).is_finite l.component-iterator ×
    (string_bytes l.text ≡ slashes (cleaned (map plain_component l.yielded)))
