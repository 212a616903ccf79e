-- The text holds the components so far, normalized.
use Rattle.std.proofs.Common.{◌≡◌, map, string_bytes}
use Rattle.ty_model.specs.Paths.{slashes, normalized}
use Rattle.ty_path.specs.Parts.{plain_component}
use Rattle.ty_path.proofs.cleaned.normalize_path.Given as goal

abbrev pub invariant-loop-component : goal.invariant-loop-component
invariant-loop-component l =
    (goal.iterator-loop-component).can_next l.component-iterator ×
    (goal.iterator-loop-component).is_finite l.component-iterator ×
    (string_bytes l.text ≡ slashes (normalized (map plain_component l.yielded)))
