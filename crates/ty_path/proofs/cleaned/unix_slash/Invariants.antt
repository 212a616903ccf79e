-- The text holds the components so far but each `.`.
use Rattle.std.proofs.Common.{◌≡◌, map, filter, not, string_bytes}
use Rattle.ty_model.specs.Paths.{slashes, is_dot}
use Rattle.ty_path.specs.Parts.{plain_component}
use Rattle.ty_path.proofs.cleaned.unix_slash.Given as goal

abbrev pub invariant-loop-component : goal.invariant-loop-component
invariant-loop-component l =
    (goal.iterator-loop-component).can_next l.component-iterator ×
    (goal.iterator-loop-component).is_finite l.component-iterator ×
    (string_bytes l.text ≡ slashes (filter (λ c. not (is_dot c)) (map plain_component l.yielded)))
