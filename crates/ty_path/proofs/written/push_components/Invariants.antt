-- The components so far stand behind what the text was.
use Rattle.std.proofs.Common.{◌≡◌, ◌++◌, map, string_bytes}
use Rattle.ty_model.specs.Paths.{slashes}
use Rattle.ty_path.specs.Parts.{plain_component}
use Rattle.ty_path.proofs.written.push_components.Given as goal

abbrev pub invariant-loop-component : goal.invariant-loop-component
invariant-loop-component l =
    (goal.iterator-loop-component).can_next l.component-iterator ×
    (goal.iterator-loop-component).is_finite l.component-iterator ×
    (string_bytes l.text ≡ string_bytes l.initial.text ++ slashes (map plain_component l.yielded))
