-- The components so far are in the list.
use Rattle.std.proofs.Common.{◌≡◌, map}
use Rattle.ty_path.specs.Parts.{plain_component}
use Rattle.ty_path.specs.Component.{component_seen}
use Rattle.ty_path.proofs.component.components.Given as goal

abbrev pub invariant-loop-component : goal.invariant-loop-component
invariant-loop-component l =
    (goal.iterator-loop-component).can_next l.component-iterator ×
    (goal.iterator-loop-component).is_finite l.component-iterator ×
    (map component_seen l.parts.items ≡ map plain_component l.yielded)
