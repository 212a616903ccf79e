-- No `..` was among the components so far, and the text has one for each of them.
use Rattle.std.proofs.Common.{◌≡◌, ◌++◌, map, string_bytes}
use Rattle.std.specs.List.{list_any}
use Rattle.ty_model.specs.Paths.{ParentDir, slashes, components, is_up}
use Rattle.ty_path.specs.Parts.{plain_component, components_left}
use Rattle.ty_path.proofs.relative.push_ups.Given as goal

abbrev pub invariant-loop-component : goal.invariant-loop-component
invariant-loop-component l =
    (goal.iterator-loop-component).can_next l.component-iterator ×
    (goal.iterator-loop-component).is_finite l.component-iterator ×
    (list_any is_up (components_left l.component-iterator) ≡ list_any is_up (components l.up)) ×
    (string_bytes l.text ≡ string_bytes l.initial.text ++ slashes (map (λ c. ParentDir) (map plain_component l.yielded)))
