-- A path's components as the library's iterator gives them, and as they stand in a text that is being made.
use Rattle.std.specs.Prelude.{◌≡◌, ℕ, Bool, true, false, List, [], ◌∷◌, map, reverse, Some, if◌then◌else◌}
use Rattle.std.specs.Str.{bytes_eq}
use Rattle.std.specs.Path.{components_remaining}
use Rattle.std.specs.declared.path.components.Components.{Components}
use Rattle.std.specs.declared.path.components.Component as item
use Rattle.std.specs.declared.path.components.Component.TheVariants as item_of
use Rattle.ty_model.specs.Paths.{Component, RootDir, CurDir, ParentDir, Normal, component_of, components, slashes, AreKept, clean, parent, file_name}

-- the component that an item of the iterator is
abbrev pub plain_component : item.Component → Component
plain_component item_of.RootDir = RootDir
plain_component item_of.CurDir = CurDir
plain_component item_of.ParentDir = ParentDir
plain_component (item_of.Normal name) = Normal name.now

-- the component whose text this is
abbrev pub component_named : List ℕ → Component
component_named text = if bytes_eq text (47 ∷ []) then RootDir else component_of text

-- the components that are still to come
abbrev pub components_left : Components → List Component
components_left rest = map component_named (components_remaining rest)

-- a name comes first of these components
abbrev pub name_first : List Component → Bool
name_first (Normal name ∷ kept) = true
name_first kept = false

-- the components without a name at their front
abbrev pub without_name : List Component → List Component
without_name (Normal name ∷ kept) = kept
without_name kept = kept

-- the components of a clean path, each with a slash behind it
pub record IsOpen (text : List ℕ) : Type 0 where
  pub written : text ≡ slashes (components text)
  pub kept : AreKept (reverse (components text))

-- a path as its folder, which is clean, and its last name
abbrev pub IsCut : List ℕ → List ℕ → List ℕ → Type 0
IsCut path folder name = (parent path ≡ Some folder) × (file_name path ≡ Some name) × (clean folder ≡ folder)
