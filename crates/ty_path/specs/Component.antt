-- What there is to see of a component.
use Rattle.std.specs.String.{string_bytes}
use Rattle.ty_path.specs.declared.component.Component as own
use Rattle.ty_path.specs.declared.component.Component.TheVariants as own_of
use Rattle.ty_model.specs.Paths.{Component, RootDir, CurDir, ParentDir, Normal}

-- a component as the definition has it
abbrev pub component_seen : own.Component → Component
component_seen own_of.RootDir = RootDir
component_seen own_of.CurDir = CurDir
component_seen own_of.ParentDir = ParentDir
component_seen (own_of.Normal name) = Normal (string_bytes name)
