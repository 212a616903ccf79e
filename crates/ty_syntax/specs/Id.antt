-- Roots and ids as plain data.
use Rattle.std.specs.Prelude.{ℕ, List}
use Rattle.std.specs.String.{string_bytes}
use Rattle.ty_model.specs.Values as plain
use Rattle.ty_syntax.specs.declared.id.Root.{Root}
use Rattle.ty_syntax.specs.declared.id.Root.TheVariants as root
use Rattle.ty_model.specs.Places.{interned}
use Rattle.ty_syntax.specs.Spec.{spec_of}

-- a root as plain data
abbrev pub root_of : Root → plain.Root
root_of root.Project = plain.Project
root_of (root.Workspace path) = plain.Workspace (string_bytes path)
root_of (root.UntitledRooted path) = plain.UntitledRooted (string_bytes path)
root_of (root.Package spec) = plain.Package (spec_of spec)

-- the id of a root and a virtual path with this tag
abbrev pub tagged : plain.Root → List ℕ → ℕ → plain.Id
tagged root vpath tag = record (interned root vpath) { tag = tag }
