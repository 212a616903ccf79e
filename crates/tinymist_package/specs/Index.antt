-- The entries of a package index as plain data.
use Rattle.std.specs.Prelude.{ℕ, List}
use Rattle.std.specs.String.{string_bytes}
use Rattle.ty_model.specs.Values as plain
use Rattle.ty_syntax.specs.Spec.{numbers_of}
use Rattle.tinymist_package.specs.declared.index.PackageIndexEntry.{PackageIndexEntry}

-- the specification of a listed package
abbrev pub spec_of_entry : PackageIndexEntry → plain.Spec
spec_of_entry e = record { namespace = string_bytes e.namespace; name = string_bytes e.name; numbers = numbers_of e.version }

-- its namespace and its name
abbrev pub names_of_entry : PackageIndexEntry → List ℕ × List ℕ
names_of_entry e = (string_bytes e.namespace, string_bytes e.name)
