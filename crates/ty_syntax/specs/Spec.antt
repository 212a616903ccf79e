-- Package specifications as plain data.
use Rattle.std.specs.Prelude.{ℕ, List, ◌++◌, codes}
use Rattle.std.specs.Fmt.{decimal}
use Rattle.std.specs.String.{string_bytes}
use Rattle.ty_model.specs.Values as plain
use Rattle.ty_syntax.specs.declared.spec.PackageVersion.{PackageVersion}
use Rattle.ty_syntax.specs.declared.spec.PackageSpec.{PackageSpec}
use Rattle.ty_syntax.specs.declared.spec.VersionlessPackageSpec.{VersionlessPackageSpec}

-- the version of a package, as plain data
abbrev pub numbers_of : PackageVersion → plain.Numbers
numbers_of v = record { major = v.major; minor = v.minor; patch = v.patch }

-- a package specification as plain data
abbrev pub spec_of : PackageSpec → plain.Spec
spec_of s = record { namespace = string_bytes s.namespace; name = string_bytes s.name; numbers = numbers_of s.version }

-- a version as text: major.minor.patch
abbrev pub numbers_text : plain.Numbers → List ℕ
numbers_text n = decimal n.major ++ codes "." ++ decimal n.minor ++ codes "." ++ decimal n.patch

-- a specification as text: @namespace/name:major.minor.patch
abbrev pub spec_text : plain.Spec → List ℕ
spec_text s = codes "@" ++ s.namespace ++ codes "/" ++ s.name ++ codes ":" ++ numbers_text s.numbers

-- a specification without a version, as its namespace and its name
abbrev pub names_of : VersionlessPackageSpec → List ℕ × List ℕ
names_of s = (string_bytes s.namespace, string_bytes s.name)
