-- What can be wrong with a file or a package, as plain data.
use Rattle.std.specs.Prelude.{ℕ, List, Option}
use Rattle.std.specs.Option.{option_map}
use Rattle.std.specs.String.{string_bytes}
use Rattle.std.specs.declared.string.String.{String}
use Rattle.std.specs.declared.alloc.Global.{Global}
use Rattle.ty_model.specs.Values as plain
use Rattle.ty_syntax.specs.declared.error.PackageError.{PackageError}
use Rattle.ty_syntax.specs.declared.error.PackageError.TheVariants as of_package
use Rattle.ty_syntax.specs.declared.error.FileError.{FileError}
use Rattle.ty_syntax.specs.declared.error.FileError.TheVariants as file
use Rattle.ty_syntax.specs.Spec.{numbers_of, spec_of}

-- the bytes of a text that may be missing
abbrev pub text_of : Option (String Global) → Option (List ℕ)
text_of text = option_map string_bytes text

-- what is wrong with a package, as plain data
abbrev pub package_refusal_of : PackageError → plain.PackageRefusal
package_refusal_of (of_package.NotFound spec) = plain.NoPackage (spec_of spec)
package_refusal_of (of_package.VersionNotFound spec latest) = plain.NoVersion (spec_of spec) (numbers_of latest)
package_refusal_of (of_package.NetworkFailed text) = plain.NetworkFailed (text_of text)
package_refusal_of (of_package.MalformedArchive text) = plain.MalformedArchive (text_of text)
package_refusal_of (of_package.Other text) = plain.OtherPackage (text_of text)

-- what is wrong with a file, as plain data
abbrev pub refusal_of : FileError → plain.Refusal
refusal_of (file.NotFound path) = plain.NotFound (string_bytes path)
refusal_of file.AccessDenied = plain.AccessDenied
refusal_of file.IsDirectory = plain.IsDirectory
refusal_of file.NotSource = plain.NotSource
refusal_of file.InvalidUtf8 = plain.InvalidUtf8
refusal_of (file.Package refusal) = plain.OfPackage (package_refusal_of refusal)
refusal_of (file.Other text) = plain.Other (text_of text)
