-- The virtual path of a text, or why it is none.
use Rattle.std.specs.Prelude.{◌≡◌, ℕ, List, Result, Ok, Err, ⊤}
use Rattle.ty_model.specs.Paths as plain
use Rattle.ty_syntax.specs.declared.vpath.PathFault.{PathFault}
use Rattle.ty_syntax.specs.declared.vpath.PathFault.TheVariants.{Escapes, BadByte, OutOfMemory}

-- the answer is this one, unless memory is wanting
abbrev pub IsVirtualPath : Result (List ℕ) plain.PathRefusal → Result (List ℕ) PathFault → Type 0
IsVirtualPath is (Ok vpath) = is ≡ Ok vpath
IsVirtualPath is (Err Escapes) = is ≡ Err plain.Escapes
IsVirtualPath is (Err BadByte) = is ≡ Err plain.BadByte
IsVirtualPath is (Err OutOfMemory) = ⊤
