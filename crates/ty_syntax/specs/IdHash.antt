-- What an id is hashed by: its root, its virtual path and its tag, in this order.
use Rattle.std.specs.Prelude.{◌≡◌, ◌++◌, IsTrue, pos}
use Rattle.std.specs.Hash as fed
use Rattle.std.proofs.Common.{ap}
use Rattle.ty_model.specs.Values as plain
use Rattle.ty_model.proofs.Tests.{same_id-Decides}
use Rattle.ty_model.specs.Version.{same_id}

-- what a specification feeds to a hash
abbrev pub fed_spec : plain.Spec → fed.HashWrites
fed_spec s = fed.str s.namespace ++ fed.str s.name ++ fed.u32 s.numbers.major ++ fed.u32 s.numbers.minor ++ fed.u32 s.numbers.patch

-- what a root feeds to a hash
abbrev pub fed_root : plain.Root → fed.HashWrites
fed_root plain.Project = fed.isize (pos 0)
fed_root (plain.Workspace root) = fed.isize (pos 1) ++ fed.str root
fed_root (plain.UntitledRooted root) = fed.isize (pos 2) ++ fed.str root
fed_root (plain.Package spec) = fed.isize (pos 3) ++ fed_spec spec

-- what an id feeds to a hash: its root, its virtual path and its tag
abbrev pub fed_id : plain.Id → fed.HashWrites
fed_id i = fed_root i.root ++ fed.str i.vpath ++ fed.u64 i.tag

-- equal ids are fed alike
pub fed_alike : (x y : plain.Id) → IsTrue (same_id x y) → fed_id x ≡ fed_id y
fed_alike x y same = ap fed_id ((same_id-Decides x y).0 same)
