use Rattle.std.proofs.Common.{rules}
use Rattle.ty_syntax.specs.Spec.{spec_of}
use Rattle.uses.proofs.Listed.{named, unnamed}
use Rattle.uses.proofs.packages.OnePackageRootResolver.resolve_package_root.Goals as goal

pub returns-then-eq : goal.returns-then-eq
returns-then-eq c = named c.args.self.now.0 (spec_of c.args.spec.now) c.args.self.now.1 _ (search rules) (search rules)

pub returns : goal.returns
returns c = unnamed c.args.self.now.0 (spec_of c.args.spec.now) c.args.self.now.1 _ (search rules) (search rules)
