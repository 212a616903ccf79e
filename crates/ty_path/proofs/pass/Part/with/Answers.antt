-- Another byte than . makes a name, and one more . makes what it makes.
use Rattle.std.proofs.Common.{◌++◌, ◌∷◌, [], ap, ◌∙◌, ne_eqb}
use Rattle.ty_path.specs.Clean.{part_of}
use Rattle.ty_path.proofs.CleanLaws.{with_other, with_dot, dotted}
use Rattle.ty_path.proofs.pass.Part.with.Goals as goal

pub returns-then-byte-ne46 : goal.returns-then-byte-ne46
returns-then-byte-ne46 c = λ read _. with_other read c.args.byte (ne_eqb c.args.byte 46 c.if-byte-ne46.true)

pub returns-in-Name : goal.returns-in-Name
returns-in-Name c = λ read e. ap (λ b. part_of (read ++ b ∷ [])) c.if-byte-ne46.false ∙ with_dot read ∙ ap dotted (e ∙ c.in-Name.is)
