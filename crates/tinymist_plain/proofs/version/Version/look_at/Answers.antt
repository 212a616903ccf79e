use Rattle.std.proofs.Common.{subst, Option}
use Rattle.ty_model.specs.Disk.{Told}
use Rattle.ty_cells.specs.Disk.{AnswersAsTold}
use Rattle.tinymist_plain.proofs.Looks.{asked_left}
use Rattle.tinymist_plain.proofs.version.Version.look_at.Goals as goal

pub returns-in-None-clause-left : goal.returns-in-None-clause-left
returns-in-None-clause-left g c = λ told is fixed.
    let asked = subst (λ (before : Option Told). AnswersAsTold before c.args.path.now c.content.result (g.M.PathAccessModel.told c.content.new.self)) is c.content.ensures in
    asked_left told c.args.path.now c.content.result _ fixed asked
