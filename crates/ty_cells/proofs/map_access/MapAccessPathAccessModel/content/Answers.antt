use Rattle.std.proofs.Common.{Some, subst}
use Rattle.ty_model.specs.Disk.{Told}
use Rattle.ty_cells.specs.Disk.{AnswersAsTold}
use Rattle.ty_cells.specs.MapAccess.{told_by}
use Rattle.ty_cells.proofs.Files.{answers_fixed, map_is_fixed}
use Rattle.ty_cells.proofs.map_access.MapAccessPathAccessModel.content.Goals as goal

pub returns : goal.returns
returns c =
    let files = c.self.inside.files.items in
    subst (λ (told : Told). AnswersAsTold (Some told) c.args.path.now c.find.result (Some told)) c.self.view_is
    (answers_fixed (told_by files) c.args.path.now c.find.result (map_is_fixed files) (rw c.deref.ensures.value at c.find.ensures))
