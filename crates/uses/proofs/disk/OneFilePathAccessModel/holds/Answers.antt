use Rattle.std.proofs.Common.{◌≡◌, [], ◌∷◌, sym, subst}
use Rattle.std.specs.Prelude.{◌↔◌, IsTrue}
use Rattle.std.specs.String.{string_bytes}
use Rattle.ty_model.specs.Disk.{Told}
use Rattle.ty_cells.specs.Disk.{answers_at}
use Rattle.uses.proofs.OneFiles.{holds_here}
use Rattle.uses.proofs.disk.OneFilePathAccessModel.holds.Goals as goal

pub returns-then-eq : goal.returns-then-eq
returns-then-eq c =
    subst (λ (told : Told). IsTrue c.same_as.result ↔ (answers_at told c.args.path.now ≡ c.args.answer.now ∷ [])) c.self.view_is
    (holds_here (string_bytes c.self.inside.path) c.args.path.now c.self.inside.file c.args.answer.now c.same_as.result (rw c.as_str.ensures.value at (sym c.if-eq.ensures)) c.same_as.ensures)
