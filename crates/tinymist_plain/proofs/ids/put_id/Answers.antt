use Rattle.std.proofs.Common.{subst, refl, List, Ok}
use Rattle.tinymist_plain.specs.Lists.{IsIdPlace}
use Rattle.tinymist_plain.specs.declared.ids.IdEntry.{IdEntry}
use Rattle.tinymist_plain.proofs.IdLists.{set_puts}
use Rattle.tinymist_plain.proofs.ids.put_id.Goals as goal

pub returns-in-Ok : goal.returns-in-Ok
returns-in-Ok c =
    set_puts c.args.entries.now.items c.in-Ok.i (record { id = c.args.id; answer = c.args.answer }) c.args.id c.args.answer refl
    (subst (λ (es : List IdEntry). IsIdPlace c.args.id es (Ok c.in-Ok.i)) c.deref.ensures.value c.in-Ok.ensures)
