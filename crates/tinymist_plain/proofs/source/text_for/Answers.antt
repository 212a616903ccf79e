use Rattle.std.proofs.Common.{◌≡◌, sym, ap, subst, ◌∙◌, cond, false, []}
use Rattle.ty_model.specs.Values.{Answer, Content}
use Rattle.ty_model.specs.Version.{same_id}
use Rattle.ty_model.specs.Places.{detached_entry}
use Rattle.ty_model.specs.LookUp.{look}
use Rattle.tinymist_vfs.specs.Reading.{source_of}
use Rattle.tinymist_session.specs.Shown.{GivesText}
use Rattle.tinymist_plain.proofs.Looks.{looks}
use Rattle.tinymist_plain.proofs.source.text_for.Goals as goal

pub returns-clause-answer : goal.returns-clause-answer
returns-clause-answer g c = λ told v is kept.
    let other : same_id c.args.id.now detached_entry ≡ false = ap (same_id c.args.id.now) (sym c.in_ok-detached_entry.ensures) ∙ sym c.if-eq.ensures in
    let says = c.in_ok-answer.ensures.answer told is ∙ looks c.args.version.now v told c.args.id.now kept in
    subst (λ (a : Answer). GivesText a c.text_in.result)
    (ap source_of says ∙ sym (ap (λ b. cond b (Content []) (source_of (look v told c.args.id.now))) other)) c.text_in.ensures
