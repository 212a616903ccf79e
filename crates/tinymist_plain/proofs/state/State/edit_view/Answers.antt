use Rattle.std.proofs.Common.{◌-◌, ◌∙◌, refl, sym, ap, subst, arith}
use Rattle.std.proofs.lemmas.Option.{slice_get_read}
use Rattle.std.proofs.lemmas.List.{get_or-set_same}
use Rattle.std.specs.Vec.{with_item}
use Rattle.session_grammar.specs.Reply.{AtRevision}
use Rattle.tinymist_session.specs.Machine.{Stepped}
use Rattle.tinymist_plain.specs.Kept.{IsKept}
use Rattle.tinymist_vfs.specs.Items.{clean_item}
use Rattle.tinymist_plain.specs.declared.space.Space.{Space}
use Rattle.tinymist_plain.specs.declared.state.State.{State}
use Rattle.tinymist_plain.proofs.Edited.{view_reply, view_keeps, no_space_0}
use Rattle.tinymist_plain.proofs.Tops.{view_top, view_below}
use Rattle.tinymist_plain.proofs.state.State.edit_view.Goals as goal

pub edit-requires : goal.edit-requires
edit-requires c =
    let at = slice_get_read c.args.self.now.views.items c.len.result (c.args.view - 1) c.index_mut.result.now (omega (arith, c.len.ensures)) c.if-k-len.false c.index_mut.ensures.value in
    omega (arith, c.requires, view_below c.args.self.now (c.args.view - 1) c.index_mut.result.now at)

pub returns-in_err-edit-clause-revision : goal.returns-in_err-edit-clause-revision
returns-in_err-edit-clause-revision c =
    let at = slice_get_read c.args.self.now.views.items c.len.result (c.args.view - 1) c.index_mut.result.now (omega (arith, c.len.ensures)) c.if-k-len.false c.index_mut.ensures.value in
    let after : State = record { live = c.args.self.now.live; views = with_item c.args.self.now.views (c.args.view - 1) c.edit.new.self; next_space = c.args.self.now.next_space; next_tag = c.args.self.now.next_tag; tagged = c.args.self.now.tagged } in
    view_top c.args.self.now after (c.args.view - 1) c.index_mut.result.now c.edit.new.self at c.edit.ensures.revision refl refl

pub returns-clause-reply : goal.returns-clause-reply
returns-clause-reply c = λ s is.
    let at = slice_get_read c.args.self.now.views.items c.len.result (c.args.view - 1) c.index_mut.result.now (omega (arith, c.len.ensures)) c.if-k-len.false c.index_mut.ensures.value in
    ap (λ (x : Space). AtRevision x.latest.revision) (c.index.ensures ∙ get_or-set_same c.args.self.now.views.items (c.args.view - 1) c.edit.new.self _ (omega (arith, c.len.ensures, c.if-k-len.false, c.args.self.now.views.ok.0)))
    ∙ view_reply c.args.self.now s (clean_item c.args.item.now) is c.args.view c.if-view-eq0.false c.index_mut.result.now c.edit.new.self at c.in_ok-edit.ensures.space

pub returns-clause-state : goal.returns-clause-state
returns-clause-state c = λ s is.
    let at = slice_get_read c.args.self.now.views.items c.len.result (c.args.view - 1) c.index_mut.result.now (omega (arith, c.len.ensures)) c.if-k-len.false c.index_mut.ensures.value in
    let after : State = record { live = c.args.self.now.live; views = with_item c.args.self.now.views (c.args.view - 1) c.edit.new.self; next_space = c.args.self.now.next_space; next_tag = c.args.self.now.next_tag; tagged = c.args.self.now.tagged } in
    view_keeps c.args.self.now s (clean_item c.args.item.now) is c.args.view c.if-view-eq0.false c.index_mut.result.now c.edit.new.self at c.in_ok-edit.ensures.space after refl refl refl refl refl

pub returns-clause-revision : goal.returns-clause-revision
returns-clause-revision c =
    let at = slice_get_read c.args.self.now.views.items c.len.result (c.args.view - 1) c.index_mut.result.now (omega (arith, c.len.ensures)) c.if-k-len.false c.index_mut.ensures.value in
    let after : State = record { live = c.args.self.now.live; views = with_item c.args.self.now.views (c.args.view - 1) c.edit.new.self; next_space = c.args.self.now.next_space; next_tag = c.args.self.now.next_tag; tagged = c.args.self.now.tagged } in
    view_top c.args.self.now after (c.args.view - 1) c.index_mut.result.now c.edit.new.self at c.edit.ensures.revision refl refl

pub returns-then-view-eq0-clause-reply : goal.returns-then-view-eq0-clause-reply
returns-then-view-eq0-clause-reply c = λ s is. ap (λ (x : Stepped). x.reply) (sym (no_space_0 c.args.self.now s (clean_item c.args.item.now) is c.args.view c.if-view-eq0.true))

pub returns-then-view-eq0-clause-state : goal.returns-then-view-eq0-clause-state
returns-then-view-eq0-clause-state c = λ s is. subst (λ (x : Stepped). IsKept c.args.self.now x.state) (sym (no_space_0 c.args.self.now s (clean_item c.args.item.now) is c.args.view c.if-view-eq0.true)) is
