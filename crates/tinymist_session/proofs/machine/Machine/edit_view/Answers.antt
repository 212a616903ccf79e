use Rattle.std.proofs.Common.{◌+◌, ◌-◌, ◌≤◌, ◌∙◌, ◌∷◌, [], ℕ, sym, ap, subst, arith}
use Rattle.std.specs.Prelude.{slice_set}
use Rattle.std.proofs.lemmas.Option.{slice_get_read}
use Rattle.ty_model.specs.Held.{Kept}
use Rattle.tinymist_vfs.specs.Commits.{committed}
use Rattle.tinymist_vfs.specs.declared.ids.resolver.MockRootResolver.{MockRootResolver}
use Rattle.tinymist_session.specs.Machine.{Stepped, edit_step}
use Rattle.session_grammar.specs.Command.{View}
use Rattle.session_grammar.specs.Reply.{AtRevision}
use Rattle.tinymist_vfs.specs.Items.{clean_item}
use Rattle.tinymist_session.specs.Shown.{IsShown, top_revision}
use Rattle.tinymist_session.proofs.Edits.{view_reply, view_shows, no_view, no_view_0, committed_rises, view_top, view_below}
use Rattle.tinymist_session.proofs.machine.Machine.edit_view.Goals as goal

pub edit_space-requires : goal.edit_space-requires
edit_space-requires c =
    let at = slice_get_read c.args.self.now.views.items c.len.result (c.args.view - 1) c.index_mut.result.now (omega (arith, c.len.ensures)) c.if-k-len.false c.index_mut.ensures.value in
    omega (arith, c.requires, view_below c.args.self.now.live c.args.self.now.views.items (c.args.view - 1) c.index_mut.result.now at)

pub returns-clause-reply : goal.returns-clause-reply
returns-clause-reply c = λ s is.
    let at = slice_get_read c.args.self.now.views.items c.len.result (c.args.view - 1) c.index_mut.result.now (omega (arith, c.len.ensures)) c.if-k-len.false c.index_mut.ensures.value in
    let done = c.in_ok-revision.ensures.ok in
    ap AtRevision (done.1 ∙ ap (λ (k : Kept MockRootResolver). k.held.revision) done.0)
    ∙ view_reply c.args.self.now.live c.args.self.now.views.items c.args.self.now.tags s is (clean_item c.args.item) c.args.view c.if-view-eq0.false c.index_mut.result.now at

pub returns-clause-state : goal.returns-clause-state
returns-clause-state c = λ s is.
    let at = slice_get_read c.args.self.now.views.items c.len.result (c.args.view - 1) c.index_mut.result.now (omega (arith, c.len.ensures)) c.if-k-len.false c.index_mut.ensures.value in
    subst (λ (k : Kept MockRootResolver). IsShown c.args.self.now.live (slice_set c.args.self.now.views.items (c.args.view - 1) k) c.args.self.now.tags (edit_step s (View c.args.view) (clean_item c.args.item)).state) (sym c.in_ok-revision.ensures.ok.0)
    (view_shows c.args.self.now.live c.args.self.now.views.items c.args.self.now.tags s is (clean_item c.args.item) c.args.view c.if-view-eq0.false c.index_mut.result.now at)

pub returns-clause-revision : goal.returns-clause-revision
returns-clause-revision c =
    let at = slice_get_read c.args.self.now.views.items c.len.result (c.args.view - 1) c.index_mut.result.now (omega (arith, c.len.ensures)) c.if-k-len.false c.index_mut.ensures.value in
    subst (λ (k : Kept MockRootResolver). top_revision c.args.self.now.live (slice_set c.args.self.now.views.items (c.args.view - 1) k) ≤ top_revision c.args.self.now.live c.args.self.now.views.items + 1) (sym c.in_ok-revision.ensures.ok.0)
    (view_top c.args.self.now.live c.args.self.now.views.items (c.args.view - 1) c.index_mut.result.now _ at (committed_rises c.index_mut.result.now (clean_item c.args.item ∷ [])))

pub returns-then-view-eq0-clause-reply : goal.returns-then-view-eq0-clause-reply
returns-then-view-eq0-clause-reply c = λ s is.
    ap (λ (x : Stepped). x.reply) (sym (no_view_0 c.args.self.now.live c.args.self.now.views.items c.args.self.now.tags s is (clean_item c.args.item) c.args.view c.if-view-eq0.true))

pub returns-then-view-eq0-clause-state : goal.returns-then-view-eq0-clause-state
returns-then-view-eq0-clause-state c = λ s is.
    subst (λ (x : Stepped). IsShown c.args.self.now.live c.args.self.now.views.items c.args.self.now.tags x.state) (sym (no_view_0 c.args.self.now.live c.args.self.now.views.items c.args.self.now.tags s is (clean_item c.args.item) c.args.view c.if-view-eq0.true)) is

pub returns-then-k-len-clause-reply : goal.returns-then-k-len-clause-reply
returns-then-k-len-clause-reply c = λ s is.
    ap (λ (x : Stepped). x.reply) (sym (no_view c.args.self.now.live c.args.self.now.views.items c.args.self.now.tags s is (clean_item c.args.item) c.args.view c.if-view-eq0.false (omega (arith, c.len.ensures, c.if-k-len.true))))

pub returns-then-k-len-clause-state : goal.returns-then-k-len-clause-state
returns-then-k-len-clause-state c = λ s is.
    subst (λ (x : Stepped). IsShown c.args.self.now.live c.args.self.now.views.items c.args.self.now.tags x.state) (sym (no_view c.args.self.now.live c.args.self.now.views.items c.args.self.now.tags s is (clean_item c.args.item) c.args.view c.if-view-eq0.false (omega (arith, c.len.ensures, c.if-k-len.true)))) is
