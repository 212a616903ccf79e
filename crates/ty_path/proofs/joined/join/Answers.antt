use Rattle.std.proofs.Common.{◌≡◌, ◌++◌, sym, ap, ◌∙◌, string_bytes, lit<}
use Rattle.ty_path.proofs.JoinLaws.{with_slash, with_slash-yes, with_slash-no, join-both}
use Rattle.ty_path.proofs.joined.join.Goals as goal
use Rattle.ty_path.proofs.joined.join.Goals.{then-not-ends_in_slash+in_ok-push, else-not-ends_in_slash}

pub returns : goal.returns
returns c =
    let base = c.args.base.now in
    let copied = c.in_ok-push_str.ensures.bytes ∙ ap (λ xs. xs ++ base) c.in_ok-text.ensures.bytes in
    let slash : string_bytes c.if-not-ends_in_slash.text ≡ with_slash base =
    elim c.if-not-ends_in_slash.branch [
      | then-not-ends_in_slash+in_ok-push w ↦
          ap string_bytes w.text-is ∙ w.in_ok-push.ensures.bytes ∙ (λ i. copied i ++ w.in_ok-push.ensures.ascii (lit< tt) i)
          ∙ with_slash-no base (sym c.ends_in_slash.ensures ∙ w.if-not-ends_in_slash.true)
      | else-not-ends_in_slash w ↦
          ap string_bytes w.text-is ∙ copied ∙ with_slash-yes base (sym c.ends_in_slash.ensures ∙ w.if-not-ends_in_slash.false)
    ] in
    c.in_ok-push_str-2.ensures.bytes ∙ ap (λ xs. xs ++ c.args.other.now) slash
    ∙ join-both base c.args.other.now (sym c.is_absolute.ensures ∙ c.if-is_absolute.false) (sym c.is_empty.ensures ∙ c.if-is_empty.false) (sym c.is_empty-2.ensures ∙ c.if-is_empty-2.false)
