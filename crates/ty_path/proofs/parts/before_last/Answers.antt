-- The text is cut at its last slash, or has none.
use Rattle.std.proofs.Common.{sym, ◌∙◌, lit<}
use Rattle.std.proofs.lemmas.Str.Pattern.{NoCharPasses-char}
use Rattle.ty_path.proofs.ParentLaws.{cut, free_behind, free_from, no_slash, slash_behind_front, slash_first_name}
use Rattle.ty_path.proofs.parts.before_last.Goals as goal

pub returns-in_default-clause-value : goal.returns-in_default-clause-value
returns-in_default-clause-value c =
    let path = c.args.path.now in
    sym (no_slash path c.requires (free_from path (λ i l. NoCharPasses-char 47 path i c.in_default.ensures.cases (lit< tt) l))).0

pub returns-then-not-is_empty-clause-value : goal.returns-then-not-is_empty-clause-value
returns-then-not-is_empty-clause-value c =
    sym (slash_behind_front c.args.path.now c.in-Some.front.now c.in-Some.name.now (cut c.args.path.now c.in-Some.front.now c.in-Some.name.now c.in-Some.ensures.cases) c.requires (free_behind c.args.path.now c.in-Some.front.now c.in-Some.name.now c.in-Some.ensures.cases) (sym c.is_empty.ensures ∙ c.if-not-is_empty.true)).0

pub returns-then-not-is_empty-clause-cleaned : goal.returns-then-not-is_empty-clause-cleaned
returns-then-not-is_empty-clause-cleaned c =
    (slash_behind_front c.args.path.now c.in-Some.front.now c.in-Some.name.now (cut c.args.path.now c.in-Some.front.now c.in-Some.name.now c.in-Some.ensures.cases) c.requires (free_behind c.args.path.now c.in-Some.front.now c.in-Some.name.now c.in-Some.ensures.cases) (sym c.is_empty.ensures ∙ c.if-not-is_empty.true)).1

pub returns-then-not-is_empty-2-clause-value : goal.returns-then-not-is_empty-2-clause-value
returns-then-not-is_empty-2-clause-value c =
    sym (slash_first_name c.args.path.now c.in-Some.front.now c.in-Some.name.now (cut c.args.path.now c.in-Some.front.now c.in-Some.name.now c.in-Some.ensures.cases) c.requires (free_behind c.args.path.now c.in-Some.front.now c.in-Some.name.now c.in-Some.ensures.cases) (sym c.is_empty.ensures ∙ c.if-not-is_empty.false) (sym c.is_empty-else-not-is_empty.ensures ∙ c.if-not-is_empty-2.true)).0
