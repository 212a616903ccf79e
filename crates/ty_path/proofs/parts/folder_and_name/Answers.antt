-- The path is cut at its last slash.
use Rattle.std.proofs.Common.{sym, ◌∙◌, lit<}
use Rattle.std.proofs.lemmas.Str.Pattern.{NoCharPasses-char}
use Rattle.ty_path.proofs.ParentLaws.{cut, free_behind, free_from, some_slash, cut_behind, cut_first}
use Rattle.ty_path.proofs.parts.folder_and_name.Goals as goal

pub returns-in_default-clause-none : goal.returns-in_default-clause-none
returns-in_default-clause-none c =
    let path = c.args.path.now in
    absurd (some_slash path c.requires.absolute (free_from path (λ i l. NoCharPasses-char 47 path i c.in_default.ensures.cases (lit< tt) l)))

pub returns-then-not-is_empty-clause-some : goal.returns-then-not-is_empty-clause-some
returns-then-not-is_empty-clause-some c =
    let path = c.args.path.now in
    let front = c.in-Some.front.now in
    let name = c.in-Some.name.now in
    let cases = c.in-Some.ensures.cases in
    cut_behind path front name (cut path front name cases) c.requires.clean c.requires.absolute (free_behind path front name cases) (sym c.is_empty.ensures ∙ c.if-not-is_empty.true)

pub returns-then-not-is_empty-2-clause-some : goal.returns-then-not-is_empty-2-clause-some
returns-then-not-is_empty-2-clause-some c =
    let path = c.args.path.now in
    let front = c.in-Some.front.now in
    let name = c.in-Some.name.now in
    let cases = c.in-Some.ensures.cases in
    cut_first path front name (cut path front name cases) c.requires.clean (free_behind path front name cases) (sym c.is_empty.ensures ∙ c.if-not-is_empty.false) (sym c.is_empty-else-not-is_empty.ensures ∙ c.if-not-is_empty-2.true)
