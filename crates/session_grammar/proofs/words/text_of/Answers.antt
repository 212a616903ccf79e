use Rattle.std.proofs.Common.{◌≡◌, true, false, ◌&&◌, refl, sym}
use Rattle.std.specs.Str.{is_utf8}
use Rattle.std.specs.List.{list_all}
use Rattle.std.proofs.lemmas.Str.{is_utf8-from_IsUtf8, IsUtf8-from_is_utf8}
use Rattle.session_grammar.specs.Grammar.{is_plain}
use Rattle.session_grammar.proofs.words.text_of.Goals as goal

pub returns-then-is_plain-clause-some : goal.returns-then-is_plain-clause-some
returns-then-is_plain-clause-some c =
    (c.in-Ok.ensures.cases.0, rw (is_utf8-from_IsUtf8 c.args.line.now c.in-Ok.ensures.cases.1) (sym c.if-is_plain.ensures))

pub returns-in-Err-clause-none : goal.returns-in-Err-clause-none
returns-in-Err-clause-none c =
    elim (is_utf8 c.args.line.now) as (λ b. is_utf8 c.args.line.now ≡ b → (b && list_all is_plain c.args.line.now) ≡ false) [
      | true ↦ λ is. absurd (c.in-Err.ensures.cases.0 (IsUtf8-from_is_utf8 c.args.line.now is))
      | false ↦ λ _. refl
    ] refl
