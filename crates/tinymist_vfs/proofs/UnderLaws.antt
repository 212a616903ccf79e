-- A disk under some files that come first.
use Rattle.std.proofs.Common.{◌≡◌, ℕ, Bool, true, false, cond, not, List, [], ◌∷◌, ◌++◌, map, filter, refl, sym, ap, subst, ◌∙◌, bytes_eq, Option, Some, None, Result, Ok, Err}
use Rattle.std.specs.Prelude.{is_some, IfOk}
use Rattle.std.specs.Ordering.{is_eq}
use Rattle.std.specs.Cmp.{eq_by_cmp_equiv, Equal-is}
use Rattle.std.specs.Map.{lookup}
use Rattle.std.proofs.lemmas.Bool.{both_ways}
use Rattle.std.proofs.lemmas.Slice.Eq.{bytes_eq-Decides}
use Rattle.ty_model.specs.Values.{Answer, text_cmp, same_answer}
use Rattle.ty_model.specs.Disk.{Told, Rest, rest_says, says, head_or, after_head, asked_files}
use Rattle.ty_model.proofs.Tests.{text_total, text_exact, same_answer-Decides}
use Rattle.ty_path.specs.Shared.{path_text}
use Rattle.ty_path.specs.declared.memory.OutOfMemory.{OutOfMemory}
use Rattle.ty_persist.specs.Texts.{is_text}
use Rattle.ty_cells.specs.Disk.{AnswersAsTold, HoldsAsTold, answers_in}
use Rattle.tinymist_vfs.specs.Maps.{Path}
use Rattle.tinymist_vfs.specs.Items.{file_of}
use Rattle.tinymist_vfs.specs.Under.{file_at, one_answer, has_none, tells_under}

-- ---- a file by its text

text-test : (a b : List ℕ) → is_eq (text_cmp a b) ≡ bytes_eq b a
text-test a b =
    elim (is_eq (text_cmp a b)) as (λ t. is_eq (text_cmp a b) ≡ t → t ≡ bytes_eq b a) [
      | true ↦ λ e. sym ((bytes_eq-Decides b a).1 (sym (text_exact a b ((Equal-is (text_cmp a b)).0 e))))
      | false ↦ λ e. elim (bytes_eq b a) as (λ t. bytes_eq b a ≡ t → false ≡ t) [
        | true ↦ λ f. absurd (both_ways (is_eq (text_cmp a b)) e (subst (λ c. is_eq (text_cmp a c) ≡ true) (sym ((bytes_eq-Decides b a).0 f)) ((eq_by_cmp_equiv text_total).refl a)))
        | false ↦ λ _. refl
      ] refl
    ] refl

pub lookup-file : (es : List (Path × Answer)) (path : List ℕ) → lookup (is_text path) es ≡ file_at (map file_of es) path
lookup-file [] path = refl
lookup-file (e ∷ es) path = (λ i. cond (text-test path (path_text e.0) i) (Some e.1) (lookup-file es path i))

-- ---- a path that has a file

some_is : (a b : Answer) → Some a ≡ Some b → a ≡ b
some_is a b e = cc

module _ (path : List ℕ) (a : Answer) where
  -- the file decides
  says-file : (own : List (List ℕ × Answer)) (more : List (List ℕ × List Answer)) (rest : Rest) → file_at own path ≡ Some a → says (map one_answer own ++ more) rest path ≡ a
  says-file [] more rest h = cc
  says-file (f ∷ own) more rest h =
      elim (bytes_eq f.0 path) as (λ t. cond t (Some f.1) (file_at own path) ≡ Some a → cond t f.1 (says (map one_answer own ++ more) rest path) ≡ a) [
        | true ↦ λ e. some_is f.1 a e
        | false ↦ λ e. says-file own more rest e
      ] h

  asked-file : (own : List (List ℕ × Answer)) (more : List (List ℕ × List Answer)) → file_at own path ≡ Some a → asked_files (map one_answer own ++ more) path ≡ map one_answer own ++ more
  asked-file [] more h = cc
  asked-file (f ∷ own) more h =
      elim (bytes_eq f.0 path) as (λ t. cond t (Some f.1) (file_at own path) ≡ Some a → cond t (one_answer f ∷ map one_answer own ++ more) (one_answer f ∷ asked_files (map one_answer own ++ more) path) ≡ one_answer f ∷ map one_answer own ++ more) [
        | true ↦ λ _. refl
        | false ↦ λ e. ap (λ fs. one_answer f ∷ fs) (asked-file own more e)
      ] h

  answers-file : (own : List (List ℕ × Answer)) (more : List (List ℕ × List Answer)) (rest : Rest) → file_at own path ≡ Some a → answers_in (map one_answer own ++ more) rest path ≡ a ∷ []
  answers-file [] more rest h = cc
  answers-file (f ∷ own) more rest h =
      elim (bytes_eq f.0 path) as (λ t. cond t (Some f.1) (file_at own path) ≡ Some a → cond t (f.1 ∷ []) (answers_in (map one_answer own ++ more) rest path) ≡ a ∷ []) [
        | true ↦ λ e. ap (λ x. x ∷ []) (some_is f.1 a e)
        | false ↦ λ e. answers-file own more rest e
      ] h

-- ---- a path that has none

module _ (path : List ℕ) where
  says-past : (own : List (List ℕ × Answer)) (more : List (List ℕ × List Answer)) (rest : Rest) → file_at own path ≡ None → says (map one_answer own ++ more) rest path ≡ says more rest path
  says-past [] more rest h = refl
  says-past (f ∷ own) more rest h =
      elim (bytes_eq f.0 path) as (λ t. cond t (Some f.1) (file_at own path) ≡ None → cond t f.1 (says (map one_answer own ++ more) rest path) ≡ says more rest path) [
        | true ↦ λ e. cc
        | false ↦ λ e. says-past own more rest e
      ] h

  asked-past : (own : List (List ℕ × Answer)) (more : List (List ℕ × List Answer)) → file_at own path ≡ None → asked_files (map one_answer own ++ more) path ≡ map one_answer own ++ asked_files more path
  asked-past [] more h = refl
  asked-past (f ∷ own) more h =
      elim (bytes_eq f.0 path) as (λ t. cond t (Some f.1) (file_at own path) ≡ None → cond t (one_answer f ∷ map one_answer own ++ more) (one_answer f ∷ asked_files (map one_answer own ++ more) path) ≡ one_answer f ∷ map one_answer own ++ asked_files more path) [
        | true ↦ λ e. cc
        | false ↦ λ e. ap (λ fs. one_answer f ∷ fs) (asked-past own more e)
      ] h

  answers-past : (own : List (List ℕ × Answer)) (more : List (List ℕ × List Answer)) (rest : Rest) → file_at own path ≡ None → answers_in (map one_answer own ++ more) rest path ≡ answers_in more rest path
  answers-past [] more rest h = refl
  answers-past (f ∷ own) more rest h =
      elim (bytes_eq f.0 path) as (λ t. cond t (Some f.1) (file_at own path) ≡ None → cond t (f.1 ∷ []) (answers_in (map one_answer own ++ more) rest path) ≡ answers_in more rest path) [
        | true ↦ λ e. cc
        | false ↦ λ e. answers-past own more rest e
      ] h

  module _ (own : List (List ℕ × Answer)) (none : file_at own path ≡ None) where
    -- where the path is this one, none of the files is at it
    kept : (q : List ℕ) → bytes_eq q path ≡ true → has_none own q ≡ true
    kept q e = ap (λ p. not (is_some (file_at own p))) ((bytes_eq-Decides q path).0 e) ∙ ap (λ o. not (is_some o)) none

    says-kept : (fs : List (List ℕ × List Answer)) (rest : Rest) → says (filter (λ f. has_none own f.0) fs) rest path ≡ says fs rest path
    says-kept [] rest = refl
    says-kept (f ∷ fs) rest =
        elim (bytes_eq f.0 path) as (λ t. bytes_eq f.0 path ≡ t → says (filter (λ f. has_none own f.0) (f ∷ fs)) rest path ≡ cond t (head_or (rest_says rest path) f.1) (says fs rest path)) [
          | true ↦ λ e. ap (λ k. says (cond k (f ∷ filter (λ f. has_none own f.0) fs) (filter (λ f. has_none own f.0) fs)) rest path) (kept f.0 e) ∙ ap (λ t. cond t (head_or (rest_says rest path) f.1) (says (filter (λ f. has_none own f.0) fs) rest path)) e
          | false ↦ λ e. elim (has_none own f.0) as (λ k. says (cond k (f ∷ filter (λ f. has_none own f.0) fs) (filter (λ f. has_none own f.0) fs)) rest path ≡ says fs rest path) [
            | true ↦ ap (λ t. cond t (head_or (rest_says rest path) f.1) (says (filter (λ f. has_none own f.0) fs) rest path)) e ∙ says-kept fs rest
            | false ↦ says-kept fs rest
          ]
        ] refl

    answers-kept : (fs : List (List ℕ × List Answer)) (rest : Rest) → answers_in (filter (λ f. has_none own f.0) fs) rest path ≡ answers_in fs rest path
    answers-kept [] rest = refl
    answers-kept (f ∷ fs) rest =
        elim (bytes_eq f.0 path) as (λ t. bytes_eq f.0 path ≡ t → answers_in (filter (λ f. has_none own f.0) (f ∷ fs)) rest path ≡ cond t f.1 (answers_in fs rest path)) [
          | true ↦ λ e. ap (λ k. answers_in (cond k (f ∷ filter (λ f. has_none own f.0) fs) (filter (λ f. has_none own f.0) fs)) rest path) (kept f.0 e) ∙ ap (λ t. cond t f.1 (answers_in (filter (λ f. has_none own f.0) fs) rest path)) e
          | false ↦ λ e. elim (has_none own f.0) as (λ k. answers_in (cond k (f ∷ filter (λ f. has_none own f.0) fs) (filter (λ f. has_none own f.0) fs)) rest path ≡ answers_in fs rest path) [
            | true ↦ ap (λ t. cond t f.1 (answers_in (filter (λ f. has_none own f.0) fs) rest path)) e ∙ answers-kept fs rest
            | false ↦ answers-kept fs rest
          ]
        ] refl

    asked-kept : (fs : List (List ℕ × List Answer)) → asked_files (filter (λ f. has_none own f.0) fs) path ≡ filter (λ f. has_none own f.0) (asked_files fs path)
    asked-kept [] = refl
    asked-kept (f ∷ fs) =
        elim (bytes_eq f.0 path) as (λ t. bytes_eq f.0 path ≡ t → asked_files (filter (λ f. has_none own f.0) (f ∷ fs)) path ≡ filter (λ f. has_none own f.0) (cond t ((f.0, after_head f.1) ∷ fs) (f ∷ asked_files fs path))) [
          | true ↦ λ e.
              ap (λ k. asked_files (cond k (f ∷ filter (λ f. has_none own f.0) fs) (filter (λ f. has_none own f.0) fs)) path) (kept f.0 e)
              ∙ ap (λ t. cond t ((f.0, after_head f.1) ∷ filter (λ f. has_none own f.0) fs) (f ∷ asked_files (filter (λ f. has_none own f.0) fs) path)) e
              ∙ sym (ap (λ k. cond k ((f.0, after_head f.1) ∷ filter (λ f. has_none own f.0) fs) (filter (λ f. has_none own f.0) fs)) (kept f.0 e))
          | false ↦ λ e. elim (has_none own f.0) as (λ k. asked_files (cond k (f ∷ filter (λ f. has_none own f.0) fs) (filter (λ f. has_none own f.0) fs)) path ≡ cond k (f ∷ filter (λ f. has_none own f.0) (asked_files fs path)) (filter (λ f. has_none own f.0) (asked_files fs path))) [
            | true ↦ ap (λ t. cond t ((f.0, after_head f.1) ∷ filter (λ f. has_none own f.0) fs) (f ∷ asked_files (filter (λ f. has_none own f.0) fs) path)) e ∙ ap (λ xs. f ∷ xs) (asked-kept fs)
            | false ↦ asked-kept fs
          ]
        ] refl

-- ---- an ask, and whether an answer is held

head_is : (a b : Answer) → a ∷ [] ≡ b ∷ [] → a ≡ b
head_is a b e = cc

module _ (es : List (Path × Answer)) (path : List ℕ) where
  pub answers-here : (a : Answer) (told : Option Told) (r : Result Answer OutOfMemory) → lookup (is_text path) es ≡ Some a → IfOk r (λ s. s ≡ a) → AnswersAsTold (tells_under es told) path r (tells_under es told)
  answers-here a None r h is = refl
  answers-here a (Some told) (Ok s) h is =
      let here = sym (lookup-file es path) ∙ h in
      let own = map file_of es in
      let more = filter (λ f. has_none own f.0) told.files in
      (is ∙ sym (says-file path a own more told.rest here), ap (λ fs. Some (record { files = fs; rest = told.rest })) (sym (asked-file path a own more here)))
  answers-here a (Some told) (Err wanting) h is = refl

  pub answers-below : (told after : Option Told) (r : Result Answer OutOfMemory) → lookup (is_text path) es ≡ None → AnswersAsTold told path r after → AnswersAsTold (tells_under es told) path r (tells_under es after)
  answers-below None after r h is = ap (tells_under es) is
  answers-below (Some told) after (Ok s) h is =
      let none = sym (lookup-file es path) ∙ h in
      let own = map file_of es in
      let more = filter (λ f. has_none own f.0) told.files in (
        is.0 ∙ sym (says-past path own more told.rest none ∙ says-kept path own none told.files told.rest),
        ap (tells_under es) is.1 ∙ ap (λ fs. Some (record { files = fs; rest = told.rest })) (sym (asked-past path own more none ∙ ap (λ fs. map one_answer own ++ fs) (asked-kept path own none told.files))),
      )
  answers-below (Some told) after (Err wanting) h is = ap (tells_under es) is

  pub holds-here : (a answer : Answer) (told : Option Told) (b : Bool) → lookup (is_text path) es ≡ Some a → b ≡ same_answer a answer → HoldsAsTold (tells_under es told) path answer b
  holds-here a answer None b h is = tt
  holds-here a answer (Some told) b h is =
      let here = sym (lookup-file es path) ∙ h in
      let own = map file_of es in
      let all = answers-file path a own (filter (λ f. has_none own f.0) told.files) told.rest here in
      let decides = same_answer-Decides a answer in
      (λ held. all ∙ ap (λ x. x ∷ []) (decides.0 (sym is ∙ held)), λ same. is ∙ decides.1 (head_is a answer (sym all ∙ same)))

  pub holds-below : (answer : Answer) (told : Option Told) (b : Bool) → lookup (is_text path) es ≡ None → HoldsAsTold told path answer b → HoldsAsTold (tells_under es told) path answer b
  holds-below answer None b h is = tt
  holds-below answer (Some told) b h is =
      let none = sym (lookup-file es path) ∙ h in
      let own = map file_of es in
      let all = answers-past path own (filter (λ f. has_none own f.0) told.files) told.rest none ∙ answers-kept path own none told.files told.rest in
      (λ held. all ∙ is.0 held, λ same. is.1 (sym all ∙ same))
