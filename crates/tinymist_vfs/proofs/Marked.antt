-- A mark that waits is looked for before those of the map.
use Rattle.std.proofs.Common.{◌≡◌, ℕ, true, false, cond, List, refl, sym, ap, subst, ◌∙◌, Option, Some, None}
use Rattle.std.specs.Str.{bytes_eq}
use Rattle.std.specs.Option.{option_or}
use Rattle.std.specs.Cmp.{Equal-is}
use Rattle.std.specs.Ordering.{eq_by_cmp}
use Rattle.std.specs.FinMap as finmap
use Rattle.std.proofs.lemmas.Cmp.{eq_by_cmp_equiv}
use Rattle.ty_model.specs.Values.{text_cmp}
use Rattle.std.proofs.lemmas.Slice.Eq.{bytes_eq-Decides}
use Rattle.ty_model.proofs.Tests.{text_total, text_exact}
use Rattle.ty_path.specs.Shared.{path_text}
use Rattle.tinymist_vfs.specs.PathMarks.{marks_with, marked_at}
use Rattle.tinymist_vfs.specs.declared.layers.path_marks.Mark.{Mark}

-- two texts are the same by their order where they are by their bytes
one_text : (k q : List ℕ) → eq_by_cmp text_cmp q k ≡ bytes_eq k q
one_text k q =
    elim (bytes_eq k q) as (λ b. bytes_eq k q ≡ b → eq_by_cmp text_cmp q k ≡ b) [
      | true ↦ λ e. subst (λ (x : List ℕ). eq_by_cmp text_cmp x k ≡ true) ((bytes_eq-Decides k q).0 e) ((eq_by_cmp_equiv text_total).refl k)
      | false ↦ λ e. elim (eq_by_cmp text_cmp q k) as (λ t. eq_by_cmp text_cmp q k ≡ t → t ≡ false) [
        | true ↦ λ t. sym ((bytes_eq-Decides k q).1 (sym (text_exact q k ((Equal-is (text_cmp q k)).0 t)))) ∙ e
        | false ↦ λ _. refl
      ] refl
    ] refl

pub get_marked : (settled : finmap.FinMap text_cmp ℕ) (waiting : Option Mark) (q : List ℕ) → finmap.get (marks_with settled waiting) q ≡ option_or (marked_at waiting q) (finmap.get settled q)
get_marked settled None q = refl
get_marked settled (Some mark) q =
    finmap.get-insert text_total settled (path_text mark.path) mark.revision q
    ∙ ap (λ b. cond b (Some mark.revision) (finmap.get settled q)) (one_text (path_text mark.path) q)
    ∙ elim (bytes_eq (path_text mark.path) q) as (λ b. cond b (Some mark.revision) (finmap.get settled q) ≡ option_or (cond b (Some mark.revision) None) (finmap.get settled q)) [ true ↦ refl | false ↦ refl ]
