-- A disk of one file holds an answer of its path exactly where the file is that answer.
use Rattle.std.proofs.Common.{◌≡◌, ℕ, Bool, true, List, [], ◌∷◌, sym, ap, ◌∙◌}
use Rattle.std.specs.Prelude.{◌↔◌, IsTrue}
use Rattle.std.specs.Str.{bytes_eq}
use Rattle.ty_model.specs.Values.{Answer, same_answer}
use Rattle.ty_model.proofs.Tests.{same_answer-Decides}
use Rattle.ty_cells.specs.Disk.{answers_at}
use Rattle.uses.specs.OneFile.{one_file}

-- the one answer of a list
abbrev first_or : Answer → List Answer → Answer
first_or other [] = other
first_or other (a ∷ more) = a

pub holds_here : (p path : List ℕ) (file answer : Answer) (b : Bool) → bytes_eq p path ≡ true → b ≡ same_answer file answer
    → IsTrue b ↔ (answers_at (one_file p file) path ≡ answer ∷ [])
holds_here p path file answer b here is =
    let d = same_answer-Decides file answer in
    rw (here, is) (λ same. ap (λ (a : Answer). a ∷ []) (d.0 same), λ e. d.1 (ap (first_or file) e))
