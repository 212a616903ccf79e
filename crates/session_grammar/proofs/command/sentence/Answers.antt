use Rattle.std.proofs.Common.{◌≡◌, false, refl, List, ℕ}
use Rattle.std.proofs.lemmas.Bool.{false_from_ne_true}
use Rattle.std.proofs.lemmas.Slice.Eq.{bytes_eq-Decides}
use Rattle.std.specs.Str.{bytes_eq}
use Rattle.session_grammar.proofs.command.sentence.Goals as goal

other : (word name : List ℕ) → (word ≡ name → ⊥) → bytes_eq word name ≡ false
other word name differ = false_from_ne_true (bytes_eq word name) (λ same. differ ((bytes_eq-Decides word name).0 same))

-- the default arm: the word is none of the names
pub returns-in_default-clause-none : goal.returns-in_default-clause-none
returns-in_default-clause-none c = λ _.
    let n = c.in_default in
    rw (other _ _ n.not-map, other _ _ n.not-snapshot, other _ _ n.not-read, other _ _ n.not-unmap, other _ _ n.not-clear, other _ _ n.not-notify, other _ _ n.not-paths, other _ _ n.not-text, other _ _ n.not-text-2, other _ _ n.not-rootless, other _ _ n.not-ids, other _ _ n.not-path, other _ _ n.not-source, other _ _ n.not-line, other _ _ n.not-clean) refl
