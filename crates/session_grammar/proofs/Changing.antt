-- Changes so far, and those that are left.
use Rattle.std.proofs.Common.{◌≡◌, ◌++◌, ◌∷◌, [], List, refl, sym, ap, ◌∙◌, append_assoc, Option, Some, None}
use Rattle.std.specs.Option.{option_map}
use Rattle.session_grammar.specs.Grammar.{Changes, with_changes, joined}

joined_more : (done one : Changes) (left : Option Changes) → option_map (with_changes done) (joined (Some one) left) ≡ option_map (with_changes (with_changes done one)) left
joined_more done one None = refl
joined_more done one (Some c) = rw (append_assoc done.removes one.removes c.removes, append_assoc done.inserts one.inserts c.inserts) refl

-- one more change was read
pub one_more : (all : Option Changes) (done one next : Changes) (before left : Option Changes) → all ≡ option_map (with_changes done) before → before ≡ joined (Some one) left → next ≡ with_changes done one → all ≡ option_map (with_changes next) left
one_more all done one next before left e f g = e ∙ ap (option_map (with_changes done)) f ∙ joined_more done one left ∙ ap (λ (n : Changes). option_map (with_changes n) left) (sym g)

-- ---- lists of ids, one more read

pub one_more_id : {A : Type 0} → (all left next : Option (List A)) (done more : List A) (id : A) → all ≡ option_map (λ rest. done ++ rest) left → left ≡ option_map (λ ids. id ∷ ids) next → more ≡ done ++ id ∷ [] → all ≡ option_map (λ rest. more ++ rest) next
one_more_id all left None done more id e one push = e ∙ ap (option_map (λ rest. done ++ rest)) one
one_more_id {A} all left (Some ids) done more id e one push =
    e ∙ ap (option_map (λ rest. done ++ rest)) one ∙ ap Some (sym (ap (λ (xs : List A). xs ++ ids) push ∙ append_assoc done (id ∷ []) ids))

pub no_more_id : {A : Type 0} → (all left : Option (List A)) (done : List A) → all ≡ option_map (λ rest. done ++ rest) left → left ≡ None → None ≡ all
no_more_id all left done e none = sym (e ∙ ap (option_map (λ rest. done ++ rest)) none)
