-- The ids that words name, one word after another.
use Rattle.std.proofs.Common.{◌≡◌, ℕ, ◌+◌, ◌<◌, ◌≤◌, List, [], ◌∷◌, ◌++◌, length, drop, get_or, map, refl, sym, ap, ◌∙◌, append_assoc, append-nil, add-one, drop-cons, Option, Some, None}
use Rattle.std.proofs.lemmas.List.{drop_all}
use Rattle.std.specs.Option.{option_map, option_and_then}
use Rattle.ty_model.specs.Values.{Id}
use Rattle.tinymist_session.specs.Machine.{id_for, ids_for}
use Rattle.session_grammar.specs.Plain.{plain_id}
use Rattle.session_grammar.specs.declared.contents.IdWord.{IdWord}

-- these ids, and then more
abbrev pub with_more : List Id → Option (List Id) → Option (List Id)
with_more ids more = option_map (λ later. ids ++ later) more

pub none_yet : (more : Option (List Id)) → with_more [] more ≡ more
none_yet None = refl
none_yet (Some ids) = refl

module _ (tagged : List Id) (words : List IdWord) (i : ℕ) (ids : List Id) where
  module _ (word : IdWord) (within : i < length words) (is : word ≡ get_or words i word) where
    here : drop i words ≡ word ∷ drop (i + 1) words
    here = rw (add-one, drop-cons words i word, ← is) refl

    one_more : (id : Id) (more : Option (List Id)) → with_more (ids ++ id ∷ []) more ≡ with_more ids (option_map (λ later. id ∷ later) more)
    one_more id None = refl
    one_more id (Some later) = ap Some (append_assoc ids (id ∷ []) later)

    pub goes_on : (id : Id) → Some id ≡ id_for tagged (plain_id word) → with_more (ids ++ id ∷ []) (ids_for tagged (map plain_id (drop (i + 1) words))) ≡ with_more ids (ids_for tagged (map plain_id (drop i words)))
    goes_on id named =
        one_more id (ids_for tagged (map plain_id (drop (i + 1) words)))
        ∙ ap (λ (o : Option Id). with_more ids (option_and_then (λ id. option_map (λ later. id ∷ later) (ids_for tagged (map plain_id (drop (i + 1) words)))) o)) named
        ∙ ap (λ (ws : List IdWord). with_more ids (ids_for tagged (map plain_id ws))) (sym here)

    pub fails : None ≡ id_for tagged (plain_id word) → None ≡ with_more ids (ids_for tagged (map plain_id (drop i words)))
    fails none =
        ap (λ (o : Option Id). with_more ids (option_and_then (λ id. option_map (λ later. id ∷ later) (ids_for tagged (map plain_id (drop (i + 1) words)))) o)) none
        ∙ ap (λ (ws : List IdWord). with_more ids (ids_for tagged (map plain_id ws))) (sym here)

  pub all_named : length words ≤ i → Some ids ≡ with_more ids (ids_for tagged (map plain_id (drop i words)))
  all_named past = ap Some (sym (append-nil ids)) ∙ ap (λ (ws : List IdWord). with_more ids (ids_for tagged (map plain_id ws))) (sym (drop_all i words past))
