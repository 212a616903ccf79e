use Rattle.std.proofs.Common.{◌≡◌, ◌≢◌, ℕ, List, [], ◌∷◌, refl, ap, inl, inr, Option, Some, None}
use Rattle.std.specs.Borrow.{Bor}
use Rattle.std.specs.Option.{MatchOption, IfNone}
use Rattle.std.proofs.lemmas.Bool.Decides.{eqb_tells}
use Rattle.std.proofs.lemmas.Str.Pattern.{strip_prefix_char}
use Rattle.session_grammar.specs.Grammar.{after_sign}
use Rattle.session_grammar.proofs.words.after_sign.Goals as goal

no_sign : (sign : ℕ) (word : List ℕ) → ((rest : List ℕ) → word ≢ sign ∷ rest) → after_sign sign word ≡ None
no_sign sign [] h = refl
no_sign sign (b ∷ bs) h = elim (eqb_tells b sign) [ inl same ↦ absurd (h bs (ap (λ (n : ℕ). n ∷ bs) same.1)) | inr other ↦ rw other.0 refl ]

none_of : (sign : ℕ) (word : List ℕ) (r : Option (Bor (List ℕ))) (B : Bor (List ℕ) → Type 0) → MatchOption r ((rest : List ℕ) → word ≢ sign ∷ rest) B → IfNone r (after_sign sign word ≡ None)
none_of sign word None B h = no_sign sign word h
none_of sign word (Some x) B h = tt

pub returns-clause-none : goal.returns-clause-none
returns-clause-none c = none_of c.args.sign c.args.word.now c.strip_prefix.result _ (strip_prefix_char c.args.sign c.args.word.now c.strip_prefix.result c.strip_prefix.ensures.cases c.requires)
