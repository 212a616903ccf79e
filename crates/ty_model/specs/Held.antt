-- What a value of layers with a resolver is seen as.
use Rattle.std.specs.Prelude.{ℕ, List, ◌∷◌, refl}
use Rattle.std.specs.Coded.{Coded, code_by, coded×, coded_ℕ}
use Rattle.std.specs.FinMap as finmap
use Rattle.ty_model.specs.Places.{Resolver}
use Rattle.ty_model.specs.Values.{id_cmp, text_cmp}
use Rattle.ty_model.specs.Version.{Stamp, Layers, Version}
use Rattle.ty_model.specs.Standing.{Changes, Held, version_with, StandsFor}
use Rattle.ty_model.specs.Codes.{id_code, text_code, stamp_code, layers_code}

-- what is held, with a resolver of whatever type
pub record Kept (R : Type 0) : Type 0 where
  pub held : Held
  pub resolver : R

-- the version, where the resolver is read by `known`
abbrev pub version_of : {R : Type 0} → (R → Resolver) → Kept R → Version
version_of known k = version_with k.held (known k.resolver)

-- change revisions have codes
abbrev pub changes_code : Coded Changes
changes_code = code_by (finmap.FinMap id_cmp ℕ × (finmap.FinMap text_cmp ℕ × ℕ)) (coded× (finmap.code id_code coded_ℕ) (coded× (finmap.code text_code coded_ℕ) coded_ℕ)) (λ c. (c.ids, (c.paths, c.reset))) (λ p. record { ids = p.0; paths = p.1.0; reset = p.1.1 }) (λ _. refl)

-- what is held has a code
abbrev pub held_code : Coded Held
held_code = code_by (ℕ × (ℕ × (Layers × (Stamp × Changes)))) (coded× coded_ℕ (coded× coded_ℕ (coded× layers_code (coded× stamp_code changes_code))))
    (λ h. (h.space, (h.revision, (h.layers, (h.reset, h.changes)))))
    (λ p. record { space = p.0; revision = p.1.0; layers = p.1.1.0; reset = p.1.1.1.0; changes = p.1.1.1.1 })
    (λ _. refl)

-- what is held has a code with a resolver that has one
abbrev pub kept_code : {R : Type 0} → Coded R → Coded (Kept R)
kept_code {R} r = code_by (Held × R) (coded× held_code r) (λ k. (k.held, k.resolver)) (λ p. record { held = p.0; resolver = p.1 }) (λ _. refl)

-- what is kept stands for its version and those before it
abbrev pub Standing : {R : Type 0} → (R → Resolver) → Kept R → List Version → Type 0
Standing known k past = StandsFor k.held.changes (version_of known k ∷ past)
