-- A map's entries seen by functions of the keys and of the values.
use Rattle.std.specs.Prelude.{List, map}

-- the entries, with f at each key and h at each value
abbrev pub seen_entries : {K V A B : Type 0} → (K → A) → (V → B) → List (K × V) → List (A × B)
seen_entries f h es = map (λ e. (f e.0, h e.1)) es
