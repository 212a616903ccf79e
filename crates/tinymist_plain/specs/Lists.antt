-- Lists of what stands at paths and at ids, and what edits make of them.
use Rattle.std.specs.Prelude.{◌≡◌, ℕ, ◌+◌, ◌<◌, ◌≤◌, not, List, [], ◌∷◌, ◌++◌, map, length, take, drop, filter, Result, Ok, Err}
use Rattle.std.specs.String.{string_bytes}
use Rattle.std.specs.Str.{bytes_eq}
use Rattle.std.specs.FinMap.{put}
use Rattle.ty_model.specs.Values.{Id, Answer, id_cmp, text_cmp}
use Rattle.ty_model.specs.Version.{same_id}
use Rattle.tinymist_plain.specs.declared.entries.Entry.{Entry}
use Rattle.tinymist_plain.specs.declared.ids.IdEntry.{IdEntry}

-- ---- paths

-- a path and what stands there
abbrev pub pair_of : {A : Type 0} → Entry A → List ℕ × A
pair_of e = (string_bytes e.path, e.value)

-- entries as pairs of a path and what stands at it
abbrev pub pairs : {A : Type 0} → List (Entry A) → List (List ℕ × A)
pairs entries = map pair_of entries

-- the entries but for those of a path
abbrev pub without : {A : Type 0} → List ℕ → List (List ℕ × A) → List (List ℕ × A)
without path entries = filter (λ e. not (bytes_eq path e.0)) entries

-- these files put into a list, one after another
abbrev pub put_all : {A : Type 0} → List (List ℕ × A) → List (List ℕ × A) → List (List ℕ × A)
put_all entries [] = entries
put_all entries (f ∷ fs) = put_all (put text_cmp f.0 f.1 entries) fs

-- the entries but for those of these paths
abbrev pub without_all : {A : Type 0} → List (List ℕ × A) → List (List ℕ) → List (List ℕ × A)
without_all entries [] = entries
without_all entries (path ∷ paths) = without_all (without path entries) paths

-- where a path stands, or else where it is to be put
abbrev pub IsPlace : {A : Type 0} → List ℕ → List (Entry A) → Result ℕ ℕ → Type 0
IsPlace {A} path entries (Ok i) = (i < length entries) × ((value : A) → put text_cmp path value (pairs entries) ≡ pairs (take i entries) ++ (path, value) ∷ pairs (drop (i + 1) entries))
IsPlace {A} path entries (Err i) = (i ≤ length entries) × ((value : A) → put text_cmp path value (pairs entries) ≡ pairs (take i entries) ++ (path, value) ∷ pairs (drop i entries))

-- ---- ids

-- an id and its answer
abbrev pub id_pair : IdEntry → Id × Answer
id_pair e = (e.id, e.answer)

-- entries as pairs of an id and what stands at it
abbrev pub id_pairs : List IdEntry → List (Id × Answer)
id_pairs entries = map id_pair entries

-- the entries but for that of an id
abbrev pub without_id : Id → List (Id × Answer) → List (Id × Answer)
without_id id entries = filter (λ e. not (same_id id e.0)) entries

-- where an id stands, or else where it is to be put
abbrev pub IsIdPlace : Id → List IdEntry → Result ℕ ℕ → Type 0
IsIdPlace id entries (Ok i) = (i < length entries) × ((answer : Answer) → put id_cmp id answer (id_pairs entries) ≡ id_pairs (take i entries) ++ (id, answer) ∷ id_pairs (drop (i + 1) entries))
IsIdPlace id entries (Err i) = (i ≤ length entries) × ((answer : Answer) → put id_cmp id answer (id_pairs entries) ≡ id_pairs (take i entries) ++ (id, answer) ∷ id_pairs (drop i entries))
