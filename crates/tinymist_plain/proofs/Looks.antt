-- What a version kept as lists has of an id: its answer, and the entries that decide whether it is clean.
use Rattle.std.proofs.Common.{◌≡◌, ℕ, List, refl, sym, ap, ◌∙◌, Option, Some, None, Result, Ok, Err}
use Rattle.std.specs.Prelude.{IfOk}
use Rattle.std.specs.Option.{option_or, unwrap_or}
use Rattle.std.specs.FinMap as finmap
use Rattle.ty_model.specs.Values.{Id, Answer}
use Rattle.ty_model.specs.Places.{Place, At, Rootless, RefusedAt, place_of}
use Rattle.ty_model.specs.Version as model
use Rattle.ty_model.specs.Version.{Layers}
use Rattle.ty_model.specs.LookUp.{Decision, Asks, said_or, place_decision, answer_by, look}
use Rattle.ty_model.specs.Standing.{at_place_of, entries_at}
use Rattle.ty_model.specs.Disk.{Told, IsFixed, answer_of}
use Rattle.ty_model.proofs.DiskLaws.{fixed_stays}
use Rattle.ty_path.specs.declared.memory.OutOfMemory.{OutOfMemory}
use Rattle.ty_cells.specs.Disk.{AnswersAsTold}
use Rattle.tinymist_plain.specs.Kept.{Listed, lists_of, listed, version_of, said_in, looked, place_entries, id_entries}
use Rattle.tinymist_plain.specs.declared.version.Version.{Version}

-- ---- a path

pub by_lists : (o : Option Answer) (path : List ℕ) (answer : Answer) (told : Told) → Some answer ≡ o → answer ≡ answer_by (said_or o (Asks path)) told
by_lists o path answer told is = ap (λ (o : Option Answer). answer_by (said_or o (Asks path)) told) is

pub by_disk : (o : Option Answer) (path : List ℕ) (told : Told) → None ≡ o → answer_of told path ≡ answer_by (said_or o (Asks path)) told
by_disk o path told is = ap (λ (o : Option Answer). answer_by (said_or o (Asks path)) told) is

-- an ask of a disk that tells
pub asked_answer : (told : Told) (path : List ℕ) (r : Result Answer OutOfMemory) (after : Option Told) → AnswersAsTold (Some told) path r after → IfOk r (λ answer. answer ≡ answer_of told path)
asked_answer told path (Ok answer) after h = h.0
asked_answer told path (Err wanting) after h = tt

pub asked_left : (told : Told) (path : List ℕ) (r : Result Answer OutOfMemory) (after : Option Told) → IsFixed told → AnswersAsTold (Some told) path r after → after ≡ Some told
asked_left told path (Ok answer) after fixed h = h.1 ∙ ap Some (fixed_stays told path fixed)
asked_left told path (Err wanting) after fixed h = h

-- ---- an id

by_place : (l : Layers) (told : Told) (place : Place) → answer_by (place_decision l place) told ≡ said_in (lists_of l) told place
by_place l told (At path) = λ j. answer_by (said_or (option_or (finmap.get-entries l.by_path path j) (finmap.get-entries l.told path j)) (Asks path)) told
by_place l told Rootless = refl
by_place l told (RefusedAt refusal) = refl

by_overlay : (o : Option Answer) (otherwise : Decision) (told : Told) → answer_by (said_or o otherwise) told ≡ unwrap_or o (answer_by otherwise told)
by_overlay None otherwise told = refl
by_overlay (Some answer) otherwise told = refl

pub look_is : (v : model.Version) (told : Told) (id : Id) → look v told id ≡ looked (listed v) told id
look_is v told id =
    by_overlay (finmap.get v.layers.by_id id) (place_decision v.layers (place_of v.resolver id)) told
    ∙ (λ j. unwrap_or (finmap.get-entries v.layers.by_id id j) (by_place v.layers told (place_of v.resolver id) j))

-- the same by a version that is kept
pub looks : (p : Version) (v : model.Version) (told : Told) (id : Id) → version_of p ≡ listed v → looked (version_of p) told id ≡ look v told id
looks p v told id is = ap (λ (l : Listed). looked l told id) is ∙ sym (look_is v told id)

-- ---- entries

at_place : (l : Layers) (place : Place) → at_place_of l place ≡ place_entries (lists_of l) place
at_place l (At path) = λ j. record { shadow = finmap.get-entries l.by_path path j; told = finmap.get-entries l.told path j; drop = finmap.get-entries l.drops path j }
at_place l Rootless = refl
at_place l (RefusedAt refusal) = refl

pub entries_are : (v : model.Version) (id : Id) → entries_at v id ≡ id_entries (listed v) id
entries_are v id = λ j. record { shadow = finmap.get-entries v.layers.by_id id j; path = at_place v.layers (place_of v.resolver id) j; reset = v.reset }
