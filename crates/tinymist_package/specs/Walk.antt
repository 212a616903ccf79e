-- The files of a pack, and what a walk hands over.
use Rattle.std.specs.Prelude.{◌≡◌, ◌⊎◌, ℕ, List, [], ◌∷◌, map, filter, Bool, true, false, Some, codes, Result, Ok, Err}
use Rattle.std.specs.Borrow.{Bor}
use Rattle.std.specs.Str.{bytes_eq}
use Rattle.indexmap.specs.IndexMap.{insert_entry}
use Rattle.std.specs.String.{string_bytes}
use Rattle.std.specs.declared.string.String.{String}
use Rattle.std.specs.declared.sync.Arc.{Arc}
use Rattle.std.specs.declared.vec.Vec.{Vec}
use Rattle.std.specs.declared.alloc.Global.{Global}
use Rattle.ty_model.specs.Faults.{Rose}
use Rattle.ty_path.specs.Shared.{shared_bytes}
use Rattle.ty_syntax.specs.declared.error.PackageError.TheVariants.{Other}
use Rattle.tinymist_package.specs.declared.fault.PackageFault.{PackageFault}
use Rattle.tinymist_package.specs.declared.fault.PackageFault.TheVariants.{Package, OutOfMemory}
use Rattle.tinymist_package.specs.declared.pack.file.PackFile.{PackFile}
use Rattle.tinymist_package.specs.declared.pack.file.PackFile.TheVariants.{Data, Read}

-- a file of a pack: its path and its bytes
abbrev pub File : Type 0
File = List ℕ × List ℕ

-- the bytes of a file that is handed over
abbrev pub bytes_of : PackFile → List ℕ
bytes_of (Data bytes) = shared_bytes bytes
bytes_of (Read bytes) = bytes.items

-- the files of a map, in its order
abbrev pub files_of : List (String Global × Arc (Vec ℕ Global) Global) → List File
files_of entries = map (λ e. (string_bytes e.0, shared_bytes e.1)) entries

-- ---- walks

module _ {T : Type 0} (takes : T → File → Result (Unit {0}) PackageFault → T → Type 0) (own : PackageFault → Type 0) where
  -- the files were handed over in order: all of them, or those up to a refusal, which is the taker's or the pack's own
  abbrev pub Walks : T → List File → Result (Unit {0}) PackageFault → T → Type 0
  Walks t [] (Ok done) u = t ≡ u
  Walks t [] (Err e) u = own e × (t ≡ u)
  Walks t (x ∷ xs) r u = ((s : T) × takes t x (Ok tt) s × Walks s xs r u) ⊎ ((e : PackageFault) × (r ≡ Err e) × (takes t x (Err e) u ⊎ (own e × (t ≡ u))))

-- these words are why there is no package
abbrev pub IsOther : List ℕ → PackageFault → Type 0
IsOther words fault = (text : String Global) × (string_bytes text ≡ words) × (fault ≡ Package (Other (Some text)))

-- what a walk may refuse of its own: memory is wanting, a folder failed and that was counted, or it is too deep
abbrev pub IsOwn : ℕ → ℕ → PackageFault → Type 0
IsOwn before after fault = (fault ≡ OutOfMemory) ⊎ (IsOther (codes "folder fault") fault × Rose before after) ⊎ IsOther (codes "too deep") fault

-- ---- takers

-- a call of a closure at a file
abbrev pub Calls : {G : Type 0} → (G → Bor (List ℕ) → PackFile → Result (Unit {0}) PackageFault → G → Type 0) → G → File → Result (Unit {0}) PackageFault → G → Type 0
Calls step f file r g = (path : Bor (List ℕ)) × (handed : PackFile) × (path.now ≡ file.0) × (bytes_of handed ≡ file.1) × step f path handed r g

-- a file is put in: one of the same path gives way to it, and any other comes last
abbrev pub Writes : List File → File → Result (Unit {0}) PackageFault → List File → Type 0
Writes before file (Ok done) after = after ≡ insert_entry bytes_eq before file.0 file.1
Writes before file (Err e) after = after ≡ before

-- the files after these were put in, one after another
abbrev pub written_all : List File → List File → List File
written_all before [] = before
written_all before (x ∷ xs) = written_all (insert_entry bytes_eq before x.0 x.1) xs

-- ---- filters

-- what a test answers of a path
abbrev pub Says : (Bor (List ℕ) → Bool → Type 0) → List ℕ → Bool → Type 0
Says test path b = (p : Bor (List ℕ)) × (p.now ≡ path) × test p b

-- a file passes to the taker behind where the test accepts it
abbrev pub Passes : {T : Type 0} → (Bor (List ℕ) → Bool → Type 0) → (T → File → Result (Unit {0}) PackageFault → T → Type 0) → File → T → Result (Unit {0}) PackageFault → T → Type 0
Passes test takes file t r u = (Says test file.0 true × takes t file r u) ⊎ (Says test file.0 false × (r ≡ Ok tt) × (u ≡ t))

-- the files whose paths are accepted
abbrev pub chosen : (List ℕ → Bool) → List File → List File
chosen accept all = filter (λ f. accept f.0) all

-- the files that a fixed test accepts, of those that are told
abbrev pub Accepted : (Bor (List ℕ) → Bool → Type 0) → (List File → Type 0) → List File → Type 0
Accepted test told files = (accept : List ℕ → Bool) × ((p : Bor (List ℕ)) (b : Bool) → test p b → b ≡ accept p.now) × ((all : List File) × told all × (files ≡ chosen accept all))
