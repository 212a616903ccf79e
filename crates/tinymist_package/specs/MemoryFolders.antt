-- Folders in memory: what they hold, and which of their calls fail.
use Rattle.std.specs.Prelude.{◌≡◌, ℕ, ◌+◌, ◌-◌, ◌^◌, ◌==◌, ⊤, min, Bool, true, false, List, codes, Option, Some, None, refl}
use Rattle.std.specs.Coded.{Coded, code_by, coded×, coded_ℕ}
use Rattle.std.specs.List.{list_any}
use Rattle.std.specs.FinMap as finmap
use Rattle.ty_model.specs.Codes.{text_code}
use Rattle.ty_path.specs.Shared.{shared_bytes}
use Rattle.ty_persist.specs.Seen.{seen_entries}
use Rattle.tinymist_package.specs.Folders as plain
use Rattle.tinymist_package.specs.Folders.{Contents, Folder, FileOf, contents_code}
use Rattle.tinymist_package.specs.declared.folders.FolderAnswer.{FolderAnswer}
use Rattle.tinymist_package.specs.declared.folders.FolderAnswer.TheVariants as answer
use Rattle.tinymist_package.specs.declared.folders.memory.Stored.{Stored}
use Rattle.tinymist_package.specs.declared.folders.memory.Stored.TheVariants as stored

-- what they hold, the calls that fail, and how many calls and faults there were
pub record FoldersHold : Type 0 where
  pub contents : Contents
  pub fails : List ℕ
  pub calls : ℕ
  pub faults : ℕ

-- what is stored, as plain data
abbrev pub stored_of : Stored → plain.Stored
stored_of stored.Folder = Folder
stored_of (stored.File bytes) = FileOf (shared_bytes bytes)

-- entries under cleaned paths as a finite map
abbrev pub contents_of : List (List ℕ × Stored) → Contents
contents_of entries = finmap.from_entries (seen_entries (λ path. path) stored_of entries)

-- the folders `.` and `/`, and nothing in them
abbrev pub no_files : Contents
no_files = finmap.insert (finmap.insert finmap.empty (codes ".") Folder) (codes "/") Folder

-- a count after one more, which stands still at its last value
abbrev pub counted : ℕ → ℕ
counted count = min (count + 1) (2 ^ 64 - 1)

-- the next call fails: its number, from 1 on, is listed
abbrev pub fails_next : FoldersHold → Bool
fails_next f = list_any (λ n. n == counted f.calls) f.fails

-- the folders after a call was counted
abbrev pub called : FoldersHold → FoldersHold
called f = record f { calls = counted f.calls }

-- the count of faults after an answer
abbrev pub faults_after : {T : Type 0} → ℕ → FolderAnswer T → ℕ
faults_after faults (answer.Done x) = faults
faults_after faults answer.Failed = counted faults
faults_after faults answer.OutOfMemory = faults

-- the folders after a call that leaves their contents
abbrev pub asked : {T : Type 0} → FoldersHold → FolderAnswer T → FoldersHold
asked f a = record f { calls = counted f.calls; faults = faults_after f.faults a }

-- the call failed exactly where this is so
abbrev pub FailsWhere : {T : Type 0} → FolderAnswer T → Bool → Type 0
FailsWhere (answer.Done x) fails = fails ≡ false
FailsWhere answer.Failed fails = fails ≡ true
FailsWhere answer.OutOfMemory fails = ⊤

-- a file stands there
abbrev pub is_file : Option plain.Stored → Bool
is_file (Some Folder) = false
is_file (Some (FileOf bytes)) = true
is_file None = false

-- ---- codes

-- folders have codes
abbrev pub holds_code : Coded FoldersHold
holds_code = code_by (Contents × (List ℕ × (ℕ × ℕ))) (coded× contents_code (coded× text_code (coded× coded_ℕ coded_ℕ)))
    (λ f. (f.contents, (f.fails, (f.calls, f.faults)))) (λ p. record { contents = p.0; fails = p.1.0; calls = p.1.1.0; faults = p.1.1.1 }) (λ _. refl)
