-- Folders and files as plain data, and what each call on them says and leaves.
use Rattle.std.specs.Prelude.{◌≡◌, ℕ, ◌≤◌, ◌&&◌, ⊤, Bool, true, false, not, if◌then◌else◌, List, [], ◌∷◌, Option, Some, None, refl}
use Rattle.std.specs.Coded.{Coded, code_by, coded×, coded_ℕ, coded_option}
use Rattle.std.specs.Str.{bytes_eq}
use Rattle.std.specs.Option.{option_map}
use Rattle.std.specs.FinMap as finmap
use Rattle.std.specs.String.{string_bytes}
use Rattle.ty_model.specs.Values.{text_cmp}
use Rattle.ty_model.specs.Codes.{text_code}
use Rattle.ty_model.specs.Faults.{Rose}
use Rattle.ty_model.specs.Paths.{clean, parent, file_name}
use Rattle.tinymist_package.specs.declared.folders.FolderAnswer.{FolderAnswer}
use Rattle.tinymist_package.specs.declared.folders.FolderAnswer.TheVariants.{Done, Failed, OutOfMemory}
use Rattle.tinymist_package.specs.declared.folders.FolderEntry.{FolderEntry}

-- what stands at a path
pub data Stored : Type 0 where
  Folder : Stored
  FileOf : (bytes : List ℕ) → Stored

-- folders and files, each under its cleaned path
abbrev pub Contents : Type 0
Contents = finmap.FinMap text_cmp Stored

-- what folders show: their contents, where they tell them, and how often a call has failed
pub record FoldersSeen : Type 0 where
  pub contents : Option Contents
  pub faults : ℕ

-- a folder stands there
abbrev pub is_folder : Option Stored → Bool
is_folder (Some Folder) = true
is_folder (Some (FileOf bytes)) = false
is_folder None = false

-- what stands at the cleaned form of a path
abbrev pub stored_at : Contents → List ℕ → Option Stored
stored_at contents path = finmap.get contents (clean path)

-- the folder that a cleaned path stands in
abbrev pub folder_of : List ℕ → Option (List ℕ)
folder_of path = option_map clean (parent path)

-- ---- what a folder lists

-- the text is this one
abbrev pub is_text : Option (List ℕ) → List ℕ → Bool
is_text None text = false
is_text (Some other) text = bytes_eq other text

-- the name of a path directly in a folder, where it stands there
abbrev pub name_in : List ℕ → List ℕ → Option (List ℕ)
name_in folder path = if is_text (folder_of path) folder then file_name path else None

-- the entry that stands directly in a folder: its name, and whether it is a folder
abbrev pub entry_in : List ℕ → List ℕ × Stored → Option (List ℕ × Bool)
entry_in folder e = option_map (λ name. (name, is_folder (Some e.1))) (name_in folder e.0)

-- one before others, where there is one
abbrev pub one_before : {X : Type 0} → Option X → List X → List X
one_before None xs = xs
one_before (Some x) xs = x ∷ xs

-- of what is stored, the entries directly in a folder
abbrev pub listed_in : List ℕ → List (List ℕ × Stored) → List (List ℕ × Bool)
listed_in folder [] = []
listed_in folder (e ∷ es) = one_before (entry_in folder e) (listed_in folder es)

-- what a folder lists, by name; a path that is no folder lists nothing
abbrev pub list_in : Contents → List ℕ → List (List ℕ × Bool)
list_in contents path = if is_folder (stored_at contents path) then listed_in (clean path) (finmap.entries contents) else []

-- an entry as its name, and whether it is a folder
abbrev pub plain_entry : FolderEntry → List ℕ × Bool
plain_entry e = (string_bytes e.name, e.is_dir)

-- ---- what is made and written

-- a folder is made: one that is there stays, and one that isn't is put into its own folder, which is made before
pub data Makes (before : Contents) : List ℕ → Contents → Type 0 where
  IsThere : (path : List ℕ) (after : Contents) → finmap.get before path ≡ Some Folder → after ≡ before → Makes before path after
  IsPut : (path folder : List ℕ) (held after : Contents) → finmap.get before path ≡ None → folder_of path ≡ Some folder → Makes before folder held
      → after ≡ finmap.insert held path Folder → Makes before path after

-- there is such a folder
abbrev pub holds_folder : Contents → Option (List ℕ) → Bool
holds_folder contents None = false
holds_folder contents (Some path) = is_folder (finmap.get contents path)

-- a file can stand at a path: it has a folder, and isn't one
abbrev pub can_write : Contents → List ℕ → Bool
can_write contents path = holds_folder contents (folder_of path) && not (is_folder (finmap.get contents path))

-- ---- answers

-- the count never falls, and rose where the call failed
abbrev pub HasCause : {T : Type 0} → FolderAnswer T → ℕ → ℕ → Type 0
HasCause (Done x) before after = before ≤ after
HasCause Failed before after = (before ≤ after) × Rose before after
HasCause OutOfMemory before after = before ≤ after

-- what is said of the contents, where they are told and the call is done
abbrev pub Tells : {T : Type 0} → FolderAnswer T → Option Contents → (Contents → T → Type 0) → Type 0
Tells (Done x) (Some contents) says = says contents x
Tells (Done x) None says = ⊤
Tells Failed told says = ⊤
Tells OutOfMemory told says = ⊤

-- what a call leaves of the contents, where they are told: it changes them so where it is done, and else leaves them
abbrev pub Leaves : {T : Type 0} → FolderAnswer T → Option Contents → Option Contents → (Contents → Contents → Type 0) → Type 0
Leaves (Done x) (Some before) (Some after) changes = changes before after
Leaves (Done x) (Some before) None changes = ⊥
Leaves (Done x) None after changes = after ≡ None
Leaves Failed before after changes = after ≡ before
Leaves OutOfMemory before after changes = after ≡ before

-- ---- codes

-- what is stored, by the bytes of a file
abbrev pub stored_key : Stored → Option (List ℕ)
stored_key Folder = None
stored_key (FileOf bytes) = Some bytes

-- the same back
abbrev pub stored_from : Option (List ℕ) → Stored
stored_from None = Folder
stored_from (Some bytes) = FileOf bytes

-- its key gives it back
pub stored_back : (s : Stored) → stored_from (stored_key s) ≡ s
stored_back Folder = refl
stored_back (FileOf bytes) = refl

-- what is stored has codes
abbrev pub stored_code : Coded Stored
stored_code = code_by (Option (List ℕ)) (coded_option text_code) stored_key stored_from stored_back

-- what is held has codes
abbrev pub contents_code : Coded Contents
contents_code = finmap.code text_code stored_code

-- what folders show has codes
abbrev pub seen_code : Coded FoldersSeen
seen_code = code_by (Option Contents × ℕ) (coded× (coded_option contents_code) coded_ℕ) (λ f. (f.contents, f.faults)) (λ p. record { contents = p.0; faults = p.1 }) (λ _. refl)
