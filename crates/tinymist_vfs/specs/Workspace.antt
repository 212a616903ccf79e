-- What kind of root an id has, the ids of workspaces, and an id as a text.
use Rattle.std.specs.Prelude.{◌≡◌, ℕ, ◌+◌, Bool, true, false, if◌then◌else◌, not, List, ◌++◌, codes, Option, Some, None, Result, Ok, Err, ⊤}
use Rattle.ty_model.specs.Values as plain
use Rattle.ty_model.specs.Values.{Id, Root, Refusal}
use Rattle.ty_model.specs.Places.{interned, is_workspace_spec}
use Rattle.ty_model.specs.Paths.{realize, without_slash}
use Rattle.ty_model.specs.Counters.{Counters}
use Rattle.ty_path.specs.Shared.{path_text}
use Rattle.ty_syntax.specs.Id.{tagged}
use Rattle.ty_syntax.specs.Error.{refusal_of}
use Rattle.ty_syntax.specs.Spec.{spec_text}
use Rattle.ty_syntax.specs.declared.error.FileFault.{FileFault}
use Rattle.ty_syntax.specs.declared.error.FileFault.TheVariants.{File, OutOfMemory}
use Rattle.tinymist_vfs.specs.declared.ids.workspace.WorkspaceResolution.{WorkspaceResolution}
use Rattle.tinymist_vfs.specs.declared.ids.workspace.WorkspaceResolution.TheVariants.{Workspace, UntitledRooted, Rootless, Package}

-- what an id stands in
pub data Kind : Type 0 where
  InWorkspace : (root : List ℕ) → Kind
  Untitled : (root : List ℕ) → Kind
  NoRoot : Kind
  InPackage : Kind

-- the kind of a root; a package that names files of a workspace is refused
abbrev pub kind_in : Root → Result Kind Refusal
kind_in plain.Project = Ok NoRoot
kind_in (plain.Workspace root) = Ok (InWorkspace root)
kind_in (plain.UntitledRooted root) = Ok (Untitled root)
kind_in (plain.Package spec) = if is_workspace_spec spec then Err (plain.Other None) else Ok InPackage

-- what is answered of an id, as a kind
abbrev pub kind_of : WorkspaceResolution → Kind
kind_of (Workspace id) = InWorkspace (path_text id.root)
kind_of (UntitledRooted id) = Untitled (path_text id.root)
kind_of Rootless = NoRoot
kind_of Package = InPackage

-- this is the kind of a root, unless memory is wanting
abbrev pub SaysKind : Result Kind Refusal → Result WorkspaceResolution FileFault → Type 0
SaysKind kind (Ok resolution) = kind ≡ Ok (kind_of resolution)
SaysKind kind (Err (File error)) = kind ≡ Err (refusal_of error)
SaysKind kind (Err OutOfMemory) = ⊤

-- the root is a workspace, with a path or without
abbrev pub is_workspace_root : Root → Bool
is_workspace_root plain.Project = false
is_workspace_root (plain.Workspace root) = true
is_workspace_root (plain.UntitledRooted root) = true
is_workspace_root (plain.Package spec) = false

-- the root is a package that names no files of a workspace
abbrev pub is_package_root : Root → Bool
is_package_root plain.Project = false
is_package_root (plain.Workspace root) = false
is_package_root (plain.UntitledRooted root) = false
is_package_root (plain.Package spec) = not (is_workspace_spec spec)

-- ---- ids in a workspace, if there is one

-- the file of a workspace, and of nothing with this tag
abbrev pub file_in : Option (List ℕ) → List ℕ → ℕ → Id
file_in (Some root) vpath tag = interned (plain.Workspace root) vpath
file_in None vpath tag = tagged plain.Project vpath tag

-- the counters after the id of such a file is made
abbrev pub counted_in : Option (List ℕ) → Counters → Counters
counted_in (Some root) tags = tags
counted_in None tags = record tags { next_id = tags.next_id + 1 }

-- the root of an untitled file: in a workspace, if there is one
abbrev pub untitled_in : Option (List ℕ) → Root
untitled_in (Some root) = plain.UntitledRooted root
untitled_in None = plain.Project

-- ---- ids as texts

-- a path below a workspace, the path of an untitled file, or a package and the path in it
abbrev pub text_in : Root → List ℕ → List ℕ
text_in plain.Project vpath = vpath
text_in (plain.Workspace root) vpath = realize root vpath
text_in (plain.UntitledRooted root) vpath = without_slash vpath
text_in (plain.Package spec) vpath = spec_text spec ++ vpath

-- an id as a text for people; there may be none
abbrev pub id_text : Option Id → List ℕ
id_text None = codes "unresolved-path"
id_text (Some id) = text_in id.root id.vpath
