-- The path of an id: packages' roots, and what a resolver says of an id.
use Rattle.std.specs.Prelude.{ℕ, Bool, if◌then◌else◌, List, codes, Option, Some, None, Result, Ok, Err}
use Rattle.std.specs.Str.{bytes_eq}
use Rattle.std.specs.FinMap as map
use Rattle.ty_model.specs.Values.{Spec, spec_cmp, Root, Project, Workspace, UntitledRooted, Package, Id, PackageRefusal, NoPackage, Refusal, OfPackage, Other}
use Rattle.ty_model.specs.Paths.{is_absolute, clean, parent, file_name, realize, virtual_path, PathRefusal}

-- the packages that are listed, each with its root or a refusal; a package that isn't listed is not found
abbrev pub Resolver : Type 0
Resolver = map.FinMap spec_cmp (Result (List ℕ) PackageRefusal)

-- where an id stands: at a path, nowhere, or nowhere because of a refusal
pub data Place : Type 0 where
  At : (path : List ℕ) → Place
  Rootless : Place
  RefusedAt : (refusal : Refusal) → Place

-- what a listing says of a package
abbrev pub listed_root : Spec → Option (Result (List ℕ) PackageRefusal) → Result (List ℕ) Refusal
listed_root spec None = Err (OfPackage (NoPackage spec))
listed_root spec (Some (Err refusal)) = Err (OfPackage refusal)
listed_root spec (Some (Ok root)) = Ok root

-- the root of a package, or why it has none
abbrev pub package_root : Resolver → Spec → Result (List ℕ) Refusal
package_root resolver spec = listed_root spec (map.get resolver spec)

-- a virtual path in a package with this root
abbrev pub place_below : Result (List ℕ) Refusal → List ℕ → Place
place_below (Ok root) vpath = At (realize root vpath)
place_below (Err refusal) vpath = RefusedAt refusal

-- packages of this namespace name files of a workspace, and have no path
abbrev pub is_workspace_spec : Spec → Bool
is_workspace_spec spec = bytes_eq spec.namespace (codes "ws")

-- where a virtual path below a root stands
abbrev pub place_in : Resolver → List ℕ → Root → Place
place_in resolver vpath Project = Rootless
place_in resolver vpath (Workspace root) = At (realize root vpath)
place_in resolver vpath (UntitledRooted root) = Rootless
place_in resolver vpath (Package spec) =
    if is_workspace_spec spec then RefusedAt (Other None)
    else place_below (package_root resolver spec) vpath

-- where an id stands
abbrev pub place_of : Resolver → Id → Place
place_of resolver id = place_in resolver id.vpath id.root

-- ---- ids

-- a root as it is stored: that of a workspace is cleaned
abbrev pub stored_root : Root → Root
stored_root (Workspace root) = Workspace (clean root)
stored_root (UntitledRooted root) = UntitledRooted (clean root)
stored_root Project = Project
stored_root (Package spec) = Package spec

-- the id without a tag
abbrev pub interned : Root → List ℕ → Id
interned root vpath = record { root = stored_root root; vpath = vpath; tag = 0 }

-- the id in a workspace, where the virtual path is one
abbrev pub workspace_id : List ℕ → Result (List ℕ) PathRefusal → Option Id
workspace_id root (Ok vpath) = Some (interned (Workspace root) vpath)
workspace_id root (Err refusal) = None

-- the id of a file name in a folder, where there are both
abbrev pub id_below : Option (List ℕ) → Option (List ℕ) → Option Id
id_below (Some root) (Some name) = workspace_id root (virtual_path name)
id_below (Some root) None = None
id_below None name = None

-- the id of an absolute path: its parent is the workspace, and its file name the virtual path
abbrev pub id_by_parent : List ℕ → Option Id
id_by_parent path = if is_absolute path then id_below (parent path) (file_name path) else None

-- the main file of an editor that has none open
abbrev pub detached_entry : Id
detached_entry = record { root = Project; vpath = codes "/__detached.typ"; tag = 1 }

-- the main file in memory
abbrev pub memory_main_entry : Id
memory_main_entry = record { root = Project; vpath = codes "/__main__.typ"; tag = 2 }
