-- What a resolver says of a package and of an id.
use Rattle.std.specs.Prelude.{◌≡◌, ℕ, if◌then◌else◌, List, Option, Some, None, Result, Ok, Err, ⊤}
use Rattle.std.specs.Option.{option_map}
use Rattle.std.specs.String.{string_bytes}
use Rattle.std.specs.declared.sync.Arc.{Arc}
use Rattle.std.specs.declared.string.String.{String}
use Rattle.std.specs.declared.alloc.Global.{Global}
use Rattle.ty_model.specs.Values.{Id, Root, Project, Workspace, UntitledRooted, Package, Refusal, Other}
use Rattle.ty_model.specs.Places.{Resolver, At, Rootless, RefusedAt, place_of, package_root, is_workspace_spec}
use Rattle.ty_syntax.specs.Below.{IsBelow}
use Rattle.ty_syntax.specs.declared.error.FileError.TheVariants.{AccessDenied}
use Rattle.ty_path.specs.Shared.{path_text}
use Rattle.ty_syntax.specs.Error.{refusal_of}
use Rattle.ty_syntax.specs.declared.error.FileFault.{FileFault}
use Rattle.ty_syntax.specs.declared.error.FileFault.TheVariants.{File, OutOfMemory}
use Rattle.tinymist_vfs.specs.declared.ids.resolver.PathResolution.{PathResolution}
use Rattle.tinymist_vfs.specs.declared.ids.resolver.PathResolution.TheVariants as resolution

-- this is the root of a package, unless memory is wanting
abbrev pub SaysRoot : Result (List ℕ) Refusal → Result (Arc (String Global) Global) FileFault → Type 0
SaysRoot root (Ok path) = root ≡ Ok (path_text path)
SaysRoot root (Err (File error)) = root ≡ Err (refusal_of error)
SaysRoot root (Err OutOfMemory) = ⊤

-- an id stands there, unless memory is wanting
abbrev pub SaysPlace : Resolver → Id → Result PathResolution FileFault → Type 0
SaysPlace resolver id (Ok (resolution.Resolved path)) = place_of resolver id ≡ At (string_bytes path)
SaysPlace resolver id (Ok (resolution.Rootless vpath)) = (place_of resolver id ≡ Rootless) × (vpath ≡ id.vpath)
SaysPlace resolver id (Err (File error)) = place_of resolver id ≡ RefusedAt (refusal_of error)
SaysPlace resolver id (Err OutOfMemory) = ⊤

-- the path of a resolution, or that access is denied
abbrev pub path_in : PathResolution → Result (String Global) FileFault
path_in (resolution.Resolved path) = Ok path
path_in (resolution.Rootless vpath) = Err (File AccessDenied)

-- ---- the root of an id

-- a root that there is, or why there is none
abbrev pub some_root : Result (List ℕ) Refusal → Result (Option (List ℕ)) Refusal
some_root (Ok root) = Ok (Some root)
some_root (Err refusal) = Err refusal

-- the folder that a root stands for, if there is one, or why its package is refused
abbrev pub root_in : Resolver → Root → Result (Option (List ℕ)) Refusal
root_in resolver Project = Ok None
root_in resolver (Workspace root) = Ok (Some root)
root_in resolver (UntitledRooted root) = Ok (Some root)
root_in resolver (Package spec) = if is_workspace_spec spec then Err (Other None) else some_root (package_root resolver spec)

-- the same of the root of an id
abbrev pub root_of_id : Resolver → Id → Result (Option (List ℕ)) Refusal
root_of_id resolver id = root_in resolver id.root

-- this is the root of an id, unless memory is wanting
abbrev pub SaysIdRoot : Result (Option (List ℕ)) Refusal → Result (Option (Arc (String Global) Global)) FileFault → Type 0
SaysIdRoot root (Ok path) = root ≡ Ok (option_map path_text path)
SaysIdRoot root (Err (File error)) = root ≡ Err (refusal_of error)
SaysIdRoot root (Err OutOfMemory) = ⊤

-- a path that is given stands below the root of its id
abbrev pub StandsBelow : Result (Option (List ℕ)) Refusal → Result PathResolution FileFault → Type 0
StandsBelow root (Ok (resolution.Resolved path)) = (below : List ℕ) × (root ≡ Ok (Some below)) × IsBelow below (string_bytes path)
StandsBelow root (Ok (resolution.Rootless vpath)) = ⊤
StandsBelow root (Err fault) = ⊤
