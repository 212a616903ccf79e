-- What the code keeps of a state: for each space its number, its last version and change revisions, and what has a tag.
use Rattle.std.specs.Prelude.{◌≡◌, ◌≢◌, ℕ, ◌-◌, ◌==◌, if◌then◌else◌, List, [], ◌∷◌, map, max, slice_get, Option, Some, None, Result, Ok, Err, String, string_bytes, ⊤}
use Rattle.std.specs.FinMap as finmap
use Rattle.std.specs.declared.alloc.Global.{Global}
use Rattle.ty_model.specs.Places.{Resolver}
use Rattle.ty_model.specs.Values.{Answer, Content, Refused}
use Rattle.ty_model.specs.Version.{Version}
use Rattle.ty_model.specs.Held.{Kept, version_of, Standing}
use Rattle.ty_model.specs.Space.{Space}
use Rattle.ty_syntax.specs.Error.{refusal_of}
use Rattle.ty_syntax.specs.declared.error.FileFault.{FileFault}
use Rattle.ty_syntax.specs.declared.error.FileFault.TheVariants.{File, OutOfMemory}
use Rattle.tinymist_vfs.specs.declared.ids.resolver.MockRootResolver.{MockRootResolver}
use Rattle.tinymist_session.specs.declared.machine.tags.TaggedIds.{TaggedIds}
use Rattle.tinymist_session.specs.declared.machine.Machine.{Machine}
use Rattle.session_grammar.specs.Command.{Target, Live, View}
use Rattle.tinymist_session.specs.Machine.{State}

-- the packages of the session's resolver: none
abbrev pub known : MockRootResolver → Resolver
known resolver = finmap.empty

-- the number and the version that a value shows
abbrev pub shown : Kept MockRootResolver → ℕ × Version
shown k = (k.held.space, version_of known k)

-- a space as its number and its last version
abbrev pub space_shown : Space → ℕ × Version
space_shown s = (s.number, s.now)

-- the greatest revision of these spaces
abbrev pub highest : List (ℕ × Version) → ℕ
highest [] = 0
highest (s ∷ ss) = max s.1.revision (highest ss)

-- the greatest revision of all spaces that are kept
abbrev pub top_revision : Kept MockRootResolver → List (Kept MockRootResolver) → ℕ
top_revision live views = highest (map shown (live ∷ views))

-- the greater of the next numbers of a space and of an id
abbrev pub next_number : TaggedIds → ℕ
next_number tags = max tags.counters.next_space tags.counters.next_id

-- a value shows a space: its number and its last version, and its change revisions stand for all versions
pub record Shows (k : Kept MockRootResolver) (s : Space) : Type 0 where
  pub same : shown k ≡ space_shown s
  pub stands : Standing known k s.past

-- each value shows the space of its place
abbrev pub AllShow : List (Kept MockRootResolver) → List Space → Type 0
AllShow [] [] = Unit {0}
AllShow [] (s ∷ spaces) = ⊥
AllShow (k ∷ kept) [] = ⊥
AllShow (k ∷ kept) (s ∷ spaces) = Shows k s × AllShow kept spaces

-- the code shows these parts of the state
pub record IsShown (live : Kept MockRootResolver) (views : List (Kept MockRootResolver)) (tags : TaggedIds) (s : State) : Type 0 where
  pub live_is : Shows live s.live
  pub views_are : AllShow views s.views
  pub next : tags.counters.next_space ≡ s.next_space
  pub next_tag : tags.counters.next_id ≡ s.next_tag
  pub tagged : tags.ids.items ≡ s.tagged

-- the machine shows the state
abbrev pub MachineShows : Machine → State → Type 0
MachineShows m s = IsShown m.live m.views.items m.tags s

-- the greatest revision of all spaces of a machine
abbrev pub top_of : Machine → ℕ
top_of m = top_revision m.live m.views.items

-- what is kept of view k, where 0 is none
abbrev pub kept_at : List (Kept MockRootResolver) → ℕ → Option (Kept MockRootResolver)
kept_at views k = if k == 0 then None else slice_get views (k - 1)

-- what is kept of a target
abbrev pub target_kept : Kept MockRootResolver → List (Kept MockRootResolver) → Target → Option (Kept MockRootResolver)
target_kept live views Live = Some live
target_kept live views (View k) = kept_at views k

-- each space that is there, but the one of a target, is kept as it was
abbrev pub KeepsOthers : Option Target → Machine → Machine → Type 0
KeepsOthers target before after = (other : Target) (space : Kept MockRootResolver) → target ≢ Some other
    → target_kept before.live before.views.items other ≡ Some space → target_kept after.live after.views.items other ≡ Some space

-- the text that is given is that of this answer, or the error is its refusal
abbrev pub GivesText : Answer → Result (String Global) FileFault → Type 0
GivesText answer (Ok text) = answer ≡ Content (string_bytes text)
GivesText answer (Err (File error)) = answer ≡ Refused (refusal_of error)
GivesText answer (Err OutOfMemory) = ⊤
