-- What a line reads as: its text, its fields, and a case for each command.
use Rattle.std.specs.Prelude.{ℕ, ◌+◌, ◌-◌, ◌*◌, ◌^◌, ◌==◌, ◌&&◌, ◌||◌, nat_lt, nat_le, not, Bool, if◌then◌else◌, List, [], ◌∷◌, ◌++◌, codes, Option, Some, None}
use Rattle.std.specs.Option.{option_map, option_and_then, option_or}
use Rattle.std.specs.Result.{result_ok}
use Rattle.std.specs.List.{list_all}
use Rattle.std.specs.Str.{is_utf8, bytes_eq}
use Rattle.hex.specs.Hex.{decode_of}
use Rattle.ty_model.specs.Values.{Answer, Content, Refused, NotFound, AccessDenied, IsDirectory, NotSource, InvalidUtf8, Other}
use Rattle.ty_model.specs.Batch.{MapPath, UnmapPath, Clear, ChangeSet}
use Rattle.ty_model.specs.Paths.{parts_at, is_absolute, clean, virtual_path}
use Rattle.session_grammar.specs.Command.{Target, Live, View, IdWord, PathWord, TagWord, ContentWord, BytesWord, MissingWord, RefusedWord, Command, Edit, MapId, UnmapId, Rootless, Snapshot, Read, Source, Line, Paths, Ids, Path, Clean}

-- ---- one field

-- the number that decimal digits write after the digits of n
abbrev pub decimal_from : ℕ → List ℕ → Option ℕ
decimal_from n [] = Some n
decimal_from n (d ∷ ds) = if nat_le 48 d && nat_le d 57 then decimal_from (10 * n + (d - 48)) ds else None

-- a number below 2 ^ 64
abbrev pub fits_64 : ℕ → Option ℕ
fits_64 n = if nat_lt n (2 ^ 64) then Some n else None

-- a number below 2 ^ 64 in decimal, without leading zeros
abbrev pub number_of : List ℕ → Option ℕ
number_of [] = None
number_of (d ∷ []) = decimal_from 0 (d ∷ [])
number_of (d ∷ e ∷ ds) = if d == 48 then None else option_and_then fits_64 (decimal_from 0 (d ∷ e ∷ ds))

-- the target of a number: 0 is the live state
abbrev pub target_at : ℕ → Target
target_at n = if n == 0 then Live else View n

-- the target that a number writes
abbrev pub target_of : List ℕ → Option Target
target_of word = option_map target_at (number_of word)

-- what stands after a sign
abbrev pub after_sign : ℕ → List ℕ → Option (List ℕ)
after_sign sign [] = None
after_sign sign (b ∷ rest) = if b == sign then Some rest else None

-- an absolute path that is its cleaned form
abbrev pub path_of : List ℕ → Option (List ℕ)
path_of word = if is_absolute word && bytes_eq word (clean word) then Some word else None

-- hexadecimal digits of either case, two for each byte
abbrev pub bytes_of : List ℕ → Option ContentWord
bytes_of digits = option_map BytesWord (result_ok (decode_of digits))

-- = and the digits of the bytes, or ! and the name of an error
abbrev pub content_of : List ℕ → Option ContentWord
content_of word =
    if bytes_eq word (codes "!not-found") then Some MissingWord
    else if bytes_eq word (codes "!access-denied") then Some (RefusedWord AccessDenied)
    else if bytes_eq word (codes "!is-directory") then Some (RefusedWord IsDirectory)
    else if bytes_eq word (codes "!not-source") then Some (RefusedWord NotSource)
    else if bytes_eq word (codes "!invalid-utf8") then Some (RefusedWord InvalidUtf8)
    else if bytes_eq word (codes "!other") then Some (RefusedWord (Other None))
    else option_and_then bytes_of (after_sign 61 word)

-- what a content says of a path: a missing file is missing there
abbrev pub answer_at : List ℕ → ContentWord → Answer
answer_at path (BytesWord bytes) = Content bytes
answer_at path MissingWord = Refused (NotFound path)
answer_at path (RefusedWord refusal) = Refused refusal

-- an id: # and a tag, or a path
abbrev pub id_of : List ℕ → Option IdWord
id_of word = option_or (option_map TagWord (option_and_then number_of (after_sign 35 word))) (option_map PathWord (path_of word))

-- a virtual path, as it is written: an absolute path that is its cleaned form
abbrev pub vpath_of : List ℕ → Option (List ℕ)
vpath_of word = option_and_then (λ path. result_ok (virtual_path path)) (path_of word)

-- the ids that all these fields write
abbrev pub ids_of : List (List ℕ) → Option (List IdWord)
ids_of [] = Some []
ids_of (word ∷ words) = option_and_then (λ id. option_map (λ ids. id ∷ ids) (ids_of words)) (id_of word)

-- ---- a change set: fields with removed paths, and with paths that each have their content

-- paths that are no longer told, and files that are
pub record Changes : Type 0 where
  pub removes : List (List ℕ)
  pub inserts : List (List ℕ × Answer)

-- no change
abbrev pub no_changes : Changes
no_changes = record { removes = []; inserts = [] }

-- these changes and those, each list in its order
abbrev pub with_changes : Changes → Changes → Changes
with_changes a b = record { removes = a.removes ++ b.removes; inserts = a.inserts ++ b.inserts }

-- both, where there are both
abbrev pub joined : Option Changes → Option Changes → Option Changes
joined (Some a) (Some b) = Some (with_changes a b)
joined a b = None

-- a path that is no longer told
abbrev pub removing : List ℕ → Changes
removing path = record { removes = path ∷ []; inserts = [] }

-- a path that is told to have this
abbrev pub telling : List ℕ → Answer → Changes
telling path answer = record { removes = []; inserts = (path, answer) ∷ [] }

-- a minus sign and a path
abbrev pub removal_of : List ℕ → Option Changes
removal_of word = option_map removing (option_and_then path_of (after_sign 45 word))

-- a told file, where there is a path and a content
abbrev pub told_of : Option (List ℕ) → Option ContentWord → Option Changes
told_of (Some path) (Some content) = Some (telling path (answer_at path content))
told_of path content = None

-- a plus sign and a path, and then its content
abbrev pub file_of : List ℕ → List ℕ → Option Changes
file_of word content = told_of (option_and_then path_of (after_sign 43 word)) (content_of content)

-- the changes that all these fields write
abbrev pub changes_of : List (List ℕ) → Option Changes
changes_of [] = Some no_changes
changes_of (word ∷ []) = joined (removal_of word) (Some no_changes)
changes_of (word ∷ next ∷ fields) = option_or (joined (removal_of word) (changes_of (next ∷ fields))) (joined (file_of word next) (changes_of fields))

-- ---- a case for each command: what stands after its first field

-- the command of map, where all its fields are good
abbrev pub map_of : Option Target → Option (List ℕ) → Option ContentWord → Option Command
map_of (Some target) (Some path) (Some content) = Some (Edit target (MapPath path (answer_at path content)))
map_of target path content = None

-- the command of unmap, where both its fields are good
abbrev pub unmap_of : Option Target → Option (List ℕ) → Option Command
unmap_of (Some target) (Some path) = Some (Edit target (UnmapPath path))
unmap_of target path = None

-- the command of map-id, where all its fields are good
abbrev pub map_id_of : Option Target → Option IdWord → Option ContentWord → Option Command
map_id_of (Some target) (Some id) (Some content) = Some (MapId target id content)
map_id_of target id content = None

-- both, where there are both
abbrev pub both_of : {A B : Type 0} → Option A → Option B → Option (A × B)
both_of (Some a) (Some b) = Some (a, b)
both_of a b = None

-- the command of line, where all its fields are good
abbrev pub line_sentence_of : Option ℕ → Option IdWord → Option ℕ → Option Command
line_sentence_of (Some view) (Some id) (Some offset) = Some (Line view id offset)
line_sentence_of view id offset = None

-- the command of clean, where all its fields are good
abbrev pub clean_of : Option Target → Option ℕ → Option (List IdWord) → Option Command
clean_of (Some target) (Some revision) (Some ids) = Some (Clean target revision ids)
clean_of target revision ids = None

-- the field, where there is one
abbrev pub one_of : List (List ℕ) → Option (List ℕ)
one_of (a ∷ []) = Some a
one_of fields = None

-- both fields, where there are two
abbrev pub two_of : List (List ℕ) → Option (List ℕ × List ℕ)
two_of (a ∷ b ∷ []) = Some (a, b)
two_of fields = None

-- all three fields, where there are three
abbrev pub three_of : List (List ℕ) → Option (List ℕ × List ℕ × List ℕ)
three_of (a ∷ b ∷ c ∷ []) = Some (a, b, c)
three_of fields = None

-- map TARGET PATH CONTENT
abbrev pub map_sentence : List (List ℕ) → Option Command
map_sentence fields = option_and_then (λ f. map_of (target_of f.0) (path_of f.1) (content_of f.2)) (three_of fields)

-- unmap TARGET PATH
abbrev pub unmap_sentence : List (List ℕ) → Option Command
unmap_sentence fields = option_and_then (λ f. unmap_of (target_of f.0) (path_of f.1)) (two_of fields)

-- notify, and any of -PATH and +PATH CONTENT: one change set on the live state
abbrev pub notify_sentence : List (List ℕ) → Option Command
notify_sentence fields = option_map (λ c. Edit Live (ChangeSet c.removes c.inserts)) (changes_of fields)

-- snapshot
abbrev pub snapshot_sentence : List (List ℕ) → Option Command
snapshot_sentence [] = Some Snapshot
snapshot_sentence fields = None

-- map-id TARGET ID CONTENT
abbrev pub map_id_sentence : List (List ℕ) → Option Command
map_id_sentence fields = option_and_then (λ f. map_id_of (target_of f.0) (id_of f.1) (content_of f.2)) (three_of fields)

-- VIEW and ID
abbrev pub view_and_id : List (List ℕ) → Option (ℕ × IdWord)
view_and_id fields = option_and_then (λ f. both_of (number_of f.0) (id_of f.1)) (two_of fields)

-- TARGET and ID
abbrev pub target_and_id : List (List ℕ) → Option (Target × IdWord)
target_and_id fields = option_and_then (λ f. both_of (target_of f.0) (id_of f.1)) (two_of fields)

-- read VIEW ID, and source VIEW ID
abbrev pub view_id_sentence : (ℕ → IdWord → Command) → List (List ℕ) → Option Command
view_id_sentence command fields = option_map (λ f. command f.0 f.1) (view_and_id fields)

-- path TARGET ID, and unmap-id TARGET ID
abbrev pub target_id_sentence : (Target → IdWord → Command) → List (List ℕ) → Option Command
target_id_sentence command fields = option_map (λ f. command f.0 f.1) (target_and_id fields)

-- line VIEW ID OFFSET
abbrev pub line_sentence : List (List ℕ) → Option Command
line_sentence fields = option_and_then (λ f. line_sentence_of (number_of f.0) (id_of f.1) (number_of f.2)) (three_of fields)

-- paths TARGET, and other commands of a target alone
abbrev pub target_sentence : (Target → Command) → List (List ℕ) → Option Command
target_sentence command fields = option_map command (option_and_then target_of (one_of fields))

-- clean TARGET REVISION, and any number of ids
abbrev pub clean_sentence : List (List ℕ) → Option Command
clean_sentence (target ∷ revision ∷ ids) = clean_of (target_of target) (number_of revision) (ids_of ids)
clean_sentence fields = None

-- rootless VPATH
abbrev pub rootless_sentence : List (List ℕ) → Option Command
rootless_sentence fields = option_map Rootless (option_and_then vpath_of (one_of fields))

-- the command that the first field names
abbrev pub sentence_of : List (List ℕ) → Option Command
sentence_of [] = None
sentence_of (word ∷ fields) =
    if bytes_eq word (codes "map") then map_sentence fields
    else if bytes_eq word (codes "snapshot") then snapshot_sentence fields
    else if bytes_eq word (codes "read") then view_id_sentence Read fields
    else if bytes_eq word (codes "unmap") then unmap_sentence fields
    else if bytes_eq word (codes "clear") then target_sentence (λ target. Edit target Clear) fields
    else if bytes_eq word (codes "notify") then notify_sentence fields
    else if bytes_eq word (codes "paths") then target_sentence Paths fields
    else if bytes_eq word (codes "map-id") then map_id_sentence fields
    else if bytes_eq word (codes "unmap-id") then target_id_sentence UnmapId fields
    else if bytes_eq word (codes "rootless") then rootless_sentence fields
    else if bytes_eq word (codes "ids") then target_sentence Ids fields
    else if bytes_eq word (codes "path") then target_id_sentence Path fields
    else if bytes_eq word (codes "source") then view_id_sentence Source fields
    else if bytes_eq word (codes "line") then line_sentence fields
    else if bytes_eq word (codes "clean") then clean_sentence fields
    else None

-- ---- lines

-- no control byte but a tab
abbrev pub is_plain : ℕ → Bool
is_plain b = (nat_le 32 b && not (b == 127)) || b == 9

-- UTF-8, and no control byte but the tabs between fields
abbrev pub is_text : List ℕ → Bool
is_text line = is_utf8 line && list_all is_plain line

-- the command that a line reads as; a line reads as at most one
abbrev pub command_of : List ℕ → Option Command
command_of line = if is_text line then sentence_of (parts_at 9 line) else None
