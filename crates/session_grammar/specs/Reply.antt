-- The replies of a session, and the line of each.
use Rattle.std.specs.Prelude.{ℕ, Bool, true, false, List, [], ◌∷◌, ◌++◌, map, codes, Option, Some, None}
use Rattle.std.specs.Fmt.{decimal}
use Rattle.hex.specs.Hex.{encode_lower}
use Rattle.ty_model.specs.Paths.{realize}
use Rattle.ty_model.specs.Values.{Id, Root, Project, Workspace, UntitledRooted, Package, Answer, Content, Refused, Refusal, NotFound, AccessDenied, IsDirectory, NotSource, InvalidUtf8, OfPackage, Other}
use Rattle.ty_model.specs.Places as places
use Rattle.ty_syntax.specs.Lines.{Place, place}
use Rattle.ty_syntax.specs.Spec.{spec_text}

-- what a line is answered
pub data Reply : Type 0 where
  AtRevision : (revision : ℕ) → Reply
  ViewNumber : (number : ℕ) → Reply
  Contents : (bytes : List ℕ) → Reply
  Text : (text : List ℕ) → Reply
  AtPlace : (place : Place) → Reply
  Fails : (refusal : Refusal) → Reply
  PathList : (paths : List (List ℕ)) → Reply
  IdList : (ids : List Id) → Reply
  IdTag : (tag : ℕ) → Reply
  AtPath : (path : List ℕ) → Reply
  RootlessAt : (vpath : List ℕ) → Reply
  IsClean : (clean : Bool) → Reply
  BadView : Reply
  BadId : Reply
  BadRevision : Reply
  BadOffset : Reply

-- the reply to a read
abbrev pub reply_to : Answer → Reply
reply_to (Content bytes) = Contents bytes
reply_to (Refused refusal) = Fails refusal

-- the reply with a source
abbrev pub text_reply : Answer → Reply
text_reply (Content text) = Text text
text_reply (Refused refusal) = Fails refusal

-- the reply with a place, if there is one
abbrev pub at_reply : Option Place → Reply
at_reply (Some at) = AtPlace at
at_reply None = BadOffset

-- the reply with the place of an offset in a source
abbrev pub line_reply : ℕ → Answer → Reply
line_reply offset (Content text) = at_reply (place text offset)
line_reply offset (Refused refusal) = Fails refusal

-- the reply with where an id stands
abbrev pub place_reply : Id → places.Place → Reply
place_reply id (places.At path) = AtPath path
place_reply id places.Rootless = RootlessAt id.vpath
place_reply id (places.RefusedAt refusal) = Fails refusal

-- the name of a refusal
abbrev pub fail_word : Refusal → List ℕ
fail_word (NotFound path) = codes "not-found"
fail_word AccessDenied = codes "access-denied"
fail_word IsDirectory = codes "is-directory"
fail_word NotSource = codes "not-source"
fail_word InvalidUtf8 = codes "invalid-utf8"
fail_word (OfPackage refusal) = codes "package"
fail_word (Other text) = codes "other"

-- an id of a root as it is written: the path below a workspace, the package and the path in it, or the tag
abbrev pub word_in : List ℕ → ℕ → Root → List ℕ
word_in vpath tag Project = codes "#" ++ decimal tag
word_in vpath tag (UntitledRooted root) = codes "#" ++ decimal tag
word_in vpath tag (Workspace root) = realize root vpath
word_in vpath tag (Package spec) = spec_text spec ++ vpath

-- an id as it is written
abbrev pub id_word : Id → List ℕ
id_word id = word_in id.vpath id.tag id.root

-- the name of a clean answer
abbrev pub clean_word : Bool → List ℕ
clean_word true = codes "clean"
clean_word false = codes "dirty"

-- the fields of a reply
abbrev pub fields_of : Reply → List (List ℕ)
fields_of (AtRevision revision) = codes "ok" ∷ decimal revision ∷ []
fields_of (ViewNumber number) = codes "view" ∷ decimal number ∷ []
fields_of (Contents bytes) = codes "bytes" ∷ encode_lower bytes ∷ []
fields_of (Text text) = codes "text" ∷ encode_lower text ∷ []
fields_of (AtPlace at) = codes "at" ∷ decimal at.line ∷ decimal at.column ∷ decimal at.unit ∷ []
fields_of (Fails refusal) = codes "fail" ∷ fail_word refusal ∷ []
fields_of (PathList paths) = codes "paths" ∷ paths
fields_of (IdList ids) = codes "ids" ∷ map id_word ids
fields_of (IdTag tag) = codes "id" ∷ (codes "#" ++ decimal tag) ∷ []
fields_of (AtPath path) = codes "path" ∷ path ∷ []
fields_of (RootlessAt vpath) = codes "rootless" ∷ vpath ∷ []
fields_of (IsClean clean) = clean_word clean ∷ []
fields_of BadView = codes "err" ∷ codes "view" ∷ []
fields_of BadId = codes "err" ∷ codes "id" ∷ []
fields_of BadRevision = codes "err" ∷ codes "revision" ∷ []
fields_of BadOffset = codes "err" ∷ codes "offset" ∷ []

-- the fields with a tab between
abbrev pub tabbed : List (List ℕ) → List ℕ
tabbed [] = []
tabbed (field ∷ []) = field
tabbed (field ∷ next ∷ fields) = field ++ 9 ∷ tabbed (next ∷ fields)

-- the line of a reply: its fields, ended by LF
abbrev pub reply_line : Reply → List ℕ
reply_line reply = tabbed (fields_of reply) ++ 10 ∷ []
