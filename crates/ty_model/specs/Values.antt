-- Ids and answers as plain data. A text, a path and some bytes are lists of bytes.
use Rattle.std.specs.Prelude.{ℕ, Bool, List, [], ◌∷◌, Option, Some, None}
use Rattle.std.specs.Ordering.{nat_cmp, is_eq}
use Rattle.std.specs.Cmp.Lexicographic.{slice_cmp}
use Rattle.std.specs.declared.cmp.Ordering.{Ordering}

-- the version of a package
pub record Numbers : Type 0 where
  pub major : ℕ
  pub minor : ℕ
  pub patch : ℕ

-- a package specification
pub record Spec : Type 0 where
  pub namespace : List ℕ
  pub name : List ℕ
  pub numbers : Numbers

-- what a virtual path stands below: nothing, a folder, a folder for a file without a path yet, or a package
pub data Root : Type 0 where
  Project : Root
  Workspace : (root : List ℕ) → Root
  UntitledRooted : (root : List ℕ) → Root
  Package : (spec : Spec) → Root

-- an id: two are equal where these three are
pub record Id : Type 0 where
  pub root : Root
  pub vpath : List ℕ
  pub tag : ℕ

-- what is wrong with a package; a version that is not known comes with the latest one that is
pub data PackageRefusal : Type 0 where
  NoPackage : (spec : Spec) → PackageRefusal
  NoVersion : (spec : Spec) (latest : Numbers) → PackageRefusal
  NetworkFailed : (text : Option (List ℕ)) → PackageRefusal
  MalformedArchive : (text : Option (List ℕ)) → PackageRefusal
  OtherPackage : (text : Option (List ℕ)) → PackageRefusal

-- what is wrong with a file
pub data Refusal : Type 0 where
  NotFound : (path : List ℕ) → Refusal
  AccessDenied : Refusal
  IsDirectory : Refusal
  NotSource : Refusal
  InvalidUtf8 : Refusal
  OfPackage : (refusal : PackageRefusal) → Refusal
  Other : (text : Option (List ℕ)) → Refusal

-- what a layer or a disk says of a file
pub data Answer : Type 0 where
  Content : (bytes : List ℕ) → Answer
  Refused : (refusal : Refusal) → Answer

-- ---- the order of ids: by root, then virtual path, then tag

-- the parts of a specification, as a key
abbrev pub spec_key : Spec → List (List ℕ)
spec_key s = s.namespace ∷ s.name ∷ (s.numbers.major ∷ s.numbers.minor ∷ s.numbers.patch ∷ []) ∷ []

-- the kind of a root and its parts, as a key
abbrev pub root_key : Root → List (List ℕ)
root_key Project = (0 ∷ []) ∷ []
root_key (Workspace root) = (1 ∷ []) ∷ root ∷ []
root_key (UntitledRooted root) = (2 ∷ []) ∷ root ∷ []
root_key (Package spec) = (3 ∷ []) ∷ spec_key spec

-- the root, the virtual path and the tag of an id, as a key
abbrev pub id_key : Id → List (List (List ℕ))
id_key i = root_key i.root ∷ (i.vpath ∷ []) ∷ ((i.tag ∷ []) ∷ []) ∷ []

-- texts are ordered by their bytes
abbrev pub text_cmp : List ℕ → List ℕ → Ordering
text_cmp = slice_cmp nat_cmp

-- specifications are ordered by their keys
abbrev pub spec_cmp : Spec → Spec → Ordering
spec_cmp a b = slice_cmp text_cmp (spec_key a) (spec_key b)

-- ids are ordered by their keys
abbrev pub id_cmp : Id → Id → Ordering
id_cmp a b = slice_cmp (slice_cmp text_cmp) (id_key a) (id_key b)

-- ---- answers as keys, by which they are compared

-- a text that may be missing, as a key
abbrev pub option_key : Option (List ℕ) → List (List ℕ)
option_key None = []
option_key (Some text) = text ∷ []

-- the numbers of a version, as a key
abbrev pub numbers_key : Numbers → List ℕ
numbers_key n = n.major ∷ n.minor ∷ n.patch ∷ []

-- what is wrong with a package, as a key
abbrev pub package_key : PackageRefusal → List (List ℕ)
package_key (NoPackage spec) = (0 ∷ []) ∷ spec_key spec
package_key (NoVersion spec latest) = (1 ∷ []) ∷ numbers_key latest ∷ spec_key spec
package_key (NetworkFailed text) = (2 ∷ []) ∷ option_key text
package_key (MalformedArchive text) = (3 ∷ []) ∷ option_key text
package_key (OtherPackage text) = (4 ∷ []) ∷ option_key text

-- what is wrong with a file, as a key
abbrev pub refusal_key : Refusal → List (List ℕ)
refusal_key (NotFound path) = (1 ∷ []) ∷ path ∷ []
refusal_key AccessDenied = (2 ∷ []) ∷ []
refusal_key IsDirectory = (3 ∷ []) ∷ []
refusal_key NotSource = (4 ∷ []) ∷ []
refusal_key InvalidUtf8 = (5 ∷ []) ∷ []
refusal_key (OfPackage refusal) = (6 ∷ []) ∷ package_key refusal
refusal_key (Other text) = (7 ∷ []) ∷ option_key text

-- an answer, as a key
abbrev pub answer_key : Answer → List (List ℕ)
answer_key (Content bytes) = (0 ∷ []) ∷ bytes ∷ []
answer_key (Refused refusal) = refusal_key refusal

-- two answers are the same
abbrev pub same_answer : Answer → Answer → Bool
same_answer a b = is_eq (slice_cmp text_cmp (answer_key a) (answer_key b))
