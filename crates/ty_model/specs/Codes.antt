-- Each value can be read back from its key, so it has a code, and the order of keys is one of values.
use Rattle.std.specs.Prelude.{◌≡◌, ℕ, ◌==◌, if◌then◌else◌, List, [], ◌∷◌, slice_index, Option, Some, None, refl}
use Rattle.std.specs.Prelude.{slice_index_or}
use Rattle.std.specs.FinMap as map
use Rattle.std.specs.Coded.{Coded, code_by, coded×, coded_ℕ, coded_list}
use Rattle.ty_model.specs.Values.{id_cmp, text_cmp, Numbers, Spec, Root, Project, Workspace, UntitledRooted, Package, root_key, Id, PackageRefusal, NoPackage, NoVersion, NetworkFailed, MalformedArchive, OtherPackage, package_key, Refusal, NotFound, AccessDenied, IsDirectory, NotSource, InvalidUtf8, OfPackage, Other, refusal_key, Answer, Content, Refused, answer_key, option_key}
use Rattle.ty_model.specs.Disk.{Rest, NothingElse, AllDenied, Told}
use Rattle.ty_model.specs.Version.{Stamp, Layers}

-- the text at i of a key
abbrev text_at : List (List ℕ) → ℕ → List ℕ
text_at ks i = slice_index_or ks i []

-- the number of the case that a key is of
abbrev kind_of : List (List ℕ) → ℕ
kind_of ks = slice_index (text_at ks 0) 0

-- the texts of a key after the first
abbrev tail_of : List (List ℕ) → List (List ℕ)
tail_of [] = []
tail_of (k ∷ ks) = ks

-- a text that may be missing, from its key
abbrev pub option_from : List (List ℕ) → Option (List ℕ)
option_from [] = None
option_from (text ∷ texts) = Some text

-- its key gives it back
pub option_back : (text : Option (List ℕ)) → option_from (option_key text) ≡ text
option_back None = refl
option_back (Some text) = refl

-- the numbers of a version, from their key
abbrev pub numbers_from : List ℕ → Numbers
numbers_from ns = record { major = slice_index ns 0; minor = slice_index ns 1; patch = slice_index ns 2 }

-- a package specification, from its key
abbrev pub spec_from : List (List ℕ) → Spec
spec_from ks = record { namespace = text_at ks 0; name = text_at ks 1; numbers = numbers_from (text_at ks 2) }

-- a root, from its key
abbrev pub root_from : List (List ℕ) → Root
root_from ks =
    if kind_of ks == 0 then Project
    else if kind_of ks == 1 then Workspace (text_at ks 1)
    else if kind_of ks == 2 then UntitledRooted (text_at ks 1)
    else Package (spec_from (tail_of ks))

-- the key of a root gives it back
pub root_back : (root : Root) → root_from (root_key root) ≡ root
root_back Project = refl
root_back (Workspace root) = refl
root_back (UntitledRooted root) = refl
root_back (Package spec) = refl

-- what is wrong with a package, from its key
abbrev pub package_from : List (List ℕ) → PackageRefusal
package_from ks =
    if kind_of ks == 0 then NoPackage (spec_from (tail_of ks))
    else if kind_of ks == 1 then NoVersion (spec_from (tail_of (tail_of ks))) (numbers_from (text_at ks 1))
    else if kind_of ks == 2 then NetworkFailed (option_from (tail_of ks))
    else if kind_of ks == 3 then MalformedArchive (option_from (tail_of ks))
    else OtherPackage (option_from (tail_of ks))

-- the key of what is wrong with a package gives it back
pub package_back : (refusal : PackageRefusal) → package_from (package_key refusal) ≡ refusal
package_back (NoPackage spec) = refl
package_back (NoVersion spec latest) = refl
package_back (NetworkFailed None) = refl
package_back (NetworkFailed (Some text)) = refl
package_back (MalformedArchive None) = refl
package_back (MalformedArchive (Some text)) = refl
package_back (OtherPackage None) = refl
package_back (OtherPackage (Some text)) = refl

-- an answer, from its key
abbrev pub answer_from : List (List ℕ) → Answer
answer_from ks =
    if kind_of ks == 0 then Content (text_at ks 1)
    else if kind_of ks == 1 then Refused (NotFound (text_at ks 1))
    else if kind_of ks == 2 then Refused AccessDenied
    else if kind_of ks == 3 then Refused IsDirectory
    else if kind_of ks == 4 then Refused NotSource
    else if kind_of ks == 5 then Refused InvalidUtf8
    else if kind_of ks == 6 then Refused (OfPackage (package_from (tail_of ks)))
    else Refused (Other (option_from (tail_of ks)))

-- the key of what is wrong with a file gives it back
refusal_back : (refusal : Refusal) → answer_from (refusal_key refusal) ≡ Refused refusal
refusal_back (NotFound path) = refl
refusal_back AccessDenied = refl
refusal_back IsDirectory = refl
refusal_back NotSource = refl
refusal_back InvalidUtf8 = refl
refusal_back (OfPackage refusal) = λ i. Refused (OfPackage (package_back refusal i))
refusal_back (Other None) = refl
refusal_back (Other (Some text)) = refl

-- the key of an answer gives it back
pub answer_back : (answer : Answer) → answer_from (answer_key answer) ≡ answer
answer_back (Content bytes) = refl
answer_back (Refused refusal) = refusal_back refusal

-- ---- codes

-- texts have codes
abbrev pub text_code : Coded (List ℕ)
text_code = coded_list coded_ℕ

-- lists of texts have codes
abbrev pub texts_code : Coded (List (List ℕ))
texts_code = coded_list text_code

-- roots have codes
abbrev pub root_code : Coded Root
root_code = code_by (List (List ℕ)) texts_code root_key root_from root_back

-- ids have codes
abbrev pub id_code : Coded Id
id_code = code_by (Root × (List ℕ × ℕ)) (coded× root_code (coded× text_code coded_ℕ)) (λ i. (i.root, (i.vpath, i.tag))) (λ p. record { root = p.0; vpath = p.1.0; tag = p.1.1 }) (λ _. refl)

-- answers have codes
abbrev pub answer_code : Coded Answer
answer_code = code_by (List (List ℕ)) texts_code answer_key answer_from answer_back

-- stamps have codes
abbrev pub stamp_code : Coded Stamp
stamp_code = code_by (ℕ × ℕ) (coded× coded_ℕ coded_ℕ) (λ s. (s.space, s.revision)) (λ p. record { space = p.0; revision = p.1 }) (λ _. refl)

-- layers have codes
abbrev pub layers_code : Coded Layers
layers_code = code_by (map.FinMap id_cmp Answer × (map.FinMap text_cmp Answer × (map.FinMap text_cmp Answer × map.FinMap text_cmp Stamp)))
    (coded× (map.code id_code answer_code) (coded× (map.code text_code answer_code) (coded× (map.code text_code answer_code) (map.code text_code stamp_code))))
    (λ l. (l.by_id, (l.by_path, (l.told, l.drops))))
    (λ p. record { by_id = p.0; by_path = p.1.0; told = p.1.1.0; drops = p.1.1.1 })
    (λ _. refl)

-- a rest as a number
abbrev pub rest_key : Rest → ℕ
rest_key NothingElse = 0
rest_key AllDenied = 1

-- a rest, from its number
abbrev pub rest_from : ℕ → Rest
rest_from n = if n == 0 then NothingElse else AllDenied

-- the number of a rest gives it back
pub rest_back : (rest : Rest) → rest_from (rest_key rest) ≡ rest
rest_back NothingElse = refl
rest_back AllDenied = refl

-- rests have codes
abbrev pub rest_code : Coded Rest
rest_code = code_by ℕ coded_ℕ rest_key rest_from rest_back

-- told disks have codes
abbrev pub told_code : Coded Told
told_code = code_by (List (List ℕ × List Answer) × Rest) (coded× (coded_list (coded× text_code (coded_list answer_code))) rest_code) (λ t. (t.files, t.rest)) (λ p. record { files = p.0; rest = p.1 }) (λ _. refl)
