-- Paths as texts with slashes: their components, their cleaned form, and joins.
use Rattle.std.specs.Prelude.{◌≡◌, ℕ, ◌==◌, ◌||◌, ◌&&◌, ⊤, IsTrue, not, Bool, true, false, if◌then◌else◌, List, [], ◌∷◌, ◌++◌, map, filter, reverse, Option, Some, None, Result, Ok, Err, zero, suc}
use Rattle.std.specs.Str.{bytes_eq}
use Rattle.std.specs.Option.{option_and_then, option_map}
use Rattle.std.specs.List.{list_any, list_all, AllByRecursion}

-- ---- components

-- a piece of a path
pub data Component : Type 0 where
  RootDir : Component
  CurDir : Component
  ParentDir : Component
  Normal : (name : List ℕ) → Component

-- a byte before the first part
abbrev pub onto_first : ℕ → List (List ℕ) → List (List ℕ)
onto_first b [] = (b ∷ []) ∷ []
onto_first b (x ∷ xs) = (b ∷ x) ∷ xs

-- the parts of a text between the bytes c: one more than there are such bytes
abbrev pub parts_at : ℕ → List ℕ → List (List ℕ)
parts_at c [] = [] ∷ []
parts_at c (b ∷ bs) = if b == c then [] ∷ parts_at c bs else onto_first b (parts_at c bs)

-- the text begins with a slash
abbrev pub is_absolute : List ℕ → Bool
is_absolute [] = false
is_absolute (b ∷ bs) = b == 47

-- the text .
abbrev pub dot : List ℕ
dot = 46 ∷ []

-- the text ..
abbrev pub dot_dot : List ℕ
dot_dot = 46 ∷ 46 ∷ []

-- what a part between slashes stands for
abbrev pub component_of : List ℕ → Component
component_of part =
    if bytes_eq part dot then CurDir
    else if bytes_eq part dot_dot then ParentDir
    else Normal part

-- a part counts unless it is empty or .
abbrev pub counts : List ℕ → Bool
counts part = not (bytes_eq part [] || bytes_eq part dot)

-- the components that these parts stand for
abbrev pub counted : List (List ℕ) → List Component
counted parts = map component_of (filter counts parts)

-- the same, where a first . stays
abbrev pub counted_after_dot : List (List ℕ) → List Component
counted_after_dot [] = []
counted_after_dot (part ∷ parts) = if bytes_eq part dot then CurDir ∷ counted parts else counted (part ∷ parts)

-- the components of a path
abbrev pub components : List ℕ → List Component
components path =
    if is_absolute path then RootDir ∷ counted (parts_at 47 path)
    else counted_after_dot (parts_at 47 path)

-- ---- components as a text

-- the texts with a slash between
abbrev pub joined : List (List ℕ) → List ℕ
joined [] = []
joined (part ∷ []) = part
joined (part ∷ next ∷ parts) = part ++ 47 ∷ joined (next ∷ parts)

-- the text of one component, where the root is the empty text before the first slash
abbrev pub component_text : Component → List ℕ
component_text RootDir = []
component_text CurDir = dot
component_text ParentDir = dot_dot
component_text (Normal name) = name

-- the components with a slash between
abbrev pub text_of : List Component → List ℕ
text_of (RootDir ∷ cs) = 47 ∷ joined (map component_text cs)
text_of cs = joined (map component_text cs)

-- the text, or . where it is empty
abbrev pub or_dot : List ℕ → List ℕ
or_dot [] = dot
or_dot (b ∷ bs) = b ∷ bs

-- ---- the cleaned form

-- one more component after those that are kept, the last one first: .. takes back a name, and stays where there is none, but not at the root
abbrev pub kept_with : List Component → Component → List Component
kept_with kept CurDir = kept
kept_with (Normal name ∷ kept) ParentDir = kept
kept_with (RootDir ∷ kept) ParentDir = RootDir ∷ kept
kept_with kept c = c ∷ kept

-- what is kept of these components after those kept before, the last one first
abbrev pub kept_of : List Component → List Component → List Component
kept_of kept [] = kept
kept_of kept (c ∷ cs) = kept_of (kept_with kept c) cs

-- the components without those that cancel
abbrev pub cleaned : List Component → List Component
cleaned cs = reverse (kept_of [] cs)

-- the cleaned form of a path: no . and no .. that can be taken back, and . where nothing is left
abbrev pub clean : List ℕ → List ℕ
clean path = or_dot (text_of (cleaned (components path)))

-- ---- which lists of components a path has

-- a name has a byte and no slash, and is neither . nor ..
abbrev pub is_name : List ℕ → Bool
is_name name = (counts name && not (bytes_eq name dot_dot)) && list_all (λ b. not (b == 47)) name

-- a component that may stand after another
abbrev pub MayFollow : Component → Type 0
MayFollow RootDir = ⊥
MayFollow CurDir = ⊥
MayFollow ParentDir = ⊤
MayFollow (Normal name) = IsTrue (is_name name)

-- each of these may stand after another
abbrev pub AllMayFollow : List Component → Type 0
AllMayFollow cs = AllByRecursion MayFollow cs

-- a path's components: the root or . stands first alone
abbrev pub ArePath : List Component → Type 0
ArePath [] = ⊤
ArePath (RootDir ∷ cs) = AllMayFollow cs
ArePath (CurDir ∷ cs) = AllMayFollow cs
ArePath (c ∷ cs) = MayFollow c × AllMayFollow cs

-- each component is ..
abbrev pub AreUps : List Component → Type 0
AreUps [] = ⊤
AreUps (ParentDir ∷ cs) = AreUps cs
AreUps (c ∷ cs) = ⊥

-- the components of a clean path, the last one first: names, and before them the root or .. as often as you like
abbrev pub AreKept : List Component → Type 0
AreKept [] = ⊤
AreKept (RootDir ∷ kept) = kept ≡ []
AreKept (CurDir ∷ kept) = ⊥
AreKept (ParentDir ∷ kept) = AreUps kept
AreKept (Normal name ∷ kept) = IsTrue (is_name name) × AreKept kept

-- the components, each with a slash behind it
abbrev pub slashes : List Component → List ℕ
slashes [] = []
slashes (c ∷ cs) = component_text c ++ 47 ∷ slashes cs

-- ---- joins and parts

-- the text ends with a slash
abbrev pub ends_in_slash : List ℕ → Bool
ends_in_slash [] = false
ends_in_slash (b ∷ []) = b == 47
ends_in_slash (b ∷ c ∷ bs) = ends_in_slash (c ∷ bs)

-- `other` below `base`, with a slash between where `base` doesn't end with one; an absolute one stands alone
abbrev pub join : List ℕ → List ℕ → List ℕ
join base other =
    if is_absolute other || bytes_eq base [] then other
    else if bytes_eq other [] then base
    else if ends_in_slash base then base ++ other
    else base ++ 47 ∷ other

-- a list as all but its last, and its last
abbrev pub with_last : {A : Type 0} → A → Option (List A × A) → List A × A
with_last x None = ([], x)
with_last x (Some parts) = (x ∷ parts.0, parts.1)

-- all but the last, and the last, where there is one
abbrev pub split_last : {A : Type 0} → List A → Option (List A × A)
split_last [] = None
split_last (x ∷ xs) = Some (with_last x (split_last xs))

-- the text of what stands before a last component, which is not the root
abbrev pub text_before : List Component → Component → Option (List ℕ)
text_before front RootDir = None
text_before front c = Some (text_of front)

-- the name that a component is, if it is one
abbrev pub name_of : Component → Option (List ℕ)
name_of (Normal name) = Some name
name_of c = None

-- the path without its last component, where it has one and that isn't the root
abbrev pub parent : List ℕ → Option (List ℕ)
parent path = option_and_then (λ parts. text_before parts.0 parts.1) (split_last (components path))

-- the last component, where it is a name
abbrev pub file_name : List ℕ → Option (List ℕ)
file_name path = option_and_then (λ parts. name_of parts.1) (split_last (components path))

-- ---- other forms of a path

-- the component is .
abbrev pub is_dot : Component → Bool
is_dot CurDir = true
is_dot c = false

-- the component is ..
abbrev pub is_up : Component → Bool
is_up ParentDir = true
is_up c = false

-- the components but . with a slash between, and . where nothing is left
abbrev pub unix_slash : List ℕ → List ℕ
unix_slash path = or_dot (text_of (filter (λ c. not (is_dot c)) (components path)))

-- the cleaned components without each .. that has nothing to take back
abbrev pub normalized : List Component → List Component
normalized cs = filter (λ c. not (is_up c)) (cleaned cs)

-- a path whose .. are all taken back or dropped, and empty where nothing is left
abbrev pub normalize_path : List ℕ → List ℕ
normalize_path path = text_of (normalized (components path))

-- ---- one path from another

-- two components are the same
abbrev pub same_component : Component → Component → Bool
same_component RootDir RootDir = true
same_component CurDir CurDir = true
same_component ParentDir ParentDir = true
same_component (Normal a) (Normal b) = bytes_eq a b
same_component c d = false

-- what follows a front, where these components begin with it
abbrev pub after_front : List Component → List Component → Option (List Component)
after_front [] cs = Some cs
after_front (b ∷ bs) [] = None
after_front (b ∷ bs) (c ∷ cs) = if same_component b c then after_front bs cs else None

-- the rest of a path after all of `base`
abbrev pub strip_prefix : List ℕ → List ℕ → Option (List ℕ)
strip_prefix path base = option_map text_of (after_front (components base) (components path))

-- both lists without their common front
abbrev pub apart : List Component → List Component → List Component × List Component
apart (c ∷ cs) (b ∷ bs) = if same_component c b then apart cs bs else (c ∷ cs, b ∷ bs)
apart cs bs = (cs, bs)

-- up once for each of `up`, then down to `down`; there is no way up from a ..
abbrev pub way : List Component → List Component → Option (List ℕ)
way down up = if list_any is_up up then None else Some (text_of (map (λ c. ParentDir) up ++ down))

-- some part is . or ..
abbrev pub has_dots : List ℕ → Bool
has_dots path = list_any (λ part. bytes_eq part dot || bytes_eq part dot_dot) (parts_at 47 path)

-- a path, cleaned where it has . or ..
abbrev pub without_dots : List ℕ → List ℕ
without_dots path = if has_dots path then clean path else path

-- the way from `base` to a path, both cleaned; from a relative one to an absolute path that is the path itself, and the other way round there is none
abbrev pub diff : List ℕ → List ℕ → Option (List ℕ)
diff path base =
    if is_absolute path && not (is_absolute base) then Some (without_dots path)
    else if is_absolute base && not (is_absolute path) then None
    else let both = apart (cleaned (components path)) (cleaned (components base)) in way both.0 both.1

-- ---- virtual paths

-- the text without a slash at its front
abbrev pub without_slash : List ℕ → List ℕ
without_slash [] = []
without_slash (b ∷ bs) = if b == 47 then bs else b ∷ bs

-- some front of the components goes up more often than down, from a depth
abbrev pub climbs_from : ℕ → List Component → Bool
climbs_from depth [] = false
climbs_from zero (ParentDir ∷ cs) = true
climbs_from (suc depth) (ParentDir ∷ cs) = climbs_from depth cs
climbs_from depth (Normal name ∷ cs) = climbs_from (suc depth) cs
climbs_from depth (c ∷ cs) = climbs_from depth cs

-- a text below a root would leave it
abbrev pub escapes : List ℕ → Bool
escapes text = climbs_from 0 (components text)

-- the text holds a NUL byte
abbrev pub has_nul : List ℕ → Bool
has_nul text = list_any (λ b. b == 0) text

-- why a text is no virtual path
pub data PathRefusal : Type 0 where
  Escapes : PathRefusal
  BadByte : PathRefusal

-- the path of a virtual path below a root
abbrev pub realize : List ℕ → List ℕ → List ℕ
realize root vpath = clean (join root (without_slash vpath))

-- the virtual path that a text is, or why it is none
abbrev pub virtual_path : List ℕ → Result (List ℕ) PathRefusal
virtual_path text =
    if has_nul text then Err BadByte
    else if escapes text then Err Escapes
    else Ok (clean (47 ∷ text))
