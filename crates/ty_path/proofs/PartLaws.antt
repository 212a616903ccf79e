-- What the library's components of a path are, in the words of the definitions.
use Rattle.std.proofs.Common.{◌≡◌, ℕ, true, false, cond, not, ◌&&◌, ◌||◌, eqb, List, [], ◌∷◌, ◌++◌, map, filter, length, get_or, refl, sym, ap, ◌∙◌, subst, Option, Some, None, MatchOption, T, bytes_eq, ne_eqb, arith, Bor}
use Rattle.std.specs.List.{list_all}
use Rattle.std.specs.Path.{cur_dir, root_dir, first_piece, later_pieces, is_name, has_no_slash, HasNoSlash, path_names, path_components, component_bytes, components_remaining, IsWellFormedComponent, IsNextComponent, IsLastComponent}
use Rattle.std.specs.declared.path.components.Components.{Components}
use Rattle.std.specs.declared.path.components.Component as item
use Rattle.std.specs.declared.path.components.Component.TheVariants as item_of
use Rattle.std.proofs.lemmas.Bool.{and_parts, not-true, or_parts, false_from_ne_true}
use Rattle.std.proofs.lemmas.List.{map-append}
use Rattle.std.proofs.lemmas.Slice.Eq.{bytes_eq-Decides}
use Rattle.std.specs.Iterator.{Yields}
use Rattle.std.proofs.lemmas.Iterator.{YieldsList}
use Rattle.std.proofs.lemmas.Iterator.Consumers.{YieldsList-from_shown, YieldsList-so_far, YieldsList-end}
use Rattle.ty_model.specs.Paths.{Component, RootDir, CurDir, ParentDir, Normal, onto_first, parts_at, is_absolute, dot, dot_dot, component_of, counts, counted, counted_after_dot, components, split_last, with_last, text_before, name_of, text_of, parent, file_name, is_up, ArePath}
use Rattle.ty_model.proofs.PathLaws.{slash_free, parts_free, components-path, ArePath-take}
use Rattle.ty_path.specs.Parts.{plain_component, component_named, components_left}

-- ---- the parts of a text

pieces : (bs : List ℕ) → parts_at 47 bs ≡ first_piece bs ∷ later_pieces bs
pieces [] = refl
pieces (b ∷ bs) =
    elim (eqb b 47) as (λ t. cond t ([] ∷ parts_at 47 bs) (onto_first b (parts_at 47 bs)) ≡ cond t [] (b ∷ first_piece bs) ∷ cond t (first_piece bs ∷ later_pieces bs) (later_pieces bs)) [
      | true ↦ ap (λ ps. [] ∷ ps) (pieces bs)
      | false ↦ ap (onto_first b) (pieces bs)
    ]

name-counts : (part : List ℕ) → is_name part ≡ counts part
name-counts [] = refl
name-counts (b ∷ bs) = ap (λ t. not (t || bytes_eq (b ∷ bs) dot)) (ne_eqb (length (b ∷ bs)) 0 (λ z. omega arith))

no_root : (part : List ℕ) → slash_free part ≡ true → bytes_eq part root_dir ≡ false
no_root [] h = refl
no_root (b ∷ bs) h = let e = not-true (eqb b 47) (and_parts (not (eqb b 47)) (slash_free bs) h).0 in rw e

named : (part : List ℕ) → slash_free part ≡ true → component_named part ≡ component_of part
named part h = rw (no_root part h)

names : (parts : List (List ℕ)) → list_all slash_free parts ≡ true → map component_named (filter is_name parts) ≡ counted parts
names [] h = refl
names (p ∷ ps) h =
    let both = and_parts (slash_free p) (list_all slash_free ps) h in
    rw (name-counts p)
    (elim (counts p) as (λ t. map component_named (cond t (p ∷ filter is_name ps) (filter is_name ps)) ≡ map component_of (cond t (p ∷ filter counts ps) (filter counts ps))) [
      | true ↦ (λ i. named p both.0 i ∷ names ps both.1 i)
      | false ↦ names ps both.1
    ])

empty-first_piece : (bs : List ℕ) → bytes_eq (first_piece bs) [] ≡ eqb (get_or bs 0 47) 47
empty-first_piece [] = refl
empty-first_piece (b ∷ bs) = elim (eqb b 47) as (λ t. bytes_eq (cond t [] (b ∷ first_piece bs)) [] ≡ t) [ true ↦ refl | false ↦ refl ]

-- after its root or . the library's components are those that count
after_leading : (b : ℕ) (bs : List ℕ) → eqb b 47 ≡ false
    → map component_named (cond (eqb b 46 && eqb (get_or bs 0 47) 47) (cur_dir ∷ []) [] ++ filter is_name ((b ∷ first_piece bs) ∷ later_pieces bs))
    ≡ counted_after_dot ((b ∷ first_piece bs) ∷ later_pieces bs)
after_leading b bs h =
    let free : list_all slash_free ((b ∷ first_piece bs) ∷ later_pieces bs) ≡ true =
    subst (λ ps. list_all slash_free (onto_first b ps) ≡ true) (pieces bs) (subst (λ t. list_all slash_free (cond t ([] ∷ parts_at 47 bs) (onto_first b (parts_at 47 bs))) ≡ true) h (parts_free (b ∷ bs))) in
    let all = names ((b ∷ first_piece bs) ∷ later_pieces bs) free in
    let later = names (later_pieces bs) (and_parts (slash_free (b ∷ first_piece bs)) (list_all slash_free (later_pieces bs)) free).1 in
    let same : bytes_eq (b ∷ first_piece bs) dot ≡ (eqb b 46 && eqb (get_or bs 0 47) 47) = ap (λ t. eqb b 46 && t) (empty-first_piece bs) in
    subst (λ t. map component_named (cond t (cur_dir ∷ []) [] ++ filter is_name ((b ∷ first_piece bs) ∷ later_pieces bs)) ≡ counted_after_dot ((b ∷ first_piece bs) ∷ later_pieces bs)) same
    (elim (bytes_eq (b ∷ first_piece bs) dot) as (λ t. bytes_eq (b ∷ first_piece bs) dot ≡ t
    → map component_named (cond t (cur_dir ∷ []) [] ++ filter is_name ((b ∷ first_piece bs) ∷ later_pieces bs))
    ≡ cond t (CurDir ∷ counted (later_pieces bs)) (counted ((b ∷ first_piece bs) ∷ later_pieces bs))) [
      | true ↦ λ e.
          let none : is_name (b ∷ first_piece bs) ≡ false = name-counts (b ∷ first_piece bs) ∙ ap (λ t. not (bytes_eq (b ∷ first_piece bs) [] || t)) e in
          (λ i. CurDir ∷ map component_named (cond (none i) ((b ∷ first_piece bs) ∷ filter is_name (later_pieces bs)) (filter is_name (later_pieces bs)))) ∙ ap (λ cs. CurDir ∷ cs) later
      | false ↦ λ e. all
    ] refl)

-- ---- the library's components are those of the definitions

pub components-std : (path : List ℕ) → map component_named (path_components path) ≡ components path
unfolding path_components path_names
components-std [] = refl
components-std (b ∷ bs) =
    elim (eqb b 47) as (λ t. eqb b 47 ≡ t
    → map component_named (cond t (root_dir ∷ []) (cond (eqb b 46 && eqb (get_or bs 0 47) 47) (cur_dir ∷ []) []) ++ filter is_name (cond t [] (b ∷ first_piece bs) ∷ cond t (first_piece bs ∷ later_pieces bs) (later_pieces bs)))
    ≡ cond t (RootDir ∷ counted (cond t ([] ∷ parts_at 47 bs) (onto_first b (parts_at 47 bs)))) (counted_after_dot (cond t ([] ∷ parts_at 47 bs) (onto_first b (parts_at 47 bs))))) [
      | true ↦ λ e.
          let free = subst (λ ps. list_all slash_free ps ≡ true) (pieces bs) (parts_free bs) in
          ap (λ cs. RootDir ∷ cs) (names (first_piece bs ∷ later_pieces bs) free ∙ ap counted (sym (pieces bs)))
      | false ↦ λ e. after_leading b bs e ∙ ap (λ ps. counted_after_dot (onto_first b ps)) (sym (pieces bs))
    ] refl

has_no_slash-free : (bs : List ℕ) → HasNoSlash bs → slash_free bs ≡ true
has_no_slash-free [] h = refl
has_no_slash-free (b ∷ bs) h =
    elim (not (eqb b 47)) as (λ t. T (t && has_no_slash bs) → (t && slash_free bs) ≡ true) [
      | true ↦ λ k. has_no_slash-free bs k
      | false ↦ λ k. absurd k
    ] h

-- an item of the iterator is the component that its text names
pub item-component : (c : item.Component) → IsWellFormedComponent c → component_named (component_bytes c) ≡ plain_component c
item-component item_of.RootDir h = refl
item-component item_of.CurDir h = refl
item-component item_of.ParentDir h = refl
item-component (item_of.Normal name) h =
    let free = has_no_slash-free name.now h.2 in
    let some = sym (name-counts name.now) ∙ h.0 in
    let plain = (or_parts (bytes_eq name.now []) (bytes_eq name.now dot) (not-true _ some)).1 in
    let no_up = false_from_ne_true (bytes_eq name.now dot_dot) (λ e. h.1 ((bytes_eq-Decides name.now dot_dot).0 e)) in
    rw (no_root name.now free, plain, no_up)

-- an item that is not . or not .. is no such component
pub plain-other_dot : (c : item.Component) → (c ≡ item_of.CurDir → ⊥) → plain_component c ≡ CurDir → ⊥
plain-other_dot item_of.RootDir h e = cc
plain-other_dot item_of.CurDir h e = h refl
plain-other_dot item_of.ParentDir h e = cc
plain-other_dot (item_of.Normal name) h e = cc

pub plain-other_up : (c : item.Component) → (c ≡ item_of.ParentDir → ⊥) → plain_component c ≡ ParentDir → ⊥
plain-other_up item_of.RootDir h e = cc
plain-other_up item_of.CurDir h e = cc
plain-other_up item_of.ParentDir h e = h refl
plain-other_up (item_of.Normal name) h e = cc

pub plain-no_up : (c : item.Component) → (c ≡ item_of.ParentDir → ⊥) → is_up (plain_component c) ≡ false
plain-no_up item_of.RootDir h = refl
plain-no_up item_of.CurDir h = refl
plain-no_up item_of.ParentDir h = absurd (h refl)
plain-no_up (item_of.Normal name) h = refl

-- what `next` and `next_back` do to the components that are left
pub next_component : (s : Components) (r : Option item.Component) (t : Components) → IsNextComponent (components_remaining s) r (components_remaining t)
    → MatchOption r ((components_left s ≡ []) × (components_left t ≡ [])) (λ c. components_left s ≡ plain_component c ∷ components_left t)
next_component s None t h = (ap (map component_named) h.0, ap (map component_named) h.1)
next_component s (Some c) t h = ap (map component_named) h.0 ∙ ap (λ x. x ∷ components_left t) (item-component c h.1)

pub last_component : (s : Components) (r : Option item.Component) (t : Components) → IsLastComponent (components_remaining s) r (components_remaining t)
    → MatchOption r ((components_left s ≡ []) × (components_left t ≡ [])) (λ c. components_left s ≡ components_left t ++ plain_component c ∷ [])
last_component s None t h = (ap (map component_named) h.0, ap (map component_named) h.1)
last_component s (Some c) t h = ap (map component_named) h.0 ∙ map-append component_named (components_remaining t) (component_bytes c ∷ []) ∙ ap (λ x. components_left t ++ x ∷ []) (item-component c h.1)

-- what a call of `next` does
abbrev pub Gives : Components → Option item.Component → Components → Type 0
Gives s r t = IsNextComponent (components_remaining s) r (components_remaining t)

-- the iterator gives what is left
YieldsList-from_components : {s : Components} (cs : List Component) → components_left s ≡ cs → YieldsList Gives plain_component s cs
YieldsList-from_components {s} cs e =
    subst (YieldsList Gives plain_component s) e
    (YieldsList-from_shown Gives plain_component components_left (λ s t h. ap length (next_component s None t h).0) (λ s x t h. next_component s (Some x) t h) s)

-- at the end of a loop over what was left, which has given xs
pub all_given : (s start : Components) (xs : List item.Component) (t u : Components) (r : Option item.Component) → start ≡ s → Yields Gives start xs t → r ≡ None → Gives t r u → map plain_component xs ≡ components_left s
all_given s start xs t u r e y n h = (YieldsList-end (YieldsList-from_components (components_left s) (ap components_left e)) xs t y r u n h).0

-- what is left as a path of its own
pub left_as_path : (s : Components) (bytes path : List ℕ) → path_components bytes ≡ components_remaining s → path ≡ bytes → components path ≡ components_left s
left_as_path s bytes path h e = ap components e ∙ sym (components-std bytes) ∙ ap (map component_named) h

-- ---- at the start of a path

module _ (s : Components) (bytes path : List ℕ) (h : components_remaining s ≡ path_components bytes) (e : bytes ≡ path) where
  pub at_start : components_left s ≡ components path
  at_start = ap (map component_named) h ∙ components-std bytes ∙ ap components e

  -- `next` gives the first component, and what is left then follows it
  pub no_first : (t : Components) → Gives s None t → components path ≡ []
  no_first t next = sym at_start ∙ (next_component s None t next).0

  pub its_first : (t : Components) (c : item.Component) → Gives s (Some c) t → components path ≡ plain_component c ∷ components_left t
  its_first t c next = sym at_start ∙ next_component s (Some c) t next

  -- `next_back` gives the last component, and what is left then stands before it
  pub no_last : (t : Components) → IsLastComponent (components_remaining s) None (components_remaining t) → components path ≡ []
  no_last t last = sym at_start ∙ (last_component s None t last).0

  pub its_last : (t : Components) (c : item.Component) → IsLastComponent (components_remaining s) (Some c) (components_remaining t) → components path ≡ components_left t ++ plain_component c ∷ []
  its_last t c last = sym at_start ∙ last_component s (Some c) t last

  pub its_name : (t : Components) (c : item.Component) (name : Bor (List ℕ)) → IsLastComponent (components_remaining s) (Some c) (components_remaining t) → c ≡ item_of.Normal name
      → components path ≡ components_left t ++ Normal name.now ∷ []
  its_name t c name last is = its_last t c last ∙ ap (λ x. components_left t ++ plain_component x ∷ []) is

  -- a loop over the components has given a front of them so far
  pub front_given : (start : Components) (xs : List item.Component) (t : Components) → start ≡ s → Yields Gives start xs t → ArePath (map plain_component xs)
  front_given start xs t i y =
      let front = YieldsList-so_far (YieldsList-from_components (components path) (ap components_left i ∙ at_start)) xs t y in
      subst ArePath (sym front) (ArePath-take (length xs) (components path) (components-path path))

  -- and in the end all of them
  pub path_given : (start : Components) (xs : List item.Component) (t u : Components) (r : Option item.Component) → start ≡ s → Yields Gives start xs t → r ≡ None → Gives t r u → map plain_component xs ≡ components path
  path_given start xs t u r i y n g = all_given s start xs t u r i y n g ∙ at_start

-- ---- parents and names

pub split_last-push : {A : Type 0} (xs : List A) (x : A) → split_last (xs ++ x ∷ []) ≡ Some (xs, x)
split_last-push [] x = refl
split_last-push (y ∷ xs) x = ap (λ p. Some (with_last y p)) (split_last-push xs x)

pub file_name-last : (path : List ℕ) (front : List Component) (c : Component) → components path ≡ front ++ c ∷ [] → file_name path ≡ name_of c
file_name-last path front c e = rw (e, split_last-push front c)

pub parent-last : (path : List ℕ) (front : List Component) (c : Component) → components path ≡ front ++ c ∷ [] → parent path ≡ text_before front c
parent-last path front c e = rw (e, split_last-push front c)

pub no_name : (c : item.Component) → ((name : Bor (List ℕ)) → c ≡ item_of.Normal name → ⊥) → name_of (plain_component c) ≡ None
no_name item_of.RootDir h = refl
no_name item_of.CurDir h = refl
no_name item_of.ParentDir h = refl
no_name (item_of.Normal name) h = absurd (h name refl)

pub file_name-none : (path : List ℕ) → components path ≡ [] → file_name path ≡ None
file_name-none path e = rw e

-- a last component that isn't the root leaves a parent
pub parent-some : (path : List ℕ) (front : List Component) (c : item.Component) → components path ≡ front ++ plain_component c ∷ [] → (c ≡ item_of.RootDir → ⊥) → parent path ≡ Some (text_of front)
parent-some path front item_of.RootDir e h = absurd (h refl)
parent-some path front item_of.CurDir e h = parent-last path front CurDir e
parent-some path front item_of.ParentDir e h = parent-last path front ParentDir e
parent-some path front (item_of.Normal name) e h = parent-last path front (Normal name.now) e

pub parent-none : (path : List ℕ) → components path ≡ [] → parent path ≡ None
parent-none path e = rw e

pub is_absolute-first : (path : List ℕ) → eqb (get_or path 0 0) 47 ≡ is_absolute path
is_absolute-first [] = refl
is_absolute-first (b ∷ bs) = refl
