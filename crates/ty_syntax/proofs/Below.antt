-- Paths below a root: the way down to a path, and a path by its way down.
use Rattle.std.proofs.Common.{◌≡◌, ℕ, zero, suc, true, false, cond, not, ◌&&◌, eqb, true≢false, List, [], ◌∷◌, ◌++◌, map, filter, reverse, refl, sym, ap, ◌∙◌, subst, append_assoc, append-nil, bytes_eq, Option, Some, None, Ok}
use Rattle.std.specs.Prelude.{IsTrue, IsSome}
use Rattle.std.specs.List.{list_any}
use Rattle.std.proofs.lemmas.Bool.{and_parts, and_from, both_ways, eqb-true}
use Rattle.std.proofs.lemmas.List.{reverse-append, reverse-reverse}
use Rattle.std.proofs.lemmas.Slice.Eq.{bytes_eq-Decides}
use Rattle.ty_model.specs.Paths.{Component, RootDir, CurDir, ParentDir, Normal, parts_at, dot, component_of, counts, counted, counted_after_dot, is_absolute, ends_in_slash, components, text_of, or_dot, is_up, kept_of, cleaned, clean, same_component, after_front, join, apart, way, diff, without_dots, is_name, AllMayFollow, ArePath, AreUps, AreKept, realize, climbs_from, escapes, has_nul, without_slash, virtual_path, dot_dot}
use Rattle.ty_model.proofs.PathLaws.{parts-slash, components-slash, components-path, components-text_of, path-kept, kept_again, cleaned-path, text_some, ArePath-from_follows, kept_of-append, clean-clean}
use Rattle.ty_model.proofs.Cuts.{some_parts}
use Rattle.ty_path.specs.Clean.{are_clean}
use Rattle.ty_path.proofs.CleanLaws.{counted-clean, after_dot-clean, absolute_clean}
use Rattle.ty_path.proofs.CleanJoinLaws.{names_relative}
use Rattle.ty_path.proofs.ParentLaws.{is_normal}
use Rattle.ty_path.proofs.RelativeLaws.{same-true, cleaned_text, cleaned_to_nothing, absolute-cleaned, relative-cleaned, left_follows, way-path}
use Rattle.ty_syntax.specs.Below.{leads_down, only_down, way_down, IsBelow, is_virtual, way_as_text}

-- ---- names

-- each component is a name
abbrev pub AreNames : List Component → Type 0
AreNames [] = Unit {0}
AreNames (Normal name ∷ cs) = IsTrue (is_name name) × AreNames cs
AreNames (RootDir ∷ cs) = ⊥
AreNames (CurDir ∷ cs) = ⊥
AreNames (ParentDir ∷ cs) = ⊥

names-follow : (ns : List Component) → AreNames ns → AllMayFollow ns
names-follow [] h = tt
names-follow (Normal name ∷ ns) h = (h.0, names-follow ns h.1)
names-follow (RootDir ∷ ns) h = absurd h
names-follow (CurDir ∷ ns) h = absurd h
names-follow (ParentDir ∷ ns) h = absurd h

names-path : (ns : List Component) → AreNames ns → ArePath ns
names-path ns h = ArePath-from_follows ns (names-follow ns h)

kept_of-names : (kept ns : List Component) → AreNames ns → kept_of kept ns ≡ reverse ns ++ kept
kept_of-names kept [] h = refl
kept_of-names kept (RootDir ∷ ns) h = absurd h
kept_of-names kept (CurDir ∷ ns) h = absurd h
kept_of-names kept (ParentDir ∷ ns) h = absurd h
kept_of-names kept (Normal name ∷ ns) h =
    kept_of-names (Normal name ∷ kept) ns h.1
    ∙ sym (append_assoc (reverse ns) (Normal name ∷ []) kept) ∙ ap (λ xs. xs ++ kept) (sym (reverse-append (Normal name ∷ []) ns))

-- names are not taken back
cleaned-names : (cs ns : List Component) → AreNames ns → cleaned (cs ++ ns) ≡ cleaned cs ++ ns
cleaned-names cs ns h =
    ap reverse (kept_of-append [] cs ns ∙ kept_of-names (kept_of [] cs) ns h)
    ∙ reverse-append (reverse ns) (kept_of [] cs) ∙ ap (λ xs. cleaned cs ++ xs) (reverse-reverse ns)

-- above the root or a name only names are kept
names-push : (ns : List Component) (name : List ℕ) → AreNames ns → IsTrue (is_name name) → AreNames (ns ++ Normal name ∷ [])
names-push [] name h k = (k, tt)
names-push (Normal n ∷ ns) name h k = (h.0, names-push ns name h.1 k)
names-push (RootDir ∷ ns) name h k = absurd h
names-push (CurDir ∷ ns) name h k = absurd h
names-push (ParentDir ∷ ns) name h k = absurd h

names-reverse : (ns : List Component) → AreNames ns → AreNames (reverse ns)
names-reverse [] h = tt
names-reverse (Normal name ∷ ns) h = subst AreNames (sym (reverse-append (Normal name ∷ []) ns)) (names-push (reverse ns) name (names-reverse ns h.1) h.0)
names-reverse (RootDir ∷ ns) h = absurd h
names-reverse (CurDir ∷ ns) h = absurd h
names-reverse (ParentDir ∷ ns) h = absurd h

-- a component that isn't .. is none of those before which all are ..
module _ (c : Component) (other : (cs : List Component) → AreUps (c ∷ cs) → ⊥) where
  no_ups : (ys zs : List Component) → AreUps (ys ++ c ∷ zs) → ⊥
  no_ups [] zs h = other zs h
  no_ups (ParentDir ∷ ys) zs h = no_ups ys zs h
  no_ups (RootDir ∷ ys) zs h = h
  no_ups (CurDir ∷ ys) zs h = h
  no_ups (Normal name ∷ ys) zs h = h

  kept_names : (ys zs : List Component) → AreKept (ys ++ c ∷ zs) → AreNames ys
  kept_names [] zs h = tt
  kept_names (Normal name ∷ ys) zs h = (h.0, kept_names ys zs h.1)
  kept_names (ParentDir ∷ ys) zs h = absurd (no_ups ys zs h)
  kept_names (CurDir ∷ ys) zs h = absurd h
  kept_names (RootDir ∷ []) zs h = cc
  kept_names (RootDir ∷ y ∷ ys) zs h = cc

kept_has : (name : List ℕ) (ys zs : List Component) → AreKept (ys ++ Normal name ∷ zs) → IsTrue (is_name name)
kept_has name [] zs h = h.0
kept_has name (Normal n ∷ ys) zs h = kept_has name ys zs h.1
kept_has name (ParentDir ∷ ys) zs h = absurd (no_ups (Normal name) (λ cs u. u) ys zs h)
kept_has name (CurDir ∷ ys) zs h = absurd h
kept_has name (RootDir ∷ []) zs h = cc
kept_has name (RootDir ∷ y ∷ ys) zs h = cc

-- ---- a path of names below a root

counted-append : (ps qs : List (List ℕ)) → counted (ps ++ qs) ≡ counted ps ++ counted qs
counted-append [] qs = refl
counted-append (p ∷ ps) qs =
    elim (counts p) as (λ t. map component_of (cond t (p ∷ filter counts (ps ++ qs)) (filter counts (ps ++ qs))) ≡ map component_of (cond t (p ∷ filter counts ps) (filter counts ps)) ++ counted qs) [
      | true ↦ ap (λ cs. component_of p ∷ cs) (counted-append ps qs)
      | false ↦ counted-append ps qs
    ]

after_dot-append : (p : List ℕ) (ps qs : List (List ℕ)) → counted_after_dot (p ∷ ps ++ qs) ≡ counted_after_dot (p ∷ ps) ++ counted qs
after_dot-append p ps qs =
    elim (bytes_eq p dot) as (λ t. cond t (CurDir ∷ counted (ps ++ qs)) (counted (p ∷ ps ++ qs)) ≡ cond t (CurDir ∷ counted ps) (counted (p ∷ ps)) ++ counted qs) [
      | true ↦ ap (λ cs. CurDir ∷ cs) (counted-append ps qs)
      | false ↦ counted-append (p ∷ ps) qs
    ]

after_some-append : (ps qs : List (List ℕ)) → ((p : List ℕ) × (more : List (List ℕ)) × (ps ≡ p ∷ more)) → counted_after_dot (ps ++ qs) ≡ counted_after_dot ps ++ counted qs
after_some-append ps qs some =
    ap (λ xs. counted_after_dot (xs ++ qs)) some.2 ∙ after_dot-append some.0 some.1 qs ∙ ap (λ xs. counted_after_dot xs ++ counted qs) (sym some.2)

-- a text after a slash adds the components that its parts count
components-below : (b : ℕ) (root text : List ℕ) → components ((b ∷ root) ++ 47 ∷ text) ≡ components (b ∷ root) ++ counted (parts_at 47 text)
components-below b root text =
    let ps = parts-slash (b ∷ root) text in
    elim (eqb b 47) as (λ t. cond t (RootDir ∷ counted (parts_at 47 ((b ∷ root) ++ 47 ∷ text))) (counted_after_dot (parts_at 47 ((b ∷ root) ++ 47 ∷ text))) ≡ cond t (RootDir ∷ counted (parts_at 47 (b ∷ root))) (counted_after_dot (parts_at 47 (b ∷ root))) ++ counted (parts_at 47 text)) [
      | true ↦ ap (λ cs. RootDir ∷ counted cs) ps ∙ ap (λ cs. RootDir ∷ cs) (counted-append (parts_at 47 (b ∷ root)) (parts_at 47 text))
      | false ↦ ap counted_after_dot ps ∙ after_some-append (parts_at 47 (b ∷ root)) (parts_at 47 text) (some_parts 47 (b ∷ root))
    ]

-- a relative text of names has them as its counted parts
after_dot-names : (ps : List (List ℕ)) → AreNames (counted_after_dot ps) → counted ps ≡ counted_after_dot ps
after_dot-names [] h = refl
after_dot-names (p ∷ ps) h =
    elim (bytes_eq p dot) as (λ t. AreNames (cond t (CurDir ∷ counted ps) (counted (p ∷ ps))) → counted (p ∷ ps) ≡ cond t (CurDir ∷ counted ps) (counted (p ∷ ps))) [
      | true ↦ λ k. absurd k
      | false ↦ λ _. refl
    ] h

-- the text of some names: relative, with them as its parts
text-names : (ns : List Component) → AreNames ns → (is_absolute (text_of ns) ≡ false) × (counted (parts_at 47 (text_of ns)) ≡ ns)
text-names [] h = (refl, refl)
text-names (n ∷ ns) h =
    let are = components-text_of n ns (names-path (n ∷ ns) h) in
    elim (is_absolute (text_of (n ∷ ns))) as (λ t. is_absolute (text_of (n ∷ ns)) ≡ t → cond t (RootDir ∷ counted (parts_at 47 (text_of (n ∷ ns)))) (counted_after_dot (parts_at 47 (text_of (n ∷ ns)))) ≡ n ∷ ns → (is_absolute (text_of (n ∷ ns)) ≡ false) × (counted (parts_at 47 (text_of (n ∷ ns))) ≡ n ∷ ns)) [
      | true ↦ λ _ e. absurd (subst AreNames (sym e) h)
      | false ↦ λ no e. (no, after_dot-names (parts_at 47 (text_of (n ∷ ns))) (subst AreNames (sym e) h) ∙ e)
    ] refl are

ends-some : (b : ℕ) (root : List ℕ) → ends_in_slash (b ∷ root) ≡ true → (front : List ℕ) × (b ∷ root ≡ front ++ 47 ∷ [])
ends-some b [] h = ([], ap (λ x. x ∷ []) (eqb-true b 47 h))
ends-some b (c ∷ root) h = let more = ends-some c root h in (b ∷ more.0, ap (λ xs. b ∷ xs) more.1)

-- after a root that ends in a slash
components-after : (front text : List ℕ) → components (front ++ 47 ∷ text) ≡ components (front ++ 47 ∷ []) ++ counted (parts_at 47 text)
components-after [] text = refl
components-after (b ∷ front) text = components-below b front text ∙ ap (λ cs. cs ++ counted (parts_at 47 text)) (sym (components-slash b front))

joined_at : (root text : List ℕ) (ns : List Component) → counted (parts_at 47 text) ≡ ns → ends_in_slash root ≡ true → components (root ++ text) ≡ components root ++ ns
joined_at [] text ns e h = absurd (true≢false (sym h))
joined_at (b ∷ root) text ns e h =
    let some = ends-some b root h in
    ap (λ r. components (r ++ text)) some.1 ∙ ap components (append_assoc some.0 (47 ∷ []) text) ∙ components-after some.0 text
    ∙ ap (λ r. components r ++ counted (parts_at 47 text)) (sym some.1) ∙ ap (λ cs. components (b ∷ root) ++ cs) e

-- a root joined with the text of some names has its components and then these
pub components-join : (root : List ℕ) (ns : List Component) → AreNames ns → components (join root (text_of ns)) ≡ components root ++ ns
components-join root [] h =
    elim root as (λ r. components (join r []) ≡ components r ++ []) [
      | [] ↦ refl
      | b ∷ bs ↦ sym (append-nil (components (b ∷ bs)))
    ]
components-join [] (n ∷ ns) h = rw (text-names (n ∷ ns) h).0 (components-text_of n ns (names-path (n ∷ ns) h))
components-join (b ∷ root) (n ∷ ns) h =
    let are = text-names (n ∷ ns) h in
    let some = text_some n ns (names-path (n ∷ ns) h) in
    let filled : bytes_eq (text_of (n ∷ ns)) [] ≡ false = ap (λ t. bytes_eq t []) some.2 in
    rw (are.0, filled)
    (elim (ends_in_slash (b ∷ root)) as (λ t. ends_in_slash (b ∷ root) ≡ t → components (cond t ((b ∷ root) ++ text_of (n ∷ ns)) ((b ∷ root) ++ 47 ∷ text_of (n ∷ ns))) ≡ components (b ∷ root) ++ (n ∷ ns)) [
      | true ↦ λ e. joined_at (b ∷ root) (text_of (n ∷ ns)) (n ∷ ns) are.1 e
      | false ↦ λ _. components-below b root (text_of (n ∷ ns)) ∙ ap (λ cs. components (b ∷ root) ++ cs) are.1
    ] refl)

-- ---- the way down

same-refl : (c : Component) → same_component c c ≡ true
same-refl RootDir = refl
same-refl CurDir = refl
same-refl ParentDir = refl
same-refl (Normal name) = (bytes_eq-Decides name name).1 refl

bytes-sym : (m n : List ℕ) → bytes_eq n m ≡ bytes_eq m n
bytes-sym m n =
    elim (bytes_eq n m) as (λ t. bytes_eq n m ≡ t → t ≡ bytes_eq m n) [
      | true ↦ λ e. sym ((bytes_eq-Decides m n).1 (sym ((bytes_eq-Decides n m).0 e)))
      | false ↦ λ e. elim (bytes_eq m n) as (λ t. bytes_eq m n ≡ t → false ≡ t) [
        | true ↦ λ f. absurd (both_ways (bytes_eq n m) e ((bytes_eq-Decides n m).1 (sym ((bytes_eq-Decides m n).0 f))))
        | false ↦ λ _. refl
      ] refl
    ] refl

same-sym : (c d : Component) → same_component d c ≡ same_component c d
same-sym RootDir RootDir = refl
same-sym RootDir CurDir = refl
same-sym RootDir ParentDir = refl
same-sym RootDir (Normal n) = refl
same-sym CurDir RootDir = refl
same-sym CurDir CurDir = refl
same-sym CurDir ParentDir = refl
same-sym CurDir (Normal n) = refl
same-sym ParentDir RootDir = refl
same-sym ParentDir CurDir = refl
same-sym ParentDir ParentDir = refl
same-sym ParentDir (Normal n) = refl
same-sym (Normal m) RootDir = refl
same-sym (Normal m) CurDir = refl
same-sym (Normal m) ParentDir = refl
same-sym (Normal m) (Normal n) = bytes-sym m n

nothing_is : {A : Type 0} (c : Component) (cs : List Component) → [] ≡ c ∷ cs → A
nothing_is c cs e = cc

after_front-append : (bs cs : List Component) → after_front bs (bs ++ cs) ≡ Some cs
after_front-append [] cs = refl
after_front-append (b ∷ bs) cs = rw (same-refl b) (after_front-append bs cs)

after_front-is : (bs cs rest : List Component) → after_front bs cs ≡ Some rest → cs ≡ bs ++ rest
after_front-is [] cs rest e = cc
after_front-is (b ∷ bs) [] rest e = cc
after_front-is (b ∷ bs) (c ∷ cs) rest e =
    elim (same_component b c) as (λ t. same_component b c ≡ t → cond t (after_front bs cs) None ≡ Some rest → c ∷ cs ≡ b ∷ bs ++ rest) [
      | true ↦ λ same more. (λ i. sym (same-true b c same) i ∷ after_front-is bs cs rest more i)
      | false ↦ λ _ none. cc
    ] refl e

leads-names : (ns : List Component) → AreNames ns → leads_down ns ≡ true
leads-names [] h = refl
leads-names (Normal name ∷ ns) h = refl
leads-names (RootDir ∷ ns) h = absurd h
leads-names (CurDir ∷ ns) h = absurd h
leads-names (ParentDir ∷ ns) h = absurd h

-- only nothing, the root and names are left behind a front of kept components, or ..
down-names : (front rest : List Component) → AreKept (reverse (front ++ rest)) → leads_down rest ≡ true → AreNames rest
down-names front [] k h = tt
down-names front (RootDir ∷ rest) k h = cc
down-names front (CurDir ∷ rest) k h = cc
down-names front (ParentDir ∷ rest) k h = cc
down-names front (Normal name ∷ rest) k h =
    let parts : reverse (front ++ Normal name ∷ rest) ≡ reverse rest ++ Normal name ∷ reverse front =
    reverse-append front (Normal name ∷ rest) ∙ ap (λ xs. xs ++ reverse front) (reverse-append (Normal name ∷ []) rest) ∙ append_assoc (reverse rest) (Normal name ∷ []) (reverse front) in
    let above = kept_names (Normal name) (λ cs u. u) (reverse rest) (reverse front) (subst AreKept parts k) in
    let named = kept_has name (reverse rest) (reverse front) (subst AreKept parts k) in
    (named, subst AreNames (reverse-reverse rest) (names-reverse (reverse rest) above))

-- ---- virtual paths

text-rooted : (ns : List Component) → AreNames ns → text_of (RootDir ∷ ns) ≡ 47 ∷ text_of ns
text-rooted [] h = refl
text-rooted (Normal name ∷ ns) h = refl
text-rooted (RootDir ∷ ns) h = absurd h
text-rooted (CurDir ∷ ns) h = absurd h
text-rooted (ParentDir ∷ ns) h = absurd h

-- a slash and some names are a virtual path
pub virtual-names : (ns : List Component) → AreNames ns → is_virtual (47 ∷ text_of ns) ≡ true
virtual-names ns h =
    let again : clean (47 ∷ text_of ns) ≡ 47 ∷ text_of ns =
    ap clean (sym (text-rooted ns h))
    ∙ ap (λ cs. or_dot (text_of (cleaned cs))) (components-text_of RootDir ns (names-follow ns h))
    ∙ ap (λ cs. or_dot (text_of cs)) (cleaned-names (RootDir ∷ []) ns h)
    ∙ text-rooted ns h in
    (bytes_eq-Decides (clean (47 ∷ text_of ns)) (47 ∷ text_of ns)).1 again

-- a virtual path is a slash and some names
pub virtual-is : (v : List ℕ) → is_virtual v ≡ true → (ns : List Component) × (v ≡ 47 ∷ text_of ns) × AreNames ns
virtual-is v h =
    let both = and_parts (is_absolute v) (bytes_eq (clean v) v) h in
    let kept = kept_of [] (components v) in
    let root = absolute-cleaned v both.0 in
    let parts : kept ≡ reverse root.0 ++ RootDir ∷ [] = sym (reverse-reverse kept) ∙ ap reverse root.1 ∙ reverse-append (RootDir ∷ []) root.0 in
    let above = kept_names RootDir (λ cs u. u) (reverse root.0) [] (subst AreKept parts (path-kept (components v) (components-path v))) in
    let named : AreNames root.0 = subst AreNames (reverse-reverse root.0) (names-reverse (reverse root.0) above) in
    (root.0, sym ((bytes_eq-Decides (clean v) v).0 both.1) ∙ ap (λ cs. or_dot (text_of cs)) root.1 ∙ text-rooted root.0 named, named)

-- ---- realized paths

cleaned-clean : (path : List ℕ) → cleaned (components (clean path)) ≡ cleaned (components path)
cleaned-clean path =
    let kept = kept_of [] (components path) in
    let again : cleaned (cleaned (components path)) ≡ cleaned (components path) = ap reverse (kept_again kept (path-kept (components path) (components-path path))) in
    elim (cleaned (components path)) as (λ cs. cleaned cs ≡ cs → ArePath cs → cleaned (components (or_dot (text_of cs))) ≡ cs) [
      | [] ↦ λ _ _. refl
      | c ∷ cs ↦ λ e h.
          let some = text_some c cs h in
          ap (λ t. cleaned (components (or_dot t))) some.2 ∙ ap (λ t. cleaned (components t)) (sym some.2) ∙ ap cleaned (components-text_of c cs h) ∙ e
    ] again (cleaned-path (components path) (components-path path))

realize-names : (root : List ℕ) (ns : List Component) → AreNames ns → cleaned (components (realize root (47 ∷ text_of ns))) ≡ cleaned (components root) ++ ns
realize-names root ns h = cleaned-clean (join root (text_of ns)) ∙ ap cleaned (components-join root ns h) ∙ cleaned-names (components root) ns h

way_to_names : (root : List ℕ) (ns : List Component) → AreNames ns → way_down root (realize root (47 ∷ text_of ns)) ≡ Some ns
way_to_names root ns h =
    ap (λ cs. only_down (after_front (cleaned (components root)) cs)) (realize-names root ns h)
    ∙ ap only_down (after_front-append (cleaned (components root)) ns)
    ∙ ap (λ t. cond t (Some ns) None) (leads-names ns h)

-- what is realized below a root is below it
pub realize-below : (root v : List ℕ) → is_virtual v ≡ true → IsBelow root (realize root v)
realize-below root v h =
    let is = virtual-is v h in
    subst IsSome (sym (ap (λ t. way_down root (realize root t)) is.1 ∙ way_to_names root is.0 is.2)) refl

-- ---- the way as the library's

some-same : (xs ys : List Component) → Some xs ≡ Some ys → xs ≡ ys
some-same xs ys e = cc

down_is : (front : Option (List Component)) (cs : List Component) → only_down front ≡ Some cs → (front ≡ Some cs) × (leads_down cs ≡ true)
down_is None cs e = cc
down_is (Some rest) cs e =
    elim (leads_down rest) as (λ t. leads_down rest ≡ t → cond t (Some rest) None ≡ Some cs → (Some rest ≡ Some cs) × (leads_down cs ≡ true)) [
      | true ↦ λ is same. (same, subst (λ xs. leads_down xs ≡ true) (some-same rest cs same) is)
      | false ↦ λ _ none. cc
    ] refl e

-- the way down to a path is made of names
pub way-names : (root path : List ℕ) (cs : List Component) → way_down root path ≡ Some cs → AreNames cs
way-names root path cs e =
    let parts = down_is (after_front (cleaned (components root)) (cleaned (components path))) cs e in
    let whole = after_front-is (cleaned (components root)) (cleaned (components path)) cs parts.0 in
    let kept = kept_of [] (components path) in
    let are : AreKept (reverse (cleaned (components path))) = subst AreKept (sym (reverse-reverse kept)) (path-kept (components path) (components-path path)) in
    down-names (cleaned (components root)) cs (subst (λ xs. AreKept (reverse xs)) whole are) parts.1

-- a path is realized by its way down from the root
pub way-realized : (root path : List ℕ) (cs : List Component) → way_down root path ≡ Some cs → realize root (47 ∷ text_of cs) ≡ clean path
way-realized root path cs e =
    let parts = down_is (after_front (cleaned (components root)) (cleaned (components path))) cs e in
    let whole = after_front-is (cleaned (components root)) (cleaned (components path)) cs parts.0 in
    let named = way-names root path cs e in
    ap (λ xs. or_dot (text_of xs)) (ap cleaned (components-join root cs named) ∙ cleaned-names (components root) cs named ∙ sym whole)

-- ---- the way by the difference of two paths

text-follow : (cs : List Component) → AllMayFollow cs → components (text_of cs) ≡ cs
text-follow [] h = refl
text-follow (c ∷ cs) h = components-text_of c cs (ArePath-from_follows (c ∷ cs) h)

front_by : List Component × List Component → Option (List Component)
front_by (down, []) = Some down
front_by (down, u ∷ up) = None

apart-front : (cs bs : List Component) → after_front bs cs ≡ front_by (apart cs bs)
unfolding front_by
apart-front [] [] = refl
apart-front [] (b ∷ bs) = refl
apart-front (c ∷ cs) [] = refl
apart-front (c ∷ cs) (b ∷ bs) =
    elim (same_component c b) as (λ t. same_component c b ≡ t → cond (same_component b c) (after_front bs cs) None ≡ front_by (cond t (apart cs bs) (c ∷ cs, b ∷ bs))) [
      | true ↦ λ same. ap (λ t. cond t (after_front bs cs) None) (ap (same_component b) (same-true c b same) ∙ same-refl b) ∙ apart-front cs bs
      | false ↦ λ other. ap (λ t. cond t (after_front bs cs) None) (same-sym c b ∙ other)
    ] refl

-- a difference says the way down, or that there is none
abbrev pub Leads : Option (List ℕ) → Option (List Component) → Type 0
Leads None way = way ≡ None
Leads (Some text) way = (way ≡ only_down (Some (components text))) × (leads_down (components text) ≡ true → text ≡ text_of (components text))

way-leads : (down up : List Component) → AllMayFollow down → Leads (way down up) (only_down (front_by (down, up)))
unfolding front_by
way-leads down [] h =
    let same = text-follow down h in
    (ap (λ cs. only_down (Some cs)) (sym same), λ _. ap text_of (sym same))
way-leads down (u ∷ up) h =
    elim (list_any is_up (u ∷ up)) as (λ t. Leads (cond t None (Some (text_of (map (λ c. ParentDir) (u ∷ up) ++ down)))) None) [
      | true ↦ refl
      | false ↦
          let are = components-text_of ParentDir (map (λ c. ParentDir) up ++ down) (way-path (u ∷ up) down h) in
          (sym (ap (λ cs. only_down (Some cs)) are), λ leads. absurd (true≢false (sym leads ∙ ap leads_down are)))
    ]

front_of_root : (bs cs : List Component) → AllMayFollow bs → only_down (after_front bs (RootDir ∷ cs)) ≡ None
front_of_root [] cs h = refl
front_of_root (RootDir ∷ bs) cs h = absurd h.0
front_of_root (CurDir ∷ bs) cs h = refl
front_of_root (ParentDir ∷ bs) cs h = refl
front_of_root (Normal name ∷ bs) cs h = refl

no_root : (bs cs : List Component) → AllMayFollow cs → after_front (RootDir ∷ bs) cs ≡ None
no_root bs [] h = refl
no_root bs (RootDir ∷ cs) h = absurd h.0
no_root bs (CurDir ∷ cs) h = refl
no_root bs (ParentDir ∷ cs) h = refl
no_root bs (Normal name ∷ cs) h = refl

-- from a relative root to an absolute path
absolute-leads : (root path : List ℕ) → is_absolute path ≡ true → is_absolute root ≡ false → Leads (Some (without_dots path)) (way_down root path)
absolute-leads root path p r =
    let ours = absolute-cleaned path p in
    let none = ap (λ cs. only_down (after_front (cleaned (components root)) cs)) ours.1 ∙ front_of_root (cleaned (components root)) ours.0 (relative-cleaned root r) in
    elim (bytes_eq (without_dots path) dot) as (λ t. bytes_eq (without_dots path) dot ≡ t → Leads (Some (without_dots path)) (way_down root path)) [
      | true ↦ λ e. nothing_is RootDir ours.0 (cleaned_to_nothing path e ∙ ours.1)
      | false ↦ λ e.
          let are = cleaned_text path e ∙ ours.1 in
          (none ∙ sym (ap (λ cs. only_down (Some cs)) are), λ leads. absurd (true≢false (sym leads ∙ ap leads_down are)))
    ] refl

same-leads : (root path : List ℕ) → is_absolute path ≡ is_absolute root → Leads (let both = apart (cleaned (components path)) (cleaned (components root)) in way both.0 both.1) (way_down root path)
same-leads root path same =
    let both = apart (cleaned (components path)) (cleaned (components root)) in
    subst (λ front. Leads (way both.0 both.1) (only_down front)) (sym (apart-front (cleaned (components path)) (cleaned (components root))))
    (way-leads both.0 both.1 (left_follows path root same))

pub diff-leads : (root path : List ℕ) → Leads (diff path root) (way_down root path)
diff-leads root path =
    elim (is_absolute path) as (λ t. is_absolute path ≡ t → Leads (cond (t && not (is_absolute root)) (Some (without_dots path)) (cond (is_absolute root && not t) None (let both = apart (cleaned (components path)) (cleaned (components root)) in way both.0 both.1))) (way_down root path)) [
      | true ↦ λ p. elim (is_absolute root) as (λ t. is_absolute root ≡ t → Leads (cond (true && not t) (Some (without_dots path)) (cond (t && not true) None (let both = apart (cleaned (components path)) (cleaned (components root)) in way both.0 both.1))) (way_down root path)) [
        | true ↦ λ r. same-leads root path (p ∙ sym r)
        | false ↦ λ r. absolute-leads root path p r
      ] refl
      | false ↦ λ p. elim (is_absolute root) as (λ t. is_absolute root ≡ t → Leads (cond (false && not t) (Some (without_dots path)) (cond (t && not false) None (let both = apart (cleaned (components path)) (cleaned (components root)) in way both.0 both.1))) (way_down root path)) [
        | true ↦ λ r.
            let theirs = absolute-cleaned root r in
            ap only_down (ap (λ bs. after_front bs (cleaned (components path))) theirs.1 ∙ no_root theirs.0 (cleaned (components path)) (relative-cleaned path p))
        | false ↦ λ r. same-leads root path (p ∙ sym r)
      ] refl
    ] refl

-- ---- what the code makes of them

-- a cleaned text behind a slash is a virtual path
pub virtual-clean : (text : List ℕ) → is_virtual (clean (47 ∷ text)) ≡ true
virtual-clean text =
    let root = absolute-cleaned (47 ∷ text) refl in
    let again = (bytes_eq-Decides (clean (clean (47 ∷ text))) (clean (47 ∷ text))).1 (clean-clean (47 ∷ text)) in
    and_from (is_absolute (clean (47 ∷ text))) (bytes_eq (clean (clean (47 ∷ text))) (clean (47 ∷ text))) (ap (λ cs. is_absolute (or_dot (text_of cs))) root.1) again

-- ---- a text of names

climbs-normal : (depth : ℕ) (name : List ℕ) (cs : List Component) → climbs_from depth (Normal name ∷ cs) ≡ climbs_from (suc depth) cs
climbs-normal zero name cs = refl
climbs-normal (suc depth) name cs = refl

climbs-names : (ps : List (List ℕ)) (depth : ℕ) → are_clean false ps ≡ true → climbs_from depth (map component_of ps) ≡ false
climbs-names [] zero h = refl
climbs-names [] (suc depth) h = refl
climbs-names (p ∷ ps) depth h =
    elim (bytes_eq p dot_dot) as (λ t. bytes_eq p dot_dot ≡ t → cond t (false && are_clean true ps) (counts p && are_clean false ps) ≡ true → climbs_from depth (component_of p ∷ map component_of ps) ≡ false) [
      | true ↦ λ _ h. absurd (true≢false (sym h))
      | false ↦ λ no_up h.
          let both = and_parts (counts p) (are_clean false ps) h in
          ap (λ c. climbs_from depth (c ∷ map component_of ps)) (is_normal p no_up both.0) ∙ climbs-normal depth p (map component_of ps) ∙ climbs-names ps (suc depth) both.1
    ] refl h

-- it stays as it is behind the root, whether it begins with a slash or not
abbrev pub IsStored : List ℕ → List ℕ → Type 0
IsStored text names = (escapes text ≡ false) × (clean (47 ∷ text) ≡ 47 ∷ names)

stored-rooted : (names : List ℕ) → are_clean false (parts_at 47 names) ≡ true → IsStored (47 ∷ names) names
stored-rooted names h =
    (ap (climbs_from 0) (counted-clean false (parts_at 47 names) h) ∙ climbs-names (parts_at 47 names) 0 h, absolute_clean names h)

stored-bare : (names : List ℕ) → are_clean false (parts_at 47 names) ≡ true → IsStored names names
stored-bare names h =
    let are : components names ≡ map component_of (parts_at 47 names) =
    ap (λ t. cond t (RootDir ∷ counted (parts_at 47 names)) (counted_after_dot (parts_at 47 names))) (names_relative names h)
    ∙ after_dot-clean false (parts_at 47 names) h ∙ counted-clean false (parts_at 47 names) h in
    (ap (climbs_from 0) are ∙ climbs-names (parts_at 47 names) 0 h, absolute_clean names h)

stored-names : (text : List ℕ) → are_clean false (parts_at 47 (without_slash text)) ≡ true → IsStored text (without_slash text)
stored-names [] h = absurd (true≢false (sym h))
stored-names (b ∷ bs) h =
    elim (eqb b 47) as (λ t. eqb b 47 ≡ t → are_clean false (parts_at 47 (cond t bs (b ∷ bs))) ≡ true → IsStored (b ∷ bs) (cond t bs (b ∷ bs))) [
      | true ↦ λ is h. subst (λ (x : ℕ). IsStored (x ∷ bs) bs) (sym (eqb-true b 47 is)) (stored-rooted bs h)
      | false ↦ λ _ h. stored-bare (b ∷ bs) h
    ] refl h

pub names-virtual : (text : List ℕ) → are_clean false (parts_at 47 (without_slash text)) ≡ true → is_virtual (47 ∷ without_slash text) ≡ true
names-virtual text h = subst (λ t. is_virtual t ≡ true) (stored-names text h).1 (virtual-clean text)

pub names-path_of : (text : List ℕ) → has_nul text ≡ false → are_clean false (parts_at 47 (without_slash text)) ≡ true → virtual_path text ≡ Ok (47 ∷ without_slash text)
names-path_of text no_nul h = let are = stored-names text h in rw (no_nul, are.0) (ap Ok are.1)

pub leads-first : (c : Component) (cs : List Component) → leads_down (c ∷ cs) ≡ leads_down (c ∷ [])
leads-first RootDir cs = refl
leads-first CurDir cs = refl
leads-first ParentDir cs = refl
leads-first (Normal name) cs = refl

-- where there is no difference, or it doesn't lead down, the path isn't below the root
pub no_difference : (root path : List ℕ) → diff path root ≡ None → way_down root path ≡ None
no_difference root path none = subst (λ way. Leads way (way_down root path)) none (diff-leads root path)

pub difference_up : (root path text : List ℕ) → diff path root ≡ Some text → leads_down (components text) ≡ false → way_down root path ≡ None
difference_up root path text is up = (subst (λ way. Leads way (way_down root path)) is (diff-leads root path)).0 ∙ ap (λ t. cond t (Some (components text)) None) up

-- a difference that leads down is the way
pub difference_down : (root path text : List ℕ) → diff path root ≡ Some text → leads_down (components text) ≡ true → (way_down root path ≡ Some (components text)) × (text ≡ text_of (components text))
difference_down root path text is down =
    let leads = subst (λ way. Leads way (way_down root path)) is (diff-leads root path) in
    (leads.0 ∙ ap (λ t. cond t (Some (components text)) None) down, leads.1 down)

pub difference-virtual : (root path text : List ℕ) → diff path root ≡ Some text → leads_down (components text) ≡ true → is_virtual (47 ∷ text) ≡ true
difference-virtual root path text is down =
    let way = difference_down root path text is down in
    subst (λ t. is_virtual (47 ∷ t) ≡ true) (sym way.1) (virtual-names (components text) (way-names root path (components text) way.0))

pub difference-realized : (root path text : List ℕ) → diff path root ≡ Some text → leads_down (components text) ≡ true → realize root (47 ∷ text) ≡ clean path
difference-realized root path text is down =
    let way = difference_down root path text is down in
    ap (λ t. realize root (47 ∷ t)) way.1 ∙ way-realized root path (components text) way.0

pub difference-text : (root path text : List ℕ) → diff path root ≡ Some text → leads_down (components text) ≡ true → way_as_text (way_down root path) ≡ Ok (47 ∷ text)
difference-text root path text is down =
    let way = difference_down root path text is down in
    ap way_as_text way.0 ∙ ap (λ t. Ok (47 ∷ t)) (sym way.1)
