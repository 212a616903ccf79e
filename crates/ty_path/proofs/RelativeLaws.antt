-- One path from another.
use Rattle.std.proofs.Common.{◌≡◌, ℕ, true, false, cond, not, ◌||◌, eqb, true≢false, List, [], ◌∷◌, ◌++◌, map, filter, reverse, refl, sym, ap, ◌∙◌, subst, append_assoc, append-nil, bytes_eq, Some, None, option_map, ◌⊎◌, inl, inr}
use Rattle.std.specs.List.{list_any, list_all, slice_split, onto_first as std_onto}
use Rattle.std.specs.Path.{root_dir, path_components, PathStartsWith, StripsPrefix}
use Rattle.std.proofs.lemmas.Bool.{both_ways, or_parts, and_parts, not-true}
use Rattle.std.proofs.lemmas.List.{map-append, reverse-append, reverse-reverse}
use Rattle.std.proofs.lemmas.Slice.Eq.{bytes_eq-Decides}
use Rattle.ty_model.specs.Paths.{Component, RootDir, CurDir, ParentDir, Normal, onto_first, parts_at, dot, dot_dot, component_of, counts, counted, counted_after_dot, is_absolute, components, component_text, text_of, or_dot, is_up, kept_with, kept_of, cleaned, clean, same_component, after_front, strip_prefix, apart, way, has_dots, without_dots, MayFollow, AllMayFollow, ArePath, slashes}
use Rattle.ty_model.proofs.PathLaws.{components-path, components-text_of, path-kept, kept_again, cleaned-path, text_some, ArePath-from_follows, slash_free, parts_free, counted-follows}
use Rattle.ty_path.specs.Parts.{component_named}
use Rattle.ty_path.proofs.PartLaws.{components-std}

-- ---- the same component

pub same-true : (c b : Component) → same_component c b ≡ true → c ≡ b
same-true RootDir RootDir h = refl
same-true RootDir CurDir h = cc
same-true RootDir ParentDir h = cc
same-true RootDir (Normal b) h = cc
same-true CurDir RootDir h = cc
same-true CurDir CurDir h = refl
same-true CurDir ParentDir h = cc
same-true CurDir (Normal b) h = cc
same-true ParentDir RootDir h = cc
same-true ParentDir CurDir h = cc
same-true ParentDir ParentDir h = refl
same-true ParentDir (Normal b) h = cc
same-true (Normal a) RootDir h = cc
same-true (Normal a) CurDir h = cc
same-true (Normal a) ParentDir h = cc
same-true (Normal a) (Normal b) h = ap Normal ((bytes_eq-Decides a b).0 h)

same-itself : (c : Component) → same_component c c ≡ true
same-itself RootDir = refl
same-itself CurDir = refl
same-itself ParentDir = refl
same-itself (Normal name) = (bytes_eq-Decides name name).1 refl

-- ---- after a front

after_front-append : (bs rest : List Component) → after_front bs (bs ++ rest) ≡ Some rest
after_front-append [] rest = refl
after_front-append (b ∷ bs) rest = rw (same-itself b) (after_front-append bs rest)

after_front-some : (bs cs rest : List Component) → after_front bs cs ≡ Some rest → cs ≡ bs ++ rest
after_front-some [] cs rest h = cc
after_front-some (b ∷ bs) [] rest h = cc
after_front-some (b ∷ bs) (c ∷ cs) rest h =
    elim (same_component b c) as (λ t. same_component b c ≡ t → cond t (after_front bs cs) None ≡ Some rest → c ∷ cs ≡ b ∷ bs ++ rest) [
      | true ↦ λ e k. (λ i. sym (same-true b c e) i ∷ after_front-some bs cs rest k i)
      | false ↦ λ e k. cc
    ] refl h

-- the library's text of a component
text_named : Component → List ℕ
text_named RootDir = root_dir
text_named CurDir = dot
text_named ParentDir = dot_dot
text_named (Normal name) = name

named_text : (text : List ℕ) → text_named (component_named text) ≡ text
unfolding text_named
named_text text =
    elim (bytes_eq text (47 ∷ [])) as (λ t. bytes_eq text (47 ∷ []) ≡ t → text_named (cond t RootDir (component_of text)) ≡ text) [
      | true ↦ λ e. sym ((bytes_eq-Decides text (47 ∷ [])).0 e)
      | false ↦ λ _. elim (bytes_eq text dot) as (λ t. bytes_eq text dot ≡ t → text_named (cond t CurDir (cond (bytes_eq text dot_dot) ParentDir (Normal text))) ≡ text) [
        | true ↦ λ e. sym ((bytes_eq-Decides text dot).0 e)
        | false ↦ λ _. elim (bytes_eq text dot_dot) as (λ t. bytes_eq text dot_dot ≡ t → text_named (cond t ParentDir (Normal text)) ≡ text) [
          | true ↦ λ e. sym ((bytes_eq-Decides text dot_dot).0 e)
          | false ↦ λ _. refl
        ] refl
      ] refl
    ] refl

texts_back : (texts : List (List ℕ)) → map text_named (map component_named texts) ≡ texts
texts_back [] = refl
texts_back (t ∷ ts) = (λ i. named_text t i ∷ texts_back ts i)

texts-std : (path : List ℕ) → map text_named (components path) ≡ path_components path
texts-std path = ap (map text_named) (sym (components-std path)) ∙ texts_back (path_components path)

strips : (path base rest : List ℕ) → StripsPrefix path base rest → components path ≡ components base ++ components rest
strips path base rest h =
    sym (components-std path) ∙ ap (map component_named) h ∙ map-append component_named (path_components base) (path_components rest)
    ∙ (λ i. components-std base i ++ components-std rest i)

pub strip_prefix-some : (path base rest : List ℕ) → StripsPrefix path base rest → strip_prefix path base ≡ Some (text_of (components rest))
strip_prefix-some path base rest h =
    ap (λ cs. option_map text_of (after_front (components base) cs)) (strips path base rest h) ∙ ap (option_map text_of) (after_front-append (components base) (components rest))

starts : (path base : List ℕ) (rest : List Component) → components path ≡ components base ++ rest → PathStartsWith path base
starts path base rest h =
    (map text_named rest, sym (texts-std path) ∙ ap (map text_named) h ∙ map-append text_named (components base) rest ∙ ap (λ ts. ts ++ map text_named rest) (texts-std base))

pub strip_prefix-none : (path base : List ℕ) → (PathStartsWith path base → ⊥) → strip_prefix path base ≡ None
strip_prefix-none path base h =
    elim (after_front (components base) (components path)) as (λ o. after_front (components base) (components path) ≡ o → option_map text_of o ≡ None) [
      | None ↦ λ e. refl
      | Some rest ↦ λ e. absurd (h (starts path base rest (after_front-some (components base) (components path) rest e)))
    ] refl

-- ---- apart

pub apart-same : (cs bs xs ys : List Component) (c b : Component) → cs ≡ c ∷ xs → bs ≡ b ∷ ys → same_component c b ≡ true → apart cs bs ≡ apart xs ys
apart-same cs bs xs ys c b e f h = rw (e, f, h)

pub apart-other : (cs bs xs ys : List Component) (c b : Component) → cs ≡ c ∷ xs → bs ≡ b ∷ ys → same_component c b ≡ false → apart cs bs ≡ (cs, bs)
apart-other cs bs xs ys c b e f h = rw (e, f, h)

pub apart-left_nil : (cs bs : List Component) → cs ≡ [] → apart cs bs ≡ (cs, bs)
apart-left_nil cs bs e = rw e

pub apart-right_nil : (cs bs : List Component) → bs ≡ [] → apart cs bs ≡ (cs, bs)
apart-right_nil [] bs e = refl
apart-right_nil (c ∷ cs) bs e = rw e

apart-follows : (cs bs : List Component) → AllMayFollow cs → AllMayFollow (apart cs bs).0
apart-follows [] bs h = tt
apart-follows (c ∷ cs) [] h = h
apart-follows (c ∷ cs) (b ∷ bs) h =
    elim (same_component c b) as (λ t. AllMayFollow (cond t (apart cs bs) (c ∷ cs, b ∷ bs)).0) [ true ↦ apart-follows cs bs h.1 | false ↦ h ]

-- ---- a text with the components of the cleaned path

-- each component is a name
AreNames : List Component → Type 0
AreNames [] = Unit {0}
AreNames (RootDir ∷ cs) = ⊥
AreNames (CurDir ∷ cs) = ⊥
AreNames (ParentDir ∷ cs) = ⊥
AreNames (Normal name ∷ cs) = AreNames cs

counted-names : (parts : List (List ℕ)) → list_any (λ part. bytes_eq part dot || bytes_eq part dot_dot) parts ≡ false → AreNames (counted parts)
unfolding AreNames
counted-names [] h = tt
counted-names (p ∷ ps) h =
    let both = or_parts (bytes_eq p dot || bytes_eq p dot_dot) (list_any (λ part. bytes_eq part dot || bytes_eq part dot_dot) ps) h in
    let neither = or_parts (bytes_eq p dot) (bytes_eq p dot_dot) both.0 in
    elim (counts p) as (λ t. AreNames (map component_of (cond t (p ∷ filter counts ps) (filter counts ps)))) [
      | true ↦ rw (neither.0, neither.1) (counted-names ps both.1)
      | false ↦ counted-names ps both.1
    ]

after_dot-names : (parts : List (List ℕ)) → list_any (λ part. bytes_eq part dot || bytes_eq part dot_dot) parts ≡ false → AreNames (counted_after_dot parts)
unfolding AreNames
after_dot-names [] h = tt
after_dot-names (p ∷ ps) h =
    let both = or_parts (bytes_eq p dot || bytes_eq p dot_dot) (list_any (λ part. bytes_eq part dot || bytes_eq part dot_dot) ps) h in
    let neither = or_parts (bytes_eq p dot) (bytes_eq p dot_dot) both.0 in
    subst (λ t. AreNames (cond t (CurDir ∷ counted ps) (counted (p ∷ ps)))) (sym neither.0) (counted-names (p ∷ ps) h)

kept_of-names : (kept cs : List Component) → AreNames cs → kept_of kept cs ≡ reverse cs ++ kept
unfolding AreNames
kept_of-names kept [] h = refl
kept_of-names kept (RootDir ∷ cs) h = absurd h
kept_of-names kept (CurDir ∷ cs) h = absurd h
kept_of-names kept (ParentDir ∷ cs) h = absurd h
kept_of-names kept (Normal name ∷ cs) h =
    kept_of-names (Normal name ∷ kept) cs h
    ∙ sym (append_assoc (reverse cs) (Normal name ∷ []) kept) ∙ ap (λ xs. xs ++ kept) (sym (reverse-append (Normal name ∷ []) cs))

-- where no part is . or .. there is nothing to clean
no_dots-cleaned : (path : List ℕ) → has_dots path ≡ false → components path ≡ cleaned (components path)
no_dots-cleaned path h =
    elim (is_absolute path) as (λ t. cond t (RootDir ∷ counted (parts_at 47 path)) (counted_after_dot (parts_at 47 path)) ≡ cleaned (cond t (RootDir ∷ counted (parts_at 47 path)) (counted_after_dot (parts_at 47 path)))) [
      | true ↦
          let cs = counted (parts_at 47 path) in
          sym (ap reverse (kept_of-names (RootDir ∷ []) cs (counted-names (parts_at 47 path) h)) ∙ reverse-append (reverse cs) (RootDir ∷ []) ∙ ap (λ xs. RootDir ∷ xs) (reverse-reverse cs))
      | false ↦
          let cs = counted_after_dot (parts_at 47 path) in
          sym (ap reverse (kept_of-names [] cs (after_dot-names (parts_at 47 path) h) ∙ append-nil (reverse cs)) ∙ reverse-reverse cs)
    ]

cleaned_twice : (xs : List Component) → ArePath xs → cleaned (cleaned xs) ≡ cleaned xs
cleaned_twice xs h = ap reverse (kept_again (kept_of [] xs) (path-kept xs h))

some_text : (c : Component) (cs : List Component) → ArePath (c ∷ cs) → or_dot (text_of (c ∷ cs)) ≡ text_of (c ∷ cs)
some_text c cs h = let some = text_some c cs h in ap or_dot some.2 ∙ sym some.2

-- only where nothing is kept the cleaned form is .
dot-cleaned : (cs : List Component) → ArePath cs → cleaned cs ≡ cs → or_dot (text_of cs) ≡ dot → [] ≡ cs
dot-cleaned [] h again e = refl
dot-cleaned (c ∷ cs) h again e =
    let is_dot : CurDir ∷ [] ≡ c ∷ cs = ap components (sym e ∙ some_text c cs h) ∙ components-text_of c cs h in
    ap cleaned is_dot ∙ again

other-cleaned : (cs : List Component) → ArePath cs → bytes_eq (or_dot (text_of cs)) dot ≡ false → components (or_dot (text_of cs)) ≡ cs
other-cleaned [] h other = absurd (true≢false other)
other-cleaned (c ∷ cs) h other = ap components (some_text c cs h) ∙ components-text_of c cs h

pub cleaned_text : (path : List ℕ) → bytes_eq (without_dots path) dot ≡ false → components (without_dots path) ≡ cleaned (components path)
cleaned_text path other =
    elim (has_dots path) as (λ t. has_dots path ≡ t → bytes_eq (cond t (clean path) path) dot ≡ false → components (cond t (clean path) path) ≡ cleaned (components path)) [
      | true ↦ λ _ o. other-cleaned (cleaned (components path)) (cleaned-path (components path) (components-path path)) o
      | false ↦ λ h _. no_dots-cleaned path h
    ] refl other

pub cleaned_to_nothing : (path : List ℕ) → bytes_eq (without_dots path) dot ≡ true → [] ≡ cleaned (components path)
cleaned_to_nothing path is =
    elim (has_dots path) as (λ t. has_dots path ≡ t → bytes_eq (cond t (clean path) path) dot ≡ true → [] ≡ cleaned (components path)) [
      | true ↦ λ _ e. dot-cleaned (cleaned (components path)) (cleaned-path (components path) (components-path path)) (cleaned_twice (components path) (components-path path)) ((bytes_eq-Decides (clean path) dot).0 e)
      | false ↦ λ h e. absurd (both_ways (has_dots path) h (ap has_dots ((bytes_eq-Decides path dot).0 e)))
    ] refl is

-- ---- what may follow in a cleaned path

follow-push : (cs : List Component) (c : Component) → AllMayFollow cs → MayFollow c → AllMayFollow (cs ++ c ∷ [])
follow-push [] c h k = (k, tt)
follow-push (d ∷ cs) c h k = (h.0, follow-push cs c h.1 k)

follow-reverse : (cs : List Component) → AllMayFollow cs → AllMayFollow (reverse cs)
follow-reverse [] h = tt
follow-reverse (c ∷ cs) h = subst AllMayFollow (sym (reverse-append (c ∷ []) cs)) (follow-push (reverse cs) c (follow-reverse cs h.1) h.0)

follow-append : (cs ds : List Component) → AllMayFollow cs → AllMayFollow ds → AllMayFollow (cs ++ ds)
follow-append [] ds h k = k
follow-append (c ∷ cs) ds h k = (h.0, follow-append cs ds h.1 k)

-- kept components that may follow, and perhaps the root before them
module _ (base : List Component) (stays : kept_with base ParentDir ≡ base ⊎ kept_with base ParentDir ≡ ParentDir ∷ base) where
  kept_above : (more : List Component) (c : Component) → AllMayFollow more → MayFollow c → (next : List Component) × (kept_with (more ++ base) c ≡ next ++ base) × AllMayFollow next
  kept_above more RootDir h k = absurd k
  kept_above more CurDir h k = absurd k
  kept_above more (Normal name) h k = (Normal name ∷ more, refl, (k, h))
  kept_above [] ParentDir h k = elim stays [ inl e ↦ ([], e, tt) | inr e ↦ (ParentDir ∷ [], e, (tt, tt)) ]
  kept_above (RootDir ∷ more) ParentDir h k = absurd h.0
  kept_above (CurDir ∷ more) ParentDir h k = absurd h.0
  kept_above (ParentDir ∷ more) ParentDir h k = (ParentDir ∷ ParentDir ∷ more, refl, (tt, h))
  kept_above (Normal name ∷ more) ParentDir h k = (more, refl, h.1)

  all_above : (cs more : List Component) → AllMayFollow more → AllMayFollow cs → (next : List Component) × (kept_of (more ++ base) cs ≡ next ++ base) × AllMayFollow next
  all_above [] more h k = (more, refl, h)
  all_above (c ∷ cs) more h k =
      let one = kept_above more c h k.0 in
      let rest = all_above cs one.0 one.2 k.1 in
      (rest.0, ap (λ kept. kept_of kept cs) one.1 ∙ rest.1, rest.2)

-- an absolute path is cleaned to the root and what may follow, a relative one to what may follow
pub absolute-cleaned : (path : List ℕ) → is_absolute path ≡ true → (cs : List Component) × (cleaned (components path) ≡ RootDir ∷ cs) × AllMayFollow cs
absolute-cleaned path h =
    let cs = counted (parts_at 47 path) in
    let path_is : components path ≡ RootDir ∷ cs = rw h in
    let above = all_above (RootDir ∷ []) (inl refl) cs [] tt (subst ArePath path_is (components-path path)) in
    (reverse above.0, ap cleaned path_is ∙ ap reverse above.1 ∙ reverse-append above.0 (RootDir ∷ []), follow-reverse above.0 above.2)

cleaned-follow : (cs : List Component) → AllMayFollow cs → AllMayFollow (cleaned cs)
cleaned-follow cs h =
    let above = all_above [] (inr refl) cs [] tt h in
    subst (λ kept. AllMayFollow (reverse kept)) (sym (above.1 ∙ append-nil above.0)) (follow-reverse above.0 above.2)

relative_parts : (parts : List (List ℕ)) → list_all slash_free parts ≡ true → AllMayFollow (cleaned (counted_after_dot parts))
relative_parts [] h = tt
relative_parts (p ∷ ps) h =
    elim (bytes_eq p dot) as (λ t. AllMayFollow (cleaned (cond t (CurDir ∷ counted ps) (counted (p ∷ ps))))) [
      | true ↦ cleaned-follow (counted ps) (counted-follows ps (and_parts (slash_free p) (list_all slash_free ps) h).1)
      | false ↦ cleaned-follow (counted (p ∷ ps)) (counted-follows (p ∷ ps) h)
    ]

pub relative-cleaned : (path : List ℕ) → is_absolute path ≡ false → AllMayFollow (cleaned (components path))
relative-cleaned path h =
    let path_is : components path ≡ counted_after_dot (parts_at 47 path) = rw h in
    subst (λ cs. AllMayFollow (cleaned cs)) (sym path_is) (relative_parts (parts_at 47 path) (parts_free path))

-- what is left of a path after a common front may follow
pub left_follows : (path base : List ℕ) → is_absolute path ≡ is_absolute base → AllMayFollow (apart (cleaned (components path)) (cleaned (components base))).0
left_follows path base same =
    elim (is_absolute path) as (λ t. is_absolute path ≡ t → AllMayFollow (apart (cleaned (components path)) (cleaned (components base))).0) [
      | true ↦ λ e.
          let ours = absolute-cleaned path e in
          let theirs = absolute-cleaned base (sym same ∙ e) in
          subst (λ p. AllMayFollow p.0) (sym (apart-same (cleaned (components path)) (cleaned (components base)) ours.0 theirs.0 RootDir RootDir ours.1 theirs.1 refl)) (apart-follows ours.0 theirs.0 ours.2)
      | false ↦ λ e. apart-follows (cleaned (components path)) (cleaned (components base)) (relative-cleaned path e)
    ] refl

-- ---- the way

pub slashes-append : (cs ds : List Component) → slashes (cs ++ ds) ≡ slashes cs ++ slashes ds
slashes-append [] ds = refl
slashes-append (c ∷ cs) ds = ap (λ xs. component_text c ++ 47 ∷ xs) (slashes-append cs ds) ∙ sym (append_assoc (component_text c) (47 ∷ slashes cs) (slashes ds))

ups_follow : (cs : List Component) → AllMayFollow (map (λ c. ParentDir) cs)
ups_follow [] = tt
ups_follow (c ∷ cs) = (tt, ups_follow cs)

pub way-path : (up down : List Component) → AllMayFollow down → ArePath (map (λ c. ParentDir) up ++ down)
way-path up down h = ArePath-from_follows (map (λ c. ParentDir) up ++ down) (follow-append (map (λ c. ParentDir) up) down (ups_follow up) h)

-- ---- parts as the library's split gives them

onto-same : (b : ℕ) (ps : List (List ℕ)) → std_onto b ps ≡ onto_first b ps
onto-same b [] = refl
onto-same b (p ∷ ps) = refl

pub parts-split : (bs : List ℕ) → slice_split (λ b. eqb b 47) bs ≡ parts_at 47 bs
parts-split [] = refl
parts-split (b ∷ bs) =
    let same = parts-split bs in
    (λ i. cond (eqb b 47) ([] ∷ same i) (std_onto b (same i)))
    ∙ elim (eqb b 47) as (λ t. cond t ([] ∷ parts_at 47 bs) (std_onto b (parts_at 47 bs)) ≡ cond t ([] ∷ parts_at 47 bs) (onto_first b (parts_at 47 bs))) [ true ↦ refl | false ↦ onto-same b (parts_at 47 bs) ]

pub way-some : (down up : List Component) (text : List ℕ) → not (list_any is_up up) ≡ true → text ≡ text_of (map (λ c. ParentDir) up ++ down) → Some text ≡ way down up
way-some down up text h e = rw (not-true (list_any is_up up) h) (ap Some e)
