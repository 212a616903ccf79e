-- A text made of components reads as them, and cleaning twice is cleaning once.
use Rattle.std.proofs.Common.{◌≡◌, ℕ, ◌<◌, zero, suc, Bool, true, false, cond, not, ◌&&◌, eqb, List, [], ◌∷◌, ◌++◌, map, reverse, length, take, filter, refl, sym, ap, ◌∙◌, subst, arith, append_assoc, bytes_eq, true≢false, ◌≤◌, ◌⊎◌, inl, inr, length-append}
use Rattle.std.specs.List.{list_all}
use Rattle.std.proofs.lemmas.Bool.{and_parts, and_from, not-true, or_parts, not_from_false}
use Rattle.std.proofs.lemmas.List.{reverse-append, reverse-reverse}
use Rattle.ty_model.specs.Paths.{Component, RootDir, CurDir, ParentDir, Normal, onto_first, parts_at, is_absolute, dot, dot_dot, component_of, counts, counted, counted_after_dot, components, joined, component_text, text_of, or_dot, kept_with, kept_of, cleaned, clean, is_name, MayFollow, AllMayFollow, ArePath, AreUps, AreKept, slashes}

-- ---- parts of a text

abbrev pub slash_free : List ℕ → Bool
slash_free xs = list_all (λ b. not (eqb b 47)) xs

onto-append : (b : ℕ) (xs : List ℕ) (ys : List (List ℕ)) → onto_first b (parts_at 47 xs ++ ys) ≡ onto_first b (parts_at 47 xs) ++ ys
onto-append b [] ys = refl
onto-append b (c ∷ xs) ys =
    elim (eqb c 47) as (λ t. onto_first b (cond t ([] ∷ parts_at 47 xs) (onto_first c (parts_at 47 xs)) ++ ys) ≡ onto_first b (cond t ([] ∷ parts_at 47 xs) (onto_first c (parts_at 47 xs))) ++ ys) [
      | true ↦ refl
      | false ↦ elim (parts_at 47 xs) as (λ ps. onto_first b (onto_first c ps ++ ys) ≡ onto_first b (onto_first c ps) ++ ys) [ [] ↦ refl | p ∷ ps ↦ refl ]
    ]

-- a slash parts a text
pub parts-slash : (xs ys : List ℕ) → parts_at 47 (xs ++ 47 ∷ ys) ≡ parts_at 47 xs ++ parts_at 47 ys
parts-slash [] ys = refl
parts-slash (b ∷ xs) ys =
    elim (eqb b 47) as (λ t. cond t ([] ∷ parts_at 47 (xs ++ 47 ∷ ys)) (onto_first b (parts_at 47 (xs ++ 47 ∷ ys))) ≡ cond t ([] ∷ parts_at 47 xs) (onto_first b (parts_at 47 xs)) ++ parts_at 47 ys) [
      | true ↦ ap (λ ps. [] ∷ ps) (parts-slash xs ys)
      | false ↦ ap (onto_first b) (parts-slash xs ys) ∙ onto-append b xs (parts_at 47 ys)
    ]

-- without a slash a text is one part
pub parts_one : (xs : List ℕ) → slash_free xs ≡ true → parts_at 47 xs ≡ xs ∷ []
parts_one [] h = refl
parts_one (b ∷ xs) h =
    let p = and_parts (not (eqb b 47)) (slash_free xs) h in
    rw (not-true (eqb b 47) p.0, parts_one xs p.1)

onto-free : (b : ℕ) (ps : List (List ℕ)) → eqb b 47 ≡ false → list_all slash_free ps ≡ true → list_all slash_free (onto_first b ps) ≡ true
onto-free b [] e h = rw e
onto-free b (p ∷ ps) e h = rw e h

-- no part has a slash
pub parts_free : (xs : List ℕ) → list_all slash_free (parts_at 47 xs) ≡ true
parts_free [] = refl
parts_free (b ∷ xs) =
    elim (eqb b 47) as (λ t. eqb b 47 ≡ t → list_all slash_free (cond t ([] ∷ parts_at 47 xs) (onto_first b (parts_at 47 xs))) ≡ true) [
      | true ↦ λ e. parts_free xs
      | false ↦ λ e. onto-free b (parts_at 47 xs) e (parts_free xs)
    ] refl

-- ---- names

is_name-counts : (name : List ℕ) → is_name name ≡ true → counts name ≡ true
is_name-counts name h = (and_parts _ _ (and_parts _ _ h).0).0

is_name-not_up : (name : List ℕ) → is_name name ≡ true → bytes_eq name dot_dot ≡ false
is_name-not_up name h = not-true _ (and_parts (counts name) _ (and_parts _ _ h).0).1

is_name-free : (name : List ℕ) → is_name name ≡ true → slash_free name ≡ true
is_name-free name h = (and_parts (counts name && not (bytes_eq name dot_dot)) (slash_free name) h).1

counts-not_dot : (part : List ℕ) → counts part ≡ true → bytes_eq part dot ≡ false
counts-not_dot part h = (or_parts (bytes_eq part []) (bytes_eq part dot) (not-true _ h)).1

component_of-text : (c : Component) → MayFollow c → component_of (component_text c) ≡ c
component_of-text RootDir h = absurd h
component_of-text CurDir h = absurd h
component_of-text ParentDir h = refl
component_of-text (Normal name) h = rw (counts-not_dot name (is_name-counts name h), is_name-not_up name h)

text-counts : (c : Component) → MayFollow c → counts (component_text c) ≡ true
text-counts RootDir h = absurd h
text-counts CurDir h = absurd h
text-counts ParentDir h = refl
text-counts (Normal name) h = is_name-counts name h

text-free : (c : Component) → MayFollow c → slash_free (component_text c) ≡ true
text-free RootDir h = absurd h
text-free CurDir h = absurd h
text-free ParentDir h = refl
text-free (Normal name) h = is_name-free name h

-- ---- what the parts stand for

counted-cons : (part : List ℕ) (parts : List (List ℕ)) → counts part ≡ true → counted (part ∷ parts) ≡ component_of part ∷ counted parts
counted-cons part parts h = rw h

-- an empty part at the end stands for nothing
counted_end : (parts : List (List ℕ)) → counted (parts ++ [] ∷ []) ≡ counted parts
counted_end [] = refl
counted_end (p ∷ ps) =
    elim (counts p) as (λ t. map component_of (cond t (p ∷ filter counts (ps ++ [] ∷ [])) (filter counts (ps ++ [] ∷ []))) ≡ map component_of (cond t (p ∷ filter counts ps) (filter counts ps))) [
      | true ↦ ap (λ cs. component_of p ∷ cs) (counted_end ps)
      | false ↦ counted_end ps
    ]

counted_after_dot_end : (parts : List (List ℕ)) → counted_after_dot (parts ++ [] ∷ []) ≡ counted_after_dot parts
counted_after_dot_end [] = refl
counted_after_dot_end (p ∷ ps) =
    elim (bytes_eq p dot) as (λ t. cond t (CurDir ∷ counted (ps ++ [] ∷ [])) (counted (p ∷ ps ++ [] ∷ [])) ≡ cond t (CurDir ∷ counted ps) (counted (p ∷ ps))) [
      | true ↦ ap (λ cs. CurDir ∷ cs) (counted_end ps)
      | false ↦ counted_end (p ∷ ps)
    ]

-- a slash at the end changes no component
pub components-slash : (b : ℕ) (xs : List ℕ) → components ((b ∷ xs) ++ 47 ∷ []) ≡ components (b ∷ xs)
components-slash b xs =
    let ps = parts-slash (b ∷ xs) [] in
    (λ i. cond (eqb b 47) (RootDir ∷ counted (ps i)) (counted_after_dot (ps i)))
    ∙ (λ i. cond (eqb b 47) (RootDir ∷ counted_end (parts_at 47 (b ∷ xs)) i) (counted_after_dot_end (parts_at 47 (b ∷ xs)) i))

counted_texts : (cs : List Component) → AllMayFollow cs → counted (map component_text cs) ≡ cs
counted_texts [] h = refl
counted_texts (c ∷ cs) h = counted-cons (component_text c) (map component_text cs) (text-counts c h.0) ∙ (λ i. component_of-text c h.0 i ∷ counted_texts cs h.1 i)

parts-slashes : (cs : List Component) → AllMayFollow cs → parts_at 47 (slashes cs) ≡ map component_text cs ++ [] ∷ []
parts-slashes [] h = refl
parts-slashes (c ∷ cs) h =
    parts-slash (component_text c) (slashes cs)
    ∙ (λ i. parts_one (component_text c) (text-free c h.0) i ++ parts-slashes cs h.1 i)

counted-slashes : (cs : List Component) → AllMayFollow cs → counted (parts_at 47 (slashes cs)) ≡ cs
counted-slashes cs h = ap counted (parts-slashes cs h) ∙ counted_end (map component_text cs) ∙ counted_texts cs h

not_absolute : (name rest : List ℕ) → slash_free name ≡ true → counts name ≡ true → is_absolute (name ++ rest) ≡ false
not_absolute [] rest f h = absurd (true≢false (sym h))
not_absolute (b ∷ name) rest f h = not-true (eqb b 47) (and_parts (not (eqb b 47)) (slash_free name) f).0

follows_relative : (c : Component) (cs : List Component) → MayFollow c → AllMayFollow cs → components (slashes (c ∷ cs)) ≡ c ∷ cs
follows_relative c cs h hs =
    let absolute : is_absolute (slashes (c ∷ cs)) ≡ false = not_absolute (component_text c) (47 ∷ slashes cs) (text-free c h) (text-counts c h) in
    let parts : parts_at 47 (slashes (c ∷ cs)) ≡ component_text c ∷ (map component_text cs ++ [] ∷ []) = parts-slashes (c ∷ cs) (h, hs) in
    (λ i. cond (absolute i) (RootDir ∷ counted (parts_at 47 (slashes (c ∷ cs)))) (counted_after_dot (parts i)))
    ∙ (λ i. cond (counts-not_dot (component_text c) (text-counts c h) i) (CurDir ∷ counted (map component_text cs ++ [] ∷ [])) (counted (component_text c ∷ (map component_text cs ++ [] ∷ []))))
    ∙ counted_end (component_text c ∷ map component_text cs)
    ∙ counted_texts (c ∷ cs) (h, hs)

-- the components, each with a slash behind it, read as themselves
pub components-slashes : (cs : List Component) → ArePath cs → components (slashes cs) ≡ cs
components-slashes [] h = refl
components-slashes (RootDir ∷ cs) h = ap (λ xs. RootDir ∷ xs) (counted-slashes cs h)
components-slashes (CurDir ∷ cs) h = ap (λ xs. CurDir ∷ xs) (counted-slashes cs h)
components-slashes (ParentDir ∷ cs) h = follows_relative ParentDir cs h.0 h.1
components-slashes (Normal name ∷ cs) h = follows_relative (Normal name) cs h.0 h.1

-- ---- a path's components are well formed

component_of-follows : (part : List ℕ) → slash_free part ≡ true → counts part ≡ true → MayFollow (component_of part)
component_of-follows part f h =
    let plain = counts-not_dot part h in
    elim (bytes_eq part dot_dot) as (λ t. bytes_eq part dot_dot ≡ t → MayFollow (cond (bytes_eq part dot) CurDir (cond t ParentDir (Normal part)))) [
      | true ↦ λ e. rw plain tt
      | false ↦ λ e. rw plain (and_from _ _ (and_from _ _ h (not_from_false _ e)) f)
    ] refl

pub counted-follows : (parts : List (List ℕ)) → list_all slash_free parts ≡ true → AllMayFollow (counted parts)
counted-follows [] h = tt
counted-follows (p ∷ ps) h =
    let both = and_parts (slash_free p) (list_all slash_free ps) h in
    elim (counts p) as (λ t. counts p ≡ t → AllMayFollow (map component_of (cond t (p ∷ filter counts ps) (filter counts ps)))) [
      | true ↦ λ e. (component_of-follows p both.0 e, counted-follows ps both.1)
      | false ↦ λ e. counted-follows ps both.1
    ] refl

pub ArePath-from_follows : (cs : List Component) → AllMayFollow cs → ArePath cs
ArePath-from_follows [] h = tt
ArePath-from_follows (RootDir ∷ cs) h = absurd h.0
ArePath-from_follows (CurDir ∷ cs) h = absurd h.0
ArePath-from_follows (ParentDir ∷ cs) h = h
ArePath-from_follows (Normal name ∷ cs) h = h

counted_after_dot-path : (parts : List (List ℕ)) → list_all slash_free parts ≡ true → ArePath (counted_after_dot parts)
counted_after_dot-path [] h = tt
counted_after_dot-path (p ∷ ps) h =
    elim (bytes_eq p dot) as (λ t. ArePath (cond t (CurDir ∷ counted ps) (counted (p ∷ ps)))) [
      | true ↦ counted-follows ps (and_parts (slash_free p) (list_all slash_free ps) h).1
      | false ↦ ArePath-from_follows (counted (p ∷ ps)) (counted-follows (p ∷ ps) h)
    ]

pub components-path : (path : List ℕ) → ArePath (components path)
components-path path =
    elim (is_absolute path) as (λ t. ArePath (cond t (RootDir ∷ counted (parts_at 47 path)) (counted_after_dot (parts_at 47 path)))) [
      | true ↦ counted-follows (parts_at 47 path) (parts_free path)
      | false ↦ counted_after_dot-path (parts_at 47 path) (parts_free path)
    ]

-- ---- what is kept

pub kept_of-append : (kept xs ys : List Component) → kept_of kept (xs ++ ys) ≡ kept_of (kept_of kept xs) ys
kept_of-append kept [] ys = refl
kept_of-append kept (c ∷ xs) ys = kept_of-append (kept_with kept c) xs ys

kept_with-kept : (kept : List Component) (c : Component) → AreKept kept → MayFollow c → AreKept (kept_with kept c)
kept_with-kept kept RootDir k h = absurd h
kept_with-kept kept CurDir k h = absurd h
kept_with-kept kept (Normal name) k h = (h, k)
kept_with-kept [] ParentDir k h = tt
kept_with-kept (RootDir ∷ kept) ParentDir k h = k
kept_with-kept (CurDir ∷ kept) ParentDir k h = absurd k
kept_with-kept (ParentDir ∷ kept) ParentDir k h = k
kept_with-kept (Normal name ∷ kept) ParentDir k h = k.1

kept_of-kept : (kept cs : List Component) → AreKept kept → AllMayFollow cs → AreKept (kept_of kept cs)
kept_of-kept kept [] k h = k
kept_of-kept kept (c ∷ cs) k h = kept_of-kept (kept_with kept c) cs (kept_with-kept kept c k h.0) h.1

pub path-kept : (cs : List Component) → ArePath cs → AreKept (kept_of [] cs)
path-kept [] h = tt
path-kept (RootDir ∷ cs) h = kept_of-kept (RootDir ∷ []) cs refl h
path-kept (CurDir ∷ cs) h = kept_of-kept [] cs tt h
path-kept (ParentDir ∷ cs) h = kept_of-kept [] (ParentDir ∷ cs) tt h
path-kept (Normal name ∷ cs) h = kept_of-kept [] (Normal name ∷ cs) tt h

ups_kept : (kept : List Component) → AreUps kept → kept_with kept ParentDir ≡ ParentDir ∷ kept
ups_kept [] h = refl
ups_kept (RootDir ∷ kept) h = absurd h
ups_kept (CurDir ∷ kept) h = absurd h
ups_kept (ParentDir ∷ kept) h = refl
ups_kept (Normal name ∷ kept) h = absurd h

AreKept-from_ups : (kept : List Component) → AreUps kept → AreKept kept
AreKept-from_ups [] h = tt
AreKept-from_ups (RootDir ∷ kept) h = absurd h
AreKept-from_ups (CurDir ∷ kept) h = absurd h
AreKept-from_ups (ParentDir ∷ kept) h = h
AreKept-from_ups (Normal name ∷ kept) h = absurd h

again : (c : Component) (kept : List Component) → kept_of [] (reverse kept) ≡ kept → kept_with kept c ≡ c ∷ kept → kept_of [] (reverse (c ∷ kept)) ≡ c ∷ kept
again c kept e last = ap (kept_of []) (reverse-append (c ∷ []) kept) ∙ kept_of-append [] (reverse kept) (c ∷ []) ∙ ap (λ k. kept_with k c) e ∙ last

-- what is kept is kept whole the next time
pub kept_again : (kept : List Component) → AreKept kept → kept_of [] (reverse kept) ≡ kept
kept_again [] h = refl
kept_again (RootDir ∷ kept) h = subst (λ k. kept_of [] (reverse (RootDir ∷ k)) ≡ RootDir ∷ k) (sym h) refl
kept_again (CurDir ∷ kept) h = absurd h
kept_again (ParentDir ∷ kept) h = again ParentDir kept (kept_again kept (AreKept-from_ups kept h)) (ups_kept kept h)
kept_again (Normal name ∷ kept) h = again (Normal name) kept (kept_again kept h.1) refl

AllMayFollow-push : (cs : List Component) (c : Component) → AllMayFollow cs → MayFollow c → AllMayFollow (cs ++ c ∷ [])
AllMayFollow-push [] c h k = (k, tt)
AllMayFollow-push (d ∷ cs) c h k = (h.0, AllMayFollow-push cs c h.1 k)

ArePath-push : (cs : List Component) (c : Component) → ArePath cs → MayFollow c → ArePath (cs ++ c ∷ [])
ArePath-push [] c h k = ArePath-from_follows (c ∷ []) (k, tt)
ArePath-push (RootDir ∷ cs) c h k = AllMayFollow-push cs c h k
ArePath-push (CurDir ∷ cs) c h k = AllMayFollow-push cs c h k
ArePath-push (ParentDir ∷ cs) c h k = AllMayFollow-push (ParentDir ∷ cs) c h k
ArePath-push (Normal name ∷ cs) c h k = AllMayFollow-push (Normal name ∷ cs) c h k

push : (c : Component) (kept : List Component) → ArePath (reverse kept) → MayFollow c → ArePath (reverse (c ∷ kept))
push c kept h k = subst ArePath (sym (reverse-append (c ∷ []) kept)) (ArePath-push (reverse kept) c h k)

-- what is kept is a path
pub kept-path : (kept : List Component) → AreKept kept → ArePath (reverse kept)
kept-path [] h = tt
kept-path (RootDir ∷ kept) h = subst (λ k. ArePath (reverse (RootDir ∷ k))) (sym h) tt
kept-path (CurDir ∷ kept) h = absurd h
kept-path (ParentDir ∷ kept) h = push ParentDir kept (kept-path kept (AreKept-from_ups kept h)) tt
kept-path (Normal name ∷ kept) h = push (Normal name) kept (kept-path kept h.1) h.0

-- ---- components as a text

joined-slashes : (c : Component) (cs : List Component) → joined (map component_text (c ∷ cs)) ++ 47 ∷ [] ≡ slashes (c ∷ cs)
joined-slashes c [] = refl
joined-slashes c (d ∷ cs) =
    append_assoc (component_text c) (47 ∷ joined (map component_text (d ∷ cs))) (47 ∷ [])
    ∙ ap (λ xs. component_text c ++ 47 ∷ xs) (joined-slashes d cs)

joined_some : (name : List ℕ) (cs : List Component) → counts name ≡ true → (b : ℕ) × (xs : List ℕ) × (joined (name ∷ map component_text cs) ≡ b ∷ xs)
joined_some [] cs h = absurd (true≢false (sym h))
joined_some (b ∷ name) [] h = (b, name, refl)
joined_some (b ∷ name) (c ∷ cs) h = (b, name ++ 47 ∷ joined (component_text c ∷ map component_text cs), refl)

-- a path that has a component has a byte
pub text_some : (c : Component) (cs : List Component) → ArePath (c ∷ cs) → (b : ℕ) × (xs : List ℕ) × (text_of (c ∷ cs) ≡ b ∷ xs)
text_some RootDir cs h = (47, joined (map component_text cs), refl)
text_some CurDir [] h = (46, [], refl)
text_some CurDir (c ∷ cs) h = (46, 47 ∷ joined (map component_text (c ∷ cs)), refl)
text_some ParentDir cs h = joined_some dot_dot cs refl
text_some (Normal name) cs h = joined_some name cs (is_name-counts name h.0)

-- but at the root alone, a slash behind the text is the last of the slashes
text-slash : (c d : Component) (cs : List Component) → text_of (c ∷ d ∷ cs) ++ 47 ∷ [] ≡ slashes (c ∷ d ∷ cs)
text-slash RootDir d cs = ap (λ xs. 47 ∷ xs) (joined-slashes d cs)
text-slash CurDir d cs = joined-slashes CurDir (d ∷ cs)
text-slash ParentDir d cs = joined-slashes ParentDir (d ∷ cs)
text-slash (Normal name) d cs = joined-slashes (Normal name) (d ∷ cs)

read_back : (cs : List Component) → ArePath cs → text_of cs ++ 47 ∷ [] ≡ slashes cs → (b : ℕ) × (xs : List ℕ) × (text_of cs ≡ b ∷ xs) → components (text_of cs) ≡ cs
read_back cs h slash some =
    ap components some.2
    ∙ sym (components-slash some.0 some.1)
    ∙ ap (λ xs. components (xs ++ 47 ∷ [])) (sym some.2)
    ∙ ap components slash
    ∙ components-slashes cs h

-- a path as a text has the same components, unless there are none
pub components-text_of : (c : Component) (cs : List Component) → ArePath (c ∷ cs) → components (text_of (c ∷ cs)) ≡ c ∷ cs
components-text_of c (d ∷ cs) h = read_back (c ∷ d ∷ cs) h (text-slash c d cs) (text_some c (d ∷ cs) h)
components-text_of RootDir [] h = refl
components-text_of CurDir [] h = refl
components-text_of ParentDir [] h = refl
components-text_of (Normal name) [] h = read_back (Normal name ∷ []) h refl (text_some (Normal name) [] h)

cleaned_again : (cs : List Component) → ArePath cs → cleaned cs ≡ cs → clean (or_dot (text_of cs)) ≡ or_dot (text_of cs)
cleaned_again [] h e = refl
cleaned_again (c ∷ cs) h e =
    let some = text_some c cs h in
    let same : or_dot (text_of (c ∷ cs)) ≡ text_of (c ∷ cs) = ap or_dot some.2 ∙ sym some.2 in
    ap clean same ∙ ap (λ xs. or_dot (text_of (cleaned xs))) (components-text_of c cs h) ∙ ap (λ xs. or_dot (text_of xs)) e

-- cleaning twice is cleaning once
pub clean-clean : (path : List ℕ) → clean (clean path) ≡ clean path
clean-clean path =
    let kept = kept_of [] (components path) in
    let are = path-kept (components path) (components-path path) in
    cleaned_again (reverse kept) (kept-path kept are) (ap reverse (kept_again kept are))

-- ---- slashes behind components

pub slashes-push : (cs : List Component) (c : Component) → slashes (cs ++ c ∷ []) ≡ slashes cs ++ (component_text c ++ 47 ∷ [])
slashes-push [] c = refl
slashes-push (d ∷ cs) c = ap (λ xs. component_text d ++ 47 ∷ xs) (slashes-push cs c) ∙ sym (append_assoc (component_text d) (47 ∷ slashes cs) (component_text c ++ 47 ∷ []))

-- the slashes are the text, with one more slash unless that is empty or the root
abbrev pub Closes : List Component → Type 0
Closes cs = ((slashes cs ≡ text_of cs) × (length (slashes cs) ≤ 1)) ⊎ ((slashes cs ≡ text_of cs ++ 47 ∷ []) × (1 < length (slashes cs)))

closes_by : (cs : List Component) → text_of cs ++ 47 ∷ [] ≡ slashes cs → (b : ℕ) × (xs : List ℕ) × (text_of cs ≡ b ∷ xs) → Closes cs
closes_by cs slash some = inr (sym slash, omega (arith, ap length slash, ap length some.2, length-append (text_of cs) (47 ∷ [])))

pub closes : (cs : List Component) → ArePath cs → Closes cs
closes [] h = inl (refl, omega arith)
closes (c ∷ d ∷ cs) h = closes_by (c ∷ d ∷ cs) (text-slash c d cs) (text_some c (d ∷ cs) h)
closes (RootDir ∷ []) h = inl (refl, omega arith)
closes (CurDir ∷ []) h = closes_by (CurDir ∷ []) refl (text_some CurDir [] h)
closes (ParentDir ∷ []) h = closes_by (ParentDir ∷ []) refl (text_some ParentDir [] h)
closes (Normal name ∷ []) h = closes_by (Normal name ∷ []) refl (text_some (Normal name) [] h)

AllMayFollow-take : (n : ℕ) (cs : List Component) → AllMayFollow cs → AllMayFollow (take n cs)
AllMayFollow-take zero cs h = tt
AllMayFollow-take (suc n) [] h = tt
AllMayFollow-take (suc n) (c ∷ cs) h = (h.0, AllMayFollow-take n cs h.1)

-- the front of a path is a path
pub ArePath-take : (n : ℕ) (cs : List Component) → ArePath cs → ArePath (take n cs)
ArePath-take zero cs h = tt
ArePath-take (suc n) [] h = tt
ArePath-take (suc n) (RootDir ∷ cs) h = AllMayFollow-take n cs h
ArePath-take (suc n) (CurDir ∷ cs) h = AllMayFollow-take n cs h
ArePath-take (suc n) (ParentDir ∷ cs) h = AllMayFollow-take (suc n) (ParentDir ∷ cs) h
ArePath-take (suc n) (Normal name ∷ cs) h = AllMayFollow-take (suc n) (Normal name ∷ cs) h

AllMayFollow-front : (xs ys : List Component) → AllMayFollow (xs ++ ys) → AllMayFollow xs
AllMayFollow-front [] ys h = tt
AllMayFollow-front (c ∷ xs) ys h = (h.0, AllMayFollow-front xs ys h.1)

pub ArePath-front : (xs ys : List Component) → ArePath (xs ++ ys) → ArePath xs
ArePath-front [] ys h = tt
ArePath-front (RootDir ∷ cs) ys h = AllMayFollow-front cs ys h
ArePath-front (CurDir ∷ cs) ys h = AllMayFollow-front cs ys h
ArePath-front (ParentDir ∷ cs) ys h = AllMayFollow-front (ParentDir ∷ cs) ys h
ArePath-front (Normal name ∷ cs) ys h = AllMayFollow-front (Normal name ∷ cs) ys h

-- ---- one more component

pub cleaned-push : (xs : List Component) (c : Component) → cleaned (xs ++ c ∷ []) ≡ reverse (kept_with (kept_of [] xs) c)
cleaned-push xs c = ap reverse (kept_of-append [] xs (c ∷ []))

-- what is cleaned so far may be read again
pub cleaned_again-push : (xs : List Component) (c : Component) → ArePath xs → cleaned (cleaned xs ++ c ∷ []) ≡ cleaned (xs ++ c ∷ [])
cleaned_again-push xs c h =
    cleaned-push (cleaned xs) c ∙ ap (λ k. reverse (kept_with k c)) (kept_again (kept_of [] xs) (path-kept xs h)) ∙ sym (cleaned-push xs c)

pub cleaned-path : (xs : List Component) → ArePath xs → ArePath (cleaned xs)
cleaned-path xs h = kept-path (kept_of [] xs) (path-kept xs h)

-- one more after components that are kept already
pub cleaned_with : (cs : List Component) (c : Component) → AreKept (reverse cs) → cleaned (cs ++ c ∷ []) ≡ reverse (kept_with (reverse cs) c)
cleaned_with cs c h =
    cleaned-push cs c
    ∙ ap (λ k. reverse (kept_with k c)) (ap (kept_of []) (sym (reverse-reverse cs)) ∙ kept_again (reverse cs) h)
