-- A path is its own cleaned form exactly where its parts are clean.
use Rattle.std.proofs.Common.{◌≡◌, ◌≢◌, ◌↔◌, ℕ, Bool, true, false, true≢false, cond, not, ◌&&◌, ◌||◌, eqb, List, [], ◌∷◌, ◌++◌, map, reverse, refl, sym, ap, ◌∙◌, subst, append_assoc, append-nil, bytes_eq, drop, Option, Some, None}
use Rattle.std.specs.Prelude.{IsTrue, is_some}
use Rattle.std.specs.Option.{option_map_or}
use Rattle.std.specs.List.{list_all}
use Rattle.std.proofs.lemmas.Bool.{and_parts, and_from, not-true, or_parts, eqb-true}
use Rattle.std.proofs.lemmas.List.{map-append, reverse-append, reverse-reverse}
use Rattle.std.proofs.lemmas.Slice.Eq.{bytes_eq-Decides}
use Rattle.ty_model.specs.Paths.{Component, RootDir, CurDir, ParentDir, Normal, onto_first, parts_at, is_absolute, dot, dot_dot, component_of, counts, counted, counted_after_dot, components, joined, component_text, text_of, or_dot, kept_with, kept_of, cleaned, clean, is_name, MayFollow, AllMayFollow, ArePath, AreUps, AreKept}
use Rattle.ty_model.proofs.PathLaws.{slash_free, parts-slash, parts_one, components-path, path-kept, kept-path}
use Rattle.ty_model.proofs.Cuts.{some_parts}
use Rattle.ty_path.specs.Clean.{are_clean, begins_plain, are_plain, part_of}
use Rattle.ty_path.specs.declared.pass.Part.{Part}
use Rattle.ty_path.specs.declared.pass.Part.TheVariants.{Empty, Dot, DotDot, Name}

-- ---- a part as it is read

long_name : (x y z : ℕ) (r : List ℕ) → part_of (x ∷ y ∷ z ∷ r) ≡ Name
long_name x y z r = elim (eqb x 46) as (λ t. cond (t && false) Dot (cond (t && (eqb y 46 && false)) DotDot Name) ≡ Name) [
  | true ↦ elim (eqb y 46) as (λ t. cond (t && false) DotDot Name ≡ Name) [ true ↦ refl | false ↦ refl ]
  | false ↦ refl
]

pub with_other : (read : List ℕ) (b : ℕ) → eqb b 46 ≡ false → part_of (read ++ b ∷ []) ≡ Name
with_other [] b h = rw h refl
with_other (x ∷ []) b h = rw h (elim (eqb x 46) as (λ t. cond (t && false) Dot (cond (t && false) DotDot Name) ≡ Name) [ true ↦ refl | false ↦ refl ])
with_other (x ∷ y ∷ []) b h = long_name x y b []
with_other (x ∷ y ∷ z ∷ r) b h = long_name x y z (r ++ b ∷ [])

-- what one more . makes of a part
abbrev pub dotted : Part → Part
dotted Empty = Dot
dotted Dot = DotDot
dotted DotDot = Name
dotted Name = Name

pub with_dot : (read : List ℕ) → part_of (read ++ 46 ∷ []) ≡ dotted (part_of read)
with_dot [] = refl
with_dot (x ∷ []) = elim (eqb x 46) as (λ t. cond (t && false) Dot (cond (t && true) DotDot Name) ≡ dotted (cond (t && true) Dot (cond (t && false) DotDot Name))) [ true ↦ refl | false ↦ refl ]
with_dot (x ∷ y ∷ []) =
    long_name x y 46 []
    ∙ elim (eqb x 46) as (λ t. Name ≡ dotted (cond (t && false) Dot (cond (t && (eqb y 46 && true)) DotDot Name))) [
      | true ↦ elim (eqb y 46) as (λ t. Name ≡ dotted (cond (t && true) DotDot Name)) [ true ↦ refl | false ↦ refl ]
      | false ↦ refl
    ]
with_dot (x ∷ y ∷ z ∷ r) = long_name x y z (r ++ 46 ∷ []) ∙ ap dotted (sym (long_name x y z r))

-- what the next part may be after a part, as far as the rest is clean
abbrev pub ended : Part → Bool → List (List ℕ) → Bool
ended Empty ups rest = false
ended Dot ups rest = false
ended DotDot ups rest = ups && are_clean true rest
ended Name ups rest = are_clean false rest

pub end_part : (ups : Bool) (read : List ℕ) (rest : List (List ℕ)) → are_clean ups (read ∷ rest) ≡ ended (part_of read) ups rest
end_part ups [] rest = refl
end_part ups (x ∷ []) rest =
    elim (eqb x 46) as (λ t. cond (t && false) (ups && are_clean true rest) (not (false || (t && true)) && are_clean false rest) ≡ ended (cond (t && true) Dot (cond (t && false) DotDot Name)) ups rest) [ true ↦ refl | false ↦ refl ]
end_part ups (x ∷ y ∷ r) rest =
    elim (eqb x 46) as (λ t. cond (t && bytes_eq (y ∷ r) dot) (ups && are_clean true rest) (not (false || (t && false)) && are_clean false rest) ≡ ended (cond (t && false) Dot (cond (t && bytes_eq (y ∷ r) dot) DotDot Name)) ups rest) [
      | true ↦ elim (bytes_eq (y ∷ r) dot) as (λ t. cond t (ups && are_clean true rest) (are_clean false rest) ≡ ended (cond t DotDot Name) ups rest) [ true ↦ refl | false ↦ refl ]
      | false ↦ refl
    ]

-- ---- the parts of a text behind a part that was read

abbrev pub onto : List ℕ → List (List ℕ) → List (List ℕ)
onto read [] = read ∷ []
onto read (part ∷ parts) = (read ++ part) ∷ parts

pub onto-nothing : (text : List ℕ) → onto [] (parts_at 47 text) ≡ parts_at 47 text
onto-nothing text = let some = some_parts 47 text in ap (onto []) some.2 ∙ sym some.2

pub onto-slash : (read : List ℕ) (b : ℕ) (text : List ℕ) → eqb b 47 ≡ true → onto read (parts_at 47 (b ∷ text)) ≡ read ∷ parts_at 47 text
onto-slash read b text h = rw h (ap (λ xs. xs ∷ parts_at 47 text) (append-nil read))

pub onto-other : (read : List ℕ) (b : ℕ) (text : List ℕ) → eqb b 47 ≡ false → onto read (parts_at 47 (b ∷ text)) ≡ onto (read ++ b ∷ []) (parts_at 47 text)
onto-other read b text h =
    let some = some_parts 47 text in
    rw h (ap (λ ps. onto read (onto_first b ps)) some.2 ∙ ap (λ xs. xs ∷ some.1) (sym (append_assoc read (b ∷ []) some.0)) ∙ ap (onto (read ++ b ∷ [])) (sym some.2))

-- ---- parts that don't begin with a dot

pub plain_clean : (ups : Bool) (ps : List (List ℕ)) → list_all begins_plain ps ≡ true → are_clean ups ps ≡ true
plain_clean ups [] h = refl
plain_clean ups ([] ∷ ps) h = absurd (true≢false (sym h))
plain_clean ups ((b ∷ p) ∷ ps) h =
    let both = and_parts (not (eqb b 46)) (list_all begins_plain ps) h in
    let other = not-true (eqb b 46) both.0 in
    rw other (plain_clean false ps both.1)

-- the parts of what is left are such, where the first one may have begun before
abbrev pub plain_from : Bool → List ℕ → Bool
plain_from begins text = cond begins (are_plain text) (list_all begins_plain (drop 1 (parts_at 47 text)))

-- ---- the parts of a text, joined again

onto-joined : (b : ℕ) (x : List ℕ) (xs : List (List ℕ)) → joined (onto_first b (x ∷ xs)) ≡ b ∷ joined (x ∷ xs)
onto-joined b x [] = refl
onto-joined b x (y ∷ ys) = refl

pub joined-parts : (text : List ℕ) → joined (parts_at 47 text) ≡ text
joined-parts [] = refl
joined-parts (b ∷ bs) =
    let some = some_parts 47 bs in
    elim (eqb b 47) as (λ t. eqb b 47 ≡ t → joined (cond t ([] ∷ parts_at 47 bs) (onto_first b (parts_at 47 bs))) ≡ b ∷ bs) [
      | true ↦ λ is. ap (λ ps. joined ([] ∷ ps)) some.2 ∙ ap (λ ps. 47 ∷ joined ps) (sym some.2) ∙ (λ i. sym (eqb-true b 47 is) i ∷ joined-parts bs i)
      | false ↦ λ _. ap (λ ps. joined (onto_first b ps)) some.2 ∙ onto-joined b some.0 some.1 ∙ ap (λ ps. b ∷ joined ps) (sym some.2) ∙ ap (λ xs. b ∷ xs) (joined-parts bs)
    ] refl

-- ---- from clean parts to a clean text

counts_no_dot : (p : List ℕ) → counts p ≡ true → bytes_eq p dot ≡ false
counts_no_dot p h = (or_parts (bytes_eq p []) (bytes_eq p dot) (not-true _ h)).1

-- the first of clean parts counts, and the others are clean
abbrev First : Bool → List ℕ → List (List ℕ) → Bool → Type 0
First ups p ps true = (ups ≡ true) × (p ≡ dot_dot) × (are_clean true ps ≡ true)
First ups p ps false = (counts p ≡ true) × (component_of p ≡ Normal p) × (are_clean false ps ≡ true)

first_clean : (ups : Bool) (p : List ℕ) (ps : List (List ℕ)) → are_clean ups (p ∷ ps) ≡ true → (t : Bool) × First ups p ps t
first_clean ups p ps =
    elim (bytes_eq p dot_dot) as (λ t. bytes_eq p dot_dot ≡ t → cond t (ups && are_clean true ps) (counts p && are_clean false ps) ≡ true → (t : Bool) × First ups p ps t) [
      | true ↦ λ is h. let both = and_parts ups (are_clean true ps) h in (true, (both.0, (bytes_eq-Decides p dot_dot).0 is, both.1))
      | false ↦ λ other h.
          let both = and_parts (counts p) (are_clean false ps) h in
          let plain = counts_no_dot p both.0 in
          (false, (both.0, rw (plain, other) refl, both.1))
    ] refl

counted_first : (p : List ℕ) (ps : List (List ℕ)) → counts p ≡ true → counted (p ∷ ps) ≡ component_of p ∷ counted ps
counted_first p ps h = rw h refl

pub counted-clean : (ups : Bool) (ps : List (List ℕ)) → are_clean ups ps ≡ true → counted ps ≡ map component_of ps
counted-clean ups [] h = refl
counted-clean ups (p ∷ ps) h =
    let first = first_clean ups p ps h in
    elim first.0 as (λ t. First ups p ps t → counted (p ∷ ps) ≡ component_of p ∷ map component_of ps) [
      | true ↦ λ is. counted_first p ps (ap counts is.1) ∙ ap (λ cs. component_of p ∷ cs) (counted-clean true ps is.2)
      | false ↦ λ is. counted_first p ps is.0 ∙ ap (λ cs. component_of p ∷ cs) (counted-clean false ps is.2)
    ] first.1

pub after_dot-clean : (ups : Bool) (ps : List (List ℕ)) → are_clean ups ps ≡ true → counted_after_dot ps ≡ counted ps
after_dot-clean ups [] h = refl
after_dot-clean ups (p ∷ ps) h =
    let first = first_clean ups p ps h in
    let plain : bytes_eq p dot ≡ false = elim first.0 as (λ t. First ups p ps t → bytes_eq p dot ≡ false) [
      | true ↦ λ is. ap (λ t. bytes_eq t dot) is.1
      | false ↦ λ is. counts_no_dot p is.0
    ] first.1 in
    ap (λ t. cond t (CurDir ∷ counted ps) (counted (p ∷ ps))) plain

ups_kept : (kept : List Component) → AreUps kept → kept_with kept ParentDir ≡ ParentDir ∷ kept
ups_kept [] h = refl
ups_kept (RootDir ∷ kept) h = absurd h
ups_kept (CurDir ∷ kept) h = absurd h
ups_kept (ParentDir ∷ kept) h = refl
ups_kept (Normal name ∷ kept) h = absurd h

kept_next : (kept cs : List Component) (c : Component) → kept_of (c ∷ kept) cs ≡ reverse cs ++ c ∷ kept → kept_of (c ∷ kept) cs ≡ reverse (c ∷ cs) ++ kept
kept_next kept cs c e = e ∙ sym (append_assoc (reverse cs) (c ∷ []) kept) ∙ ap (λ xs. xs ++ kept) (sym (reverse-append (c ∷ []) cs))

-- clean parts are kept whole
kept-clean : (ups : Bool) (kept : List Component) (ps : List (List ℕ)) → (ups ≡ true → AreUps kept) → are_clean ups ps ≡ true → kept_of kept (map component_of ps) ≡ reverse (map component_of ps) ++ kept
kept-clean ups kept [] u h = refl
kept-clean ups kept (p ∷ ps) u h =
    let first = first_clean ups p ps h in
    let cs = map component_of ps in
    elim first.0 as (λ t. First ups p ps t → kept_of kept (component_of p ∷ cs) ≡ reverse (component_of p ∷ cs) ++ kept) [
      | true ↦ λ is.
          let up : component_of p ≡ ParentDir = ap component_of is.1 in
          ap (λ c. kept_of kept (c ∷ cs)) up ∙ ap (λ k. kept_of k cs) (ups_kept kept (u is.0))
          ∙ kept_next kept cs ParentDir (kept-clean true (ParentDir ∷ kept) ps (λ _. u is.0) is.2)
          ∙ ap (λ c. reverse (c ∷ cs) ++ kept) (sym up)
      | false ↦ λ is.
          ap (λ c. kept_of kept (c ∷ cs)) is.1
          ∙ kept_next kept cs (Normal p) (kept-clean false (Normal p ∷ kept) ps (λ e. absurd (true≢false (sym e))) is.2)
          ∙ ap (λ c. reverse (c ∷ cs) ++ kept) (sym is.1)
    ] first.1

text_again : (p : List ℕ) → component_text (component_of p) ≡ p
text_again p =
    elim (bytes_eq p dot) as (λ t. bytes_eq p dot ≡ t → component_text (cond t CurDir (cond (bytes_eq p dot_dot) ParentDir (Normal p))) ≡ p) [
      | true ↦ λ is. sym ((bytes_eq-Decides p dot).0 is)
      | false ↦ λ _. elim (bytes_eq p dot_dot) as (λ t. bytes_eq p dot_dot ≡ t → component_text (cond t ParentDir (Normal p)) ≡ p) [
        | true ↦ λ is. sym ((bytes_eq-Decides p dot_dot).0 is)
        | false ↦ λ _. refl
      ] refl
    ] refl

pub texts_again : (ps : List (List ℕ)) → map component_text (map component_of ps) ≡ ps
texts_again [] = refl
texts_again (p ∷ ps) = λ i. text_again p i ∷ texts_again ps i

pub text_of-parts : (ps : List (List ℕ)) → text_of (map component_of ps) ≡ joined ps
text_of-parts [] = refl
text_of-parts (p ∷ ps) =
    elim (bytes_eq p dot) as (λ t. text_of (cond t CurDir (cond (bytes_eq p dot_dot) ParentDir (Normal p)) ∷ map component_of ps) ≡ joined (component_text (cond t CurDir (cond (bytes_eq p dot_dot) ParentDir (Normal p))) ∷ map component_text (map component_of ps))) [
      | true ↦ refl
      | false ↦ elim (bytes_eq p dot_dot) as (λ t. text_of (cond t ParentDir (Normal p) ∷ map component_of ps) ≡ joined (component_text (cond t ParentDir (Normal p)) ∷ map component_text (map component_of ps))) [ true ↦ refl | false ↦ refl ]
    ]
    ∙ ap joined (texts_again (p ∷ ps))

-- what clean parts count for is cleaned to their text
pub parts_text : (ups : Bool) (text : List ℕ) → are_clean ups (parts_at 47 text) ≡ true → text_of (cleaned (counted (parts_at 47 text))) ≡ text
parts_text ups text h =
    let ps = parts_at 47 text in
    let cs = map component_of ps in
    ap (λ xs. text_of (cleaned xs)) (counted-clean ups ps h)
    ∙ ap (λ k. text_of (reverse k)) (kept-clean ups [] ps (λ _. tt) h ∙ append-nil (reverse cs))
    ∙ ap text_of (reverse-reverse cs) ∙ text_of-parts ps ∙ joined-parts text

pub dotted_text : (ups : Bool) (text : List ℕ) → are_clean ups (parts_at 47 text) ≡ true → or_dot text ≡ text
dotted_text ups [] h = absurd (true≢false (sym h))
dotted_text ups (b ∷ text) h = refl

pub relative_clean : (text : List ℕ) → is_absolute text ≡ false → are_clean true (parts_at 47 text) ≡ true → clean text ≡ text
relative_clean text other h =
    ap (λ t. or_dot (text_of (cleaned (cond t (RootDir ∷ counted (parts_at 47 text)) (counted_after_dot (parts_at 47 text)))))) other
    ∙ ap (λ cs. or_dot (text_of (cleaned cs))) (after_dot-clean true (parts_at 47 text) h)
    ∙ ap or_dot (parts_text true text h) ∙ dotted_text true text h

pub absolute_clean : (rest : List ℕ) → are_clean false (parts_at 47 rest) ≡ true → clean (47 ∷ rest) ≡ 47 ∷ rest
absolute_clean rest h =
    let ps = parts_at 47 rest in
    let cs = map component_of ps in
    ap (λ xs. or_dot (text_of (reverse (kept_of (RootDir ∷ []) xs)))) (counted-clean false ps h)
    ∙ ap (λ k. or_dot (text_of (reverse k))) (kept-clean false (RootDir ∷ []) ps (λ e. absurd (true≢false (sym e))) h)
    ∙ ap (λ xs. or_dot (text_of xs)) (reverse-append (reverse cs) (RootDir ∷ []) ∙ ap (λ xs. RootDir ∷ xs) (reverse-reverse cs))
    ∙ ap (λ xs. 47 ∷ joined xs) (texts_again ps) ∙ ap (λ xs. 47 ∷ xs) (joined-parts rest)

-- ---- clean texts by their parts

-- the text is . or the root, or its parts are clean
abbrev pub clean_text : List ℕ → Bool
clean_text text = bytes_eq text dot || (bytes_eq text (47 ∷ []) || cond (is_absolute text) (are_clean false (parts_at 47 (drop 1 text))) (are_clean true (parts_at 47 text)))

or_true : (a b : Bool) → b ≡ true → (a || b) ≡ true
or_true true b h = refl
or_true false b h = h

pub clean_text-is : (text : List ℕ) → clean_text text ≡ true → clean text ≡ text
clean_text-is text =
    elim (bytes_eq text dot) as (λ t. bytes_eq text dot ≡ t → (t || (bytes_eq text (47 ∷ []) || cond (is_absolute text) (are_clean false (parts_at 47 (drop 1 text))) (are_clean true (parts_at 47 text)))) ≡ true → clean text ≡ text) [
      | true ↦ λ is _. let e = (bytes_eq-Decides text dot).0 is in ap clean e ∙ sym e
      | false ↦ λ _. elim (bytes_eq text (47 ∷ [])) as (λ t. bytes_eq text (47 ∷ []) ≡ t → (t || cond (is_absolute text) (are_clean false (parts_at 47 (drop 1 text))) (are_clean true (parts_at 47 text))) ≡ true → clean text ≡ text) [
        | true ↦ λ is _. let e = (bytes_eq-Decides text (47 ∷ [])).0 is in ap clean e ∙ sym e
        | false ↦ λ _. by_root text
      ] refl
    ] refl
  where
    by_root : (text : List ℕ) → cond (is_absolute text) (are_clean false (parts_at 47 (drop 1 text))) (are_clean true (parts_at 47 text)) ≡ true → clean text ≡ text
    by_root [] = λ h. absurd (true≢false (sym h))
    by_root (b ∷ bs) =
        elim (eqb b 47) as (λ t. eqb b 47 ≡ t → cond t (are_clean false (parts_at 47 bs)) (are_clean true (parts_at 47 (b ∷ bs))) ≡ true → clean (b ∷ bs) ≡ b ∷ bs) [
          | true ↦ λ is h. subst (λ (x : ℕ). clean (x ∷ bs) ≡ x ∷ bs) (sym (eqb-true b 47 is)) (absolute_clean bs h)
          | false ↦ λ other h. relative_clean (b ∷ bs) other h
        ] refl

-- ---- from a clean text to clean parts

pub are_clean-append : (ups : Bool) (ps qs : List (List ℕ)) → are_clean ups ps ≡ true → are_clean false qs ≡ true → are_clean ups (ps ++ qs) ≡ true
are_clean-append true [] [] h k = refl
are_clean-append true [] (q ∷ qs) h k =
    elim (bytes_eq q dot_dot) as (λ t. cond t (false && are_clean true qs) (counts q && are_clean false qs) ≡ true → cond t (true && are_clean true qs) (counts q && are_clean false qs) ≡ true) [
      | true ↦ λ k. absurd (true≢false (sym k))
      | false ↦ λ k. k
    ] k
are_clean-append false [] qs h k = k
are_clean-append ups (p ∷ ps) qs h k =
    elim (bytes_eq p dot_dot) as (λ t. cond t (ups && are_clean true ps) (counts p && are_clean false ps) ≡ true → cond t (ups && are_clean true (ps ++ qs)) (counts p && are_clean false (ps ++ qs)) ≡ true) [
      | true ↦ λ h. let both = and_parts ups (are_clean true ps) h in and_from ups (are_clean true (ps ++ qs)) both.0 (are_clean-append true ps qs both.1 k)
      | false ↦ λ h. let both = and_parts (counts p) (are_clean false ps) h in and_from (counts p) (are_clean false (ps ++ qs)) both.0 (are_clean-append false ps qs both.1 k)
    ] h

name_clean : (name : List ℕ) → is_name name ≡ true → are_clean false (name ∷ []) ≡ true
name_clean name h =
    let parts = and_parts (counts name && not (bytes_eq name dot_dot)) (slash_free name) h in
    let both = and_parts (counts name) (not (bytes_eq name dot_dot)) parts.0 in
    rw (both.0, not-true (bytes_eq name dot_dot) both.1) refl

-- the texts of these components are clean, behind the root where that comes first
abbrev Texts : List Component → Type 0
Texts [] = Unit {0}
Texts (RootDir ∷ cs) = are_clean false (map component_text cs) ≡ true
Texts (CurDir ∷ cs) = ⊥
Texts (ParentDir ∷ cs) = are_clean true (map component_text (ParentDir ∷ cs)) ≡ true
Texts (Normal name ∷ cs) = are_clean true (map component_text (Normal name ∷ cs)) ≡ true

more_texts : (ups : Bool) (cs : List Component) (name : List ℕ) → is_name name ≡ true → are_clean ups (map component_text cs) ≡ true → are_clean ups (map component_text (cs ++ Normal name ∷ [])) ≡ true
more_texts ups cs name n h = ap (are_clean ups) (map-append component_text cs (Normal name ∷ [])) ∙ are_clean-append ups (map component_text cs) (name ∷ []) h (name_clean name n)

texts-push : (cs : List Component) (name : List ℕ) → is_name name ≡ true → Texts cs → Texts (cs ++ Normal name ∷ [])
texts-push [] name n h = are_clean-append true [] (name ∷ []) refl (name_clean name n)
texts-push (RootDir ∷ cs) name n h = more_texts false cs name n h
texts-push (CurDir ∷ cs) name n h = absurd h
texts-push (ParentDir ∷ cs) name n h = more_texts true (ParentDir ∷ cs) name n h
texts-push (Normal m ∷ cs) name n h = more_texts true (Normal m ∷ cs) name n h

ups-push : (cs : List Component) → AreUps cs → AreUps (cs ++ ParentDir ∷ [])
ups-push [] h = tt
ups-push (RootDir ∷ cs) h = absurd h
ups-push (CurDir ∷ cs) h = absurd h
ups-push (ParentDir ∷ cs) h = ups-push cs h
ups-push (Normal name ∷ cs) h = absurd h

ups-reverse : (cs : List Component) → AreUps cs → AreUps (reverse cs)
ups-reverse [] h = tt
ups-reverse (RootDir ∷ cs) h = absurd h
ups-reverse (CurDir ∷ cs) h = absurd h
ups-reverse (ParentDir ∷ cs) h = subst AreUps (sym (reverse-append (ParentDir ∷ []) cs)) (ups-push (reverse cs) (ups-reverse cs h))
ups-reverse (Normal name ∷ cs) h = absurd h

ups-clean : (cs : List Component) → AreUps cs → are_clean true (map component_text cs) ≡ true
ups-clean [] h = refl
ups-clean (RootDir ∷ cs) h = absurd h
ups-clean (CurDir ∷ cs) h = absurd h
ups-clean (ParentDir ∷ cs) h = ups-clean cs h
ups-clean (Normal name ∷ cs) h = absurd h

ups-texts : (cs : List Component) → AreUps cs → Texts cs
ups-texts [] h = tt
ups-texts (RootDir ∷ cs) h = absurd h
ups-texts (CurDir ∷ cs) h = absurd h
ups-texts (ParentDir ∷ cs) h = ups-clean cs h
ups-texts (Normal name ∷ cs) h = absurd h

kept-texts : (kept : List Component) → AreKept kept → Texts (reverse kept)
kept-texts [] h = tt
kept-texts (RootDir ∷ kept) h = subst (λ k. Texts (reverse (RootDir ∷ k))) (sym h) refl
kept-texts (CurDir ∷ kept) h = absurd h
kept-texts (ParentDir ∷ kept) h = ups-texts (reverse (ParentDir ∷ kept)) (ups-reverse (ParentDir ∷ kept) h)
kept-texts (Normal name ∷ kept) h = subst Texts (sym (reverse-append (Normal name ∷ []) kept)) (texts-push (reverse kept) name h.0 (kept-texts kept h.1))

text-free : (c : Component) → MayFollow c → slash_free (component_text c) ≡ true
text-free RootDir h = absurd h
text-free CurDir h = absurd h
text-free ParentDir h = refl
text-free (Normal name) h = (and_parts (counts name && not (bytes_eq name dot_dot)) (slash_free name) h).1

parts-joined : (c : Component) (cs : List Component) → AllMayFollow (c ∷ cs) → parts_at 47 (joined (map component_text (c ∷ cs))) ≡ map component_text (c ∷ cs)
parts-joined c [] h = parts_one (component_text c) (text-free c h.0)
parts-joined c (d ∷ cs) h =
    parts-slash (component_text c) (joined (map component_text (d ∷ cs)))
    ∙ (λ i. parts_one (component_text c) (text-free c h.0) i ++ parts-joined d cs h.1 i)

pub relative_text : (b : ℕ) (xs : List ℕ) → eqb b 47 ≡ false → are_clean true (parts_at 47 (b ∷ xs)) ≡ true → clean_text (b ∷ xs) ≡ true
relative_text b xs other h =
    or_true (bytes_eq (b ∷ xs) dot) _ (or_true (bytes_eq (b ∷ xs) (47 ∷ [])) _ (ap (λ t. cond t (are_clean false (parts_at 47 xs)) (are_clean true (parts_at 47 (b ∷ xs)))) other ∙ h))

pub absolute_text : (xs : List ℕ) → are_clean false (parts_at 47 xs) ≡ true → clean_text (47 ∷ xs) ≡ true
absolute_text xs h = or_true (bytes_eq xs []) _ h

texts-clean : (cs : List Component) → ArePath cs → Texts cs → clean_text (or_dot (text_of cs)) ≡ true
texts-clean [] p h = refl
texts-clean (RootDir ∷ []) p h = refl
texts-clean (RootDir ∷ c ∷ cs) p h = absolute_text (joined (map component_text (c ∷ cs))) (ap (are_clean false) (parts-joined c cs p) ∙ h)
texts-clean (CurDir ∷ cs) p h = absurd h
texts-clean (ParentDir ∷ []) p h = refl
texts-clean (ParentDir ∷ c ∷ cs) p h = relative_text 46 (46 ∷ 47 ∷ joined (map component_text (c ∷ cs))) refl (ap (are_clean true) (parts-joined ParentDir (c ∷ cs) p) ∙ h)
texts-clean (Normal [] ∷ cs) p h = absurd (true≢false (sym p.0))
texts-clean (Normal (b ∷ name) ∷ []) p h =
    let free = and_parts (not (eqb b 47)) (slash_free name) (text-free (Normal (b ∷ name)) p.0) in
    relative_text b name (not-true (eqb b 47) free.0) (ap (are_clean true) (parts-joined (Normal (b ∷ name)) [] p) ∙ h)
texts-clean (Normal (b ∷ name) ∷ c ∷ cs) p h =
    let free = and_parts (not (eqb b 47)) (slash_free name) (text-free (Normal (b ∷ name)) p.0) in
    relative_text b (name ++ 47 ∷ joined (map component_text (c ∷ cs))) (not-true (eqb b 47) free.0) (ap (are_clean true) (parts-joined (Normal (b ∷ name)) (c ∷ cs) p) ∙ h)

pub clean_text-from : (text : List ℕ) → clean text ≡ text → clean_text text ≡ true
clean_text-from text e =
    let kept = kept_of [] (components text) in
    let are = path-kept (components text) (components-path text) in
    subst (λ t. clean_text t ≡ true) e (texts-clean (reverse kept) (kept-path kept are) (kept-texts kept are))

-- ---- what the pass answers

-- after a last part
pub at_end : (ups : Bool) (next : Option Bool) → option_map_or (λ up. are_clean up []) next false ≡ is_some next
at_end ups None = refl
at_end ups (Some up) = refl

pub clean_iff : (text : List ℕ) (r : Bool) → r ≡ clean_text text → IsTrue r ↔ (clean text ≡ text)
clean_iff text r e = (λ h. clean_text-is text (sym e ∙ h), λ h. e ∙ clean_text-from text h)

pub behind_root : (text rest : List ℕ) → text ≡ 47 ∷ rest → bytes_eq text (47 ∷ []) ≡ false → are_clean false (parts_at 47 rest) ≡ clean_text text
behind_root text rest e other =
    subst (λ t. bytes_eq t (47 ∷ []) ≡ false → are_clean false (parts_at 47 rest) ≡ clean_text t) (sym e) (λ h. sym (ap (λ t. t || are_clean false (parts_at 47 rest)) h)) other

relative : (text : List ℕ) → ((rest : List ℕ) → text ≢ 47 ∷ rest) → is_absolute text ≡ false
relative [] none = refl
relative (b ∷ bs) none = elim (eqb b 47) as (λ t. eqb b 47 ≡ t → t ≡ false) [
  | true ↦ λ is. absurd (none bs (ap (λ (x : ℕ). x ∷ bs) (eqb-true b 47 is)))
  | false ↦ λ _. refl
] refl

pub behind_nothing : (text : List ℕ) → ((rest : List ℕ) → text ≢ 47 ∷ rest) → bytes_eq text dot ≡ false → bytes_eq text (47 ∷ []) ≡ false → are_clean true (parts_at 47 text) ≡ clean_text text
behind_nothing text none other_dot other_root = rw (other_dot, other_root, relative text none) refl
