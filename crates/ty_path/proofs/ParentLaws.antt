-- The parent of a clean path is what stands before its last slash.
use Rattle.std.proofs.Common.{◌≡◌, ◌≢◌, ℕ, ◌<◌, suc, Bool, true, false, true≢false, cond, not, ◌&&◌, eqb, ne_eqb, List, [], ◌∷◌, ◌++◌, map, length, take, drop, lit<, get_or, Some, None, refl, sym, ap, ◌∙◌, subst, arith, bytes_eq, inl, inr}
use Rattle.std.proofs.lemmas.Bool.{and_parts, and_from, or_parts, not-true, eqb-true}
use Rattle.std.proofs.lemmas.List.{map-append, take-append-drop}
use Rattle.std.specs.Str.Pattern.{SplitsAroundMatch, RFindsChar}
use Rattle.std.proofs.lemmas.Str.Pattern.{NoCharPasses-char, drop_at_char}
use Rattle.std.proofs.lemmas.Slice.Eq.{bytes_eq-Decides}
use Rattle.ty_model.specs.Paths.{Component, RootDir, CurDir, ParentDir, Normal, parts_at, is_absolute, dot, dot_dot, component_of, counts, counted, counted_after_dot, components, joined, text_of, or_dot, clean, parent, file_name, name_of, text_before}
use Rattle.ty_model.proofs.PathLaws.{slash_free, parts-slash, parts_one}
use Rattle.ty_path.specs.Clean.{are_clean}
use Rattle.ty_path.specs.Parts.{IsCut}
use Rattle.ty_path.proofs.CleanLaws.{clean_text-from, counted-clean, after_dot-clean, texts_again, text_of-parts, joined-parts, relative_clean, absolute_clean}
use Rattle.ty_path.proofs.CleanJoinLaws.{kinds}
use Rattle.ty_path.proofs.PartLaws.{parent-last, file_name-last}

-- ---- a text without a slash

pub free_from : (text : List ℕ) → ((i : ℕ) → i < length text → get_or text i 0 ≢ 47) → slash_free text ≡ true
free_from [] h = refl
free_from (b ∷ bs) h = and_from (not (eqb b 47)) (slash_free bs) (ap not (ne_eqb b 47 (h 0 (omega arith)))) (free_from bs (λ i l. h (suc i) (omega arith)))

-- the front and the back of a text round its last slash
pub cut : (path front back : List ℕ) → SplitsAroundMatch (RFindsChar 47) path front back → path ≡ front ++ 47 ∷ back
cut path front back cases =
    sym (take-append-drop cases.0 path) ∙ ap (λ t. take cases.0 path ++ t) (drop_at_char 47 path cases.0 cases.1 cases.2.1 (lit< tt))
    ∙ ap (λ t. t ++ 47 ∷ drop cases.1 path) (sym cases.3) ∙ ap (λ t. front ++ 47 ∷ t) (sym cases.4)

pub free_behind : (path front back : List ℕ) → SplitsAroundMatch (RFindsChar 47) path front back → slash_free back ≡ true
free_behind path front back cases = free_from back (subst (λ t. (i : ℕ) → i < length t → get_or t i 0 ≢ 47) (sym cases.4) (λ i l. NoCharPasses-char 47 (drop cases.1 path) i cases.2.0 (lit< tt) l))

-- ---- clean parts

front_clean : (ups : Bool) (ps qs : List (List ℕ)) → are_clean ups (ps ++ qs) ≡ true → are_clean ups ps ≡ true
front_clean ups [] qs h = refl
front_clean ups (p ∷ ps) qs h =
    elim (bytes_eq p dot_dot) as (λ t. cond t (ups && are_clean true (ps ++ qs)) (counts p && are_clean false (ps ++ qs)) ≡ true → cond t (ups && are_clean true ps) (counts p && are_clean false ps) ≡ true) [
      | true ↦ λ h. let both = and_parts ups (are_clean true (ps ++ qs)) h in and_from ups (are_clean true ps) both.0 (front_clean true ps qs both.1)
      | false ↦ λ h. let both = and_parts (counts p) (are_clean false (ps ++ qs)) h in and_from (counts p) (are_clean false ps) both.0 (front_clean false ps qs both.1)
    ] h

-- a part that counts isn't the root
before_part : (front : List Component) (p : List ℕ) → text_before front (component_of p) ≡ Some (text_of front)
before_part front p =
    elim (bytes_eq p dot) as (λ t. text_before front (cond t CurDir (cond (bytes_eq p dot_dot) ParentDir (Normal p))) ≡ Some (text_of front)) [
      | true ↦ refl
      | false ↦ elim (bytes_eq p dot_dot) as (λ t. text_before front (cond t ParentDir (Normal p)) ≡ Some (text_of front)) [ true ↦ refl | false ↦ refl ]
    ]

-- the parts round the last slash
parts_round : (a b : List ℕ) → slash_free b ≡ true → parts_at 47 (a ++ 47 ∷ b) ≡ parts_at 47 a ++ b ∷ []
parts_round a b free = parts-slash a b ∙ ap (λ ps. parts_at 47 a ++ ps) (parts_one b free)

module _ (ups : Bool) (a b : List ℕ) (free : slash_free b ≡ true) (h : are_clean ups (parts_at 47 (a ++ 47 ∷ b)) ≡ true) where
  clean_round : are_clean ups (parts_at 47 a ++ b ∷ []) ≡ true
  clean_round = sym (ap (are_clean ups) (parts_round a b free)) ∙ h

  clean_before : are_clean ups (parts_at 47 a) ≡ true
  clean_before = front_clean ups (parts_at 47 a) (b ∷ []) clean_round

  counted_round : counted (parts_at 47 (a ++ 47 ∷ b)) ≡ map component_of (parts_at 47 a) ++ component_of b ∷ []
  counted_round = ap counted (parts_round a b free) ∙ counted-clean ups (parts_at 47 a ++ b ∷ []) clean_round ∙ map-append component_of (parts_at 47 a) (b ∷ [])

-- what a clean path has before its last component
abbrev pub IsBefore : List ℕ → List ℕ → Type 0
IsBefore path front = (parent path ≡ Some front) × (clean front ≡ or_dot front)

parent_relative : (a b : List ℕ) → is_absolute (a ++ 47 ∷ b) ≡ false → slash_free b ≡ true → are_clean true (parts_at 47 (a ++ 47 ∷ b)) ≡ true → IsBefore (a ++ 47 ∷ b) a
parent_relative [] b relative free h = absurd (true≢false relative)
parent_relative (c ∷ a) b relative free h =
    let path = (c ∷ a) ++ 47 ∷ b in
    let before = map component_of (parts_at 47 (c ∷ a)) in
    let are : components path ≡ before ++ component_of b ∷ [] =
    ap (λ t. cond t (RootDir ∷ counted (parts_at 47 path)) (counted_after_dot (parts_at 47 path))) relative
    ∙ after_dot-clean true (parts_at 47 path) h ∙ counted_round true (c ∷ a) b free h in
    let ok = clean_before true (c ∷ a) b free h in (
      parent-last path before (component_of b) are ∙ before_part before b ∙ ap Some (text_of-parts (parts_at 47 (c ∷ a)) ∙ joined-parts (c ∷ a)),
      relative_clean (c ∷ a) relative ok,
    )

parent_absolute : (a b : List ℕ) → slash_free b ≡ true → are_clean false (parts_at 47 (a ++ 47 ∷ b)) ≡ true → IsBefore (47 ∷ (a ++ 47 ∷ b)) (47 ∷ a)
parent_absolute a b free h =
    let before = RootDir ∷ map component_of (parts_at 47 a) in
    let ok = clean_before false a b free h in (
      parent-last (47 ∷ (a ++ 47 ∷ b)) before (component_of b) (ap (λ cs. RootDir ∷ cs) (counted_round false a b free h)) ∙ before_part before b
          ∙ ap (λ ps. Some (47 ∷ joined ps)) (texts_again (parts_at 47 a)) ∙ ap (λ t. Some (47 ∷ t)) (joined-parts a),
      absolute_clean a ok,
    )

parent_top : (b : List ℕ) → slash_free b ≡ true → are_clean false (parts_at 47 b) ≡ true → IsBefore (47 ∷ b) (47 ∷ [])
parent_top b free h =
    let one = parts_one b free in
    let is : components (47 ∷ b) ≡ (RootDir ∷ []) ++ component_of b ∷ [] = ap (λ cs. RootDir ∷ cs) (counted-clean false (parts_at 47 b) h ∙ ap (map component_of) one) in
    (parent-last (47 ∷ b) (RootDir ∷ []) (component_of b) is ∙ before_part (RootDir ∷ []) b, refl)

-- ---- by the last slash

pub no_slash : (text : List ℕ) → clean text ≡ text → slash_free text ≡ true → IsBefore text []
no_slash [] c free = absurd (cc)
no_slash (b ∷ bs) c free =
    elim (bytes_eq (b ∷ bs) dot) as (λ t. bytes_eq (b ∷ bs) dot ≡ t → IsBefore (b ∷ bs) []) [
      | true ↦ λ is. let e = (bytes_eq-Decides (b ∷ bs) dot).0 is in subst (λ t. IsBefore t []) (sym e) (refl, refl)
      | false ↦ λ other.
          elim (kinds (b ∷ bs) (clean_text-from (b ∷ bs) c) other) [
            | inl root ↦ absurd (true≢false (sym free ∙ ap slash_free root))
            | inr (inl more) ↦ absurd (true≢false (sym free ∙ ap slash_free more.1))
            | inr (inr relative) ↦
                let one = parts_one (b ∷ bs) free in
                let are : components (b ∷ bs) ≡ [] ++ component_of (b ∷ bs) ∷ [] =
                ap (λ t. cond t (RootDir ∷ counted (parts_at 47 (b ∷ bs))) (counted_after_dot (parts_at 47 (b ∷ bs)))) relative.0
                ∙ after_dot-clean true (parts_at 47 (b ∷ bs)) relative.1 ∙ counted-clean true (parts_at 47 (b ∷ bs)) relative.1 ∙ ap (map component_of) one in
                (parent-last (b ∷ bs) [] (component_of (b ∷ bs)) are ∙ before_part [] (b ∷ bs), refl)
          ]
    ] refl

-- a slash is no .
no_dot : (a b : List ℕ) → bytes_eq (a ++ 47 ∷ b) dot ≡ false
no_dot [] b = refl
no_dot (x ∷ []) b = elim (eqb x 46) as (λ t. (t && false) ≡ false) [ true ↦ refl | false ↦ refl ]
no_dot (x ∷ y ∷ a) b = elim (eqb x 46) as (λ t. (t && false) ≡ false) [ true ↦ refl | false ↦ refl ]

-- the path behind a root whose last slash stands further on
behind : (a b rest : List ℕ) (c : ℕ) → (c ∷ a) ++ 47 ∷ b ≡ 47 ∷ rest → (c ≡ 47) × (a ++ 47 ∷ b ≡ rest)
behind a b rest c e = (cc, cc)

pub slash_behind : (c : ℕ) (a b : List ℕ) → clean ((c ∷ a) ++ 47 ∷ b) ≡ (c ∷ a) ++ 47 ∷ b → slash_free b ≡ true → IsBefore ((c ∷ a) ++ 47 ∷ b) (c ∷ a)
slash_behind c a b k free =
    let path = (c ∷ a) ++ 47 ∷ b in
    elim (kinds path (clean_text-from path k) (no_dot (c ∷ a) b)) [
      | inl root ↦ let e = behind a b [] c root in absurd (none a (e.1))
      | inr (inl more) ↦
          let e = behind a b more.0 c more.1 in
          subst (λ (x : ℕ). IsBefore ((x ∷ a) ++ 47 ∷ b) (x ∷ a)) (sym e.0) (parent_absolute a b free (ap (λ t. are_clean false (parts_at 47 t)) e.1 ∙ more.2))
      | inr (inr relative) ↦ parent_relative (c ∷ a) b relative.0 free relative.1
    ]
  where
    none : (a : List ℕ) → a ++ 47 ∷ b ≡ [] → ⊥
    none [] e = cc
    none (x ∷ a) e = cc

pub slash_first : (x : ℕ) (b : List ℕ) → clean (47 ∷ x ∷ b) ≡ 47 ∷ x ∷ b → slash_free (x ∷ b) ≡ true → IsBefore (47 ∷ x ∷ b) (47 ∷ [])
slash_first x b k free =
    elim (kinds (47 ∷ x ∷ b) (clean_text-from (47 ∷ x ∷ b) k) (no_dot [] (x ∷ b))) [
      | inl root ↦ absurd (cc)
      | inr (inl more) ↦ let same : x ∷ b ≡ more.0 = cc in parent_top (x ∷ b) free (ap (λ t. are_clean false (parts_at 47 t)) same ∙ more.2)
      | inr (inr relative) ↦ absurd (true≢false relative.0)
    ]

-- a front that isn't empty
pub slash_behind_front : (path front back : List ℕ) → path ≡ front ++ 47 ∷ back → clean path ≡ path → slash_free back ≡ true → eqb (length front) 0 ≡ false → IsBefore path front
slash_behind_front path [] back e k free some = absurd (true≢false some)
slash_behind_front path (c ∷ a) back e k free some = subst (λ p. IsBefore p (c ∷ a)) (sym e) (slash_behind c a back (subst (λ p. clean p ≡ p) e k) free)

-- nothing before the slash, and a name behind it
pub slash_first_name : (path front back : List ℕ) → path ≡ front ++ 47 ∷ back → clean path ≡ path → slash_free back ≡ true → eqb (length front) 0 ≡ true → eqb (length back) 0 ≡ false → IsBefore path (47 ∷ [])
slash_first_name path (c ∷ a) back e k free none some = let long = eqb-true (length (c ∷ a)) 0 none in absurd (omega arith)
slash_first_name path [] [] e k free none some = absurd (true≢false some)
slash_first_name path [] (x ∷ b) e k free none some =
    subst (λ p. IsBefore p (47 ∷ [])) (sym e) (slash_first x b (subst (λ p. clean p ≡ p) e k) free)

-- ---- the name behind the last slash

pub last_counts : (ps : List (List ℕ)) (b : List ℕ) → are_clean false (ps ++ b ∷ []) ≡ true → (bytes_eq b dot_dot ≡ false) × (counts b ≡ true)
last_counts [] b h =
    elim (bytes_eq b dot_dot) as (λ t. cond t (false && true) (counts b && true) ≡ true → (t ≡ false) × (counts b ≡ true)) [
      | true ↦ λ h. absurd (true≢false (sym h))
      | false ↦ λ h. (refl, (and_parts (counts b) true h).0)
    ] h
last_counts (p ∷ ps) b h =
    elim (bytes_eq p dot_dot) as (λ t. cond t (false && are_clean true (ps ++ b ∷ [])) (counts p && are_clean false (ps ++ b ∷ [])) ≡ true → (bytes_eq b dot_dot ≡ false) × (counts b ≡ true)) [
      | true ↦ λ h. absurd (true≢false (sym h))
      | false ↦ λ h. last_counts ps b (and_parts (counts p) (are_clean false (ps ++ b ∷ [])) h).1
    ] h

pub is_normal : (b : List ℕ) → bytes_eq b dot_dot ≡ false → counts b ≡ true → component_of b ≡ Normal b
is_normal b no_up some =
    let plain = (or_parts (bytes_eq b []) (bytes_eq b dot) (not-true _ some)).1 in
    rw (plain, no_up)

name_absolute : (a b : List ℕ) → slash_free b ≡ true → are_clean false (parts_at 47 (a ++ 47 ∷ b)) ≡ true → file_name (47 ∷ (a ++ 47 ∷ b)) ≡ Some b
name_absolute a b free h =
    let last = last_counts (parts_at 47 a) b (clean_round false a b free h) in
    file_name-last (47 ∷ (a ++ 47 ∷ b)) (RootDir ∷ map component_of (parts_at 47 a)) (component_of b) (ap (λ cs. RootDir ∷ cs) (counted_round false a b free h))
    ∙ ap name_of (is_normal b last.0 last.1)

name_top : (b : List ℕ) → slash_free b ≡ true → are_clean false (parts_at 47 b) ≡ true → file_name (47 ∷ b) ≡ Some b
name_top b free h =
    let one = parts_one b free in
    let last = last_counts [] b (subst (λ ps. are_clean false ps ≡ true) one h) in
    file_name-last (47 ∷ b) (RootDir ∷ []) (component_of b) (ap (λ cs. RootDir ∷ cs) (counted-clean false (parts_at 47 b) h ∙ ap (map component_of) one))
    ∙ ap name_of (is_normal b last.0 last.1)

name_behind : (c : ℕ) (a b : List ℕ) → clean ((c ∷ a) ++ 47 ∷ b) ≡ (c ∷ a) ++ 47 ∷ b → is_absolute ((c ∷ a) ++ 47 ∷ b) ≡ true → slash_free b ≡ true → file_name ((c ∷ a) ++ 47 ∷ b) ≡ Some b
name_behind c a b k root free =
    let path = (c ∷ a) ++ 47 ∷ b in
    elim (kinds path (clean_text-from path k) (no_dot (c ∷ a) b)) [
      | inl alone ↦ let e = behind a b [] c alone in absurd (none a (e.1))
      | inr (inl more) ↦
          let e = behind a b more.0 c more.1 in
          subst (λ (x : ℕ). file_name ((x ∷ a) ++ 47 ∷ b) ≡ Some b) (sym e.0) (name_absolute a b free (ap (λ t. are_clean false (parts_at 47 t)) e.1 ∙ more.2))
      | inr (inr relative) ↦ absurd (true≢false (sym root ∙ relative.0))
    ]
  where
    none : (a : List ℕ) → a ++ 47 ∷ b ≡ [] → ⊥
    none [] e = cc
    none (x ∷ a) e = cc

name_first : (x : ℕ) (b : List ℕ) → clean (47 ∷ x ∷ b) ≡ 47 ∷ x ∷ b → slash_free (x ∷ b) ≡ true → file_name (47 ∷ x ∷ b) ≡ Some (x ∷ b)
name_first x b k free =
    elim (kinds (47 ∷ x ∷ b) (clean_text-from (47 ∷ x ∷ b) k) (no_dot [] (x ∷ b))) [
      | inl root ↦ absurd (cc)
      | inr (inl more) ↦ let same : x ∷ b ≡ more.0 = cc in name_top (x ∷ b) free (ap (λ t. are_clean false (parts_at 47 t)) same ∙ more.2)
      | inr (inr relative) ↦ absurd (true≢false relative.0)
    ]

-- an absolute clean path is cut at its last slash
pub cut_behind : (path front back : List ℕ) → path ≡ front ++ 47 ∷ back → clean path ≡ path → is_absolute path ≡ true → slash_free back ≡ true → eqb (length front) 0 ≡ false → IsCut path front back
cut_behind path [] back e k root free some = absurd (true≢false some)
cut_behind path (c ∷ a) back e k root free some =
    let clean_too = subst (λ p. clean p ≡ p) e k in
    let before = slash_behind c a back clean_too free in
    subst (λ p. IsCut p (c ∷ a) back) (sym e) (before.0, name_behind c a back clean_too (subst (λ p. is_absolute p ≡ true) e root) free, before.1)

pub cut_first : (path front back : List ℕ) → path ≡ front ++ 47 ∷ back → clean path ≡ path → slash_free back ≡ true → eqb (length front) 0 ≡ true → eqb (length back) 0 ≡ false → IsCut path (47 ∷ []) back
cut_first path (c ∷ a) back e k free none some = let long = eqb-true (length (c ∷ a)) 0 none in absurd (omega arith)
cut_first path [] [] e k free none some = absurd (true≢false some)
cut_first path [] (x ∷ b) e k free none some =
    let clean_too = subst (λ p. clean p ≡ p) e k in
    let before = slash_first x b clean_too free in
    subst (λ p. IsCut p (47 ∷ []) (x ∷ b)) (sym e) (before.0, name_first x b clean_too free, refl)

-- the root has no folder
pub cut_none : (path front back : List ℕ) → path ≡ front ++ 47 ∷ back → eqb (length front) 0 ≡ true → eqb (length back) 0 ≡ true → parent path ≡ None
cut_none path [] [] e none nothing = ap parent e
cut_none path (c ∷ a) back e none nothing = let long = eqb-true (length (c ∷ a)) 0 none in absurd (omega arith)
cut_none path [] (x ∷ b) e none nothing = let long = eqb-true (length (x ∷ b)) 0 nothing in absurd (omega arith)

-- an absolute path has a slash
pub some_slash : (path : List ℕ) → is_absolute path ≡ true → slash_free path ≡ true → ⊥
some_slash [] root free = true≢false (sym root)
some_slash (b ∷ bs) root free = true≢false (sym root ∙ not-true (eqb b 47) (and_parts (not (eqb b 47)) (slash_free bs) free).0)
