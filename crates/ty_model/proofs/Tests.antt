-- The tests of answers, stamps, entries and layers decide whether two are equal.
use Rattle.std.proofs.Common.{◌≡◌, ℕ, ◌==◌, Bool, true, false, ◌&&◌, List, [], ◌∷◌, refl, sym, ap, subst, ◌∙◌, Option, Some, None, eq-eqb}
use Rattle.std.proofs.lemmas.Slice.Eq.{bytes_eq-Decides}
use Rattle.std.proofs.lemmas.Bool.{and_parts}
use Rattle.std.specs.Bool.{Decides}
use Rattle.std.specs.Cmp.{IsTotalOrder, eq_by_cmp_equiv, on_total, unsigned_Decides}
use Rattle.std.specs.Cmp.Lexicographic.{slice_cmp, lists_total, nat_list_cmp_total}
use Rattle.std.specs.Ordering.{is_eq}
use Rattle.std.specs.declared.cmp.Ordering.{Ordering}
use Rattle.std.specs.declared.cmp.Ordering.TheVariants.{Less, Equal, Greater}
use Rattle.std.specs.Str.{bytes_eq}
use Rattle.std.specs.FinMap as map
use Rattle.ty_model.specs.Values.{Id, id_key, id_cmp, Answer, answer_key, same_answer, text_cmp}
use Rattle.ty_model.specs.Codes.{answer_from, answer_back, root_from, root_back}
use Rattle.ty_model.specs.Version.{Layers, Stamp, same_stamp, same_id}
use Rattle.ty_model.specs.Batch.{same_entries, same_layers}
use Rattle.ty_model.specs.Standing.{same_option, AtPath, same_at_path}

pub text_total : IsTotalOrder text_cmp
text_total = nat_list_cmp_total

pub text_exact : map.IsAntisymmetric text_cmp
text_exact = map.slice_cmp-IsAntisymmetric map.nat_cmp-IsAntisymmetric

texts_total : IsTotalOrder (slice_cmp text_cmp)
texts_total = lists_total text_total

pub id_total : IsTotalOrder id_cmp
id_total = on_total id_key (lists_total texts_total)

is_equal : (o : Ordering) → is_eq o ≡ true → o ≡ Equal
is_equal Less h = absurd (cc)
is_equal Equal h = refl
is_equal Greater h = absurd (cc)

-- ---- ids

head_key : List (List (List ℕ)) → List (List ℕ)
head_key [] = []
head_key (k ∷ ks) = k

id_from : List (List (List ℕ)) → Id
id_from ks = record { root = root_from (head_key ks); vpath = []; tag = 0 }

pub id_exact : map.IsAntisymmetric id_cmp
unfolding head_key
id_exact a b h =
    let keys : id_key a ≡ id_key b = map.slice_cmp-IsAntisymmetric (map.slice_cmp-IsAntisymmetric text_exact) (id_key a) (id_key b) h in
    let root : a.root ≡ b.root = sym (root_back a.root) ∙ ap (λ ks. root_from (head_key ks)) keys ∙ root_back b.root in
    let vpath : a.vpath ≡ b.vpath = cc in
    let tag : a.tag ≡ b.tag = cc in
    λ i. record { root = root i; vpath = vpath i; tag = tag i }

pub same_id-Decides : (a b : Id) → Decides (same_id a b) (a ≡ b)
same_id-Decides a b = (λ h. id_exact a b (is_equal _ h), λ e. subst (λ c. same_id a c ≡ true) e ((eq_by_cmp_equiv id_total).refl a))

-- ---- answers and stamps

pub same_answer-Decides : (a b : Answer) → Decides (same_answer a b) (a ≡ b)
same_answer-Decides a b = (
  λ h.
      let keys : answer_key a ≡ answer_key b = map.slice_cmp-IsAntisymmetric text_exact (answer_key a) (answer_key b) (is_equal _ h) in
      sym (answer_back a) ∙ ap answer_from keys ∙ answer_back b,
  λ e. subst (λ c. same_answer a c ≡ true) e ((eq_by_cmp_equiv texts_total).refl (answer_key a)),
)

pub same_stamp-Decides : (a b : Stamp) → Decides (same_stamp a b) (a ≡ b)
same_stamp-Decides a b = (
  λ h.
      let p = and_parts (a.space == b.space) (a.revision == b.revision) h in
      let space : a.space ≡ b.space = (unsigned_Decides a.space b.space).0 p.0 in
      let revision : a.revision ≡ b.revision = (unsigned_Decides a.revision b.revision).0 p.1 in
      λ i. record { space = space i; revision = revision i },
  λ e. subst (λ c. same_stamp a c ≡ true) e (rw (eq-eqb a.space a.space refl, eq-eqb a.revision a.revision refl) refl),
)

module _ {A : Type 0} (same : A → A → Bool) (decides : (x y : A) → Decides (same x y) (x ≡ y)) where
  pub same_option-Decides : (a b : Option A) → Decides (same_option same a b) (a ≡ b)
  same_option-Decides None None = (λ _. refl, λ _. refl)
  same_option-Decides None (Some y) = (λ h. absurd (cc), λ e. absurd (cc))
  same_option-Decides (Some x) None = (λ h. absurd (cc), λ e. absurd (cc))
  same_option-Decides (Some x) (Some y) = (λ h. ap Some ((decides x y).0 h), λ e. let e2 : x ≡ y = cc in (decides x y).1 e2)

pub and_Decides : (a b : Bool) (P Q : Type 0) → Decides a P → Decides b Q → Decides (a && b) (P × Q)
and_Decides true true P Q p q = (λ _. (p.0 refl, q.0 refl), λ _. refl)
and_Decides true false P Q p q = (λ h. absurd (cc), λ e. q.1 e.1)
and_Decides false b P Q p q = (λ h. absurd (cc), λ e. p.1 e.0)

pub same_at_path-Decides : (a b : AtPath) → Decides (same_at_path a b) (a ≡ b)
same_at_path-Decides a b =
    let d = and_Decides _ _ _ _ (and_Decides _ _ _ _ (same_option-Decides same_answer same_answer-Decides a.shadow b.shadow) (same_option-Decides same_answer same_answer-Decides a.told b.told)) (same_option-Decides same_stamp same_stamp-Decides a.drop b.drop) in (
      λ h. let p = d.0 h in λ i. record { shadow = p.0.0 i; told = p.0.1 i; drop = p.1 i },
      λ e. d.1 ((ap (λ (x : AtPath). x.shadow) e, ap (λ (x : AtPath). x.told) e), ap (λ (x : AtPath). x.drop) e),
    )

-- ---- entries and layers

bytes_eq-true : (xs ys : List ℕ) → Decides (bytes_eq xs ys) (xs ≡ ys)
bytes_eq-true xs ys = bytes_eq-Decides xs ys

module _ {K X : Type 0} (key : K → K → Bool) (value : X → X → Bool) (keys : (j k : K) → Decides (key j k) (j ≡ k)) (values : (x y : X) → Decides (value x y) (x ≡ y)) where
  entries-Decides : (es fs : List (K × X)) → Decides (same_entries key value es fs) (es ≡ fs)
  entries-Decides [] [] = (λ _. refl, λ _. refl)
  entries-Decides [] (f ∷ fs) = (λ h. absurd (cc), λ e. absurd (cc))
  entries-Decides (e ∷ es) [] = (λ h. absurd (cc), λ e. absurd (cc))
  entries-Decides (e ∷ es) (f ∷ fs) =
      let d = and_Decides _ _ _ _ (and_Decides _ _ _ _ (keys e.0 f.0) (values e.1 f.1)) (entries-Decides es fs) in (
        λ h. let p = d.0 h in λ i. (p.0.0 i, p.0.1 i) ∷ p.1 i,
        λ q.
            let heads : e ≡ f = cc in
            let tails : es ≡ fs = cc in
            d.1 ((ap (λ (x : K × X). x.0) heads, ap (λ (x : K × X). x.1) heads), tails),
      )

  maps-Decides : {R : K → K → Ordering} (m n : map.FinMap R X) → Decides (same_entries key value (map.entries m) (map.entries n)) (m ≡ n)
  maps-Decides m n =
      let d = entries-Decides (map.entries m) (map.entries n) in
      (λ h. map.same_entries_map m n (d.0 h), λ e. d.1 (ap map.entries e))

pub same_layers-Decides : (old new : Layers) → Decides (same_layers old new) (new ≡ old)
same_layers-Decides old new =
    let d = and_Decides _ _ _ _ (and_Decides _ _ _ _ (and_Decides _ _ _ _
    (maps-Decides same_id same_answer same_id-Decides same_answer-Decides new.by_id old.by_id)
    (maps-Decides bytes_eq same_answer bytes_eq-true same_answer-Decides new.by_path old.by_path))
    (maps-Decides bytes_eq same_answer bytes_eq-true same_answer-Decides new.told old.told))
    (maps-Decides bytes_eq same_stamp bytes_eq-true same_stamp-Decides new.drops old.drops) in (
      λ h. let p = d.0 h in λ i. record { by_id = p.0.0.0 i; by_path = p.0.0.1 i; told = p.0.1 i; drops = p.1 i },
      λ e. d.1 (((ap (λ (l : Layers). l.by_id) e, ap (λ (l : Layers). l.by_path) e), ap (λ (l : Layers). l.told) e), ap (λ (l : Layers). l.drops) e),
    )
