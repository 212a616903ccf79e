-- The root of a package, where one is listed.
use Rattle.std.proofs.Common.{◌≡◌, ℕ, true, false, cond, List, refl, sym, ap, subst, ◌∙◌, Some, Result, Ok, Err}
use Rattle.std.specs.Prelude.{IfOk}
use Rattle.std.specs.FinMap as finmap
use Rattle.ty_model.specs.Places.{Resolver, listed_root, package_root}
use Rattle.ty_model.specs.Values.{Spec, spec_cmp, NoPackage, OfPackage}
use Rattle.ty_model.specs.Held.{Kept}
use Rattle.ty_syntax.specs.SpecOrder.{same_spec, spec_equiv, spec_total}
use Rattle.uses.specs.OnePackage.{one_package}

-- no package is listed
abbrev none : Resolver
none = finmap.empty

module _ (key spec : Spec) (root : List ℕ) where
  listed : finmap.get (one_package key root) spec ≡ cond (same_spec spec key) (Some (Ok root)) (finmap.get none spec)
  listed = finmap.get-insert spec_total none key (Ok root) spec

  pub named : (found : List ℕ) → same_spec spec key ≡ true → found ≡ root → package_root (one_package key root) spec ≡ Ok found
  named found e is = rw is (ap (listed_root spec) (listed ∙ ap (λ b. cond b (Some (Ok root)) (finmap.get none spec)) e))

  pub unnamed : (other : Spec) → same_spec spec key ≡ false → other ≡ spec → package_root (one_package key root) spec ≡ Err (OfPackage (NoPackage other))
  unnamed other e is = rw is (ap (listed_root spec) (listed ∙ ap (λ b. cond b (Some (Ok root)) (finmap.get none spec)) e ∙ finmap.get-empty spec_cmp spec))

-- what is made with a resolver of one package lists it
pub live_lists : {F : Type 0} (spec : Spec) (root : List ℕ) (resolver : Spec × List ℕ) (r : Result (Kept (Spec × List ℕ)) F) → resolver ≡ (spec, root)
    → IfOk r (λ v. v.resolver ≡ resolver) → IfOk r (λ v. package_root (one_package v.resolver.0 v.resolver.1) spec ≡ Ok root)
live_lists spec root resolver (Ok v) is kept =
    subst (λ (p : Spec × List ℕ). package_root (one_package p.0 p.1) spec ≡ Ok root) (sym (kept ∙ is)) (named spec spec root root (spec_equiv.refl spec) refl)
live_lists spec root resolver (Err e) is kept = tt
