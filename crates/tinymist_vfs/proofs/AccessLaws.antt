-- What is found of an id over a disk that is told.
use Rattle.std.proofs.Common.{◌≡◌, ℕ, List, ap, subst, sym, Option, Some, None, Result, Ok, Err, inl, inr, refl}
use Rattle.ty_model.specs.Values.{Answer, Content, Refused, Refusal}
use Rattle.ty_model.specs.Disk.{Told, answer_of, after_ask}
use Rattle.ty_path.specs.Shared.{path_text}
use Rattle.ty_syntax.specs.Error.{refusal_of}
use Rattle.ty_syntax.specs.declared.error.FileFault.{FileFault}
use Rattle.ty_syntax.specs.declared.error.FileFault.TheVariants.{File, OutOfMemory}
use Rattle.ty_cells.specs.Snapshot.{AnswersAs}
use Rattle.tinymist_vfs.specs.Maps.{Path}
use Rattle.tinymist_vfs.specs.Reading.{AsksAsTold}
use Rattle.tinymist_vfs.specs.RootResolver.{SaysRoot}
use Rattle.tinymist_vfs.specs.Access.{Found, AnswersOver, Asked, Shadowed}

-- a path that was asked of the disk
pub asked_path : (place : Result (List ℕ) Refusal) (told after : Option Told) (path : Path) (r : Result (List ℕ) FileFault) → place ≡ Ok (path_text path) → AsksAsTold (path_text path) told r after → AnswersOver (Asked place) told (Some path, r) after
asked_path place None after path r is asks = asks
asked_path place (Some told) after path (Ok bytes) is asks =
    (after_ask told (path_text path), asks.1, subst (λ p. Asked p told (Some (path_text path), Content bytes) (after_ask told (path_text path))) (sym is) (ap (λ a. (Some (path_text path), a)) (sym asks.0), refl))
asked_path place (Some told) after path (Err (File error)) is asks =
    (after_ask told (path_text path), asks.1, subst (λ p. Asked p told (Some (path_text path), Refused (refusal_of error)) (after_ask told (path_text path))) (sym is) (ap (λ a. (Some (path_text path), a)) (sym asks.0), refl))
asked_path place (Some told) after path (Err OutOfMemory) is asks =
    elim asks [
      | inl same ↦ inl same
      | inr left ↦ inr ((Some (path_text path), answer_of told (path_text path)), after_ask told (path_text path), left, subst (λ p. Asked p told (Some (path_text path), answer_of told (path_text path)) (after_ask told (path_text path))) (sym is) (refl, refl))
    ]

-- a path that there isn't
pub no_path : (place : Result (List ℕ) Refusal) (told : Option Told) (fault : FileFault) → SaysRoot place (Err fault) → AnswersOver (Asked place) told (None, Err fault) told
no_path place None fault says = refl
no_path place (Some told) (File error) says = (told, refl, subst (λ p. Asked p told (None, Refused (refusal_of error)) told) (sym says) (refl, refl))
no_path place (Some told) OutOfMemory says = inl refl

-- a file that comes first
pub shadow_found : (inner : Told → Found → Told → Type 0) (shadow : Option Answer) (a : Answer) (told : Option Told) (r : Result (List ℕ) FileFault) → shadow ≡ Some a → AnswersAs a r → AnswersOver (Shadowed shadow inner) told (None, r) told
shadow_found inner shadow a None r is says = refl
shadow_found inner shadow a (Some told) (Ok bytes) is says = (told, refl, subst (λ s. Shadowed s inner told (None, Content bytes) told) (sym is) (ap (λ x. (None, x)) (sym says), refl))
shadow_found inner shadow a (Some told) (Err (File error)) is says = (told, refl, subst (λ s. Shadowed s inner told (None, Refused (refusal_of error)) told) (sym is) (ap (λ x. (None, x)) (sym says), refl))
shadow_found inner shadow a (Some told) (Err OutOfMemory) is says = inl refl

pub no_shadow : (inner : Told → Found → Told → Type 0) (shadow : Option Answer) (told after : Option Told) (found : Option Path × Result (List ℕ) FileFault) → shadow ≡ None → AnswersOver inner told found after → AnswersOver (Shadowed shadow inner) told found after
no_shadow inner shadow told after found is answers = subst (λ s. AnswersOver (Shadowed s inner) told found after) (sym is) answers

-- the same relation below the same files
pub same_below : (shadow : Option Answer) (a b : Told → Found → Told → Type 0) (told : Told) (found : Found) (left : Told) → (a told found left → b told found left) → Shadowed shadow a told found left → Shadowed shadow b told found left
same_below None a b told found left f h = f h
same_below (Some x) a b told found left f h = h
