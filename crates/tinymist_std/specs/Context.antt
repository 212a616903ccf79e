-- What an error is given by the calls that make one: a kind from a text or from another error, and arguments.
use Rattle.std.specs.Prelude.{◌≡◌, ℕ, Bool, true, false, List, [], ◌∷◌, Option, None, IfSome, IsTrue, Vec, String, codes}
use Rattle.std.specs.Option.{option_map}
use Rattle.std.specs.Borrow.{Bor}
use Rattle.std.specs.declared.alloc.Global.{Global}
use Rattle.std.specs.Bool.{MatchBool, OnFalse}
use Rattle.tinymist_std.specs.Error.{Site, Cause, untold, message, report, no_memory, Kind, Failure, Arguments, arguments_of, plain, printed_text, wrapping}

-- the kind says that memory ran out
abbrev pub is_want : List Site → Cause → Bool
is_want [] untold = false
is_want [] (message text) = false
is_want [] (report d) = false
is_want [] no_memory = true
is_want (s ∷ within) cause = false

-- the kind says that memory ran out
abbrev pub lacks_memory : Kind → Bool
lacks_memory k = is_want k.within k.cause

-- the fact holds of the kind, or memory ran out
abbrev pub UnlessMemory : Kind → Type 0 → Type 0
UnlessMemory k P = OnFalse (lacks_memory k) P

-- the cause is a message, of the text where one is told
abbrev pub IsMessageCause : Option (List ℕ) → Cause → Type 0
IsMessageCause text untold = ⊥
IsMessageCause text (message m) = IfSome text (λ t. m ≡ t)
IsMessageCause text (report d) = ⊥
IsMessageCause text no_memory = ⊥

-- the kind is a message of the text, or memory ran out
abbrev pub IsMessageOf : Option (List ℕ) → Kind → Type 0
IsMessageOf text k = UnlessMemory k ((k.within ≡ []) × IsMessageCause text k.cause)

-- where memory ran out before, the kind says that and nothing more
abbrev pub KeepsWant : Type 0 → Kind → Type 0
KeepsWant lacking k = lacking → k ≡ plain no_memory

-- the kind that an error becomes by its text: a message, but out of memory stays that
abbrev pub IsToldAs : Type 0 → Option (List ℕ) → Kind → Type 0
IsToldAs lacking text k = IsMessageOf text k × KeepsWant lacking k

-- the kind that an error gives to another: a message of its printed text, but out of memory stays that
abbrev pub IsKindFrom : Failure → Kind → Type 0
IsKindFrom f k = IsToldAs (IsTrue (lacks_memory f.kind)) (printed_text f) k

-- the kind within which an error stands, but out of memory stays that
abbrev pub IsWrapped : Failure → Kind → Type 0
IsWrapped f k = UnlessMemory k (k ≡ wrapping f) × KeepsWant (IsTrue (lacks_memory f.kind)) k

-- the arguments are as given, but none where memory ran out
abbrev pub HasArguments : (Option Arguments → Type 0) → Failure → Type 0
HasArguments given f = MatchBool (lacks_memory f.kind) (f.arguments ≡ None) (given f.arguments)

-- an error that was met at a place, of a kind and with arguments as given
pub record IsMet (place : List ℕ) (kind : Kind → Type 0) (given : Option Arguments → Type 0) (f : Failure)
    : Type 0 where
  pub place_is : f.place ≡ place
  pub kind_is : kind f.kind
  pub arguments_are : HasArguments given f

-- an error of a call that refuses: memory ran out, or nothing is said beside these arguments and the reason holds
abbrev pub IsRefusal : List ℕ → Option Arguments → Type 0 → Failure → Type 0
IsRefusal call given why = IsMet call (λ k. UnlessMemory k ((k ≡ plain untold) × why)) (λ a. a ≡ given)

-- an error of a call that says nothing but that memory ran out
abbrev pub IsWantOfMemory : List ℕ → Failure → Type 0
IsWantOfMemory call f = f ≡ record { place = call; arguments = None; kind = plain no_memory }

-- the one argument that says why
abbrev pub reason_alone : List ℕ → Arguments
reason_alone reason = (codes "error", reason) ∷ []

-- named arguments as code has them
abbrev pub ArgumentList : Type 0
ArgumentList = Vec (Bor (List ℕ) × String Global) Global

-- the arguments that a closure's answer becomes
abbrev pub IsGivenBy : {A : Type 0} → (A → Type 0) → (A → Option ArgumentList → Type 0) → Option Arguments → Type 0
IsGivenBy {A} answers becomes arguments = (given : A) × answers given
    × ((args : Option ArgumentList) × becomes given args
    × (arguments ≡ option_map (λ v. arguments_of v.items) args))
