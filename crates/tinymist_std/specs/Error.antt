-- Errors as plain data, and what they print.
use Rattle.std.specs.Prelude.{ℕ, List, [], ◌∷◌, ◌++◌, Option, None, Some, map, codes, string_bytes}
use Rattle.std.specs.Borrow.{Bor}
use Rattle.std.specs.declared.string.String.{String}
use Rattle.std.specs.declared.alloc.Global.{Global}
use Rattle.std.specs.Fmt.{◌++?◌, comma_space, debug_str, debug_list}
use Rattle.tinymist_std.specs.Diagnostic.{Report}

-- ---- the data

-- the named arguments of an error, each a name and a text
abbrev pub Arguments : Type 0
Arguments = List (List ℕ × List ℕ)

-- a place that an error went through, with the arguments that were given there
pub record Site : Type 0 where
  pub place : List ℕ
  pub arguments : Option Arguments

-- what lies at the bottom of an error
pub data Cause : Type 0 where
  untold : Cause
  message : List ℕ → Cause
  report : Report → Cause
  no_memory : Cause

-- the kind of an error: its cause, and the sites of the errors within it, outermost first
pub record Kind : Type 0 where
  pub within : List Site
  pub cause : Cause

-- an error: where it was met, and its kind
pub record Failure : Type 0 where
  pub place : List ℕ
  pub arguments : Option Arguments
  pub kind : Kind

-- a kind that wraps no error
abbrev pub plain : Cause → Kind
plain c = record { within = []; cause = c }

-- the kind that wraps an error
abbrev pub wrapping : Failure → Kind
wrapping f = record {
  within = record { place = f.place; arguments = f.arguments } ∷ f.kind.within;
  cause = f.kind.cause;
}

-- named arguments, with their texts as bytes
abbrev pub arguments_of : List (Bor (List ℕ) × String Global) → Arguments
arguments_of xs = map (λ x. (x.0.now, string_bytes x.1)) xs

-- ---- the printed text

-- what stands before a body: the place and a colon, or nothing where the place is empty
abbrev pub place_text : List ℕ → List ℕ
place_text [] = []
place_text (b ∷ place) = (b ∷ place) ++ codes ": "

-- the text of a place where nothing is said beside it
abbrev pub bare_text : List ℕ → List ℕ
bare_text [] = codes "unknown error"
bare_text (b ∷ place) = b ∷ place

-- the text of a place with a message; an empty message leaves the place alone
abbrev pub message_text : List ℕ → List ℕ → List ℕ
message_text place [] = place
message_text place (b ∷ text) = place_text place ++ (b ∷ text)

-- the text of a place with a cause
abbrev pub cause_text : List ℕ → Cause → List ℕ
cause_text place untold = bare_text place
cause_text place (message text) = message_text place text
cause_text place (report d) = place_text place ++ d.message
cause_text place no_memory = place_text place ++ codes "out of memory"

-- `("NAME", "TEXT")`, in the debug form of both; it says nothing past ASCII
abbrev pub argument_text : List ℕ × List ℕ → Option (List ℕ)
argument_text x =
    Some (codes "(") ++? debug_str x.0 ++? Some comma_space ++? debug_str x.1 ++? Some (codes ")")

-- `, with ` and the debug form of the list of arguments, where there is one
abbrev pub arguments_text : Option Arguments → Option (List ℕ)
arguments_text None = Some []
arguments_text (Some xs) = Some (codes ", with ") ++? debug_list argument_text xs

-- what an error prints that was met at a site; the error within is its body
abbrev pub text_at : Site → List Site → Cause → Option (List ℕ)
text_at site [] cause = Some (cause_text site.place cause) ++? arguments_text site.arguments
text_at site (s ∷ within) cause =
    Some (place_text site.place) ++? text_at s within cause ++? arguments_text site.arguments

-- what an error prints; it says nothing where an argument, of it or of an error within, is past ASCII
abbrev pub printed_text : Failure → Option (List ℕ)
printed_text f = text_at (record { place = f.place; arguments = f.arguments }) f.kind.within f.kind.cause
