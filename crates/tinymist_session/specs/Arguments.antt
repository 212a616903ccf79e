-- The arguments of a session, and the limits that they state.
use Rattle.std.specs.Prelude.{ℕ, ◌^◌, nat_lt, if◌then◌else◌, List, [], ◌∷◌, codes, Option, Some, None}
use Rattle.std.specs.Option.{option_map, option_and_then, unwrap_or}
use Rattle.std.specs.Str.{bytes_eq}
use Rattle.session_grammar.specs.Grammar.{number_of}
use Rattle.tinymist_session.specs.Session.{Limits, default_limits}
use Rattle.tinymist_session.specs.declared.program.arguments.Limits as code
use Rattle.tinymist_session.specs.declared.program.arguments.Options as code_options

-- the options that were given
pub record Options : Type 0 where
  pub max_line : Option ℕ
  pub max_lines : Option ℕ

-- a number below 2 ^ 32
abbrev pub fits_32 : ℕ → Option ℕ
fits_32 n = if nat_lt n (2 ^ 32) then Some n else None

-- a number below 2 ^ 32 in decimal, without leading zeros
abbrev pub limit_of : List ℕ → Option ℕ
limit_of word = option_and_then fits_32 (number_of word)

-- no option
abbrev pub no_options : Options
no_options = record { max_line = None; max_lines = None }

-- the option of this name with its number
abbrev pub option_of : List ℕ → List ℕ → Option Options
option_of name number =
    if bytes_eq name (codes "--max-line") then option_map (λ n. record { max_line = Some n; max_lines = None }) (limit_of number)
    else if bytes_eq name (codes "--max-lines") then option_map (λ n. record { max_line = None; max_lines = Some n }) (limit_of number)
    else None

-- a limit of a line and one of lines, which two options give in either order
abbrev pub one_of_each : Option ℕ → Option ℕ → Option ℕ → Option ℕ → Option Options
one_of_each (Some line) None None (Some lines) = Some (record { max_line = Some line; max_lines = Some lines })
one_of_each None (Some lines) (Some line) None = Some (record { max_line = Some line; max_lines = Some lines })
one_of_each a b c d = None

-- both options, where one is of each name
abbrev pub both_of : Options → Options → Option Options
both_of o p = one_of_each o.max_line o.max_lines p.max_line p.max_lines

-- the options, in any order and each at most once
abbrev pub options_of : List (List ℕ) → Option Options
options_of [] = Some no_options
options_of (name ∷ number ∷ []) = option_of name number
options_of (name ∷ number ∷ other ∷ its ∷ []) = option_and_then (λ o. option_and_then (both_of o) (option_of other its)) (option_of name number)
options_of words = None

-- the limits with these options, and the default where one isn't given
abbrev pub limits_with : Options → Limits
limits_with o = record { max_line = unwrap_or o.max_line default_limits.max_line; max_lines = unwrap_or o.max_lines default_limits.max_lines }

-- the limits that these arguments state, if they are those of a session
abbrev pub limits_of : List (List ℕ) → Option Limits
limits_of [] = option_map limits_with (options_of [])
limits_of (word ∷ options) = if bytes_eq word (codes "session") then option_map limits_with (options_of options) else None

-- the limits of the code as these
abbrev pub plain_limits : code.Limits → Limits
plain_limits l = record { max_line = l.max_line; max_lines = l.max_lines }

-- the options of the code as these
abbrev pub plain_options : code_options.Options → Options
plain_options o = record { max_line = o.max_line; max_lines = o.max_lines }
