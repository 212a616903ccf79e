-- Messages about a file, as plain data.
use Rattle.std.specs.Prelude.{ℕ, List, Option, codes, string_bytes}
use Rattle.tinymist_std.specs.declared.diagnostic.DiagMessage.{DiagMessage}
use Rattle.tinymist_std.specs.declared.diagnostic.DiagSeverity.{DiagSeverity}
use Rattle.tinymist_std.specs.declared.diagnostic.DiagSeverity.TheVariants.{Error, Warning, Information, Hint}
use Rattle.tinymist_std.specs.declared.diagnostic.LspRange.{LspRange}

-- what a severity prints
abbrev pub severity_text : DiagSeverity → List ℕ
severity_text Error = codes "error"
severity_text Warning = codes "warning"
severity_text Information = codes "information"
severity_text Hint = codes "hint"

-- a message about a file, with its texts as bytes
pub record Report : Type 0 where
  pub «package» : List ℕ
  pub path : List ℕ
  pub message : List ℕ
  pub severity : DiagSeverity
  pub range : Option LspRange

-- what a message says
abbrev pub report_of : DiagMessage → Report
report_of d = record {
  «package» = string_bytes d.package;
  path = string_bytes d.path;
  message = string_bytes d.message;
  severity = d.severity;
  range = d.range;
}
