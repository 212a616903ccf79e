use Rattle.std.proofs.Common.{◌≡◌, ◌+◌, ◌≤◌, length}
use denote.Text.{Utf8}
use denote.Shadow.{shadow}
use Rattle.ty_model.specs.Paths.{parts_at, counted, climbs_from, escapes}
use Rattle.ty_syntax.proofs.vpath.escapes.Given as goal

abbrev pub invariant-loop-part : goal.invariant-loop-part
invariant-loop-part l = record {
  utf8 : shadow (Utf8 l.rest);
  same : climbs_from l.depth (counted (parts_at 47 l.rest)) ≡ escapes l.text;
  size : l.depth + length l.rest ≤ length l.text;
}

abbrev pub decreases-loop-part : goal.decreases-loop-part
decreases-loop-part l = length l.rest
