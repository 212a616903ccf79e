use Rattle.std.proofs.Common.{◌≡◌, drop}
use Rattle.std.specs.Map.{lookup}
use Rattle.ty_persist.specs.Texts.{is_text}
use Rattle.ty_persist_plain.specs.ListMap.{pairs}
use Rattle.ty_persist_plain.proofs.list_map.value_at_text.Given as goal

-- no key so far has the text
abbrev pub invariant-loop-shared : goal.invariant-loop-shared
invariant-loop-shared g l = lookup (is_text l.text) (pairs (drop l.shared-index l.entries)) ≡ lookup (is_text l.text) (pairs l.entries)
