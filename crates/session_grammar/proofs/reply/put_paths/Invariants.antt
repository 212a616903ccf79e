use Rattle.std.proofs.Common.{◌≡◌, ◌++◌, map, take, codes}
use Rattle.ty_path.specs.Shared.{path_text}
use Rattle.session_grammar.proofs.Tabs.{tabs}
use Rattle.session_grammar.proofs.reply.put_paths.Given as goal

abbrev pub invariant-loop-path : goal.invariant-loop-path
invariant-loop-path l = l.line.items ≡ codes "paths" ++ tabs (map path_text (take l.path-index l.paths))
