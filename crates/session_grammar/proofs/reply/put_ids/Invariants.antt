use Rattle.std.proofs.Common.{◌≡◌, ◌++◌, map, take, codes}
use Rattle.session_grammar.specs.Reply.{id_word}
use Rattle.session_grammar.proofs.Tabs.{tabs}
use Rattle.session_grammar.proofs.reply.put_ids.Given as goal

abbrev pub invariant-loop-id : goal.invariant-loop-id
invariant-loop-id l = l.line.items ≡ codes "ids" ++ tabs (map id_word (take l.id-index l.ids))
