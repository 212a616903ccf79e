use Rattle.std.proofs.Common.{◌≡◌, ◌∙◌, ◌++◌, ◌∷◌, [], ap, sym, arith, codes, List, ℕ, map, take, length}
use Rattle.std.proofs.Math.Seq.{take-length}
use Rattle.ty_model.specs.Values.{Id}
use Rattle.session_grammar.specs.Reply.{id_word}
use Rattle.session_grammar.proofs.Tabs.{tabs, tabs-next, tabbed_is}
use Rattle.session_grammar.proofs.reply.put_ids.Goals as goal

pub loop-id-preserved : goal.loop-id-preserved
loop-id-preserved c =
    let taken = c.in_ok-extend_from_slice-2.ensures.items ∙ ap (λ (bytes : List ℕ). c.push.new.self.items ++ bytes) (c.as_bytes.ensures.value ∙ c.in_ok-word.ensures) in
    tabs-next id_word (codes "ids") c.args.ids.now c.loop-id.id-index c.id-item.result c.loop-id.line.items c.push.new.self.items c.extend_from_slice-in-loop-id.new.self.items c.loop-id.invariant c.in_ok-push.ensures.items taken c.id-item.is (omega arith)

pub returns : goal.returns
returns c =
    let at_end : c.loop-id.id-index ≡ length c.args.ids.now = omega arith in
    c.in_ok-push-2.ensures.items
    ∙ ap (λ (line : List ℕ). line ++ 10 ∷ []) (c.loop-id.invariant ∙ ap (λ (ids : List Id). codes "ids" ++ tabs (map id_word ids)) (ap (λ (n : ℕ). take n c.args.ids.now) at_end ∙ take-length c.args.ids.now) ∙ sym (tabbed_is (codes "ids") (map id_word c.args.ids.now)))
