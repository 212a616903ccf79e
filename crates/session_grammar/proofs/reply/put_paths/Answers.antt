use Rattle.std.proofs.Common.{◌≡◌, ◌∙◌, ◌++◌, ◌∷◌, [], ap, sym, arith, codes, List, ℕ, map, take, length}
use Rattle.std.proofs.Math.Seq.{take-length}
use Rattle.std.specs.String.{string_bytes}
use Rattle.ty_path.specs.Shared.{path_text}
use Rattle.tinymist_vfs.specs.Maps.{Path}
use Rattle.session_grammar.proofs.Tabs.{tabs, tabs-next, tabbed_is}
use Rattle.session_grammar.proofs.reply.put_paths.Goals as goal

pub loop-path-preserved : goal.loop-path-preserved
loop-path-preserved c =
    let taken = c.in_ok-extend_from_slice-2.ensures.items ∙ ap (λ (bytes : List ℕ). c.push.new.self.items ++ bytes) (c.as_bytes.ensures.value ∙ ap string_bytes c.deref.ensures) in
    tabs-next path_text (codes "paths") c.args.paths.now c.loop-path.path-index c.path-item.result c.loop-path.line.items c.push.new.self.items c.extend_from_slice-in-loop-path.new.self.items c.loop-path.invariant c.in_ok-push.ensures.items taken c.path-item.is (omega arith)

pub returns : goal.returns
returns c =
    let at_end : c.loop-path.path-index ≡ length c.args.paths.now = omega arith in
    c.in_ok-push-2.ensures.items
    ∙ ap (λ (line : List ℕ). line ++ 10 ∷ []) (c.loop-path.invariant ∙ ap (λ (paths : List Path). codes "paths" ++ tabs (map path_text paths)) (ap (λ (n : ℕ). take n c.args.paths.now) at_end ∙ take-length c.args.paths.now) ∙ sym (tabbed_is (codes "paths") (map path_text c.args.paths.now)))
