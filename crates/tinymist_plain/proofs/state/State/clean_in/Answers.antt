use Rattle.std.proofs.Common.{sym, ap, ◌∙◌, map, Some}
use Rattle.std.proofs.lemmas.Result.{IfOk-weaker}
use Rattle.std.specs.Option.{option_map}
use Rattle.session_grammar.specs.Plain.{plain_target, plain_id}
use Rattle.tinymist_plain.proofs.Answered.{clean_says}
use Rattle.tinymist_plain.proofs.state.State.clean_in.Goals as goal

pub returns : goal.returns
returns c = λ s kept.
    let named = ap (option_map (λ found. found.items)) (sym c.in-Some-2.is) ∙ c.in_ok-ids.ensures in
    let t = clean_says c.args.self.now s kept (plain_target c.args.target) c.args.revision (map plain_id c.args.words.now) c.in-Some.space.now c.deref.result.now c.in-Some.ensures (ap Some c.deref.ensures.value ∙ named) in
    IfOk-weaker c.clean_since.result _ _ (λ r same. same ∙ t.2) (c.clean_since.ensures t.0 t.1)
