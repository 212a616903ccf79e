use Rattle.std.proofs.Common.{◌≡◌, sym, ◌∙◌, rules, arith}
use Rattle.std.proofs.lemmas.Grind.{common_steps}
use Rattle.std.specs.FinMap as map
use Rattle.ty_model.specs.Values.{same_answer}
use Rattle.ty_model.specs.Standing.{same_option}
use Rattle.ty_path.specs.Shared.{path_text}
use Rattle.tinymist_vfs.proofs.Told.{same_told_at}
use Rattle.tinymist_vfs.proofs.layers.same.same_told.Goals as goal

pub returns : goal.returns
returns c =
    let told : c.same_answers.result ≡ same_option same_answer (map.get c.args.old.now.told (path_text c.args.path.now)) (map.get c.args.new.now.told (path_text c.args.path.now)) = first_of (search rules, grind (arith, common_steps)) in
    told ∙ sym (same_told_at c.args.old.now c.args.new.now (path_text c.args.path.now))
