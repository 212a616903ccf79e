use Rattle.tinymist_package.specs.Walk.{files_of, Writes}
use Rattle.tinymist_package.proofs.Walks.{seen_walk, written_on_ok}
use Rattle.tinymist_package.proofs.pack.map_pack.MapPack.clone_into_pack.Goals as goal

pub returns-clause-walked : goal.returns-clause-walked
returns-clause-walked g c = λ all told. seen_walk (λ p. files_of p.files.entries) Writes _ c.args.self.now c.hand_to.new.taker all c.hand_to.result (c.hand_to.ensures.walked all told)

pub returns-clause-all : goal.returns-clause-all
returns-clause-all g c = λ all told. written_on_ok _ _ _ all c.hand_to.result (returns-clause-walked g c all told)
