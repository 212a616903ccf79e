use Rattle.std.proofs.Common.{◌∙◌, ap, map}
use Rattle.ty_path.specs.Shared.{path_text}
use Rattle.tinymist_plain.specs.Lists.{pairs, id_pairs, put_all}
use Rattle.tinymist_plain.specs.Kept.{layers_of, stamped}
use Rattle.tinymist_plain.proofs.Edits.{cleared}
use Rattle.tinymist_plain.proofs.version.Version.clear.Goals as goal

pub returns-clause-layers : goal.returns-clause-layers
returns-clause-layers c = λ l is.
    cleared (layers_of c.args.self.now) l c.args.stamp is (map path_text c.in_ok-paths.paths.items) (id_pairs c.new-2.result.items) (pairs c.new.result.items) (pairs c.drop_paths.new.drops.items) c.in_ok-paths.ensures (ap id_pairs c.new-2.ensures.items) (ap pairs c.new.ensures.items)
    (c.in_ok-drop_paths.ensures ∙ ap (λ paths. put_all (pairs c.args.self.now.drops.items) (stamped c.args.stamp (map path_text paths))) c.deref.ensures.value)
