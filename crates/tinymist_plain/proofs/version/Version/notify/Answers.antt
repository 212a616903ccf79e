use Rattle.std.proofs.Common.{◌∙◌, ap, map, List, ℕ}
use Rattle.std.proofs.lemmas.Result.{on_ok_weaker}
use Rattle.ty_path.specs.Shared.{path_text}
use Rattle.tinymist_vfs.specs.Items.{clean_text, clean_file}
use Rattle.session_grammar.specs.Plain.{plain_changes}
use Rattle.tinymist_plain.specs.Lists.{pairs, put_all, without_all}
use Rattle.tinymist_plain.specs.Kept.{layers_of, stamped}
use Rattle.tinymist_plain.proofs.Edits.{notified}
use Rattle.tinymist_plain.proofs.version.Version.notify.Goals as goal

pub returns-clause-layers : goal.returns-clause-layers
returns-clause-layers c = λ l is.
    let changes = plain_changes c.args.changes.now in
    let cleaned = c.in_ok-removes.ensures ∙ ap (map clean_text) c.deref.ensures.value in
    let left = c.remove_paths.ensures ∙ ap (without_all (pairs c.args.self.now.told.items)) (ap (map path_text) c.deref-2.ensures.value ∙ cleaned) in
    on_ok_weaker c.drop_paths.result (λ d.
    notified (layers_of c.args.self.now) l c.args.stamp is changes.removes changes.inserts (pairs c.put_files.new.told.items) (pairs c.drop_paths.new.drops.items)
    (c.in_ok-put_files.ensures ∙ (λ j. put_all (left j) (map clean_file (c.deref-3.ensures.value j))))
    (d ∙ ap (λ (paths : List (List ℕ)). put_all (pairs c.args.self.now.drops.items) (stamped c.args.stamp paths)) (ap (map path_text) c.deref-4.ensures.value ∙ cleaned))) c.drop_paths.ensures
