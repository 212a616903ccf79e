use Rattle.std.proofs.Common.{◌∙◌, ap, refl}
use Rattle.std.specs.Str.{bytes_eq}
use Rattle.indexmap.specs.IndexMap.{insert_entry}
use Rattle.tinymist_package.specs.Walk.{files_of}
use Rattle.tinymist_package.proofs.Walks.{insert_seen}
use Rattle.tinymist_package.proofs.pack.map_pack.MapPack.put.Goals as goal

pub returns-in-Ok-clause-ok : goal.returns-in-Ok-clause-ok
returns-in-Ok-clause-ok c =
    let before = files_of c.args.self.now.files.entries in
    ap files_of c.in-Ok.ensures.entries
    ∙ insert_seen _ (λ a b. refl) c.args.self.now.files.entries c.in_ok-path.path c.in_ok-bytes.bytes
    ∙ (λ i. insert_entry bytes_eq before (c.in_ok-path.ensures.ok i) (c.in_ok-bytes.ensures i))
