use Rattle.std.proofs.Common.{◌≡◌, ◌∙◌, ap, sym, subst, Some, IfSome}
use Rattle.std.specs.FinMap as finmap
use Rattle.tinymist_package.specs.Folders.{Folder, Makes, IsThere, IsPut, folder_of}
use Rattle.tinymist_package.specs.MemoryFolders.{contents_of, stored_of}
use Rattle.tinymist_package.proofs.folders.memory.+make_within.Goals as goal

pub returns-in-Some-Folder : goal.returns-in-Some-Folder
returns-in-Some-Folder t c =
    IsThere _ _ (sym c.in-Some-Folder.ensures ∙ ap (λ s. Some (stored_of s)) c.in-Some-Folder.field-0-is) (ap (λ t. contents_of t.entries) c.in_ok-snapshot-in-Some-Folder.ensures.same)

pub returns-in-Some-2 : goal.returns-in-Some-2
returns-in-Some-2 t c =
    let before = contents_of c.args.tree.now.entries in
    let held = contents_of c.in-Some-2.held.entries in
    let folder : folder_of c.args.path.now ≡ Some c.in-Some.folder = sym c.in_ok-folder.ensures ∙ c.in-Some.is in
    let makes : Makes before c.in-Some.folder held = subst (λ m. IfSome m (λ after. Makes before c.in-Some.folder (contents_of after.entries))) c.in-Some-2.is c.in_ok-held.ensures in
    IsPut _ c.in-Some.folder held _ (sym c.in-None.ensures) folder makes
    (c.in_ok-put_folder-in-Some-2.ensures ∙ ap (λ p. finmap.insert held p Folder) c.in_ok-share-in-Some-2.ensures)
