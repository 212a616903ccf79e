use Rattle.tinymist_vfs.proofs.model.notify.NotifyAccessModel.notify.Given as goal

-- the counter's ledger is the blank's
abbrev pub ghosts-changed : goal.ghosts-changed
ghosts-changed g a = record { name = a.blank.name; parts = a.blank.parts }
