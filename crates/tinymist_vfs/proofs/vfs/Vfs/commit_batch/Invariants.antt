use Rattle.tinymist_vfs.proofs.vfs.Vfs.commit_batch.Given as goal

-- the counter's ledger is the blank's
abbrev pub ghosts-commit_blank : goal.ghosts-commit_blank
ghosts-commit_blank g a = record { name = a.blank.name; parts = a.blank.parts }
