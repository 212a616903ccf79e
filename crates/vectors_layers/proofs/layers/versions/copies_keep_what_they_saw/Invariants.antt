use Rattle.vectors_layers.proofs.layers.versions.copies_keep_what_they_saw.Given as goal

abbrev pub ghosts-snapshot_of : goal.ghosts-snapshot_of
ghosts-snapshot_of g a = record { name = a.blank.name; parts = a.blank.parts }

abbrev pub ghosts-fork_of : goal.ghosts-fork_of
ghosts-fork_of g a = record { name = a.blank.name; parts = a.blank.parts }
