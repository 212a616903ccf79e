use Rattle.vectors_layers.proofs.layers.versions.is_clean.Given as goal

abbrev pub ghosts-clean_since : goal.ghosts-clean_since
ghosts-clean_since a = record { name = a.blank.name; parts = a.blank.parts }
