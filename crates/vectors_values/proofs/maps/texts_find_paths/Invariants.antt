use Rattle.vectors_values.proofs.maps.texts_find_paths.Given as goal

-- the counter's ledger is the blank's
abbrev pub ghosts-of_paths : goal.ghosts-of_paths
ghosts-of_paths g a = record { name = a.blank.name; parts = a.blank.parts }
