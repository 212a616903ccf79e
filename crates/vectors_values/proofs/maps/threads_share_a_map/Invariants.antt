use Rattle.vectors_values.proofs.maps.threads_share_a_map.Given as goal

-- the counter's ledger is the blank's
abbrev pub ghosts-of_paths : goal.ghosts-of_paths
ghosts-of_paths g a = record { name = a.blank.name; parts = a.blank.parts }

-- the counter's ledger is the blank's
abbrev pub ghosts-counted_elsewhere : goal.ghosts-counted_elsewhere
ghosts-counted_elsewhere g a = record { name = a.blank.name; parts = a.blank.parts }
