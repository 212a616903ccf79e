use Rattle.vectors_values.proofs.maps.the_list_obeys.Given as goal

-- the counter's ledger is the blank's
abbrev pub ghosts-obeyed : goal.ghosts-obeyed
ghosts-obeyed g a = record { name = a.blank.name; parts = a.blank.parts }
