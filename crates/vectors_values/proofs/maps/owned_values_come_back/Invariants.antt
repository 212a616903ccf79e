use Rattle.vectors_values.proofs.maps.owned_values_come_back.Given as goal

-- the counter's ledger is the blank's
abbrev pub ghosts-set_twice : goal.ghosts-set_twice
ghosts-set_twice g a = record { name = a.blank.name; parts = a.blank.parts }
