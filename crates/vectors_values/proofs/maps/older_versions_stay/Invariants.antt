use Rattle.vectors_values.proofs.maps.older_versions_stay.Given as goal

-- the counter's ledger is the blank's
abbrev pub ghosts-shares_of_each_hundred : goal.ghosts-shares_of_each_hundred
ghosts-shares_of_each_hundred g a = record { name = a.blank.name; parts = a.blank.parts }
