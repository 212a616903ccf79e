use Rattle.vectors_values.proofs.maps.many_shares_of_many_keys.Given as goal

-- the counter's ledger is the blank's
abbrev pub ghosts-many_shares : goal.ghosts-many_shares
ghosts-many_shares g a = record { name = a.blank.name; parts = a.blank.parts }
