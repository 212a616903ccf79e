use Rattle.vectors_values.proofs.maps.no_share_copies_entries.Given as goal

-- the counter's ledger is the blank's
abbrev pub ghosts-shares_made : goal.ghosts-shares_made
ghosts-shares_made g a = record { name = a.blank.name; parts = a.blank.parts }
