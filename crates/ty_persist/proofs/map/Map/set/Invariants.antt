use Rattle.ty_persist.proofs.map.Map.set.Given as goal

-- the counter's ledger is the blank's
abbrev pub ghosts-set_blank : goal.ghosts-set_blank
ghosts-set_blank g a = record { name = a.blank.name; parts = a.blank.parts }
