use Rattle.ty_persist.proofs.map.Map.take.Given as goal

-- the counter's ledger is the blank's
abbrev pub ghosts-take_blank : goal.ghosts-take_blank
ghosts-take_blank g a = record { name = a.blank.name; parts = a.blank.parts }
