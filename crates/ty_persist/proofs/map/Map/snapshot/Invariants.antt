use Rattle.ty_persist.proofs.map.Map.snapshot.Given as goal

-- the counter's ledger is the blank's
abbrev pub ghosts-snapshot_blank : goal.ghosts-snapshot_blank
ghosts-snapshot_blank g a = record { name = a.blank.name; parts = a.blank.parts }
