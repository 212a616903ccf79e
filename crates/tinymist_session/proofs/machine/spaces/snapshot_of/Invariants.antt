use Rattle.tinymist_session.proofs.machine.spaces.snapshot_of.Given as goal

abbrev pub ghosts-snapshot_counted : goal.ghosts-snapshot_counted
ghosts-snapshot_counted a = record { name = a.blank.name; parts = a.blank.parts }
