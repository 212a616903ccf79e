use Rattle.tinymist_session.proofs.machine.spaces.are_clean.Given as goal

abbrev pub ghosts-are_clean_counted : goal.ghosts-are_clean_counted
ghosts-are_clean_counted a = record { name = a.blank.name; parts = a.blank.parts }
