use Rattle.uses.proofs.tests.uses_do_what_they_say.Given as goal

abbrev pub ghosts-edits_counted : goal.ghosts-edits_counted
ghosts-edits_counted g a = record { name = a.blank.name; parts = a.blank.parts }
