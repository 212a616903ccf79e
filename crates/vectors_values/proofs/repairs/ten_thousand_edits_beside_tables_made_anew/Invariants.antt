use Rattle.vectors_values.proofs.repairs.ten_thousand_edits_beside_tables_made_anew.Given as goal

-- the counter's ledger is the blank's
abbrev pub ghosts-made : goal.ghosts-made
ghosts-made g a = record { name = a.blank.name; parts = a.blank.parts }
