use Rattle.id_index.proofs.rows.all_rows.Given as goal

-- the steps are counted from a ledger of its own
abbrev pub ghosts-rows_from : goal.ghosts-rows_from
ghosts-rows_from g a = record { name = a.blank.name; parts = a.blank.parts }
