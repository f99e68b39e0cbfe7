use Rattle.id_index.proofs.rows.row_at.Given as goal

-- the steps are counted from a ledger of its own
abbrev pub ghosts-value_at : goal.ghosts-value_at
ghosts-value_at g a = record { name = a.blank.name; parts = a.blank.parts }
