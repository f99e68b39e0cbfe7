use Rattle.delete_work.proofs.rows.first_request.Given as goal

-- the steps of the look are counted from a ledger of its own
abbrev pub ghosts-first_behind : goal.ghosts-first_behind
ghosts-first_behind a = record { name = a.blank.name; parts = a.blank.parts }
