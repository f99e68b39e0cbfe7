use Rattle.delete_work.proofs.requested.requested.Given as goal

-- the steps of the looks are counted from a ledger of their own
abbrev pub ghosts-collect : goal.ghosts-collect
ghosts-collect a = record { name = a.blank.name; parts = a.blank.parts }
