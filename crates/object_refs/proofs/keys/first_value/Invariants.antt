use Rattle.object_refs.proofs.keys.first_value.Given as goal

-- the steps of the look are counted from a ledger of its own
abbrev pub ghosts-first_looked_up : goal.ghosts-first_looked_up
ghosts-first_looked_up g a = record { name = a.blank.name; parts = a.blank.parts }
