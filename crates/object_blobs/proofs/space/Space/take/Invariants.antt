use Rattle.object_blobs.proofs.space.Space.take.Given as goal

-- the steps of the look are counted from a ledger of its own
abbrev pub ghosts-holding : goal.ghosts-holding
ghosts-holding a = record { name = a.blank.name; parts = a.blank.parts }
