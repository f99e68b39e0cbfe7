use Rattle.object_blobs.proofs.space.Space.is_free.Given as goal

-- the steps of the look are counted from a ledger of their own
abbrev pub ghosts-has_place : goal.ghosts-has_place
ghosts-has_place a = record { name = a.blank.name; parts = a.blank.parts }
