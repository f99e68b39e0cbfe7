use Rattle.object_blobs.proofs.space.Space.place.Given as goal

-- the steps of the looks are counted from a ledger of their own
abbrev pub ghosts-first_fitting : goal.ghosts-first_fitting
ghosts-first_fitting a = record { name = a.blank.name; parts = a.blank.parts }
