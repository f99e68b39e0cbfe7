use Rattle.object_blobs.proofs.space.Space.give.Given as goal

-- the steps of the looks are counted from ledgers of their own
abbrev pub ghosts-joined_start : goal.ghosts-joined_start
ghosts-joined_start a = record { name = a.blank.name; parts = a.blank.parts }

abbrev pub ghosts-joined_end : goal.ghosts-joined_end
ghosts-joined_end a = record { name = a.blank.name; parts = a.blank.parts }
