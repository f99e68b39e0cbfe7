use Rattle.segment_index.proofs.index.SegmentIndex.hull.Given as goal

-- the steps of the looks are counted from ledgers of their own
abbrev pub ghosts-first_segment : goal.ghosts-first_segment
ghosts-first_segment a = record { name = a.blank.name; parts = a.blank.parts }

abbrev pub ghosts-last_segment : goal.ghosts-last_segment
ghosts-last_segment a = record { name = a.blank.name; parts = a.blank.parts }
