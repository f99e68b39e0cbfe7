use Rattle.segment_book.proofs.book.SegmentBook.is_met.Given as goal

-- the steps of the look are counted from a ledger of its own
abbrev pub ghosts-met_rows : goal.ghosts-met_rows
ghosts-met_rows a = record { name = a.blank.name; parts = a.blank.parts }
