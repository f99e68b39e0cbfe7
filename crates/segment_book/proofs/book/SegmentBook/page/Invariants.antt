use Rattle.segment_book.proofs.book.SegmentBook.page.Given as goal

-- the steps of the look are counted from a ledger of its own
abbrev pub ghosts-rows_past : goal.ghosts-rows_past
ghosts-rows_past a = record { name = a.blank.name; parts = a.blank.parts }
