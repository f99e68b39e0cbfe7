use Rattle.segment_book.proofs.book.SegmentBook.insert.Given as goal

-- the steps of the look are counted from a ledger of its own
abbrev pub ghosts-added : goal.ghosts-added
ghosts-added a = record { name = a.blank.name; parts = a.blank.parts }
