use Rattle.segment_book.proofs.book.SegmentBook.flow_rows.Given as goal

-- the steps of the walk are counted from a ledger of its own
abbrev pub ghosts-append_rows : goal.ghosts-append_rows
ghosts-append_rows a = record { name = a.blank.name; parts = a.blank.parts }
