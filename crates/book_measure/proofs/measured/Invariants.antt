use Rattle.book_measure.proofs.measured.Given as goal

-- the steps are counted from a ledger of its own
abbrev pub ghosts-pages : goal.ghosts-pages
ghosts-pages a = record { name = a.blank.name; parts = a.blank.parts }

abbrev pub ghosts-adds : goal.ghosts-adds
ghosts-adds a = record { name = a.blank.name; parts = a.blank.parts }
