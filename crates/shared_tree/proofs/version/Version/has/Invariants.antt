use Rattle.shared_tree.proofs.version.Version.has.Given as goal

-- the steps of the look are counted from a ledger of its own
abbrev pub ghosts-holds : goal.ghosts-holds
ghosts-holds g a = record { name = a.blank.name; parts = a.blank.parts }
