use Rattle.webhook_outbox.proofs.looks.first_waiting.Given as goal

-- the steps are counted from a ledger of its own
abbrev pub ghosts-first_looked_up : goal.ghosts-first_looked_up
ghosts-first_looked_up a = record { name = a.blank.name; parts = a.blank.parts }
