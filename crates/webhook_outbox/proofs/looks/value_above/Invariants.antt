use Rattle.webhook_outbox.proofs.looks.value_above.Given as goal

-- the steps are counted from a ledger of its own
abbrev pub ghosts-above_looked_up : goal.ghosts-above_looked_up
ghosts-above_looked_up g a = record { name = a.blank.name; parts = a.blank.parts }
