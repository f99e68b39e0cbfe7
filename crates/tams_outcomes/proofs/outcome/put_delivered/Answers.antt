use Rattle.tams_outcomes.proofs.outcome.put_delivered.Goals as goal

-- The journal had no room for the change of an event.
pub returns-then-full : goal.returns-then-full
returns-then-full g c = rw c.if-full.true (rw (c.part.ensures, c.part-2.ensures) at c.put_parts.ensures)

-- It had room for each.
pub returns : goal.returns
returns g c = rw c.if-full.false (rw (c.part.ensures, c.part-2.ensures) at c.put_parts-2.ensures)
