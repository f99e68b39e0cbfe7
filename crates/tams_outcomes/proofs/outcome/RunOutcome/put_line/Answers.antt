use Rattle.tams_outcomes.proofs.outcome.RunOutcome.put_line.Goals as goal

pub returns-in-Worked : goal.returns-in-Worked
returns-in-Worked g c = rw c.in-Worked.is (rw c.part.ensures at c.put_parts.ensures)

pub returns-in-Damaged : goal.returns-in-Damaged
returns-in-Damaged g c = rw c.in-Damaged.is (rw c.part-in-Damaged.ensures at c.put_parts-in-Damaged.ensures)
