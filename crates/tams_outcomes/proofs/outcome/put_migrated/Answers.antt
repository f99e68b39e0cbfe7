use Rattle.tams_outcomes.proofs.outcome.put_migrated.Goals as goal

pub returns : goal.returns
returns g c = rw (c.part.ensures, c.part-2.ensures) at c.put_parts.ensures
