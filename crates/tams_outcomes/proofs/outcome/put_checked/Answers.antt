use Rattle.tams_outcomes.proofs.outcome.put_checked.Goals as goal

pub returns : goal.returns
returns g c =
    rw (c.part.ensures, c.part-2.ensures, c.part-3.ensures, c.part-4.ensures, c.part-5.ensures, c.part-6.ensures) at c.put_parts.ensures
