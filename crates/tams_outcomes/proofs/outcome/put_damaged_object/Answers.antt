use Rattle.tams_outcomes.proofs.outcome.put_damaged_object.Goals as goal

pub returns : goal.returns
returns g c =
    rw (c.named.ensures, c.named-2.ensures, c.named-3.ensures, c.bytes.ensures, c.bytes-2.ensures, c.bytes-3.ensures) at c.put_parts.ensures
