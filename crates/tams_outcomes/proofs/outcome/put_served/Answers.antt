use Rattle.tams_outcomes.proofs.NoteLemmas.{changes_end-some}
use Rattle.tams_outcomes.proofs.outcome.put_served.Goals as goal

-- No turn was skipped.
pub returns-then-skipped-eq0 : goal.returns-then-skipped-eq0
returns-then-skipped-eq0 g c = rw c.if-skipped-eq0.true (rw (c.part.ensures, c.part-2.ensures) at c.put_parts.ensures)

-- Some were.
pub returns : goal.returns
returns g c =
    rw (changes_end-some c.args.skipped c.if-skipped-eq0.false)
    (rw (c.part.ensures, c.part-2.ensures, c.part-3.ensures) at c.put_parts-2.ensures)
