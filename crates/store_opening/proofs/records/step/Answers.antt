use Rattle.store_opening.proofs.Applying.{no_step}
use Rattle.store_opening.proofs.records.step.Goals as goal

-- The change is the one that the payload spells, and it doesn't apply.
pub returns-in-Err-Refused-clause-refused : goal.returns-in-Err-Refused-clause-refused
returns-in-Err-Refused-clause-refused c =
    no_step c.args.form c.args.entry.now.payload c.in-Ok.change c.args.library.now.library (rw c.bytes.ensures at c.in-Ok.ensures.ok)
    (rw c.in-Err-Refused.field-0-is at c.in-Err-Refused.ensures)
