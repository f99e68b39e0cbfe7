use Rattle.std.proofs.Common.{◌-◌, length}
use Rattle.snapshot_rows.specs.Within.Fronts.{IsFrontRead}
use Rattle.snapshot_rows.proofs.reading.read_rows.Given as goal

-- what was read is the front of the text
abbrev pub invariant-rows : goal.invariant-rows
invariant-rows l = IsFrontRead l.form l.bytes l.rows l.at l.last

abbrev pub decreases-rows : goal.decreases-rows
decreases-rows l = length l.bytes - l.at
