use Rattle.std.proofs.Common.{◌-◌, drop, length}
use Rattle.webhook_outbox.specs.Within.Restored.{may_wait, waits}
use Rattle.webhook_outbox.proofs.Restoring.{Gathers}
use Rattle.webhook_outbox.proofs.restores.events_gathered.Given as goal

abbrev pub invariant-loop-passed : goal.invariant-loop-passed
invariant-loop-passed l = Gathers may_wait waits (drop (length l.events - l.passed) l.events) l.bare l.outbox
