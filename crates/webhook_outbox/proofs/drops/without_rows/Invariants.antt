use Rattle.std.proofs.Common.{◌≡◌, drop}
use Rattle.shared_tree.specs.Pairs.{values_of}
use Rattle.webhook_outbox.specs.Within.Drops.{without_event_rows}
use Rattle.webhook_outbox.proofs.drops.without_rows.Given as goal

abbrev pub invariant-loop-row : goal.invariant-loop-row
invariant-loop-row l = without_event_rows (values_of (drop l.row-index l.rows)) l.next ≡ without_event_rows (values_of l.rows) l.events
