use Rattle.std.proofs.Common.{◌-◌, drop, length}
use Rattle.webhook_outbox.specs.Within.Restored.{with_hook_joined, may_join, no_rows}
use Rattle.webhook_outbox.proofs.Restoring.{Gathers}
use Rattle.webhook_outbox.proofs.restores.hooks_gathered.Given as goal

abbrev pub invariant-loop-passed : goal.invariant-loop-passed
invariant-loop-passed l = Gathers may_join with_hook_joined (drop (length l.hooks - l.passed) l.hooks) no_rows l.outbox
