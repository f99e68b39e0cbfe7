use Rattle.std.proofs.Common.{◌-◌, drop, length}
use Rattle.webhook_outbox.proofs.Addresses.{AreSeen}
use Rattle.webhook_outbox.proofs.restores.are_urls_distinct.Given as goal

abbrev pub invariant-loop-passed : goal.invariant-loop-passed
invariant-loop-passed l = AreSeen (drop (length l.hooks - l.passed) l.hooks) l.seen.keys
