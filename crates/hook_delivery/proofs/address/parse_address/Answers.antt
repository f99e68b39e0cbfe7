use Rattle.std.proofs.Common.{sym}
use Rattle.hook_delivery.proofs.Targets.{has_target}
use Rattle.hook_delivery.proofs.address.parse_address.Goals as goal

-- a path and a query that were escaped can be asked for
pub returns-in-Ok-clause-target : goal.returns-in-Ok-clause-target
returns-in-Ok-clause-target c =
    has_target c.args.text.now c.in-Ok.url c.is_reached.ensures.valid (sym c.if-is_reached.ensures.value) c.in-Ok.ensures
