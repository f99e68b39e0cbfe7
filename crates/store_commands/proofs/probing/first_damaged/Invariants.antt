use Rattle.std.proofs.Common.{◌≡◌}
use Rattle.store_core.specs.Prepared.{stored_objects}
use Rattle.store_commands.proofs.ProbingLemmas.{HasProbed}
use Rattle.store_commands.proofs.probing.first_damaged.Given as goal

-- those before this one were whole
abbrev pub invariant-loop-row : goal.invariant-loop-row
invariant-loop-row g l = HasProbed l.fn.store.kept l.store l.row-items (g.D.Disk.device l.fn.disk) (g.D.Disk.device l.disk) l.row-index
