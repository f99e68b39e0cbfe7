use Rattle.std.proofs.Common.{◌≡◌, ◌++◌, drop}
use Rattle.store_core.specs.Prepared.{stored_objects}
use Rattle.store_core.proofs.library.Core.stored.Given as goal

-- the stored ones of those before, and those that are left
abbrev pub invariant-loop-row : goal.invariant-loop-row
invariant-loop-row l = l.stored ++ stored_objects (drop l.row-index l.row-items) ≡ stored_objects l.self.library.objects
