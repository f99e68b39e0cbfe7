use Rattle.std.proofs.Common.{◌≡◌, drop}
use Rattle.object_refs.specs.NameTables.{serial_in}
use Rattle.object_refs.proofs.names.serial_in.Given as goal

abbrev pub invariant-loop-entry : goal.invariant-loop-entry
invariant-loop-entry l = serial_in l.id (drop l.entry-index l.bucket) ≡ serial_in l.id l.bucket
