use Rattle.std.proofs.Common.{◌-◌, Some, drop, length}
use Rattle.flow_book.specs.Within.Gathering.{GathersSources}
use Rattle.flow_book.proofs.restores.sources_gathered.Given as goal

abbrev pub invariant-loop-placed : goal.invariant-loop-placed
invariant-loop-placed l = GathersSources (drop (length l.rows - l.placed) l.rows) (Some l.next)
