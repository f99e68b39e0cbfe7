use Rattle.std.proofs.Common.{◌≡◌, ◌-◌, drop}
use Rattle.media_rows.specs.Lists.{rises}
use Rattle.media_rows.specs.Snapshot.{row_before}
use Rattle.core_restore.proofs.order.do_rise.Given as goal

-- what is left, with the row before it, rises as all does
abbrev pub invariant-loop-index : goal.invariant-loop-index
invariant-loop-index l = rises row_before l.rows ≡ rises row_before (drop (l.index - 1) l.rows)
