use Rattle.std.proofs.Common.{◌≡◌, ◌++◌, drop, filter}
use Rattle.shared_tree.specs.Pairs.{values_of}
use Rattle.delete_work.specs.Within.Seeking.{is_wanted_by}
use Rattle.delete_work.proofs.requested.append_wanted.Given as goal

abbrev pub invariant-loop-row : goal.invariant-loop-row
invariant-loop-row l = values_of l.list.items ++ filter (is_wanted_by l.request) (values_of (drop l.row-index l.page))
    ≡ values_of l.fn.list.items ++ filter (is_wanted_by l.request) (values_of l.page)
