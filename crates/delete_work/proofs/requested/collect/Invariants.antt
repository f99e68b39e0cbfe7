use Rattle.std.proofs.Common.{◌≡◌, ◌++◌, filter}
use Rattle.shared_tree.specs.Pairs.{values_of}
use Rattle.delete_work.specs.Within.Seeking.{is_wanted_by, left_behind, looks_left}
use Rattle.delete_work.proofs.requested.collect.Given as goal

-- what was found, and what is wanted of those behind, are all that are wanted
abbrev pub invariant-pages : goal.invariant-pages
invariant-pages g l = values_of l.list.items ++ filter (is_wanted_by l.request) (left_behind l.index l.request l.after)
    ≡ values_of l.fn.list.items ++ filter (is_wanted_by l.request) l.index

abbrev pub decreases-pages : goal.decreases-pages
decreases-pages g l = looks_left l.index l.request l.after
