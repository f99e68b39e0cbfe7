use Rattle.std.proofs.Common.{filter}
use Rattle.shared_tree.specs.Pairs.{first, is_above, is_up_to, last}
use Rattle.segment_index.specs.Within.Keyed.{beginning_by, reaching, row_of}
use Rattle.segment_index.proofs.Meeting.{some_first, none_first, first_between}
use Rattle.segment_index.proofs.points.first_met.Goals as goal

-- the last segment up to the low point, where it reaches that
pub returns-in-Some-clause-row : goal.returns-in-Some-clause-row
returns-in-Some-clause-row g c =
    let before = row_of (reaching c.args.low.now (last (filter (is_up_to c.args.low.now) c.args.rows.now))) in
    let next = row_of (beginning_by c.args.high.now (first (filter (is_above c.args.low.now) c.args.rows.now))) in
    let whole = first_between c.args.low.now c.args.high.now c.args.rows.now c.requires.ordered c.requires.kept.keyed c.requires.kept.apart c.keys_rise.ensures
    in
    some_first before next whole c.in-Some.ensures.row

-- otherwise the first one behind it that begins by the high point
pub returns-in-None-clause-row : goal.returns-in-None-clause-row
returns-in-None-clause-row g c =
    let before = row_of (reaching c.args.low.now (last (filter (is_up_to c.args.low.now) c.args.rows.now))) in
    let next = row_of (beginning_by c.args.high.now (first (filter (is_above c.args.low.now) c.args.rows.now))) in
    let whole = first_between c.args.low.now c.args.high.now c.args.rows.now c.requires.ordered c.requires.kept.keyed c.requires.kept.apart c.keys_rise.ensures
    in
    none_first before next whole c.in-None.ensures.row c.first_beginning.ensures.row
