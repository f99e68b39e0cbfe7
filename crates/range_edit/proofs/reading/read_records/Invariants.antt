use Rattle.std.proofs.Common.{◌<◌}
use Rattle.range_edit.specs.Within.{HasReadRows}
use Rattle.range_edit.proofs.reading.read_records.Given as goal

-- the reader has given the head and the records of the rows so far
abbrev pub invariant-loop-record : goal.invariant-loop-record
invariant-loop-record l = record {
  so_far : HasReadRows l.fn.bytes l.rows l.record-iterator.rdr;
  turns : 0 < l.record-iterator.left;
}
