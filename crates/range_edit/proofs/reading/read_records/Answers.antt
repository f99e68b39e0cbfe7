use Rattle.range_edit.proofs.Rows.{fault_passes, reads_fault, reads_row}
use Rattle.range_edit.proofs.reading.read_records.Goals as goal

-- a record that spells no row
pub returns-in_err-read_row-clause-fault : goal.returns-in_err-read_row-clause-fault
returns-in_err-read_row-clause-fault c =
    let so_far = c.loop-record.invariant.so_far in
    let next = (c.next.ensures.steps c.loop-record.invariant.turns so_far.given.trim).0 in
    let step = rw (c.in-Some.is, c.in-Ok.is) at (next so_far.given.ready) in
    let why = rw c.next_number.ensures at c.in_err-read_row.ensures.fault in
    fault_passes _ _ _ c.from_residual-in_err-read_row.ensures.1
    (reads_fault _ _ _ _ _ c.next.new.self.rdr c.requires.short so_far step.0 step.1 why)

-- a record that spells a row
pub loop-record-preserved : goal.loop-record-preserved
loop-record-preserved c =
    let so_far = c.loop-record.invariant.so_far in
    let next = (c.next.ensures.steps c.loop-record.invariant.turns so_far.given.trim).0 in
    let step = rw (c.in-Some.is, c.in-Ok.is) at (next so_far.given.ready) in
    record {
      so_far = rw c.in_ok-push.ensures.ok
          (reads_row _ _ _ _ _ c.next.new.self.rdr so_far step.0 step.1 c.in_ok-read_row.ensures.row);
      turns = step.2;
    }
