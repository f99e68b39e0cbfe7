use Rattle.disk_trait.specs.Forms.{form_in_use}
use Rattle.field_codec.proofs.Numbers.{u64_lawful}
use Rattle.change_codec.proofs.RowLaws.{source_row_lawful, flow_row_lawful, object_row_lawful, segment_row_lawful, delete_row_lawful, hook_row_lawful, event_row_lawful}
use Rattle.std.proofs.lemmas.Result.{IfOk-weaker}
use Rattle.change_codec.proofs.RowWriting.{event_wrote, flow_wrote, hook_wrote, numbers_wrote, object_wrote, request_wrote, segment_wrote, source_wrote}
use Rattle.change_codec.proofs.sized.write_row.Goals as goal

pub write_sized-requires : goal.write_sized-requires
write_sized-requires c = source_row_lawful

pub write_sized-requires-in-Flow : goal.write_sized-requires-in-Flow
write_sized-requires-in-Flow c = flow_row_lawful

pub write_sized-requires-in-Object : goal.write_sized-requires-in-Object
write_sized-requires-in-Object c = object_row_lawful form_in_use

pub write_sized-requires-in-Segment : goal.write_sized-requires-in-Segment
write_sized-requires-in-Segment c = segment_row_lawful

pub write_sized-requires-in-Request : goal.write_sized-requires-in-Request
write_sized-requires-in-Request c = delete_row_lawful

pub write_sized-requires-in-Hook : goal.write_sized-requires-in-Hook
write_sized-requires-in-Hook c = hook_row_lawful

pub write_sized-requires-in-Event : goal.write_sized-requires-in-Event
write_sized-requires-in-Event c = event_row_lawful

pub write_sized-requires-in-Numbers : goal.write_sized-requires-in-Numbers
write_sized-requires-in-Numbers c = u64_lawful

pub returns-in-Source : goal.returns-in-Source
returns-in-Source c =
    rw c.in-Source.is (IfOk-weaker c.write_sized.result _ _ (λ spelled wrote. source_wrote c.args.out.now c.write_sized.new.out c.in-Source.row spelled wrote) c.write_sized.ensures)

pub returns-in-Flow : goal.returns-in-Flow
returns-in-Flow c =
    rw c.in-Flow.is (IfOk-weaker c.write_sized-in-Flow.result _ _ (λ spelled wrote. flow_wrote c.args.out.now c.write_sized-in-Flow.new.out c.in-Flow.row spelled wrote) c.write_sized-in-Flow.ensures)

pub returns-in-Object : goal.returns-in-Object
returns-in-Object c =
    rw c.in-Object.is (IfOk-weaker c.write_sized-in-Object.result _ _ (λ spelled wrote. object_wrote c.args.out.now c.write_sized-in-Object.new.out c.in-Object.row spelled wrote) c.write_sized-in-Object.ensures)

pub returns-in-Segment : goal.returns-in-Segment
returns-in-Segment c =
    rw c.in-Segment.is (IfOk-weaker c.write_sized-in-Segment.result _ _ (λ spelled wrote. segment_wrote c.args.out.now c.write_sized-in-Segment.new.out c.in-Segment.row spelled wrote) c.write_sized-in-Segment.ensures)

pub returns-in-Request : goal.returns-in-Request
returns-in-Request c =
    rw c.in-Request.is (IfOk-weaker c.write_sized-in-Request.result _ _ (λ spelled wrote. request_wrote c.args.out.now c.write_sized-in-Request.new.out c.in-Request.row spelled wrote) c.write_sized-in-Request.ensures)

pub returns-in-Hook : goal.returns-in-Hook
returns-in-Hook c =
    rw c.in-Hook.is (IfOk-weaker c.write_sized-in-Hook.result _ _ (λ spelled wrote. hook_wrote c.args.out.now c.write_sized-in-Hook.new.out c.in-Hook.row spelled wrote) c.write_sized-in-Hook.ensures)

pub returns-in-Event : goal.returns-in-Event
returns-in-Event c =
    rw c.in-Event.is (IfOk-weaker c.write_sized-in-Event.result _ _ (λ spelled wrote. event_wrote c.args.out.now c.write_sized-in-Event.new.out c.in-Event.row spelled wrote) c.write_sized-in-Event.ensures)

pub returns-in-Numbers : goal.returns-in-Numbers
returns-in-Numbers c =
    rw c.in-Numbers.is (IfOk-weaker c.write_sized-in-Numbers.result _ _ (λ spelled wrote. numbers_wrote c.args.out.now c.write_sized-in-Numbers.new.out c.in-Numbers.next_serial spelled wrote) c.write_sized-in-Numbers.ensures)
