use Rattle.field_codec.proofs.Numbers.{u64_lawful}
use Rattle.change_codec.proofs.RowLaws.{source_row_lawful, flow_row_lawful, segment_row_lawful, delete_row_lawful, hook_row_lawful, event_row_lawful}
use Rattle.change_codec.proofs.sized.read_row.Goals as goal

pub read_sized-requires : goal.read_sized-requires
read_sized-requires c = source_row_lawful

pub read_sized-requires-in-Some-eq2 : goal.read_sized-requires-in-Some-eq2
read_sized-requires-in-Some-eq2 c = flow_row_lawful

pub read_sized-requires-in-Some-eq4 : goal.read_sized-requires-in-Some-eq4
read_sized-requires-in-Some-eq4 c = segment_row_lawful

pub read_sized-requires-in-Some-eq5 : goal.read_sized-requires-in-Some-eq5
read_sized-requires-in-Some-eq5 c = delete_row_lawful

pub read_sized-requires-in-Some-eq6 : goal.read_sized-requires-in-Some-eq6
read_sized-requires-in-Some-eq6 c = hook_row_lawful

pub read_sized-requires-in-Some-eq7 : goal.read_sized-requires-in-Some-eq7
read_sized-requires-in-Some-eq7 c = event_row_lawful

pub read_sized-requires-in-Some-eq8 : goal.read_sized-requires-in-Some-eq8
read_sized-requires-in-Some-eq8 c = u64_lawful
