-- A row is written as its kind and the fields of that kind behind their length.
use Rattle.std.proofs.Common.{ℕ, Bool, true, false, List, [], ◌∷◌, ◌++◌}
use Rattle.disk_trait.specs.Forms.{form_in_use}
use Rattle.media_rows.specs.declared.event.EventRow.{EventRow}
use Rattle.media_rows.specs.declared.flow.FlowRow.{FlowRow}
use Rattle.media_rows.specs.declared.hook.HookRow.{HookRow}
use Rattle.media_rows.specs.declared.object.ObjectRow.{ObjectRow}
use Rattle.media_rows.specs.declared.request.DeleteRow.{DeleteRow}
use Rattle.media_rows.specs.declared.row.Row.TheVariants as rows
use Rattle.media_rows.specs.declared.segment.SegmentRow.{SegmentRow}
use Rattle.media_rows.specs.declared.source.SourceRow.{SourceRow}
use Rattle.field_codec.specs.Leaves.{u64_spelling}
use Rattle.change_codec.specs.Rows.{WritesIfSpelled, delete_row_spelling, event_row_spelling, flow_row_spelling, hook_row_spelling, object_row_spelling, row_spelling, segment_row_spelling, sized, source_row_spelling}

pub source_wrote : (old new : List ℕ) (row : SourceRow) (spelled : Bool) → WritesIfSpelled (sized source_row_spelling) (old ++ 1 ∷ []) row new spelled
    → WritesIfSpelled (row_spelling form_in_use) old (rows.Source row) new spelled
unfolding row_spelling
source_wrote old new row true w = record { written = w.written; fits = w.fits }
source_wrote old new row false none = none

pub flow_wrote : (old new : List ℕ) (row : FlowRow) (spelled : Bool) → WritesIfSpelled (sized flow_row_spelling) (old ++ 2 ∷ []) row new spelled
    → WritesIfSpelled (row_spelling form_in_use) old (rows.Flow row) new spelled
unfolding row_spelling
flow_wrote old new row true w = record { written = w.written; fits = w.fits }
flow_wrote old new row false none = none

pub object_wrote : (old new : List ℕ) (row : ObjectRow) (spelled : Bool) → WritesIfSpelled (sized (object_row_spelling form_in_use)) (old ++ 3 ∷ []) row new spelled
    → WritesIfSpelled (row_spelling form_in_use) old (rows.Object row) new spelled
unfolding row_spelling
object_wrote old new row true w = record { written = w.written; fits = w.fits }
object_wrote old new row false none = none

pub segment_wrote : (old new : List ℕ) (row : SegmentRow) (spelled : Bool) → WritesIfSpelled (sized segment_row_spelling) (old ++ 4 ∷ []) row new spelled
    → WritesIfSpelled (row_spelling form_in_use) old (rows.Segment row) new spelled
unfolding row_spelling
segment_wrote old new row true w = record { written = w.written; fits = w.fits }
segment_wrote old new row false none = none

pub request_wrote : (old new : List ℕ) (row : DeleteRow) (spelled : Bool) → WritesIfSpelled (sized delete_row_spelling) (old ++ 5 ∷ []) row new spelled
    → WritesIfSpelled (row_spelling form_in_use) old (rows.Request row) new spelled
unfolding row_spelling
request_wrote old new row true w = record { written = w.written; fits = w.fits }
request_wrote old new row false none = none

pub hook_wrote : (old new : List ℕ) (row : HookRow) (spelled : Bool) → WritesIfSpelled (sized hook_row_spelling) (old ++ 6 ∷ []) row new spelled
    → WritesIfSpelled (row_spelling form_in_use) old (rows.Hook row) new spelled
unfolding row_spelling
hook_wrote old new row true w = record { written = w.written; fits = w.fits }
hook_wrote old new row false none = none

pub event_wrote : (old new : List ℕ) (row : EventRow) (spelled : Bool) → WritesIfSpelled (sized event_row_spelling) (old ++ 7 ∷ []) row new spelled
    → WritesIfSpelled (row_spelling form_in_use) old (rows.Event row) new spelled
unfolding row_spelling
event_wrote old new row true w = record { written = w.written; fits = w.fits }
event_wrote old new row false none = none

pub numbers_wrote : (old new : List ℕ) (row : ℕ) (spelled : Bool) → WritesIfSpelled (sized u64_spelling) (old ++ 8 ∷ []) row new spelled
    → WritesIfSpelled (row_spelling form_in_use) old (rows.Numbers row) new spelled
unfolding row_spelling
numbers_wrote old new row true w = record { written = w.written; fits = w.fits }
numbers_wrote old new row false none = none
