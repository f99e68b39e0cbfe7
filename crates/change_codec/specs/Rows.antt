-- The spelling of rows: a kind, the length of the fields in 4 bytes, and the fields. The digest of
-- an object stands in form 2 alone. Our own rules.
use Rattle.std.proofs.Common.{inl, inr}
use Rattle.std.specs.Prelude.{◌⊎◌, ◌==◌, ◌<◌, ◌^◌, ℕ, List, length, Bool, true, false, Option, Some, None, if◌then◌else◌}
use Rattle.media_rows.specs.Formats.{status_number, all_statuses}
use Rattle.media_rows.specs.declared.event.EventRow.{EventRow}
use Rattle.media_rows.specs.declared.flow.FlowRow.{FlowRow}
use Rattle.media_rows.specs.declared.hook.HookRow.{HookRow}
use Rattle.media_rows.specs.declared.object.Digest.{Digest}
use Rattle.media_rows.specs.declared.object.ObjectRow.{ObjectRow}
use Rattle.media_rows.specs.declared.object.ObjectState.{ObjectState}
use Rattle.media_rows.specs.declared.object.ObjectState.TheVariants.{Allocated, Stored}
use Rattle.media_rows.specs.declared.request.DeleteRow.{DeleteRow}
use Rattle.media_rows.specs.declared.request.DeleteStatus.{DeleteStatus}
use Rattle.media_rows.specs.declared.row.Row.{Row}
use Rattle.media_rows.specs.declared.row.Row.TheVariants as rows
use Rattle.media_rows.specs.declared.segment.SegmentRow.{SegmentRow}
use Rattle.media_rows.specs.declared.source.SourceRow.{SourceRow}
use Rattle.field_codec.specs.Reading.{WritesValue}
use Rattle.field_codec.specs.Spelling.{Spelling, no_field, pair, via, narrowed, either, no_kind, present_if, optional}
use Rattle.field_codec.specs.Leaves.{u32_spelling, u64_spelling, u128_spelling, bool_spelling, text_spelling, range_spelling, one_of}
use Rattle.change_codec.specs.Values.{kind_spelling, event_spelling, tags_spelling, flow_spelling, segment_spelling, digest_spelling, hook_spelling}

-- ---- the fields of each kind of row

-- id, format, label, description, tags, created, updated
unfoldable pub source_row_spelling : Spelling SourceRow
source_row_spelling = via
    (λ (id, (format, (label, (description, (tags, (created, updated)))))). record {
      id = id;
      format = format;
      label = label;
      description = description;
      tags = tags;
      created = created;
      updated = updated;
    })
    (λ row.
    (row.id, (row.format, (row.label, (row.description, (row.tags, (row.created, row.updated)))))))
    (pair u128_spelling (pair kind_spelling
    (pair (optional text_spelling) (pair (optional text_spelling)
    (pair tags_spelling (pair u64_spelling u64_spelling))))))

-- flow, created, metadata updated, segments updated
unfoldable pub flow_row_spelling : Spelling FlowRow
flow_row_spelling = via
    (λ (body, (created, (metadata_updated, segments_updated))). record {
      body = body;
      created = created;
      metadata_updated = metadata_updated;
      segments_updated = segments_updated;
    })
    (λ row. (row.body, (row.created, (row.metadata_updated, row.segments_updated))))
    (pair flow_spelling (pair u64_spelling (pair u64_spelling (optional u64_spelling))))

-- the values of a state: none where allocated, the first block, the length and the digest where
-- stored
abbrev pub StateValues : Type 0
StateValues = Unit {0} ⊎ ((ℕ × (ℕ × Option Digest)) ⊎ ⊥)

-- the state with these values
abbrev pub object_state : StateValues → ObjectState
object_state (inl x) = Allocated
object_state (inr (inl p)) = Stored p.0 p.1.0 p.1.1
object_state (inr (inr x)) = absurd x

-- the values of a state
abbrev pub state_values : ObjectState → StateValues
state_values Allocated = inl tt
state_values (Stored start size digest) = inr (inl (start, (size, digest)))

-- the digest of an object, where the form has one
abbrev pub digest_in : ℕ → Spelling (Option Digest)
digest_in form = present_if (form == 2) digest_spelling

-- 0 allocated, or 1 stored with the first block, the length and the digest
unfoldable pub state_spelling : ℕ → Spelling ObjectState
state_spelling form =
    via object_state state_values
    (either 0 no_field
    (either 1 (pair u64_spelling (pair u64_spelling (digest_in form))) no_kind))

-- serial, id, state, idle moment
unfoldable pub object_row_spelling : ℕ → Spelling ObjectRow
object_row_spelling form = via
    (λ (serial, (id, (state, idle_since))). record {
      serial = serial;
      id = id;
      state = state;
      idle_since = idle_since;
    })
    (λ row. (row.serial, (row.id, (row.state, row.idle_since))))
    (pair u64_spelling (pair text_spelling (pair (state_spelling form) u64_spelling)))

-- flow, serial, segment
unfoldable pub segment_row_spelling : Spelling SegmentRow
segment_row_spelling = via
    (λ (flow, (serial, segment)). record { flow = flow; serial = serial; segment = segment })
    (λ row. (row.flow, (row.serial, row.segment)))
    (pair u128_spelling (pair u64_spelling segment_spelling))

-- a status as its number
unfoldable pub status_spelling : Spelling DeleteStatus
status_spelling = one_of status_number all_statuses

-- serial, flow, range, deletes the flow, status, created, updated
unfoldable pub delete_row_spelling : Spelling DeleteRow
delete_row_spelling = via
    (λ (serial, (flow, (range, (delete_flow, (status, (created, updated)))))). record {
      serial = serial;
      flow = flow;
      range = range;
      delete_flow = delete_flow;
      status = status;
      created = created;
      updated = updated;
    })
    (λ row. (
      row.serial,
      (row.flow, (row.range, (row.delete_flow, (row.status, (row.created, row.updated))))),
    ))
    (pair u64_spelling (pair u128_spelling (pair range_spelling (pair bool_spelling
    (pair status_spelling (pair u64_spelling u64_spelling))))))

-- serial, hook, failed
unfoldable pub hook_row_spelling : Spelling HookRow
hook_row_spelling = via
    (λ (serial, (hook, failed)). record { serial = serial; hook = hook; failed = failed })
    (λ row. (row.serial, (row.hook, row.failed)))
    (pair u64_spelling (pair hook_spelling bool_spelling))

-- serial, hook, kind, subject, range, moment
unfoldable pub event_row_spelling : Spelling EventRow
event_row_spelling = via
    (λ (serial, (hook, (kind, (subject, (range, moment))))). record {
      serial = serial;
      hook = hook;
      kind = kind;
      subject = subject;
      range = range;
      moment = moment;
    })
    (λ row. (row.serial, (row.hook, (row.kind, (row.subject, (row.range, row.moment))))))
    (pair u64_spelling (pair u64_spelling (pair event_spelling (pair u128_spelling
    (pair (optional range_spelling) u64_spelling)))))

-- ---- fields behind their length

-- the value, where its length is the one that stands before it
abbrev pub measured : {A : Type 0} → (A → List ℕ) → ℕ × A → Option A
measured spell p = if length (spell p.1) == p.0 then Some p.1 else None

-- The length of a value's spelling in 4 bytes, and the value, which is read without regard to the
-- length. A length that isn't the value's is faulty at its own beginning.
abbrev pub sized : {A : Type 0} → Spelling A → Spelling A
sized f =
    narrowed (measured f.meaning.spell) (λ x. (length (f.meaning.spell x), x)) (λ x. Unit {0})
    (λ x. length (f.meaning.spell x) < 2 ^ 32) (pair u32_spelling f)

-- A value is written behind some bytes where it has a spelling.
abbrev pub WritesIfSpelled : {A : Type 0} → Spelling A → List ℕ → A → List ℕ → Bool → Type 0
WritesIfSpelled f old value new true = WritesValue f old value new
WritesIfSpelled f old value new false = f.asks value → ⊥

-- ---- rows

-- the fields of each kind of row, in the order of the kinds
abbrev pub RowFields : Type 0
RowFields =
    SourceRow
    ⊎ (FlowRow ⊎ (ObjectRow ⊎ (SegmentRow ⊎ (DeleteRow ⊎ (HookRow ⊎ (EventRow ⊎ (ℕ ⊎ ⊥)))))))

-- the row with these fields
abbrev pub row_of_fields : RowFields → Row
row_of_fields (inl row) = rows.Source row
row_of_fields (inr (inl row)) = rows.Flow row
row_of_fields (inr (inr (inl row))) = rows.Object row
row_of_fields (inr (inr (inr (inl row)))) = rows.Segment row
row_of_fields (inr (inr (inr (inr (inl row))))) = rows.Request row
row_of_fields (inr (inr (inr (inr (inr (inl row)))))) = rows.Hook row
row_of_fields (inr (inr (inr (inr (inr (inr (inl row))))))) = rows.Event row
row_of_fields (inr (inr (inr (inr (inr (inr (inr (inl serial)))))))) = rows.Numbers serial
row_of_fields (inr (inr (inr (inr (inr (inr (inr (inr x)))))))) = absurd x

-- the fields of a row
abbrev pub row_fields : Row → RowFields
row_fields (rows.Source row) = inl row
row_fields (rows.Flow row) = inr (inl row)
row_fields (rows.Object row) = inr (inr (inl row))
row_fields (rows.Segment row) = inr (inr (inr (inl row)))
row_fields (rows.Request row) = inr (inr (inr (inr (inl row))))
row_fields (rows.Hook row) = inr (inr (inr (inr (inr (inl row)))))
row_fields (rows.Event row) = inr (inr (inr (inr (inr (inr (inl row))))))
row_fields (rows.Numbers serial) = inr (inr (inr (inr (inr (inr (inr (inl serial)))))))

-- a row as a form has it: one byte of kind, and the fields of that kind behind their length
unfoldable pub row_spelling : ℕ → Spelling Row
row_spelling form = via row_of_fields row_fields
    (either 1 (sized source_row_spelling)
    (either 2 (sized flow_row_spelling)
    (either 3 (sized (object_row_spelling form))
    (either 4 (sized segment_row_spelling)
    (either 5 (sized delete_row_spelling)
    (either 6 (sized hook_row_spelling)
    (either 7 (sized event_row_spelling)
    (either 8 (sized u64_spelling) no_kind))))))))
