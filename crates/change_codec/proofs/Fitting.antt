-- What fits a small journal, computed.
use Rattle.std.specs.Prelude.{◌≡◌, ℕ, List, Some, None, [], ◌∷◌, ◌++◌, length, ◌+◌}
use Rattle.std.proofs.Common.{length-append, refl, arith, sym, subst}
use Rattle.disk_trait.specs.Forms.{form_in_use}
use Rattle.disk_trait.proofs.NumberLemmas.{length-u32_bytes, length-u64_bytes, length-u128_bytes}
use Rattle.field_codec.specs.Leaves.{u8_spelling, u32_spelling, u64_spelling, u128_spelling, bool_spelling, text_spelling}
use Rattle.change_codec.specs.Values.{kind_spelling, tags_spelling, flow_head_spelling, flow_texts_spelling, flow_rest_spelling, flow_spelling}
use Rattle.change_codec.specs.Changes.{all_changes}
use Rattle.change_codec.specs.Rows.{row_spelling, source_row_spelling, flow_row_spelling}
use Rattle.change_codec.specs.Fitting.{change_size, snapshot_size}
use Rattle.change_codec.specs.WorkedFitting.{labelled, fitting_flow, one_flow, FitsAsWorked}
use Rattle.media_rows.specs.declared.source.SourceRow.{SourceRow}
use Rattle.media_rows.specs.declared.flow.FlowRow.{FlowRow}
use Rattle.media_rows.specs.declared.flow.FormatKind.TheVariants.{Video}
use Rattle.media_rows.specs.declared.row.Row.{Row}
use Rattle.std.specs.List.{flat_map}
use Rattle.media_rows.specs.declared.row.Row.TheVariants.{Source, Flow, Numbers}
use Rattle.media_rows.specs.Snapshot.{rows_of}

plain : change_size (labelled None) ≡ 58
unfolding all_changes flow_spelling flow_head_spelling flow_texts_spelling flow_rest_spelling u8_spelling u32_spelling u64_spelling u128_spelling
    kind_spelling bool_spelling tags_spelling
plain = simp (length-append, length-u32_bytes, length-u64_bytes, length-u128_bytes) refl

more : (text : List ℕ) → change_size (labelled (Some text)) ≡ 62 + length text
unfolding all_changes flow_spelling flow_head_spelling flow_texts_spelling flow_rest_spelling u8_spelling u32_spelling u64_spelling u128_spelling
    kind_spelling bool_spelling tags_spelling text_spelling
more text = simp (length-append, length-u32_bytes, length-u64_bytes, length-u128_bytes) (omega arith)

-- the source and the flow of the small library
abbrev source_row : SourceRow
source_row = record { id = 161; format = Video; label = None; description = None; tags = []; created = 0; updated = 0 }

abbrev flow_row : FlowRow
flow_row = record { body = fitting_flow; created = 0; metadata_updated = 0; segments_updated = None }

three_rows : rows_of one_flow ≡ Source source_row ∷ Flow flow_row ∷ Numbers 1 ∷ []
three_rows = refl

source_size : length ((row_spelling form_in_use).meaning.spell (Source source_row)) ≡ 44
unfolding row_spelling source_row_spelling flow_row_spelling flow_spelling flow_head_spelling flow_texts_spelling flow_rest_spelling u8_spelling u32_spelling
    u64_spelling u128_spelling kind_spelling bool_spelling tags_spelling text_spelling
source_size = simp (length-append, length-u32_bytes, length-u64_bytes, length-u128_bytes) refl

flow_fields : length (flow_row_spelling.meaning.spell flow_row) ≡ 66
unfolding flow_row_spelling flow_spelling flow_head_spelling flow_texts_spelling flow_rest_spelling u8_spelling u32_spelling u64_spelling u128_spelling
    kind_spelling bool_spelling tags_spelling text_spelling
flow_fields = simp (length-append, length-u32_bytes, length-u64_bytes, length-u128_bytes) refl

-- a kind and a length stand before the fields
flow_behind : (row : FlowRow) → length ((row_spelling form_in_use).meaning.spell (Flow row)) ≡ 5 + length (flow_row_spelling.meaning.spell row)
unfolding row_spelling u32_spelling
flow_behind row = simp (length-append, length-u32_bytes) (omega arith)

flow_size : length ((row_spelling form_in_use).meaning.spell (Flow flow_row)) ≡ 71
flow_size = rw (flow_behind flow_row, flow_fields) refl

numbers_size : length ((row_spelling form_in_use).meaning.spell (Numbers 1)) ≡ 13
unfolding row_spelling source_row_spelling flow_row_spelling flow_spelling flow_head_spelling flow_texts_spelling flow_rest_spelling u8_spelling u32_spelling
    u64_spelling u128_spelling kind_spelling bool_spelling tags_spelling text_spelling
numbers_size = simp (length-append, length-u32_bytes, length-u64_bytes, length-u128_bytes) refl

rows : snapshot_size one_flow ≡ 128
rows = subst (λ (l : List Row). length (flat_map (row_spelling form_in_use).meaning.spell l) ≡ 128) (sym three_rows)
    (sum3 ((row_spelling form_in_use).meaning.spell (Source source_row)) ((row_spelling form_in_use).meaning.spell (Flow flow_row)) ((row_spelling form_in_use).meaning.spell (Numbers 1)) source_size
    flow_size numbers_size)
  where
    sum3 : (a b c : List ℕ) → length a ≡ 44 → length b ≡ 71 → length c ≡ 13 → length (a ++ (b ++ (c ++ []))) ≡ 128
    sum3 a b c x y z = omega (arith, x, y, z, length-append a (b ++ (c ++ [])), length-append b (c ++ []), length-append c [])

pub worked : FitsAsWorked
worked = record {
  plain = plain;
  more = more;
  rows = rows;
  in_room = λ text is. rw (more text, is) refl;
  room_left = λ text is. rw (more text, is) refl;
  too_long = λ text is. rw (more text, is) refl;
  behind_rows = λ text is. rw (more text, is, rows) refl;
  room_behind = λ text is. rw (more text, is, rows) refl;
  just_fits = λ text is. rw (more text, is, rows) refl;
  not_at_all = λ text is. rw (more text, is, rows) refl;
}
