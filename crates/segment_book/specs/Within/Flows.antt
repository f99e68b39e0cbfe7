-- The segments of each flow at the key of its id, as a version keeps them, and all of them by
-- rising serial.
use Rattle.std.specs.Prelude.{◌≡◌, ◌==◌, ℕ, ℤ, List, [], ◌∷◌, Bool, true, false, ⊤, unwrap_or, length, flat_map}
use Rattle.std.specs.List.{AllByRecursion, list_all}
use Rattle.media_rows.specs.declared.refusal.BookFault.{BookFault}
use Rattle.media_rows.specs.declared.refusal.BookFault.TheVariants as books
use Rattle.media_rows.specs.declared.refusal.Refusal.TheVariants.{Overlap}
use Rattle.media_rows.specs.declared.segment.SegmentRow.{SegmentRow}
use Rattle.media_rows.specs.Lists.{rises}
use Rattle.media_rows.specs.Ranges.{has_both_ends}
use Rattle.media_rows.specs.Restoring.{by_serial}
use Rattle.media_rows.specs.Views.{id_key}
use Rattle.shared_tree.specs.Pairs.{value_at, with_pair, without_key}
use Rattle.segment_index.specs.Answers.{begins_before}
use Rattle.segment_index.specs.declared.fault.AddFault.{AddFault}
use Rattle.segment_index.specs.declared.fault.AddFault.TheVariants as faults

-- the segments of flows, flow by flow
abbrev pub rows_in : List (ℤ × List SegmentRow) → List SegmentRow
rows_in flows = flat_map (λ p. p.1) flows

-- one list behind another
abbrev pub rows_joined : List (List SegmentRow) → List SegmentRow
rows_joined lists = flat_map (λ rows. rows) lists

-- the same by rising serial
abbrev pub segments_in_flows : List (ℤ × List SegmentRow) → List SegmentRow
segments_in_flows flows = by_serial (λ row. row.serial) (rows_in flows)

-- the segments at the key of a flow
abbrev pub flow_rows : ℕ → List (ℤ × List SegmentRow) → List SegmentRow
flow_rows flow flows = unwrap_or (value_at (id_key flow) flows) []

-- each of these has another serial than this one
abbrev pub IsOther : SegmentRow → List SegmentRow → Type 0
IsOther row rows = AllByRecursion (λ other. (row.serial == other.serial) ≡ false) rows

-- no two segments have one serial
abbrev pub AreOthers : List SegmentRow → Type 0
AreOthers [] = ⊤
AreOthers (row ∷ rows) = IsOther row rows × AreOthers rows

-- a segment is bounded at both ends
abbrev pub has_ends : SegmentRow → Bool
has_ends row = has_both_ends row.segment.range

-- the segments at a key are those of its flow, by rising first points
pub record IsFlow (p : ℤ × List SegmentRow) : Type 0 where
  pub under : AllByRecursion (λ row. id_key row.flow ≡ p.0) p.1
  pub starts : rises begins_before p.1 ≡ true
  pub bounded : list_all has_ends p.1 ≡ true

-- what holds of the flows of a book that counts its segments
pub record AreCountedFlows (flows : List (ℤ × List SegmentRow)) (count : ℕ) : Type 0 where
  pub each : AllByRecursion IsFlow flows
  pub others : AreOthers (rows_in flows)
  pub counted : count ≡ length (rows_in flows)

-- the flows with these segments at a key, where nothing stands for none
abbrev pub with_rows_at : ℤ → List SegmentRow → List (ℤ × List SegmentRow)
    → List (ℤ × List SegmentRow)
with_rows_at key [] flows = without_key key flows
with_rows_at key (row ∷ rows) flows = with_pair (key, row ∷ rows) flows

-- the fault of an index as one of a book
abbrev pub IsIndexFault : AddFault → BookFault → Type 0
IsIndexFault (faults.Overlap range) fault = fault ≡ books.Refused (Overlap range)
IsIndexFault faults.Memory fault = fault ≡ books.Memory
