-- What a manifest under way is seen as, and of which segments it is one.
use Rattle.std.specs.Prelude.{◌≡◌, ℕ, ◌^◌, ◌-◌, ℤ, List, ◌∷◌, [], Option, Some, None, filter, length, map, min, option_map}
use Rattle.std.specs.List.{flat_map}
use Rattle.media_rows.specs.declared.segment.SegmentRow.{SegmentRow}
use Rattle.time_range.specs.Points.{high_of}
use Rattle.time_range.specs.declared.ranges.Span.{Span}
use Rattle.hls_manifest.specs.Entries.{duration_of, entries_behind, is_whole, least_target}
use Rattle.hls_manifest.specs.Playlists.{entry_lines, rounded, text_of_lines}

-- where a segment ends, and its offset
pub record EndSeen : Type 0 where
  pub high : Option ℤ
  pub ts_offset : ℤ

-- a manifest: its base, the text of its entries, their target so far, how many objects it names,
-- and how the last of them ends
pub record ManifestSeen : Type 0 where
  pub base : List ℕ
  pub body : List ℕ
  pub target : ℕ
  pub objects : ℕ
  pub last : Option EndSeen

-- how a segment ends
abbrev pub end_of : SegmentRow → EndSeen
end_of row = record { high = high_of row.segment.range; ts_offset = row.segment.ts_offset }

-- the last of segments that stand behind this one, if there is one
abbrev pub last_behind : Option SegmentRow → List SegmentRow → Option SegmentRow
last_behind last [] = last
last_behind last (row ∷ rows) = last_behind (Some row) rows

-- how many there are, as a number of 64 bits
abbrev pub counted : List SegmentRow → ℕ
counted rows = min (length rows) (2 ^ 64 - 1)

-- it is a manifest of these segments, in this order
pub record IsManifestOf (rows : List SegmentRow) (manifest : ManifestSeen) : Type 0 where
  pub body : manifest.body
      ≡ text_of_lines (flat_map entry_lines (entries_behind manifest.base None rows))
  pub target : manifest.target ≡ least_target (map (λ row. rounded (duration_of row)) rows)
  pub objects : manifest.objects ≡ counted rows
  pub last : manifest.last ≡ option_map end_of (last_behind None rows)

-- the segment as a list, where it shows a whole object within the range
abbrev pub named_of : Option Span → SegmentRow → List SegmentRow
named_of range row = filter (is_whole range) (row ∷ [])
