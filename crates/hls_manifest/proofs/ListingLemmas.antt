-- The listing of segments with ranges is one that reads back.
use Rattle.std.proofs.Common.{◌≡◌, ℕ, ◌≤◌, false, List, [], ◌∷◌, All, IfSome, Option, Some, None, map, slice_get, refl, arith}
use Rattle.std.proofs.lemmas.List.Elements.{All-cons, All-head, All-map, All-nil, All-tail, All-weaker}
use Rattle.media_rows.specs.declared.segment.SegmentRow.{SegmentRow}
use Rattle.time_range.specs.Points.{IsRange}
use Rattle.hls_manifest.specs.Entries.{duration_of, entries_behind, entry_of, least_target, listing_of}
use Rattle.hls_manifest.specs.Laws.{Serves}
use Rattle.hls_manifest.specs.Playlists.{IsAddress, IsEntry, IsListing, longest, rounded}
use Rattle.hls_manifest.proofs.AddressLemmas.{media_address_is}
use Rattle.hls_manifest.proofs.DurationLemmas.{duration_within}
use Rattle.hls_manifest.proofs.TargetLemmas.{targets_least}

-- what is true of each segment: its range is one
abbrev HasRange : SegmentRow → Type 0
HasRange row = IsRange row.segment.range

-- its duration in whole seconds
abbrev seconds_of : SegmentRow → ℕ
seconds_of row = rounded (duration_of row)

-- the entry of a segment is one of a playlist whose target serves
entry_is : (base : List ℕ) (target : ℕ) (last : Option SegmentRow) (row : SegmentRow)
    → IsAddress base → HasRange row → seconds_of row ≤ target
    → IsEntry target (entry_of base last row)
entry_is base target last row is range most = record {
  duration = duration_within row.segment.range range;
  within = most;
  address = media_address_is base row.segment.object is;
}

-- so is each
entries_are : (base : List ℕ) (target : ℕ) (last : Option SegmentRow) (rows : List SegmentRow)
    → IsAddress base → All HasRange rows → All (λ n. n ≤ target) (map seconds_of rows)
    → All (IsEntry target) (entries_behind base last rows)
entries_are base target last [] is ranges most = All-nil (IsEntry target)
entries_are base target last (row ∷ rows) is ranges most =
    let range = All-head HasRange row rows ranges in
    let first = All-head (λ n. n ≤ target) (seconds_of row) (map seconds_of rows) most in
    let later = All-tail (λ n. n ≤ target) (seconds_of row) (map seconds_of rows) most in
    All-cons (IsEntry target) (entry_of base last row) (entries_behind base (Some row) rows)
    (entry_is base target last row is range first)
    (entries_are base target (Some row) rows is (All-tail HasRange row rows ranges) later)

-- no segment lasts longer than the longest duration
seconds_within : (row : SegmentRow) → HasRange row → seconds_of row ≤ rounded longest
seconds_within row is = let within = duration_within row.segment.range is in omega arith

-- which serves as a target
longest_serves : (rows : List SegmentRow) → All HasRange rows
    → Serves (map seconds_of rows) (rounded longest)
longest_serves rows ranges = record {
  some = omega arith;
  most = All-map (λ n. n ≤ rounded longest) seconds_of rows
      (All-weaker HasRange (λ row. seconds_of row ≤ rounded longest) seconds_within rows ranges);
}

-- nothing breaks off before the first entry
first_unbroken : (base : List ℕ) (rows : List SegmentRow)
    → IfSome (slice_get (entries_behind base None rows) 0) (λ entry. entry.broken ≡ false)
first_unbroken base [] = tt
first_unbroken base (row ∷ rows) = refl

-- so the listing is one
pub listing_is : (base : List ℕ) (rows : List SegmentRow) → IsAddress base → All HasRange rows
    → IsListing (listing_of base rows)
listing_is base rows is ranges =
    let target = least_target (map seconds_of rows) in
    let least = targets_least (map seconds_of rows) in
    let most = least.lowest (rounded longest) (longest_serves rows ranges) in
    record {
      least = omega (arith, least.serves.some);
      most = omega (arith, most);
      entries = entries_are base target None rows is ranges least.serves.most;
      first = first_unbroken base rows;
    }
