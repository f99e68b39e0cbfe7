-- Laws of playlists.
use Rattle.std.specs.Prelude.{◌≡◌, ◌≢◌, ◌≤◌, ◌↔◌, ◌==◌, ℕ, Bool, true, ◌&&◌, List, All, Contains, Option, filter}
use Rattle.std.specs.List.Sorted.{IsPermutation}
use Rattle.media_rows.specs.declared.segment.SegmentRow.{SegmentRow}
use Rattle.media_rows.specs.Ranges.{covers}
use Rattle.time_range.specs.Points.{IsRange}
use Rattle.time_range.specs.declared.ranges.Span.{Span}
use Rattle.hls_manifest.specs.declared.listing.Listing.{Listing}
use Rattle.hls_manifest.specs.Entries.{duration_of, is_whole, least_target, listing_of, whole_objects}
use Rattle.hls_manifest.specs.Playlists.{IsAddress, IsListing, Spells}

-- a text spells one listing at most
abbrev pub OneListing : Type 0
OneListing = (text : List ℕ) → (a b : Listing) → Spells text a → Spells text b → a ≡ b

-- a target that isn't 0 and that none of the numbers exceeds
pub record Serves (numbers : List ℕ) (target : ℕ) : Type 0 where
  pub some : 1 ≤ target
  pub most : All (λ n. n ≤ target) numbers

-- the least target serves, and no lesser one does
pub record IsLeastTarget (numbers : List ℕ) (least : ℕ) : Type 0 where
  pub serves : Serves numbers least
  pub lowest : (target : ℕ) → Serves numbers target → least ≤ target

-- the target of numbers is that one
abbrev pub TargetsAreLeast : Type 0
TargetsAreLeast = (numbers : List ℕ) → IsLeastTarget numbers (least_target numbers)

-- the playlist of segments with ranges is a listing, behind a base that is an address
abbrev pub ListingsReadBack : Type 0
ListingsReadBack = (base : List ℕ) → (rows : List SegmentRow) → IsAddress base
    → All (λ row. IsRange row.segment.range) rows → IsListing (listing_of base rows)

-- a segment of the flow that shows a whole object within the range
pub record IsWholeObject (flow : ℕ) (range : Option Span) (row : SegmentRow) : Type 0 where
  pub of_flow : row.flow ≡ flow
  pub covered : covers range row.segment.range ≡ true
  pub from_start : row.segment.sample_offset ≡ 0
  pub lasts : duration_of row ≢ 0

-- the same as a test
abbrev pub is_whole_object : ℕ → Option Span → SegmentRow → Bool
is_whole_object flow range row = (row.flow == flow) && is_whole range row

-- of these segments just the whole objects are named, and each as often as it is there
pub record NamesWhole (segments : List SegmentRow) (flow : ℕ) (range : Option Span)
    (named : List SegmentRow) : Type 0 where
  pub these : (row : SegmentRow)
      → Contains named row ↔ (Contains segments row × IsWholeObject flow range row)
  pub as_often : IsPermutation (filter (is_whole_object flow range) segments) named

-- the segments that show whole objects are named, where each has a range
abbrev pub WholeObjectsAreNamed : Type 0
WholeObjectsAreNamed = (segments : List SegmentRow) → (flow : ℕ) → (range : Option Span)
    → All (λ row. IsRange row.segment.range) segments
    → NamesWhole segments flow range (whole_objects segments flow range)
