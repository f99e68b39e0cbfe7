-- Segments that are added page by page, as those of one list.
use Rattle.std.proofs.Common.{◌≡◌, ◌∙◌, List, [], ◌∷◌, ◌++◌, ℕ, ℤ, true, false, filter, take, refl, sym, ap, subst, Option, Some, None, is_some}
use Rattle.std.proofs.lemmas.List.Elements.{filter-append}
use Rattle.std.proofs.lemmas.List.{append_assoc, append-nil}
use Rattle.media_rows.specs.declared.segment.SegmentRow.{SegmentRow}
use Rattle.media_rows.specs.Library.{Library}
use Rattle.media_rows.specs.Segments.{overlapping}
use Rattle.time_range.specs.declared.ranges.Span.{Span}
use Rattle.hls_manifest.specs.Entries.{is_whole, whole_objects}
use Rattle.hls_manifest.specs.Manifests.{IsManifestOf, ManifestSeen}
use Rattle.segment_pages.specs.Pages.{IsRead, left_behind, segments_behind}
use Rattle.segment_pages.specs.declared.reading.SegmentsRead.{SegmentsRead}

-- a test that all pass leaves a list whole
pub all_pass : {X : Type 0} (xs : List X) → filter (λ x. true) xs ≡ xs
all_pass [] = refl
all_pass (x ∷ xs) = ap (λ l. x ∷ l) (all_pass xs)

-- from the first page on all segments are left
pub from_the_first : (library : Library) (flow : ℕ) (range : Option Span)
    → segments_behind library flow range None ≡ overlapping library.segments flow range None
from_the_first library flow range = all_pass (overlapping library.segments flow range None)

-- a manifest has the whole objects of all segments but those that are left behind a point
pub record HasGathered (library : Library) (flow : ℕ) (range : Option Span) (after : Option ℤ) (manifest : ManifestSeen) : Type 0 where
  pub done : List SegmentRow
  pub named : IsManifestOf (filter (is_whole range) done) manifest
  pub split : overlapping library.segments flow range None ≡ done ++ segments_behind library flow range after

pub gathers_nothing : (library : Library) (flow : ℕ) (range : Option Span) (manifest : ManifestSeen) → IsManifestOf [] manifest
    → HasGathered library flow range None manifest
gathers_nothing library flow range manifest empty = record { done = []; named = empty; split = sym (from_the_first library flow range) }

-- what adding some rows leaves of a manifest
abbrev pub AddsRows : Option Span → List SegmentRow → ManifestSeen → ManifestSeen → Type 0
AddsRows range rows old new = (before : List SegmentRow) → IsManifestOf before old → IsManifestOf (before ++ filter (is_whole range) rows) new

none_is : (next : Option ℤ) → is_some next ≡ false → next ≡ None
none_is None e = refl
none_is (Some k) e = absurd (cc)

module _ (library : Library) (flow : ℕ) (range : Option Span) (after : Option ℤ) (read : SegmentsRead) (rows : List SegmentRow)
    (old new : ManifestSeen) where
  -- a page more
  more : (has : HasGathered library flow range after old) → rows ≡ read.rows → AddsRows range (take read.count rows) old new
      → IsManifestOf (filter (is_whole range) (has.done ++ take read.count read.rows)) new
  more has same adds = subst (λ l. IsManifestOf l new) (sym (filter-append (is_whole range) has.done (take read.count read.rows)))
      (subst (λ l. IsManifestOf (filter (is_whole range) has.done ++ filter (is_whole range) (take read.count l)) new) same
      (adds (filter (is_whole range) has.done) has.named))

  pub gathers_all : HasGathered library flow range after old → IsRead library flow range after read → is_some read.next ≡ false → rows ≡ read.rows
      → AddsRows range (take read.count rows) old new → IsManifestOf (whole_objects library.segments flow range) new
  gathers_all has is last same adds =
      let behind : segments_behind library flow range after ≡ take read.count read.rows =
      is.follows ∙ (ap (λ (o : Option ℤ). take read.count read.rows ++ left_behind library flow range o) (none_is read.next last) ∙ append-nil (take read.count read.rows)) in
      subst (λ l. IsManifestOf (filter (is_whole range) l) new) (sym (has.split ∙ ap (λ l. has.done ++ l) behind)) (more has same adds)

  pub gathers_more : HasGathered library flow range after old → IsRead library flow range after read → is_some read.next ≡ true → rows ≡ read.rows
      → AddsRows range (take read.count rows) old new → HasGathered library flow range read.next new
  gathers_more has is there same adds = record {
    done = has.done ++ take read.count read.rows;
    named = more has same adds;
    split = has.split ∙ (ap (λ l. has.done ++ l) (is.follows ∙ ap (λ l. take read.count read.rows ++ l) (left_over read.next there))
        ∙ sym (append_assoc has.done (take read.count read.rows) (segments_behind library flow range read.next)));
  }
    where
      left_over : (next : Option ℤ) → is_some next ≡ true → left_behind library flow range next ≡ segments_behind library flow range next
      left_over None e = absurd (cc)
      left_over (Some k) e = refl
