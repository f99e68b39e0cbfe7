-- The text of a snapshot, from the texts of its parts.
use Rattle.std.proofs.Common.{ℕ, List, [], ◌∷◌, ◌++◌, map, inl, inr, sym, subst}
use Rattle.std.specs.List.{AllByRecursion}
use Rattle.time_range.specs.Points.{IsRange}
use Rattle.disk_trait.specs.Forms.{form_in_use}
use Rattle.media_rows.specs.declared.row.Row.{Row}
use Rattle.media_rows.specs.declared.row.Row.TheVariants as rows
use Rattle.media_rows.specs.declared.segment.SegmentRow.{SegmentRow}
use Rattle.media_rows.specs.Good.{Good}
use Rattle.media_rows.specs.Library.{Library}
use Rattle.media_rows.specs.Lists.{in_order}
use Rattle.media_rows.specs.Snapshot.{rows_of, segment_row_before}
use Rattle.change_codec.specs.Rows.{row_spelling, segment_row_spelling}
use Rattle.change_codec.specs.Values.{segment_spelling}
use Rattle.field_codec.specs.Leaves.{range_spelling}
use Rattle.snapshot_rows.specs.Texts.{SpellsRows}
use Rattle.core_rows.specs.Texts.{AddsRows}
use Rattle.library_laws.proofs.ListLemmas.{In, In-from_Contains, in_order-In}
use Rattle.library_laws.specs.Laws.{HaveRanges}
use Rattle.library_laws.specs.RowLaws.{RowsRise}

-- ---- the order of rows

-- the range of a segment that has a spelling is one
segment_ranges : (row : SegmentRow) → (row_spelling form_in_use).meaning.fits (rows.Segment row) → IsRange row.segment.range
unfolding row_spelling segment_row_spelling segment_spelling range_spelling
segment_ranges row fits = search

each_ranges : (segments : List SegmentRow) → AllByRecursion (row_spelling form_in_use).meaning.fits (map rows.Segment segments) → (row : SegmentRow)
    → In row segments → IsRange row.segment.range
each_ranges [] fits row here = absurd here
each_ranges (first ∷ later) fits row (inl same) = subst (λ (r : SegmentRow). IsRange r.segment.range) (sym same) (segment_ranges first fits.0)
each_ranges (first ∷ later) fits row (inr there) = each_ranges later fits.1 row there

front_fits : (xs ys : List Row) → AllByRecursion (row_spelling form_in_use).meaning.fits (xs ++ ys) → AllByRecursion (row_spelling form_in_use).meaning.fits xs
front_fits [] ys fits = tt
front_fits (x ∷ xs) ys fits = (fits.0, front_fits xs ys fits.1)

back_fits : (xs ys : List Row) → AllByRecursion (row_spelling form_in_use).meaning.fits (xs ++ ys) → AllByRecursion (row_spelling form_in_use).meaning.fits ys
back_fits [] ys fits = fits
back_fits (x ∷ xs) ys fits = back_fits xs ys fits.1

-- the rows of a good library that were written as text are spelled by it in their order
pub snapshot : RowsRise → (library : Library) → Good library → (text : List ℕ) → AddsRows [] (rows_of library) text
    → SpellsRows form_in_use text (rows_of library)
snapshot rise library good text written =
    let a = map rows.Source library.catalog.sources ++ map rows.Flow library.catalog.flows ++ map rows.Object library.objects in
    let s = map rows.Segment (in_order segment_row_before library.segments) in
    let r = map rows.Request library.requests in
    let h = map rows.Hook library.outbox.hooks in
    let e = map rows.Event library.outbox.events in
    let n = rows.Numbers library.next_serial ∷ [] in
    let fits = back_fits a s (front_fits (a ++ s) r (front_fits ((a ++ s) ++ r) h (front_fits (((a ++ s) ++ r) ++ h) e
    (front_fits ((((a ++ s) ++ r) ++ h) ++ e) n written.fit)))) in
    let ranges : HaveRanges library.segments = λ row here.
    each_ranges (in_order segment_row_before library.segments) fits row
    (in_order-In segment_row_before library.segments row (In-from_Contains library.segments row here)) in
    record { fit = written.fit; spelled = written.text; rising = rise library good ranges }
