use Rattle.std.proofs.Common.{◌≡◌, true, ap, subst, sym, ◌∙◌}
use Rattle.std.specs.Prelude.{option_map}
use Rattle.media_rows.specs.declared.refusal.Refusal.TheVariants.{Overlap}
use Rattle.media_rows.specs.Lists.{inserted, placed}
use Rattle.media_rows.specs.Segments.{starts_before}
use Rattle.media_rows.specs.Snapshot.{older}
use Rattle.segment_index.specs.Answers.{first_met}
use Rattle.segment_book.specs.Answers.{is_new, meeting_refusal}
use Rattle.segment_book.proofs.Serials.{ends_told}
use Rattle.segment_book.proofs.Views.{book_with, is_other, meeting_is, same_refusal, view_with}
use Rattle.segment_book.proofs.book.SegmentBook.insert.Goals as goal

-- the serial is new, and the segment stands at its place in the flow
pub invariant_of-result : goal.invariant_of-result
invariant_of-result c =
    let flows = c.self.inside.flows in
    let row = c.args.row in
    let other = is_other row flows (subst (λ rows. is_new rows row ≡ true) (sym c.self.view_is) c.requires.new) in
    let placed_in = c.in-Ok.ensures.1 ∙ ap (placed starts_before row) c.in_ok-old.ensures in
    book_with row flows c.self.inside.count c.keys_rise.ensures c.self.invariant other c.in-Ok.next c.in_ok-with_row-in-Ok.field-0 c.in_ok-count.count placed_in
    c.is_in_order.ensures.starts (ends_told c.in-Ok.next c.is_in_order.ensures.bounded) c.in_ok-with_row-in-Ok.ensures c.in_ok-count.ensures

pub returns-in-Ok : goal.returns-in-Ok
returns-in-Ok c =
    let flows = c.self.inside.flows in
    let row = c.args.row in
    let other = is_other row flows (subst (λ rows. is_new rows row ≡ true) (sym c.self.view_is) c.requires.new) in
    let placed_in = c.in-Ok.ensures.1 ∙ ap (placed starts_before row) c.in_ok-old.ensures in (
      ap (λ rows. meeting_refusal rows row) (sym c.self.view_is)
          ∙ meeting_is row flows c.self.inside.count c.keys_rise.ensures c.self.invariant
          ∙ ap (λ rows. option_map Overlap (first_met rows row.segment.range)) (sym c.in_ok-old.ensures) ∙ c.in-Ok.ensures.0,
      view_with row flows c.self.inside.count c.keys_rise.ensures c.self.invariant other c.in-Ok.next c.in_ok-with_row-in-Ok.field-0 placed_in
          c.in_ok-with_row-in-Ok.ensures ∙ ap (inserted older row) c.self.view_is,
    )

-- the index tells the first one that overlaps
pub returns : goal.returns
returns c =
    let row = c.args.row in
    same_refusal (option_map Overlap (first_met c.in_ok-old.old row.segment.range)) (meeting_refusal c.args.self.now row)
    (placed starts_before row c.in_ok-old.old) (inserted older row c.args.self.now) c.in-Err.fault
    (ap (λ rows. meeting_refusal rows row) (sym c.self.view_is)
    ∙ meeting_is row c.self.inside.flows c.self.inside.count c.keys_rise.ensures c.self.invariant
    ∙ ap (λ rows. option_map Overlap (first_met rows row.segment.range)) (sym c.in_ok-old.ensures))
    c.in-Err.ensures
