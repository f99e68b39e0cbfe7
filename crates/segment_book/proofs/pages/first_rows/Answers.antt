use Rattle.std.proofs.Common.{sym}
use Rattle.std.specs.Borrow.{Bor}
use Rattle.std.proofs.lemmas.List.{take-map}
use Rattle.media_rows.specs.declared.segment.SegmentRow.{SegmentRow}
use Rattle.segment_book.proofs.pages.first_rows.Goals as goal

-- the first of the values
pub returns-then-limit-rows : goal.returns-then-limit-rows
returns-then-limit-rows c = sym (take-map (λ (r : Bor SegmentRow). r.now) c.args.limit c.args.rows.now)
