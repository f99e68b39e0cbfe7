use Rattle.std.proofs.Common.{length, ap, ◌∙◌}
use Rattle.segment_book.proofs.Views.{length_is}
use Rattle.segment_book.proofs.book.SegmentBook.len.Goals as goal

-- the count is kept
pub returns : goal.returns
returns c = length_is c.self.inside.flows c.self.inside.count c.self.invariant ∙ ap length c.self.view_is
