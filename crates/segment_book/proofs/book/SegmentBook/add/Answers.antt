use Rattle.std.proofs.Common.{subst}
use Rattle.media_rows.specs.Refusals.{IsChange}
use Rattle.segment_book.specs.Answers.{meeting_refusal}
use Rattle.segment_book.proofs.Views.{above_is_new, put_behind}
use Rattle.segment_book.proofs.book.SegmentBook.add.Goals as goal

-- what stands above all others is new
pub insert-requires-clause-new : goal.insert-requires-clause-new
insert-requires-clause-new c = above_is_new c.args.row c.args.self.now c.requires.above

-- and stands last
pub returns : goal.returns
returns c =
    subst (λ next. IsChange (meeting_refusal c.args.self.now c.args.row) next c.insert.result)
    (put_behind c.args.row c.args.self.now c.requires.above) c.insert.ensures
