use Rattle.std.proofs.Common.{ap, drop, arith}
use Rattle.media_book.proofs.Removals.{removing_done, removing_more, removing_row, removing_starts}
use Rattle.media_book.proofs.Serials.{next_is, none_left}
use Rattle.media_book.proofs.book.MediaBook.remove.Goals as goal

pub loop-row-init : goal.loop-row-init
loop-row-init c = removing_starts c.args.now c.args.self.now.media c.in_ok-media.media.media c.args.rows.now (ap (λ m. m.media) c.in_ok-media.ensures) c.requires.some

-- the next segment is there
pub without_row-requires : goal.without_row-requires
without_row-requires c = record {
  there = removing_row c.args.now c.args.self.now.media c.loop-row.media.media c.args.rows.now _ _ c.row-item.result c.loop-row.invariant
      (next_is c.args.rows.now c.loop-row.row-index c.row-item.result c.loop-row-test.true c.row-item.is);
}

pub loop-row-preserved : goal.loop-row-preserved
loop-row-preserved c =
    removing_more c.args.now c.args.self.now.media c.loop-row.media.media c.in_ok-media-2.media.media c.args.rows.now _ _ c.row-item.result c.loop-row.invariant
    (next_is c.args.rows.now c.loop-row.row-index c.row-item.result c.loop-row-test.true c.row-item.is) c.in_ok-media-2.ensures

-- all went
pub returns : goal.returns
returns c =
    removing_done c.args.now c.args.self.now.media c.loop-row.media.media c.args.rows.now (drop c.loop-row.row-index c.args.rows.now) c.loop-row.invariant
    (none_left c.args.rows.now c.loop-row.row-index (omega (arith, c.loop-row-test.false)))
