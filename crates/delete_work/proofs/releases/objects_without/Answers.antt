use Rattle.std.proofs.Common.{ap}
use Rattle.delete_work.proofs.Released.{next_is, releasing_more, releasing_row, releasing_starts}
use Rattle.delete_work.proofs.releases.objects_without.Goals as goal

pub loop-row-init : goal.loop-row-init
loop-row-init c = releasing_starts c.args.flow c.args.now c.args.objects.now.kept c.in_ok-next.next.kept c.args.rows.now c.requires.flow c.requires.references
    (ap (λ book. book.kept) c.in_ok-next.ensures)

-- the next segment's reference is there
pub released-requires : goal.released-requires
released-requires c = record {
  there = releasing_row c.args.flow c.args.now c.args.objects.now.kept c.loop-row.next.kept c.args.rows.now _ _ c.row-item.result c.loop-row.invariant
      (next_is c.args.rows.now c.loop-row.row-index c.row-item.result c.loop-row-test.true c.row-item.is);
}

pub loop-row-preserved : goal.loop-row-preserved
loop-row-preserved c =
    releasing_more c.args.flow c.args.now c.args.objects.now.kept c.loop-row.next.kept c.in_ok-next-2.next.kept c.args.rows.now _ _ c.row-item.result
    c.is_in_order.ensures.ids c.loop-row.invariant
    (next_is c.args.rows.now c.loop-row.row-index c.row-item.result c.loop-row-test.true c.row-item.is) c.in_ok-next-2.ensures.book
    c.in_ok-next-2.ensures.idle
