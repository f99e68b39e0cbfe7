use Rattle.std.proofs.Common.{drop, arith}
use Rattle.object_refs.specs.References.{objects_in}
use Rattle.media_book.proofs.Serials.{next_is, none_left}
use Rattle.media_book.proofs.Sweeping.{freeing_done, freeing_more, freeing_row, freeing_starts}
use Rattle.media_book.proofs.sweeps.freed.Goals as goal

pub loop-row-init : goal.loop-row-init
loop-row-init c = freeing_starts (objects_in c.args.objects.now.kept) c.args.space.now _ c.args.bytes c.args.gone.now c.in_ok-share.ensures c.requires.held
    c.requires.some c.is_in_order.ensures.serials

-- the next object is there
pub without_bytes-requires : goal.without_bytes-requires
without_bytes-requires c = record {
  kept = freeing_row (objects_in c.args.objects.now.kept) c.args.space.now.blocks c.loop-row.left.space c.loop-row.left.bytes c.args.gone.now _ _
      c.row-item.result c.loop-row.invariant
      (next_is c.args.gone.now c.loop-row.row-index c.row-item.result c.loop-row-test.true c.row-item.is);
}

pub loop-row-preserved : goal.loop-row-preserved
loop-row-preserved c =
    freeing_more (objects_in c.args.objects.now.kept) c.args.space.now.blocks c.loop-row.left.space c.in_ok-left.left.space c.loop-row.left.bytes
    c.in_ok-left.left.bytes c.args.gone.now _ _ c.row-item.result c.loop-row.invariant
    (next_is c.args.gone.now c.loop-row.row-index c.row-item.result c.loop-row-test.true c.row-item.is) c.in_ok-left.ensures

-- all went
pub returns-clause-held : goal.returns-clause-held
returns-clause-held c =
    (freeing_done (objects_in c.args.objects.now.kept) c.args.space.now.blocks c.loop-row.left.space c.loop-row.left.bytes c.args.gone.now
    (drop c.loop-row.row-index c.args.gone.now) c.loop-row.invariant
    (none_left c.args.gone.now c.loop-row.row-index (omega (arith, c.loop-row-test.false)))).0

pub returns-clause-blocks : goal.returns-clause-blocks
returns-clause-blocks c =
    (freeing_done (objects_in c.args.objects.now.kept) c.args.space.now.blocks c.loop-row.left.space c.loop-row.left.bytes c.args.gone.now
    (drop c.loop-row.row-index c.args.gone.now) c.loop-row.invariant
    (none_left c.args.gone.now c.loop-row.row-index (omega (arith, c.loop-row-test.false)))).1
