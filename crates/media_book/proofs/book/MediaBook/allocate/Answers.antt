use Rattle.std.proofs.Common.{ap, ◌+◌, ◌∷◌, [], drop, subst, arith}
use Rattle.media_book.specs.Media.{with_allocated}
use Rattle.media_book.specs.Within.Ties.{Allocating}
use Rattle.media_book.proofs.Allocations.{allocating_fails, allocating_more, allocating_starts}
use Rattle.media_book.proofs.Serials.{next_is}
use Rattle.media_book.proofs.book.MediaBook.allocate.Goals as goal

pub loop-index-init : goal.loop-index-init
loop-index-init c = allocating_starts c.args.serial _ c.args.now c.args.self.now.media c.in_ok-media.media.media c.args.ids.now (omega arith) (ap (λ m. m.media) c.in_ok-media.ensures)
    c.requires.above

-- the next id stands first among those that are left
pub loop-index-preserved : goal.loop-index-preserved
loop-index-preserved c =
    let shape = next_is c.args.ids.now c.loop-index.index c.index-ids-index.result c.loop-index-test.true c.index-ids-index.is in
    subst (λ n. Allocating c.args.serial n c.args.now c.args.self.now.media c.in-Ok.next.media c.args.ids.now (drop (c.loop-index.index + 1) c.args.ids.now))
    (omega arith)
    (allocating_more c.args.serial (c.args.serial + c.loop-index.index) c.args.now c.args.self.now.media c.loop-index.media.media c.in-Ok.next.media c.args.ids.now
    (drop c.loop-index.index c.args.ids.now) (drop (c.loop-index.index + 1) c.args.ids.now) c.index-ids-index.result c.loop-index.invariant shape
    c.in-Ok.ensures.0 c.in-Ok.ensures.1)

pub returns-in-Err : goal.returns-in-Err
returns-in-Err c =
    let shape = next_is c.args.ids.now c.loop-index.index c.index-ids-index.result c.loop-index-test.true c.index-ids-index.is in
    allocating_fails c.args.serial (c.args.serial + c.loop-index.index) c.args.now c.args.self.now.media c.loop-index.media.media
    (with_allocated (c.args.serial + c.loop-index.index) c.args.now (c.index-ids-index.result ∷ []) c.loop-index.media.media) c.args.ids.now
    (drop c.loop-index.index c.args.ids.now) (drop (c.loop-index.index + 1) c.args.ids.now) c.index-ids-index.result c.in-Err.fault c.loop-index.invariant shape
    c.in-Err.ensures
