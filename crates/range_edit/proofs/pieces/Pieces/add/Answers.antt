use Rattle.std.proofs.lemmas.Result.{on_ok_weaker}
use Rattle.range_edit.proofs.PieceLemmas.{adds_dropped, adds_kept}
use Rattle.range_edit.proofs.pieces.Pieces.add.Goals as goal

-- There is room.
pub returns-then-items-lt-MOST_PIECES : goal.returns-then-items-lt-MOST_PIECES
returns-then-items-lt-MOST_PIECES c =
    let room = rw c.items.ensures at c.if-items-lt-MOST_PIECES.true in
    on_ok_weaker c.push.result (λ pushed t is rated near before has.
    adds_kept before t c.args.self.now has c.args.piece c.push.new.self is rated near room
    c.push.ensures.single pushed) c.push.ensures.ok

-- There are as many as may be.
pub returns-else-items-lt-MOST_PIECES : goal.returns-else-items-lt-MOST_PIECES
returns-else-items-lt-MOST_PIECES c t is rated near before has =
    adds_dropped before t c.args.self.now has rated near
    (rw c.items.ensures at c.if-items-lt-MOST_PIECES.false)
