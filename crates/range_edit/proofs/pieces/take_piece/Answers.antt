use Rattle.std.proofs.Common.{refl}
use Rattle.range_edit.specs.Within.Cutting.{taking_by}
use Rattle.segment_pieces.specs.Pieces.{NeedsRate}
use Rattle.range_edit.proofs.PieceLemmas.{SomeOf-one, adds_far, takes_by}
use Rattle.range_edit.proofs.pieces.take_piece.Goals as goal

-- The piece wants a rate.
pub returns-in-Err-NoRate-clause-fault : goal.returns-in-Err-NoRate-clause-fault
returns-in-Err-NoRate-clause-fault c =
    SomeOf-one NeedsRate (taking_by c.args.clip.now c.args.segment.now)
    ((rw c.in-Err-NoRate.field-0-is at c.in-Err-NoRate.ensures.no_rate).0 refl)

-- The piece is added.
pub returns-in_ok-add-in-Ok-clause-taken : goal.returns-in_ok-add-in-Ok-clause-taken
returns-in_ok-add-in-Ok-clause-taken c =
    takes_by c.args.clip.now c.args.segment.now c.in-Ok.piece _ c.args.pieces.now c.add.new.self
    refl c.in-Ok.ensures.piece
    c.in-Ok.ensures.no_rate.1 c.in-Ok.ensures.too_far.1 c.in_ok-add-in-Ok.ensures

-- The piece would go too far.
pub returns-in-Err-TooFar-clause-taken : goal.returns-in-Err-TooFar-clause-taken
returns-in-Err-TooFar-clause-taken c before has =
    let far = (rw c.in-Err-TooFar.field-0-is at c.in-Err-TooFar.ensures.too_far).0 refl in
    adds_far before (taking_by c.args.clip.now c.args.segment.now) c.args.pieces.now has far.1 far.0
