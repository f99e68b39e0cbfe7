use Rattle.std.proofs.Common.{arith}
use Rattle.tams_service.proofs.Taken.{begun_of, keeps_so, left_now, put_inside, taken_ended, taken_failed, taken_filled, taken_first, taken_more, taken_unheard, taken_whole}
use Rattle.tams_service.proofs.body.take_body.Goals as goal

pub pieces-init : goal.pieces-init
pieces-init g c = taken_first _ _ _ _ _ _ c.begin.ensures.put c.begin.ensures.kept c.begin.ensures.spent c.requires.put

pub begin-requires-clause-of_store : goal.begin-requires-clause-of_store
begin-requires-clause-of_store g c = begun_of _ _ _ c.requires.put

pub take_piece-requires-clause-left : goal.take_piece-requires-clause-left
take_piece-requires-clause-left g c =
    let left = left_now _ _ _ _ _ _ _ _ _ _ c.pieces.invariant c.requires.stage in
    omega (arith, left, c.pieces-test.true)

pub take_piece-requires-clause-inside : goal.take_piece-requires-clause-inside
take_piece-requires-clause-inside g c =
    rw (left_now _ _ _ _ _ _ _ _ _ _ c.pieces.invariant c.requires.stage)
    (put_inside _ _ _ _ _ c.pieces.invariant.has c.pieces.invariant.sum)

pub overflow_sub-left : goal.overflow_sub-left
overflow_sub-left g c =
    let piece = c.in-Of.ensures.takes in
    let left = left_now _ _ _ _ _ _ _ _ _ _ c.pieces.invariant c.requires.stage in
    omega (arith, left, piece.takes.few, piece.comes.1)

pub pieces-preserved : goal.pieces-preserved
pieces-preserved g c =
    let piece = c.in-Of.ensures.takes in
    let left = left_now _ _ _ _ _ _ _ _ _ _ c.pieces.invariant c.requires.stage in
    taken_more _ _ _ _ _ _ _ _ _ _ _ _ _ c.pieces.invariant _ c.in-Of.count (g.met.X.Disk.sound c.pieces.site) (g.met.X.Disk.sound c.take_piece.new.site)
    piece c.in-Of.ensures.calls c.in-Of.ensures.keeps (omega (arith, left, piece.takes.few, piece.comes.1)) c.in-Of.ensures.kept c.in-Of.ensures.spent

pub returns-in-Ended-clause-takes : goal.returns-in-Ended-clause-takes
returns-in-Ended-clause-takes g c = taken_ended _ _ _ _ _ _ _ _ _ _ _ _ _ c.pieces.invariant c.in-Ended.ensures.takes c.pieces-test.true

pub returns-in-Unheard-clause-takes : goal.returns-in-Unheard-clause-takes
returns-in-Unheard-clause-takes g c = taken_unheard _ _ _ _ _ _ _ _ _ _ _ _ _ c.pieces.invariant c.in-Unheard.ensures.takes c.pieces-test.true

pub returns-in-Failed-clause-takes : goal.returns-in-Failed-clause-takes
returns-in-Failed-clause-takes g c = taken_failed _ _ _ _ _ _ _ _ _ _ _ _ _ c.pieces.invariant c.in-Failed.ensures.takes

pub returns-in-Ended-clause-keeps : goal.returns-in-Ended-clause-keeps
returns-in-Ended-clause-keeps g c = keeps_so _ _ _ _ _ _ _ _ _ _ _ c.pieces.invariant c.in-Ended.ensures.keeps

pub returns-in-Unheard-clause-keeps : goal.returns-in-Unheard-clause-keeps
returns-in-Unheard-clause-keeps g c = keeps_so _ _ _ _ _ _ _ _ _ _ _ c.pieces.invariant c.in-Unheard.ensures.keeps

pub returns-in-Failed-clause-keeps : goal.returns-in-Failed-clause-keeps
returns-in-Failed-clause-keeps g c = keeps_so _ _ _ _ _ _ _ _ _ _ _ c.pieces.invariant c.in-Failed.ensures.keeps

pub returns-clause-takes : goal.returns-clause-takes
returns-clause-takes g c = taken_whole _ _ _ _ _ _ _ _ _ _ c.pieces.invariant c.pieces-test.false

pub returns-clause-filled : goal.returns-clause-filled
returns-clause-filled g c = λ whole. taken_filled _ _ _ _ _ _ _ _ _ _ c.pieces.invariant c.pieces-test.false
