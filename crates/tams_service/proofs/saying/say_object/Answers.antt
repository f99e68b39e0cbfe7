use Rattle.std.proofs.Common.{false, true, arith, ◌∙◌}
use Rattle.std.proofs.lemmas.List.{length-take-le}
use Rattle.tams_service.proofs.Objects.{keeps_part, said_first, said_more, said_part}
use Rattle.tams_service.proofs.saying.say_object.Goals as goal

pub pieces-init : goal.pieces-init
pieces-init g c = said_first _ _ _ c.requires.unspent

-- the room is that of the largest piece
pub pieces-preserved : goal.pieces-preserved
pieces-preserved g c =
    let piece = c.in-All.ensures in
    let size = length-take-le c.min-count.result c.pieces.room (omega (arith, c.min-count.ensures, c.pieces.auto.room, c.requires.room)) in
    said_more _ _ _ _ _ _ _ _ _ c.pieces.invariant _ _ (omega (arith, size)) (omega (arith, c.min-count.ensures, c.pieces-test.true)) piece.spent piece.kept
    piece.put piece.calls piece.seen piece.says piece.keeps

pub returns-in-Unlinked-clause-says : goal.returns-in-Unlinked-clause-says
returns-in-Unlinked-clause-says g c = said_part _ _ _ _ _ _ _ _ _ c.pieces.invariant false c.in-Unlinked.ensures.says

pub returns-in-Failed-clause-says : goal.returns-in-Failed-clause-says
returns-in-Failed-clause-says g c = said_part _ _ _ _ _ _ _ _ _ c.pieces.invariant true c.in-Failed.ensures.says

pub returns-in-Unlinked-clause-keeps : goal.returns-in-Unlinked-clause-keeps
returns-in-Unlinked-clause-keeps g c = keeps_part _ _ _ _ _ _ _ _ c.pieces.invariant c.in-Unlinked.ensures.keeps

pub returns-in-Failed-clause-keeps : goal.returns-in-Failed-clause-keeps
returns-in-Failed-clause-keeps g c = keeps_part _ _ _ _ _ _ _ _ c.pieces.invariant c.in-Failed.ensures.keeps

-- the put that is under way stays
pub returns-in-Unlinked-clause-put : goal.returns-in-Unlinked-clause-put
returns-in-Unlinked-clause-put g c = c.in-Unlinked.ensures.put ∙ c.pieces.invariant.put_is

pub returns-in-Failed-clause-put : goal.returns-in-Failed-clause-put
returns-in-Failed-clause-put g c = c.in-Failed.ensures.put ∙ c.pieces.invariant.put_is

pub returns-clause-put : goal.returns-clause-put
returns-clause-put g c = c.pieces.invariant.put_is
