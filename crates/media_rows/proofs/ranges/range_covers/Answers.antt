-- Both tests decide whether each point of the inner range is in the outer.
use Rattle.std.proofs.lemmas.Bool.Decides.{same_from_decides}
use Rattle.media_rows.proofs.RangeLemmas.{covers_decides}
use Rattle.media_rows.proofs.ranges.range_covers.Goals as goal

pub returns-clause-test : goal.returns-clause-test
returns-clause-test c =
    same_from_decides _ _ (c.covers.ensures.0, c.covers.ensures.1) (covers_decides _ _ c.range_is_sound.ensures c.range_is_sound-2.ensures)
