-- Both tests decide whether a point is in both.
use Rattle.std.proofs.lemmas.Bool.Decides.{same_from_decides}
use Rattle.media_rows.proofs.RangeLemmas.{overlaps_decides}
use Rattle.media_rows.proofs.ranges.range_overlaps.Goals as goal

pub returns-clause-test : goal.returns-clause-test
returns-clause-test c =
    same_from_decides _ _ (c.overlaps.ensures.0, c.overlaps.ensures.1) (overlaps_decides _ _ c.range_is_sound.ensures c.range_is_sound-2.ensures)
