use Rattle.std.proofs.Common.{refl}
use Rattle.segment_pieces.proofs.PieceLemmas.{cut_passes, whole_passes}
use Rattle.segment_pieces.proofs.RangeLemmas.{part_bounded}
use Rattle.segment_pieces.proofs.piece.piece_of.Goals as goal

-- the part of a bounded segment that its clip overlaps is bounded
pub sampling_of-requires-clause-bounded : goal.sampling_of-requires-clause-bounded
sampling_of-requires-clause-bounded c =
    rw c.meet-part.ensures (part_bounded c.args.segment.now.range c.args.clip.now.range
    c.requires.bounded c.requires.overlap)

-- what is said of the samples stands in the piece
pub returns-clause-piece : goal.returns-clause-piece
returns-clause-piece c = record {
  object = c.in_ok-duplicate.ensures;
  range = rw c.meet-part.ensures at c.in-Some-moved.ensures.value;
  ts_offset = c.in-Some.ensures.value;
  whole = λ e. whole_passes c.args.segment.now _ _
      (record { offset = refl; count = refl; key_frames = refl; last = refl })
      (c.in_ok-sampling.ensures.whole e);
  cut = λ e. cut_passes c.args.clip.now.rate _ c.args.segment.now _ _
      (record { offset = refl; count = refl; key_frames = refl; last = refl })
      (rw c.meet-part.ensures at (c.in_ok-sampling.ensures.cut e));
}
