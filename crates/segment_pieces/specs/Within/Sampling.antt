-- What is said of the samples of a piece, before there is the piece. No public clause cites it.
use Rattle.media_rows.specs.declared.segment.Segment.{Segment}
use Rattle.segment_pieces.specs.declared.sampling.Sampling.{Sampling}

-- a segment of whose samples this is said
abbrev pub with_sampling : Sampling → Segment → Segment
with_sampling sampling segment = record segment {
  last_duration = sampling.last_duration;
  sample_offset = sampling.sample_offset;
  sample_count = sampling.sample_count;
  key_frames = sampling.key_frames;
}
