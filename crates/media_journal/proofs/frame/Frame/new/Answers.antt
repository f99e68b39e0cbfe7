use Rattle.std.proofs.Common.{ap, ◌∙◌}
use Rattle.media_journal.specs.Journal.{framed}
use Rattle.media_journal.proofs.FrameLemmas.{is_frame, framed-frame_text}
use Rattle.media_journal.proofs.frame.Frame.new.Goals as goal

-- The bytes are those of the payload's frame, and a frame's payload is between its length and its gate.
pub invariant_of-result : goal.invariant_of-result
invariant_of-result c = rw c.in_ok-bytes.ensures (is_frame c.args.payload.now c.requires.some c.requires.short)

pub returns : goal.returns
returns c = ap framed c.in_ok-bytes.ensures ∙ framed-frame_text c.args.payload.now
