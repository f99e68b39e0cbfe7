use Rattle.std.proofs.Common.{◌-◌, ◌≤◌, length}
use Rattle.std.specs.Vec.{vec_capacity}
use Rattle.http_wire.specs.Framing.{max_body}
use Rattle.http_wire.specs.Within.Reading.{IsReached}
use Rattle.http_wire.proofs.chunks.read_chunks.Given as goal

-- it was read so far, and the room for the body stays
abbrev pub invariant-chunks : goal.invariant-chunks
invariant-chunks l = record {
  reached : IsReached l.bytes l.body.items l.progress;
  room : max_body ≤ vec_capacity l.body;
}

abbrev pub decreases-chunks : goal.decreases-chunks
decreases-chunks l = length l.bytes - l.progress.at
