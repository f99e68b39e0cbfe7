use Rattle.std.proofs.Common.{drop}
use Rattle.http_wire.specs.Chunks.{coded_front}
use Rattle.http_wire.proofs.Reaching.{Reached_start}
use Rattle.http_wire.proofs.front.find_next.Goals as goal

-- nothing of the body was read
pub find_body-requires-in-Whole-clause-seen : goal.find_body-requires-in-Whole-clause-seen
find_body-requires-in-Whole-clause-seen c = record {
  known = c.in-Whole.ensures;
  reached = rw c.clear.ensures.items (Reached_start (coded_front (drop c.in-Whole.found.length c.args.unread.now)));
}
