use Rattle.http_wire.proofs.Seeking.{IsSeen_later}
use Rattle.http_wire.proofs.feed.Feed.push.Goals as goal

-- what is known stays under more bytes
pub invariant_of-self : goal.invariant_of-self
invariant_of-self c = record {
  known = rw c.push.ensures (IsSeen_later c.self.inside.kept.unread c.front.result.now c.self.inside.body.items c.self.inside.seen
      c.self.invariant.known);
  room = c.self.invariant.room;
  count = c.self.invariant.count;
}
