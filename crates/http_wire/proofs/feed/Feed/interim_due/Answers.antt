use Rattle.http_wire.proofs.Interims.{knows_head}
use Rattle.http_wire.proofs.feed.Feed.interim_due.Goals as goal

pub is_interim_due-requires : goal.is_interim_due-requires
is_interim_due-requires c =
    rw c.unread.ensures.value (knows_head c.self.inside.kept.unread c.self.inside.body.items c.self.inside.seen c.self.invariant.known)

pub returns : goal.returns
returns c = rw (← c.self.view_is) (rw c.unread.ensures.value at c.is_interim_due.ensures)
