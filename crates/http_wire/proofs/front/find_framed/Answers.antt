use Rattle.http_wire.proofs.Fronts.{next_media_chunked, next_opened, next_plain, next_short}
use Rattle.http_wire.proofs.front.find_framed.Goals as goal

pub returns-then-found-clause-found : goal.returns-then-found-clause-found
returns-then-found-clause-found c =
    next_opened c.args.unread.now c.args.found c.requires.seen.known c.in-Length.size
    (rw c.in-Length.is at c.requires.framed) c.if-found.true

pub returns-then-unread-found-clause-found : goal.returns-then-unread-found-clause-found
returns-then-unread-found-clause-found c = (
  next_short c.args.unread.now c.args.found c.requires.seen.known c.in-Length.size
      (rw c.in-Length.is at c.requires.framed) c.if-found.false c.if-unread-found.true,
  c.requires.seen,
)

pub returns-else-unread-found-clause-found : goal.returns-else-unread-found-clause-found
returns-else-unread-found-clause-found c =
    next_plain c.args.unread.now c.args.found c.requires.seen.known c.in-Length.size
    (rw c.in-Length.is at c.requires.framed) c.if-found.false c.if-unread-found.false

pub returns-then-found-2-clause-found : goal.returns-then-found-2-clause-found
returns-then-found-2-clause-found c =
    next_media_chunked c.args.unread.now c.args.found c.requires.seen.known
    (rw c.in-Chunked.is at c.requires.framed) c.if-found-2.true
