use Rattle.http_wire.proofs.Fronts.{next_refused}
use Rattle.http_wire.proofs.front.find_body.Goals as goal

pub returns-in-Err-clause-found : goal.returns-in-Err-clause-found
returns-in-Err-clause-found c = next_refused c.args.unread.now c.args.found c.in-Err.fault c.requires.seen.known c.in-Err.is
