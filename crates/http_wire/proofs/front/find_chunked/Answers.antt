use Rattle.std.proofs.Common.{arith, length-drop}
use Rattle.http_wire.proofs.Fronts.{next_chunked}
use Rattle.http_wire.proofs.front.find_chunked.Goals as goal

pub returns-in-More-clause-found : goal.returns-in-More-clause-found
returns-in-More-clause-found c =
    let body = rw c.after.ensures at c.in-More.ensures.found in (
      next_chunked c.args.unread.now c.args.found c.requires.seen.known _ c.requires.chunked c.requires.other body.0,
      record { known = c.requires.seen.known; reached = body.1 },
    )

pub returns-in-Refused-clause-found : goal.returns-in-Refused-clause-found
returns-in-Refused-clause-found c =
    let body = rw c.after.ensures at c.in-Refused.ensures.found in
    next_chunked c.args.unread.now c.args.found c.requires.seen.known _ c.requires.chunked c.requires.other body

pub returns-in-Whole-clause-found : goal.returns-in-Whole-clause-found
returns-in-Whole-clause-found c =
    let body = rw c.after.ensures at c.in-Whole.ensures.found in
    record {
      known = c.requires.seen.known;
      next = next_chunked c.args.unread.now c.args.found c.requires.seen.known _ c.requires.chunked c.requires.other body.0;
      inside = omega (arith, body.1, length-drop c.args.found.length c.args.unread.now, c.requires.seen.known.inside);
    }
