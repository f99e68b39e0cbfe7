use Rattle.std.proofs.Common.{length, ap, ◌∙◌}
use Rattle.std.proofs.lemmas.List.{length-take-le}
use Rattle.http_wire.proofs.Seeking.{front_found}
use Rattle.http_wire.proofs.seek.read_front.Goals as goal

pub returns-in-Some : goal.returns-in-Some
returns-in-Some c =
    let bytes = c.front.ensures.value in
    let read = rw bytes at c.in-Some.ensures.some in
    let size = c.in-Some.ensures.length ∙ ap length bytes ∙ length-take-le c.args.end c.args.unread.now c.requires.inside in
    front_found c.args.unread.now c.args.end c.in-Some.found read.0 c.requires.ends c.requires.inside size read.1 read.2
