use Rattle.std.proofs.Common.{refl}
use Rattle.http_wire.proofs.Ends.{line_end-drop}
use Rattle.http_wire.proofs.chunk_line.find_line_behind.Goals as goal

-- the line's end is behind the bytes that have none
pub returns-in-Some-clause-end : goal.returns-in-Some-clause-end
returns-in-Some-clause-end c =
    rw (line_end-drop c.args.bytes.now c.args.seen c.requires.inside c.requires.none, ← c.after.ensures, ← c.in-Some.ensures.end) refl

pub returns-in-None-clause-end : goal.returns-in-None-clause-end
returns-in-None-clause-end c =
    rw (line_end-drop c.args.bytes.now c.args.seen c.requires.inside c.requires.none, ← c.after.ensures, ← c.in-None.ensures.end) refl
