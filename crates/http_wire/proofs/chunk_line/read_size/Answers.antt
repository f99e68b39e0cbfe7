use Rattle.std.proofs.Common.{[], sym}
use Rattle.http_wire.proofs.ChunkLine.{line_size_longer, line_size_never, line_size_none, line_size_whole}
use Rattle.http_wire.proofs.chunk_line.read_size.Goals as goal

-- a line of these very bytes
pub returns-then-length-line : goal.returns-then-length-line
returns-then-length-line c =
    let line = rw c.in-Ok-Complete.field-0-is at c.in-Ok-Complete.ensures.complete in
    sym (line_size_whole c.args.line.now c.in-Ok-Complete.length c.in-Ok-Complete.size line.0 line.1 c.if-length-line.true)

-- a shorter one
pub returns-else-length-line : goal.returns-else-length-line
returns-else-length-line c =
    let line = rw c.in-Ok-Complete.field-0-is at c.in-Ok-Complete.ensures.complete in
    sym (line_size_longer c.args.line.now c.in-Ok-Complete.length c.in-Ok-Complete.size line.0 line.1 c.if-length-line.false)

pub returns-in-Ok-Partial : goal.returns-in-Ok-Partial
returns-in-Ok-Partial c =
    let none = rw c.in-Ok-Partial.field-0-is at c.in-Ok-Partial.ensures.partial in
    sym (line_size_none c.args.line.now (λ l. none l []))

pub returns-in-Err : goal.returns-in-Err
returns-in-Err c = sym (line_size_never c.args.line.now c.in-Err.ensures.invalid)
