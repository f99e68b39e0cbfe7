use Rattle.std.proofs.Common.{refl, inl, inr}
use Rattle.range_edit.proofs.Given.{begins_given, gives_all, gives_more}
use Rattle.range_edit.proofs.reading.read_head.Goals as goal
use Rattle.range_edit.proofs.reading.read_head.Goals.{else-found-via-then-found+else-is_head, else-found-via-else-found}

-- the reader has given the head
pub returns-then-is_head-clause-given : goal.returns-then-is_head-clause-given
returns-then-is_head-clause-given c =
    let start = c.new_reader-reader.ensures in
    let read = rw c.if-found.true at (c.in-Ok.ensures.reads start.trim start.ready) in
    let first = c.in-Ok.ensures.ready start.trim in
    rw (← c.is_head.ensures.0 c.if-is_head.true) (gives_more _ _ _ _ _ start read first)

-- there is no first record, or another one
pub returns-clause-fault : goal.returns-clause-fault
returns-clause-fault c =
    let start = c.new_reader-reader.ensures in
    let read = c.in-Ok.ensures.reads start.trim start.ready in
    let first = c.in-Ok.ensures.ready start.trim in
    let after = c.read_byte_record.new.self in
    inl (
      refl,
      elim c.else-found.branch [
        | else-found-via-then-found+else-is_head w ↦
            let more = gives_more _ _ _ _ after start (rw w.if-found.true at read) first in
            inr (_, begins_given _ _ after more, λ e. cc (w.is_head.ensures.1 e))
        | else-found-via-else-found w ↦ inl (gives_all _ _ _ _ after start (rw w.if-found.false at read))
      ],
    )
