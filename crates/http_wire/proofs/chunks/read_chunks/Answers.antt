use Rattle.std.proofs.Common.{arith}
use Rattle.http_wire.proofs.Reaching.{chunks_last, chunks_more, chunks_on, chunks_refused}
use Rattle.http_wire.proofs.chunks.read_chunks.Goals as goal

pub returns-in-More-clause-found : goal.returns-in-More-clause-found
returns-in-More-clause-found c =
    chunks_more _ _ _ _ c.chunks.progress _ c.chunks.invariant.reached c.after-rest.ensures c.room_behind.ensures c.in-More.ensures

pub returns-in-Refused-clause-found : goal.returns-in-Refused-clause-found
returns-in-Refused-clause-found c =
    chunks_refused _ _ _ _ c.chunks.progress _ c.chunks.invariant.reached c.after-rest.ensures c.room_behind.ensures c.in-Refused.ensures

pub returns-in-Last-clause-found : goal.returns-in-Last-clause-found
returns-in-Last-clause-found c =
    chunks_last _ _ _ _ c.chunks.progress _ c.chunks.invariant.reached c.after-rest.ensures c.room_behind.ensures c.in-Last.ensures

pub chunks-preserved : goal.chunks-preserved
chunks-preserved c = record {
  reached =
      rw (c.keep.ensures.items, c.part.ensures)
      (chunks_on _ _ _ _ c.chunks.progress _ _ c.chunks.invariant.reached c.after-rest.ensures c.room_behind.ensures c.in-Chunk.ensures);
  room = omega (arith, c.keep.ensures.room, c.chunks.invariant.room);
}
