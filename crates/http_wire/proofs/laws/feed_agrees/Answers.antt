use Rattle.http_wire.proofs.Agreements.{agrees_at_start, agrees_on_body, agrees_on_head, agrees_on_push, agrees_on_refusal, agrees_on_wait, agrees_on_whole}
use Rattle.http_wire.proofs.laws.feed_agrees.Goals as goal

pub returns : goal.returns
returns c = record {
  start = agrees_at_start;
  push = agrees_on_push;
  more = agrees_on_wait;
  refused = agrees_on_refusal;
  whole = agrees_on_whole;
  head = agrees_on_head;
  body = agrees_on_body;
}
