use Rattle.http_wire.proofs.Room.{head_has_room, waits_with_room}
use Rattle.http_wire.proofs.laws.a_byte_more_is_taken.Goals as goal

pub returns : goal.returns
returns c = record {
  more = waits_with_room;
  head = head_has_room;
}
