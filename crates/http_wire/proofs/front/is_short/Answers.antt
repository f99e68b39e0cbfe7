use Rattle.http_wire.proofs.front.is_short.Goals as goal

pub lacks_data-requires : goal.lacks_data-requires
lacks_data-requires c = (c.requires.0, rw c.after.ensures c.requires.1.reached)
