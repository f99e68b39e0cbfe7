use Rattle.store_core.proofs.Applied.{has_room}
use Rattle.store_core.proofs.commands.keep.Goals as goal

-- the least free place has room
pub store-requires-clause-room : goal.store-requires-clause-room
store-requires-clause-room c =
    has_room c.answers_apply.ensures c.applied_is_sound.ensures c.args.parts.now.library c.args.object.now c.args.extent c.args.digest c.args.now c.requires.good
    (c.good_is_ready.ensures c.args.parts.now.library c.requires.good) c.requires.place c.requires.moment
