use Rattle.store_commands.proofs.ServeEndLemmas.{replay_whole}
use Rattle.store_commands.proofs.serving.replay.Goals as goal

-- What its end says is put together.
pub returns-clause-ends : goal.returns-clause-ends
returns-clause-ends g c =
    replay_whole c.args.base _ _ _ _ _ c.serve_peer.result c.serve_peer.ensures.disk c.serve_peer.ensures.ends
