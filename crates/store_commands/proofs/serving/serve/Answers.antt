use Rattle.store_commands.proofs.ServeEndLemmas.{serve_whole}
use Rattle.store_commands.proofs.serving.serve.Goals as goal

-- What its end says is put together.
pub returns-clause-ends : goal.returns-clause-ends
returns-clause-ends g c =
    serve_whole c.args.base _ _ _ _ _ c.serve_peers.result c.serve_peers.ensures.disk c.args.connections c.serve_peers.ensures.ends
