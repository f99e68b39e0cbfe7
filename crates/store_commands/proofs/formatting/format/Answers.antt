use Rattle.store_commands.proofs.FormatEndLemmas.{format_ends}
use Rattle.store_commands.proofs.formatting.format.Goals as goal

-- What its end says is put together.
pub returns-clause-ends : goal.returns-clause-ends
returns-clause-ends g c =
    format_ends _ _ _ c.make_store.result c.make_store.ensures.disk c.make_store.ensures.ends c.make_store.ensures.moments c.make_store.ensures.nobody
