use Rattle.id_index.proofs.Pairs.{if_ok}
use Rattle.core_snapshot.proofs.Joining.{all_sources}
use Rattle.core_snapshot.proofs.snapshot.all_sources.Goals as goal

-- each of them passes
pub returns : goal.returns
returns c = if_ok c.list_sources.result (λ list is. all_sources c.new.result list c.args.catalog.now.sources c.new.ensures is) c.list_sources.ensures.exact
