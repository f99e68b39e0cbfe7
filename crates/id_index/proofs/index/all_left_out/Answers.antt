use Rattle.id_index.proofs.Linked.{ids_gone}
use Rattle.id_index.proofs.Pairs.{if_ok}
use Rattle.id_index.proofs.index.all_left_out.Goals as goal

pub returns : goal.returns
returns c = if_ok c.without_row.result (λ next is. ids_gone c.args.to c.args.linked.now next is) c.without_row.ensures
