use Rattle.std.proofs.Common.{ap, sym, is_some, ◌∙◌}
use Rattle.core_restore.proofs.ties.is_kept.Goals as goal
use Rattle.flow_book.proofs.Kept.{found_kept}
use Rattle.object_refs.proofs.Lists.{copied_some}

-- a flow is kept where it is found
pub returns : goal.returns
returns c = c.is_some.ensures ∙ sym (copied_some c.flow.result) ∙ ap is_some c.flow.ensures ∙ found_kept c.args.flow c.args.catalog.now.flows
