use Rattle.std.proofs.Common.{sym, ap, subst, ◌∙◌}
use Rattle.id_index.proofs.Named.{index_none, index_without}
use Rattle.id_index.proofs.Pairs.{if_ok}
use Rattle.flow_book.specs.Within.Order.{IsByCollected, flow_id, flows_named}
use Rattle.flow_book.proofs.Keys.{flow_found}
use Rattle.id_index.specs.Index.{Unlinks}
use Rattle.media_rows.specs.Collections.{member_ids}
use Rattle.shared_tree.specs.Pairs.{without_key}
use Rattle.media_rows.specs.Views.{id_key}
use Rattle.flow_book.proofs.collections.collectors_without.Goals as goal

-- no flow stands at the id, so none is linked
pub returns-in-None : goal.returns-in-None
returns-in-None c =
    if_ok c.share.result (λ next is. subst (IsByCollected (without_key (id_key c.args.id) c.args.flows.now)) (sym is)
    (index_none flow_id flows_named c.args.id c.args.flows.now c.args.collectors.now c.keys_rise.ensures
    (flow_found c.args.id c.args.flows.now c.requires.keyed ∙ sym c.in-None.ensures) c.requires.index)) c.share.ensures

-- the flow is unlinked from all that it collects
pub returns-in_ok-ids-in-Some : goal.returns-in_ok-ids-in-Some
returns-in_ok-ids-in-Some c =
    let names = c.deref.ensures.value ∙ c.in_ok-ids-in-Some.ensures ∙ ap member_ids c.items.ensures in
    if_ok c.unlink.result (λ next gone. index_without flow_id flows_named c.args.id c.in-Some.old.now c.args.flows.now c.args.collectors.now next
    c.keys_rise.ensures (flow_found c.args.id c.args.flows.now c.requires.keyed ∙ sym c.in-Some.ensures) c.requires.index
    (subst (λ l. Unlinks l c.args.id c.args.collectors.now next) names gone)) c.unlink.ensures
