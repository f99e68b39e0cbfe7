use Rattle.std.proofs.Common.{sym, ap, subst, ◌∙◌}
use Rattle.media_rows.specs.Collections.{member_ids}
use Rattle.id_index.specs.Index.{Links}
use Rattle.id_index.proofs.Named.{index_with}
use Rattle.id_index.proofs.Pairs.{if_ok}
use Rattle.flow_book.specs.Within.Order.{flow_id, flows_named}
use Rattle.flow_book.proofs.collections.collectors_with.Goals as goal

-- the flow is linked to all that it collects now
pub returns : goal.returns
returns c =
    let names = c.deref.ensures.value ∙ c.in_ok-ids.ensures in
    if_ok c.link.result (λ next linked row same_id same_members. index_with flow_id flows_named c.args.id row c.args.flows.now c.in_ok-left.left next same_id
    c.in_ok-left.ensures
    (subst (λ l. Links l c.args.id c.in_ok-left.left next) (names ∙ ap member_ids (sym same_members)) linked)) c.link.ensures
