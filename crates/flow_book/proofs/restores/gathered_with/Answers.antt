use Rattle.std.proofs.Common.{is_some, sym, ap, ◌∙◌}
use Rattle.flow_book.proofs.Restored.{copied_there, gathered_once, stands_twice}
use Rattle.flow_book.specs.Within.Order.{flow_id}
use Rattle.media_rows.specs.Collections.{member_ids}
use Rattle.id_index.specs.Index.{Links}
use Rattle.std.proofs.Common.{subst}
use Rattle.flow_book.proofs.restores.gathered_with.Goals as goal

-- the id is there already
pub returns-then-is_some : goal.returns-then-is_some
returns-then-is_some c rows h =
    stands_twice flow_id c.args.row.now rows c.args.old.now.flows
    (sym (ap is_some c.row_at.ensures) ∙ copied_there c.row_at.result ∙ sym c.is_some.ensures ∙ c.if-is_some.true) h.placed

-- the flow is linked to its source and to all that it collects
pub returns : goal.returns
returns c rows h =
    let not_there = sym (ap is_some c.row_at.ensures) ∙ copied_there c.row_at.result ∙ sym c.is_some.ensures ∙ c.if-is_some.false in
    let names = c.deref.ensures.value ∙ c.in_ok-collected.ensures ∙ ap member_ids c.items.ensures in
    gathered_once c.args.row.now c.in_ok-duplicate.field-0 rows c.args.old.now.flows c.in_ok-with_row.field-0 c.args.old.now.by_source c.args.old.now.collectors
    c.in_ok-link.field-0 c.in_ok-link-2.field-0
    c.keys_rise.ensures not_there c.in_ok-duplicate.ensures c.in_ok-with_row.ensures c.in_ok-link.ensures
    (subst (λ l. Links l c.args.row.now.body.id c.args.old.now.collectors c.in_ok-link-2.field-0) names c.in_ok-link-2.ensures) h
