use Rattle.std.proofs.Common.{◌++◌, sym, ap, subst, ◌∙◌}
use Rattle.media_rows.specs.Collections.{member_ids}
use Rattle.media_rows.specs.Views.{id_key}
use Rattle.shared_tree.specs.Pairs.{without_key}
use Rattle.id_index.specs.Index.{Unlinks}
use Rattle.flow_book.specs.Within.Peeling.{IsPeeled}
use Rattle.flow_book.proofs.Uncollected.{peeled_on, weight_left}
use Rattle.flow_book.proofs.peeling.peeled.Goals as goal

-- none collects it, so no circle goes with it
pub returns-clause-kept : goal.returns-clause-kept
returns-clause-kept c rows h =
    let row = c.in-Some.row.now in
    let ids = c.in_ok-collected.ensures ∙ ap member_ids c.items.ensures in
    let gone = subst (λ l. Unlinks l c.args.id c.args.left.collectors c.in_ok-unlink.field-0) (c.deref-2.ensures.value ∙ ids) c.in_ok-unlink.ensures in
    let more = c.in_ok-extend_from_slice.ensures.items ∙ ap (λ l. c.args.waiting.now.items ++ l) (c.deref.ensures.value ∙ ids) in
    subst (λ l. IsPeeled rows l c.in_ok-unlink.field-0 c.extend_from_slice.new.self.items) (sym c.in_ok-without_row.ensures)
    (subst (IsPeeled rows (without_key (id_key c.args.id) c.args.left.flows) c.in_ok-unlink.field-0) (sym more)
    (peeled_on c.args.id row c.args.left.flows c.args.left.collectors c.in_ok-unlink.field-0 c.args.waiting.now.items rows c.keys_rise.ensures
    (sym c.in-Some.ensures) (sym c.has_any.ensures ∙ c.if-has_any.false) gone h))

-- it goes, and its entries wait
pub returns-clause-fewer : goal.returns-clause-fewer
returns-clause-fewer c =
    let ids = c.in_ok-collected.ensures ∙ ap member_ids c.items.ensures in
    let more = c.in_ok-extend_from_slice.ensures.items ∙ ap (λ l. c.args.waiting.now.items ++ l) (c.deref.ensures.value ∙ ids) in
    weight_left (id_key c.args.id) c.in-Some.row.now c.args.left.flows c.in_ok-without_row.field-0 c.args.waiting.now.items
    c.extend_from_slice.new.self.items c.keys_rise.ensures (sym c.in-Some.ensures) c.in_ok-without_row.ensures more
