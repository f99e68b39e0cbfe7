use Rattle.std.proofs.Common.{◌≡◌, Some, None, sym, ap, subst, ◌∙◌}
use Rattle.media_rows.specs.Catalog.{set_row}
use Rattle.media_rows.specs.Collections.{member_ids}
use Rattle.media_rows.specs.Views.{id_key}
use Rattle.shared_tree.specs.Pairs.{value_at}
use Rattle.id_index.specs.Index.{changed_row}
use Rattle.id_index.proofs.Named.{index_changed}
use Rattle.id_index.proofs.Pairs.{if_ok}
use Rattle.flow_book.specs.Within.Order.{IsByCollected, collection_of, flow_id, flows_named}
use Rattle.flow_book.proofs.Changes.{found_id}
use Rattle.flow_book.proofs.Indexed.{members_set, members_stay}
use Rattle.flow_book.proofs.Keys.{flow_found}
use Rattle.shared_tree.specs.Pairs.{values}
use Rattle.flow_book.proofs.sets.collectors_after_set.Goals as goal
use Rattle.library_laws.proofs.SettingsKept.{with_id}

-- the flow collects what it collected
pub returns-in_default : goal.returns-in_default
returns-in_default c =
    let none : collection_of c.args.part.now ≡ None = sym c.in_default.ensures in
    if_ok c.share.result (λ next is moment. subst (IsByCollected (changed_row (id_key c.args.id) (set_row c.args.part.now moment)
    (value_at (id_key c.args.id) c.args.flows.now) c.args.flows.now)) (sym is)
    (index_changed flow_id flows_named c.args.id (set_row c.args.part.now moment) c.args.flows.now c.args.collectors.now c.keys_rise.ensures
    (λ row. ap member_ids (members_stay c.args.part.now row.body none)) (λ row. with_id c.args.part.now row.body) c.requires.index)) c.share.ensures

-- no flow stands at the id, so none changes
pub returns-in-None : goal.returns-in-None
returns-in-None c =
    let none : value_at (id_key c.args.id) c.args.flows.now ≡ None = flow_found c.args.id c.args.flows.now c.requires.keyed ∙ sym c.in-None.ensures in
    if_ok c.share-in-None.result (λ next is moment. subst (λ l.
    IsByCollected (changed_row (id_key c.args.id) (set_row c.args.part.now moment) l c.args.flows.now) next) (sym none)
    (subst (IsByCollected c.args.flows.now) (sym is) c.requires.index)) c.share-in-None.ensures

-- the flow collects what the part says
pub returns-in-Some-find_flow : goal.returns-in-Some-find_flow
returns-in-Some-find_flow c =
    let old = c.in-Some-find_flow.field-0.now in
    let found : value_at (id_key c.args.id) c.args.flows.now ≡ Some old = flow_found c.args.id c.args.flows.now c.requires.keyed ∙ sym
    c.in-Some-find_flow.ensures in
    let set = sym c.in-Some.ensures in
    if_ok c.collectors_with.result (λ next is moment. subst (λ l.
    IsByCollected (changed_row (id_key c.args.id) (set_row c.args.part.now moment) l c.args.flows.now) next) (sym found)
    (is (set_row c.args.part.now moment old) (with_id c.args.part.now old.body ∙ found_id flow_id c.args.id (values c.args.flows.now) old
    c.in-Some-find_flow.ensures) (members_set c.args.part.now old.body c.in-Some.members.now set ∙ sym c.items.ensures))) c.collectors_with.ensures
