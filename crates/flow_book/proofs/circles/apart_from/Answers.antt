use Rattle.std.proofs.Common.{ℤ, ◌∷◌, ◌++◌, [], List, ℕ, sym, ap, subst, ◌∙◌}
use Rattle.media_rows.specs.declared.flow.FlowRow.{FlowRow}
use Rattle.shared_tree.specs.Pairs.{values, values_of}
use Rattle.flow_book.specs.Within.Ways.{AreFollowed}
use Rattle.flow_book.proofs.Ways.{followed_all, followed_first, followed_on, none_popped, swept_fewer}
use Rattle.flow_book.proofs.circles.apart_from.Goals as goal

-- at first the flow itself waits
pub loop-next-init : goal.loop-next-init
loop-next-init c =
    subst (AreFollowed c.args.flows.now c.in_ok-apart.apart c.args.id)
    (sym (c.in_ok-push.ensures.items ∙ ap (λ l. l ++ c.args.id ∷ []) c.new-waiting.ensures.items))
    (subst (λ a. AreFollowed c.args.flows.now a c.args.id (c.args.id ∷ [])) (sym c.in_ok-apart.ensures) (followed_first c.args.flows.now c.args.id))

-- each that waits goes, and those that wait anew were apart
pub loop-next-smaller : goal.loop-next-smaller
loop-next-smaller c =
    swept_fewer (values_of c.deref.result.now) c.loop-next.apart c.loop-next.waiting.items c.pop.new.self.items c.in-Some.next
    (c.in_ok-apart-2.apart, c.swept.new.waiting.items) c.keys_rise.ensures c.in_ok-apart-2.ensures c.in-Some.ensures.items

-- one step further back
pub loop-next-preserved : goal.loop-next-preserved
loop-next-preserved c =
    let ids = ap values_of c.deref.ensures.value ∙ c.in_ok-ids.ensures ∙ ap values (c.requires.index c.in-Some.next) in
    subst (λ (s : List (ℤ × FlowRow) × List ℕ). AreFollowed c.args.flows.now s.0 c.args.id s.1) (sym c.in_ok-apart-2.ensures)
    (followed_on c.args.flows.now c.loop-next.apart c.args.id c.in-Some.next c.pop.new.self.items (values_of c.deref.result.now) c.requires.keyed ids
    (subst (AreFollowed c.args.flows.now c.loop-next.apart c.args.id) c.in-Some.ensures.items c.loop-next.invariant))

-- none waits any more
pub returns : goal.returns
returns c =
    let none = none_popped c.loop-next.waiting.items c.pop.new.self.items _ c.in_default.ensures.cases.0 c.in_default.ensures.items c.in_default.ensures.rest in
    followed_all c.args.flows.now c.loop-next.apart c.args.id
    (subst (AreFollowed c.args.flows.now c.loop-next.apart c.args.id) none c.loop-next.invariant)
