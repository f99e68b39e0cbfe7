use Rattle.std.proofs.Common.{◌≡◌, suc, sym, ap, ◌∙◌, ◌-◌, arith}
use Rattle.object_refs.specs.References.{less_one}
use Rattle.object_refs.proofs.Lists.{if_ok}
use Rattle.object_refs.proofs.Counting.{less_counted, less_flows, less_follows, none_left}
use Rattle.object_refs.proofs.flows.FlowCounts.remove.Goals as goal

-- a flow that refers no more takes nothing
pub returns-then-times-eq0 : goal.returns-then-times-eq0
returns-then-times-eq0 c =
    let none = none_left c.args.flow c.self.inside.total c.times-times.result c.self.inside.counts c.keys_rise.ensures c.self.invariant c.times-times.ensures
    c.if-times-eq0.true in
    if_ok c.share.result (λ next is. is ∙ sym c.self.view_is ∙ sym none ∙ ap (less_one c.args.flow) c.self.view_is) c.share.ensures

-- each reference is counted
pub overflow_sub-result : goal.overflow_sub-result
overflow_sub-result c =
    let one : suc (c.times-times.result - 1) ≡ c.times-times.result = omega (arith, c.if-times-eq0.false) in
    less_counted c.args.flow c.self.inside.total (c.times-times.result - 1) c.self.inside.counts c.keys_rise.ensures c.self.invariant
    (one ∙ c.times-times.ensures)

pub invariant_of-result : goal.invariant_of-result
invariant_of-result c =
    let one : suc (c.times-times.result - 1) ≡ c.times-times.result = omega (arith, c.if-times-eq0.false) in
    less_follows c.args.flow c.self.inside.total (c.times-times.result - 1) c.self.inside.counts c.in_ok-recounted.field-0 c.keys_rise.ensures
    c.self.invariant (one ∙ c.times-times.ensures) c.in_ok-recounted.ensures

-- the counts stand for one reference less
pub returns : goal.returns
returns c =
    let one : suc (c.times-times.result - 1) ≡ c.times-times.result = omega (arith, c.if-times-eq0.false) in
    less_flows c.args.flow c.self.inside.total (c.times-times.result - 1) c.self.inside.counts c.in_ok-recounted.field-0 c.keys_rise.ensures c.self.invariant
    (one ∙ c.times-times.ensures) c.in_ok-recounted.ensures
    ∙ ap (less_one c.args.flow) c.self.view_is
