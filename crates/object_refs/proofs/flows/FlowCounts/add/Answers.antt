use Rattle.std.proofs.Common.{◌≡◌, suc, ap, ◌∙◌, ◌+◌, arith}
use Rattle.media_rows.specs.Lists.{inserted}
use Rattle.std.proofs.Common.{nat_lt}
use Rattle.object_refs.specs.Within.Counts.{recounted}
use Rattle.object_refs.proofs.Counting.{more_flows, more_follows}
use Rattle.object_refs.proofs.flows.FlowCounts.add.Goals as goal

-- each count stands at its flow's key, and the sum is one higher
pub invariant_of-result : goal.invariant_of-result
invariant_of-result c =
    let ps = c.self.inside.counts in
    let times = c.times-times.result in
    let one : times + 1 ≡ suc times = omega arith in
    more_follows c.args.flow c.self.inside.total times ps c.in_ok-recounted.field-0 c.keys_rise.ensures c.self.invariant c.times-times.ensures
    (c.in_ok-recounted.ensures ∙ ap (λ k. recounted c.args.flow k ps) one)

-- the counts stand for one reference more
pub returns : goal.returns
returns c =
    let ps = c.self.inside.counts in
    let times = c.times-times.result in
    let one : times + 1 ≡ suc times = omega arith in
    more_flows c.args.flow c.self.inside.total times ps c.in_ok-recounted.field-0 c.keys_rise.ensures c.self.invariant c.times-times.ensures
    (c.in_ok-recounted.ensures ∙ ap (λ k. recounted c.args.flow k ps) one)
    ∙ ap (inserted nat_lt c.args.flow) c.self.view_is
