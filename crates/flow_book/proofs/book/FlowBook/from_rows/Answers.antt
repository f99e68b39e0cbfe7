use Rattle.std.proofs.Common.{◌≡◌, true, Some, subst, sym, ◌∙◌}
use Rattle.media_rows.specs.Restoring.{can_restore_catalog}
use Rattle.flow_book.specs.Within.Gathering.{GathersFlows, GathersSources}
use Rattle.flow_book.proofs.Gathering.{catalog_gathered}
use Rattle.flow_book.proofs.Restored.{restored_kept}
use Rattle.flow_book.proofs.book.FlowBook.from_rows.Goals as goal

-- each row stands at the key of its id, and the indexes are theirs
pub invariant_of-result : goal.invariant_of-result
invariant_of-result c =
    let can : can_restore_catalog c.args.sources.now c.args.flows.now ≡ true = rw (← c.items-sources.ensures, ← c.items-flows.ensures)
    (sym c.in_ok-are_good.ensures ∙ c.if-not-branch.false) in
    let of_sources : GathersSources c.args.sources.now (Some c.in-Some.kept_sources) = subst (λ l. GathersSources l (Some c.in-Some.kept_sources))
    c.items-sources.ensures (subst (GathersSources c.items-sources.result.now) c.in-Some.is c.in_ok-kept_sources.ensures) in
    let of_flows : GathersFlows c.args.flows.now (Some c.in-Some-2.kept) = subst (λ l. GathersFlows l (Some c.in-Some-2.kept)) c.items-flows.ensures
    (subst (GathersFlows c.items-flows.result.now) c.in-Some-2.is c.in_ok-kept.ensures) in
    restored_kept c.args.sources.now c.args.flows.now c.in-Some.kept_sources c.in-Some-2.kept.flows c.in-Some-2.kept.by_source c.in-Some-2.kept.collectors can
    of_sources.1 of_flows

-- rows with distinct ids stand in order
pub returns : goal.returns
returns c =
    let can : can_restore_catalog c.args.sources.now c.args.flows.now ≡ true = rw (← c.items-sources.ensures, ← c.items-flows.ensures)
    (sym c.in_ok-are_good.ensures ∙ c.if-not-branch.false) in
    let of_sources : GathersSources c.args.sources.now (Some c.in-Some.kept_sources) = subst (λ l. GathersSources l (Some c.in-Some.kept_sources))
    c.items-sources.ensures (subst (GathersSources c.items-sources.result.now) c.in-Some.is c.in_ok-kept_sources.ensures) in
    let of_flows : GathersFlows c.args.flows.now (Some c.in-Some-2.kept) = subst (λ l. GathersFlows l (Some c.in-Some-2.kept)) c.items-flows.ensures
    (subst (GathersFlows c.items-flows.result.now) c.in-Some-2.is c.in_ok-kept.ensures) in (
      can,
      catalog_gathered c.args.sources.now c.args.flows.now c.in-Some.kept_sources c.in-Some-2.kept.flows can of_sources.1 of_flows.placed,
    )
