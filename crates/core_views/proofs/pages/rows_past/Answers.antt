use Rattle.std.proofs.Common.{ap}
use Rattle.core_views.proofs.Paging.{past_turned, stays, turned}
use Rattle.core_views.proofs.pages.rows_past.Goals as goal
use Rattle.core_views.proofs.pages.rows_past.Goals.{then-page, else-page}

-- those that were kept, turned round
pub returns : goal.returns
returns g c =
    let back = c.args.page.now.reverse in
    let past = c.loop-row.past.items in
    past_turned g.T.Keyed.page_key c.args.page.now c.args.rows.now c.loop-row.row-index past c.if-page.past.items c.loop-row.invariant
    c.loop-row-test.false
    (elim c.if-page.branch [
      | then-page w ↦ turned back past w.reverse.new.self.items c.if-page.past.items w.if-page.true (ap (λ v. v.items) w.past-is) w.reverse.ensures.items
      | else-page w ↦ stays back past c.if-page.past.items w.if-page.false (ap (λ v. v.items) w.past-is)
    ])
