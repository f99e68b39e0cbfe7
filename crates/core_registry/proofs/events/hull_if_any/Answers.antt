use Rattle.std.proofs.Common.{◌<◌, ◌+◌, drop, length, ap, ◌∙◌, arith}
use Rattle.media_rows.specs.Ranges.{hull}
use Rattle.media_rows.specs.Segments.{hull_of_segments}
use Rattle.core_registry.proofs.Happening.{hull_row_more}
use Rattle.core_registry.proofs.events.hull_if_any.Goals as goal
use Rattle.webhook_outbox.proofs.Posting.{item_first}

-- one range more
pub loop-row-preserved : goal.loop-row-preserved
loop-row-preserved c =
    let i = c.loop-row.row-index in
    let all = c.args.rows.now in
    let row = c.row-item.result in
    let within : i < length all = omega arith in
    let shape = item_first all i row within c.row-item.is in
    ap (λ h. hull h (hull_of_segments (drop (i + 1) all))) c.range_hull-hull.ensures.value
    ∙ hull_row_more c.loop-row.hull all i row shape ∙ c.loop-row.invariant
