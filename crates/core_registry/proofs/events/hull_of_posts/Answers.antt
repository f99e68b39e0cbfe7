use Rattle.std.proofs.Common.{◌<◌, ◌+◌, drop, length, map, ap, ◌∙◌, arith}
use Rattle.media_rows.specs.Ranges.{hull, hull_of}
use Rattle.media_rows.specs.declared.segment.Segment.{Segment}
use Rattle.core_registry.proofs.Happening.{hull_more}
use Rattle.core_registry.proofs.events.hull_of_posts.Goals as goal
use Rattle.webhook_outbox.proofs.Posting.{item_first}

-- one range more
pub loop-post-preserved : goal.loop-post-preserved
loop-post-preserved c =
    let i = c.loop-post.post-index in
    let all = c.args.posts.now in
    let post = c.post-item.result in
    let within : i < length all = omega arith in
    let shape = item_first all i post within c.post-item.is in
    ap (λ h. hull h (hull_of (map (λ (p : Segment). p.range) (drop (i + 1) all)))) c.range_hull-hull.ensures.value
    ∙ hull_more c.loop-post.hull all i post shape ∙ c.loop-post.invariant
