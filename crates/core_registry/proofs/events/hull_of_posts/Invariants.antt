use Rattle.std.proofs.Common.{◌≡◌, drop, map}
use Rattle.media_rows.specs.Ranges.{hull, hull_of}
use Rattle.core_registry.proofs.events.hull_of_posts.Given as goal

abbrev pub invariant-loop-post : goal.invariant-loop-post
invariant-loop-post l =
    hull l.hull (hull_of (map (λ post. post.range) (drop l.post-index l.posts))) ≡ hull_of (map (λ post. post.range) l.posts)
