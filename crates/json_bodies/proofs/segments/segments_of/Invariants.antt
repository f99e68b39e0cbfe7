use Rattle.std.proofs.Common.{◌≡◌, ◌++◌, drop, Ok, IsTrue}
use Rattle.std.specs.List.{list_all}
use Rattle.serde_json.specs.View.{items_view}
use Rattle.json_bodies.specs.Rules.{◌>>=◌}
use Rattle.json_bodies.specs.Segments.{segments_from, is_post_good}
use Rattle.json_bodies.proofs.segments.segments_of.Given as goal

-- the segments so far stand before those of the objects that are left, and each is good
abbrev pub invariant-loop-value : goal.invariant-loop-value
invariant-loop-value l =
    ((segments_from (items_view (drop l.value-index l.values)) >>= λ later. Ok (l.posts ++ later)) ≡ segments_from (items_view l.values))
    × IsTrue (list_all is_post_good l.posts)
