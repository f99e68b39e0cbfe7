use Rattle.std.proofs.Common.{IsTrue}
use Rattle.media_rows.specs.Sound.{are_posts_good}
use Rattle.core_measure.proofs.given.posts.Given as goal

-- each segment so far is good
abbrev pub invariant-loop-number : goal.invariant-loop-number
invariant-loop-number l = IsTrue (are_posts_good l.posts.segments)
