use Rattle.tams_histories.proofs.Posts.{posts_succeed}
use Rattle.tams_histories.proofs.laws.posts_succeed.Goals as goal

pub returns : goal.returns
returns c = posts_succeed
