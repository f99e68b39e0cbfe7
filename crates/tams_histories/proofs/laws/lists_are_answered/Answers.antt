use Rattle.tams_histories.proofs.Posts.{lists_are_answered}
use Rattle.tams_histories.proofs.laws.lists_are_answered.Goals as goal

pub returns : goal.returns
returns c = lists_are_answered
