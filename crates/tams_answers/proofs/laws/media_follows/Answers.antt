use Rattle.tams_answers.proofs.Following.{media_follows}
use Rattle.tams_answers.proofs.laws.media_follows.Goals as goal

pub returns : goal.returns
returns c = media_follows
