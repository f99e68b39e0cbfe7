use Rattle.json_replies.proofs.Kept.{kept_whole}
use Rattle.json_replies.proofs.laws.essence_stands.Goals as goal

pub returns : goal.returns
returns c = kept_whole
