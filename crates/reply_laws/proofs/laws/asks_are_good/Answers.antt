use Rattle.reply_laws.proofs.Requests.{asks_are_good}
use Rattle.reply_laws.proofs.laws.asks_are_good.Goals as goal

pub returns : goal.returns
returns c = asks_are_good
