use Rattle.std.proofs.Common.{drop}
use Rattle.webhook_outbox.proofs.Posting.{Comes}
use Rattle.webhook_outbox.proofs.posts.post_all.Given as goal

abbrev pub invariant-loop-one : goal.invariant-loop-one
invariant-loop-one l = Comes l.happened (drop l.one-index l.happened) l.now l.outbox l.serial l.reached
