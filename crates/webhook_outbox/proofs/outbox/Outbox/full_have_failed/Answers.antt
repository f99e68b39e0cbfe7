use Rattle.std.proofs.Common.{◌≡◌, [], subst}
use Rattle.media_rows.specs.Outbox.{with_events}
use Rattle.webhook_outbox.proofs.Posting.{full_failed}
use Rattle.webhook_outbox.proofs.outbox.Outbox.full_have_failed.Goals as goal

-- it is so by the invariant
pub returns : goal.returns
returns c = subst (λ o. with_events [] o ≡ o) c.self.view_is (full_failed c.self.inside.slots c.self.inside.events c.self.invariant)
