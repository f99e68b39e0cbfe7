use Rattle.std.proofs.Common.{◌∙◌, sym, ap}
use Rattle.media_store.specs.Stores.{PutSeen}
use Rattle.media_store.proofs.PutReplies.{planned_refusal, planned_write}
use Rattle.media_store.proofs.puts.Put.reply_if_same.Goals as goal

-- a put that was planned has one of its refusals
pub refusal_again-requires : goal.refusal_again-requires
refusal_again-requires c =
    planned_refusal c.args.self.now c.in-Refused.why c.requires.planned (ap (λ (p : PutSeen). p.plan) (sym c.self.view_is) ∙ c.in-Refused.is)

-- bytes that are stored are answered by Created
pub returns-in-Write : goal.returns-in-Write
returns-in-Write c =
    planned_write c.args.self.now c.in-Write.field-0 c.in-Write.field-1 c.requires.planned (ap (λ (p : PutSeen). p.plan) (sym c.self.view_is) ∙ c.in-Write.is)
