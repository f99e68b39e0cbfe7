use Rattle.std.proofs.Common.{Some, None}
use Rattle.webhook_outbox.proofs.Waiting.{first_event}
use Rattle.webhook_outbox.proofs.looks.first_looked_up.Goals as goal

-- each serial is above the key
pub returns-in-Some : goal.returns-in-Some
returns-in-Some g c = first_event c.args.events.now (Some (c.in-Some.field-0-0, c.in-Some.row.now)) c.requires.keyed c.in-Some.ensures.pair

pub returns : goal.returns
returns g c = first_event c.args.events.now None c.requires.keyed c.in-None.ensures.pair
