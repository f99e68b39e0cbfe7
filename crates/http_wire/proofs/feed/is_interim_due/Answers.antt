use Rattle.http_wire.specs.declared.framing.WireFault.TheVariants.{BadHead}
use Rattle.http_wire.proofs.Interims.{interim_found, interim_more, interim_refused}
use Rattle.http_wire.proofs.feed.is_interim_due.Goals as goal

pub returns-in-Found : goal.returns-in-Found
returns-in-Found c = interim_found c.args.unread.now c.in-Found.found (rw c.in-Found.is at c.requires)

pub returns-in-Whole : goal.returns-in-Whole
returns-in-Whole c = interim_found c.args.unread.now c.in-Whole.found c.in-Whole.ensures

pub returns-in-More : goal.returns-in-More
returns-in-More c = interim_more c.args.unread.now c.in-More.ensures.0

pub returns-in-Refused : goal.returns-in-Refused
returns-in-Refused c = interim_refused c.args.unread.now BadHead c.in-Refused.ensures
