use Rattle.std.proofs.Common.{true, false}
use Rattle.tams_service.proofs.Endings.{refuse_leads}
use Rattle.tams_service.proofs.ending.refuse.Goals as goal

-- The refusal was said.
pub returns-in-Ok-clause-leads : goal.returns-in-Ok-clause-leads
returns-in-Ok-clause-leads g c = λ all base store fault responds.
    refuse_leads base (g.X.Disk.device c.args.site.now) (g.X.Disk.device c.say.new.self) store c.args.tally.now c.count.new.self fault
    c.args.response.now all.tells c.count.ensures responds true c.in-Ok.ensures.call.time c.in-Ok.ensures.said c.in-Ok.ensures.call.handed

-- It failed to be said.
pub returns-in-Err-clause-leads : goal.returns-in-Err-clause-leads
returns-in-Err-clause-leads g c = λ all base store fault responds.
    refuse_leads base (g.X.Disk.device c.args.site.now) (g.X.Disk.device c.say.new.self) store c.args.tally.now c.count.new.self fault
    c.args.response.now all.tells c.count.ensures responds false c.in-Err.ensures.call.time c.in-Err.ensures.said c.in-Err.ensures.call.handed
