use Rattle.std.proofs.Common.{◌≡◌, ◌∙◌}
use Rattle.tams_http.specs.Constants.{failure}
use Rattle.tams_service.proofs.Endings.{starve_leads}
use Rattle.tams_service.proofs.ending.starve.Goals as goal

pub returns-clause-leads : goal.returns-clause-leads
returns-clause-leads g c = λ all.
    let text : c.as_bytes.result.now ≡ failure 500 = c.as_bytes.ensures.value ∙ c.server_error.ensures in
    starve_leads (g.X.Disk.device c.args.site.now) (g.X.Disk.device c.say.new.self) c.args.tally.now c.count.new.self _ all.tells
    (rw text at c.say.ensures.call.time) (rw text at c.say.ensures.said) c.say.ensures.call.handed c.count.ensures
