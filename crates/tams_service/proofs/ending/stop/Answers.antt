use Rattle.std.proofs.Common.{◌≡◌, ◌∙◌}
use Rattle.tams_http.specs.Constants.{failure}
use Rattle.tams_service.proofs.Endings.{stop_leads}
use Rattle.tams_service.proofs.ending.stop.Goals as goal

pub returns-clause-leads : goal.returns-clause-leads
returns-clause-leads g c = λ all.
    let text : c.as_bytes.result.now ≡ failure 503 = c.as_bytes.ensures.value ∙ c.unavailable.ensures in
    stop_leads (g.X.Disk.device c.args.site.now) (g.X.Disk.device c.say.new.self) c.args.tally.now c.count.new.self _ all.tells c.args.changes
    (rw text at c.say.ensures.call.time) (rw text at c.say.ensures.said) c.count.ensures
