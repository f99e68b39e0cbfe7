use Rattle.request_hearing.proofs.SiteLemmas.{hears_nothing, interim_written, says_once}
use Rattle.request_hearing.proofs.interim.say_interim.Goals as goal

pub returns-then-not-asked-clause-says : goal.returns-then-not-asked-clause-says
returns-then-not-asked-clause-says g c =
    rw (c.if-not-asked.true) (hears_nothing (g.X.Disk.device c.args.site.now))

pub returns-clause-says : goal.returns-clause-says
returns-clause-says g c =
    rw (c.if-not-asked.false)
    (says_once _ _ (g.X.Disk.device c.args.site.now) (g.X.Disk.device c.say.new.self) interim_written c.say.ensures.call c.say.ensures.said)
