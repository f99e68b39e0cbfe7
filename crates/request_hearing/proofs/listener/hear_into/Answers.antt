use Rattle.request_hearing.proofs.SiteLemmas.{hears_front, hears_once}
use Rattle.request_hearing.proofs.listener.hear_into.Goals as goal

-- What was heard stands at the front of the buffer.
pub returns-clause-hears : goal.returns-clause-hears
returns-clause-hears g c =
    hears_front c.hear.result c.split_at_mut-free.result.0.now c.hear.new.out c.split_at_mut-free.result.1.now (g.X.Disk.device c.args.site.now)
    (g.X.Disk.device c.hear.new.self) c.hear.auto.out c.hear.ensures.within
    (hears_once c.hear.result c.hear.new.out (g.X.Disk.device c.args.site.now) (g.X.Disk.device c.hear.new.self) c.hear.ensures.call c.hear.ensures.heard)
