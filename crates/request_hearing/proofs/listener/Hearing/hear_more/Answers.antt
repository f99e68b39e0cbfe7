use Rattle.request_hearing.proofs.TurnLemmas.{turns_end, turns_on, turns_unheard}
use Rattle.request_hearing.proofs.listener.Hearing.hear_more.Goals as goal

-- More was heard.
pub returns-in-Ok : goal.returns-in-Ok
returns-in-Ok g c =
    turns_on c.args.self.now c.hear.new.self c.args.due (g.X.Disk.device c.args.site.now) (g.X.Disk.device c.hear.new.site) c.requires.waits c.requires.may
    c.in-Ok.field-0 c.in-Ok.field-0-test.1 c.in-Ok.ensures

-- The peer's bytes ended.
pub returns-in-Ok-eq0 : goal.returns-in-Ok-eq0
returns-in-Ok-eq0 g c =
    rw c.end.ensures (turns_end c.args.self.now c.hear.new.self c.args.due (g.X.Disk.device c.args.site.now) (g.X.Disk.device c.hear.new.site)
    c.requires.waits (rw c.in-Ok-eq0.field-0-test at c.in-Ok-eq0.ensures))

-- The hearing failed.
pub returns-in-Err : goal.returns-in-Err
returns-in-Err g c =
    turns_unheard c.args.self.now c.hear.new.self c.args.due (g.X.Disk.device c.args.site.now) (g.X.Disk.device c.hear.new.site) c.requires.waits
    c.in-Err.ensures.0 c.in-Err.ensures.1
