use Rattle.std.proofs.Common.{sym, subst}
use Rattle.http_wire.specs.Feeds.{IsInterimDue}
use Rattle.request_hearing.proofs.TurnLemmas.{heard_done, heard_first, heard_more}
use Rattle.request_hearing.proofs.listener.Hearing.hear_request.Goals as goal

pub loop-init : goal.loop-init
loop-init g c = heard_first c.args.self.now (g.X.Disk.device c.args.site.now) c.requires.may

pub take_turn-requires-clause-due : goal.take_turn-requires-clause-due
take_turn-requires-clause-due g c = λ so_is.
    subst IsInterimDue (sym c.loop.invariant.goes.unread) (c.loop.invariant.goes.due so_is)

-- The request was heard, or no more is.
pub returns-in-Done : goal.returns-in-Done
returns-in-Done g c =
    heard_done c.args.self.now c.loop.self c.take_turn.new.self (g.X.Disk.device c.args.site.now) (g.X.Disk.device c.loop.site)
    (g.X.Disk.device c.take_turn.new.site) c.loop.said c.loop.counter c.loop.invariant c.in-Done.heard c.in-Done.ensures

pub loop-preserved : goal.loop-preserved
loop-preserved g c =
    heard_more c.args.self.now c.loop.self c.take_turn.new.self (g.X.Disk.device c.args.site.now) (g.X.Disk.device c.loop.site)
    (g.X.Disk.device c.take_turn.new.site) c.loop.said c.loop.counter c.loop.invariant c.in-Waits.by_then c.in-Waits.ensures
