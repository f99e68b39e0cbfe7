use Rattle.std.proofs.Common.{◌≤◌, length, unwrap_or}
use Rattle.disk_trait.specs.History.{range_end}
use Rattle.disk_trait.proofs.HistoryLemmas.{replayed_quiet}
use Rattle.disk_trait.proofs.history.History.note.Goals as goal

pub invariant_of-self-2 : goal.invariant_of-self-2
invariant_of-self-2 c =
    let h = c.self.inside in
    let within : range_end c.args.call ≤ length h.bytes.items = rw (← c.self.view_is, c.self.invariant.seen) at c.requires.within in
    rw c.in_ok-push.ensures.items (replayed_quiet (record { first = unwrap_or h.first h.bytes.items; calls = h.calls.items }) h.bytes.items c.args.call
    c.self.invariant c.requires.quiet within)
