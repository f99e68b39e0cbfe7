use Rattle.std.proofs.Common.{◌+◌, filter, length, nat_lt}
use Rattle.media_rows.specs.declared.hook.HookRow.{HookRow}
use Rattle.store_delivery.specs.Within.Underway.{GoesOn}
use Rattle.store_delivery.proofs.delivering.deliver_events.Given as goal

-- the delivery so far
abbrev pub invariant-loop-due : goal.invariant-loop-due
invariant-loop-due g l =
    GoesOn (g.X.Disk.device l.fn.site) (g.X.Disk.device l.site) (g.C.Clock.tells l.fn.clock) (g.C.Clock.tells l.clock) (g.C.Clock.given l.fn.clock)
    (g.C.Clock.given l.clock) l.fn.store l.store l.after l.delivered

-- an event goes, or a hook was tried
abbrev pub decreases-loop-due : goal.decreases-loop-due
decreases-loop-due g l =
    length l.store.kept.library.outbox.events
    + length (filter (λ (row : HookRow). nat_lt l.after row.serial) l.store.kept.library.outbox.hooks)
