use Rattle.std.proofs.Common.{◌+◌, ◌≤◌, length, unwrap_or, refl, arith}
use Rattle.disk_trait.specs.MemoryDiskLaws.{length-kept_bytes}
use Rattle.disk_trait.proofs.HistoryLemmas.{replayed_write}
use Rattle.disk_trait.proofs.history.History.write.Goals as goal

pub overwrite-requires : goal.overwrite-requires
overwrite-requires c =
    let fits : c.args.at + length c.args.bytes.now ≤ length c.self.inside.bytes.items = rw (← c.self.view_is, c.self.invariant.seen) at c.requires in
    rw c.kept.ensures (omega (arith, fits, length-kept_bytes c.args.passes c.args.bytes.now))

-- The first bytes stay, and those of now are the old ones with the kept bytes over them.
pub invariant_of-self-2 : goal.invariant_of-self-2
invariant_of-self-2 c =
    let h = c.self.inside in
    let fits : c.args.at + length c.args.bytes.now ≤ length h.bytes.items = rw (← c.self.view_is, c.self.invariant.seen) at c.requires in
    rw (c.in_ok-keep_first.ensures.ok, c.in_ok-push.ensures.items, c.overwrite.ensures, c.kept.ensures, c.in_ok-handed.ensures, c.deref.ensures.value)
    (replayed_write (record { first = unwrap_or h.first h.bytes.items; calls = h.calls.items }) h.bytes.items c.args.at c.args.bytes.now c.args.passes
    c.self.invariant fits)

pub returns-clause-ok : goal.returns-clause-ok
returns-clause-ok c = rw (c.in_ok-keep_first.ensures.ok, c.in_ok-push.ensures.items, c.in_ok-handed.ensures, c.deref.ensures.value, ← c.self.view_is) refl
