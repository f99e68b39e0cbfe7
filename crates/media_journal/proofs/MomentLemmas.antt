-- What a crash may leave over calls of a device in a row.
use Rattle.std.proofs.Common.{◌≡◌, ◌≤◌, ◌+◌, ℕ, Bool, true, false, List, [], ◌∷◌, length, Result, Ok, Err, is_ok, OnOk, inl, inr, subst, sym, ◌∙◌}
use Rattle.disk_trait.specs.Device.{Device, Left, may_leave}
use Rattle.disk_trait.specs.Calls.{Elapses, LeavesOnly, TornWrite, Unchanged, overwritten}
use Rattle.disk_trait.specs.DiskMoments.{Then, WithinTwo}
use Rattle.disk_trait.proofs.Theorems.{elapses_along, elapses_twice, elapses_weaker, write_twice, write_wider}
use Rattle.media_journal.specs.Within.Steps.{SyncedWrite, SyncedWriteEnds, WithinWrites, WritesEnd}

-- a write and a step that changes nothing are that write
write_then_unchanged : (at n : ℕ) (q p : Left) → Then (TornWrite at n) Unchanged q p → TornWrite at n q p
write_then_unchanged at n q p steps = subst (λ (r : Left). TornWrite at n q r) (sym steps.2) steps.1

-- a write and its sync
pub synced_write : {T E : Type 0} (r : Result T E) (at : ℕ) (bytes : List ℕ) (old mid new : Device)
    → Elapses (TornWrite at (length bytes)) (TornWrite at (length bytes)) old mid → Elapses Unchanged Unchanged mid new → OnOk r (LeavesOnly new.seen new)
    → OnOk r (new.seen ≡ mid.seen) → mid.seen ≡ overwritten at bytes old.seen
    → Elapses (TornWrite at (length bytes)) (SyncedWriteEnds (is_ok r) at bytes old.seen) old new
synced_write r at bytes old mid new write sync only seen written =
    let n = length bytes in
    let torn = TornWrite at n in
    let both = elapses_twice torn torn Unchanged Unchanged old mid new write sync in
    elapses_weaker (WithinTwo torn torn Unchanged) (Then torn Unchanged) torn (SyncedWriteEnds (is_ok r) at bytes old.seen) old new both
    (λ q p could steps. elim steps [ inl so_far ↦ so_far | inr then ↦ write_then_unchanged at n q p then ])
    (λ q p could left steps. ends r only seen q p left (write_then_unchanged at n q p steps))
  where
    ends : {T E : Type 0} (r : Result T E) → OnOk r (LeavesOnly new.seen new) → OnOk r (new.seen ≡ mid.seen) → (q p : Left) → may_leave new p
        → TornWrite at (length bytes) q p → SyncedWriteEnds (is_ok r) at bytes old.seen q p
    ends (Ok x) only seen q p left torn = record { torn = torn; whole = only p left ∙ seen ∙ written }
    ends (Err e) only seen q p left torn = torn

-- whether its sync has succeeded or not, a write may have been cut short
pub synced_is_torn : (ok : Bool) (at : ℕ) (bytes seen : List ℕ) (q p : Left) → SyncedWriteEnds ok at bytes seen q p → TornWrite at (length bytes) q p
synced_is_torn true at bytes seen q p write = write.torn
synced_is_torn false at bytes seen q p write = write

-- a write and then that of one byte
pub bytes_written : (ok : Bool) (at : ℕ) (bytes : List ℕ) (byte_at byte : ℕ) (old mid new : Device) → mid.seen ≡ overwritten at bytes old.seen
    → Elapses (TornWrite at (length bytes)) (SyncedWrite at bytes old.seen) old mid
    → Elapses (TornWrite byte_at 1) (SyncedWriteEnds ok byte_at (byte ∷ []) mid.seen) mid new
    → Elapses (WithinWrites at bytes byte_at old.seen) (WritesEnd ok at bytes byte_at byte old.seen) old new
bytes_written ok at bytes byte_at byte old mid new seen first second =
    let both =
    elapses_twice (TornWrite at (length bytes)) (SyncedWrite at bytes old.seen) (TornWrite byte_at 1) (SyncedWriteEnds ok byte_at (byte ∷ []) mid.seen) old mid
    new first second in
    elapses_weaker _ _ _ _ old new both (λ q p could steps. steps) (λ q p could left steps. ends ok q p steps)
  where
    ends : (ok : Bool) (q p : Left) → Then (SyncedWrite at bytes old.seen) (SyncedWriteEnds ok byte_at (byte ∷ []) mid.seen) q p
        → WritesEnd ok at bytes byte_at byte old.seen q p
    ends true q p steps = (steps.0, steps.1, subst (λ (image : List ℕ). SyncedWrite byte_at (byte ∷ []) image steps.0 p) seen steps.2)
    ends false q p steps = inr steps

-- the write alone, whatever is read
pub torn_along : (at n : ℕ) (old mid new : Device) → Elapses (TornWrite at n) (TornWrite at n) old mid → Elapses Unchanged Unchanged mid new
    → Elapses (TornWrite at n) (TornWrite at n) old new
torn_along at n old mid new write sync =
    let torn = TornWrite at n in
    elapses_weaker (WithinTwo torn torn Unchanged) (Then torn Unchanged) torn torn old new (elapses_twice torn torn Unchanged Unchanged old mid new write sync)
    (λ q p could steps. elim steps [ inl so_far ↦ so_far | inr then ↦ write_then_unchanged at n q p then ])
    (λ q p could left steps. write_then_unchanged at n q p steps)

-- a write within a wider range, and one behind others
pub torn_within : (at n from k : ℕ) (old new : Device) → from ≤ at → at + n ≤ from + k → Elapses (TornWrite at n) (TornWrite at n) old new
    → Elapses (TornWrite from k) (TornWrite from k) old new
torn_within at n from k old new below above time =
    elapses_weaker (TornWrite at n) (TornWrite at n) (TornWrite from k) (TornWrite from k) old new time
    (λ q p could one. write_wider at n from k q p below above one)
    (λ q p could left one. write_wider at n from k q p below above one)

pub torn_then : (at n : ℕ) (old mid new : Device) → Elapses (TornWrite at n) (TornWrite at n) old mid → Elapses (TornWrite at n) (TornWrite at n) mid new
    → Elapses (TornWrite at n) (TornWrite at n) old new
torn_then at n old mid new first second = elapses_along (TornWrite at n) old mid new (write_twice at n) first second
