-- What a disk in memory means. It is honest, and tells all that a disk can tell.
use Rattle.std.specs.Prelude.{◌≡◌, ◌<◌, ◌≤◌, ◌+◌, ◌^◌, ◌↔◌, ◌⊎◌, ◌&&◌, if◌then◌else◌, nat_lt, ℕ, Bool, true, false, List, [], ◌∷◌, length, take, sum_by, count_by, Contains, IsFalse}
use Rattle.disk_trait.specs.Device.{Device, Left}
use Rattle.disk_trait.specs.Calls.{DiskRequest, Torn, TornWrite, Unchanged, Rose}
use Rattle.disk_trait.specs.Fakes.{no_link}
use Rattle.disk_trait.specs.History.{Past, call_of, seen_after_call, seen_of, with_call, has_passed, has_failed, handed_by}
use Rattle.disk_trait.specs.declared.history.Call.{Call}
use Rattle.disk_trait.specs.declared.history.Call.TheVariants.{Read, Write, Sync}

-- what a crash may leave after this call, by what a read gave and what one could leave before it
abbrev pub left_after_call : Call → List ℕ → (List ℕ → Type 0) → List ℕ → Type 0
left_after_call (Read at n passed) seen left image = left image
left_after_call (Write at bytes passed) seen left image =
    (old : List ℕ) × left old × Torn at (length bytes) old image
left_after_call (Sync true) seen left image = image ≡ seen
left_after_call (Sync false) seen left image = left image

-- what a crash may leave after these calls
abbrev pub left_after : List Call → List ℕ → (List ℕ → Type 0) → List ℕ → Type 0
left_after [] seen left = left
left_after (call ∷ later) seen left =
    left_after later (seen_after_call call seen) (left_after_call call seen left)

-- a crash after so many calls, or within the last of them, may leave this image
abbrev pub LeavesAt : Past → ℕ → List ℕ → Type 0
LeavesAt past moment = left_after (take moment past.calls) past.first (λ image. image ≡ past.first)

-- a crash at a moment since t may leave this; a disk alone tells nobody anything
pub record LeavesSince (past : Past) (t : ℕ) (p : Left) : Type 0 where
  pub moment : ℕ
  pub later : t ≤ moment
  pub within : moment ≤ length past.calls
  pub image : LeavesAt past moment p.image
  pub told : p.told ≡ []

-- A disk in memory: its past, the numbers of the calls that fail, and how often a call found no
-- memory to be noted.
pub record DiskState : Type 0 where
  pub past : Past
  pub fail : List ℕ
  pub starved : ℕ

-- a disk with these bytes that made no call yet
abbrev pub fresh_disk : List ℕ → List ℕ → DiskState
fresh_disk bytes fail = record {
  past = record { first = bytes; calls = [] };
  fail = fail;
  starved = 0;
}

-- the device of a disk in memory
abbrev pub memory_device : DiskState → Device
memory_device disk = record {
  size = length (seen_of disk.past);
  faults = count_by has_failed disk.past.calls + disk.starved;
  honest = true;
  shows = true;
  tells = true;
  seen = seen_of disk.past;
  handed = sum_by handed_by disk.past.calls;
  link = no_link;
  moment = length disk.past.calls;
  left_since = LeavesSince disk.past;
}

-- the number of the next call
abbrev pub next_number : DiskState → ℕ
next_number disk = length disk.past.calls + 1

-- one more, while that fits a u64
abbrev pub counted_on : ℕ → ℕ
counted_on n = if nat_lt (n + 1) (2 ^ 64) then n + 1 else n

-- the disk after a call that was noted, or that found no memory
abbrev pub after_make : Bool → Call → DiskState → DiskState
after_make true call disk = record disk { past = with_call call disk.past }
after_make false call disk = record disk { starved = counted_on disk.starved }

-- A disk made this call: it was noted with whether it passed, or starved.
pub record MakesCall (call : Call) (old new : DiskState) (ok : Bool) : Type 0 where
  pub noted : Bool
  pub after : new ≡ after_make noted call old
  pub answer : ok ≡ (noted && has_passed call)
  pub listed : IsFalse (has_passed call) ↔ Contains old.fail (next_number old)

-- A call of a fake fails exactly where its number is in the list, or where it was starved.
pub record FailsAsListed (number : ℕ) (fail : List ℕ) (before now : ℕ) (ok : Bool) : Type 0 where
  pub never_falls : before ≤ now
  pub listed : Contains fail number → IsFalse ok
  pub starved : before < now → IsFalse ok
  pub only : IsFalse ok → Contains fail number ⊎ Rose before now

-- A call was starved: it changed nothing of the past, and the count of such calls rose.
pub record IsStarved (old new : DiskState) : Type 0 where
  pub past : new.past ≡ old.past
  pub rose : Rose old.starved new.starved

-- What a call leaves of a disk in memory: it was starved, or noted as the last of the calls, with
-- what it asked for and whether it passed. What a read gives then, and what a crash may leave,
-- follows from the calls: a write that failed keeps its first half, and a read or sync that failed
-- leaves all as it was.
pub record DiskCalled (asked : DiskRequest) (old new : DiskState) (ok : Bool) : Type 0 where
  pub fails : FailsAsListed (next_number old) old.fail old.starved new.starved ok
  pub fail : new.fail ≡ old.fail
  pub past : IsStarved old new ⊎ (new.past ≡ with_call (call_of asked ok) old.past)

-- what a call does to what a crash leaves
abbrev pub step_of : Call → Left → Left → Type 0
step_of (Read at n passed) = Unchanged
step_of (Write at bytes passed) = TornWrite at (length bytes)
step_of (Sync passed) = Unchanged
