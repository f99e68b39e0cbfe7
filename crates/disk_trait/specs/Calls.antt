-- What the calls of a disk read and leave, whether they succeed or fail. Our own model: between two
-- syncs each written range may hold any bytes, and after a sync that succeeded a crash leaves what
-- a read gives.
use Rattle.std.specs.Prelude.{◌≡◌, ◌<◌, ◌≤◌, ◌+◌, ◌^◌, ◌⊎◌, ℕ, Bool, true, List, ◌++◌, length, take, drop, IsTrue, IsFalse}
use Rattle.disk_trait.specs.Device.{Device, Left, may_leave}

-- What a call of a disk asks for: to read so many bytes at an offset, to write these bytes at one,
-- or to sync.
pub data DiskRequest : Type 0 where
  ReadAt : (at n : ℕ) → DiskRequest
  WriteAt : (at : ℕ) (bytes : List ℕ) → DiskRequest
  SyncAll : DiskRequest

-- the n bytes at this offset
abbrev pub bytes_at : List ℕ → ℕ → ℕ → List ℕ
bytes_at image at n = take n (drop at image)

-- the image with these bytes at this offset
abbrev pub overwritten : ℕ → List ℕ → List ℕ → List ℕ
overwritten at bytes image = take at image ++ bytes ++ drop (at + length bytes) image

-- after a write of n bytes that was cut short: any bytes in its range, and the same elsewhere
pub record Torn (at n : ℕ) (old new : List ℕ) : Type 0 where
  pub before : take at new ≡ take at old
  pub after : drop (at + n) new ≡ drop (at + n) old
  pub same_length : length new ≡ length old

-- the count rose, or it stands at the last value of a u64
abbrev pub Rose : ℕ → ℕ → Type 0
Rose before now = before + 1 < 2 ^ 64 → before < now

-- A count of faults over a call: it never falls, a call that succeeds leaves it, and one that fails
-- raises it.
pub record IsCounted (ok : Bool) (before now : ℕ) : Type 0 where
  pub never_falls : before ≤ now
  pub stays : IsTrue ok → now ≡ before
  pub rises : IsFalse ok → Rose before now

-- what no call changes
pub record SameDevice (old new : Device) : Type 0 where
  pub size : new.size ≡ old.size
  pub honest : new.honest ≡ old.honest
  pub shows : new.shows ≡ old.shows
  pub tells : new.tells ≡ old.tells

-- some outcome of a crash, one step before this one
abbrev pub Follows : (Left → Left → Type 0) → (Left → Type 0) → Left → Type 0
Follows step outcomes p = (q : Left) × outcomes q × step q p

-- Time goes on over a call. What a crash may leave once the call has ended follows from what one
-- could leave before it, by what the call does; at a moment within the call, by what it does so
-- far; and nothing is lost of what a crash might have left earlier.
pub record Elapses (within ended : Left → Left → Type 0) (old new : Device) : Type 0 where
  pub later : old.moment ≤ new.moment
  pub now : (p : Left) → may_leave new p → Follows ended (may_leave old) p
  pub since : (t : ℕ) (p : Left) → t ≤ old.moment → new.left_since t p
      → old.left_since t p ⊎ Follows within (may_leave old) p
  pub keeps : (t : ℕ) (p : Left) → t ≤ old.moment → old.left_since t p → new.left_since t p

-- a step that changes nothing
abbrev pub Unchanged : Left → Left → Type 0
Unchanged old new = new ≡ old

-- a step of a write of n bytes that a crash may have cut short
pub record TornWrite (at n : ℕ) (old new : Left) : Type 0 where
  pub image : Torn at n old.image new.image
  pub told : new.told ≡ old.told

-- What each call of a disk leaves: the links, and the count of its faults unless it fails. It takes
-- one moment at most, so that moments bound the number of calls. The step is what the call may do
-- to what a crash leaves.
pub record DiskCall (step : Left → Left → Type 0) (ok : Bool) (old new : Device) : Type 0 where
  pub same : SameDevice old new
  pub link : new.link ≡ old.link
  pub counted : IsCounted ok old.faults new.faults
  pub time : Elapses step step old new
  pub one_moment : new.moment ≤ old.moment + 1

-- a crash now leaves just these bytes
abbrev pub LeavesOnly : List ℕ → Device → Type 0
LeavesOnly image d = (p : Left) → may_leave d p → p.image ≡ image

-- What any number of calls of a disk leave, of which all succeeded or the last one failed.
pub record DiskCalls (ok : Bool) (old new : Device) : Type 0 where
  pub same : SameDevice old new
  pub link : new.link ≡ old.link
  pub counted : IsCounted ok old.faults new.faults

-- What any number of writes in a row leave, and syncs between them: all of their ranges lie within
-- n bytes from one place on, and they were handed so many bytes, or fewer where the last one
-- failed.
pub record DiskWrites (at n count : ℕ) (ok : Bool) (old new : Device) : Type 0 where
  pub calls : DiskCalls ok old new
  pub torn : old.shows ≡ true → Torn at n old.seen new.seen
  pub handed : old.tells ≡ true → IsTrue ok → new.handed ≡ old.handed + count
  pub handed_at_most : old.tells ≡ true → new.handed ≤ old.handed + count
  pub time : Elapses (TornWrite at n) (TornWrite at n) old new

-- What any number of reads leave, of which all succeeded or the last one failed: nothing changes of
-- what a crash may leave.
pub record DiskReads (ok : Bool) (old new : Device) : Type 0 where
  pub calls : DiskCalls ok old new
  pub seen : new.seen ≡ old.seen
  pub handed : new.handed ≡ old.handed
  pub time : Elapses Unchanged Unchanged old new
