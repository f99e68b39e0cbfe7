-- Words that the calls within this crate cite, and no other crate.
use Rattle.std.specs.Prelude.{◌≡◌, ◌≤◌, ◌+◌, ◌&&◌, ℕ, Bool, true, false, List, ◌++◌, length, take, bytes_eq, Option, Some, None, IsFalse}
use Rattle.media_rows.specs.declared.change.Change.{Change}
use Rattle.media_rows.specs.declared.change.Change.TheVariants as changes
use Rattle.media_rows.specs.declared.object.Extent.{Extent}
use Rattle.media_rows.specs.declared.refusal.Refusal.{Refusal}
use Rattle.media_rows.specs.declared.refusal.Refusal.TheVariants as refusals
use Rattle.media_rows.specs.Library.{Library}
use Rattle.change_codec.specs.Fitting.{State, fits}
use Rattle.disk_trait.specs.Calls.{bytes_at}
use Rattle.object_blobs.specs.Extents.{IsOnDevice, extent_bytes}
use Rattle.store_plans.specs.declared.outcome.Planned.{Planned}
use Rattle.store_plans.specs.declared.puts.PutPlan.{PutPlan}
use Rattle.store_plans.specs.declared.puts.PutPlan.TheVariants.{Refused, Kept, Write}
use Rattle.store_plans.specs.Plans.{IsStepPlan}
use Rattle.store_writes.specs.Writes.{IsFree}

-- The place of a put's bytes lies on a device of so many bytes, where the media blocks begin here,
-- and has bytes up to this end, as far as they are looked at.
abbrev pub IsPlacedOn : ℕ → ℕ → PutPlan → Bool → ℕ → Type 0
IsPlacedOn area size (Refused why) same end = Unit {0}
IsPlacedOn area size (Kept extent) same end =
    IsOnDevice area extent size × (same ≡ true → end ≤ extent.length)
IsPlacedOn area size (Write extent plan) same end =
    IsOnDevice area extent size × (end ≤ extent.length)

-- no stored object of a library has a block of the place where a put's bytes are written
abbrev pub LeavesObjects : Library → PutPlan → Type 0
LeavesObjects library (Refused why) = Unit {0}
LeavesObjects library (Kept extent) = Unit {0}
LeavesObjects library (Write extent plan) = IsFree library.objects extent

-- What a piece at this offset makes of a put over these bytes of a device and those after the call,
-- where the media blocks begin here, and the bytes were the same so far and then are still.
abbrev pub TakesAt : ℕ → PutPlan → List ℕ → ℕ → Bool → Bool → List ℕ → List ℕ → Type 0
TakesAt area (Refused why) piece at same still before after = Unit {0}
TakesAt area (Kept extent) piece at same still before after =
    still ≡ (same && bytes_eq (bytes_at (extent_bytes area extent before) at (length piece)) piece)
TakesAt area (Write extent plan) piece at same still before after =
    take (at + length piece) (extent_bytes area extent after)
    ≡ take at (extent_bytes area extent before) ++ piece

-- a change stores an object at this extent
abbrev pub StoresAt : Extent → Change → Type 0
StoresAt extent (changes.Store moment object start size digest) =
    (start ≡ extent.start) × (size ≡ extent.length)
StoresAt extent other = ⊥

-- the refusals that a put may have
abbrev pub is_put_refusal : Refusal → Bool
is_put_refusal refusals.UnknownObject = true
is_put_refusal refusals.OtherBytes = true
is_put_refusal refusals.JournalFull = true
is_put_refusal refusals.MediaFull = true
is_put_refusal other = false

-- the plan of a change that applies, and none exactly where it doesn't fit
abbrev pub IsPlannedIfFits : State → Change → Option Planned → Type 0
IsPlannedIfFits journal change None = IsFalse (fits journal change)
IsPlannedIfFits journal change (Some planned) = IsStepPlan journal (Some change) change planned
