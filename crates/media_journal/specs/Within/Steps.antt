-- What the writes of a record and of a store may have done so far, byte by byte. Only proofs need
-- these steps: what they come to stands in Moments.
use Rattle.std.specs.Prelude.{◌≡◌, ◌+◌, ◌⊎◌, ℕ, Bool, true, false, List, [], ◌∷◌, length, slice_index}
use Rattle.disk_trait.specs.Device.{Left}
use Rattle.disk_trait.specs.Calls.{TornWrite, overwritten}
use Rattle.disk_trait.specs.DiskMoments.{Then, WithinTwo}
use Rattle.media_journal.specs.File.{HasOpenHeader}
use Rattle.media_journal.specs.Formatting.{IsFormatted}

-- a write of these bytes over what was read, and a sync: no image has a part of them
pub record SyncedWrite (at : ℕ) (bytes seen : List ℕ) (old new : Left) : Type 0 where
  pub torn : TornWrite at (length bytes) old new
  pub whole : new.image ≡ overwritten at bytes seen

-- what such a write has done at its end, by whether it and its sync have succeeded
abbrev pub SyncedWriteEnds : Bool → ℕ → List ℕ → List ℕ → Left → Left → Type 0
SyncedWriteEnds true at bytes seen = SyncedWrite at bytes seen
SyncedWriteEnds false at bytes seen = TornWrite at (length bytes)

-- what two such writes may have done so far: the first may be cut short; or it is there, and the
-- second, of one byte, may be cut short
abbrev pub WithinWrites : ℕ → List ℕ → ℕ → List ℕ → Left → Left → Type 0
WithinWrites at bytes byte_at seen =
    WithinTwo (TornWrite at (length bytes)) (SyncedWrite at bytes seen) (TornWrite byte_at 1)

-- what they have done at their end
abbrev pub WritesEnd : Bool → ℕ → List ℕ → ℕ → ℕ → List ℕ → Left → Left → Type 0
WritesEnd true at bytes byte_at byte seen =
    Then (SyncedWrite at bytes seen) (SyncedWrite byte_at (byte ∷ []) (overwritten at bytes seen))
WritesEnd false at bytes byte_at byte seen = WithinWrites at bytes byte_at seen

-- the writes of a record: its frame behind the closed gate, and then the open gate
abbrev pub WithinRecord : ℕ → List ℕ → List ℕ → Left → Left → Type 0
WithinRecord gate frame seen = WithinWrites (gate + 1) frame gate seen

abbrev pub RecordEnds : Bool → ℕ → List ℕ → List ℕ → Left → Left → Type 0
RecordEnds ok gate frame seen = WritesEnd ok (gate + 1) frame gate 1 seen

-- a step after which the image is no store, and nothing was told
pub record LeavesNone (old new : Left) : Type 0 where
  pub told : new.told ≡ old.told
  pub image : ¬ (HasOpenHeader new.image)

-- a step that leaves the byte at the header's gate
pub record KeepsGate (old new : Left) : Type 0 where
  pub told : new.told ≡ old.told
  pub gate : slice_index new.image 40 ≡ slice_index old.image 40

-- what the writes of a store may have done so far over these bytes, with those of a header and a
-- half
pub record NoneOrFormatted (header half seen : List ℕ) (old new : Left) : Type 0 where
  pub told : new.told ≡ old.told
  pub image : (¬ (HasOpenHeader new.image)) ⊎ IsFormatted header half seen new.image

-- what they have done once all have succeeded
pub record MakesFormatted (header half seen : List ℕ) (old new : Left) : Type 0 where
  pub told : new.told ≡ old.told
  pub image : IsFormatted header half seen new.image

-- what they have done at their end
abbrev pub StoreEnds : Bool → List ℕ → List ℕ → List ℕ → Left → Left → Type 0
StoreEnds true = MakesFormatted
StoreEnds false = NoneOrFormatted
