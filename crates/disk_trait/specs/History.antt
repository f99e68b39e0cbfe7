-- What a device in memory has been through. Its calls are kept in order; all else follows from
-- them.
use Rattle.std.specs.Prelude.{◌+◌, zero, suc, ◌≤◌, Option, None, option_map, unwrap_or, slice_get, All, ◌≡◌, ◌/◌, ◌∷◌, ◌++◌, [], ℕ, Bool, true, false, not, List, length, take}
use Rattle.disk_trait.specs.Calls.{DiskRequest, ReadAt, WriteAt, SyncAll, overwritten}
use Rattle.disk_trait.specs.declared.history.Call.{Call}
use Rattle.disk_trait.specs.declared.history.Call.TheVariants.{Read, Write, Sync}

-- the bytes of a device at first, and its calls since, the oldest first
pub record Past : Type 0 where
  pub first : List ℕ
  pub calls : List Call

-- the bytes that a write keeps: all of them, or their first half where it fails
abbrev pub kept_bytes : Bool → List ℕ → List ℕ
kept_bytes true bytes = bytes
kept_bytes false bytes = take (length bytes / 2) bytes

-- the image with these bytes at this offset, as far as the image goes
abbrev pub put_over : ℕ → List ℕ → List ℕ → List ℕ
put_over at bytes image = take (length image) (overwritten at bytes image)

-- what a read gives after this call
abbrev pub seen_after_call : Call → List ℕ → List ℕ
seen_after_call (Read at n passed) image = image
seen_after_call (Write at bytes passed) image = put_over at (kept_bytes passed bytes) image
seen_after_call (Sync passed) image = image

-- what a read gives after these calls
abbrev pub seen_after : List Call → List ℕ → List ℕ
seen_after [] image = image
seen_after (call ∷ later) image = seen_after later (seen_after_call call image)

-- what a read gives now
abbrev pub seen_of : Past → List ℕ
seen_of past = seen_after past.calls past.first

-- the past with one more call
abbrev pub with_call : Call → Past → Past
with_call call past = record past { calls = past.calls ++ call ∷ [] }

-- the entry of a call that asked for this, and passed or failed
abbrev pub call_of : DiskRequest → Bool → Call
call_of (ReadAt at n) passed = Read at n passed
call_of (WriteAt at bytes) passed = Write at bytes passed
call_of SyncAll passed = Sync passed

-- whether a call passed
abbrev pub has_passed : Call → Bool
has_passed (Read at n passed) = passed
has_passed (Write at bytes passed) = passed
has_passed (Sync passed) = passed

-- whether a call failed
abbrev pub has_failed : Call → Bool
has_failed call = not (has_passed call)

-- how many bytes a call handed to `write_at`
abbrev pub handed_by : Call → ℕ
handed_by (Read at n passed) = 0
handed_by (Write at bytes passed) = length bytes
handed_by (Sync passed) = 0

-- the length of the range of a call
abbrev pub length_of : Call → ℕ
length_of (Read at n passed) = n
length_of (Write at bytes passed) = length bytes
length_of (Sync passed) = 0

-- the end of its range
abbrev pub range_end : Call → ℕ
range_end (Read at n passed) = at + n
range_end (Write at bytes passed) = at + length bytes
range_end (Sync passed) = 0

-- the length of the range of the call of this number, where it was made
abbrev pub range_length : Past → ℕ → Option ℕ
range_length past zero = None
range_length past (suc n) = option_map length_of (slice_get past.calls n)

-- the image of a stop within a call, after so many bytes of its range
abbrev pub stopped_within : ℕ → Call → List ℕ → List ℕ
stopped_within kept (Read at n passed) image = image
stopped_within kept (Write at bytes passed) image = put_over at (take kept bytes) image
stopped_within kept (Sync passed) image = image

-- the image of a stop within the call of this number, with all earlier calls done
abbrev pub stopped : Past → ℕ → ℕ → List ℕ
stopped past zero kept = past.first
stopped past (suc n) kept =
    let before = seen_after (take n past.calls) past.first in
    unwrap_or (option_map (λ call. stopped_within kept call before) (slice_get past.calls n))
    past.first

-- these bytes are what the calls made of those at first, each within them
pub record IsReplayed (past : Past) (bytes : List ℕ) : Type 0 where
  pub seen : seen_of past ≡ bytes
  pub within : All (λ call. range_end call ≤ length bytes) past.calls

-- a call that leaves the bytes as they are
abbrev pub IsQuiet : Call → Type 0
IsQuiet call = (image : List ℕ) → seen_after_call call image ≡ image
