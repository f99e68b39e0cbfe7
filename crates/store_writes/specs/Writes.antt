-- What calls on a store's disk leave of the state for which the file stands. Our own rules.
use Rattle.std.specs.Prelude.{◌≡◌, ℕ, Bool, true, List}
use Rattle.media_rows.specs.declared.object.Extent.{Extent}
use Rattle.media_rows.specs.declared.object.ObjectRow.{ObjectRow}
use Rattle.media_rows.specs.Objects.{blocks_of}
use Rattle.disk_trait.specs.Calls.{Elapses}
use Rattle.disk_trait.specs.Device.{Device}
use Rattle.store_states.specs.Kept.{AgreesWith, MoveEnds, Moves, StoreView, kept_state}
use Rattle.store_states.specs.Laws.{is_clear}
use Rattle.store_states.specs.States.{StoreState}

-- no stored object has a block of this extent
abbrev pub IsFree : List ObjectRow → Extent → Type 0
IsFree objects extent = is_clear objects extent.start (blocks_of extent.length)

-- The call keeps what is kept: it still agrees with the device, and at each moment of the call a
-- crash leaves its state.
pub record Keeps (kept : StoreView) (held : List (List ℕ)) (old new : Device) : Type 0 where
  pub agrees : AgreesWith new kept held
  pub moments : Elapses (Moves (kept_state kept held) (kept_state kept held))
      (Moves (kept_state kept held) (kept_state kept held)) old new

-- The call makes one state of another, or fails: at each moment of it a crash leaves one of both.
-- Where it has succeeded, the next one alone is left, and it agrees with the device.
pub record Advances (ok : Bool) (before : StoreState) (next : StoreView) (held : List (List ℕ))
    (old new : Device) : Type 0 where
  pub moments : Elapses (Moves before (kept_state next held))
      (MoveEnds ok before (kept_state next held)) old new
  pub agrees : ok ≡ true → AgreesWith new next held
