-- What a service keeps of its device, and for which state that stands.
use Rattle.std.specs.Prelude.{◌≡◌, false}
use Rattle.disk_trait.specs.Device.{Device}
use Rattle.store_states.specs.Kept.{AgreesWith, kept_state}
use Rattle.store_states.specs.States.{StoreState}
use Rattle.media_store.specs.Stores.{StoreSeen}

-- A store that isn't spent keeps this state: what it has in memory agrees with the device, which
-- has the bytes of the state's objects. A spent one keeps none.
pub record KeepsState (store : StoreSeen) (d : Device) (s : StoreState) : Type 0 where
  pub unspent : store.spent ≡ false
  pub agrees : AgreesWith d store.kept s.archive.held
  pub state : s ≡ kept_state store.kept s.archive.held
