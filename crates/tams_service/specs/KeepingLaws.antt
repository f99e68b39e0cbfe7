-- What a service keeps of its device hangs on the images alone.
use Rattle.std.specs.Prelude.{ℕ, List}
use Rattle.disk_trait.specs.Device.{Device}
use Rattle.store_states.specs.Kept.{AgreesWith, StoreView}
use Rattle.store_states.specs.States.{StoreState}
use Rattle.connection_loop.specs.Turns.{SameImages}
use Rattle.media_store.specs.Stores.{StoreSeen}
use Rattle.tams_service.specs.Keeping.{KeepsState}

agrees_still : (kept : StoreView) (held : List (List ℕ)) (old new : Device)
    → AgreesWith old kept held → SameImages old new → AgreesWith new kept held
agrees_still kept held old new agrees same = record {
  header = agrees.header;
  text = agrees.text;
  records = agrees.records;
  makes = agrees.makes;
  gives = record {
    gives = λ left could.
        let from = same.images left could in
        rw from.2 (agrees.gives.gives from.0 from.1);
  };
  bytes = λ left could.
      let from = same.images left could in
      rw from.2 (agrees.bytes from.0 from.1);
}

pub keeps_images : (store : StoreSeen) (old new : Device) (s : StoreState)
    → KeepsState store old s → SameImages old new → KeepsState store new s
keeps_images store old new s keeps same = record {
  unspent = keeps.unspent;
  agrees = agrees_still store.kept s.archive.held old new keeps.agrees same;
  state = keeps.state;
}
