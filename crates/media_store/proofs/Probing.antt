-- The object that is probed.
use Rattle.std.proofs.Common.{◌≡◌, ℕ, Bool, List, Option, Some, None}
use Rattle.library_laws.proofs.ListLemmas.{Contains-from_In, find-In}
use Rattle.media_rows.specs.declared.object.Digest.{Digest}
use Rattle.media_rows.specs.declared.object.ObjectRow.{ObjectRow}
use Rattle.media_rows.specs.declared.object.ObjectState.TheVariants.{Stored}
use Rattle.media_rows.specs.Library.{Library}
use Rattle.media_rows.specs.Objects.{object_of}
use Rattle.disk_trait.specs.Calls.{DiskReads}
use Rattle.disk_trait.specs.Device.{Device}
use Rattle.store_states.specs.Kept.{StoreView}
use Rattle.store_states.proofs.Agreeing.{quiet_calls_keep}
use Rattle.media_store.specs.Changes.{FileStands}
use Rattle.media_store.specs.Pieces.{IsExtent}
use Rattle.media_store.specs.Probes.{state_of}

-- after reads the file stands for what is kept as before
pub reads_stand : (ok : Bool) (old new : Device) (kept : StoreView) → DiskReads ok old new → FileStands old kept → FileStands new kept
reads_stand ok old new kept reads stands = record {
  held = stands.held;
  agrees = quiet_calls_keep old new kept stands.held reads.time stands.agrees;
}

-- the extent of a stored object
pub extent_found : (library : Library) (object : List ℕ) (row : Option ObjectRow) (start size : ℕ) (digest : Option Digest)
    → object_of object library.objects ≡ row → state_of row ≡ Stored start size digest
    → IsExtent library (record { start = start; length = size })
extent_found library object None start size digest is state = absurd (cc)
extent_found library object (Some row) start size digest is state = record {
  row = row;
  kept = Contains-from_In library.objects row (find-In _ library.objects row is).0;
  digest = digest;
  stored = state;
}
