-- What a probe of a stored object tells of its bytes. Our own rules.
use Rattle.std.specs.Prelude.{◌≡◌, ℕ, List, Option, Some, None, unwrap_or}
use Rattle.media_rows.specs.declared.object.ObjectRow.{ObjectRow}
use Rattle.media_rows.specs.declared.object.ObjectState.{ObjectState}
use Rattle.media_rows.specs.declared.object.ObjectState.TheVariants.{Allocated}
use Rattle.media_rows.specs.Digests.{digest_of}
use Rattle.media_rows.specs.Objects.{digest_in_state}
use Rattle.store_states.specs.States.{state_bytes}
use Rattle.media_store.specs.declared.probes.Probe.{Probe}

-- the state of an object that may be missing, where one that isn't kept is as one without bytes
abbrev pub state_of : Option ObjectRow → ObjectState
state_of None = Allocated
state_of (Some row) = row.state

-- Found is the digest of the bytes that an image has of the object, where the media blocks begin
-- here; kept is the one in its row. Where none is kept of them, it is what was found.
pub record TellsRow (area : ℕ) (image : List ℕ) (row : ObjectRow) (probe : Probe) : Type 0 where
  pub found : probe.found ≡ digest_of (state_bytes image area row.state)
  pub kept : probe.kept ≡ unwrap_or (digest_in_state row.state) probe.found

-- the same of an object that may be missing
abbrev pub Tells : ℕ → List ℕ → Option ObjectRow → Probe → Type 0
Tells area image None probe = Unit {0}
Tells area image (Some row) probe = TellsRow area image row probe
