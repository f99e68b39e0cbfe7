-- Whether the objects of an archive are whole, and what is told of the first one that isn't.
use Rattle.std.specs.Prelude.{◌≡◌, ◌≢◌, ℕ, List, ◌∷◌, ◌++◌, All, Contains, Option, Some, None, IfSome}
use Rattle.media_rows.specs.declared.object.Digest.{Digest}
use Rattle.media_rows.specs.declared.object.ObjectRow.{ObjectRow}
use Rattle.media_rows.specs.Digests.{digest_of, digest_text}
use Rattle.media_rows.specs.Media.{Archive}
use Rattle.media_rows.specs.Objects.{bytes_of, digest_in_state}
use Rattle.media_store.specs.Stores.{archive_of}
use Rattle.media_store.specs.declared.probes.Probe.{Probe}
use Rattle.store_core.specs.Prepared.{stored_objects}
use Rattle.store_opening.specs.Opening.{bytes_in_image}
use Rattle.store_states.specs.Kept.{StoreView}
use Rattle.tams_outcomes.specs.declared.outcome.DamagedObject.{DamagedObject}

-- the digest of the bytes that an archive has of an object
abbrev pub found_digest : Archive → ObjectRow → Digest
found_digest archive row = digest_of (bytes_of row.id archive.library.objects archive.held)

-- An object is whole: its bytes have the digest that is kept of them. One of which none is kept, as
-- one without bytes, is whole.
abbrev pub IsWhole : Archive → ObjectRow → Type 0
IsWhole archive row = IfSome (digest_in_state row.state) (λ kept. kept ≡ found_digest archive row)

-- each object is whole
abbrev pub AreWhole : Archive → Type 0
AreWhole archive =
    (row : ObjectRow) → Contains archive.library.objects row → IsWhole archive row

-- An object isn't whole, and this is told of it: its id, the digest that is kept of its bytes, and
-- the one that they have.
pub record IsDamaged (archive : Archive) (row : ObjectRow) (damaged : DamagedObject) : Type 0 where
  pub kept : Digest
  pub kept_is : digest_in_state row.state ≡ Some kept
  pub differs : kept ≢ found_digest archive row
  pub object_told : damaged.object ≡ row.id
  pub kept_told : damaged.kept ≡ digest_text kept
  pub found_told : damaged.found ≡ digest_text (found_digest archive row)

-- This is told of the first stored object, by rising serial, that isn't whole.
pub record IsFirstDamaged (archive : Archive) (damaged : DamagedObject) : Type 0 where
  pub row : ObjectRow
  pub before : List ObjectRow
  pub later : List ObjectRow
  pub rows : stored_objects archive.library.objects ≡ before ++ row ∷ later
  pub whole : All (IsWhole archive) before
  pub damaged_is : IsDamaged archive row damaged

-- ---- what is told

-- the archive of what is kept, with the bytes that an image has of its objects
abbrev pub archive_in : List ℕ → StoreView → Archive
archive_in image kept = archive_of kept (bytes_in_image image kept)

-- what is told of an object that was probed
abbrev pub told_by : ObjectRow → Probe → DamagedObject
told_by row probe = record {
  object = row.id;
  kept = digest_text probe.kept;
  found = digest_text probe.found;
}

-- what is told of an object: nothing where it is whole
abbrev pub RowTold : Archive → ObjectRow → Option DamagedObject → Type 0
RowTold archive row None = IsWhole archive row
RowTold archive row (Some damaged) = IsDamaged archive row damaged

-- what is told of all: nothing where each is whole
abbrev pub FirstTold : Archive → Option DamagedObject → Type 0
FirstTold archive None = AreWhole archive
FirstTold archive (Some damaged) = IsFirstDamaged archive damaged
