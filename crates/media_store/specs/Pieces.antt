-- The bytes of stored objects, as they are read in pieces. Our own rules.
use Rattle.std.specs.Prelude.{◌≡◌, Contains, Option}
use Rattle.media_rows.specs.declared.object.Digest.{Digest}
use Rattle.media_rows.specs.declared.object.Extent.{Extent}
use Rattle.media_rows.specs.declared.object.ObjectRow.{ObjectRow}
use Rattle.media_rows.specs.declared.object.ObjectState.TheVariants.{Stored}
use Rattle.media_rows.specs.Library.{Library}

-- the extent is that of a stored object of the library
pub record IsExtent (library : Library) (extent : Extent) : Type 0 where
  pub row : ObjectRow
  pub kept : Contains library.objects row
  pub digest : Option Digest
  pub stored : row.state ≡ Stored extent.start extent.length digest
