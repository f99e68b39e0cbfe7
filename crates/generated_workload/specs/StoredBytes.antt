-- How many bytes the stored objects have: of a library, and of the rows of a snapshot. Our own
-- rules.
use Rattle.std.specs.Prelude.{◌≡◌, ℕ, List}
use Rattle.std.specs.List.{sum_by}
use Rattle.media_rows.specs.declared.object.ObjectRow.{ObjectRow}
use Rattle.media_rows.specs.declared.object.ObjectState.{ObjectState}
use Rattle.media_rows.specs.declared.object.ObjectState.TheVariants.{Allocated, Stored}
use Rattle.media_rows.specs.declared.row.Row.{Row}
use Rattle.media_rows.specs.declared.row.Row.TheVariants as rows
use Rattle.media_rows.specs.Library.{Library}
use Rattle.media_rows.specs.Snapshot.{rows_of}

-- the bytes of an object in this state: none as long as it isn't stored
abbrev pub length_if_stored : ObjectState → ℕ
length_if_stored Allocated = 0
length_if_stored (Stored start_block length digest) = length

-- the bytes of all these objects
abbrev pub stored_total : List ObjectRow → ℕ
stored_total objects = sum_by (λ row. length_if_stored row.state) objects

-- the bytes of a row's object; a row of another kind has none
abbrev pub row_bytes : Row → ℕ
row_bytes (rows.Source row) = 0
row_bytes (rows.Flow row) = 0
row_bytes (rows.Object row) = length_if_stored row.state
row_bytes (rows.Segment row) = 0
row_bytes (rows.Request row) = 0
row_bytes (rows.Hook row) = 0
row_bytes (rows.Event row) = 0
row_bytes (rows.Numbers next_serial) = 0

-- the bytes of all objects among these rows
abbrev pub stored_bytes_of : List Row → ℕ
stored_bytes_of rows = sum_by row_bytes rows

-- the rows of a library have the bytes of its objects
abbrev pub StoredBytesAreTheObjects : Type 0
StoredBytesAreTheObjects =
    (library : Library) → stored_bytes_of (rows_of library) ≡ stored_total library.objects
