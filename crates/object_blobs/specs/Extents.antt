-- Where the bytes of objects lie in the file: in media blocks of 4,096 bytes, behind the halves of
-- the journal. Our own format, store format 1.
use Rattle.std.specs.Prelude.{◌+◌, ◌*◌, ◌≤◌, ℕ, List}
use Rattle.disk_trait.specs.Calls.{bytes_at}
use Rattle.media_rows.specs.declared.object.Extent.{Extent}

-- where an extent begins in a file whose media blocks begin here
abbrev pub extent_start : ℕ → Extent → ℕ
extent_start area extent = area + 4096 * extent.start

-- the bytes of an extent in an image
abbrev pub extent_bytes : ℕ → Extent → List ℕ → List ℕ
extent_bytes area extent image = bytes_at image (extent_start area extent) extent.length

-- the extent's bytes lie on a device of so many bytes
abbrev pub IsOnDevice : ℕ → Extent → ℕ → Type 0
IsOnDevice area extent size = extent_start area extent + extent.length ≤ size
