-- The end of a head lies within the bytes that were looked at.
use Rattle.std.specs.Prelude.{ℕ, ◌≤◌, ⊤}
use Rattle.http_wire.specs.declared.lines.Looked.{Looked}
use Rattle.http_wire.specs.declared.lines.Looked.TheVariants as looks

-- a head that ends does so within so many bytes
abbrev pub IsLookedIn : Looked → ℕ → Type 0
IsLookedIn (looks.Ended n) size = n ≤ size
IsLookedIn (looks.Still place) size = ⊤
