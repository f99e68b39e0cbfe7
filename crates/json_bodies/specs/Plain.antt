-- Values that print and read again: no number in them is a fraction, and they nest no deeper than
-- readers go.
use Rattle.std.specs.Prelude.{◌≡◌, ◌≤◌, false}
use Rattle.serde_json.specs.Data.{Data, depth}
use Rattle.serde_json.specs.Read.{max_depth}
use Rattle.serde_json.specs.Written.{has_float}

-- a value that prints and reads again
pub record IsPlain (value : Data) : Type 0 where
  pub whole : has_float value ≡ false
  pub nests : depth value ≤ max_depth
