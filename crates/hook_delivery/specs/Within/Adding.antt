-- Tokens that a writer adds.
use Rattle.std.specs.Prelude.{◌≡◌, List, ◌++◌}
use Rattle.json.specs.Token.{Token}
use Rattle.json.specs.Written.{Written}

-- these tokens stand behind those from before, and what was there at the start stays
pub record Adds (old new : Written) (tokens : List Token) : Type 0 where
  pub whole : new.tokens ≡ old.tokens ++ tokens
  pub before : new.before ≡ old.before
