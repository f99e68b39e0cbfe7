-- Moments, in whole seconds since 1970-01-01T00:00:00Z.
use Rattle.std.specs.Prelude.{◌≤◌, ℕ}

-- a moment up to 9999-12-31T23:59:59Z
abbrev pub IsMoment : ℕ → Type 0
IsMoment n = n ≤ 253402300799
