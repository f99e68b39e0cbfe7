-- The bytes that a feed keeps.
use Rattle.std.specs.Prelude.{ℕ, ◌+◌, List, [], ◌++◌, length, take, drop}

-- the bytes of what was given last, and those that stand behind them
pub record GivenParts : Type 0 where
  pub last : List ℕ
  pub unread : List ℕ

-- nothing
abbrev pub no_parts : GivenParts
no_parts = record { last = []; unread = [] }

-- the first unread bytes, so many, are what is given
abbrev pub held : ℕ → GivenParts → GivenParts
held n parts = record { last = take n parts.unread; unread = drop n parts.unread }

-- so many unread bytes fewer
abbrev pub skipped : ℕ → GivenParts → GivenParts
skipped n parts = record { last = parts.last; unread = drop n parts.unread }

-- more bytes behind
abbrev pub with_more : List ℕ → GivenParts → GivenParts
with_more bytes parts = record { last = parts.last; unread = parts.unread ++ bytes }

-- how many bytes are kept
abbrev pub kept_size : GivenParts → ℕ
kept_size parts = length parts.last + length parts.unread
