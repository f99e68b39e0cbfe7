-- A page from the rows that lie past its key, and where these rows begin. Our own rules.
use Rattle.std.specs.Prelude.{ℕ, ℤ, List, Option, None, if◌then◌else◌, length, nat_lt, take}
use Rattle.media_rows.specs.declared.command.Page.{Page}
use Rattle.media_rows.specs.Lists.{last_key}

-- the key behind which the rows of a page lie, where it goes forward from one
abbrev pub key_before : Page → Option ℤ
key_before page = if page.reverse then None else page.after

-- the key of the last of the first so many rows, where there are more
abbrev pub key_behind : {X : Type 0} → (X → ℤ) → ℕ → List X → Option ℤ
key_behind key limit rows =
    if nat_lt limit (length rows) then last_key key (take limit rows) else None
