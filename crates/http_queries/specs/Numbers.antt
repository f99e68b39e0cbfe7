-- What values of a query spell: numbers, truth values and keys of pages. Our own profile of the
-- Time-addressable Media Store.
use Rattle.std.specs.Prelude.{ℕ, ◌^◌, ◌==◌, nat_eq, nat_le, nat_lt, min, ℤ, pos, neg_ℤ, List, length, drop, Bool, true, false, not, ◌&&◌, ◌||◌, Option, Some, None, option_map, option_and_then, if◌then◌else◌, bytes_eq, codes}
use Rattle.std.specs.Char.{is_ascii_digit}
use Rattle.std.specs.List.{list_all, starts_with}
use Rattle.std.specs.Str.Parse.{digits_value}
use Rattle.http_wire.specs.Fields.{read_length}
use Rattle.media_rows.specs.Ids.{id_of}
use Rattle.media_rows.specs.Views.{id_key}

-- the most items of a page
abbrev pub most_items : ℕ
most_items = 1000

-- the items of a page where no number is asked for
abbrev pub usual_items : ℕ
usual_items = 100

-- so many items, but for none, and at most as many as a page has
abbrev pub limited : ℕ → Option ℕ
limited n = if n == 0 then None else Some (min n most_items)

-- a limit: 1 to 19 digits that aren't 0
abbrev pub limit_in : List ℕ → Option ℕ
limit_in text = option_and_then limited (read_length text)

-- a truth value
abbrev pub truth_in : List ℕ → Option Bool
truth_in text =
    if bytes_eq text (codes "true") then Some true
    else if bytes_eq text (codes "false") then Some false else None

-- digits without a leading zero: one digit or more, and 0 alone begins with 0
abbrev pub is_plain_number : List ℕ → Bool
is_plain_number text =
    nat_le 1 (length text) && list_all is_ascii_digit text
    && (length text == 1 || not (starts_with nat_eq text (codes "0")))

-- a number, where it fits 128 bits
abbrev pub fitting : ℕ → Option ℕ
fitting n = if nat_lt n (2 ^ 128) then Some n else None

-- the number that such digits write, where it fits 128 bits
abbrev pub magnitude_in : List ℕ → Option ℕ
magnitude_in text = if is_plain_number text then fitting (digits_value 10 text) else None

-- a point that isn't below zero, within 128 bits with a sign
abbrev pub from_zero : ℕ → Option ℤ
from_zero n = if nat_lt n (2 ^ 127) then Some (pos n) else None

-- a point below zero
abbrev pub below_zero : ℕ → Option ℤ
below_zero n = if nat_le 1 n && nat_le n (2 ^ 127) then Some (neg_ℤ (pos n)) else None

-- a point of a timeline, in decimal: `-` stands exactly where it is below zero
abbrev pub point_in : List ℕ → Option ℤ
point_in text =
    if starts_with nat_eq text (codes "-")
    then option_and_then below_zero (magnitude_in (drop 1 text))
    else option_and_then from_zero (magnitude_in text)

-- the key of a page of flows or sources: an id
abbrev pub id_key_in : List ℕ → Option ℤ
id_key_in text = option_map id_key (id_of text)
