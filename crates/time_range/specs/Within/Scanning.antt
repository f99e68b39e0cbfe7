-- What has been read of a text, byte by byte, and which byte may follow. A timestamp's seconds are
-- kept by a function `cap`: the code keeps them up to the largest `u64`, and what is read stands on
-- all of them.
use Rattle.std.specs.Prelude.{◌≡◌, ℕ, ◌+◌, ◌-◌, ◌*◌, ◌^◌, ◌<◌, min, ◌==◌, nat_lt, nat_le, ◌&&◌, false, true, if◌then◌else◌, List, [], ◌∷◌, Option, Some, None, is_some, slice_index, length, take}
use Rattle.std.specs.Option.{option_map, option_and_then, option_or}
use Rattle.time_range.specs.declared.spelling.TsParts.{TsParts}
use Rattle.time_range.specs.declared.spelling.Bracket.{Bracket}
use Rattle.time_range.specs.declared.spelling.Bracket.TheVariants.{Square, Round}
use Rattle.time_range.specs.declared.spelling.Middle.TheVariants.{Empty, Single, Split}
use Rattle.time_range.specs.declared.spelling.RangeParts.{RangeParts}
use Rattle.time_range.specs.declared.scanning.TsScan.{TsScan}
use Rattle.time_range.specs.declared.scanning.TsScan.TheVariants.{Start, Signed, Seconds, Colon, Nanos}
use Rattle.time_range.specs.declared.scanning.RangeScan.{RangeScan}
use Rattle.time_range.specs.declared.scanning.RangeScan.TheVariants.{Left, First, Mark, Second, Right}

-- what has been read with all of the bytes, where no byte is refused
abbrev pub run : {S : Type 0} → (S → ℕ → Option S) → S → List ℕ → Option S
run next scan [] = Some scan
run next scan (byte ∷ bytes) = option_and_then (λ longer. run next longer bytes) (next scan byte)

-- the first byte that is refused stands at that place
abbrev pub StopsAt : {S : Type 0} → (S → ℕ → Option S) → S → List ℕ → ℕ → Type 0
StopsAt {S} next start text at =
    (scan : S) × (at < length text) × (run next start (take at text) ≡ Some scan)
    × (next scan (slice_index text at) ≡ None)

-- a number, up to the largest `u64`
abbrev pub capped : ℕ → ℕ
capped n = min n (2 ^ 64 - 1)

-- the value of a digit
abbrev pub digit_of : ℕ → Option ℕ
digit_of byte = if nat_le 48 byte && nat_le byte 57 then Some (byte - 48) else None

-- one more byte of a timestamp: no digit follows a leading zero, nor a ninth digit of nanoseconds
abbrev pub ts_next : (ℕ → ℕ) → TsScan → ℕ → Option TsScan
ts_next cap Start byte =
    if byte == 45 then Some Signed else option_map (Seconds false) (digit_of byte)
ts_next cap Signed byte = option_map (Seconds true) (digit_of byte)
ts_next cap (Seconds negative seconds) byte =
    if byte == 58 then Some (Colon negative seconds)
    else
    (if nat_lt 0 seconds then option_map (λ d. Seconds negative (cap (10 * seconds + d)))
    (digit_of byte) else None)
ts_next cap (Colon negative seconds) byte =
    option_map (λ d. Nanos (record { negative = negative; seconds = seconds; nanos = d }))
    (digit_of byte)
ts_next cap (Nanos p) byte =
    if nat_lt 0 p.nanos && nat_lt p.nanos 100_000_000
    then option_map
    (λ d. Nanos (record { negative = p.negative; seconds = p.seconds; nanos = 10 * p.nanos + d }))
    (digit_of byte)
    else None

-- the parts of what has been read, where it is a whole timestamp
abbrev pub stamp_read : TsScan → Option TsParts
stamp_read (Nanos p) = Some p
stamp_read scan = None

-- the bracket that opens a range
abbrev pub left_bracket : ℕ → Option Bracket
left_bracket byte = if byte == 91 then Some Square else (if byte == 40 then Some Round else None)

-- the bracket that closes a range
abbrev pub right_bracket : ℕ → Option Bracket
right_bracket byte = if byte == 93 then Some Square else (if byte == 41 then Some Round else None)

-- the first byte behind the left bracket, if it is none that closes the range
abbrev pub after_bracket : (ℕ → ℕ) → Option Bracket → ℕ → Option RangeScan
after_bracket cap left byte =
    if byte == 95 then Some (Mark left None) else option_map (First left) (ts_next cap Start byte)

-- one more byte of a range that is no right bracket
abbrev pub longer : (ℕ → ℕ) → RangeScan → ℕ → Option RangeScan
longer cap (Left None) byte =
    option_or (option_map (λ b. Left (Some b)) (left_bracket byte)) (after_bracket cap None byte)
longer cap (Left (Some bracket)) byte = after_bracket cap (Some bracket) byte
longer cap (First left first) byte =
    if byte == 95 then option_map (λ p. Mark left (Some p)) (stamp_read first)
    else option_map (First left) (ts_next cap first byte)
longer cap (Mark left first) byte = option_map (Second left first) (ts_next cap Start byte)
longer cap (Second left first second) byte =
    option_map (Second left first) (ts_next cap second byte)
longer cap (Right p) byte = None

-- the parts of what has been read, where it is a whole range
abbrev pub range_read : RangeScan → Option RangeParts
range_read (Left left) = Some (record { left = left; middle = Empty; right = None })
range_read (First left first) =
    option_map (λ p. record { left = left; middle = Single p; right = None }) (stamp_read first)
range_read (Mark left first) =
    Some (record { left = left; middle = Split first None; right = None })
range_read (Second left first second) =
    option_map (λ p. record { left = left; middle = Split first (Some p); right = None })
    (stamp_read second)
range_read (Right p) = Some p

-- a right bracket behind a range that has none yet
abbrev pub closed : RangeParts → ℕ → Option RangeScan
closed p byte =
    if is_some p.right then None
    else option_map (λ b. Right (record { left = p.left; middle = p.middle; right = Some b }))
    (right_bracket byte)

-- one more byte of a range
abbrev pub range_next : (ℕ → ℕ) → RangeScan → ℕ → Option RangeScan
range_next cap scan byte =
    option_or (longer cap scan byte) (option_and_then (λ p. closed p byte) (range_read scan))
