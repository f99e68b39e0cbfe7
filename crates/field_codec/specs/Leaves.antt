-- The fields of the file: numbers, ids, timestamps, marks, texts, options, lists, ends and ranges.
-- Numbers stand with the highest byte first. Our own rules.
use Rattle.std.proofs.Common.{inl, inr}
use Rattle.std.specs.Prelude.{◌==◌, ◌<◌, ◌+◌, ◌*◌, ◌^◌, ℕ, zero, suc, ℤ, nat_lt, Bool, true, false, if◌then◌else◌, List, [], ◌∷◌, ◌++◌, length, take, drop, get_or, Option, Some, None, ◌⊎◌}
use Rattle.std.specs.Int.{w32, w64, w128, from_be_bytes, cast_signed, cast_unsigned}
use Rattle.disk_trait.specs.Numbers.{u32_bytes, u64_bytes, u128_bytes}
use Rattle.time_range.specs.Points.{IsNanos, is_nanos, IsRange}
use Rattle.time_range.specs.Ends.{low_point, high_point, are_ordered}
use Rattle.time_range.specs.Spelling.{low_end, high_end}
use Rattle.time_range.specs.declared.ranges.Span.{Span}
use Rattle.time_range.specs.declared.ends.End.{End}
use Rattle.time_range.specs.declared.ends.End.TheVariants.{Unbounded, Including, Excluding}
use Rattle.field_codec.specs.Spelling.{Spelling, leaf, no_field, followed, pair, via, narrowed, either, no_kind, optional, items}

-- ---- numbers

-- the number of so many bytes at the front
abbrev pub number_at : ℕ → (List ℕ → ℕ) → List ℕ → Option (ℕ × List ℕ)
number_at size number_of bytes =
    if nat_lt (length bytes) size then None else Some (number_of (take size bytes), drop size bytes)

-- numbers below a limit, each in so many bytes
abbrev pub number : ℕ → ℕ → (ℕ → List ℕ) → (List ℕ → ℕ) → Spelling ℕ
number size limit bytes_of number_of =
    leaf bytes_of (λ n. n < limit) (λ n. Unit {0}) (number_at size number_of)

-- a number as one byte
abbrev pub u8_bytes : ℕ → List ℕ
u8_bytes n = n ∷ []

-- the number in one byte
abbrev pub u8_of : List ℕ → ℕ
u8_of bytes = get_or bytes 0 0

-- the number in 4 bytes
unfoldable pub u32_of : List ℕ → ℕ
u32_of bytes = from_be_bytes w32 bytes

-- the number in 8 bytes
unfoldable pub u64_of : List ℕ → ℕ
u64_of bytes = from_be_bytes w64 bytes

-- the number whose high half stands first
unfoldable pub u128_of : List ℕ → ℕ
u128_of bytes = u64_of (take 8 bytes) * 2 ^ 64 + u64_of (drop 8 bytes)

-- a number of 1 byte, as a kind or a mark
unfoldable pub u8_spelling : Spelling ℕ
u8_spelling = number 1 (2 ^ 8) u8_bytes u8_of

-- a number of 4 bytes, as a length or a count
unfoldable pub u32_spelling : Spelling ℕ
u32_spelling = number 4 (2 ^ 32) u32_bytes u32_of

-- a number of 8 bytes
unfoldable pub u64_spelling : Spelling ℕ
u64_spelling = number 8 (2 ^ 64) u64_bytes u64_of

-- an id, and the bits of a timestamp
unfoldable pub u128_spelling : Spelling ℕ
u128_spelling = number 16 (2 ^ 128) u128_bytes u128_of

-- the value with this number, of those in a list
abbrev pub with_number : {A : Type 0} → (A → ℕ) → List A → ℕ → Option A
with_number number_of [] n = None
with_number number_of (x ∷ xs) n = if n == number_of x then Some x else with_number number_of xs n

-- one of some values, as one byte with its number
abbrev pub one_of : {A : Type 0} → (A → ℕ) → List A → Spelling A
one_of number_of values =
    narrowed (with_number number_of values) number_of (λ x. Unit {0}) (λ x. Unit {0}) u8_spelling

-- ---- marks and timestamps

-- the mark with this number, if there is one
abbrev pub mark_of : ℕ → Option Bool
mark_of zero = Some false
mark_of (suc zero) = Some true
mark_of (suc (suc n)) = None

-- a mark's number
abbrev pub mark_number : Bool → ℕ
mark_number false = 0
mark_number true = 1

-- 0 or 1
unfoldable pub bool_spelling : Spelling Bool
bool_spelling = narrowed mark_of mark_number (λ b. Unit {0}) (λ b. Unit {0}) u8_spelling

-- the timestamp with these bits, if there is one
abbrev pub nanos_of : ℕ → Option ℤ
nanos_of bits = if is_nanos (cast_signed w128 bits) then Some (cast_signed w128 bits) else None

-- nanoseconds in two's complement
unfoldable pub ts_spelling : Spelling ℤ
ts_spelling = narrowed nanos_of (cast_unsigned w128) IsNanos (λ n. Unit {0}) u128_spelling

-- ---- texts and lists

-- the text of so many bytes that stands behind their number, where there are enough
abbrev pub text_at : Option (ℕ × List ℕ) → Option (List ℕ × List ℕ)
text_at None = None
text_at (Some n) = if nat_lt (length n.1) n.0 then None else Some (take n.0 n.1, drop n.0 n.1)

-- the number of its bytes, and these
abbrev pub counted_text : List ℕ → List ℕ
counted_text text = u32_bytes (length text) ++ text

-- the text has fewer bytes than 4 bytes can count
abbrev pub IsShort : List ℕ → Type 0
IsShort text = length text < 2 ^ 32

-- A text. Where bytes are missing, the whole text is faulty, at the beginning of its length.
unfoldable pub text_spelling : Spelling (List ℕ)
text_spelling = leaf counted_text IsShort IsShort (λ bytes. text_at (number_at 4 u32_of bytes))

-- the list has fewer items than 4 bytes can count
abbrev pub HasFew : {A : Type 0} → List A → Type 0
HasFew xs = length xs < 2 ^ 32

-- the number of its items, and these
abbrev pub listed : {A : Type 0} → Spelling A → Spelling (List A)
listed f =
    narrowed (λ x. Some x.1) (λ xs. (length xs, xs)) (λ xs. Unit {0}) HasFew
    (followed u32_spelling (items f))

-- ---- ranges

-- an end of a range by its three kinds: open, a timestamp that is in the range, one that is not
abbrev pub end_with : Unit {0} ⊎ (ℤ ⊎ (ℤ ⊎ ⊥)) → End
end_with (inl x) = Unbounded
end_with (inr (inl t)) = Including t
end_with (inr (inr (inl t))) = Excluding t
end_with (inr (inr (inr x))) = Unbounded

-- the kind of an end, and its timestamp
abbrev pub end_parts : End → Unit {0} ⊎ (ℤ ⊎ (ℤ ⊎ ⊥))
end_parts Unbounded = inl tt
end_parts (Including t) = inr (inl t)
end_parts (Excluding t) = inr (inr (inl t))

-- 0 open, 1 a timestamp that is in the range, 2 one that isn't
unfoldable pub end_spelling : Spelling End
end_spelling =
    via end_with end_parts (either 0 no_field (either 1 ts_spelling (either 2 ts_spelling no_kind)))

-- the range between two ends, where it has a point; never, where there are no ends
abbrev pub span_of : Option (End × End) → Option (Option Span)
span_of None = Some None
span_of (Some ends) =
    if are_ordered (low_point ends.0) (high_point ends.1)
    then Some (Some (record { low = low_point ends.0; high = high_point ends.1 })) else None

-- the two ends of a range; none for never
abbrev pub ends_of : Option Span → Option (End × End)
ends_of None = None
ends_of (Some s) = Some (low_end s.low, high_end s.high)

-- 0 never, or 1 and two ends that hold a point
unfoldable pub range_spelling : Spelling (Option Span)
range_spelling =
    narrowed span_of ends_of IsRange (λ r. Unit {0}) (optional (pair end_spelling end_spelling))
