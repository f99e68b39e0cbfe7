-- The rate of a flow: how many samples a second its essence parameters tell. Our own profile of the
-- Time-addressable Media Store.
use Rattle.std.specs.Prelude.{◌≡◌, refl, ℕ, Bool, true, false, List, Option, Some, None, option_and_then, if◌then◌else◌, codes}
use Rattle.std.specs.Str.{is_utf8}
use Rattle.serde_json.specs.Data.{Data}
use Rattle.serde_json.specs.Find.{get, as_number, as_u64}
use Rattle.serde_json.specs.Read.{read}
use Rattle.media_rows.specs.Lists.{or_else}
use Rattle.segment_pieces.specs.Fractions.{is_rate}
use Rattle.segment_pieces.specs.declared.rate.Rate.{Rate}

-- ---- rates

-- the rate of two numbers that passed the test, and none of two that didn't
abbrev pub rate_if : (numerator denominator : ℕ) → (passed : Bool)
    → is_rate numerator denominator ≡ passed → Option Rate
rate_if numerator denominator true passed =
    Some (record { numerator = numerator; denominator = denominator; in_range = passed })
rate_if numerator denominator false failed = None

-- the rate of two numbers, where both are from 1 to the greatest
abbrev pub rate_with : ℕ → ℕ → Option Rate
rate_with numerator denominator =
    rate_if numerator denominator (is_rate numerator denominator) refl

-- ---- values

-- the whole number of 64 bits that a value is, where it is one
abbrev pub number_in : Data → Option ℕ
number_in value = option_and_then as_u64 (as_number value)

-- the value of a member of an object, where the value is one and has it
abbrev pub member : List ℕ → Data → Option Data
member name value = get name value

-- the number of a denominator, which is 1 where it is absent
abbrev pub denominator_in : Option Data → Option ℕ
denominator_in None = Some 1
denominator_in (Some value) = number_in value

-- a frame rate: its numerator over its denominator
abbrev pub frame_rate : Data → Option Rate
frame_rate value = option_and_then
    (λ numerator. option_and_then (rate_with numerator)
    (denominator_in (member (codes "denominator") value)))
    (option_and_then number_in (member (codes "numerator") value))

-- a sample rate: its number over 1
abbrev pub sample_rate : Data → Option Rate
sample_rate value = option_and_then (λ number. rate_with number 1) (number_in value)

-- the rate that an essence value tells: its frame rate, or where it has none of such numbers its
-- sample rate
abbrev pub rate_in : Data → Option Rate
rate_in value = or_else
    (option_and_then frame_rate (member (codes "frame_rate") value))
    (option_and_then sample_rate (member (codes "sample_rate") value))

-- ---- texts

-- the JSON value that an essence text spells (RFC 8259, in UTF-8)
unfoldable pub value_in : List ℕ → Option Data
value_in text = if is_utf8 text then read text else None

-- the rate that an essence text tells, where there is one
abbrev pub rate_of : Option (List ℕ) → Option Rate
rate_of essence = option_and_then rate_in (option_and_then value_in essence)
