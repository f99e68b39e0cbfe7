-- What a value of a member must be. A rule gives what a value spells, or the breach: a value of the
-- wrong kind first, then one that is too long, then one out of range. Our own profile of the
-- Time-addressable Media Store.
use Rattle.std.specs.Prelude.{ℕ, List, Bool, true, ◌&&◌, nat_le, length, Option, Some, None, Result, Ok, Err, option_and_then, if◌then◌else◌}
use Rattle.serde_json.specs.Data.{Num, Data}
use Rattle.serde_json.specs.Find.{get, as_str, as_bool, as_number, as_u64}
use Rattle.media_rows.specs.declared.refusal.Refusal.{Refusal}
use Rattle.media_rows.specs.declared.refusal.Refusal.TheVariants as refusals
use Rattle.media_rows.specs.Ids.{id_of}
use Rattle.json_bodies.specs.declared.fault.Breach.{Breach}
use Rattle.json_bodies.specs.declared.fault.Breach.TheVariants.{Missing, WrongKind, TooLong, OutOfRange, BadTimerange}

-- ---- one after another

-- the first answer, and with its value the second
infixl 10 ◌>>=◌
abbrev pub ◌>>=◌ : {X Y E : Type 0} → Result X E → (X → Result Y E) → Result Y E
◌>>=◌ (Ok x) next = next x
◌>>=◌ (Err why) next = Err why

-- ---- limits

-- the bytes of the longest text, but for a description
abbrev pub longest_text : ℕ
longest_text = 1024

-- the bytes of the longest description
abbrev pub longest_description : ℕ
longest_description = 8192

-- the largest whole number
abbrev pub last_whole : ℕ
last_whole = 9_223_372_036_854_775_807

-- ---- kinds

-- each value passes
abbrev pub is_any : {X : Type 0} → X → Bool
is_any x = true

-- it has at most so many bytes or items
abbrev pub has_at_most : {X : Type 0} → ℕ → List X → Bool
has_at_most most xs = nat_le (length xs) most

-- it has so many bytes or items
abbrev pub has_between : {X : Type 0} → ℕ → ℕ → List X → Bool
has_between least most xs = nat_le least (length xs) && nat_le (length xs) most

-- it passes a test
abbrev pub in_range : {X : Type 0} → (X → Bool) → X → Result X Breach
in_range within x = if within x then Ok x else Err OutOfRange

-- what is of its kind, where it is short enough and in range
abbrev pub judged : {X : Type 0} → (X → Bool) → (X → Bool) → Option X → Result X Breach
judged short within None = Err WrongKind
judged short within (Some x) = if short x then in_range within x else Err TooLong

-- what is of its kind, where nothing more is asked
abbrev pub of_kind : {X : Type 0} → Option X → Result X Breach
of_kind None = Err WrongKind
of_kind (Some x) = Ok x

-- a text of at most so many bytes
abbrev pub text : ℕ → Data → Result (List ℕ) Breach
text most value = judged (has_at_most most) is_any (as_str value)

-- a truth value
abbrev pub truth : Data → Result Bool Breach
truth value = of_kind (as_bool value)

-- a number that is whole, not negative and in a range
abbrev pub number_from : ℕ → ℕ → Option ℕ → Result ℕ Breach
number_from least most None = Err OutOfRange
number_from least most (Some n) = in_range (λ m. nat_le least m && nat_le m most) n

-- a number, where there is one, in a range
abbrev pub ranged : ℕ → ℕ → Option Num → Result ℕ Breach
ranged least most None = Err WrongKind
ranged least most (Some number) = number_from least most (as_u64 number)

-- a whole number in a range, of which both ends belong to it
abbrev pub whole : ℕ → ℕ → Data → Result ℕ Breach
whole least most value = ranged least most (as_number value)

-- the id that a text spells
abbrev pub id_of_value : Data → Option ℕ
id_of_value value = option_and_then id_of (as_str value)

-- an id
abbrev pub id : Data → Result ℕ Breach
id value = of_kind (id_of_value value)

-- ---- members of an object

-- the refusal of a breach, with the member's name
abbrev pub breach_of : List ℕ → Breach → Refusal
breach_of name Missing = refusals.Missing name
breach_of name WrongKind = refusals.WrongKind name
breach_of name TooLong = refusals.TooLong name
breach_of name OutOfRange = refusals.OutOfRange name
breach_of name BadTimerange = refusals.BadTimerange name

-- what a rule gives, where a breach is the refusal of the member of this name
abbrev pub named_result : {X : Type 0} → List ℕ → Result X Breach → Result X Refusal
named_result name (Ok x) = Ok x
named_result name (Err breach) = Err (breach_of name breach)

-- what a rule gives of a value that is there
abbrev pub some_of : {X : Type 0} → Result X Breach → Result (Option X) Breach
some_of (Ok x) = Ok (Some x)
some_of (Err breach) = Err breach

-- what a rule gives of a value that may be absent
abbrev pub absent_or : {X : Type 0} → (Data → Result X Breach) → Option Data
    → Result (Option X) Breach
absent_or rule None = Ok None
absent_or rule (Some value) = some_of (rule value)

-- what a rule gives of a value that has to be there
abbrev pub if_required : {X : Type 0} → (Data → Result X Breach) → Option Data → Result X Breach
if_required rule None = Err Missing
if_required rule (Some value) = rule value

-- a member that may be absent; `null` is a value
abbrev pub optional_member : {X : Type 0} → List ℕ → (Data → Result X Breach) → Data
    → Result (Option X) Refusal
optional_member name rule fields = named_result name (absent_or rule (get name fields))

-- a member that has to be there
abbrev pub required : {X : Type 0} → List ℕ → (Data → Result X Breach) → Data → Result X Refusal
required name rule fields = named_result name (if_required rule (get name fields))
