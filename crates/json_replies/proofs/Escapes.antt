-- The set of bytes that the printer escapes is the complement of the unreserved ones.
use Rattle.std.proofs.Common.{◌≡◌, ℕ, zero, suc, ◌<◌, ◌≤◌, Bool, true, false, not, ◌&&◌, nat_lt, List, [], ◌∷◌, if◌then◌else◌, refl, sym, ap, arith}
use Rattle.std.proofs.lemmas.Grind.{common_steps}
use Rattle.std.specs.List.{flat_map}
use Rattle.percent_encoding.specs.AsciiSet.{should_percent_encode, contains}
use Rattle.percent_encoding.specs.Percent.{percent_encode, percent_encode_byte, encode_byte}
use Rattle.json_replies.specs.Addresses.{is_unreserved, escaped_byte}
use Rattle.json_replies.specs.declared.addresses.TheConstants.{ESCAPED}

-- whether two truth values are the same
abbrev same : Bool → Bool → Bool
same true b = b
same false b = not b

-- then they are equal
same-eq : (a b : Bool) → same a b ≡ true → a ≡ b
same-eq true true h = refl
same-eq true false h = sym h
same-eq false true h = h
same-eq false false h = refl

-- a test holds of each number below this one
abbrev all_below : (ℕ → Bool) → ℕ → Bool
all_below test zero = true
all_below test (suc n) = test n && all_below test n

-- then it holds of one of them
all_below-at : (test : ℕ → Bool) (n b : ℕ) → all_below test n ≡ true → b < n → test b ≡ true
all_below-at test zero b h l = absurd (omega (arith, l))
all_below-at test (suc n) b h l = grind (arith, common_steps, all_below-at test n b)

-- the set has a byte of ASCII exactly where that one is reserved
abbrev agree : ℕ → Bool
agree b = same (contains ESCAPED b) (not (is_unreserved b))

-- computed for each byte of ASCII
agree_all : all_below agree 128 ≡ true
agree_all = refl

-- no byte outside ASCII is unreserved
reserved_above : (b : ℕ) → 128 ≤ b → is_unreserved b ≡ false
reserved_above b l = grind (arith, common_steps)

-- which bytes are escaped
by_size : (b : ℕ) (small : Bool) → nat_lt b 128 ≡ small → should_percent_encode ESCAPED b ≡ not (is_unreserved b)
unfolding should_percent_encode
by_size b true h = rw h (same-eq (contains ESCAPED b) (not (is_unreserved b)) (all_below-at agree 128 b agree_all (grind arith)))
by_size b false h = rw (h, reserved_above b (grind arith)) refl

-- a choice the other way round
turned : {X : Type 0} (b : Bool) (x y : X) → (if not b then x else y) ≡ (if b then y else x)
turned true x y = refl
turned false x y = refl

-- what stands for a byte
escaped : (b : ℕ) → encode_byte ESCAPED b ≡ escaped_byte b
escaped b = rw (by_size b (nat_lt b 128) refl) (turned (is_unreserved b) (percent_encode_byte b) (b ∷ []))

-- and for a whole text
pub percent_encode-escaped : (text : List ℕ) → percent_encode ESCAPED text ≡ flat_map escaped_byte text
unfolding percent_encode
percent_encode-escaped text = ap (λ f. flat_map f text) (λ i b. escaped b i)
