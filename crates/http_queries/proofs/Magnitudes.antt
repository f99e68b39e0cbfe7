-- Digits that are read as a number of 128 bits.
use Rattle.std.proofs.Common.{◌≡◌, ◌<◌, ◌^◌, true, false, ℕ, List, [], ◌∷◌, Result, Ok, Err, Some, None, refl, arith, length, ◌==◌}
use Rattle.std.specs.Prelude.{nat_le, ◌&&◌}
use Rattle.std.specs.Char.{is_ascii_digit, digit_value}
use Rattle.std.specs.List.{list_all}
use Rattle.std.specs.Result.{result_ok}
use Rattle.std.specs.Str.{IsUtf8}
use Rattle.std.specs.Str.Parse.{AllDigits, IsNumeral, digits_value, without_leading_plus, ParsesUnsigned}
use Rattle.std.proofs.lemmas.Bool.{and_parts}
use Rattle.std.proofs.lemmas.Bool.Decides.{nat_tests}
use Rattle.std.proofs.lemmas.Str.{IsUtf8-from_ascii}
use Rattle.std.proofs.lemmas.Fmt.{IsAscii-from_digits}
use Rattle.http_queries.specs.Numbers.{fitting, is_plain_number}

-- the value of a digit
digit : (c : ℕ) → is_ascii_digit c ≡ true → digit_value c < 10
digit c h = grind (arith, nat_tests)

all_digits : (text : List ℕ) → list_all is_ascii_digit text ≡ true → AllDigits 10 text
all_digits [] h = tt
all_digits (c ∷ cs) h = let both = and_parts (is_ascii_digit c) (list_all is_ascii_digit cs) h in (digit c both.0, all_digits cs both.1)

-- a digit is no plus
not_plus : (c : ℕ) → is_ascii_digit c ≡ true → (c == 43) ≡ false
not_plus c h = grind (arith, nat_tests)

no_plus : (text : List ℕ) → list_all is_ascii_digit text ≡ true → without_leading_plus text ≡ text
no_plus [] h = refl
no_plus (c ∷ cs) h =
    let both = and_parts (is_ascii_digit c) (list_all is_ascii_digit cs) h in rw (not_plus c both.0) refl

-- the parts of the test
digits_of : (text : List ℕ) → is_plain_number text ≡ true → (nat_le 1 (length text) ≡ true) × (list_all is_ascii_digit text ≡ true)
digits_of text h =
    and_parts (nat_le 1 (length text)) (list_all is_ascii_digit text) (and_parts (nat_le 1 (length text) && list_all is_ascii_digit text) _ h).0

-- such a text is UTF-8
pub is_utf8_number : (text : List ℕ) → is_plain_number text ≡ true → IsUtf8 text
is_utf8_number text h = IsUtf8-from_ascii text (IsAscii-from_digits text (all_digits text (digits_of text h).1))

numeral : (text : List ℕ) → is_plain_number text ≡ true → IsNumeral 10 text
numeral text h =
    let parts = digits_of text h in
    let some : 0 < length text = grind (arith, nat_tests, parts.0) in
    (some, all_digits text parts.1)

fits : (n : ℕ) → n < 2 ^ 128 → Some n ≡ fitting n
fits n h = grind (arith, nat_tests)

past : (n : ℕ) → ¬ (n < 2 ^ 128) → None ≡ fitting n
past n h = grind (arith, nat_tests)

given : {E : Type 0} (text : List ℕ) (r : Result ℕ E) → IsNumeral 10 text → ParsesUnsigned 128 10 text r → without_leading_plus text ≡ text
    → result_ok r ≡ fitting (digits_value 10 text)
given text (Ok n) is h same =
    let k = rw same at h in rw k.1 (fits (digits_value 10 text) k.0.1)
given text (Err e) is h same =
    let k = rw same at h in past (digits_value 10 text) (λ small. k (is, small))

-- what is read of it
pub parsed : {E : Type 0} (text : List ℕ) (r : Result ℕ E) → is_plain_number text ≡ true → ParsesUnsigned 128 10 text r
    → result_ok r ≡ fitting (digits_value 10 text)
parsed text r h p = given text r (numeral text h) p (no_plus text (digits_of text h).1)
