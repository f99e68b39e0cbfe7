-- Words that are numbers: what they begin with, and what `parse` reads from them.
use Rattle.std.proofs.Common.{◌≡◌, ◌≢◌, ◌<◌, ◌≤◌, ◌^◌, ◌∙◌, ◌∷◌, ℕ, zero, suc, true, List, [], length, get_or, Ok, Err, ap, sym, arith}
use Rattle.std.specs.Fmt.{decimal}
use Rattle.std.specs.Str.{IsUtf8, is_utf8}
use Rattle.std.specs.Str.Parse.{AllDigits, ParsesUnsigned, digits_value}
use Rattle.std.proofs.lemmas.Fmt.{decimal_nonempty, decimal_digit, first_decimal, IsAscii-decimal, parse-decimal, decimal-digits_value}
use Rattle.std.proofs.lemmas.Str.{IsUtf8-from_ascii, is_utf8-from_IsUtf8}
use Rattle.std.proofs.lemmas.Str.Ascii.{IsAscii-from_all}
use Rattle.std.proofs.lemmas.Str.Parse.{IsNumeralModel, numerals_by_value, parse_plain, tells_digits}
use Rattle.tams_words.specs.Words.{IsBase, IsNumber}

-- a number's word is not empty, and begins with a digit but `0`
pub record BeginsAsNumber (word : List ℕ) : Type 0 where
  pub some : 0 < length word
  pub first : 48 < get_or word 0 0

pub begins_as_number : (most : ℕ) (word : List ℕ) (n : ℕ) → most < 2 ^ 64 → IsNumber most word n → BeginsAsNumber word
begins_as_number most word n small is =
    let fits : n < 2 ^ 64 = omega (arith, is.fits) in
    record { some = rw is.text (decimal_nonempty n fits); first = rw is.text (first_decimal n is.least fits) }

pub number_is_utf8 : (most : ℕ) (word : List ℕ) (n : ℕ) → most < 2 ^ 64 → IsNumber most word n → IsUtf8 word
number_is_utf8 most word n small is =
    let fits : n < 2 ^ 64 = omega (arith, is.fits) in
    rw is.text (IsUtf8-from_ascii (decimal n) (IsAscii-decimal n fits))

-- `parse` reads it as that number, and does not fail
pub parsed_is : (most : ℕ) (word : List ℕ) (n m : ℕ) → most < 2 ^ 64 → IsNumber most word n → ParsesUnsigned {E = ℕ} 64 10 word (Ok m) → m ≡ n
parsed_is most word n m small is parses =
    let fits : n < 2 ^ 64 = omega (arith, is.fits) in
    let same = parse-decimal {E = ℕ} 64 n word (Ok m) fits fits is.text parses in
    cc

pub parse_reads : (most : ℕ) (word : List ℕ) (n : ℕ) → most < 2 ^ 64 → IsNumber most word n → ParsesUnsigned {E = ℕ} 64 10 word (Err 0) → ⊥
parse_reads most word n small is parses =
    let fits : n < 2 ^ 64 = omega (arith, is.fits) in
    let same = parse-decimal {E = ℕ} 64 n word (Err 0) fits fits is.text parses in
    cc

-- a number whose text begins with a digit but `0` is not 0
least_from_first : (word : List ℕ) (n : ℕ) → word ≡ decimal n → 48 < get_or word 0 0 → 1 ≤ n
least_from_first word zero e first =
    let zero_text : word ≡ 48 ∷ [] = e ∙ decimal_digit 0 (omega arith) in
    absurd (omega (arith, ap (λ w. get_or w 0 0) zero_text))
least_from_first word (suc n) e first = omega arith

-- what `parse` reads from such a word has the word as its text
pub number_from_parse : (most : ℕ) (word : List ℕ) (n : ℕ) → 48 < get_or word 0 0 → ParsesUnsigned {E = ℕ} 64 10 word (Ok n) → n ≤ most → IsNumber most word n
number_from_parse most word n first parses fits =
    let own : IsNumeralModel (AllDigits 10) (digits_value 10) = numerals_by_value (AllDigits 10) tells_digits in
    let no_sign : get_or word 0 0 ≢ 43 = omega arith in
    let read = parse_plain own {E = ℕ} 64 word (Ok n) parses no_sign in
    let written : decimal (digits_value 10 word) ≡ word =
    decimal-digits_value own word read.0.0 read.0.1 (λ e. absurd (omega arith)) read.0.2 in
    let text : word ≡ decimal n = sym written ∙ ap decimal (sym read.1) in
    record { text = text; least = least_from_first word n text first; fits = fits }

-- an address is text
pub base_is_utf8 : (base : List ℕ) → IsBase base → is_utf8 base ≡ true
base_is_utf8 base is =
    let ascii = IsAscii-from_all base (λ k d few. let byte = (is.bytes k d few).most in omega (arith, byte)) in
    is_utf8-from_IsUtf8 base (IsUtf8-from_ascii base ascii)
