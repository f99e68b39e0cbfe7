-- Numbers in decimal: what begins them, what `parse` reads from them, and their last digits alone.
use Rattle.std.proofs.Common.{◌≡◌, ◌≢◌, ◌<◌, ◌≤◌, ◌+◌, ◌-◌, ◌*◌, ◌/◌, ◌%◌, ◌^◌, ◌∙◌, ◌∷◌, ◌++◌, ℕ, zero, suc, List, [], length, get_or, take, Ok, Err, refl, ap, sym, subst, arith, add-one}
use Rattle.std.specs.Prelude.{Option, Some, None, IfSome, IsNone, MatchOption, codes}
use Rattle.std.proofs.lemmas.Bool.{true≢false}
use Rattle.std.specs.Fmt.{decimal}
use Rattle.std.specs.List.{All}
use Rattle.std.specs.Str.{IsUtf8}
use Rattle.std.specs.Str.Parse.{AllDigits, ParsesUnsigned, digits_value}
use Rattle.std.proofs.lemmas.Fmt.{decimal_nonempty, decimal_digit, first_decimal, IsAscii-decimal, parse-decimal, decimal-digits_value, digits_decimal}
use Rattle.std.proofs.lemmas.List.{take_more, length_push, same_from_push}
use Rattle.std.proofs.lemmas.List.Elements.{All-nil, All-push, All-get_or}
use Rattle.std.proofs.lemmas.Str.{IsUtf8-from_ascii}
use Rattle.std.proofs.lemmas.Str.Parse.{IsNumeralModel, numerals_by_value, parse_plain, tells_digits, digit_at}
use Rattle.hls_manifest.specs.Playlists.{IsLine, last_digits}
use Rattle.hls_manifest.specs.Progress.{IsNumber, IsNumberOrZero}
use Rattle.hls_manifest.proofs.LineLemmas.{line_from_bytes}

-- ---- what may be there

-- what holds of what is there
pub found_of : {X : Type 0} (r : Option X) (P : Type 0) (Q : X → Type 0) → MatchOption r P Q
    → IfSome r Q
found_of None P Q h = tt
found_of (Some x) P Q h = h

-- what holds where nothing is
pub none_of : {X : Type 0} (r : Option X) (P : Type 0) (Q : X → Type 0) → MatchOption r P Q
    → IsNone r → P
none_of None P Q h e = h
none_of (Some x) P Q h e = absurd (true≢false e)

-- ---- whole numbers

-- a number's word is not empty, and begins with a digit but `0`
pub record BeginsAsNumber (word : List ℕ) : Type 0 where
  pub some : 0 < length word
  pub first : 48 < get_or word 0 0

pub begins_as_number : (word : List ℕ) (n : ℕ) → IsNumber word n → BeginsAsNumber word
begins_as_number word n is = record {
  some = rw is.text (decimal_nonempty n is.most);
  first = rw is.text (first_decimal n is.least is.most);
}

pub number_is_utf8 : (word : List ℕ) (n : ℕ) → IsNumber word n → IsUtf8 word
number_is_utf8 word n is = rw is.text (IsUtf8-from_ascii (decimal n) (IsAscii-decimal n is.most))

-- `parse` does not fail on one
pub parse_reads : (word : List ℕ) (n : ℕ) → IsNumber word n
    → ParsesUnsigned {E = ℕ} 64 10 word (Err 0) → ⊥
parse_reads word n is parses =
    let same = parse-decimal {E = ℕ} 64 n word (Err 0) is.most is.most is.text parses in
    cc

-- a number whose text begins with a digit but `0` is not 0
least_from_first : (word : List ℕ) (n : ℕ) → word ≡ decimal n → 48 < get_or word 0 0 → 0 < n
least_from_first word zero e first =
    let zero_text : word ≡ 48 ∷ [] = e ∙ decimal_digit 0 (omega arith) in
    absurd (omega (arith, ap (λ w. get_or w 0 0) zero_text))
least_from_first word (suc n) e first = omega arith

-- texts of digits, as `parse` has them
numerals : IsNumeralModel (AllDigits 10) (digits_value 10)
numerals = numerals_by_value (AllDigits 10) tells_digits

-- what `parse` reads from such a word has the word as its text
pub number_from_parse : (word : List ℕ) (n : ℕ) → 48 < get_or word 0 0
    → ParsesUnsigned {E = ℕ} 64 10 word (Ok n) → n < 2 ^ 64 → IsNumber word n
number_from_parse word n first parses fits =
    let plus : get_or word 0 0 ≢ 43 = omega arith in
    let read = parse_plain numerals {E = ℕ} 64 word (Ok n) parses plus in
    let written : decimal (digits_value 10 word) ≡ word =
    decimal-digits_value numerals word read.0.0 read.0.1 (λ e. absurd (omega arith)) read.0.2 in
    let text : word ≡ decimal n = sym written ∙ ap decimal (sym read.1) in
    record { text = text; least = least_from_first word n text first; most = fits }

-- a number that isn't 0 is one of either form
pub number_or_zero : (word : List ℕ) (n : ℕ) → IsNumber word n → IsNumberOrZero word n
number_or_zero word n is = record { text = is.text; most = is.most }

pub zero_word : IsNumberOrZero (codes "0") 0
zero_word = record { text = sym (decimal_digit 0 (omega arith)); most = omega arith }

-- another word than `0` is no 0
pub number_but_zero : (word : List ℕ) (n : ℕ) → (word ≡ codes "0" → ⊥) → IsNumberOrZero word n
    → IsNumber word n
number_but_zero word zero other is = absurd (other (is.text ∙ decimal_digit 0 (omega arith)))
number_but_zero word (suc n) other is = record {
  text = is.text;
  least = omega arith;
  most = is.most;
}

-- a number has no line feed
pub decimal_line : (n : ℕ) → n < 2 ^ 64 → IsLine (decimal n)
decimal_line n fits = line_from_bytes (decimal n) (λ k below e.
    let range = digit_at (decimal n) k (digits_decimal numerals n fits) below in
    absurd (omega (arith, range, e)))

-- ---- last digits

-- how many there are
pub length-last_digits : (count n : ℕ) → length (last_digits count n) ≡ count
length-last_digits zero n = refl
length-last_digits (suc count) n =
    let front = length-last_digits count (n / 10) in
    let more = length_push (last_digits count (n / 10)) (48 + n % 10) in
    omega arith

-- a digit
pub record IsDigit (c : ℕ) : Type 0 where
  pub least : 48 ≤ c
  pub most : c ≤ 57

-- each is one
pub digits_are : (count n : ℕ) → All IsDigit (last_digits count n)
digits_are zero n = All-nil IsDigit
digits_are (suc count) n =
    All-push IsDigit (last_digits count (n / 10)) (48 + n % 10) (digits_are count (n / 10))
    (record { least = omega arith; most = omega arith })

-- they have no line feed
pub digits_line : (count n : ℕ) → IsLine (last_digits count n)
digits_line count n = line_from_bytes (last_digits count n) (λ k below e.
    let is = All-get_or IsDigit (last_digits count n) k 0 below (digits_are count n) in
    absurd (omega (arith, is.least, e)))

-- another byte stands in none
pub no_digit : (digits : List ℕ) (i count n : ℕ) → i < length digits
    → (IsDigit (get_or digits i 0) → ⊥) → digits ≡ last_digits count n → ⊥
no_digit digits i count n few other e =
    other (All-get_or IsDigit digits i 0 few (subst (All IsDigit) (sym e) (digits_are count n)))

-- one digit more
pub digits_more : (digits : List ℕ) (i n : ℕ) → i < length digits → take i digits ≡ last_digits i n
    → 48 ≤ get_or digits i 0 → get_or digits i 0 ≤ 57
    → take (i + 1) digits ≡ last_digits (i + 1) (n * 10 + (get_or digits i 0 - 48))
digits_more digits i n few before least most =
    let value = n * 10 + (get_or digits i 0 - 48) in
    let front : value / 10 ≡ n = omega arith in
    let last : 48 + value % 10 ≡ get_or digits i 0 = omega arith in
    take_more digits i 0 few
    ∙ ap (λ t. t ++ get_or digits i 0 ∷ []) before
    ∙ ap (λ m. last_digits i m ++ get_or digits i 0 ∷ []) (sym front)
    ∙ ap (λ c. last_digits i (value / 10) ++ c ∷ []) (sym last)
    ∙ ap (λ k. last_digits k value) (sym (add-one i))

-- numbers with as many digits have the same ones only where they are equal
pub same_digits : (count m n : ℕ) → m < 10 ^ count → n < 10 ^ count
    → last_digits count m ≡ last_digits count n → m ≡ n
same_digits zero m n fits_m fits_n e = omega arith
same_digits (suc count) m n fits_m fits_n e =
    let parts = same_from_push (last_digits count (m / 10)) (last_digits count (n / 10))
    (48 + m % 10) (48 + n % 10) e in
    let front : m / 10 ≡ n / 10 = same_digits count (m / 10) (n / 10) (omega arith) (omega arith)
    parts.0 in
    omega (arith, parts.1)
