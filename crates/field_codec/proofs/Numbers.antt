-- Numbers of 4, 8 and 16 bytes, both ways.
use Rattle.std.proofs.Common.{◌≡◌, ◌≤◌, ◌<◌, ◌+◌, ◌*◌, ◌^◌, ◌/◌, ◌%◌, ℕ, List, [], ◌∷◌, ◌++◌, length, take, drop, Some, None, refl, sym, ap, ap₂, ◌∙◌, arith, length-append}
use Rattle.std.specs.Prelude.{nat_lt, Bool, true, false, if◌then◌else◌}
use Rattle.std.proofs.lemmas.Bool.{ltb-false, le-ltb}
use Rattle.std.proofs.lemmas.List.{take_at, drop_at, take-append-drop, length-take, length-drop}
use Rattle.std.proofs.lemmas.Nat.{be_bytes_4, be_bytes_8, from_be_bytes-to_be_bytes_4, from_be_bytes-to_be_bytes_8}
use Rattle.disk_trait.specs.Numbers.{u32_bytes, u64_bytes, u128_bytes}
use Rattle.disk_trait.proofs.NumberLemmas.{length-u64_bytes, length-u128_bytes, u128_of_halves}
use Rattle.field_codec.specs.Leaves.{number, number_at, u8_bytes, u8_of, u32_of, u64_of, u128_of, u8_spelling, u32_spelling, u64_spelling, u128_spelling}
use Rattle.field_codec.specs.Laws.{IsBytes, Lawful}
use Rattle.field_codec.proofs.Lawful.{IsBytes-take, IsBytes-drop}
use Rattle.field_codec.proofs.Combined.{leaf_lawful}

-- what is true of numbers in so many bytes
pub record IsWide (size limit : ℕ) (bytes_of : ℕ → List ℕ) (number_of : List ℕ → ℕ) : Type 0 where
  pub len : (n : ℕ) → length (bytes_of n) ≡ size
  pub back : (bytes : List ℕ) → length bytes ≡ size → IsBytes bytes → bytes_of (number_of bytes) ≡ bytes
  pub again : (n : ℕ) → n < limit → number_of (bytes_of n) ≡ n
  pub below : (bytes : List ℕ) → length bytes ≡ size → IsBytes bytes → number_of bytes < limit

-- ---- each width

one_byte : (bytes : List ℕ) → length bytes ≡ 1 → u8_bytes (u8_of bytes) ≡ bytes
one_byte [] e = absurd (let impossible : ⊥ = omega arith in impossible)
one_byte (b ∷ []) e = refl
one_byte (b ∷ c ∷ bytes) e = absurd (let impossible : ⊥ = omega (arith, e) in impossible)

pub wide8 : IsWide 1 (2 ^ 8) u8_bytes u8_of
wide8 = record {
  len = λ n. refl;
  back = λ bytes len is. one_byte bytes len;
  again = λ n lt. refl;
  below = λ bytes len is. omega (arith, is 0);
}

pub wide32 : IsWide 4 (2 ^ 32) u32_bytes u32_of
unfolding u32_bytes u32_of
wide32 = record {
  len = λ n. refl;
  back = λ bytes len is. be_bytes_4 bytes _ len is refl;
  again = λ n lt. from_be_bytes-to_be_bytes_4 n lt;
  below = λ bytes len is. omega (arith, is 0, is 1, is 2, is 3);
}

pub wide64 : IsWide 8 (2 ^ 64) u64_bytes u64_of
unfolding u64_bytes u64_of
wide64 = record {
  len = λ n. refl;
  back = λ bytes len is. be_bytes_8 bytes _ len is refl;
  again = λ n lt. from_be_bytes-to_be_bytes_8 n lt;
  below = λ bytes len is. omega (arith, is 0, is 1, is 2, is 3, is 4, is 5, is 6, is 7);
}

u128_back : (bytes : List ℕ) → length bytes ≡ 16 → IsBytes bytes → u128_bytes (u128_of bytes) ≡ bytes
unfolding u128_of
u128_back bytes len is =
    let front_len : length (take 8 bytes) ≡ 8 = omega (arith, length-take 8 bytes) in
    let back_len : length (drop 8 bytes) ≡ 8 = omega (arith, length-drop 8 bytes) in
    let low = wide64.below (drop 8 bytes) back_len (IsBytes-drop 8 bytes is) in
    u128_of_halves (u64_of (take 8 bytes)) (u64_of (drop 8 bytes)) low
    ∙ ap₂ (λ (x y : List ℕ). x ++ y) (wide64.back (take 8 bytes) front_len (IsBytes-take 8 bytes is))
    (wide64.back (drop 8 bytes) back_len (IsBytes-drop 8 bytes is))
    ∙ take-append-drop 8 bytes

u128_again : (n : ℕ) → n < 2 ^ 128 → u128_of (u128_bytes n) ≡ n
unfolding u128_of u128_bytes
u128_again n lt =
    let front = take_at (u64_bytes (n / 2 ^ 64)) (u64_bytes (n % 2 ^ 64)) 8 (length-u64_bytes (n / 2 ^ 64)) in
    let behind = drop_at (u64_bytes (n / 2 ^ 64)) (u64_bytes (n % 2 ^ 64)) 8 (length-u64_bytes (n / 2 ^ 64)) in
    let high : u64_of (u64_bytes (n / 2 ^ 64)) ≡ n / 2 ^ 64 = wide64.again (n / 2 ^ 64) (omega arith) in
    let low : u64_of (u64_bytes (n % 2 ^ 64)) ≡ n % 2 ^ 64 = wide64.again (n % 2 ^ 64) (omega arith) in
    ap₂ (λ (x y : ℕ). x * 2 ^ 64 + y) (ap u64_of front ∙ high) (ap u64_of behind ∙ low) ∙ omega arith

u128_below : (bytes : List ℕ) → length bytes ≡ 16 → IsBytes bytes → u128_of bytes < 2 ^ 128
unfolding u128_of
u128_below bytes len is =
    let high = wide64.below (take 8 bytes) (omega (arith, length-take 8 bytes)) (IsBytes-take 8 bytes is) in
    let low = wide64.below (drop 8 bytes) (omega (arith, length-drop 8 bytes)) (IsBytes-drop 8 bytes is) in
    omega arith

pub wide128 : IsWide 16 (2 ^ 128) u128_bytes u128_of
wide128 = record { len = length-u128_bytes; back = u128_back; again = u128_again; below = u128_below }

-- ---- reading a number

pub cond_some : {A : Type 0} (b : Bool) (x y : A) → (if b then None else Some x) ≡ Some y → (b ≡ false) × (x ≡ y)
cond_some true x y e = absurd cc
cond_some false x y e = (refl, cc)

pub number_takes : (size limit : ℕ) (bytes_of : ℕ → List ℕ) (number_of : List ℕ → ℕ) → IsWide size limit bytes_of number_of
    → (bytes : List ℕ) (n : ℕ) (rest : List ℕ) → IsBytes bytes → number_at size number_of bytes ≡ Some (n, rest) → (n < limit) × (bytes ≡ bytes_of n ++ rest)
number_takes size limit bytes_of number_of wide bytes n rest is e =
    let g = cond_some (nat_lt (length bytes) size) (number_of (take size bytes), drop size bytes) (n, rest) e in
    let long : size ≤ length bytes = ltb-false _ _ g.0 in
    let n-is : number_of (take size bytes) ≡ n = ap (λ (p : ℕ × List ℕ). p.0) g.1 in
    let rest-is : drop size bytes ≡ rest = ap (λ (p : ℕ × List ℕ). p.1) g.1 in
    let len : length (take size bytes) ≡ size = omega (arith, length-take size bytes) in
    let front : bytes_of n ≡ take size bytes = rw (← n-is) (wide.back (take size bytes) len (IsBytes-take size bytes is)) in
    (rw (← n-is) (wide.below (take size bytes) len (IsBytes-take size bytes is)), rw (front, ← rest-is) (sym (take-append-drop size bytes)))

pub number_again : (size limit : ℕ) (bytes_of : ℕ → List ℕ) (number_of : List ℕ → ℕ) → IsWide size limit bytes_of number_of
    → (n : ℕ) (rest : List ℕ) → n < limit → number_at size number_of (bytes_of n ++ rest) ≡ Some (n, rest)
number_again size limit bytes_of number_of wide n rest lt =
    let len = wide.len n in
    let long : nat_lt (length (bytes_of n ++ rest)) size ≡ false = le-ltb _ _ (omega (arith, length-append (bytes_of n) rest)) in
    rw (long, take_at (bytes_of n) rest size len, drop_at (bytes_of n) rest size len, wide.again n lt) refl

pub number_lawful : (size limit : ℕ) (bytes_of : ℕ → List ℕ) (number_of : List ℕ → ℕ) → IsWide size limit bytes_of number_of
    → Lawful (number size limit bytes_of number_of)
number_lawful size limit bytes_of number_of wide =
    leaf_lawful bytes_of (λ n. n < limit) (λ n. Unit {0}) (number_at size number_of)
    (record { takes = number_takes size limit bytes_of number_of wide; again = number_again size limit bytes_of number_of wide }) (λ n lt. tt)

pub u8_lawful : Lawful u8_spelling
unfolding u8_spelling
u8_lawful = number_lawful 1 (2 ^ 8) u8_bytes u8_of wide8

pub u32_lawful : Lawful u32_spelling
unfolding u32_spelling
u32_lawful = number_lawful 4 (2 ^ 32) u32_bytes u32_of wide32

pub u32_below : (n : ℕ) → u32_spelling.meaning.fits n → n < 2 ^ 32
unfolding u32_spelling
u32_below n h = h

pub u64_lawful : Lawful u64_spelling
unfolding u64_spelling
u64_lawful = number_lawful 8 (2 ^ 64) u64_bytes u64_of wide64

pub u128_lawful : Lawful u128_spelling
unfolding u128_spelling
u128_lawful = number_lawful 16 (2 ^ 128) u128_bytes u128_of wide128
