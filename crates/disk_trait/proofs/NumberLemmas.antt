-- Laws of whole numbers in bytes: their lengths, and that bytes spell one number.
use Rattle.std.proofs.Common.{◌≡◌, ℕ, ◌<◌, ◌+◌, ◌*◌, ◌/◌, ◌%◌, ◌^◌, List, ◌++◌, length, take, drop, sym, refl, ap, ap₂, ◌∙◌, arith, length-append}
use Rattle.std.proofs.Math.Seq.{take-append_seam, drop-append_seam}
use Rattle.std.specs.Int.{w32, w64, from_be_bytes}
use Rattle.std.proofs.lemmas.Nat.{from_be_bytes-to_be_bytes_4, from_be_bytes-to_be_bytes_8}
use Rattle.disk_trait.specs.Numbers.{u32_bytes, u64_bytes, u128_bytes}

pub length-u32_bytes : (n : ℕ) → length (u32_bytes n) ≡ 4
unfolding u32_bytes
length-u32_bytes n = refl

pub length-u64_bytes : (n : ℕ) → length (u64_bytes n) ≡ 8
unfolding u64_bytes
length-u64_bytes n = refl

pub length-u128_bytes : (n : ℕ) → length (u128_bytes n) ≡ 16
unfolding u128_bytes
length-u128_bytes n =
    omega (arith, length-append (u64_bytes (n / 2 ^ 64)) (u64_bytes (n % 2 ^ 64)), length-u64_bytes (n / 2 ^ 64), length-u64_bytes (n % 2 ^ 64))

-- Two numbers with the same bytes are one.
pub same_u32 : (a b : ℕ) → a < 2 ^ 32 → b < 2 ^ 32 → u32_bytes a ≡ u32_bytes b → a ≡ b
unfolding u32_bytes
same_u32 a b small less e =
    sym (from_be_bytes-to_be_bytes_4 a small) ∙ ap (from_be_bytes w32) e ∙ from_be_bytes-to_be_bytes_4 b less

pub same_u64 : (a b : ℕ) → a < 2 ^ 64 → b < 2 ^ 64 → u64_bytes a ≡ u64_bytes b → a ≡ b
unfolding u64_bytes
same_u64 a b small less e =
    sym (from_be_bytes-to_be_bytes_8 a small) ∙ ap (from_be_bytes w64) e ∙ from_be_bytes-to_be_bytes_8 b less

-- fronts of one length of the same list are the same, and so are the rests
pub same_front : (n : ℕ) (a b c d : List ℕ) → length a ≡ n → length c ≡ n → a ++ b ≡ c ++ d → a ≡ c
same_front n a b c d la lc e =
    sym (take-append_seam a b) ∙ ap₂ take (la ∙ sym lc) e ∙ take-append_seam c d

pub same_rest : (n : ℕ) (a b c d : List ℕ) → length a ≡ n → length c ≡ n → a ++ b ≡ c ++ d → b ≡ d
same_rest n a b c d la lc e =
    sym (drop-append_seam a b) ∙ ap₂ drop (la ∙ sym lc) e ∙ drop-append_seam c d

pub same_u128 : (a b : ℕ) → a < 2 ^ 128 → b < 2 ^ 128 → u128_bytes a ≡ u128_bytes b → a ≡ b
unfolding u128_bytes
same_u128 a b small less e =
    let high = same_front 8 (u64_bytes (a / 2 ^ 64)) _ (u64_bytes (b / 2 ^ 64)) _ (length-u64_bytes _) (length-u64_bytes _) e in
    let low = same_rest 8 (u64_bytes (a / 2 ^ 64)) _ (u64_bytes (b / 2 ^ 64)) _ (length-u64_bytes _) (length-u64_bytes _) e in
    let h : a / 2 ^ 64 ≡ b / 2 ^ 64 = same_u64 (a / 2 ^ 64) (b / 2 ^ 64) (omega arith) (omega arith) high in
    let l : a % 2 ^ 64 ≡ b % 2 ^ 64 = same_u64 (a % 2 ^ 64) (b % 2 ^ 64) (omega arith) (omega arith) low in
    omega arith

-- The bytes of a number that is put together from its halves are those of the halves.
pub u128_of_halves : (high low : ℕ) → low < 2 ^ 64 → u128_bytes (high * 2 ^ 64 + low) ≡ u64_bytes high ++ u64_bytes low
unfolding u128_bytes
u128_of_halves high low small =
    let h : (high * 2 ^ 64 + low) / 2 ^ 64 ≡ high = omega arith in
    let l : (high * 2 ^ 64 + low) % 2 ^ 64 ≡ low = omega arith in
    ap₂ (λ (x y : ℕ). u64_bytes x ++ u64_bytes y) h l
