-- What is read at the front of some bytes, from what the code finds there.
use Rattle.std.proofs.Common.{◌≡◌, ◌≤◌, ◌<◌, ◌^◌, ℕ, List, length, take, drop, Some, Ok, Err, refl, sym, ap, ◌∙◌}
use Rattle.std.specs.Prelude.{nat_lt, true, false}
use Rattle.std.proofs.lemmas.Bool.{le-ltb, lt-ltb}
use Rattle.disk_trait.specs.Numbers.{u32_bytes, u64_bytes, u128_bytes}
use Rattle.field_codec.specs.Leaves.{number_at, u32_of, u64_of, u128_of, u32_spelling, u64_spelling, u128_spelling, text_spelling}
use Rattle.field_codec.proofs.Numbers.{IsWide, wide32, wide64, wide128}

-- the number whose bytes stand at the front is found
found : (size limit : ℕ) (bytes_of : ℕ → List ℕ) (number_of : List ℕ → ℕ) → IsWide size limit bytes_of number_of
    → (bytes front : List ℕ) (n : ℕ) → size ≤ length bytes → n < limit → front ≡ take size bytes → bytes_of n ≡ front
    → number_at size number_of bytes ≡ Some (n, drop size bytes)
found size limit bytes_of number_of wide bytes front n long lt cut is =
    let fits : nat_lt (length bytes) size ≡ false = le-ltb _ _ long in
    let value : number_of (take size bytes) ≡ n = ap number_of (sym cut ∙ sym is) ∙ wide.again n lt in
    rw (fits, value) refl

pub u32_found : (bytes front rest : List ℕ) (n : ℕ) → 4 ≤ length bytes → n < 2 ^ 32 → front ≡ take 4 bytes → u32_bytes n ≡ front → rest ≡ drop 4 bytes
    → u32_spelling.read bytes ≡ Ok (n, rest)
unfolding u32_spelling
u32_found bytes front rest n long lt cut is behind = rw (behind, found 4 (2 ^ 32) u32_bytes u32_of wide32 bytes front n long lt cut is) refl

pub u64_found : (bytes front rest : List ℕ) (n : ℕ) → 8 ≤ length bytes → n < 2 ^ 64 → front ≡ take 8 bytes → u64_bytes n ≡ front → rest ≡ drop 8 bytes
    → u64_spelling.read bytes ≡ Ok (n, rest)
unfolding u64_spelling
u64_found bytes front rest n long lt cut is behind = rw (behind, found 8 (2 ^ 64) u64_bytes u64_of wide64 bytes front n long lt cut is) refl

pub u128_found : (bytes front rest : List ℕ) (n : ℕ) → 16 ≤ length bytes → n < 2 ^ 128 → front ≡ take 16 bytes → u128_bytes n ≡ front → rest ≡ drop 16 bytes
    → u128_spelling.read bytes ≡ Ok (n, rest)
unfolding u128_spelling
u128_found bytes front rest n long lt cut is behind = rw (behind, found 16 (2 ^ 128) u128_bytes u128_of wide128 bytes front n long lt cut is) refl

pub text_found : (bytes front behind text rest : List ℕ) (n : ℕ) → 4 ≤ length bytes → n < 2 ^ 32 → front ≡ take 4 bytes → u32_bytes n ≡ front
    → behind ≡ drop 4 bytes
    → n ≤ length behind → text ≡ take n behind → rest ≡ drop n behind → text_spelling.read bytes ≡ Ok (text, rest)
unfolding text_spelling
text_found bytes front behind text rest n long lt cut is e enough text_is rest_is =
    let fits : nat_lt (length (drop 4 bytes)) n ≡ false = rw (← e) (le-ltb _ _ enough) in
    rw (found 4 (2 ^ 32) u32_bytes u32_of wide32 bytes front n long lt cut is, fits, text_is, rest_is, e) refl

pub text_short : (bytes front behind : List ℕ) (n : ℕ) → 4 ≤ length bytes → n < 2 ^ 32 → front ≡ take 4 bytes → u32_bytes n ≡ front → behind ≡ drop 4 bytes
    → length behind < n → text_spelling.read bytes ≡ Err (length bytes)
unfolding text_spelling
text_short bytes front behind n long lt cut is e short =
    let fits : nat_lt (length (drop 4 bytes)) n ≡ true = rw (← e) (lt-ltb _ _ short) in
    rw (found 4 (2 ^ 32) u32_bytes u32_of wide32 bytes front n long lt cut is, fits) refl
