-- The digest stands last in the spelling of a stored object, and every digest can be spelled.
use Rattle.std.proofs.Common.{◌≡◌, ◌<◌, ◌-◌, ◌^◌, ℕ, List, [], ◌∷◌, ◌++◌, Some, length, take, drop, refl, sym, ap, ◌∙◌, arith}
use Rattle.std.specs.Prelude.{zero, suc, slice_index}
use Rattle.std.specs.List.{AllByRecursion}
use Rattle.std.specs.Int.{w32, w128, from_be_bytes, to_be_bytes}
use Rattle.std.proofs.lemmas.List.{append_assoc, length-append}
use Rattle.sha2.specs.Sha256.{sha256, digest_bytes as hash_bytes}
use Rattle.media_rows.specs.declared.change.Change.TheVariants as changes
use Rattle.media_rows.specs.declared.object.Digest.{Digest}
use Rattle.media_rows.specs.Digests.{digest_of}
use Rattle.disk_trait.specs.Numbers.{u128_bytes}
use Rattle.disk_trait.proofs.NumberLemmas.{length-u128_bytes}
use Rattle.field_codec.specs.Leaves.{u64_spelling, u128_spelling, text_spelling}
use Rattle.change_codec.specs.Values.{digest_spelling}
use Rattle.change_codec.specs.Changes.{all_changes, change_spelling, last_spelling, later_spelling}
use Rattle.disk_trait.specs.Forms.{form_in_use}
use Rattle.change_codec.specs.Digests.{DigestsAreLast, DigestsHaveHalves, DigestsTakeAlike, HasHalves, digest_bytes, ending_in}

-- ---- spellings

-- what a stored object spells before its digest
abbrev front_of : (moment : ℕ) (object : List ℕ) (start size : ℕ) → List ℕ
front_of moment object start size =
    15 ∷ (u64_spelling.meaning.spell moment ++ (text_spelling.meaning.spell object ++ (u64_spelling.meaning.spell start ++ u64_spelling.meaning.spell size)))

-- parts before a last one
before_last : (a b c d e : List ℕ) → a ++ (b ++ (c ++ (d ++ e))) ≡ (a ++ (b ++ (c ++ d))) ++ e
before_last a b c d e =
    let one : c ++ (d ++ e) ≡ (c ++ d) ++ e = sym (append_assoc c d e) in
    let two : b ++ ((c ++ d) ++ e) ≡ (b ++ (c ++ d)) ++ e = sym (append_assoc b (c ++ d) e) in
    let three : a ++ ((b ++ (c ++ d)) ++ e) ≡ (a ++ (b ++ (c ++ d))) ++ e = sym (append_assoc a (b ++ (c ++ d)) e) in
    ap (λ x. a ++ (b ++ x)) one ∙ ap (λ x. a ++ x) two ∙ three

spelled : (form moment : ℕ) (object : List ℕ) (start size : ℕ) (digest : Digest)
    → (change_spelling form).meaning.spell (changes.Store moment object start size (Some digest)) ≡ front_of moment object start size ++ digest_bytes digest
unfolding all_changes later_spelling last_spelling digest_spelling u128_spelling
spelled form moment object start size digest =
    ap (λ x. 15 ∷ x)
    (before_last (u64_spelling.meaning.spell moment) (text_spelling.meaning.spell object) (u64_spelling.meaning.spell start) (u64_spelling.meaning.spell size)
    (digest_bytes digest))

-- one digest takes as many bytes as another
same_length : (a b : Digest) → length (digest_bytes a) ≡ length (digest_bytes b)
same_length a b =
    omega (
      arith,
      length-append (u128_bytes a.high) (u128_bytes a.low),
      length-append (u128_bytes b.high) (u128_bytes b.low),
      length-u128_bytes a.high,
      length-u128_bytes a.low,
      length-u128_bytes b.high,
      length-u128_bytes b.low,
    )

front_alone : (front back : List ℕ) → take (length front) (front ++ back) ≡ front
front_alone [] back = refl
front_alone (n ∷ front) back = ap (λ x. n ∷ x) (front_alone front back)

-- as many bytes in place of the last ones
replaced : (front old new : List ℕ) → length new ≡ length old → ending_in new (front ++ old) ≡ front ++ new
replaced front old new e =
    let before : length (front ++ old) - length new ≡ length front = omega (arith, length-append front old, e) in
    ap (λ n. take n (front ++ old) ++ new) before ∙ ap (λ x. x ++ new) (front_alone front old)

-- what fits with one digest fits with another
fits_with : (form moment : ℕ) (object : List ℕ) (start size : ℕ) (kept digest : Digest) → HasHalves digest
    → (change_spelling form).meaning.fits (changes.Store moment object start size (Some kept))
    → (change_spelling form).meaning.fits (changes.Store moment object start size (Some digest))
unfolding all_changes later_spelling last_spelling digest_spelling u128_spelling
fits_with form moment object start size kept digest halves fits =
    let old = fits.0 in
    ((old.0, (old.1.0, (old.1.1.0, (old.1.1.1.0, (halves.high, halves.low))))), fits.1)

pub digests_are_last : DigestsAreLast
digests_are_last form moment object start size kept digest bytes spells halves =
    let front = front_of moment object start size in
    let was : bytes ≡ front ++ digest_bytes kept = spells.whole ∙ spelled form moment object start size kept in
    let now : ending_in (digest_bytes digest) bytes ≡ front ++ digest_bytes digest =
    ap (ending_in (digest_bytes digest)) was ∙ replaced front (digest_bytes kept) (digest_bytes digest) (same_length digest kept) in
    record {
      spells = record {
        fits = fits_with form moment object start size kept digest halves spells.fits;
        whole = now ∙ sym (spelled form moment object start size digest);
      };
      sized = omega (
        arith,
        ap length now,
        ap length was,
        length-append front (digest_bytes digest),
        length-append front (digest_bytes kept),
        same_length digest kept,
      );
    }

pub digests_take_alike : DigestsTakeAlike
digests_take_alike moment object start size kept digest =
    let front = front_of moment object start size in
    omega (
      arith,
      ap length (spelled form_in_use moment object start size digest),
      ap length (spelled form_in_use moment object start size kept),
      length-append front (digest_bytes digest),
      length-append front (digest_bytes kept),
      same_length digest kept,
    )

-- ---- halves

-- each of these is a byte
abbrev AreBytes : List ℕ → Type 0
AreBytes bytes = AllByRecursion (λ n. n < 256) bytes

bytes_in_front : (n : ℕ) (bytes : List ℕ) → AreBytes bytes → AreBytes (take n bytes)
bytes_in_front zero bytes all = tt
bytes_in_front (suc n) [] all = tt
bytes_in_front (suc n) (b ∷ bytes) all = (all.0, bytes_in_front n bytes all.1)

bytes_behind : (n : ℕ) (bytes : List ℕ) → AreBytes bytes → AreBytes (drop n bytes)
bytes_behind zero bytes all = all
bytes_behind (suc n) [] all = tt
bytes_behind (suc n) (b ∷ bytes) all = bytes_behind n bytes all.1

bytes_in_turn : (front back : List ℕ) → AreBytes front → AreBytes back → AreBytes (front ++ back)
bytes_in_turn [] back first second = second
bytes_in_turn (b ∷ front) back first second = (first.0, bytes_in_turn front back first.1 second)

byte_at : (bytes : List ℕ) (i : ℕ) → AreBytes bytes → slice_index bytes i < 256
byte_at [] i all = omega arith
byte_at (b ∷ bytes) zero all = all.0
byte_at (b ∷ bytes) (suc i) all = byte_at bytes i all.1

word_bytes : (n : ℕ) → AreBytes (to_be_bytes w32 n)
word_bytes n = (omega arith, (omega arith, (omega arith, (omega arith, tt))))

hash_is_bytes : (h : List ℕ) (n : ℕ) → AreBytes (hash_bytes h n)
unfolding hash_bytes
hash_is_bytes h zero = tt
hash_is_bytes h (suc n) = bytes_in_turn (hash_bytes h n) (to_be_bytes w32 (slice_index h n)) (hash_is_bytes h n) (word_bytes (slice_index h n))

sha256_is_bytes : (bytes : List ℕ) → AreBytes (sha256 bytes)
unfolding sha256
sha256_is_bytes bytes = hash_is_bytes _ 8

small_number : (bytes : List ℕ) → AreBytes bytes → from_be_bytes w128 bytes < 2 ^ 128
small_number bytes all =
    omega (
      arith,
      byte_at bytes 0 all,
      byte_at bytes 1 all,
      byte_at bytes 2 all,
      byte_at bytes 3 all,
      byte_at bytes 4 all,
      byte_at bytes 5 all,
      byte_at bytes 6 all,
      byte_at bytes 7 all,
      byte_at bytes 8 all,
      byte_at bytes 9 all,
      byte_at bytes 10 all,
      byte_at bytes 11 all,
      byte_at bytes 12 all,
      byte_at bytes 13 all,
      byte_at bytes 14 all,
      byte_at bytes 15 all,
    )

pub digests_have_halves : DigestsHaveHalves
unfolding digest_of
digests_have_halves bytes = record {
  high = small_number (take 16 (sha256 bytes)) (bytes_in_front 16 (sha256 bytes) (sha256_is_bytes bytes));
  low = small_number (drop 16 (sha256 bytes)) (bytes_behind 16 (sha256 bytes) (sha256_is_bytes bytes));
}
