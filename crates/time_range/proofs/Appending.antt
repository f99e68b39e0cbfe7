-- Texts that are appended piece by piece.
use Rattle.std.proofs.Common.{◌≡◌, ℕ, ◌+◌, ◌*◌, ◌/◌, ◌%◌, ◌<◌, ◌≤◌, List, [], ◌∷◌, ◌++◌, length, take, refl, sym, ◌∙◌, ap, arith}
use Rattle.std.proofs.lemmas.List.{append_assoc, take-take, take_at, length-append}
use Rattle.time_range.specs.Spelling.{numeral}
use Rattle.time_range.proofs.Numerals.{numeral_digit, numeral_more}

-- a digit appended is a number below ten
pub append_digit : (front : List ℕ) (n : ℕ) → n < 10 → front ++ (48 + n % 10) ∷ [] ≡ front ++ numeral n
append_digit front n digit =
    let same : n % 10 ≡ n = omega arith in ap (λ d. front ++ (48 + d) ∷ []) same ∙ ap (λ l. front ++ l) (sym (numeral_digit n digit))

-- the last digit appended behind the others
pub append_split : (front : List ℕ) (n : ℕ) → 10 ≤ n → (front ++ numeral (n / 10)) ++ (48 + n % 10) ∷ [] ≡ front ++ numeral n
append_split front n long =
    let parts : 10 * (n / 10) + n % 10 ≡ n = omega arith in
    append_assoc front (numeral (n / 10)) ((48 + n % 10) ∷ [])
    ∙ ap (λ l. front ++ l) (sym (numeral_more (n / 10) (n % 10) (omega arith) (omega arith)) ∙ ap numeral parts)

-- for `grind`, at a number that is appended
pub ruleset number_steps = (append_digit, append_split)

-- What begins with more than the old bytes begins with them. The first part says nothing: it shows
-- `grind` the term to look for.
pub extends_more : (old text new : List ℕ) → take (length (old ++ text)) new ≡ old ++ text →
    (take (length (old ++ text)) new ≡ take (length (old ++ text)) new) × (take (length old) new ≡ old)
extends_more old text new h = (
  refl,
  sym (take-take (length old) (length (old ++ text)) new (omega (arith, length-append old text))) ∙ ap (take (length old)) h ∙ take_at old text (length old)
      refl,
)
