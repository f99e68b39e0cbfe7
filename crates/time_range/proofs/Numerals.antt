-- Numbers in decimal: the last digit of a numeral, and the runs of readers over numerals.
use Rattle.std.proofs.Common.{◌≡◌, ℕ, zero, suc, ◌+◌, ◌*◌, ◌/◌, ◌%◌, ◌<◌, ◌≤◌, [], ◌∷◌, ◌++◌, map, Option, Some, inl, inr, sym, ◌∙◌, ap, refl, arith}
use Rattle.std.specs.Option.{option_and_then}
use Rattle.std.specs.Int.Digits.{digits_of}
use Rattle.std.proofs.lemmas.Int.Digits.{digits_of_step}
use Rattle.std.proofs.lemmas.List.{map-append}
use Rattle.std.proofs.lemmas.Bool.{cases_lt}
use Rattle.time_range.specs.Spelling.{numeral}
use Rattle.time_range.specs.Within.Scanning.{run}
use Rattle.time_range.proofs.Machines.{run_on}

-- the digits of a number above 0
numeral_above : (n : ℕ) → 0 < n → numeral n ≡ map (λ d. 48 + d) (digits_of 10 n)
unfolding numeral
numeral_above zero h = absurd (omega arith)
numeral_above (suc n) h = refl

-- a digit is its own numeral
pub numeral_digit : (d : ℕ) → d < 10 → numeral d ≡ (48 + d) ∷ []
unfolding numeral
numeral_digit zero h = refl
numeral_digit (suc d) h =
    let split = digits_of_step 10 (suc d) (omega arith) (omega arith) in
    let none : suc d / 10 ≡ 0 = omega arith in
    let last : suc d % 10 ≡ suc d = omega arith in
    ap (map (λ k. 48 + k)) (split ∙ ap (λ q. digits_of 10 q ++ suc d % 10 ∷ []) none) ∙ ap (λ k. (48 + k) ∷ []) last

-- one digit more behind a number above 0
pub numeral_more : (n d : ℕ) → 0 < n → d < 10 → numeral (10 * n + d) ≡ numeral n ++ (48 + d) ∷ []
numeral_more n d above digit =
    let split = digits_of_step 10 (10 * n + d) (omega arith) (omega arith) in
    let front : (10 * n + d) / 10 ≡ n = omega arith in
    let last : (10 * n + d) % 10 ≡ d = omega arith in
    let digits : digits_of 10 (10 * n + d) ≡ digits_of 10 n ++ d ∷ [] = split ∙ ap (λ q. digits_of 10 q ++ (10 * n + d) % 10 ∷ []) front ∙ ap
    (λ k. digits_of 10 n ++ k ∷ []) last in
    numeral_above (10 * n + d) (omega arith) ∙ ap (map (λ k. 48 + k)) digits ∙ map-append (λ k. 48 + k) (digits_of 10 n) (d ∷ [])
    ∙ ap (λ l. l ++ (48 + d) ∷ []) (sym (numeral_above n above))

-- a reader that enters at a digit and goes on at each further one reads every numeral below a bound
module _ {S : Type 0} (next : S → ℕ → Option S) (enter : S) (at : ℕ → S) (bound : ℕ) (first : (d : ℕ) → d < 10 → next enter (48 + d) ≡ Some (at d))
    (more : (n d : ℕ) → 0 < n → d < 10 → 10 * n + d < bound → next (at n) (48 + d) ≡ Some (at (10 * n + d))) where
  one_digit : (n : ℕ) → n < 10 → run next enter (numeral n) ≡ Some (at n)
  one_digit n digit = ap (run next enter) (numeral_digit n digit) ∙ ap (option_and_then (λ s. Some s)) (first n digit)

  longer_number : (n : ℕ) → 10 ≤ n → n < bound → run next enter (numeral (n / 10)) ≡ Some (at (n / 10)) → run next enter (numeral n) ≡ Some (at n)
  longer_number n long below front =
      let parts : 10 * (n / 10) + n % 10 ≡ n = omega arith in
      let last = more (n / 10) (n % 10) (omega arith) (omega arith) (omega arith) in
      let text : numeral n ≡ numeral (n / 10) ++ (48 + n % 10) ∷ [] = ap numeral (sym parts) ∙ numeral_more (n / 10) (n % 10) (omega arith) (omega arith) in
      ap (run next enter) text ∙ run_on next enter (at (n / 10)) (numeral (n / 10)) ((48 + n % 10) ∷ []) front
      ∙ ap (option_and_then (λ s. Some s)) last ∙ ap (λ k. Some (at k)) parts

  run_by_turns : (turns n : ℕ) → n ≤ turns → n < bound → run next enter (numeral n) ≡ Some (at n)
  run_by_turns zero n within below = one_digit n (omega arith)
  run_by_turns (suc turns) n within below =
      elim (cases_lt n 10) [
        | inl digit ↦ one_digit n digit
        | inr long ↦ longer_number n long below (run_by_turns turns (n / 10) (omega arith) (omega arith))
      ]

  pub run_numeral : (n : ℕ) → n < bound → run next enter (numeral n) ≡ Some (at n)
  run_numeral n below = run_by_turns n n (omega arith) below
