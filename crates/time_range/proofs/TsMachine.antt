-- The reader of timestamps, with all of their seconds: it reads exactly the texts of timestamps.
use Rattle.std.proofs.Common.{◌≡◌, ℕ, ◌+◌, ◌-◌, ◌*◌, ◌^◌, ◌<◌, ◌≤◌, ◌==◌, nat_lt, nat_le, ◌&&◌, Bool, true, false, if◌then◌else◌, List, [], ◌∷◌, ◌++◌, Option, Some, None, sym, ◌∙◌, ap, refl, subst, arith}
use Rattle.std.specs.Option.{option_map}
use Rattle.std.proofs.lemmas.Bool.Decides.{nat_tests, Decides-eqb}
use Rattle.std.proofs.lemmas.List.{append_assoc, append-nil}
use Rattle.time_range.specs.Spelling.{numeral, sign_text, ts_text, IsStamp}
use Rattle.time_range.specs.Within.Scanning.{run, digit_of, ts_next, stamp_read}
use Rattle.time_range.specs.Prefixes.{BeginsSome}
use Rattle.time_range.specs.declared.spelling.TsParts.{TsParts}
use Rattle.time_range.specs.declared.scanning.TsScan.{TsScan}
use Rattle.time_range.specs.declared.scanning.TsScan.TheVariants.{Start, Signed, Seconds, Colon, Nanos}
use Rattle.time_range.proofs.Machines.{IsText, IsReader, run_on, along}
use Rattle.time_range.proofs.Numerals.{numeral_digit, numeral_more, run_numeral}

-- the reader that keeps all seconds
abbrev pub next_ts : TsScan → ℕ → Option TsScan
next_ts = ts_next (λ n. n)

-- ---- digits

-- the value of a digit's byte
pub digit_of-digit : (d : ℕ) → d < 10 → digit_of (48 + d) ≡ Some d
digit_of-digit d digit = grind (arith, nat_tests)

-- the bytes that are digits
digit_range : (c : ℕ) → (nat_le 48 c && nat_le c 57) ≡ true → (48 ≤ c) × (c ≤ 57)
digit_range c e = (grind (arith, nat_tests), grind (arith, nat_tests))

-- what follows from a digit, by the test of its byte
digit_from_test : {T : Type 0} (f : ℕ → T) (c : ℕ) (t : T) (b : Bool) → (b ≡ true → (48 ≤ c) × (c ≤ 57)) →
    option_map f (if b then Some (c - 48) else None) ≡ Some t → (d : ℕ) × (d < 10) × (c ≡ 48 + d) × (f d ≡ t)
digit_from_test f c t false range e = cc
digit_from_test f c t true range e = let r = range refl in (c - 48, omega (arith, r), omega (arith, r), cc)

-- what follows from a byte that is taken as a digit
pub digit_taken : {T : Type 0} (f : ℕ → T) (c : ℕ) (t : T) → option_map f (digit_of c) ≡ Some t → (d : ℕ) × (d < 10) × (c ≡ 48 + d) × (f d ≡ t)
digit_taken f c t e = digit_from_test f c t (nat_le 48 c && nat_le c 57) (digit_range c) e

-- ---- the text that leads to each state

abbrev pub said : TsScan → List ℕ
said Start = []
said Signed = sign_text true
said (Seconds negative seconds) = sign_text negative ++ numeral seconds
said (Colon negative seconds) = sign_text negative ++ (numeral seconds ++ 58 ∷ [])
said (Nanos p) = ts_text p

-- nanoseconds have at most nine digits
abbrev pub Fine : TsScan → Type 0
Fine (Nanos p) = IsStamp p
Fine scan = Unit {0}

abbrev pub Good : List ℕ → TsScan → Type 0
Good front scan = (front ≡ said scan) × Fine scan

-- ---- one byte more

start_step : (c : ℕ) (t : TsScan) (b : Bool) → (b ≡ true → c ≡ 45) →
    (if b then Some Signed else option_map (Seconds false) (digit_of c)) ≡ Some t → Good (c ∷ []) t
start_step c t true is e = let same : Signed ≡ t = cc in subst (Good (c ∷ [])) same (ap (λ k. k ∷ []) (is refl), tt)
start_step c t false is e =
    let (d, digit, byte, same) = digit_taken (Seconds false) c t e in
    subst (Good (c ∷ [])) same (ap (λ k. k ∷ []) byte ∙ sym (numeral_digit d digit), tt)

signed_step : (c : ℕ) (t : TsScan) → option_map (Seconds true) (digit_of c) ≡ Some t → Good (45 ∷ c ∷ []) t
signed_step c t e =
    let (d, digit, byte, same) = digit_taken (Seconds true) c t e in
    subst (Good (45 ∷ c ∷ [])) same (ap (λ k. 45 ∷ k ∷ []) byte ∙ ap (λ l. 45 ∷ l) (sym (numeral_digit d digit)), tt)

more_seconds : (front : List ℕ) (n : Bool) (s c : ℕ) (t : TsScan) (b : Bool) → (b ≡ true → 0 < s) →
    front ≡ sign_text n ++ numeral s →
    (if b then option_map (λ d. Seconds n (10 * s + d)) (digit_of c) else None) ≡ Some t → Good (front ++ c ∷ []) t
more_seconds front n s c t false above is e = cc
more_seconds front n s c t true above is e =
    let (d, digit, byte, same) = digit_taken (λ d. Seconds n (10 * s + d)) c t e in
    let text : front ++ c ∷ [] ≡ (sign_text n ++ numeral s) ++ (48 + d) ∷ [] = cc in
    subst (Good (front ++ c ∷ [])) same
    (text ∙ append_assoc (sign_text n) (numeral s) ((48 + d) ∷ []) ∙ ap (λ l. sign_text n ++ l) (sym (numeral_more s d (above refl) digit)), tt)

seconds_step : (front : List ℕ) (n : Bool) (s c : ℕ) (t : TsScan) (b : Bool) → (b ≡ true → c ≡ 58) →
    front ≡ sign_text n ++ numeral s →
    (if b then Some (Colon n s) else (if nat_lt 0 s then option_map (λ d. Seconds n (10 * s + d)) (digit_of c) else None)) ≡ Some t →
    Good (front ++ c ∷ []) t
seconds_step front n s c t true colon is e =
    let same : Colon n s ≡ t = cc in
    let byte = colon refl in
    let text : front ++ c ∷ [] ≡ (sign_text n ++ numeral s) ++ 58 ∷ [] = cc in
    subst (Good (front ++ c ∷ [])) same (text ∙ append_assoc (sign_text n) (numeral s) (58 ∷ []), tt)
seconds_step front n s c t false colon is e =
    more_seconds front n s c t (nat_lt 0 s) (λ above. grind (arith, nat_tests)) is e

colon_step : (front : List ℕ) (n : Bool) (s c : ℕ) (t : TsScan) → front ≡ sign_text n ++ (numeral s ++ 58 ∷ []) →
    option_map (λ d. Nanos (record { negative = n; seconds = s; nanos = d })) (digit_of c) ≡ Some t →
    Good (front ++ c ∷ []) t
colon_step front n s c t is e =
    let (d, digit, byte, same) = digit_taken (λ d. Nanos (record { negative = n; seconds = s; nanos = d })) c t e in
    let text : front ++ c ∷ [] ≡ (sign_text n ++ (numeral s ++ 58 ∷ [])) ++ (48 + d) ∷ [] = cc in
    subst (Good (front ++ c ∷ [])) same (
      text ∙ append_assoc (sign_text n) (numeral s ++ 58 ∷ []) ((48 + d) ∷ []) ∙ ap (λ l. sign_text n ++ l) (append_assoc (numeral s) (58 ∷ []) ((48 + d) ∷ []))
          ∙ ap (λ l. sign_text n ++ (numeral s ++ (58 ∷ l))) (sym (numeral_digit d digit)),
      omega arith,
    )

nanos_step : (front : List ℕ) (p : TsParts) (c : ℕ) (t : TsScan) (b : Bool) →
    (b ≡ true → (0 < p.nanos) × (p.nanos < 100_000_000)) → front ≡ ts_text p →
    (if b then option_map (λ d. Nanos (record { negative = p.negative; seconds = p.seconds; nanos = 10 * p.nanos + d })) (digit_of c) else None) ≡ Some t →
    Good (front ++ c ∷ []) t
nanos_step front p c t false room is e = cc
nanos_step front p c t true room is e =
    let (d, digit, byte, same) = digit_taken (λ d. Nanos (record { negative = p.negative; seconds = p.seconds; nanos = 10 * p.nanos + d })) c t e in
    let text : front ++ c ∷ [] ≡ ts_text p ++ (48 + d) ∷ [] = cc in
    let r = room refl in
    subst (Good (front ++ c ∷ [])) same (
      text ∙ append_assoc (sign_text p.negative) (numeral p.seconds ++ 58 ∷ numeral p.nanos) ((48 + d) ∷ [])
          ∙ ap (λ l. sign_text p.negative ++ l) (append_assoc (numeral p.seconds) (58 ∷ numeral p.nanos) ((48 + d) ∷ []))
          ∙ ap (λ l. sign_text p.negative ++ (numeral p.seconds ++ (58 ∷ l))) (sym (numeral_more p.nanos d r.0 digit)),
      omega (arith, r),
    )

-- each byte that is taken makes the text of the next state
pub ts_step : (front : List ℕ) (s t : TsScan) (c : ℕ) → Good front s → next_ts s c ≡ Some t → Good (front ++ c ∷ []) t
ts_step front Start t c good e =
    subst (λ l. Good (l ++ c ∷ []) t) (sym good.0) (start_step c t (c == 45) ((Decides-eqb c 45).0) e)
ts_step front Signed t c good e = subst (λ l. Good (l ++ c ∷ []) t) (sym good.0) (signed_step c t e)
ts_step front (Seconds n s) t c good e = seconds_step front n s c t (c == 58) ((Decides-eqb c 58).0) good.0 e
ts_step front (Colon n s) t c good e = colon_step front n s c t good.0 e
ts_step front (Nanos p) t c good e =
    nanos_step front p c t (nat_lt 0 p.nanos && nat_lt p.nanos 100_000_000) (λ room. (grind (arith, nat_tests), grind (arith, nat_tests))) good.0 e

pub ts_good : (text : List ℕ) (s : TsScan) → run next_ts Start text ≡ Some s → Good text s
ts_good text s e = along next_ts Good ts_step [] Start text s (refl, tt) e

-- a state that is a whole timestamp
pub stamp_inv : (s : TsScan) (p : TsParts) → stamp_read s ≡ Some p → s ≡ Nanos p
stamp_inv Start p e = cc
stamp_inv Signed p e = cc
stamp_inv (Seconds n k) p e = cc
stamp_inv (Colon n k) p e = cc
stamp_inv (Nanos q) p e = cc

-- ---- each state can be ended, and each text is read

abbrev IsTs : List ℕ → Type 0
IsTs = IsText next_ts Start stamp_read ts_text IsStamp

pub ts_ending : (s : TsScan) → Fine s → BeginsSome IsTs (said s)
unfolding numeral
ts_ending Start fine = (numeral 0 ++ 58 ∷ numeral 0, (record { negative = false; seconds = 0; nanos = 0 }, omega arith, refl))
ts_ending Signed fine = (numeral 0 ++ 58 ∷ numeral 0, (record { negative = true; seconds = 0; nanos = 0 }, omega arith, refl))
ts_ending (Seconds n s) fine =
    (58 ∷ numeral 0, (record { negative = n; seconds = s; nanos = 0 }, omega arith, append_assoc (sign_text n) (numeral s) (58 ∷ numeral 0)))
ts_ending (Colon n s) fine = (
  numeral 0,
  (
    record { negative = n; seconds = s; nanos = 0 },
    omega arith,
    append_assoc (sign_text n) (numeral s ++ 58 ∷ []) (numeral 0) ∙ ap (λ l. sign_text n ++ l) (append_assoc (numeral s) (58 ∷ []) (numeral 0)),
  ),
)
ts_ending (Nanos p) fine = ([], (p, fine, append-nil (ts_text p)))

pub then_part : {T : Type 0} (b : Bool) (x y : T) → b ≡ true → (if b then x else y) ≡ x
then_part true x y e = refl
then_part false x y e = cc

pub else_part : {T : Type 0} (b : Bool) (x y : T) → b ≡ false → (if b then x else y) ≡ y
else_part true x y e = cc
else_part false x y e = refl

start_digit : (d : ℕ) → d < 10 → next_ts Start (48 + d) ≡ Some (Seconds false d)
start_digit d digit =
    else_part (48 + d == 45) (Some Signed) _ (grind (arith, nat_tests)) ∙ ap (option_map (Seconds false)) (digit_of-digit d digit)

seconds_digit : (n : Bool) (k d : ℕ) → 0 < k → d < 10 → next_ts (Seconds n k) (48 + d) ≡ Some (Seconds n (10 * k + d))
seconds_digit n k d above digit =
    else_part (48 + d == 58) (Some (Colon n k)) _ (grind (arith, nat_tests))
    ∙ then_part (nat_lt 0 k) _ None (grind (arith, nat_tests)) ∙ ap (option_map (λ e. Seconds n (10 * k + e))) (digit_of-digit d digit)

nanos_digit : (n : Bool) (s k d : ℕ) → 0 < k → d < 10 → 10 * k + d < 1_000_000_000 →
    next_ts (Nanos (record { negative = n; seconds = s; nanos = k })) (48 + d) ≡ Some (Nanos (record { negative = n; seconds = s; nanos = 10 * k + d }))
nanos_digit n s k d above digit room =
    then_part (nat_lt 0 k && nat_lt k 100_000_000) _ None (grind (arith, nat_tests))
    ∙ ap (option_map (λ e. Nanos (record { negative = n; seconds = s; nanos = 10 * k + e }))) (digit_of-digit d digit)

-- the digits of the seconds behind a sign or none
read_seconds : (n : Bool) (s : ℕ) → run next_ts Start (sign_text n ++ numeral s) ≡ Some (Seconds n s)
read_seconds false s =
    run_numeral next_ts Start (Seconds false) (s + 1) start_digit (λ k d above digit below. seconds_digit false k d above digit) s (omega arith)
read_seconds true s =
    run_numeral next_ts Signed (Seconds true) (s + 1) (λ d digit. ap (option_map (Seconds true)) (digit_of-digit d digit))
    (λ k d above digit below. seconds_digit true k d above digit) s (omega arith)

-- the digits of the nanoseconds
read_nanos : (n : Bool) (s f : ℕ) → f < 10 ^ 9 → run next_ts (Colon n s) (numeral f) ≡ Some (Nanos (record { negative = n; seconds = s; nanos = f }))
read_nanos n s f below =
    run_numeral next_ts (Colon n s) (λ k. Nanos (record { negative = n; seconds = s; nanos = k })) 1_000_000_000
    (λ d digit. ap (option_map (λ e. Nanos (record { negative = n; seconds = s; nanos = e }))) (digit_of-digit d digit))
    (λ k d above digit room. nanos_digit n s k d above digit room) f below

pub ts_reads : (p : TsParts) → IsStamp p → run next_ts Start (ts_text p) ≡ Some (Nanos p)
ts_reads p fine =
    ap (run next_ts Start) (sym (append_assoc (sign_text p.negative) (numeral p.seconds) (58 ∷ numeral p.nanos)))
    ∙ run_on next_ts Start (Seconds p.negative p.seconds) (sign_text p.negative ++ numeral p.seconds) (58 ∷ numeral p.nanos) (read_seconds p.negative p.seconds)
    ∙ read_nanos p.negative p.seconds p.nanos fine

pub ts_reader : IsReader next_ts Start stamp_read ts_text IsStamp
ts_reader = record {
  reads = λ p fine. (Nanos p, ts_reads p fine, refl);
  completes = λ text s e. let good = ts_good text s e in subst (BeginsSome IsTs) (sym good.0) (ts_ending s good.1);
}
