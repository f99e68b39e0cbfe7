-- The readers with seconds up to the largest `u64` read what the readers with all seconds read.
use Rattle.std.proofs.Common.{◌≡◌, ℕ, ◌+◌, ◌*◌, ◌<◌, ◌==◌, nat_lt, ◌&&◌, Bool, true, false, if◌then◌else◌, Option, Some, None, is_some, ◌∙◌, ap, refl, arith}
use Rattle.std.specs.Option.{option_map, option_and_then, option_or}
use Rattle.std.proofs.lemmas.Bool.Decides.{nat_tests}
use Rattle.time_range.specs.Within.Scanning.{capped, digit_of, ts_next, stamp_read, left_bracket, right_bracket, after_bracket, longer, closed, range_read, range_next}
use Rattle.time_range.specs.declared.spelling.TsParts.{TsParts}
use Rattle.time_range.specs.declared.spelling.Bracket.{Bracket}
use Rattle.time_range.specs.declared.spelling.Middle.{Middle}
use Rattle.time_range.specs.declared.spelling.Middle.TheVariants.{Empty, Single, Split}
use Rattle.time_range.specs.declared.spelling.RangeParts.{RangeParts}
use Rattle.time_range.specs.declared.scanning.TsScan.{TsScan}
use Rattle.time_range.specs.declared.scanning.TsScan.TheVariants.{Start, Signed, Seconds, Colon, Nanos}
use Rattle.time_range.specs.declared.scanning.RangeScan.{RangeScan}
use Rattle.time_range.specs.declared.scanning.RangeScan.TheVariants.{Left, First, Mark, Second, Right}
use Rattle.time_range.proofs.TsMachine.{next_ts, digit_taken}

-- ---- what is kept

-- a timestamp's parts
abbrev pub cap_parts : TsParts → TsParts
cap_parts p = record { negative = p.negative; seconds = capped p.seconds; nanos = p.nanos }

-- what has been read of a timestamp
abbrev pub cap_ts : TsScan → TsScan
cap_ts Start = Start
cap_ts Signed = Signed
cap_ts (Seconds n s) = Seconds n (capped s)
cap_ts (Colon n s) = Colon n (capped s)
cap_ts (Nanos p) = Nanos (cap_parts p)

-- what stands between the brackets
abbrev pub cap_middle : Middle → Middle
cap_middle Empty = Empty
cap_middle (Single at) = Single (cap_parts at)
cap_middle (Split first second) = Split (option_map cap_parts first) (option_map cap_parts second)

-- a range's parts
abbrev pub cap_range_parts : RangeParts → RangeParts
cap_range_parts p = record { left = p.left; middle = cap_middle p.middle; right = p.right }

-- what has been read of a range
abbrev pub cap_range : RangeScan → RangeScan
cap_range (Left left) = Left left
cap_range (First left first) = First left (cap_ts first)
cap_range (Mark left first) = Mark left (option_map cap_parts first)
cap_range (Second left first second) = Second left (option_map cap_parts first) (cap_ts second)
cap_range (Right p) = Right (cap_range_parts p)

-- ---- timestamps

-- two readers of a digit agree where they agree at each digit
map_digits : (f g : ℕ → TsScan) (c : ℕ) → ((d : ℕ) → d < 10 → f d ≡ cap_ts (g d)) → (o : Option ℕ) →
    ((d : ℕ) → o ≡ Some d → d < 10) → option_map f o ≡ option_map cap_ts (option_map g o)
map_digits f g c same None digit = refl
map_digits f g c same (Some d) digit = ap (λ s. Some s) (same d (digit d refl))

-- a digit is below ten
digit_below : (c d : ℕ) → digit_of c ≡ Some d → d < 10
digit_below c d e =
    let (k, digit, byte, same) = digit_taken (λ k. k) c d (ap (option_map (λ k. k)) e) in omega arith

-- the same for the digit that a byte is
digits_capped : (f g : ℕ → TsScan) (c : ℕ) → ((d : ℕ) → d < 10 → f d ≡ cap_ts (g d)) →
    option_map f (digit_of c) ≡ option_map cap_ts (option_map g (digit_of c))
digits_capped f g c same = map_digits f g c same (digit_of c) (digit_below c)

-- a choice by one test on both sides
both : {T : Type 0} (f : T → T) (b : Bool) (x y u v : Option T) → x ≡ option_map f u → y ≡ option_map f v →
    (if b then x else y) ≡ option_map f (if b then u else v)
both f true x y u v e g = e
both f false x y u v e g = g

-- one more byte of a timestamp
pub ts_capped : (s : TsScan) (c : ℕ) → ts_next capped (cap_ts s) c ≡ option_map cap_ts (next_ts s c)
ts_capped Start c =
    both cap_ts (c == 45) _ _ (Some Signed) (option_map (Seconds false) (digit_of c)) refl
    (digits_capped (Seconds false) (Seconds false) c (λ d digit. ap (Seconds false) (omega arith)))
ts_capped Signed c = digits_capped (Seconds true) (Seconds true) c (λ d digit. ap (Seconds true) (omega arith))
ts_capped (Seconds n s) c =
    let test : nat_lt 0 (capped s) ≡ nat_lt 0 s = grind (arith, nat_tests) in
    let digits = digits_capped (λ d. Seconds n (capped (10 * capped s + d))) (λ d. Seconds n (10 * s + d)) c (λ d digit. ap (Seconds n) (omega arith)) in
    both cap_ts (c == 58) _ _ (Some (Colon n s)) (if nat_lt 0 s then option_map (λ d. Seconds n (10 * s + d)) (digit_of c) else None) refl
    (ap (λ b. if b then option_map (λ d. Seconds n (capped (10 * capped s + d))) (digit_of c) else None) test ∙ both cap_ts (nat_lt 0 s) _ None _ None digits
    refl)
ts_capped (Colon n s) c =
    digits_capped (λ d. Nanos (record { negative = n; seconds = capped s; nanos = d })) (λ d. Nanos (record { negative = n; seconds = s; nanos = d })) c
    (λ d digit. refl)
ts_capped (Nanos p) c =
    both cap_ts (nat_lt 0 p.nanos && nat_lt p.nanos 100_000_000) _ None _ None
    (digits_capped (λ d. Nanos (record { negative = p.negative; seconds = capped p.seconds; nanos = 10 * p.nanos + d }))
    (λ d. Nanos (record { negative = p.negative; seconds = p.seconds; nanos = 10 * p.nanos + d })) c (λ d digit. refl))
    refl

-- the parts of a whole timestamp
pub stamp_read_capped : (s : TsScan) → stamp_read (cap_ts s) ≡ option_map cap_parts (stamp_read s)
stamp_read_capped Start = refl
stamp_read_capped Signed = refl
stamp_read_capped (Seconds n s) = refl
stamp_read_capped (Colon n s) = refl
stamp_read_capped (Nanos p) = refl

-- ---- ranges

-- two maps in a row, on each side
map_map : {A B C D : Type 0} (f : B → C) (g : A → B) (h : D → C) (k : A → D) → ((x : A) → f (g x) ≡ h (k x)) →
    (o : Option A) → option_map f (option_map g o) ≡ option_map h (option_map k o)
map_map f g h k same None = refl
map_map f g h k same (Some x) = ap (λ y. Some y) (same x)

-- the first byte behind the left bracket
begun_capped : (left : Option Bracket) (c : ℕ) → after_bracket capped left c ≡ option_map cap_range (after_bracket (λ n. n) left c)
begun_capped left c =
    both cap_range (c == 95) _ _ (Some (Mark left None)) (option_map (First left) (next_ts Start c)) refl
    (ap (option_map (First left)) (ts_capped Start c) ∙ map_map (First left) cap_ts cap_range (First left) (λ x. refl) (next_ts Start c))

-- the first of two values on both sides
option_or_capped : (a b x y : Option RangeScan) → a ≡ option_map cap_range x → b ≡ option_map cap_range y →
    option_or a b ≡ option_map cap_range (option_or x y)
option_or_capped a b None y e f = ap (λ o. option_or o b) e ∙ f
option_or_capped a b (Some s) y e f = ap (λ o. option_or o b) e

-- a left bracket has nothing to cap
bracket_capped : (o : Option Bracket) → option_map (λ b. Left (Some b)) o ≡ option_map cap_range (option_map (λ b. Left (Some b)) o)
bracket_capped None = refl
bracket_capped (Some b) = refl

-- one more byte that is no right bracket
longer_capped : (s : RangeScan) (c : ℕ) → longer capped (cap_range s) c ≡ option_map cap_range (longer (λ n. n) s c)
longer_capped (Left None) c =
    option_or_capped _ _ (option_map (λ b. Left (Some b)) (left_bracket c)) (after_bracket (λ n. n) None c) (bracket_capped (left_bracket c))
    (begun_capped None c)
longer_capped (Left (Some b)) c = begun_capped (Some b) c
longer_capped (First left first) c =
    both cap_range (c == 95) _ _ (option_map (λ p. Mark left (Some p)) (stamp_read first)) (option_map (First left) (next_ts first c))
    (ap (option_map (λ p. Mark left (Some p))) (stamp_read_capped first) ∙ map_map (λ p. Mark left (Some p)) cap_parts cap_range (λ p. Mark left (Some p))
    (λ x. refl) (stamp_read first))
    (ap (option_map (First left)) (ts_capped first c) ∙ map_map (First left) cap_ts cap_range (First left) (λ x. refl) (next_ts first c))
longer_capped (Mark left first) c =
    ap (option_map (Second left (option_map cap_parts first))) (ts_capped Start c)
    ∙ map_map (Second left (option_map cap_parts first)) cap_ts cap_range (Second left first) (λ x. refl) (next_ts Start c)
longer_capped (Second left first second) c =
    ap (option_map (Second left (option_map cap_parts first))) (ts_capped second c)
    ∙ map_map (Second left (option_map cap_parts first)) cap_ts cap_range (Second left first) (λ x. refl) (next_ts second c)
longer_capped (Right p) c = refl

-- the parts of a whole range
pub range_read_capped : (s : RangeScan) → range_read (cap_range s) ≡ option_map cap_range_parts (range_read s)
range_read_capped (Left left) = refl
range_read_capped (First left first) =
    ap (option_map _) (stamp_read_capped first)
    ∙ map_map (λ p. record { left = left; middle = Single p; right = None }) cap_parts cap_range_parts
    (λ p. record { left = left; middle = Single p; right = None }) (λ x. refl) (stamp_read first)
range_read_capped (Mark left first) = refl
range_read_capped (Second left first second) =
    ap (option_map _) (stamp_read_capped second)
    ∙ map_map (λ p. record { left = left; middle = Split (option_map cap_parts first) (Some p); right = None }) cap_parts cap_range_parts
    (λ p. record { left = left; middle = Split first (Some p); right = None }) (λ x. refl) (stamp_read second)
range_read_capped (Right p) = refl

-- a right bracket leaves the other parts as they are
closing_capped : (p : RangeParts) (o : Option Bracket) →
    option_map (λ b. Right (record { left = p.left; middle = cap_middle p.middle; right = Some b })) o ≡ option_map cap_range
    (option_map (λ b. Right (record { left = p.left; middle = p.middle; right = Some b })) o)
closing_capped p None = refl
closing_capped p (Some b) = refl

-- a right bracket behind a whole range
closed_capped : (c : ℕ) (o : Option RangeParts) →
    option_and_then (λ p. closed p c) (option_map cap_range_parts o) ≡ option_map cap_range (option_and_then (λ p. closed p c) o)
closed_capped c None = refl
closed_capped c (Some p) = both cap_range (is_some p.right) None _ None _ refl (closing_capped p (right_bracket c))

-- one more byte of a range
pub range_capped : (s : RangeScan) (c : ℕ) → range_next capped (cap_range s) c ≡ option_map cap_range (range_next (λ n. n) s c)
range_capped s c =
    option_or_capped _ _ (longer (λ n. n) s c) (option_and_then (λ p. closed p c) (range_read s)) (longer_capped s c)
    (ap (option_and_then (λ p. closed p c)) (range_read_capped s) ∙ closed_capped c (range_read s))
