-- The functions that give what a text spells are tied to the relations that say it.
use Rattle.std.proofs.Common.{◌≡◌, ℕ, ℤ, ◌≤ℤ◌, ◌↔◌, Bool, true, false, if◌then◌else◌, List, Option, Some, None, IsSome, IfSome, IfOk, Result, Ok, Err, sym, ◌∙◌, ap, refl, subst, arith}
use Rattle.std.specs.Option.{option_and_then, ok_or}
use Rattle.std.specs.Result.{result_ok}
use Rattle.std.proofs.lemmas.Int.{ints}
use Rattle.std.proofs.lemmas.Bool.{and_parts, and_from}
use Rattle.time_range.specs.Points.{IsNanos, is_nanos, IsLow, IsHigh, IsRange, Has, From, UpTo}
use Rattle.time_range.specs.Ends.{Above, Below, Between, low_point, high_point, are_ordered, span_between, IsEndWithin}
use Rattle.time_range.specs.Spelling.{ts_value, IsStampWithin, SpellsTs, meant_end, IsWithin, MeansBetween, Means, SpellsRange}
use Rattle.time_range.specs.Within.Scanning.{run, stamp_read, range_read}
use Rattle.time_range.specs.Prefixes.{FailsAt}
use Rattle.time_range.specs.Answers.{IfSpelling, OnTooLarge, IsTsText, SpellsTsPast, IsRangeText, SpellsRangePast}
use Rattle.time_range.specs.Spelled.{ts_parts_in, ts_meant, ts_in, range_parts_in, is_stamp_within, is_within, range_between, range_of_middle, range_meant, range_in}
use Rattle.time_range.specs.declared.ranges.Span.{Span}
use Rattle.time_range.specs.declared.ends.End.{End}
use Rattle.time_range.specs.declared.ends.End.TheVariants.{Unbounded, Including, Excluding}
use Rattle.time_range.specs.declared.fault.RangeFault.{RangeFault}
use Rattle.time_range.specs.declared.fault.RangeFault.TheVariants.{Spelling, TooLarge}
use Rattle.time_range.specs.declared.spelling.TsParts.{TsParts}
use Rattle.time_range.specs.declared.spelling.Bracket.{Bracket}
use Rattle.time_range.specs.declared.spelling.Bracket.TheVariants.{Square, Round}
use Rattle.time_range.specs.declared.spelling.Middle.{Middle}
use Rattle.time_range.specs.declared.spelling.Middle.TheVariants.{Empty, Single, Split}
use Rattle.time_range.specs.declared.spelling.RangeParts.{RangeParts}
use Rattle.time_range.specs.declared.scanning.TsScan.TheVariants.{Start}
use Rattle.time_range.specs.declared.scanning.RangeScan.TheVariants.{Left}
use Rattle.time_range.proofs.EndTests.{nanos_from_test, test_from_nanos, low_within, high_within, order_from_point, ordered_from_test}
use Rattle.time_range.proofs.TsMachine.{next_ts, Good, stamp_inv, ts_good, ts_reads}
use Rattle.time_range.proofs.RangeMachine.{next_range, and_then_inv, read_text, range_good, range_reader}
use Rattle.time_range.proofs.Readings.{ReadsParts, ts_once, ts_ok, ts_too_large, ReadsRangeParts, range_once, one_parts, range_ok, range_too_large}
use Rattle.time_range.proofs.Theorems.{same_range}

-- ---- tests of the limit

-- what is kept under a test
kept_if : {T : Type 0} (b : Bool) (x y : T) → (if b then Some x else None) ≡ Some y → (b ≡ true) × (x ≡ y)
kept_if true x y e = (refl, cc)
kept_if false x y e = cc

stamp_tested : (o : Option TsParts) → is_stamp_within o ≡ true → IsStampWithin o
stamp_tested None e = tt
stamp_tested (Some p) e = nanos_from_test (ts_value p) e

stamp_test : (o : Option TsParts) → IsStampWithin o → is_stamp_within o ≡ true
stamp_test None h = refl
stamp_test (Some p) h = test_from_nanos (ts_value p) h

middle_tested : (m : Middle) → is_within m ≡ true → IsWithin m
middle_tested Empty e = tt
middle_tested (Single at) e = nanos_from_test (ts_value at) e
middle_tested (Split first second) e =
    let parts = and_parts (is_stamp_within first) (is_stamp_within second) e in
    (stamp_tested first parts.0, stamp_tested second parts.1)

middle_test : (m : Middle) → IsWithin m → is_within m ≡ true
middle_test Empty h = refl
middle_test (Single at) h = test_from_nanos (ts_value at) h
middle_test (Split first second) h = and_from _ _ (stamp_test first h.0) (stamp_test second h.1)

-- ---- timestamps

-- what the function gives, the text spells
ts_spelled : (text : List ℕ) (nanos : ℤ) → ts_in text ≡ Some nanos → SpellsTs text nanos × IsNanos nanos
unfolding ts_in
ts_spelled text nanos e =
    let (p, in_text, meant) = and_then_inv ts_meant (ts_parts_in text) nanos e in
    let (s, ran, read) = and_then_inv stamp_read (run next_ts Start text) p in_text in
    let good = subst (Good text) (stamp_inv s p read) (ts_good text s ran) in
    let kept = kept_if (is_nanos (ts_value p)) (ts_value p) nanos meant in
    ((p, good.1, good.0, sym kept.1), subst IsNanos kept.1 (nanos_from_test (ts_value p) kept.0))

-- what is spelled within the limit, the function gives
ts_given : (text : List ℕ) (nanos : ℤ) → SpellsTs text nanos → IsNanos nanos → ts_in text ≡ Some nanos
unfolding ts_in
ts_given text nanos (p, fine, spelled, value) within =
    let parts : ts_parts_in text ≡ Some p = ap ts_parts_in spelled ∙ ap (option_and_then stamp_read) (ts_reads p fine) in
    let fits = test_from_nanos (ts_value p) (subst IsNanos value within) in
    ap (option_and_then ts_meant) parts ∙ ap (λ b. if b then Some (ts_value p) else None) fits ∙ ap (λ n. Some n) (sym value)

-- the function of timestamps is what a text spells
pub ts_in_is : (text : List ℕ) (nanos : ℤ) → (ts_in text ≡ Some nanos) ↔ (SpellsTs text nanos × IsNanos nanos)
ts_in_is text nanos = (ts_spelled text nanos, λ h. ts_given text nanos h.0 h.1)

-- where every answer is refuted, there is none
nothing_given : {T : Type 0} (o : Option T) → ((x : T) → o ≡ Some x → ⊥) → None ≡ o
nothing_given None refuted = refl
nothing_given (Some x) refuted = absurd (refuted x refl)

-- what a reader of timestamps answers is what the function gives
pub ts_answer : (text : List ℕ) (answer : Result ℤ RangeFault) → IfOk answer IsNanos → IfOk answer (SpellsTs text) →
    IfSpelling answer (FailsAt IsTsText text) → OnTooLarge answer (SpellsTsPast text) → result_ok answer ≡ ts_in text
ts_answer text (Ok t) within ok spelling too_large = sym (ts_given text t ok within)
ts_answer text (Err (Spelling at)) within ok spelling too_large =
    nothing_given (ts_in text) (λ n e. let (p, fine, spelled, value) = (ts_spelled text n e).0 in spelling.no_text (p, fine, spelled))
ts_answer text (Err TooLarge) within ok spelling (n, spells, past) =
    nothing_given (ts_in text) (λ m e. let given = ts_spelled text m e in past (subst IsNanos (ts_once text m n given.0 spells) given.1))

-- the same of the parts that were read, and their number where it is within the limit
pub ts_value_is : (text : List ℕ) (k : TsParts) (answer : Option ℤ) → ReadsParts text k → (IsSome answer ↔ IsNanos (ts_value k)) →
    IfSome answer (λ t. t ≡ ts_value k) → result_ok (ok_or answer TooLarge) ≡ ts_in text
ts_value_is text k None reads within value = ts_answer text (Err TooLarge) tt tt tt (ts_too_large text k None reads within)
ts_value_is text k (Some t) reads within value =
    ts_answer text (Ok t) (subst IsNanos (sym value) (within.0 refl)) (ts_ok text k (Some t) reads within value) tt tt

-- ---- the range between two ends

-- a low end's first point
low_points : (e : End) (p : ℤ) → From (low_point e) p ↔ Above e p
low_points Unbounded p = (λ h. tt, λ h. tt)
low_points (Including t) p = (λ h. h, λ h. h)
low_points (Excluding t) p = (λ h. omega (arith, ints, h), λ h. omega (arith, ints, h))

-- a high end's last point
high_points : (e : End) (p : ℤ) → UpTo (high_point e) p ↔ Below e p
high_points Unbounded p = (λ h. tt, λ h. tt)
high_points (Including t) p = (λ h. h, λ h. h)
high_points (Excluding t) p = (λ h. omega (arith, ints, h), λ h. omega (arith, ints, h))

-- the points of a range between two ends
span_points : (b : Bool) (low high : Option ℤ) (p : ℤ) → (From low p → UpTo high p → b ≡ true) →
    Has (if b then Some (let s : Span = record { low = low; high = high } in s) else None) p ↔ (From low p × UpTo high p)
span_points true low high p holds = (λ h. h, λ h. h)
span_points false low high p holds = (λ h. absurd h, λ h. let wrong = holds h.0 h.1 in cc)

-- the range between two ends has the points between them
between_ends : (low high : End) → Between low high (span_between (low_point low) (high_point high))
between_ends low high p =
    let points = span_points (are_ordered (low_point low) (high_point high)) (low_point low) (high_point high) p
    (order_from_point (low_point low) (high_point high) p) in (
      λ h. let is = points.0 h in ((low_points low p).0 is.0, (high_points high p).0 is.1),
      λ h. points.1 ((low_points low p).1 h.0, (high_points high p).1 h.1),
    )

-- a range between ends within the limit is one
span_is : (b : Bool) (low high : Option ℤ) → (b ≡ true → IfSome low (λ a. IfSome high (λ b. a ≤ℤ b))) → IfSome low IsLow → IfSome high IsHigh →
    IsRange (if b then Some (let s : Span = record { low = low; high = high } in s) else None)
span_is true low high ordered is_low is_high = record { ordered = ordered refl; low = is_low; high = is_high }
span_is false low high ordered is_low is_high = tt

-- the end that a timestamp within the limit means is within it
end_within : (bracket : Option Bracket) (o : Option TsParts) → IsStampWithin o → IsEndWithin (meant_end bracket o)
end_within bracket None h = tt
end_within None (Some p) h = h
end_within (Some Square) (Some p) h = h
end_within (Some Round) (Some p) h = h

-- ---- ranges

-- the range between two timestamps within the limit is one
between_is : (left : Option Bracket) (first second : Option TsParts) (right : Option Bracket) → IsStampWithin first → IsStampWithin second →
    IsRange (range_between left first second right)
between_is left first second right h k =
    let low = low_point (meant_end left first) in
    let high = high_point (meant_end right second) in
    span_is (are_ordered low high) low high (ordered_from_test low high) (low_within _ (end_within left first h)) (high_within _ (end_within right second k))

-- what parts mean
middle_meant : (left : Option Bracket) (m : Middle) (right : Option Bracket) → IsWithin m →
    MeansBetween left m right (range_of_middle left m right) × IsRange (range_of_middle left m right)
middle_meant left Empty right h = (refl, tt)
middle_meant left (Single at) right h = (between_ends (meant_end left (Some at)) (meant_end right (Some at)), between_is left (Some at) (Some at) right h h)
middle_meant left (Split first second) right h = (between_ends (meant_end left first) (meant_end right second), between_is left first second right h.0 h.1)

-- what the function gives, the text spells
range_spelled : (text : List ℕ) (range : Option Span) → range_in text ≡ Some range → SpellsRange text range × IsRange range
unfolding range_in
range_spelled text range e =
    let (p, in_text, meant) = and_then_inv range_meant (range_parts_in text) range e in
    let (s, ran, read) = and_then_inv range_read (run next_range (Left None) text) p in_text in
    let good = range_good text s ran in
    let spelled = read_text s p good.1 read in
    let kept = kept_if (is_within p.middle) (range_of_middle p.left p.middle p.right) range meant in
    let within = middle_tested p.middle kept.0 in
    let is = middle_meant p.left p.middle p.right within in
    ((p, (spelled.0, good.0 ∙ spelled.1), within, subst (Means p) kept.1 is.0), subst IsRange kept.1 is.1)

-- what is spelled within the limit, the function gives
range_given : (text : List ℕ) (range : Option Span) → SpellsRange text range → IsRange range → range_in text ≡ Some range
unfolding range_in
range_given text range (p, parts, within, means) fine =
    let (s, ran, read) = range_reader.reads p parts.0 in
    let in_text : range_parts_in text ≡ Some p = ap range_parts_in parts.1 ∙ ap (option_and_then range_read) ran ∙ read in
    let meant = middle_meant p.left p.middle p.right within in
    let one = same_range _ range meant.1 fine (range_once text _ range (p, parts, within, meant.0) (p, parts, within, means)) in
    ap (option_and_then range_meant) in_text
    ∙ ap (λ b. if b then Some (range_of_middle p.left p.middle p.right) else None) (middle_test p.middle within) ∙ ap (λ r. Some r) one

-- the function of ranges is what a text spells
pub range_in_is : (text : List ℕ) (range : Option Span) → (range_in text ≡ Some range) ↔ (SpellsRange text range × IsRange range)
range_in_is text range = (range_spelled text range, λ h. range_given text range h.0 h.1)

-- what a reader of ranges answers is what the function gives
pub range_answer : (text : List ℕ) (answer : Result (Option Span) RangeFault) → IfOk answer IsRange → IfOk answer (SpellsRange text) →
    IfSpelling answer (FailsAt IsRangeText text) → OnTooLarge answer (SpellsRangePast text) → result_ok answer ≡ range_in text
range_answer text (Ok r) fine ok spelling too_large = sym (range_given text r ok fine)
range_answer text (Err (Spelling at)) fine ok spelling too_large =
    nothing_given (range_in text) (λ r e. let (p, parts, within, means) = (range_spelled text r e).0 in spelling.no_text (p, parts.0, parts.1))
range_answer text (Err TooLarge) fine ok spelling (q, parts_q, past) =
    nothing_given (range_in text) (λ r e. let (p, parts, within, means) = (range_spelled text r e).0 in
    past (subst (λ x. IsWithin x.middle) (one_parts text p q parts parts_q) within))

-- the same of the parts that were read, and their range where it is within the limit
pub range_value : (text : List ℕ) (k : RangeParts) (answer : Option (Option Span)) → ReadsRangeParts text k →
    (IsSome answer ↔ IsWithin k.middle) → IfSome answer (Means k) → IfSome answer IsRange → result_ok (ok_or answer TooLarge) ≡ range_in text
range_value text k None reads within meant range = range_answer text (Err TooLarge) tt tt tt (range_too_large text k None reads within)
range_value text k (Some r) reads within meant range = range_answer text (Ok r) range (range_ok text k (Some r) reads within meant) tt tt
