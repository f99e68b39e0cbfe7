-- What the readers answer, from what they have read with seconds up to the largest `u64`.
use Rattle.std.proofs.Common.{◌≡◌, ℕ, ℤ, pos, neg_ℤ, ◌+◌, ◌*◌, ◌≤◌, ◌↔◌, Bool, true, false, if◌then◌else◌, List, length, Option, Some, None, IsSome, IfSome, IfOk, Result, Ok, Err, sym, ◌∙◌, ap, refl, subst, arith}
use Rattle.std.specs.Option.{option_map, ok_or}
use Rattle.std.proofs.lemmas.Int.{ints}
use Rattle.time_range.specs.Points.{IsNanos, Has}
use Rattle.time_range.specs.Spelling.{ts_text, ts_value, IsStamp, IsStampWithin, SpellsTs, range_text, IsWithin, SpellsParts, MeansBetween, Means, SpellsRange}
use Rattle.time_range.specs.Within.Scanning.{run, StopsAt, capped, ts_next, stamp_read, range_next, range_read}
use Rattle.time_range.specs.Prefixes.{FailsAt}
use Rattle.time_range.specs.Answers.{OnTooLarge, IsTsText, SpellsTsPast, IsRangeText, SpellsRangePast, HasSamePoints}
use Rattle.time_range.specs.declared.ranges.Span.{Span}
use Rattle.time_range.specs.declared.fault.RangeFault.{RangeFault}
use Rattle.time_range.specs.declared.fault.RangeFault.TheVariants.{TooLarge}
use Rattle.time_range.specs.declared.spelling.TsParts.{TsParts}
use Rattle.time_range.specs.declared.spelling.Bracket.{Bracket}
use Rattle.time_range.specs.declared.spelling.Middle.{Middle}
use Rattle.time_range.specs.declared.spelling.Middle.TheVariants.{Empty, Single, Split}
use Rattle.time_range.specs.declared.spelling.RangeParts.{RangeParts}
use Rattle.time_range.specs.declared.scanning.TsScan.{TsScan}
use Rattle.time_range.specs.declared.scanning.TsScan.TheVariants.{Start}
use Rattle.time_range.specs.declared.scanning.RangeScan.{RangeScan}
use Rattle.time_range.specs.declared.scanning.RangeScan.TheVariants.{Left}
use Rattle.time_range.proofs.Machines.{kept_run, kept_stop, map_some, map_none, fails_within, fails_at_end, one_reading}
use Rattle.time_range.proofs.TsMachine.{next_ts, Good, stamp_inv, ts_good, ts_reader}
use Rattle.time_range.proofs.Capping.{cap_parts, cap_ts, cap_middle, cap_range_parts, cap_range, ts_capped, stamp_read_capped, range_capped, range_read_capped}
use Rattle.time_range.proofs.RangeMachine.{next_range, HasFineStamps, read_text, range_good, range_reader}

-- ---- timestamps

-- where a byte is refused, the text fails there
pub ts_stops : (text : List ℕ) (at : ℕ) → StopsAt (ts_next capped) Start text at → FailsAt IsTsText text at
ts_stops text at stop =
    fails_within next_ts Start stamp_read ts_text IsStamp ts_reader text at (kept_stop next_ts (ts_next capped) cap_ts ts_capped Start text at stop)

-- a text that ends too early fails at its end
pub ts_unfinished : (text : List ℕ) (k : TsScan) → run (ts_next capped) Start text ≡ Some k → stamp_read k ≡ None →
    FailsAt IsTsText text (length text)
ts_unfinished text k e none =
    let (s, read, is) = kept_run next_ts (ts_next capped) cap_ts ts_capped Start text k e in
    let none_read : option_map cap_parts (stamp_read s) ≡ None = sym (stamp_read_capped s) ∙ ap stamp_read is ∙ none in
    fails_at_end next_ts Start stamp_read ts_text IsStamp ts_reader text s read (map_none cap_parts (stamp_read s) none_read)

-- the text has the parts p, of which k is what was kept
abbrev pub ReadsParts : List ℕ → TsParts → Type 0
ReadsParts text k = (p : TsParts) × IsStamp p × (text ≡ ts_text p) × (cap_parts p ≡ k)

-- a whole timestamp is the text of its parts
pub ts_reading : (text : List ℕ) (scan : TsScan) (k : TsParts) → run (ts_next capped) Start text ≡ Some scan →
    stamp_read scan ≡ Some k → ReadsParts text k
ts_reading text scan k e whole =
    let (s, read, is) = kept_run next_ts (ts_next capped) cap_ts ts_capped Start text scan e in
    let (p, whole_is, kept) = map_some cap_parts (stamp_read s) k (sym (stamp_read_capped s) ∙ ap stamp_read is ∙ whole) in
    let good = subst (Good text) (stamp_inv s p whole_is) (ts_good text s read) in
    (p, good.1, good.0, kept)

-- seconds within the limit are kept whole
seconds_within : (n : Bool) (s f : ℕ) →
    IsNanos (if n then neg_ℤ (pos (s * 1_000_000_000 + f)) else pos (s * 1_000_000_000 + f)) → s ≤ 281_474_976_710_655
seconds_within true s f h = omega (arith, ints)
seconds_within false s f h = omega (arith, ints)

-- parts whose seconds are kept are kept
with_seconds : (p : TsParts) → capped p.seconds ≡ p.seconds → cap_parts p ≡ p
with_seconds p e = ap (λ s. let q : TsParts = record { negative = p.negative; seconds = s; nanos = p.nanos } in q) e

-- what was kept within the limit is what was read
pub uncapped : (p : TsParts) → IsNanos (ts_value (cap_parts p)) → cap_parts p ≡ p
uncapped p h = let bound = seconds_within p.negative (capped p.seconds) p.nanos h in with_seconds p (omega arith)

-- what is within the limit is kept
pub kept_whole : (p : TsParts) → IsNanos (ts_value p) → cap_parts p ≡ p
kept_whole p h = let bound = seconds_within p.negative p.seconds p.nanos h in with_seconds p (omega arith)

-- a text spells one number
pub ts_once : (text : List ℕ) (a b : ℤ) → SpellsTs text a → SpellsTs text b → a ≡ b
ts_once text a b (p, fine_p, spelled_p, is_p) (q, fine_q, spelled_q, is_q) =
    let same = one_reading next_ts Start stamp_read ts_text IsStamp ts_reader p q fine_p fine_q (sym spelled_p ∙ spelled_q) in
    is_p ∙ ap ts_value same ∙ sym is_q

-- a number within the limit is the one that the text spells
pub ts_ok : (text : List ℕ) (k : TsParts) (answer : Option ℤ) → ReadsParts text k →
    (IsSome answer ↔ IsNanos (ts_value k)) → IfSome answer (λ t. t ≡ ts_value k) →
    IfOk (ok_or answer TooLarge) (SpellsTs text)
ts_ok text k None reads within value = tt
ts_ok text k (Some t) (p, fine, spelled, kept) within value =
    let whole = uncapped p (subst (λ q. IsNanos (ts_value q)) (sym kept) (within.0 refl)) in
    (p, fine, spelled, value ∙ ap ts_value (sym kept ∙ whole))

-- no other number is spelled
pub ts_only : (text : List ℕ) (answer : Result ℤ RangeFault) → IfOk answer (SpellsTs text) →
    IfOk answer (λ t. (nanos : ℤ) → SpellsTs text nanos → nanos ≡ t)
ts_only text (Ok t) ok = λ nanos other. ts_once text nanos t other ok
ts_only text (Err e) ok = tt

-- a refused number is past the limit
pub ts_too_large : (text : List ℕ) (k : TsParts) (answer : Option ℤ) → ReadsParts text k →
    (IsSome answer ↔ IsNanos (ts_value k)) → OnTooLarge (ok_or answer TooLarge) (SpellsTsPast text)
ts_too_large text k (Some t) reads within = tt
ts_too_large text k None (p, fine, spelled, kept) within =
    (ts_value p, (p, fine, spelled, refl), λ fits. let some = within.1 (subst (λ q. IsNanos (ts_value q)) (sym (kept_whole p fits) ∙ kept) fits) in cc)

-- ---- ranges

-- where a byte is refused, the text fails there
pub range_stops : (text : List ℕ) (at : ℕ) → StopsAt (range_next capped) (Left None) text at → FailsAt IsRangeText text at
range_stops text at stop =
    fails_within next_range (Left None) range_read range_text HasFineStamps range_reader text at
    (kept_stop next_range (range_next capped) cap_range range_capped (Left None) text at stop)

-- a text that ends too early fails at its end
pub range_unfinished : (text : List ℕ) (k : RangeScan) → run (range_next capped) (Left None) text ≡ Some k →
    range_read k ≡ None → FailsAt IsRangeText text (length text)
range_unfinished text k e none =
    let (s, read, is) = kept_run next_range (range_next capped) cap_range range_capped (Left None) text k e in
    let none_read : option_map cap_range_parts (range_read s) ≡ None = sym (range_read_capped s) ∙ ap range_read is ∙ none in
    fails_at_end next_range (Left None) range_read range_text HasFineStamps range_reader text s read (map_none cap_range_parts (range_read s) none_read)

-- the text has the parts p, of which k is what was kept
abbrev pub ReadsRangeParts : List ℕ → RangeParts → Type 0
ReadsRangeParts text k = (p : RangeParts) × SpellsParts text p × (cap_range_parts p ≡ k)

-- a whole range is the text of its parts
pub range_reading : (text : List ℕ) (scan : RangeScan) (k : RangeParts) →
    run (range_next capped) (Left None) text ≡ Some scan → range_read scan ≡ Some k → ReadsRangeParts text k
range_reading text scan k e whole =
    let (s, read, is) = kept_run next_range (range_next capped) cap_range range_capped (Left None) text scan e in
    let (p, whole_is, kept) = map_some cap_range_parts (range_read s) k (sym (range_read_capped s) ∙ ap range_read is ∙ whole) in
    let good = range_good text s read in
    let spelled = read_text s p good.1 whole_is in
    (p, (spelled.0, good.0 ∙ spelled.1), kept)

-- `uncapped` for a timestamp that may be there
uncapped_stamp : (o : Option TsParts) → IsStampWithin (option_map cap_parts o) → option_map cap_parts o ≡ o
uncapped_stamp None h = refl
uncapped_stamp (Some p) h = ap (λ q. Some q) (uncapped p h)

-- `uncapped` for all that stands between the brackets
uncapped_middle : (m : Middle) → IsWithin (cap_middle m) → cap_middle m ≡ m
uncapped_middle Empty h = refl
uncapped_middle (Single at) h = ap Single (uncapped at h)
uncapped_middle (Split first second) h = ap (λ o. Split o (option_map cap_parts second)) (uncapped_stamp first h.0) ∙ ap (Split first)
    (uncapped_stamp second h.1)

-- `kept_whole` for a timestamp that may be there
kept_stamp : (o : Option TsParts) → IsStampWithin o → option_map cap_parts o ≡ o
kept_stamp None h = refl
kept_stamp (Some p) h = ap (λ q. Some q) (kept_whole p h)

-- `kept_whole` for all that stands between the brackets
kept_middle : (m : Middle) → IsWithin m → cap_middle m ≡ m
kept_middle Empty h = refl
kept_middle (Single at) h = ap Single (kept_whole at h)
kept_middle (Split first second) h = ap (λ o. Split o (option_map cap_parts second)) (kept_stamp first h.0) ∙ ap (Split first) (kept_stamp second h.1)

-- parts mean one set of points
means_once : (left : Option Bracket) (m : Middle) (right : Option Bracket) (a b : Option Span) →
    MeansBetween left m right a → MeansBetween left m right b → HasSamePoints a b
means_once left Empty right a b is_a is_b p = let same : a ≡ b = cc in (λ h. subst (λ r. Has r p) same h, λ h. subst (λ r. Has r p) (sym same) h)
means_once left (Single at) right a b is_a is_b p = (λ h. (is_b p).1 ((is_a p).0 h), λ h. (is_a p).1 ((is_b p).0 h))
means_once left (Split first second) right a b is_a is_b p = (λ h. (is_b p).1 ((is_a p).0 h), λ h. (is_a p).1 ((is_b p).0 h))

-- a text has one list of parts
pub one_parts : (text : List ℕ) (p q : RangeParts) → SpellsParts text p → SpellsParts text q → p ≡ q
one_parts text p q parts_p parts_q =
    one_reading next_range (Left None) range_read range_text HasFineStamps range_reader p q parts_p.0 parts_q.0 (sym parts_p.1 ∙ parts_q.1)

-- a text spells one range
pub range_once : (text : List ℕ) (a b : Option Span) → SpellsRange text a → SpellsRange text b → HasSamePoints a b
range_once text a b (p, parts_p, within_p, means_p) (q, parts_q, within_q, means_q) =
    let same = one_parts text p q parts_p parts_q in
    means_once q.left q.middle q.right a b (subst (λ x. Means x a) same means_p) means_q

-- parts within the limit mean the range that the text spells
pub range_ok : (text : List ℕ) (k : RangeParts) (answer : Option (Option Span)) → ReadsRangeParts text k →
    (IsSome answer ↔ IsWithin k.middle) → IfSome answer (Means k) → IfOk (ok_or answer TooLarge) (SpellsRange text)
range_ok text k None reads within meant = tt
range_ok text k (Some r) (p, parts, kept) within meant =
    let fits = subst (λ q. IsWithin q.middle) (sym kept) (within.0 refl) in
    let middle = uncapped_middle p.middle fits in
    let is : k ≡ p = sym kept ∙ ap (λ m. let q : RangeParts = record { left = p.left; middle = m; right = p.right } in q) middle in
    (p, parts, subst IsWithin middle fits, subst (λ q. Means q r) is meant)

-- no other points are spelled
pub range_only : (text : List ℕ) (answer : Result (Option Span) RangeFault) → IfOk answer (SpellsRange text) →
    IfOk answer (λ r. (other : Option Span) → SpellsRange text other → HasSamePoints other r)
range_only text (Ok r) ok = λ other spells. range_once text other r spells ok
range_only text (Err e) ok = tt

-- a refused text has a timestamp past the limit
pub range_too_large : (text : List ℕ) (k : RangeParts) (answer : Option (Option Span)) → ReadsRangeParts text k →
    (IsSome answer ↔ IsWithin k.middle) → OnTooLarge (ok_or answer TooLarge) (SpellsRangePast text)
range_too_large text k (Some r) reads within = tt
range_too_large text k None (p, parts, kept) within =
    (p, parts, λ fits. let some = within.1 (subst (λ q. IsWithin q.middle) kept (subst IsWithin (sym (kept_middle p.middle fits)) fits)) in cc)
