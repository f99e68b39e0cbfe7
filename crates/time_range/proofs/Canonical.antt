-- The canonical texts spell what they are printed for.
use Rattle.std.proofs.Common.{◌≡◌, suc, ◌+◌, ◌*◌, ◌/◌, ◌%◌, ℤ, pos, negsuc, neg_ℤ, Bool, true, false, if◌then◌else◌, Option, Some, None, IfSome, int_lt, sym, ◌∙◌, ap, refl, subst, arith}
use Rattle.std.specs.Ordering.{int_eq}
use Rattle.std.proofs.lemmas.Bool.Decides.{nat_tests, Decides-int_eq}
use Rattle.time_range.specs.Points.{IsNanos}
use Rattle.time_range.specs.Ends.{Between, IsEndWithin}
use Rattle.time_range.specs.Spelling.{IsStamp, IsStampWithin, ts_value, range_text, meant_end, SpellsRange, canonical_ts, bracket_of, stamp_of, middle_of, canonical_range}
use Rattle.time_range.specs.declared.ranges.Span.{Span}
use Rattle.time_range.specs.declared.ends.End.{End}
use Rattle.time_range.specs.declared.ends.End.TheVariants.{Unbounded, Including, Excluding}
use Rattle.time_range.specs.declared.spelling.Bracket.TheVariants.{Square}
use Rattle.time_range.specs.declared.spelling.Middle.{Middle}
use Rattle.time_range.specs.declared.spelling.Middle.TheVariants.{Single, Split}
use Rattle.time_range.proofs.TsMachine.{else_part}

-- the parts that are printed for a number mean it
pub ts_value-canonical_ts : (n : ℤ) → ts_value (canonical_ts n) ≡ n
ts_value-canonical_ts (pos a) =
    let parts : a / 1_000_000_000 * 1_000_000_000 + a % 1_000_000_000 ≡ a = omega arith in
    else_part (int_lt (pos a) (pos 0)) _ _ (grind (arith, nat_tests)) ∙ ap pos parts
ts_value-canonical_ts (negsuc a) =
    let parts : suc a / 1_000_000_000 * 1_000_000_000 + suc a % 1_000_000_000 ≡ suc a = omega arith in ap (λ k. neg_ℤ (pos k)) parts

-- printed parts have at most nine digits of nanoseconds
canonical_fine : (n : ℤ) → IsStamp (canonical_ts n)
canonical_fine n = omega arith

-- printed parts mean a number within the limit where the number is
canonical_within : (n : ℤ) → IsNanos n → IsNanos (ts_value (canonical_ts n))
canonical_within n h = subst IsNanos (sym (ts_value-canonical_ts n)) h

-- the timestamp that is printed for an end has at most nine digits of nanoseconds
stamp_fine : (e : End) → IfSome (stamp_of e) IsStamp
stamp_fine Unbounded = tt
stamp_fine (Including t) = canonical_fine t
stamp_fine (Excluding t) = canonical_fine t

-- and it is within the limit
stamp_within : (e : End) → IsEndWithin e → IsStampWithin (stamp_of e)
stamp_within Unbounded h = tt
stamp_within (Including t) h = canonical_within t h
stamp_within (Excluding t) h = canonical_within t h

-- what is printed for an end means it
meant_end-printed : (e : End) → meant_end (bracket_of e) (stamp_of e) ≡ e
meant_end-printed Unbounded = refl
meant_end-printed (Including t) = ap Including (ts_value-canonical_ts t)
meant_end-printed (Excluding t) = ap Excluding (ts_value-canonical_ts t)

-- the text that two ends and what stands between them are printed as spells the range
abbrev Spells : End → Middle → End → Option Span → Type 0
Spells low middle high range = SpellsRange (range_text (record { left = bracket_of low; middle = middle; right = bracket_of high })) range

-- two timestamps round `_`, each where its end has one, spell the range between two ends
split_spells : (low high : End) (range : Option Span) → IsEndWithin low → IsEndWithin high → Between low high range →
    Spells low (Split (stamp_of low) (stamp_of high)) high range
split_spells low high range within_low within_high between = (
  record { left = bracket_of low; middle = Split (stamp_of low) (stamp_of high); right = bracket_of high },
  ((stamp_fine low, stamp_fine high), refl),
  (stamp_within low within_low, stamp_within high within_high),
  subst (λ e. Between e (meant_end (bracket_of high) (stamp_of high)) range) (sym (meant_end-printed low))
      (subst (λ e. Between low e range) (sym (meant_end-printed high)) between),
)

-- one timestamp spells the range of one instant
instant_spells : (a b : ℤ) (range : Option Span) (test : Bool) → (test ≡ true → a ≡ b) → IsNanos a → IsNanos b →
    Between (Including a) (Including b) range →
    Spells (Including a) (if test then Single (canonical_ts a) else Split (Some (canonical_ts a)) (Some (canonical_ts b))) (Including b) range
instant_spells a b range false same within_a within_b between = split_spells (Including a) (Including b) range within_a within_b between
instant_spells a b range true same within_a within_b between =
    let one = subst (λ e. Between (Including a) (Including e) range) (sym (same refl)) between in (
      record { left = Some Square; middle = Single (canonical_ts a); right = Some Square },
      (canonical_fine a, refl),
      canonical_within a within_a,
      subst (λ e. Between (Including e) (Including e) range) (sym (ts_value-canonical_ts a)) one,
    )

-- the text that is printed for two ends spells the range between them
pub ends_spell : (low high : End) (range : Option Span) → IsEndWithin low → IsEndWithin high →
    Between low high range → Spells low (middle_of low high) high range
ends_spell (Including a) (Including b) range within_low within_high between =
    instant_spells a b range (int_eq a b) ((Decides-int_eq a b).0) within_low within_high between
ends_spell low high range within_low within_high between = split_spells low high range within_low within_high between

-- `()` spells never
pub never_spells : (range : Option Span) → range ≡ None → SpellsRange (range_text (canonical_range None)) range
never_spells range never = (canonical_range None, (tt, refl), tt, never)
