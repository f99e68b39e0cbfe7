-- The laws of timestamps, ends and ranges.
use Rattle.std.proofs.Common.{◌≡◌, ◌<◌, ◌^◌, ℕ, ℤ, pos, negsuc, ◌+ℤ◌, ◌-ℤ◌, ◌≤ℤ◌, Option, Some, None, refl, sym, ap, ap₂, subst, ◌∙◌, arith, inl, inr, ◌⊎◌}
use Rattle.std.specs.Prelude.{FitsSigned, Bool, true, false, if◌then◌else◌}
use Rattle.std.specs.Ordering.{int_eq}
use Rattle.std.specs.Int.{w128, cast_signed, cast_unsigned}
use Rattle.std.proofs.lemmas.Bool.Decides.{Decides-int_eq}
use Rattle.std.proofs.lemmas.Int.{ints, to_z-of_z, of_z-to_z}
use Rattle.time_range.specs.Points.{instant, IsNanos, is_nanos, IsRange}
use Rattle.time_range.specs.Ends.{low_point, high_point, are_ordered, IsEndWithin}
use Rattle.time_range.specs.Spelling.{half, low_end, high_end}
use Rattle.time_range.proofs.EndTests.{nanos_from_test, test_from_nanos, ordered_from_test, test_from_order, low_within, high_within}
use Rattle.time_range.proofs.Theorems.{low_end-low_point, high_end-high_point, half_bounds}
use Rattle.time_range.specs.declared.ranges.Span.{Span}
use Rattle.time_range.specs.declared.ends.End.{End}
use Rattle.time_range.specs.declared.ends.End.TheVariants.{Unbounded, Including, Excluding}
use Rattle.field_codec.specs.Spelling.{no_field, pair, either, no_kind, optional}
use Rattle.field_codec.specs.Leaves.{u128_spelling, nanos_of, ts_spelling, end_with, end_parts, end_spelling, span_of, ends_of, range_spelling}
use Rattle.field_codec.specs.Laws.{Lawful}
use Rattle.field_codec.proofs.Combined.{narrowed_lawful, pair_lawful, via_lawful, nothing_lawful}
use Rattle.field_codec.proofs.KindLaws.{no_kinds, one_kind, optional_lawful}
use Rattle.field_codec.proofs.Numbers.{u128_lawful}

-- ---- timestamps

-- a timestamp fits 128 bits
pub fits_bits : (z : ℤ) → IsNanos z → FitsSigned w128 z
fits_bits (pos n) h = record { sfits = omega (arith, ints, h.most) }
fits_bits (negsuc n) h = record { sfits = omega (arith, ints, h.least) }

pub bits_below : (z : ℤ) → IsNanos z → cast_unsigned w128 z < 2 ^ 128
bits_below (pos n) h = omega (arith, ints, h.most)
bits_below (negsuc n) h = omega arith

kept_some : {A : Type 0} (b : Bool) (x y : A) → (if b then Some x else None) ≡ Some y → (x ≡ y) × (b ≡ true)
kept_some true x y e = (cc, refl)
kept_some false x y e = absurd cc

nanos_is : (bits : ℕ) (z : ℤ) → bits < 2 ^ 128 → nanos_of bits ≡ Some z → (cast_unsigned w128 z ≡ bits) × IsNanos z
nanos_is bits z lt e =
    let k = kept_some (is_nanos (cast_signed w128 bits)) (cast_signed w128 bits) z e in
    (ap (cast_unsigned w128) (sym k.0) ∙ of_z-to_z w128 bits lt, nanos_from_test z (ap is_nanos (sym k.0) ∙ k.1))

nanos_again : (z : ℤ) → IsNanos z → nanos_of (cast_unsigned w128 z) ≡ Some z
nanos_again z h =
    let back = to_z-of_z w128 z (fits_bits z h) in
    ap (λ (y : ℤ). if is_nanos y then Some y else None) back ∙ rw (test_from_nanos z h) refl

pub ts_lawful : Lawful ts_spelling
unfolding ts_spelling u128_spelling
ts_lawful =
    narrowed_lawful nanos_of (cast_unsigned w128) IsNanos (λ n. Unit {0}) u128_spelling
    (record { is = λ bits z lt e. nanos_is bits z lt e; again = λ z lt h. nanos_again z h; writable = λ z lt h. tt }) u128_lawful

pub ts_fits : (z : ℤ) → IsNanos z → ts_spelling.meaning.fits z
unfolding ts_spelling u128_spelling
ts_fits z h = (bits_below z h, h)

pub nanos_fit : (z : ℤ) → ts_spelling.meaning.fits z → IsNanos z
unfolding ts_spelling u128_spelling
nanos_fit z h = h.1

-- ---- ends

parts-end : (p : Unit {0} ⊎ (ℤ ⊎ (ℤ ⊎ ⊥))) → end_parts (end_with p) ≡ p
parts-end (inl tt) = refl
parts-end (inr (inl t)) = refl
parts-end (inr (inr (inl t))) = refl
parts-end (inr (inr (inr x))) = absurd x

end-parts : (e : End) → end_with (end_parts e) ≡ e
end-parts Unbounded = refl
end-parts (Including t) = refl
end-parts (Excluding t) = refl

pub end_lawful : Lawful end_spelling
unfolding end_spelling
end_lawful =
    via_lawful end_with end_parts (either 0 no_field (either 1 ts_spelling (either 2 ts_spelling no_kind))) parts-end end-parts
    (one_kind 0 1 no_field (either 1 ts_spelling (either 2 ts_spelling no_kind)) (omega arith) nothing_lawful
    (one_kind 1 2 ts_spelling (either 2 ts_spelling no_kind) (omega arith) ts_lawful
    (one_kind 2 3 ts_spelling no_kind (omega arith) ts_lawful (no_kinds 3)))).lawful

pub end_within : (e : End) → end_spelling.meaning.fits e → IsEndWithin e
unfolding end_spelling
end_within Unbounded h = tt
end_within (Including t) h = nanos_fit t h
end_within (Excluding t) h = nanos_fit t h

pub end_fits : (e : End) → IsEndWithin e → end_spelling.meaning.fits e
unfolding end_spelling
end_fits Unbounded h = tt
end_fits (Including t) h = ts_fits t h
end_fits (Excluding t) h = ts_fits t h

-- ---- ranges

gap_is : (a p : ℤ) → a ≤ℤ p → p ≤ℤ (a +ℤ pos 1) → (a ≡ p → ⊥) → a +ℤ pos 1 ≡ p
gap_is a p low high apart = omega (arith, ints, apart)

before_is : (h p : ℤ) → instant h +ℤ pos 1 ≡ p → instant (h +ℤ pos 1) -ℤ pos 1 ≡ p
before_is h p e = omega (arith, ints)

-- the point of the end that a point stands for, at an instant or a gap
low_by : (p : ℤ) (b : Bool) → int_eq (instant (half p)) p ≡ b → low_point (if b then Including (half p) else Excluding (half p)) ≡ Some p
low_by p true e = ap (λ z. Some z) ((Decides-int_eq (instant (half p)) p).0 e)
low_by p false e =
    let apart : instant (half p) ≡ p → ⊥ = λ same. let yes = (Decides-int_eq (instant (half p)) p).1 same in let both = sym yes ∙ e in cc in
    let bounds = half_bounds p in
    let is : instant (half p) +ℤ pos 1 ≡ p = gap_is (instant (half p)) p bounds.0 bounds.1 apart in
    ap (λ z. Some z) is

pub low_point-low_end : (low : Option ℤ) → low_point (low_end low) ≡ low
low_point-low_end None = refl
low_point-low_end (Some p) = low_by p (int_eq (instant (half p)) p) refl

high_by : (p : ℤ) (b : Bool) → int_eq (instant (half p)) p ≡ b → high_point (if b then Including (half p) else Excluding (half p +ℤ pos 1)) ≡ Some p
high_by p true e = ap (λ z. Some z) ((Decides-int_eq (instant (half p)) p).0 e)
high_by p false e =
    let apart : instant (half p) ≡ p → ⊥ = λ same. let yes = (Decides-int_eq (instant (half p)) p).1 same in let both = sym yes ∙ e in cc in
    let bounds = half_bounds p in
    let is : instant (half p) +ℤ pos 1 ≡ p = gap_is (instant (half p)) p bounds.0 bounds.1 apart in
    ap (λ z. Some z) (before_is (half p) p is)

pub high_point-high_end : (high : Option ℤ) → high_point (high_end high) ≡ high
high_point-high_end None = refl
high_point-high_end (Some p) = high_by p (int_eq (instant (half p)) p) refl

abbrev span : Option ℤ → Option ℤ → Span
span low high = record { low = low; high = high }

range_is : (o : Option (End × End)) (r : Option Span) → (optional (pair end_spelling end_spelling)).meaning.fits o → span_of o ≡ Some r
    → (ends_of r ≡ o) × IsRange r
range_is None None fits e = (refl, tt)
range_is None (Some s) fits e = absurd cc
range_is (Some ends) r fits e =
    let low = low_point ends.0 in
    let high = high_point ends.1 in
    let k = kept_some (are_ordered low high) (Some (span low high)) r e in
    let is : ends_of (Some (span low high)) ≡ Some ends = ap₂ (λ (a b : End). Some (a, b)) (low_end-low_point ends.0) (high_end-high_point ends.1) in
    let good : IsRange (Some (span low high)) = record {
      ordered = ordered_from_test low high k.1;
      low = low_within ends.0 (end_within ends.0 fits.0);
      high =
          high_within ends.1 (end_within ends.1 fits.1);
    } in
    subst (λ (x : Option Span). (ends_of x ≡ Some ends) × IsRange x) k.0 (is, good)

range_again : (r : Option Span) → IsRange r → span_of (ends_of r) ≡ Some r
range_again None h = refl
range_again (Some s) h =
    ap₂ (λ (a b : Option ℤ). if are_ordered a b then Some (Some (span a b)) else None) (low_point-low_end s.low) (high_point-high_end s.high)
    ∙ rw (test_from_order s.low s.high h.ordered) refl

pub range_lawful : Lawful range_spelling
unfolding range_spelling
range_lawful =
    narrowed_lawful span_of ends_of IsRange (λ r. Unit {0}) (optional (pair end_spelling end_spelling))
    (record { is = range_is; again = λ r fits h. range_again r h; writable = λ r fits h. tt })
    (optional_lawful (pair end_spelling end_spelling) (pair_lawful end_spelling end_spelling end_lawful end_lawful))
