-- What stands behind a text after its parts were written is the field's spelling.
use Rattle.std.proofs.Common.{◌≡◌, ℕ, ℤ, List, [], ◌∷◌, ◌++◌, length, Option, Some, None, refl, ap, ap₂, subst, take, ◌∙◌, append_assoc, IfSome}
use Rattle.std.proofs.Math.Seq.{take-append_seam}
use Rattle.std.specs.Int.{w128, cast_unsigned}
use Rattle.disk_trait.specs.Numbers.{u32_bytes}
use Rattle.time_range.specs.Points.{IsNanos, IsRange}
use Rattle.time_range.specs.Spelling.{low_end, high_end}
use Rattle.time_range.specs.declared.ranges.Span.{Span}
use Rattle.time_range.specs.declared.ends.End.{End}
use Rattle.field_codec.specs.Spelling.{pair}
use Rattle.field_codec.specs.Leaves.{IsShort, text_spelling, u128_spelling, ts_spelling, end_spelling, range_spelling}
use Rattle.field_codec.specs.Reading.{WritesValue}
use Rattle.field_codec.proofs.RangeLaws.{end_lawful}

-- a text that was cut back to what was there
pub taken_back : (old more middle new : List ℕ) (n : ℕ) → n ≡ length old → middle ≡ old ++ more → new ≡ take n middle → new ≡ old
taken_back old more middle new n size grown cut = cut ∙ ap₂ (λ (k : ℕ) (t : List ℕ). take k t) size grown ∙ take-append_seam old more

pub text_wrote : (old middle text new : List ℕ) → IsShort text → middle ≡ old ++ u32_bytes (length text) → new ≡ middle ++ text
    → WritesValue text_spelling old text new
unfolding text_spelling
text_wrote old middle text new short first second = record {
  written = second ∙ ap (λ (t : List ℕ). t ++ text) first ∙ append_assoc old (u32_bytes (length text)) text;
  fits = short;
}

pub ts_wrote : (old new : List ℕ) (ts : ℤ) → IsNanos ts → WritesValue u128_spelling old (cast_unsigned w128 ts) new → WritesValue ts_spelling old ts new
unfolding ts_spelling u128_spelling
ts_wrote old new ts is wrote = record { written = wrote.written; fits = (wrote.fits, is) }

pub never_wrote : (old new : List ℕ) (range : Option Span) → range ≡ None → new ≡ old ++ 0 ∷ [] → WritesValue range_spelling old range new
unfolding range_spelling
never_wrote old new range never e = rw never (record { written = e; fits = (tt, tt) })

-- an end is written behind what was there
pub end_back : (old middle last new : List ℕ) (low : End) (n : ℕ) → n ≡ length old → WritesValue end_spelling old low middle → last ≡ middle
    → new ≡ take n last → new ≡ old
end_back old middle last new low n size wrote same cut =
    taken_back old (end_spelling.meaning.spell low) last new n size (same ∙ wrote.written ∙ end_lawful.adds old low) cut

-- two ends, one behind the other
pub both_wrote : (old middle new : List ℕ) (low high : End) → WritesValue end_spelling old low middle → WritesValue end_spelling middle high new
    → WritesValue (pair end_spelling end_spelling) old (low, high) new
both_wrote old middle new low high first second = record {
  written = second.written ∙ ap (λ (t : List ℕ). end_spelling.onto t high) first.written;
  fits = (first.fits, second.fits);
}

spans_wrote : (old flag new : List ℕ) (span : Span) → IsRange (Some span) → flag ≡ old ++ 1 ∷ []
    → WritesValue (pair end_spelling end_spelling) flag (low_end span.low, high_end span.high) new → WritesValue range_spelling old (Some span) new
unfolding range_spelling
spans_wrote old flag new span is e ends = record {
  written = ends.written ∙ ap (λ (t : List ℕ). (pair end_spelling end_spelling).onto t (low_end span.low, high_end span.high)) e;
  fits = (ends.fits, is);
}

pair_is : {A : Type 0} (x y : A) → Some x ≡ Some y → x ≡ y
pair_is x y e = cc

abbrev pub some_ends : End → End → Option (End × End)
some_ends low high = Some (low, high)

pub range_wrote : (old flag new : List ℕ) (range : Option Span) (low high : End) → IsRange range → (range ≡ None → ⊥)
    → IfSome range (λ s. some_ends low high ≡ some_ends (low_end s.low) (high_end s.high)) → flag ≡ old ++ 1 ∷ []
    → WritesValue (pair end_spelling end_spelling) flag (low, high) new → WritesValue range_spelling old range new
range_wrote old flag new None low high is points value e ends = absurd (points refl)
range_wrote old flag new (Some span) low high is points value e ends =
    let both = pair_is (low, high) (low_end span.low, high_end span.high) value in
    spans_wrote old flag new span is e (subst (λ (p : End × End). WritesValue (pair end_spelling end_spelling) flag p new) both ends)
