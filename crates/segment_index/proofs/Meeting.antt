-- Which segments have a point in a range, by their first and last points.
use Rattle.std.proofs.Common.{◌≡◌, ℤ, ◌<ℤ◌, ◌≤ℤ◌, Bool, true, false, ◌&&◌, if◌then◌else◌, List, [], ◌∷◌, Option, Some, None, filter, option_map, refl, sym, ap, subst, ◌∙◌, arith}
use Rattle.std.specs.List.{AllByRecursion}
use Rattle.std.proofs.lemmas.Int.{ints}
use Rattle.time_range.specs.declared.ranges.Span.{Span}
use Rattle.time_range.specs.Points.{low_of, high_of}
use Rattle.media_rows.specs.Lists.{or_else}
use Rattle.media_rows.specs.Ranges.{overlaps}
use Rattle.shared_tree.specs.Pairs.{IsRising, is_up_to, is_above, first, last, values}
use Rattle.shared_tree.proofs.Counted.{each_passes, rising_kept}
use Rattle.shared_tree.proofs.Rising.{all_map, filter_none}
use Rattle.segment_index.specs.Answers.{met}
use Rattle.segment_index.specs.Within.Keyed.{IsKeyed, IsApart, last_point, reaches, begins_by, from_last, span, reaching, beginning_by, row_of}
use Rattle.segment_index.specs.Within.Walks.{begins, ends}
use Rattle.segment_index.proofs.Reach.{Pair, last_all, reach_from}

-- the range of a kept segment
pub range_is : (range : Option Span) (low high : ℤ) → low_of range ≡ Some low → high_of range ≡ Some high → range ≡ span (Some low) (Some high)
range_is None low high el eh = absurd (grind (arith, el))
range_is (Some s) low high el eh = same s (Some low) (Some high) el eh
  where
    same : (t : Span) (l h : Option ℤ) → t.low ≡ l → t.high ≡ h → Some t ≡ span l h
    same t l h a b = rw (sym a, sym b) refl

pub overlaps_is : (p : Pair) (low high : Option ℤ) → IsKeyed p → overlaps p.1.segment.range (span low high) ≡ (begins high p && ends low p)
overlaps_is p low high keyed = rw (range_is p.1.segment.range p.0 (last_point p.1) keyed.low keyed.high) refl

-- the segments that have a point in a range are those that begin by its end among those that end behind its beginning
pub met_is : (ps : List Pair) (low high : Option ℤ) → AllByRecursion IsKeyed ps
    → met (values ps) (span low high) ≡ values (filter (begins high) (filter (ends low) ps))
met_is [] low high keyed = refl
met_is (p ∷ ps) low high keyed = by (begins high p) (ends low p) refl refl (met_is ps low high keyed.1)
  where
    by : (b e : Bool) → begins high p ≡ b → ends low p ≡ e → met (values ps) (span low high) ≡ values (filter (begins high) (filter (ends low) ps))
        → met (values (p ∷ ps)) (span low high) ≡ values (filter (begins high) (filter (ends low) (p ∷ ps)))
    by true true eb ee ih = rw (overlaps_is p low high keyed.0, ee, eb) (ap (λ l. p.1 ∷ l) ih)
    by true false eb ee ih = rw (overlaps_is p low high keyed.0, ee, eb) ih
    by false true eb ee ih = rw (overlaps_is p low high keyed.0, ee, eb) ih
    by false false eb ee ih = rw (overlaps_is p low high keyed.0, ee, eb) ih

-- the first of the pairs behind a point that begins by another, which is the first of them or none
pub first_begins : (high : ℤ) (ps : List Pair) → IsRising ps → (o : Option Pair) → o ≡ first ps → first (filter (begins_by high) ps) ≡ beginning_by high o
first_begins high [] rising o e = rw e refl
first_begins high (p ∷ ps) rising o e = rw e (by (begins_by high p) refl)
  where
    by : (t : Bool) → begins_by high p ≡ t → first (filter (begins_by high) (p ∷ ps)) ≡ (if begins_by high p then Some p else None)
    by true h = rw h refl
    by false h = rw (h, filter_none (begins_by high) ps (all_map (λ q. p.0 <ℤ q.0) _ (λ q lt. grind (arith, ints)) ps rising.0)) refl

-- the last pair up to a point where it reaches that, and otherwise the first one behind that begins by another
-- point
abbrev pub chosen : ℤ → ℤ → Option Pair → Option Pair → Option Pair
chosen low high before next = or_else (reaching low before) (beginning_by high next)

-- the first segment that has a point between two: the last up to the lower one, if it reaches that, or the first behind it, if it begins by the higher one
pub first_between : (low high : ℤ) (ps : List Pair) → low ≤ℤ high → AllByRecursion IsKeyed ps → IsApart ps → IsRising ps
    → first (met (values ps) (span (Some low) (Some high))) ≡ or_else (row_of (reaching low (last (filter (is_up_to low) ps))))
    (row_of (beginning_by high (first (filter (is_above low) ps))))
first_between low high ps le keyed apart rising =
    let behind = filter (is_above low) ps in
    ap first (met_is ps (Some low) (Some high) keyed)
    ∙ first_values (filter (begins_by high) (filter (reaches low) ps))
    ∙ ap (λ l. option_map (λ p. p.1) (first (filter (begins_by high) l))) (reach_from low ps keyed apart rising)
    ∙ ap (option_map (λ p. p.1)) (by (last (filter (is_up_to low) ps)) refl (first_begins high behind (rising_kept (is_above low) ps rising) (first behind)
    refl))
    ∙ mapped (reaching low (last (filter (is_up_to low) ps))) (beginning_by high (first behind))
  where
    mapped : (o n : Option Pair) → row_of (or_else o n) ≡ or_else (row_of o) (row_of n)
    mapped None n = refl
    mapped (Some p) n = refl

    first_values : (xs : List Pair) → first (values xs) ≡ option_map (λ p. p.1) (first xs)
    first_values [] = refl
    first_values (x ∷ xs) = refl

    early : (p : Pair) (xs : List Pair) → AllByRecursion (λ q. is_up_to low q ≡ true) xs → last xs ≡ Some p → is_up_to low p ≡ true
    early p [] all e = absurd (grind (arith, e))
    early p (x ∷ xs) all e = last_all (λ q. is_up_to low q ≡ true) x p xs all.0 all.1 e

    by : (o : Option Pair) → last (filter (is_up_to low) ps) ≡ o → first (filter (begins_by high) (filter (is_above low) ps)) ≡ beginning_by high
        (first (filter (is_above low) ps)) → first (filter (begins_by high) (from_last low o (filter (is_above low) ps))) ≡ chosen low high o
        (first (filter (is_above low) ps))
    by None e rest = rest
    by (Some p) e rest = each (reaches low p) refl
      where
        begins_early : begins_by high p ≡ true
        begins_early = let up = early p (filter (is_up_to low) ps) (each_passes (is_up_to low) ps) e in grind (arith, ints)

        each : (t : Bool) → reaches low p ≡ t → first (filter (begins_by high) (if t then p ∷ filter (is_above low) ps else filter (is_above low) ps)) ≡ or_else
            (if t then Some p else None) (beginning_by high (first (filter (is_above low) ps)))
        each true h = rw begins_early refl
        each false h = rest

-- the one before, or else the next one
pub some_first : {X : Type 0} {all : Option X} (before next : Option X) {x : X} → all ≡ or_else before next → Some x ≡ before → Some x ≡ all
some_first {X} {all} before next whole e = subst (λ o. or_else o next ≡ all) (sym e) (sym whole)

pub none_first : {X : Type 0} {all : Option X} (before next : Option X) {found : Option X} → all ≡ or_else before next → None ≡ before → found ≡ next
    → found ≡ all
none_first {X} {all} before next whole e same = same ∙ subst (λ o. or_else o next ≡ all) (sym e) (sym whole)
