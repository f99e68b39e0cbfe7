-- An index with a segment more, and with one fewer.
use Rattle.std.proofs.Common.{◌≡◌, ◌⊎◌, inl, inr, ℤ, ◌<ℤ◌, ◌≤ℤ◌, int_lt, int_eq, Bool, true, false, not, ◌&&◌, ◌||◌, cond, List, [], ◌∷◌, ◌++◌, Option, Some, None, filter, refl, sym, ap, subst, ◌∙◌, arith, nat_lt, Result, Ok, Err, IsErr, IsErrAnd, option_map}
use Rattle.std.specs.List.{AllByRecursion}
use Rattle.std.proofs.lemmas.Int.{ints}
use Rattle.std.proofs.lemmas.List.{map-append}
use Rattle.time_range.specs.declared.ranges.Span.{Span}
use Rattle.time_range.specs.Points.{low_of}
use Rattle.media_rows.specs.declared.segment.SegmentRow.{SegmentRow}
use Rattle.media_rows.specs.Lists.{placed}
use Rattle.media_rows.specs.Segments.{first_point, ranges_of, starts_before}
use Rattle.shared_tree.specs.Pairs.{IsRising, is_below, is_above, first, values, with_pair, without_key}
use Rattle.shared_tree.proofs.Counted.{all_append, all_kept, each_passes}
use Rattle.shared_tree.proofs.Rising.{all_map, filter_none}
use Rattle.segment_index.specs.declared.fault.AddFault.{AddFault}
use Rattle.segment_index.specs.declared.fault.AddFault.TheVariants.{Memory}
use Rattle.segment_index.specs.Answers.{Adds, first_met, met, without_start}
use Rattle.segment_index.specs.Within.Keyed.{IsIndex, IsKeyed, IsApart, last_point, reaches, begins_by, span}
use Rattle.segment_index.proofs.Meeting.{met_is, range_is}
use Rattle.segment_index.proofs.Reach.{Pair}

-- a segment ends before a low point, or begins behind a high one
abbrev Misses : ℤ → ℤ → Pair → Type 0
Misses low high p = (last_point p.1 <ℤ low) ⊎ (high <ℤ p.0)

-- where none is met, each misses the range
each_misses : (low high : ℤ) (ps : List Pair) → filter (begins_by high) (filter (reaches low) ps) ≡ [] → AllByRecursion (Misses low high) ps
each_misses low high [] e = tt
each_misses low high (p ∷ ps) e = by (reaches low p) (begins_by high p) refl refl e (each_misses low high ps)
  where
    by : (r b : Bool) → reaches low p ≡ r → begins_by high p ≡ b → filter (begins_by high) (cond r (p ∷ filter (reaches low) ps) (filter (reaches low) ps)) ≡ []
        → (filter (begins_by high) (filter (reaches low) ps) ≡ [] → AllByRecursion (Misses low high) ps) → AllByRecursion (Misses low high) (p ∷ ps)
    by true true er eb e' rest = absurd (grind (arith, rw eb at e'))
    by true false er eb e' rest = (inr (grind (arith, ints)), rest (rw eb at e'))
    by false b er eb e' rest = (inl (grind (arith, ints)), rest e')

no_first : {X : Type 0} (xs : List X) → first xs ≡ None → xs ≡ []
no_first [] e = refl
no_first (x ∷ xs) e = absurd (grind (arith, e))

no_values : (ps : List Pair) → values ps ≡ [] → ps ≡ []
no_values [] e = refl
no_values (p ∷ ps) e = absurd (grind (arith, e))

pub all_miss : (low high : ℤ) (ps : List Pair) → AllByRecursion IsKeyed ps → first (met (values ps) (span (Some low) (Some high))) ≡ None
    → AllByRecursion (Misses low high) ps
all_miss low high ps keyed none =
    each_misses low high ps (no_values _ (sym (met_is ps (Some low) (Some high) keyed) ∙ no_first _ none))

-- segments that are kept stay apart, and those before a point from those behind it
pub apart_kept : (test : Pair → Bool) (ps : List Pair) → IsApart ps → IsApart (filter test ps)
apart_kept test [] h = tt
apart_kept test (p ∷ ps) h = by (test p) (apart_kept test ps h.1)
  where
    by : (t : Bool) → IsApart (filter test ps) → IsApart (cond t (p ∷ filter test ps) (filter test ps))
    by true rest = (all_kept _ test ps h.0, rest)
    by false rest = rest

apart_meet : (point : ℤ) (l r : List Pair) → IsApart l → IsApart r → AllByRecursion (λ p. last_point p.1 <ℤ point) l → AllByRecursion (λ p. point ≤ℤ p.0) r
    → IsApart (l ++ r)
apart_meet point [] r hl hr bl br = hr
apart_meet point (p ∷ l) r hl hr bl br = (
  all_append (λ q. last_point p.1 <ℤ q.0) l r hl.0 (all_map (λ q. point ≤ℤ q.0) (λ q. last_point p.1 <ℤ q.0) (λ q le. let lt = bl.0 in grind (arith, ints)) r
      br),
  apart_meet point l r hl.1 hr bl.1 br,
)

-- three facts of each pair
all_three : (P Q R S : Pair → Type 0) → ((p : Pair) → P p → Q p → R p → S p) → (ps : List Pair) → AllByRecursion P ps → AllByRecursion Q ps
    → AllByRecursion R ps → AllByRecursion S ps
all_three P Q R S f [] p q r = tt
all_three P Q R S f (x ∷ xs) p q r = (f x p.0 q.0 r.0, all_three P Q R S f xs p.1 q.1 r.1)

-- a segment that meets none has its place among them
pub index_with : (low : ℤ) (row : SegmentRow) (ps new : List Pair) → IsIndex ps → IsKeyed (low, row) → AllByRecursion (Misses low (last_point row)) ps
    → new ≡ with_pair (low, row) ps → IsIndex new
index_with low row ps new index keyed misses is =
    let below = filter (is_below low) ps in
    let above = filter (is_above low) ps in
    let under = all_three IsKeyed (Misses low (last_point row)) (λ p. is_below low p ≡ true) (λ p. last_point p.1 <ℤ low) (λ p k m lt. ended p k m lt) below
    (all_kept _ (is_below low) ps index.keyed) (all_kept _ (is_below low) ps misses) (each_passes (is_below low) ps) in
    let over = all_three IsKeyed (Misses low (last_point row)) (λ p. is_above low p ≡ true) (λ p. last_point row <ℤ p.0) (λ p k m gt. begun p k m gt) above
    (all_kept _ (is_above low) ps index.keyed) (all_kept _ (is_above low) ps misses) (each_passes (is_above low) ps) in
    let ordered : low ≤ℤ last_point row = keyed.ordered in
    rw is (record {
      keyed = all_append IsKeyed below ((low, row) ∷ above) (all_kept _ (is_below low) ps index.keyed) (keyed, all_kept _ (is_above low) ps index.keyed);
      apart = apart_meet low below ((low, row) ∷ above) (apart_kept (is_below low) ps index.apart) (over, apart_kept (is_above low) ps index.apart) under
          (omega (arith, ints), all_map (λ p. last_point row <ℤ p.0) (λ p. low ≤ℤ p.0) (λ p gt. grind (arith, ints)) above over);
    })
  where
    ended : (p : Pair) → IsKeyed p → Misses low (last_point row) p → is_below low p ≡ true → last_point p.1 <ℤ low
    ended p k m lt = elim m [ inl h ↦ h | inr h ↦ let o = keyed.ordered in absurd (grind (arith, ints)) ]

    begun : (p : Pair) → IsKeyed p → Misses low (last_point row) p → is_above low p ≡ true → last_point row <ℤ p.0
    begun p k m gt = elim m [ inl h ↦ let o = k.ordered in absurd (grind (arith, ints)) | inr h ↦ h ]

-- ---- the rows of changed pairs

-- a test on rows keeps those whose pairs pass it
pub values_kept : (test : SegmentRow → Bool) (same : Pair → Bool) (ps : List Pair) → AllByRecursion (λ p. test p.1 ≡ same p) ps
    → filter test (values ps) ≡ values (filter same ps)
values_kept test same [] h = refl
values_kept test same (p ∷ ps) h = by (same p) h.0 (values_kept test same ps h.1)
  where
    by : (t : Bool) → test p.1 ≡ t → filter test (values ps) ≡ values (filter same ps)
        → cond (test p.1) (p.1 ∷ filter test (values ps)) (filter test (values ps)) ≡ values (cond t (p ∷ filter same ps) (filter same ps))
    by true e rest = rw e (ap (λ l. p.1 ∷ l) rest)
    by false e rest = rw e rest

-- two segments by their first points, where these differ
before_is : (a b : SegmentRow) (x y : ℤ) → low_of a.segment.range ≡ Some x → low_of b.segment.range ≡ Some y → (x ≡ y → ⊥) → starts_before a b ≡ int_lt x y
before_is a b x y ea eb apart = rw (ea, eb) (by (int_lt x y) (int_lt y x) refl refl)
  where
    by : (s t : Bool) → int_lt x y ≡ s → int_lt y x ≡ t → (s || (not t && nat_lt a.serial b.serial)) ≡ s
    by true t es et = refl
    by false true es et = refl
    by false false es et = absurd (apart (grind (arith, ints)))

-- a segment that meets none begins at no other's first point
differs : (low high : ℤ) (p : Pair) → low ≤ℤ high → IsKeyed p → Misses low high p → (p.0 ≡ low → ⊥)
differs low high p le k m e = elim m [ inl h ↦ let o = k.ordered in grind (arith, ints) | inr h ↦ grind (arith, ints) ]

pub values_with : (low : ℤ) (row : SegmentRow) (ps new : List Pair) → AllByRecursion IsKeyed ps → IsKeyed (low, row)
    → AllByRecursion (Misses low (last_point row)) ps → new ≡ with_pair (low, row) ps → values new ≡ placed starts_before row (values ps)
values_with low row ps new keys keyed misses is =
    rw (
      is,
      map-append (λ p. p.1) (filter (is_below low) ps) ((low, row) ∷ filter (is_above low) ps),
      sym (values_kept (λ y. starts_before y row) (is_below low) ps (each_below ps keys misses)),
      sym (values_kept (starts_before row) (is_above low) ps (each_above ps keys misses)),
    ) refl
  where
    each_below : (qs : List Pair) → AllByRecursion IsKeyed qs → AllByRecursion (Misses low (last_point row)) qs
        → AllByRecursion (λ p. starts_before p.1 row ≡ is_below low p) qs
    each_below [] k m = tt
    each_below (p ∷ qs) k m = (before_is p.1 row p.0 low k.0.low keyed.low (differs low (last_point row) p keyed.ordered k.0 m.0), each_below qs k.1 m.1)

    each_above : (qs : List Pair) → AllByRecursion IsKeyed qs → AllByRecursion (Misses low (last_point row)) qs
        → AllByRecursion (λ p. starts_before row p.1 ≡ is_above low p) qs
    each_above [] k m = tt
    each_above (p ∷ qs) k m = (
      before_is row p.1 low p.0 keyed.low k.0.low (λ e. differs low (last_point row) p keyed.ordered k.0 m.0 (sym e)),
      each_above qs k.1 m.1,
    )

-- the pairs of other keys, in order
others_are : (key : ℤ) (ps : List Pair) → IsRising ps → without_key key ps ≡ filter (λ p. not (int_eq p.0 key)) ps
others_are key [] rising = refl
others_are key (p ∷ rest) rising = by (int_lt p.0 key) (int_lt key p.0) refl refl (others_are key rest rising.1)
  where
    by : (b a : Bool) → int_lt p.0 key ≡ b → int_lt key p.0 ≡ a → without_key key rest ≡ filter (λ q. not (int_eq q.0 key)) rest
        → without_key key (p ∷ rest) ≡ filter (λ q. not (int_eq q.0 key)) (p ∷ rest)
    by true true eb ea ih = absurd (grind (arith, ints))
    by true false eb ea ih = rw (eb, ea) (ap (λ l. p ∷ l) ih)
    by false true eb ea ih =
        let none : filter (is_below key) rest ≡ [] = filter_none (is_below key) rest
        (all_map (λ q. p.0 <ℤ q.0) (λ q. is_below key q ≡ false) (λ q lt. grind (arith, ints)) rest rising.0) in
        let behind : filter (is_above key) rest ≡ filter (λ q. not (int_eq q.0 key)) rest =
        subst (λ l. l ++ filter (is_above key) rest ≡ filter (λ q. not (int_eq q.0 key)) rest) none ih in
        rw (eb, ea, none) (ap (λ l. p ∷ l) behind)
    by false false eb ea ih = rw (eb, ea) ih

pub index_without : (low : ℤ) (ps new : List Pair) → IsRising ps → IsIndex ps → new ≡ without_key low ps → IsIndex new
index_without low ps new rising index is =
    rw (is, others_are low ps rising) (record {
      keyed = all_kept IsKeyed (λ p. not (int_eq p.0 low)) ps index.keyed;
      apart = apart_kept (λ p. not (int_eq p.0 low)) ps index.apart;
    })

pub values_without : (low : ℤ) (ps new : List Pair) → IsRising ps → AllByRecursion IsKeyed ps → new ≡ without_key low ps
    → values new ≡ without_start low (values ps)
values_without low ps new rising keys is =
    rw (is, others_are low ps rising) (sym (values_kept (λ row. not (int_eq (first_point row) low)) (λ p. not (int_eq p.0 low)) ps (each ps keys)))
  where
    each : (qs : List Pair) → AllByRecursion IsKeyed qs → AllByRecursion (λ p. not (int_eq (first_point p.1) low) ≡ not (int_eq p.0 low)) qs
    each [] k = tt
    each (p ∷ qs) k = (rw k.0.low refl, each qs k.1)

-- ---- what adding answers

-- want of memory may come where none is met
pub adds_nothing : (rows : List SegmentRow) (row : SegmentRow) (result : Result (List SegmentRow) AddFault) → IsErr result
    → IsErrAnd result (λ fault. fault ≡ Memory) → first_met rows row.segment.range ≡ None → Adds rows row result
adds_nothing rows row (Ok index) is and none = absurd (grind (arith, is))
adds_nothing rows row (Err fault) is and none = subst (λ f. Adds rows row (Err f)) (sym and) none

-- the range of a segment by its first and last point
pub range_of : (low : ℤ) (row : SegmentRow) → IsKeyed (low, row) → row.segment.range ≡ span (Some low) (Some (last_point row))
range_of low row keyed = range_is row.segment.range low (last_point row) keyed.low keyed.high

-- the range of the first segment that is met, where the first one is this, or none is
pub met_first : (rows : List SegmentRow) (range : Option Span) (found : Option SegmentRow) → found ≡ first (met rows range)
    → first_met rows range ≡ option_map (λ r. r.segment.range) found
met_first rows range found e = by (met rows range) ∙ ap (option_map (λ r. r.segment.range)) (sym e)
  where
    by : (xs : List SegmentRow) → first (ranges_of xs) ≡ option_map (λ r. r.segment.range) (first xs)
    by [] = refl
    by (x ∷ xs) = refl

-- the same by the points of a segment
pub met_row : (low high : ℤ) (row : SegmentRow) (rows : List SegmentRow) (found : Option SegmentRow) → IsKeyed (low, row) → high ≡ last_point row
    → found ≡ first (met rows (span (Some low) (Some high))) → first_met rows row.segment.range ≡ option_map (λ r. r.segment.range) found
met_row low high row rows found keyed same e =
    met_first rows row.segment.range found (subst (λ r. found ≡ first (met rows r)) (ap (λ h. span (Some low) (Some h)) same ∙ sym (range_of low row keyed)) e)
