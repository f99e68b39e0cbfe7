-- A walk that stops at the first segment that isn't met passes a page of those that are met.
use Rattle.std.proofs.Common.{◌≡◌, ℕ, zero, suc, ◌+◌, ℤ, ◌<ℤ◌, int_le, Bool, true, false, ◌&&◌, cond, List, [], ◌∷◌, ◌++◌, Option, Some, None, filter, map, take, drop, reverse, length, take_while, refl, sym, ap, subst, ◌∙◌, arith, append-nil, Bor}
use Rattle.std.specs.Bool.{⊤}
use Rattle.std.specs.List.{AllByRecursion, prefix_len}
use Rattle.std.proofs.lemmas.Int.{ints}
use Rattle.std.proofs.lemmas.List.{map-append, reverse-append, take-map, drop-map}
use Rattle.std.proofs.lemmas.List.Elements.{filter-append}
use Rattle.std.proofs.lemmas.List.Sums.{take_while-cons}
use Rattle.std.proofs.Math.Seq.{take-add, take-append_seam, drop-append_seam}
use Rattle.time_range.specs.declared.ranges.Span.{Span}
use Rattle.time_range.specs.Points.{low_of, high_of}
use Rattle.media_rows.specs.declared.segment.SegmentRow.{SegmentRow}
use Rattle.media_rows.specs.Lists.{is_past}
use Rattle.media_rows.specs.Ranges.{overlaps}
use Rattle.media_rows.specs.Segments.{first_point}
use Rattle.shared_tree.specs.Pairs.{IsRising, is_from, is_up_to, values, values_of}
use Rattle.shared_tree.proofs.Counted.{all_append, all_kept, each_passes, rising_kept}
use Rattle.shared_tree.proofs.Rising.{all_map, filter_none}
use Rattle.segment_index.specs.Answers.{is_met, met_page, page_of}
use Rattle.segment_index.specs.Within.Keyed.{IsIndex, IsKeyed, IsApart, last_point}
use Rattle.segment_index.specs.Within.Walks.{StartsPage, StartsReverse, begins, ends}
use Rattle.segment_index.proofs.Changed.{apart_kept, values_kept}
use Rattle.segment_index.proofs.Meeting.{overlaps_is}
use Rattle.segment_index.proofs.Reach.{Pair}

-- ---- lists

module _ {X : Type 0} where
  filter-reverse : (test : X → Bool) (xs : List X) → filter test (reverse xs) ≡ reverse (filter test xs)
  filter-reverse test [] = refl
  filter-reverse test (x ∷ xs) =
      ap (filter test) (reverse-append (x ∷ []) xs)
      ∙ filter-append test (reverse xs) (x ∷ [])
      ∙ ap (λ l. l ++ filter test (x ∷ [])) (filter-reverse test xs)
      ∙ by (test x)
    where
      by : (t : Bool) → reverse (filter test xs) ++ cond t (x ∷ []) [] ≡ reverse (cond t (x ∷ filter test xs) (filter test xs))
      by true = sym (reverse-append (x ∷ []) (filter test xs))
      by false = append-nil (reverse (filter test xs))

  all_reverse : (P : X → Type 0) (xs : List X) → AllByRecursion P xs → AllByRecursion P (reverse xs)
  all_reverse P [] h = tt
  all_reverse P (x ∷ xs) h = subst (AllByRecursion P) (sym (reverse-append (x ∷ []) xs)) (all_append P (reverse xs) (x ∷ []) (all_reverse P xs h.1) (h.0, tt))

  -- once an element fails, all later ones do
  abbrev Leads : (X → Bool) → List X → Type 0
  Leads test [] = ⊤
  Leads test (x ∷ xs) = (test x ≡ false → AllByRecursion (λ y. test y ≡ false) xs) × Leads test xs

  leads_end : (test : X → Bool) (xs : List X) (x : X) → Leads test xs → (test x ≡ true → AllByRecursion (λ y. test y ≡ true) xs) → Leads test (xs ++ x ∷ [])
  leads_end test [] x h f = ((λ e. tt), tt)
  leads_end test (y ∷ ys) x h f = (
    (λ e. all_append (λ z. test z ≡ false) ys (x ∷ []) (h.0 e) (failed e (test x) refl, tt)),
    leads_end test ys x h.1 (λ e. (f e).1),
  )
    where
      failed : test y ≡ false → (t : Bool) → test x ≡ t → test x ≡ false
      failed e true held = absurd (let yes = (f held).0 in grind arith)
      failed e false none = none

  take_while-take : (test : X → Bool) (n : ℕ) (xs : List X) → take_while test (take n xs) ≡ take n (take_while test xs)
  take_while-take test zero xs = refl
  take_while-take test (suc n) [] = refl
  take_while-take test (suc n) (x ∷ xs) = take_while-cons test x (take n xs) ∙ by (test x) (take_while-take test n xs) ∙ ap (take (suc n))
      (sym (take_while-cons test x xs))
    where
      by : (t : Bool) → take_while test (take n xs) ≡ take n (take_while test xs)
          → cond t (x ∷ take_while test (take n xs)) [] ≡ take (suc n) (cond t (x ∷ take_while test xs) [])
      by true rest = ap (λ l. x ∷ l) rest
      by false rest = refl

  leading : (test : X → Bool) (xs : List X) → Leads test xs → take_while test xs ≡ filter test xs
  leading test [] h = refl
  leading test (x ∷ xs) h = take_while-cons test x xs ∙ by (test x) refl (leading test xs h.1)
    where
      by : (t : Bool) → test x ≡ t → take_while test xs ≡ filter test xs → cond t (x ∷ take_while test xs) [] ≡ cond t (x ∷ filter test xs) (filter test xs)
      by true e rest = ap (λ l. x ∷ l) rest
      by false e rest = sym (filter_none test xs (h.0 e))

  -- two tests one after the other keep the same as two others, where each element passes both or neither
  filters : (first second third fourth : X → Bool) (xs : List X) → AllByRecursion (λ x. (first x && second x) ≡ (third x && fourth x)) xs
      → filter second (filter first xs) ≡ filter third (filter fourth xs)
  filters first second third fourth [] h = refl
  filters first second third fourth (x ∷ xs) h = by (first x) (second x) (third x) (fourth x) refl refl refl refl h.0 (filters first second third fourth xs h.1)
    where
      by : (a b c d : Bool) → first x ≡ a → second x ≡ b → third x ≡ c → fourth x ≡ d → (a && b) ≡ (c && d)
          → filter second (filter first xs) ≡ filter third (filter fourth xs) → filter second (cond a (x ∷ filter first xs) (filter first xs)) ≡ filter third
          (cond d (x ∷ filter fourth xs) (filter fourth xs))
      by true true true true ea eb ec ed e rest = rw (eb, ec) (ap (λ l. x ∷ l) rest)
      by true true true false ea eb ec ed e rest = absurd (grind arith)
      by true true false true ea eb ec ed e rest = absurd (grind arith)
      by true true false false ea eb ec ed e rest = absurd (grind arith)
      by true false true true ea eb ec ed e rest = absurd (grind arith)
      by true false true false ea eb ec ed e rest = rw eb rest
      by true false false true ea eb ec ed e rest = rw (eb, ec) rest
      by true false false false ea eb ec ed e rest = rw eb rest
      by false b true true ea eb ec ed e rest = absurd (grind arith)
      by false b true false ea eb ec ed e rest = rest
      by false b false true ea eb ec ed e rest = rw ec rest
      by false b false false ea eb ec ed e rest = rest

  page_walked : (walk met past : X → Bool) (n : ℕ) (xs : List X) → AllByRecursion (λ x. (walk x && met x) ≡ (past x && met x)) xs → Leads met (filter walk xs)
      → take_while met (take n (filter walk xs)) ≡ take n (filter past (filter met xs))
  page_walked walk met past n xs wanted leads =
      take_while-take met n (filter walk xs) ∙ ap (take n) (leading met (filter walk xs) leads ∙ filters walk met past met xs wanted)

module _ {X Y : Type 0} (f : X → Y) where
  map-reverse : (xs : List X) → map f (reverse xs) ≡ reverse (map f xs)
  map-reverse [] = refl
  map-reverse (x ∷ xs) = ap (map f) (reverse-append (x ∷ []) xs) ∙ map-append f (reverse xs) (x ∷ []) ∙ ap (λ l. l ++ f x ∷ []) (map-reverse xs) ∙ sym
      (reverse-append (f x ∷ []) (map f xs))

  prefix_len-map : (test : Y → Bool) (xs : List X) → prefix_len test (map f xs) ≡ prefix_len (λ x. test (f x)) xs
  prefix_len-map test [] = refl
  prefix_len-map test (x ∷ xs) = ap (λ n. cond (test (f x)) (1 + n) 0) (prefix_len-map test xs)

-- what is kept of references from a place on
pub kept_from : (test : SegmentRow → Bool) (start n : ℕ) (refs part new : List (Bor SegmentRow)) → part ≡ drop start refs
    → n ≡ prefix_len (λ r. test r.now) part → new ≡ take (start + n) refs → values_of new ≡ take start (values_of refs) ++ take_while test
    (drop start (values_of refs))
kept_from test start n refs part new from count is =
    let same : n ≡ prefix_len test (drop start (values_of refs)) = count ∙ ap (prefix_len (λ r. test r.now)) from ∙ sym
    (ap (prefix_len test) (drop-map (λ r. r.now) start refs) ∙ prefix_len-map (λ r. r.now) test (drop start refs)) in
    ap values_of is
    ∙ sym (take-map (λ r. r.now) (start + n) refs)
    ∙ take-add start n (values_of refs)
    ∙ ap (λ k. take start (values_of refs) ++ take k (drop start (values_of refs))) same

-- what stood before the walk stays
pub kept_behind : (test : SegmentRow → Bool) (n : ℕ) (old walked all new : List SegmentRow) → n ≡ length old → all ≡ old ++ walked
    → new ≡ take n all ++ take_while test (drop n all) → new ≡ old ++ take_while test walked
kept_behind test n old walked all new size whole e =
    rw (e, whole, size) (rw (take-append_seam old walked, drop-append_seam old walked) refl)

-- ---- segments by their pairs

all_values : (P : SegmentRow → Type 0) (ps : List Pair) → AllByRecursion (λ p. P p.1) ps → AllByRecursion P (values ps)
all_values P [] h = tt
all_values P (p ∷ ps) h = (h.0, all_values P ps h.1)

-- the first point of each is its key
keys_are : (ps : List Pair) → AllByRecursion IsKeyed ps → AllByRecursion (λ p. first_point p.1 ≡ p.0) ps
keys_are [] h = tt
keys_are (p ∷ ps) h = (rw h.0.low refl, keys_are ps h.1)

pub all_two : (P Q R : Pair → Type 0) → ((p : Pair) → P p → Q p → R p) → (ps : List Pair) → AllByRecursion P ps → AllByRecursion Q ps → AllByRecursion R ps
all_two P Q R f [] p q = tt
all_two P Q R f (x ∷ xs) p q = (f x p.0 q.0, all_two P Q R f xs p.1 q.1)

-- never meets no segment
pub never_met : (range : Option Span) → overlaps range None ≡ false
never_met None = refl
never_met (Some s) = refl

first_fails : (a b : Bool) → (a && b) ≡ false → b ≡ true → a ≡ false
first_fails true b h e = sym e ∙ h
first_fails false b h e = refl

first_holds : (a b : Bool) → (a && b) ≡ true → a ≡ true
first_holds true b h = refl
first_holds false b h = h

second_holds : (a b : Bool) → (a && b) ≡ true → b ≡ true
second_holds true b h = h
second_holds false b h = absurd (grind arith)

-- a segment that is met begins by the range's end, and ends behind its beginning
pub met_begins : (range : Option Span) (p : Pair) → IsKeyed p → is_met range p.1 ≡ true → begins (high_of range) p ≡ true
met_begins None p k met = absurd (let no = never_met p.1.segment.range in grind (arith, no))
met_begins (Some s) p k met = first_holds (begins s.high p) (ends s.low p) (sym (overlaps_is p s.low s.high k) ∙ met)

pub met_ends : (range : Option Span) (p : Pair) → IsKeyed p → is_met range p.1 ≡ true → ends (low_of range) p ≡ true
met_ends None p k met = absurd (let no = never_met p.1.segment.range in grind (arith, no))
met_ends (Some s) p k met = second_holds (begins s.high p) (ends s.low p) (sym (overlaps_is p s.low s.high k) ∙ met)

-- of two segments that end behind the range's beginning, the later isn't met where the first isn't
late_unmet : (range : Option Span) (p q : Pair) → IsKeyed p → IsKeyed q → p.0 <ℤ q.0 → ends (low_of range) p ≡ true → is_met range p.1 ≡ false
    → is_met range q.1 ≡ false
late_unmet None p q kp kq lt ended unmet = never_met q.1.segment.range
late_unmet (Some s) p q kp kq lt ended unmet =
    overlaps_is q s.low s.high kq
    ∙ ap (λ b. b && ends s.low q) (late s.high (first_fails (begins s.high p) (ends s.low p) (sym (overlaps_is p s.low s.high kp) ∙ unmet) ended))
  where
    late : (high : Option ℤ) → begins high p ≡ false → begins high q ≡ false
    late None e = absurd (grind arith)
    late (Some h) e = grind (arith, ints)

-- of two segments that begin by the range's end, the later is met where the first is
late_met : (range : Option Span) (p q : Pair) → IsKeyed p → IsKeyed q → last_point p.1 <ℤ q.0 → begins (high_of range) q ≡ true → is_met range p.1 ≡ true
    → is_met range q.1 ≡ true
late_met None p q kp kq lt begun met = absurd (let no = never_met p.1.segment.range in grind (arith, no))
late_met (Some s) p q kp kq lt begun met =
    overlaps_is q s.low s.high kq
    ∙ ap (λ b. b && ends s.low q) begun
    ∙ late s.low (met_ends (Some s) p kp met)
  where
    late : (low : Option ℤ) → ends low p ≡ true → ends low q ≡ true
    late None e = refl
    late (Some l) e = let o = kq.ordered in grind (arith, ints)

-- behind a segment that isn't met none is, where all end behind the range's beginning
leads_rising : (range : Option Span) (ps : List Pair) → AllByRecursion IsKeyed ps → IsRising ps → AllByRecursion (λ p. ends (low_of range) p ≡ true) ps
    → Leads (is_met range) (values ps)
leads_rising range [] keyed rising ended = tt
leads_rising range (p ∷ ps) keyed rising ended = (
  (λ unmet. all_values (λ row. is_met range row ≡ false) ps (all_two IsKeyed (λ q. p.0 <ℤ q.0) (λ q. is_met range q.1 ≡ false)
      (λ q k lt. late_unmet range p q keyed.0 k lt ended.0 unmet) ps keyed.1 rising.0)),
  leads_rising range ps keyed.1 rising.1 ended.1,
)

-- and in reverse, where all begin by the range's end
leads_falling : (range : Option Span) (ps : List Pair) → AllByRecursion IsKeyed ps → IsApart ps → AllByRecursion (λ p. begins (high_of range) p ≡ true) ps
    → Leads (is_met range) (reverse (values ps))
leads_falling range [] keyed apart begun = tt
leads_falling range (p ∷ ps) keyed apart begun =
    subst (Leads (is_met range)) (sym (reverse-append (p.1 ∷ []) (values ps)))
    (leads_end (is_met range) (reverse (values ps)) p.1 (leads_falling range ps keyed.1 apart.1 begun.1)
    (λ met. all_reverse (λ row. is_met range row ≡ true) (values ps)
    (all_values (λ row. is_met range row ≡ true) ps (later met ps keyed.1 apart.0 begun.1))))
  where
    later : is_met range p.1 ≡ true → (qs : List Pair) → AllByRecursion IsKeyed qs → AllByRecursion (λ q. last_point p.1 <ℤ q.0) qs
        → AllByRecursion (λ q. begins (high_of range) q ≡ true) qs → AllByRecursion (λ q. is_met range q.1 ≡ true) qs
    later met [] k lt b = tt
    later met (q ∷ qs) k lt b = (late_met range p q keyed.0 k.0 lt.0 b.0 met, later met qs k.1 lt.1 b.1)

-- what is wanted of pairs by their keys is wanted of segments by their first points
wanted_rows : (walk : ℤ → Bool) (past : ℤ → Bool) (range : Option Span) (ps : List Pair) → AllByRecursion IsKeyed ps
    → AllByRecursion (λ p. (walk p.0 && is_met range p.1) ≡ (past p.0 && is_met range p.1)) ps
    → AllByRecursion (λ row. (walk (first_point row) && is_met range row) ≡ (past (first_point row) && is_met range row)) (values ps)
wanted_rows walk past range ps keyed wanted =
    all_values (λ row. (walk (first_point row) && is_met range row) ≡ (past (first_point row) && is_met range row)) ps
    (all_two (λ p. first_point p.1 ≡ p.0) (λ p. (walk p.0 && is_met range p.1) ≡ (past p.0 && is_met range p.1)) _
    (λ p e w. subst (λ k. (walk k && is_met range p.1) ≡ (past k && is_met range p.1)) (sym e) w) ps (keys_are ps keyed) wanted)

-- the segments of a walk by their first points
walked_rows : (walk : ℤ → Bool) (ps : List Pair) → AllByRecursion IsKeyed ps
    → filter (λ row. walk (first_point row)) (values ps) ≡ values (filter (λ p. walk p.0) ps)
walked_rows walk ps keyed =
    values_kept (λ row. walk (first_point row)) (λ p. walk p.0) ps (all_map (λ p. first_point p.1 ≡ p.0) (λ p. walk (first_point p.1) ≡ walk p.0)
    (λ p e. ap walk e) ps (keys_are ps keyed))

-- what follows for those that a test keeps
kept_so : (test : Pair → Bool) (P : Pair → Type 0) (ps : List Pair) → AllByRecursion (λ p. test p ≡ true → P p) ps → AllByRecursion P (filter test ps)
kept_so test P ps h = all_two (λ p. test p ≡ true → P p) (λ p. test p ≡ true) P (λ p f e. f e) (filter test ps) (all_kept _ test ps h) (each_passes test ps)

pub page_rising : (range : Option Span) (after : Option ℤ) (limit : ℕ) (key : ℤ) (ps : List Pair) → IsIndex ps → IsRising ps → StartsPage range after key ps
    → take_while (is_met range) (take limit (values (filter (is_from key) ps))) ≡ met_page (values ps) range (page_of after limit false)
page_rising range after limit key ps index rising starts =
    let walked = walked_rows (λ k. int_le key k) ps index.keyed in
    let leads = leads_rising range (filter (is_from key) ps) (all_kept IsKeyed (is_from key) ps index.keyed) (rising_kept (is_from key) ps rising)
    (kept_so (is_from key) (λ p. ends (low_of range) p ≡ true) ps starts.reached) in
    ap (λ l. take_while (is_met range) (take limit l)) (sym walked)
    ∙ page_walked (λ row. int_le key (first_point row)) (is_met range) (λ row. is_past after false (first_point row)) limit (values ps)
    (wanted_rows (λ k. int_le key k) (is_past after false) range ps index.keyed starts.wanted) (subst (Leads (is_met range)) (sym walked) leads)

pub page_falling : (range : Option Span) (after : Option ℤ) (limit : ℕ) (key : ℤ) (ps : List Pair) → IsIndex ps → StartsReverse range after key ps
    → take_while (is_met range) (take limit (values (reverse (filter (is_up_to key) ps)))) ≡ met_page (values ps) range (page_of after limit true)
page_falling range after limit key ps index starts =
    let walk : SegmentRow → Bool = λ row. int_le (first_point row) key in
    let past : SegmentRow → Bool = λ row. is_past after true (first_point row) in
    let back = reverse (values ps) in
    let walked = filter-reverse walk (values ps) ∙ ap reverse (walked_rows (λ k. int_le k key) ps index.keyed) in
    let leads = leads_falling range (filter (is_up_to key) ps) (all_kept IsKeyed (is_up_to key) ps index.keyed) (apart_kept (is_up_to key) ps index.apart)
    (kept_so (is_up_to key) (λ p. begins (high_of range) p ≡ true) ps starts.begun) in
    let wanted = all_reverse (λ row. (walk row && is_met range row) ≡ (past row && is_met range row)) (values ps)
    (wanted_rows (λ k. int_le k key) (is_past after true) range ps index.keyed starts.wanted) in
    ap (λ l. take_while (is_met range) (take limit l)) (map-reverse (λ p. p.1) (filter (is_up_to key) ps) ∙ sym walked)
    ∙ page_walked walk (is_met range) past limit back wanted (subst (Leads (is_met range)) (sym walked) leads)
    ∙ ap (λ l. take limit (filter past l)) (filter-reverse (is_met range) (values ps))

-- what a walk appends is what it is equal to
pub appended : (old new walked page : List SegmentRow) → new ≡ old ++ walked → walked ≡ page → new ≡ old ++ page
appended old new walked page e same = e ∙ ap (λ l. old ++ l) same
