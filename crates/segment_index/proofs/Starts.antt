-- From which point on all segments reach a point, and where the walk for a page begins.
use Rattle.std.proofs.Common.{◌≡◌, ℤ, ◌<ℤ◌, ◌≤ℤ◌, int_le, Bool, true, false, ◌&&◌, cond, if◌then◌else◌, List, [], ◌∷◌, Option, Some, None, filter, refl, sym, ap, subst, ◌∙◌, arith}
use Rattle.std.specs.Int.{int_max, int_min}
use Rattle.std.specs.List.{AllByRecursion}
use Rattle.std.proofs.lemmas.Int.{ints, clamps}
use Rattle.time_range.specs.declared.ranges.Span.{Span}
use Rattle.time_range.specs.Points.{low_of, high_of}
use Rattle.media_rows.specs.Lists.{is_past}
use Rattle.shared_tree.specs.Pairs.{IsRising, is_from, is_up_to, last}
use Rattle.shared_tree.proofs.Counted.{all_kept, each_passes}
use Rattle.shared_tree.proofs.Rising.{all_map, filter_none}
use Rattle.segment_index.specs.Answers.{is_met}
use Rattle.segment_index.specs.Within.Keyed.{IsKeyed, IsApart, last_point, reaches}
use Rattle.segment_index.specs.Within.Walks.{IsInner, StartsPage, StartsReverse, begins, ends, walk_start}
use Rattle.segment_index.proofs.PageWalks.{all_two, met_begins, met_ends}
use Rattle.segment_index.proofs.Reach.{Pair, last_all}

-- the start by the last one up to the point
pub start_there : (point : ℤ) (p : Pair) (o : Option Pair) → Some p ≡ o → reaches point p ≡ true → p.0 ≡ walk_start point o
start_there point p o e h = subst (λ x. p.0 ≡ walk_start point x) e (rw h refl)

pub start_here : (point : ℤ) (p : Pair) (o : Option Pair) → Some p ≡ o → reaches point p ≡ false → point ≡ walk_start point o
start_here point p o e h = subst (λ x. point ≡ walk_start point x) e (rw h refl)

-- segments that begin behind a point and a start reach that point
all_later : (start point : ℤ) (qs : List Pair) → start ≤ℤ point → AllByRecursion IsKeyed qs → AllByRecursion (λ q. point <ℤ q.0) qs
    → AllByRecursion (λ q. is_from start q ≡ reaches point q) qs
all_later start point [] le k a = tt
all_later start point (q ∷ qs) le k a = (later (int_le start q.0) (int_le point (last_point q.1)) refl refl, all_later start point qs le k.1 a.1)
  where
    later : (s t : Bool) → int_le start q.0 ≡ s → int_le point (last_point q.1) ≡ t → is_from start q ≡ reaches point q
    later true true es et = rw (es, et) refl
    later false t es et = absurd (let b = a.0 in grind (arith, ints))
    later true false es et = absurd (let b = a.0 in let o = k.0.ordered in grind (arith, ints))

-- none is kept, so each fails
none_kept : (test : Pair → Bool) (ps : List Pair) → [] ≡ filter test ps → AllByRecursion (λ p. test p ≡ false) ps
none_kept test [] e = tt
none_kept test (p ∷ ps) e = by (test p) refl e (none_kept test ps)
  where
    by : (t : Bool) → test p ≡ t → [] ≡ cond t (p ∷ filter test ps) (filter test ps) → ([] ≡ filter test ps → AllByRecursion (λ q. test q ≡ false) ps)
        → AllByRecursion (λ q. test q ≡ false) (p ∷ ps)
    by true h e' rest = absurd (grind arith)
    by false h e' rest = (h, rest e')

-- the start by the last of these is where those that reach the point begin
abbrev Starts : ℤ → List Pair → List Pair → Type 0
Starts point early ps = AllByRecursion (λ p. is_from (walk_start point (last early)) p ≡ reaches point p) ps

pub starts_are : (point : ℤ) (ps : List Pair) → AllByRecursion IsKeyed ps → IsApart ps → IsRising ps → Starts point (filter (is_up_to point) ps) ps
starts_are point [] keyed apart rising = tt
starts_are point (p ∷ rest) keyed apart rising = by (int_le p.0 point) refl (starts_are point rest keyed.1 apart.1 rising.1)
  where
    own : ℤ → Type 0
    own start = is_from start p ≡ reaches point p

    -- p alone begins up to the point
    alone : int_le p.0 point ≡ true → AllByRecursion (λ q. point <ℤ q.0) rest → Starts point (p ∷ []) (p ∷ rest)
    alone up behind = each (reaches point p) refl
      where
        each : (t : Bool) → reaches point p ≡ t → AllByRecursion (λ q. is_from (if t then p.0 else point) q ≡ reaches point q) (p ∷ rest)
        each true h = (grind (arith, ints), all_later p.0 point rest (omega (arith, ints, up)) keyed.1 behind)
        each false h = (let o = keyed.0.ordered in grind (arith, ints), all_later point point rest (omega (arith, ints)) keyed.1 behind)

    -- the start is behind p, which ends before the point
    ended : (u : Pair) (us : List Pair) → last_point p.1 <ℤ u.0 → int_le u.0 point ≡ true → AllByRecursion (λ q. p.0 <ℤ q.0) (u ∷ us)
        → is_from (walk_start point (last (u ∷ us))) p ≡ reaches point p
    ended u us from until late = each (last (u ∷ us)) refl
      where
        not_from : (start : ℤ) → p.0 <ℤ start → is_from start p ≡ reaches point p
        not_from start lt = agree (int_le start p.0) (int_le point (last_point p.1)) refl refl
          where
            agree : (s t : Bool) → int_le start p.0 ≡ s → int_le point (last_point p.1) ≡ t → is_from start p ≡ reaches point p
            agree false false es et = rw (es, et) refl
            agree true t es et = absurd (grind (arith, ints))
            agree false true es et = absurd (grind (arith, ints))

        each : (o : Option Pair) → last (u ∷ us) ≡ o → is_from (walk_start point o) p ≡ reaches point p
        each None e = not_from point (let l = late.0 in grind (arith, ints))
        each (Some x) e = by_reach (reaches point x)
          where
            by_reach : (t : Bool) → is_from (if t then x.0 else point) p ≡ reaches point p
            by_reach true = not_from x.0 (last_all (λ q. p.0 <ℤ q.0) u x us late.0 late.1 e)
            by_reach false = not_from point (let l = late.0 in grind (arith, ints))

    next : (us : List Pair) → us ≡ filter (is_up_to point) rest → int_le p.0 point ≡ true → Starts point us rest → Starts point (p ∷ us) (p ∷ rest)
    next [] e up ih = alone up (all_map (λ q. is_up_to point q ≡ false) (λ q. point <ℤ q.0) (λ q no. grind (arith, ints)) rest
        (none_kept (is_up_to point) rest e))
    next (u ∷ us) e up ih =
        let early = subst (AllByRecursion (λ q. is_up_to point q ≡ true)) (sym e) (each_passes (is_up_to point) rest) in
        let later = subst (AllByRecursion (λ q. last_point p.1 <ℤ q.0)) (sym e) (all_kept (λ q. last_point p.1 <ℤ q.0) (is_up_to point) rest apart.0) in
        let late = subst (AllByRecursion (λ q. p.0 <ℤ q.0)) (sym e) (all_kept (λ q. p.0 <ℤ q.0) (is_up_to point) rest rising.0) in
        (ended u us later.0 early.0 late, ih)

    by : (t : Bool) → int_le p.0 point ≡ t → Starts point (filter (is_up_to point) rest) rest → Starts point (filter (is_up_to point) (p ∷ rest)) (p ∷ rest)
    by false past ih =
        let above : AllByRecursion (λ q. point <ℤ q.0) (p ∷ rest) =
        (grind (arith, ints), all_map (λ q. p.0 <ℤ q.0) (λ q. point <ℤ q.0) (λ q lt. grind (arith, ints)) rest rising.0) in
        let none = filter_none (is_up_to point) (p ∷ rest) (all_map (λ q. point <ℤ q.0) _ (λ q lt. grind (arith, ints)) (p ∷ rest) above) in
        subst (λ l. Starts point l (p ∷ rest)) (sym none) (all_later point point (p ∷ rest) (omega (arith, ints)) keyed above)
    by true up ih =
        let some : filter (is_up_to point) (p ∷ rest) ≡ p ∷ filter (is_up_to point) rest = rw up refl in
        subst (λ l. Starts point l (p ∷ rest)) (sym some) (next (filter (is_up_to point) rest) refl up ih)

-- ---- where the walk for a page begins

-- a pair is walked over and met exactly where it is past the key and met
both_ways : (walked past side met : Bool) → (side ≡ true → walked ≡ past) → (met ≡ true → side ≡ true) → (walked && met) ≡ (past && met)
both_ways walked past side true same need = ap (λ b. b && true) (same (need refl))
both_ways true true side false same need = refl
both_ways true false side false same need = refl
both_ways false true side false same need = refl
both_ways false false side false same need = refl

-- the higher of two points, and the lower
higher_is : (a b x : ℤ) → int_le b x ≡ true → int_le (int_max a b) x ≡ int_le a x
higher_is a b x h = by (int_le a x) (int_le (int_max a b) x) refl refl
  where
    by : (s t : Bool) → int_le a x ≡ s → int_le (int_max a b) x ≡ t → int_le (int_max a b) x ≡ int_le a x
    by true true es et = rw (es, et) refl
    by false false es et = rw (es, et) refl
    by true false es et = absurd (omega (arith, ints, clamps, h, es, et))
    by false true es et = absurd (omega (arith, ints, clamps, h, es, et))

higher_so : (a b x : ℤ) → int_le (int_max a b) x ≡ true → int_le b x ≡ true
higher_so a b x h = by (int_le b x) refl
  where
    by : (t : Bool) → int_le b x ≡ t → int_le b x ≡ true
    by true e = e
    by false e = absurd (omega (arith, ints, clamps, h, e))

lower_is : (a b x : ℤ) → int_le x b ≡ true → int_le x (int_min a b) ≡ int_le x a
lower_is a b x h = by (int_le x a) (int_le x (int_min a b)) refl refl
  where
    by : (s t : Bool) → int_le x a ≡ s → int_le x (int_min a b) ≡ t → int_le x (int_min a b) ≡ int_le x a
    by true true es et = rw (es, et) refl
    by false false es et = rw (es, et) refl
    by true false es et = absurd (omega (arith, ints, clamps, h, es, et))
    by false true es et = absurd (omega (arith, ints, clamps, h, es, et))

lower_so : (a b x : ℤ) → int_le x (int_min a b) ≡ true → int_le x b ≡ true
lower_so a b x h = by (int_le x b) refl
  where
    by : (t : Bool) → int_le x b ≡ t → int_le x b ≡ true
    by true e = e
    by false e = absurd (omega (arith, ints, clamps, h, e))

-- the range has no beginning
pub page_open : (range : Option Span) (after : Option ℤ) (behind : ℤ) (ps : List Pair) → low_of range ≡ None → AllByRecursion IsKeyed ps
    → ((p : ℤ) → IsInner p → int_le behind p ≡ is_past after false p) → StartsPage range after behind ps
page_open range after behind ps none keyed past = record {
  wanted = all_map IsKeyed _ (λ p k. ap (λ b. b && is_met range p.1) (past p.0 (k.inner, k.outer))) ps keyed;
  reached = all_map IsKeyed _ (λ p k e. rw none refl) ps keyed;
}

-- the range begins at a point
pub page_from : (range : Option Span) (after : Option ℤ) (low start behind key : ℤ) (ps : List Pair) → low_of range ≡ Some low → AllByRecursion IsKeyed ps
    → ((p : ℤ) → IsInner p → int_le behind p ≡ is_past after false p) → AllByRecursion (λ p. is_from start p ≡ reaches low p) ps → key ≡ int_max behind start
    → StartsPage range after key ps
page_from range after low start behind key ps from keyed past starts is = rw is (record {
  wanted = all_two IsKeyed (λ p. is_from start p ≡ reaches low p) _ (λ p k s. both_ways (int_le (int_max behind start) p.0) (is_past after false p.0)
      (is_from start p) (is_met range p.1) (λ e. higher_is behind start p.0 e ∙ past p.0 (k.inner, k.outer))
      (λ e. s ∙ subst (λ l. ends l p ≡ true) from (met_ends range p k e))) ps keyed starts;
  reached = all_two IsKeyed (λ p. is_from start p ≡ reaches low p) _ (λ p k s e. subst (λ l. ends l p ≡ true) (sym from) (sym s ∙ higher_so behind start p.0 e))
      ps keyed starts;
})

-- the range has no end, or ends at a point
pub reverse_open : (range : Option Span) (after : Option ℤ) (before : ℤ) (ps : List Pair) → high_of range ≡ None → AllByRecursion IsKeyed ps
    → ((p : ℤ) → IsInner p → int_le p before ≡ is_past after true p) → StartsReverse range after before ps
reverse_open range after before ps none keyed past = record {
  wanted = all_map IsKeyed _ (λ p k. ap (λ b. b && is_met range p.1) (past p.0 (k.inner, k.outer))) ps keyed;
  begun = all_map IsKeyed _ (λ p k e. rw none refl) ps keyed;
}

pub reverse_from : (range : Option Span) (after : Option ℤ) (high before key : ℤ) (ps : List Pair) → high_of range ≡ Some high → AllByRecursion IsKeyed ps
    → ((p : ℤ) → IsInner p → int_le p before ≡ is_past after true p) → key ≡ int_min before high → StartsReverse range after key ps
reverse_from range after high before key ps by keyed past is = rw is (record {
  wanted = all_map IsKeyed _ (λ p k. both_ways (int_le p.0 (int_min before high)) (is_past after true p.0) (int_le p.0 high) (is_met range p.1)
      (λ e. lower_is before high p.0 e ∙ past p.0 (k.inner, k.outer)) (λ e. subst (λ h. begins h p ≡ true) by (met_begins range p k e))) ps keyed;
  begun = all_map IsKeyed _ (λ p k e. subst (λ h. begins h p ≡ true) (sym by) (lower_so before high p.0 e)) ps keyed;
})
