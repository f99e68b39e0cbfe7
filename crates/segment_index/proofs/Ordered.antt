-- What holds of the segments of each index, in the library's words.
use Rattle.std.proofs.Common.{◌≡◌, ℤ, ◌<ℤ◌, ◌≤ℤ◌, int_le, int_lt, Bool, true, false, not, ◌&&◌, List, [], ◌∷◌, Some, refl, sym, ap, ◌∙◌, arith}
use Rattle.std.specs.List.{AllByRecursion, list_all}
use Rattle.std.proofs.lemmas.Int.{ints}
use Rattle.media_rows.specs.declared.segment.SegmentRow.{SegmentRow}
use Rattle.media_rows.specs.Lists.{each_pair, rises}
use Rattle.shared_tree.specs.Pairs.{IsRising, values}
use Rattle.segment_index.specs.Answers.{are_apart_rows, begins_before, is_bounded}
use Rattle.segment_index.specs.Within.Keyed.{IsKeyed, IsApart, last_point}
use Rattle.segment_index.proofs.Meeting.{range_is}
use Rattle.segment_index.proofs.Reach.{Pair}

both : (a b : Bool) → a ≡ true → b ≡ true → (a && b) ≡ true
both true b e f = f
both false b e f = absurd (grind (arith, e))

less : (a b : ℤ) → a <ℤ b → int_lt a b ≡ true
less a b lt = grind (arith, ints)

up_to : (a b : ℤ) → a ≤ℤ b → int_le a b ≡ true
up_to a b le = grind (arith, ints)

behind : (a b : ℤ) → a <ℤ b → int_le b a ≡ false
behind a b lt = grind (arith, ints)

-- ---- first points

begins : (p q : Pair) → IsKeyed p → IsKeyed q → p.0 <ℤ q.0 → begins_before p.1 q.1 ≡ true
begins p q kp kq lt = rw (kp.low, kq.low) (less p.0 q.0 lt)

each_begins : (p : Pair) (ps : List Pair) → IsKeyed p → AllByRecursion IsKeyed ps → AllByRecursion (λ q. p.0 <ℤ q.0) ps
    → list_all (begins_before p.1) (values ps) ≡ true
each_begins p [] kp ks lt = refl
each_begins p (q ∷ ps) kp ks lt = both (begins_before p.1 q.1) (list_all (begins_before p.1) (values ps)) (begins p q kp ks.0 lt.0)
    (each_begins p ps kp ks.1 lt.1)

pub starts_rise : (ps : List Pair) → AllByRecursion IsKeyed ps → IsRising ps → rises begins_before (values ps) ≡ true
starts_rise [] ks rising = refl
starts_rise (p ∷ ps) ks rising = both (list_all (begins_before p.1) (values ps)) (rises begins_before (values ps)) (each_begins p ps ks.0 ks.1 rising.0)
    (starts_rise ps ks.1 rising.1)

-- ---- ends

bounded : (p : Pair) → IsKeyed p → is_bounded p.1 ≡ true
bounded p k = rw (range_is p.1.segment.range p.0 (last_point p.1) k.low k.high, up_to p.0 (last_point p.1) k.ordered) refl

pub all_bounded : (ps : List Pair) → AllByRecursion IsKeyed ps → list_all is_bounded (values ps) ≡ true
all_bounded [] ks = refl
all_bounded (p ∷ ps) ks = both (is_bounded p.1) (list_all is_bounded (values ps)) (bounded p ks.0) (all_bounded ps ks.1)

and_false : (a b : Bool) → b ≡ false → not (a && b) ≡ true
and_false true b e = ap not e
and_false false b e = refl

apart : (p q : Pair) → IsKeyed p → IsKeyed q → last_point p.1 <ℤ q.0 → are_apart_rows p.1 q.1 ≡ true
apart p q kp kq lt =
    rw (range_is p.1.segment.range p.0 (last_point p.1) kp.low kp.high, range_is q.1.segment.range q.0 (last_point q.1) kq.low kq.high)
    (and_false (int_le p.0 (last_point q.1)) (int_le q.0 (last_point p.1)) (behind (last_point p.1) q.0 lt))

each_apart : (p : Pair) (ps : List Pair) → IsKeyed p → AllByRecursion IsKeyed ps → AllByRecursion (λ q. last_point p.1 <ℤ q.0) ps
    → list_all (are_apart_rows p.1) (values ps) ≡ true
each_apart p [] kp ks lt = refl
each_apart p (q ∷ ps) kp ks lt = both (are_apart_rows p.1 q.1) (list_all (are_apart_rows p.1) (values ps)) (apart p q kp ks.0 lt.0)
    (each_apart p ps kp ks.1 lt.1)

pub all_apart : (ps : List Pair) → AllByRecursion IsKeyed ps → IsApart ps → each_pair are_apart_rows (values ps) ≡ true
all_apart [] ks h = refl
all_apart (p ∷ ps) ks h = both (list_all (are_apart_rows p.1) (values ps)) (each_pair are_apart_rows (values ps)) (each_apart p ps ks.0 ks.1 h.0)
    (all_apart ps ks.1 h.1)
