-- The segments of a flow among those of all flows.
use Rattle.std.proofs.Common.{◌≡◌, ◌<ℤ◌, ℕ, ℤ, int_lt, int_eq, Bool, true, false, cond, List, [], ◌∷◌, ◌++◌, filter, refl, sym, ap, subst, ◌∙◌, arith, append_assoc, append-nil}
use Rattle.std.specs.Prelude.{◌==◌, unwrap_or, option_map}
use Rattle.std.specs.Cmp.{signed_Decides}
use Rattle.std.specs.List.{AllByRecursion}
use Rattle.std.proofs.lemmas.Grind.{flat_map-append}
use Rattle.std.proofs.lemmas.Int.{ints}
use Rattle.std.proofs.lemmas.List.Elements.{filter-append}
use Rattle.media_rows.specs.declared.segment.SegmentRow.{SegmentRow}
use Rattle.media_rows.specs.Views.{id_key}
use Rattle.shared_tree.specs.Pairs.{IsRising, first, is_above, is_at, is_below, value_at, with_pair}
use Rattle.shared_tree.proofs.Counted.{all_append, all_kept}
use Rattle.shared_tree.proofs.Rising.{all_map, filter_all, filter_none}
use Rattle.id_index.proofs.Ids.{same_key}
use Rattle.segment_book.specs.Within.Flows.{AreOthers, IsFlow, flow_rows, rows_in, with_rows_at}
use Rattle.segment_book.proofs.Gaining.{Gains, gains_same, gains_within}

abbrev pub Flows : Type 0
Flows = List (ℤ × List SegmentRow)

-- the segments at a key
abbrev pub rows_at : ℤ → Flows → List SegmentRow
rows_at key flows = unwrap_or (value_at key flows) []

-- all segments are those below a key, at it, and above it
pub rows_split : (key : ℤ) (flows : Flows) → IsRising flows
    → rows_in flows ≡ rows_in (filter (is_below key) flows) ++ (rows_at key flows ++ rows_in (filter (is_above key) flows))
rows_split key [] rising = refl
rows_split key (p ∷ ps) rising = by (int_lt p.0 key) (int_lt key p.0) refl refl (rows_split key ps rising.1)
  where
    by : (b a : Bool) → int_lt p.0 key ≡ b → int_lt key p.0 ≡ a
        → rows_in ps ≡ rows_in (filter (is_below key) ps) ++ (rows_at key ps ++ rows_in (filter (is_above key) ps))
        → rows_in (p ∷ ps) ≡ rows_in (filter (is_below key) (p ∷ ps)) ++ (rows_at key (p ∷ ps) ++ rows_in (filter (is_above key) (p ∷ ps)))
    by true true eb ea rest = absurd (grind (arith, ints))
    by true false eb ea rest =
        rw (eb, ea) (ap (λ l. p.1 ++ l) rest ∙ sym (append_assoc p.1 (rows_in (filter (is_below key) ps)) _))
    by false true eb ea rest =
        let below = filter_none (is_below key) ps (all_map (λ q. p.0 <ℤ q.0) (λ q. is_below key q ≡ false) (λ q lt. grind (arith, ints)) ps rising.0) in
        let above = filter_all (is_above key) ps (all_map (λ q. p.0 <ℤ q.0) (λ q. is_above key q ≡ true) (λ q lt. grind (arith, ints)) ps rising.0) in
        let at = filter_none (is_at key) ps (all_map (λ q. p.0 <ℤ q.0) (λ q. is_at key q ≡ false) (λ q lt. grind (arith, ints)) ps rising.0) in
        rw (eb, ea, below, above, at) refl
    by false false eb ea rest =
        let same : p.0 ≡ key = omega (arith, ints, eb, ea) in
        let below = filter_none (is_below key) ps (all_map (λ q. p.0 <ℤ q.0) (λ q. is_below key q ≡ false) (λ q lt. grind (arith, ints)) ps rising.0) in
        let above = filter_all (is_above key) ps (all_map (λ q. p.0 <ℤ q.0) (λ q. is_above key q ≡ true) (λ q lt. grind (arith, ints)) ps rising.0) in
        rw (eb, ea, below, above) refl

-- all segments with others at a key
pub rows_with : (key : ℤ) (rows : List SegmentRow) (flows : Flows)
    → rows_in (with_pair (key, rows) flows) ≡ rows_in (filter (is_below key) flows) ++ (rows ++ rows_in (filter (is_above key) flows))
rows_with key rows flows = flat_map-append (λ p. p.1) (filter (is_below key) flows) ((key, rows) ∷ filter (is_above key) flows)

-- one more at a key, or one less, is one more among all, or one less
pub gains_more : (x : SegmentRow) (key : ℤ) (rows : List SegmentRow) (flows : Flows) → IsRising flows → Gains x (rows_at key flows) rows
    → Gains x (rows_in flows) (rows_in (with_pair (key, rows) flows))
gains_more x key rows flows rising g =
    gains_same x _ _ _ _ (rows_split key flows rising) (rows_with key rows flows) (gains_within x (rows_at key flows) rows _ _ g)

-- the same where nothing stands for none
pub rows_left : (key : ℤ) (rows : List SegmentRow) (flows : Flows)
    → rows_in (with_rows_at key rows flows) ≡ rows_in (filter (is_below key) flows) ++ (rows ++ rows_in (filter (is_above key) flows))
rows_left key [] flows = flat_map-append (λ p. p.1) (filter (is_below key) flows) (filter (is_above key) flows)
rows_left key (row ∷ rows) flows = rows_with key (row ∷ rows) flows

pub gains_less : (x : SegmentRow) (key : ℤ) (rows : List SegmentRow) (flows : Flows) → IsRising flows → Gains x rows (rows_at key flows)
    → Gains x (rows_in (with_rows_at key rows flows)) (rows_in flows)
gains_less x key rows flows rising g =
    gains_same x _ _ _ _ (rows_left key rows flows) (rows_split key flows rising) (gains_within x rows (rows_at key flows) _ _ g)

-- ---- the segments of one flow

module _ (flow : ℕ) where
  abbrev pub under : SegmentRow → Bool
  under row = row.flow == flow

  -- a flow's key tells its segments
  kept_all : (p : ℤ × List SegmentRow) (rows : List SegmentRow) → AllByRecursion (λ row. id_key row.flow ≡ p.0) rows → is_at (id_key flow) p ≡ true
      → filter under rows ≡ rows
  kept_all p rows all at = filter_all under rows (all_map (λ row. id_key row.flow ≡ p.0) (λ row. under row ≡ true) (λ row e. same_key row.flow flow
      ∙ ap (λ k. int_eq k (id_key flow)) e ∙ at) rows all)

  kept_none : (p : ℤ × List SegmentRow) (rows : List SegmentRow) → AllByRecursion (λ row. id_key row.flow ≡ p.0) rows → is_at (id_key flow) p ≡ false
      → filter under rows ≡ []
  kept_none p rows all at = filter_none under rows (all_map (λ row. id_key row.flow ≡ p.0) (λ row. under row ≡ false) (λ row e. same_key row.flow flow
      ∙ ap (λ k. int_eq k (id_key flow)) e ∙ at) rows all)

  others_none : (ps : Flows) → AllByRecursion IsFlow ps → AllByRecursion (λ q. is_at (id_key flow) q ≡ false) ps → filter under (rows_in ps) ≡ []
  others_none [] each apart = refl
  others_none (p ∷ ps) each apart =
      filter-append under p.1 (rows_in ps) ∙ rw (kept_none p p.1 each.0.under apart.0, others_none ps each.1 apart.1) refl

  pub flow_rows_are : (flows : Flows) → IsRising flows → AllByRecursion IsFlow flows → filter under (rows_in flows) ≡ flow_rows flow flows
  flow_rows_are [] rising each = refl
  flow_rows_are (p ∷ ps) rising each =
      filter-append under p.1 (rows_in ps) ∙ by (is_at (id_key flow) p) refl (flow_rows_are ps rising.1 each.1)
    where
      by : (b : Bool) → is_at (id_key flow) p ≡ b → filter under (rows_in ps) ≡ flow_rows flow ps
          → filter under p.1 ++ filter under (rows_in ps)
          ≡ unwrap_or (option_map (λ q. q.1) (first (cond b (p ∷ filter (is_at (id_key flow)) ps) (filter (is_at (id_key flow)) ps)))) []
      by true at rest =
          let same : p.0 ≡ id_key flow = let d = signed_Decides p.0 (id_key flow) in d.0 at in
          rw (
            kept_all p p.1 each.0.under at,
            others_none ps each.1
                (all_map (λ q. p.0 <ℤ q.0) (λ q. is_at (id_key flow) q ≡ false) (λ q lt. grind (arith, ints)) ps rising.0),
          ) (append-nil p.1)
      by false at rest = rw (kept_none p p.1 each.0.under at) rest

-- ---- what holds of each

pub others_kept : (test : SegmentRow → Bool) (rows : List SegmentRow) → AreOthers rows → AreOthers (filter test rows)
others_kept test [] others = tt
others_kept test (row ∷ rows) others = by (test row) (others_kept test rows others.1)
  where
    by : (b : Bool) → AreOthers (filter test rows) → AreOthers (cond b (row ∷ filter test rows) (filter test rows))
    by true rest = (all_kept (λ other. (row.serial == other.serial) ≡ false) test rows others.0, rest)
    by false rest = rest

-- what holds of each flow's segments holds with others at a key of which it holds
pub each_with : (p : ℤ × List SegmentRow) (flows : Flows) → AllByRecursion IsFlow flows → IsFlow p → AllByRecursion IsFlow (with_pair p flows)
each_with p flows each is =
    all_append IsFlow (filter (is_below p.0) flows) (p ∷ filter (is_above p.0) flows) (all_kept IsFlow (is_below p.0) flows each)
    (is, all_kept IsFlow (is_above p.0) flows each)

pub each_left : (key : ℤ) (rows : List SegmentRow) (flows : Flows) → AllByRecursion IsFlow flows → IsFlow (key, rows)
    → AllByRecursion IsFlow (with_rows_at key rows flows)
each_left key [] flows each is =
    all_append IsFlow (filter (is_below key) flows) (filter (is_above key) flows) (all_kept IsFlow (is_below key) flows each)
    (all_kept IsFlow (is_above key) flows each)
each_left key (row ∷ rows) flows each is = each_with (key, row ∷ rows) flows each is

-- and of the segments at a key
pub at_key : (key : ℤ) (flows : Flows) → AllByRecursion IsFlow flows → IsFlow (key, rows_at key flows)
at_key key [] each = record { under = tt; starts = refl; bounded = refl }
at_key key (p ∷ ps) each = by (is_at key p) refl (at_key key ps each.1)
  where
    by : (b : Bool) → is_at key p ≡ b → IsFlow (key, rows_at key ps)
        → IsFlow (key, unwrap_or (option_map (λ q. q.1) (first (cond b (p ∷ filter (is_at key) ps) (filter (is_at key) ps)))) [])
    by true at rest =
        let same : p.0 ≡ key = let d = signed_Decides p.0 key in d.0 at in
        record {
          under = subst (λ k. AllByRecursion (λ row. id_key row.flow ≡ k) p.1) same each.0.under;
          starts = each.0.starts;
          bounded = each.0.bounded;
        }
    by false at rest = rest
