-- Rows that come to an outbox one after the other: which are refused, and what they make.
use Rattle.std.proofs.Common.{◌≡◌, ◌≤◌, nat_le, nat_lt, length, ℕ, zero, suc, Bool, true, false, not, ◌&&◌, ◌||◌, cond, List, [], ◌∷◌, ◌++◌, Result, Ok, Err, filter, map, drop, refl, sym, ap, ◌∙◌, arith}
use Rattle.std.specs.Prelude.{◌==◌, ⊤}
use Rattle.std.specs.List.{AllByRecursion, list_all, list_any}
use Rattle.std.proofs.lemmas.Bool.{and_parts, and_from, eq-eqb, eqb-true, le-leb, leb-true, lt-ltb, or_left, or_right}
use Rattle.media_rows.specs.declared.refusal.ApplyFault.{ApplyFault}
use Rattle.media_rows.specs.declared.refusal.ApplyFault.TheVariants as faults
use Rattle.media_rows.specs.declared.event.EventRow.{EventRow}
use Rattle.media_rows.specs.declared.hook.HookRow.{HookRow}
use Rattle.media_rows.specs.Good.{are_urls_distinct, has_hook, is_hook_good, is_outbox_good}
use Rattle.media_rows.specs.Lists.{are_distinct, in_order, inserted}
use Rattle.media_rows.specs.Outbox.{Outbox, most_waiting, waiting_count}
use Rattle.media_rows.specs.Refusals.{Restores}
use Rattle.media_rows.specs.Restoring.{by_serial, can_restore_outbox, outbox_of}
use Rattle.webhook_outbox.specs.Within.Restored.{all_fit, event_before, folded, has_room, hook_before, with_hook_joined, may_join, may_wait, no_rows, waits}

-- ---- truths

and_false : (a b : Bool) → (a ≡ true → b ≡ false) → (a && b) ≡ false
and_false true b f = f refl
and_false false b f = refl

is_true : (b : Bool) → not b ≡ true → b ≡ false
is_true false e = refl
is_true true e = sym e

implies_false : (a b : Bool) → (b ≡ true → a ≡ true) → a ≡ false → b ≡ false
implies_false a true f e = sym (f refl) ∙ e
implies_false a false f e = refl

all_true : {X : Type 0} (test : X → Bool) (xs : List X) → list_all test xs ≡ true → AllByRecursion (λ x. test x ≡ true) xs
all_true test [] e = tt
all_true test (x ∷ xs) e = let parts = and_parts (test x) (list_all test xs) e in (parts.0, all_true test xs parts.1)

true_all : {X : Type 0} (test : X → Bool) (xs : List X) → AllByRecursion (λ x. test x ≡ true) xs → list_all test xs ≡ true
true_all test [] h = refl
true_all test (x ∷ xs) h = and_from (test x) (list_all test xs) h.0 (true_all test xs h.1)

both_all : {X : Type 0} (P Q R : X → Type 0) → ((x : X) → P x → Q x → R x) → (xs : List X) → AllByRecursion P xs → AllByRecursion Q xs → AllByRecursion R xs
both_all P Q R f [] p q = tt
both_all P Q R f (x ∷ xs) p q = (f x p.0 q.0, both_all P Q R f xs p.1 q.1)

each : {X : Type 0} (P Q : X → Type 0) → ((x : X) → P x → Q x) → (xs : List X) → AllByRecursion P xs → AllByRecursion Q xs
each P Q f [] p = tt
each P Q f (x ∷ xs) p = (f x p.0, each P Q f xs p.1)

-- ---- rows one after the other

module _ {R T : Type 0} (fits : R → T → Bool) (step : R → T → T) where
  -- rows as far as they came
  pub record Gathers (rows : List R) (start now : T) : Type 0 where
    pub fit : all_fit fits step rows start ≡ true
    pub is : now ≡ folded step rows start

  pub gathers_more : (row : R) (rows more : List R) (start now next : T) → Gathers rows start now → fits row now ≡ true → next ≡ step row now
      → more ≡ row ∷ rows
      → Gathers more start next
  gathers_more row rows more start now next was fit is shape =
      rw shape (record {
        fit = and_from (fits row (folded step rows start)) (all_fit fits step rows start) (ap (fits row) (sym was.is) ∙ fit) was.fit;
        is = is ∙ ap (step row) was.is;
      })

  fit_tail : (n : ℕ) (rows : List R) (start : T) → all_fit fits step (drop n rows) start ≡ false → all_fit fits step rows start ≡ false
  fit_tail zero rows start e = e
  fit_tail (suc n) [] start e = e
  fit_tail (suc n) (row ∷ rows) start e =
      and_false (fits row (folded step rows start)) (all_fit fits step rows start) (λ one. fit_tail n rows start e)

  first_fails : (a b : Bool) → a ≡ false → (a && b) ≡ false
  first_fails true b e = absurd (grind (arith, e))
  first_fails false b e = refl

  pub not_gathered : (n : ℕ) (row : R) (rows all : List R) (start now : T) → Gathers rows start now → fits row now ≡ false → drop n all ≡ row ∷ rows
      → all_fit fits step all start ≡ false
  not_gathered n row rows all start now was fails shape =
      fit_tail n all start (ap (λ l. all_fit fits step l start) shape
      ∙ first_fails (fits row (folded step rows start)) (all_fit fits step rows start) (ap (fits row) (sym was.is) ∙ fails))

-- ---- tests over rows in order

or_swap : (a b c : Bool) → (a || (b || c)) ≡ (b || (a || c))
or_swap true true c = refl
or_swap true false c = refl
or_swap false b c = refl

and_swap : (a b c : Bool) → (a && (b && c)) ≡ (b && (a && c))
and_swap true b c = refl
and_swap false true c = refl
and_swap false false c = refl

-- one more where a test holds
abbrev one_if : Bool → ℕ → ℕ
one_if true n = suc n
one_if false n = n

counted_cond : {X : Type 0} (b : Bool) (x : X) (l : List X) → length (cond b (x ∷ l) l) ≡ one_if b (length l)
counted_cond true x l = refl
counted_cond false x l = refl

one_swap : (a b : Bool) (n : ℕ) → one_if a (one_if b n) ≡ one_if b (one_if a n)
one_swap true true n = refl
one_swap true false n = refl
one_swap false b n = refl

module _ {X : Type 0} (before : X → X → Bool) where
  any_inserted : (test : X → Bool) (x : X) (ys : List X) → list_any test (inserted before x ys) ≡ (test x || list_any test ys)
  any_inserted test x [] = refl
  any_inserted test x (y ∷ ys) = by (before y x) (any_inserted test x ys)
    where
      by : (t : Bool) → list_any test (inserted before x ys) ≡ (test x || list_any test ys)
          → list_any test (cond t (y ∷ inserted before x ys) (x ∷ y ∷ ys)) ≡ (test x || (test y || list_any test ys))
      by true ih = ap (λ b. test y || b) ih ∙ or_swap (test y) (test x) (list_any test ys)
      by false ih = refl

  any_ordered : (test : X → Bool) (xs : List X) → list_any test (in_order before xs) ≡ list_any test xs
  any_ordered test [] = refl
  any_ordered test (x ∷ xs) = any_inserted test x (in_order before xs) ∙ ap (λ b. test x || b) (any_ordered test xs)

  all_inserted : (test : X → Bool) (x : X) (ys : List X) → list_all test (inserted before x ys) ≡ (test x && list_all test ys)
  all_inserted test x [] = refl
  all_inserted test x (y ∷ ys) = by (before y x) (all_inserted test x ys)
    where
      by : (t : Bool) → list_all test (inserted before x ys) ≡ (test x && list_all test ys)
          → list_all test (cond t (y ∷ inserted before x ys) (x ∷ y ∷ ys)) ≡ (test x && (test y && list_all test ys))
      by true ih = ap (λ b. test y && b) ih ∙ and_swap (test y) (test x) (list_all test ys)
      by false ih = refl

  all_ordered : (test : X → Bool) (xs : List X) → list_all test (in_order before xs) ≡ list_all test xs
  all_ordered test [] = refl
  all_ordered test (x ∷ xs) = all_inserted test x (in_order before xs) ∙ ap (λ b. test x && b) (all_ordered test xs)

  count_inserted : (test : X → Bool) (x : X) (ys : List X) → length (filter test (inserted before x ys)) ≡ one_if (test x) (length (filter test ys))
  count_inserted test x [] = counted_cond (test x) x []
  count_inserted test x (y ∷ ys) = by (before y x) (count_inserted test x ys)
    where
      by : (t : Bool) → length (filter test (inserted before x ys)) ≡ one_if (test x) (length (filter test ys))
          → length (filter test (cond t (y ∷ inserted before x ys) (x ∷ y ∷ ys))) ≡ one_if (test x) (length (filter test (y ∷ ys)))
      by true ih =
          counted_cond (test y) y (filter test (inserted before x ys)) ∙ ap (one_if (test y)) ih ∙ one_swap (test y) (test x) (length (filter test ys))
          ∙ ap (one_if (test x)) (sym (counted_cond (test y) y (filter test ys)))
      by false ih = counted_cond (test x) x (filter test (y ∷ ys))

  count_ordered : (test : X → Bool) (xs : List X) → length (filter test (in_order before xs)) ≡ length (filter test xs)
  count_ordered test [] = refl
  count_ordered test (x ∷ xs) =
      count_inserted test x (in_order before xs) ∙ ap (one_if (test x)) (count_ordered test xs) ∙ sym (counted_cond (test x) x (filter test xs))

-- ---- serials

number_turn : (a b : ℕ) → (a == b) ≡ (b == a)
number_turn a b = by (a == b) (b == a) refl refl
  where
    by : (s t : Bool) → (a == b) ≡ s → (b == a) ≡ t → (a == b) ≡ (b == a)
    by true true e f = e ∙ sym f
    by false false e f = e ∙ sym f
    by true false e f = absurd (let same : (b == a) ≡ true = eq-eqb b a (sym (eqb-true a b e)) in grind (arith, same, f))
    by false true e f = absurd (let same : (a == b) ≡ true = eq-eqb a b (sym (eqb-true b a f)) in grind (arith, same, e))

module _ {X : Type 0} (serial : X → ℕ) where
  others_apart : (n : ℕ) (xs : List X) → not (list_any (λ x. serial x == n) xs) ≡ list_all (λ other. not (n == other)) (map serial xs)
  others_apart n [] = refl
  others_apart n (x ∷ xs) = rw (number_turn n (serial x)) (by (serial x == n) (others_apart n xs))
    where
      by : (t : Bool) → not (list_any (λ x. serial x == n) xs) ≡ list_all (λ other. not (n == other)) (map serial xs)
          → not (t || list_any (λ x. serial x == n) xs) ≡ (not t && list_all (λ other. not (n == other)) (map serial xs))
      by true ih = refl
      by false ih = ih

-- ---- hooks

pub hooks_joined : (hooks : List HookRow) → folded with_hook_joined hooks no_rows ≡ record { hooks = by_serial (λ row. row.serial) hooks; events = [] }
hooks_joined [] = refl
hooks_joined (row ∷ rows) = ap (with_hook_joined row) (hooks_joined rows)

pub hooks_fit : (hooks : List HookRow) → all_fit may_join with_hook_joined hooks no_rows ≡ are_distinct (map (λ row. row.serial) hooks)
hooks_fit [] = refl
hooks_fit (row ∷ rows) =
    ap (λ o. may_join row o && all_fit may_join with_hook_joined rows no_rows) (hooks_joined rows)
    ∙ ap (λ b. not b && all_fit may_join with_hook_joined rows no_rows) (any_ordered hook_before (λ hook. hook.serial == row.serial) rows)
    ∙ ap (λ b. b && all_fit may_join with_hook_joined rows no_rows) (others_apart (λ (h : HookRow). h.serial) row.serial rows)
    ∙ ap (λ b. list_all (λ other. not (row.serial == other)) (map (λ (h : HookRow). h.serial) rows) && b) (hooks_fit rows)

-- ---- events

pub events_wait : (events : List EventRow) (hooks : List HookRow) → folded waits events (record { hooks = hooks; events = [] }) ≡ record {
  hooks = hooks;
  events = by_serial (λ row. row.serial) events;
}
events_wait [] hooks = refl
events_wait (row ∷ rows) hooks = ap (waits row) (events_wait rows hooks)

-- what is asked of events beside hooks
record Fits (hooks : List HookRow) (events : List EventRow) : Type 0 where
  apart : AllByRecursion (λ row. list_any (λ hook. hook.serial == row.serial) hooks ≡ false) events
  distinct : are_distinct (map (λ row. row.serial) events) ≡ true
  hooked : AllByRecursion (λ row. has_hook hooks row ≡ true) events
  good : AllByRecursion (λ hook. is_hook_good events hook ≡ true) hooks

abbrev good_count : ℕ → Bool → Bool
good_count n failed = nat_le n most_waiting && (nat_lt n most_waiting || failed)

-- fewer events are good too
good_fewer : (n : ℕ) (failed : Bool) → good_count (suc n) failed ≡ true → good_count n failed ≡ true
good_fewer n failed e =
    let parts = and_parts (nat_le (suc n) most_waiting) (nat_lt (suc n) most_waiting || failed) e in
    let few : suc n ≤ most_waiting = leb-true (suc n) most_waiting parts.0 in
    and_from (nat_le n most_waiting) (nat_lt n most_waiting || failed) (le-leb n most_waiting (omega (arith, few)))
    (or_left (nat_lt n most_waiting) failed (lt-ltb n most_waiting (omega (arith, few))))

good_later : (row : EventRow) (events : List EventRow) (hook : HookRow) → is_hook_good (row ∷ events) hook ≡ true → is_hook_good events hook ≡ true
good_later row events hook = by (row.hook == hook.serial) (counted_cond (row.hook == hook.serial) row _)
  where
    by : (b : Bool) → waiting_count hook.serial (row ∷ events) ≡ one_if b (waiting_count hook.serial events)
        → is_hook_good (row ∷ events) hook ≡ true → is_hook_good events hook ≡ true
    by true count e = good_fewer (waiting_count hook.serial events) hook.failed (ap (λ n. good_count n hook.failed) (sym count) ∙ e)
    by false count e = ap (λ n. good_count n hook.failed) (sym count) ∙ e

-- in order or not
good_ordered : (row : EventRow) (events : List EventRow) (hook : HookRow)
    → is_hook_good (row ∷ by_serial (λ e. e.serial) events) hook ≡ is_hook_good (row ∷ events) hook
good_ordered row events hook =
    ap (λ n. good_count n hook.failed)
    (counted_cond (row.hook == hook.serial) row _
    ∙ ap (one_if (row.hook == hook.serial)) (count_ordered event_before (λ e. e.hook == hook.serial) events)
    ∙ sym (counted_cond (row.hook == hook.serial) row _))

-- with an event for another hook
good_other : (row : EventRow) (events : List EventRow) (hook : HookRow) → (hook.serial == row.hook) ≡ false
    → is_hook_good (row ∷ events) hook ≡ is_hook_good events hook
good_other row events hook other =
    ap (λ n. good_count n hook.failed)
    (counted_cond (row.hook == hook.serial) row _ ∙ ap (λ b. one_if b (waiting_count hook.serial events))
    (number_turn row.hook hook.serial ∙ other))

good_more : (row : EventRow) (events : List EventRow) (hook : HookRow) → is_hook_good events hook ≡ true
    → has_room row (by_serial (λ e. e.serial) events) hook ≡ true → is_hook_good (row ∷ events) hook ≡ true
good_more row events hook good room = by (hook.serial == row.hook) refl
  where
    by : (b : Bool) → (hook.serial == row.hook) ≡ b → is_hook_good (row ∷ events) hook ≡ true
    by true own = sym (good_ordered row events hook) ∙ (sym (rw own refl) ∙ room)
    by false other = good_other row events hook other ∙ good

-- the tests of one event
four : (a b c d : Bool) → ((a && b) && c && d) ≡ true → ((a ≡ true) × (b ≡ true)) × ((c ≡ true) × (d ≡ true))
four true true true true e = ((refl, refl), (refl, refl))
four true true true false e = absurd (grind (arith, e))
four true true false d e = absurd (grind (arith, e))
four true false c d e = absurd (grind (arith, e))
four false b c d e = absurd (grind (arith, e))

four_hold : (a b c d : Bool) → a ≡ true → b ≡ true → c ≡ true → d ≡ true → ((a && b) && c && d) ≡ true
four_hold a b c d ea eb ec ed = rw (ea, eb, ec, ed) refl

abbrev start_of : List HookRow → Outbox
start_of hooks = record { hooks = hooks; events = [] }

fit_are : (hooks : List HookRow) (events : List EventRow) → all_fit may_wait waits events (start_of hooks) ≡ true → Fits hooks events
fit_are hooks [] e = record { apart = tt; distinct = refl; hooked = tt; good = each (λ h. ⊤) _ (λ h t. refl) hooks (nothing hooks) }
  where
    nothing : (hs : List HookRow) → AllByRecursion (λ h. ⊤) hs
    nothing [] = tt
    nothing (h ∷ hs) = (tt, nothing hs)
fit_are hooks (row ∷ rows) e =
    let parts = and_parts (may_wait row (folded waits rows (start_of hooks))) (all_fit may_wait waits rows (start_of hooks)) e in
    let sorted : List EventRow = by_serial (λ r. r.serial) rows in
    let rest = fit_are hooks rows parts.1 in
    let own = four (not (list_any (λ hook. hook.serial == row.serial) hooks)) (not (list_any (λ other. other.serial == row.serial) sorted))
    (has_hook hooks row) (list_all (has_room row sorted) hooks) (ap (may_wait row) (sym (events_wait rows hooks)) ∙ parts.0) in
    record {
      apart = (is_true (list_any (λ hook. hook.serial == row.serial) hooks) own.0.0, rest.apart);
      distinct = and_from (list_all (λ other. not (row.serial == other)) (map (λ (r : EventRow). r.serial) rows)) (are_distinct
          (map (λ (r : EventRow). r.serial) rows))
          (sym (others_apart (λ (r : EventRow). r.serial) row.serial rows) ∙ ap not (sym (any_ordered event_before (λ other. other.serial == row.serial) rows))
          ∙ own.0.1) rest.distinct;
      hooked = (own.1.0, rest.hooked);
      good = both_all _ _ _ (λ hook. good_more row rows hook) hooks rest.good (all_true (has_room row sorted) hooks own.1.1);
    }

are_fit : (hooks : List HookRow) (events : List EventRow) → Fits hooks events → all_fit may_wait waits events (start_of hooks) ≡ true
are_fit hooks [] f = refl
are_fit hooks (row ∷ rows) f =
    let sorted : List EventRow = by_serial (λ r. r.serial) rows in
    let serials = and_parts (list_all (λ other. not (row.serial == other)) (map (λ (r : EventRow). r.serial) rows)) (are_distinct
    (map (λ (r : EventRow). r.serial) rows)) f.distinct in
    let rest : Fits hooks rows = record {
      apart = f.apart.1;
      distinct = serials.1;
      hooked = f.hooked.1;
      good = each _ _ (λ hook. good_later row rows hook) hooks f.good;
    } in
    and_from (may_wait row (folded waits rows (start_of hooks))) (all_fit may_wait waits rows (start_of hooks))
    (ap (may_wait row) (events_wait rows hooks)
    ∙ four_hold (not (list_any (λ hook. hook.serial == row.serial) hooks)) (not (list_any (λ other. other.serial == row.serial) sorted))
    (has_hook hooks row) (list_all (has_room row sorted) hooks) (ap not f.apart.0)
    (ap not (any_ordered event_before (λ other. other.serial == row.serial) rows) ∙ others_apart (λ (r : EventRow). r.serial) row.serial rows ∙ serials.0)
    f.hooked.0
    (true_all (has_room row sorted) hooks (each _ _ (λ hook good. or_right (not (hook.serial == row.hook)) _ (good_ordered row rows hook ∙ good)) hooks
    f.good))) (are_fit hooks rows rest)

-- ---- all together

-- serials of both kinds
distinct_parts : (l r : List ℕ) → are_distinct (l ++ r) ≡ true
    → (are_distinct r ≡ true) × AllByRecursion (λ n. list_all (λ other. not (n == other)) r ≡ true) l
distinct_parts [] r e = (e, tt)
distinct_parts (n ∷ l) r e =
    let parts = and_parts (list_all (λ other. not (n == other)) (l ++ r)) (are_distinct (l ++ r)) e in
    let rest = distinct_parts l r parts.1 in
    (rest.0, (right_all (λ other. not (n == other)) l r parts.0, rest.1))
  where
    right_all : (test : ℕ → Bool) (l r : List ℕ) → list_all test (l ++ r) ≡ true → list_all test r ≡ true
    right_all test [] r e = e
    right_all test (x ∷ l) r e = right_all test l r (and_parts (test x) (list_all test (l ++ r)) e).1

distinct_left : (l r : List ℕ) → are_distinct (l ++ r) ≡ true → are_distinct l ≡ true
distinct_left [] r e = refl
distinct_left (n ∷ l) r e =
    let parts = and_parts (list_all (λ other. not (n == other)) (l ++ r)) (are_distinct (l ++ r)) e in
    and_from (list_all (λ other. not (n == other)) l) (are_distinct l) (left_all (λ other. not (n == other)) l r parts.0) (distinct_left l r parts.1)
  where
    left_all : (test : ℕ → Bool) (l r : List ℕ) → list_all test (l ++ r) ≡ true → list_all test l ≡ true
    left_all test [] r e = refl
    left_all test (x ∷ l) r e =
        let parts = and_parts (test x) (list_all test (l ++ r)) e in
        and_from (test x) (list_all test l) parts.0 (left_all test l r parts.1)

distinct_both : (l r : List ℕ) → are_distinct l ≡ true → are_distinct r ≡ true → AllByRecursion (λ n. list_all (λ other. not (n == other)) r ≡ true) l
    → are_distinct (l ++ r) ≡ true
distinct_both [] r el er h = er
distinct_both (n ∷ l) r el er h =
    let parts = and_parts (list_all (λ other. not (n == other)) l) (are_distinct l) el in
    and_from (list_all (λ other. not (n == other)) (l ++ r)) (are_distinct (l ++ r)) (both_lists (λ other. not (n == other)) l r parts.0 h.0)
    (distinct_both l r parts.1 er h.1)
  where
    both_lists : (test : ℕ → Bool) (l r : List ℕ) → list_all test l ≡ true → list_all test r ≡ true → list_all test (l ++ r) ≡ true
    both_lists test [] r a b = b
    both_lists test (x ∷ l) r a b =
        let parts = and_parts (test x) (list_all test l) a in
        and_from (test x) (list_all test (l ++ r)) parts.0 (both_lists test l r parts.1 b)

-- no hook has an event's serial, seen from both sides
apart_from : (hooks : List HookRow) (events : List EventRow)
    → AllByRecursion (λ n. list_all (λ other. not (n == other)) (map (λ (r : EventRow). r.serial) events) ≡ true) (map (λ (h : HookRow). h.serial) hooks)
    → AllByRecursion (λ row. list_any (λ hook. hook.serial == row.serial) hooks ≡ false) events
apart_from hooks [] h = tt
apart_from hooks (row ∷ rows) h = (own hooks h, apart_from hooks rows (less hooks h))
  where
    own : (hs : List HookRow)
        → AllByRecursion (λ n. list_all (λ other. not (n == other)) (map (λ (r : EventRow). r.serial) (row ∷ rows)) ≡ true) (map (λ (x : HookRow). x.serial) hs)
        → list_any (λ hook. hook.serial == row.serial) hs ≡ false
    own [] g = refl
    own (x ∷ hs) g =
        let first = (and_parts (not (x.serial == row.serial)) _ g.0).0 in
        rw (is_true (x.serial == row.serial) first) (own hs g.1)

    less : (hs : List HookRow)
        → AllByRecursion (λ n. list_all (λ other. not (n == other)) (map (λ (r : EventRow). r.serial) (row ∷ rows)) ≡ true) (map (λ (x : HookRow). x.serial) hs)
        → AllByRecursion (λ n. list_all (λ other. not (n == other)) (map (λ (r : EventRow). r.serial) rows) ≡ true) (map (λ (x : HookRow). x.serial) hs)
    less [] g = tt
    less (x ∷ hs) g = ((and_parts (not (x.serial == row.serial)) _ g.0).1, less hs g.1)

apart_to : (hooks : List HookRow) (events : List EventRow) → AllByRecursion (λ row. list_any (λ hook. hook.serial == row.serial) hooks ≡ false) events
    → AllByRecursion (λ n. list_all (λ other. not (n == other)) (map (λ (r : EventRow). r.serial) events) ≡ true) (map (λ (h : HookRow). h.serial) hooks)
apart_to [] events h = tt
apart_to (x ∷ hooks) events h = (own events h, apart_to hooks events (less events h))
  where
    or_parts : (a b : Bool) → (a || b) ≡ false → (a ≡ false) × (b ≡ false)
    or_parts true b e = absurd (grind (arith, e))
    or_parts false b e = (refl, e)

    own : (es : List EventRow) → AllByRecursion (λ row. list_any (λ hook. hook.serial == row.serial) (x ∷ hooks) ≡ false) es
        → list_all (λ other. not (x.serial == other)) (map (λ (r : EventRow). r.serial) es) ≡ true
    own [] g = refl
    own (row ∷ rows) g =
        let parts = or_parts (x.serial == row.serial) (list_any (λ hook. hook.serial == row.serial) hooks) g.0 in
        and_from (not (x.serial == row.serial)) _ (ap not parts.0) (own rows g.1)

    less : (es : List EventRow) → AllByRecursion (λ row. list_any (λ hook. hook.serial == row.serial) (x ∷ hooks) ≡ false) es
        → AllByRecursion (λ row. list_any (λ hook. hook.serial == row.serial) hooks ≡ false) es
    less [] g = tt
    less (row ∷ rows) g = ((or_parts (x.serial == row.serial) (list_any (λ hook. hook.serial == row.serial) hooks) g.0).1, less rows g.1)

three : (a b c : Bool) → (a && b && c) ≡ true → (a ≡ true) × ((b ≡ true) × (c ≡ true))
three true true true e = (refl, (refl, refl))
three true true false e = absurd (grind (arith, e))
three true false c e = absurd (grind (arith, e))
three false b c e = absurd (grind (arith, e))

three_hold : (a b c : Bool) → a ≡ true → b ≡ true → c ≡ true → (a && b && c) ≡ true
three_hold a b c ea eb ec = rw (ea, eb, ec) refl

abbrev serials : List HookRow → List EventRow → List ℕ
serials hooks events = map (λ row. row.serial) hooks ++ map (λ row. row.serial) events

abbrev outbox_good : List HookRow → List EventRow → Bool
outbox_good hooks events = is_outbox_good (record { hooks = hooks; events = events })

-- rows that can be restored fit one after the other
can_fit : (hooks : List HookRow) (events : List EventRow) → can_restore_outbox hooks events ≡ true
    → all_fit may_wait waits events (start_of (by_serial (λ row. row.serial) hooks)) ≡ true
can_fit hooks events can =
    let sorted : List HookRow = by_serial (λ row. row.serial) hooks in
    let parts = three (are_urls_distinct hooks) (are_distinct (serials hooks events)) (outbox_good hooks events) can in
    let apart = distinct_parts (map (λ (h : HookRow). h.serial) hooks) (map (λ (r : EventRow). r.serial) events) parts.1.0 in
    let good = and_parts (list_all (has_hook hooks) events) (list_all (is_hook_good events) hooks) parts.1.1 in
    are_fit sorted events (record {
      apart = each _ _ (λ row e. any_ordered hook_before (λ hook. hook.serial == row.serial) hooks ∙ e) events (apart_from hooks events apart.1);
      distinct = apart.0;
      hooked = each _ _ (λ row e. any_ordered hook_before (λ hook. hook.serial == row.hook) hooks ∙ e) events (all_true (has_hook hooks) events good.0);
      good = all_true (is_hook_good events) sorted (all_ordered hook_before (is_hook_good events) hooks ∙ good.1);
    })

fit_can : (hooks : List HookRow) (events : List EventRow) → are_urls_distinct hooks ≡ true → are_distinct (map (λ row. row.serial) hooks) ≡ true
    → all_fit may_wait waits events (start_of (by_serial (λ row. row.serial) hooks)) ≡ true → can_restore_outbox hooks events ≡ true
fit_can hooks events urls distinct fit =
    let sorted : List HookRow = by_serial (λ row. row.serial) hooks in
    let f = fit_are sorted events fit in
    three_hold (are_urls_distinct hooks) (are_distinct (serials hooks events)) (outbox_good hooks events) urls
    (distinct_both (map (λ (h : HookRow). h.serial) hooks) (map (λ (r : EventRow). r.serial) events) distinct f.distinct
    (apart_to hooks events (each _ _ (λ row e. sym (any_ordered hook_before (λ hook. hook.serial == row.serial) hooks) ∙ e) events f.apart)))
    (and_from (list_all (has_hook hooks) events) (list_all (is_hook_good events) hooks)
    (true_all (has_hook hooks) events (each _ _ (λ row e. sym (any_ordered hook_before (λ hook. hook.serial == row.hook) hooks) ∙ e) events f.hooked))
    (sym (all_ordered hook_before (is_hook_good events) hooks) ∙ true_all (is_hook_good events) sorted f.good))

-- addresses or serials of hooks that repeat refuse all
pub urls_refuse : (hooks : List HookRow) (events : List EventRow) → are_urls_distinct hooks ≡ false → can_restore_outbox hooks events ≡ false
urls_refuse hooks events e =
    implies_false (are_urls_distinct hooks) (can_restore_outbox hooks events)
    (λ can. (three (are_urls_distinct hooks) (are_distinct (serials hooks events)) (outbox_good hooks events) can).0) e

pub hooks_refuse : (hooks : List HookRow) (events : List EventRow) → all_fit may_join with_hook_joined hooks no_rows ≡ false → can_restore_outbox hooks events
    ≡ false
hooks_refuse hooks events e =
    implies_false (all_fit may_join with_hook_joined hooks no_rows) (can_restore_outbox hooks events)
    (λ can. hooks_fit hooks ∙ distinct_left (map (λ (h : HookRow). h.serial) hooks) (map (λ (r : EventRow). r.serial) events)
    (three (are_urls_distinct hooks) (are_distinct (serials hooks events)) (outbox_good hooks events) can).1.0) e

-- the events come to the hooks
pub both_restore : (hooks : List HookRow) (events : List EventRow) (bare : Outbox) (result : Result Outbox ApplyFault) → are_urls_distinct hooks ≡ true
    → (all_fit may_join with_hook_joined hooks no_rows ≡ true) × (bare ≡ folded with_hook_joined hooks no_rows)
    → Restores (all_fit may_wait waits events bare) (folded waits events bare) result
    → Restores (can_restore_outbox hooks events) (outbox_of hooks events) result
both_restore hooks events bare (Ok outbox) urls was h =
    let start : bare ≡ start_of (by_serial (λ row. row.serial) hooks) = was.1 ∙ hooks_joined hooks in (
      fit_can hooks events urls (sym (hooks_fit hooks) ∙ was.0) (ap (all_fit may_wait waits events) (sym start) ∙ h.0),
      h.1 ∙ ap (folded waits events) start ∙ events_wait events (by_serial (λ row. row.serial) hooks),
    )
both_restore hooks events bare (Err faults.Refused) urls was h =
    let start : bare ≡ start_of (by_serial (λ row. row.serial) hooks) = was.1 ∙ hooks_joined hooks in
    implies_false (all_fit may_wait waits events bare) (can_restore_outbox hooks events)
    (λ can. ap (all_fit may_wait waits events) start ∙ can_fit hooks events can) h
both_restore hooks events bare (Err faults.Memory) urls was h = h
