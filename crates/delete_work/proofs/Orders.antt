-- Requests by rising serial: one that is put at its place, and those that are ended one after the other.
use Rattle.std.proofs.Common.{◌≡◌, ℕ, ◌==◌, nat_lt, Bool, true, false, ◌||◌, cond, if◌then◌else◌, List, [], ◌∷◌, ◌++◌, Some, filter, find, map, refl, sym, ap, subst, ◌∙◌, arith}
use Rattle.std.specs.List.{AllByRecursion, list_all}
use Rattle.std.proofs.lemmas.Bool.Decides.{nat_tests}
use Rattle.media_rows.specs.declared.request.DeleteRow.{DeleteRow}
use Rattle.media_rows.specs.Good.{rises_by}
use Rattle.media_rows.specs.Lists.{inserted, placed}
use Rattle.media_rows.specs.Requests.{ended_row, is_unfinished}
use Rattle.shared_tree.specs.Pairs.{IsRising, values}
use Rattle.shared_tree.specs.Rows.{IsKeyedBy}
use Rattle.shared_tree.proofs.Counted.{all_append}
use Rattle.shared_tree.proofs.Rising.{all_map, filter_all, filter_none}
use Rattle.id_index.proofs.Ids.{below_key}
use Rattle.delete_work.specs.Work.{are_requests_below}
use Rattle.delete_work.specs.Within.Keeping.{done_row, ended_by, has_request, request_before, request_key, serial_of_row}
use Rattle.delete_work.proofs.Kept.{Rows}
use Rattle.delete_work.proofs.Lists.{append_one, both, each_is, found_has, number_same, parts, some_same}
use Rattle.std.proofs.lemmas.Int.{ints}
use Rattle.std.proofs.Common.{◌<ℤ◌, ℤ, int_lt}

-- a request stands before another, and not behind it
abbrev pub Below : DeleteRow → DeleteRow → Type 0
Below a b = request_before a b ≡ true

-- each stands before all later ones
abbrev pub Rises : List DeleteRow → Type 0
Rises [] = Unit {0}
Rises (row ∷ rows) = AllByRecursion (Below row) rows × Rises rows

turned : (a b : ℕ) → nat_lt a b ≡ true → nat_lt b a ≡ false
turned a b e = by (nat_lt b a) refl
  where
    by : (t : Bool) → nat_lt b a ≡ t → nat_lt b a ≡ false
    by true f = absurd (grind (arith, nat_tests))
    by false f = f

not_before : (n : ℕ) → nat_lt n n ≡ false
not_before n = by (nat_lt n n) refl
  where
    by : (t : Bool) → nat_lt n n ≡ t → nat_lt n n ≡ false
    by true f = absurd (grind (arith, nat_tests))
    by false f = f

differ : (a b : ℕ) → nat_lt a b ≡ true → (b == a) ≡ false
differ a b e = by (b == a) refl
  where
    by : (t : Bool) → (b == a) ≡ t → (b == a) ≡ false
    by true f = absurd (grind (arith, nat_tests))
    by false f = f

differ_low : (a b : ℕ) → nat_lt a b ≡ true → (a == b) ≡ false
differ_low a b e = by (a == b) refl
  where
    by : (t : Bool) → (a == b) ≡ t → (a == b) ≡ false
    by true f = absurd (grind (arith, nat_tests))
    by false f = f

third : (a b : ℕ) → nat_lt a b ≡ false → (a == b) ≡ false → nat_lt b a ≡ true
third a b e f = by (nat_lt b a) refl
  where
    by : (t : Bool) → nat_lt b a ≡ t → nat_lt b a ≡ true
    by true g = g
    by false g = absurd (grind (arith, nat_tests))

pub through : (a b c : ℕ) → nat_lt a b ≡ true → nat_lt b c ≡ true → nat_lt a c ≡ true
through a b c e f = by (nat_lt a c) refl
  where
    by : (t : Bool) → nat_lt a c ≡ t → nat_lt a c ≡ true
    by true g = g
    by false g = absurd (grind (arith, nat_tests))

-- ---- keys and serials

pub rises : (rows : List DeleteRow) → rises_by serial_of_row rows ≡ true → Rises rows
rises [] e = tt
rises (row ∷ rows) e =
    let p = parts (list_all (request_before row) rows) (rises_by serial_of_row rows) e in
    (each_is (request_before row) rows p.0, rises rows p.1)

serials_less : (p : ℤ × DeleteRow) (ps : Rows) → p.0 ≡ request_key p.1 → IsKeyedBy request_key ps → AllByRecursion (λ q. p.0 <ℤ q.0) ps
    → list_all (request_before p.1) (values ps) ≡ true
serials_less p [] own keyed lt = refl
serials_less p (q ∷ ps) own keyed lt =
    both (request_before p.1 q.1) (list_all (request_before p.1) (values ps))
    (below_key p.1.serial q.1.serial ∙ less (request_key p.1) (request_key q.1) (subst (λ k. k <ℤ request_key q.1) own (subst (λ k. p.0 <ℤ k) keyed.0 lt.0)))
    (serials_less p ps own keyed.1 lt.1)
  where
    less : (a b : ℤ) → a <ℤ b → int_lt a b ≡ true
    less a b l = grind (arith, ints)

pub serials_rise : (ps : Rows) → IsRising ps → IsKeyedBy request_key ps → rises_by serial_of_row (values ps) ≡ true
serials_rise [] rising keyed = refl
serials_rise (p ∷ ps) rising keyed =
    both (list_all (request_before p.1) (values ps)) (rises_by serial_of_row (values ps)) (serials_less p ps keyed.0 keyed.1 rising.0)
    (serials_rise ps rising.1 keyed.1)

-- ---- a request at its place

-- between those before it and those behind it, instead of the one of its serial
placed_between : (new old : DeleteRow) (front rest : List DeleteRow) → new.serial ≡ old.serial → AllByRecursion (λ x. Below x old) front
    → AllByRecursion (Below old) rest → placed request_before new (front ++ old ∷ rest) ≡ front ++ new ∷ rest
placed_between new old [] rest e low high =
    let same : request_before old new ≡ false = ap (nat_lt old.serial) e ∙ not_before old.serial in
    let again : request_before new old ≡ false = ap (λ s. nat_lt s old.serial) e ∙ not_before old.serial in
    let none : filter (λ y. request_before y new) rest ≡ [] = filter_none (λ y. request_before y new) rest
    (all_map (Below old) (λ y. request_before y new ≡ false) (λ y lt. ap (nat_lt y.serial) e ∙ turned old.serial y.serial lt) rest high) in
    let all : filter (λ y. request_before new y) rest ≡ rest = filter_all (λ y. request_before new y) rest
    (all_map (Below old) (λ y. request_before new y ≡ true) (λ y lt. ap (λ s. nat_lt s y.serial) e ∙ lt) rest high) in
    rw (same, again, none, all) refl
placed_between new old (x ∷ front) rest e low high =
    let before : request_before x new ≡ true = ap (nat_lt x.serial) e ∙ low.0 in
    let not_behind : request_before new x ≡ false = turned x.serial new.serial before in
    rw (before, not_behind) (ap (λ l. x ∷ l) (placed_between new old front rest e low.1 high))

pub placed_last : (row : DeleteRow) (rows : List DeleteRow) → are_requests_below row.serial rows ≡ true
    → placed request_before row rows ≡ rows ++ row ∷ []
placed_last row rows e =
    let below = each_is (λ (y : DeleteRow). nat_lt y.serial row.serial) rows e in
    rw (
      filter_all (λ y. request_before y row) rows below,
      filter_none (λ y. request_before row y) rows
          (all_map (λ y. request_before y row ≡ true) (λ y. request_before row y ≡ false) (λ y lt. turned y.serial row.serial lt) rows below),
    ) refl

-- the request that is due, changed
pub placed_changed : (change : DeleteRow → DeleteRow) (old new : DeleteRow) (rows : List DeleteRow) → Rises rows → find is_unfinished rows ≡ Some old
    → new ≡ change old → new.serial ≡ old.serial
    → placed request_before new rows ≡ map (λ row. if row.serial == old.serial then change row else row) rows
placed_changed change old new [] rising e is same = absurd (grind (arith, e))
placed_changed change old new (row ∷ rest) rising e is same = by (is_unfinished row) e (λ f. placed_changed change old new rest rising.1 f is same)
  where
    others : (ys : List DeleteRow) → AllByRecursion (λ y. (y.serial == old.serial) ≡ false) ys
        → map (λ y. if y.serial == old.serial then change y else y) ys ≡ ys
    others [] h = refl
    others (y ∷ ys) h = rw (h.0, others ys h.1) refl

    by : (t : Bool) → cond t (Some row) (find is_unfinished rest) ≡ Some old
        → (find is_unfinished rest ≡ Some old → placed request_before new rest ≡ map (λ y. if y.serial == old.serial then change y else y) rest)
        → placed request_before new (row ∷ rest) ≡ map (λ y. if y.serial == old.serial then change y else y) (row ∷ rest)
    by true f ih =
        let here : row ≡ old = some_same f in
        let same_row : new.serial ≡ row.serial = same ∙ ap (λ (y : DeleteRow). y.serial) (sym here) in
        let equal : (row.serial == old.serial) ≡ true = ap (λ (y : DeleteRow). row.serial == y.serial) (sym here) ∙ number_same row.serial in
        let rest_stays = others rest (all_map (Below row) (λ y. (y.serial == old.serial) ≡ false)
        (λ y lt. ap (λ (z : DeleteRow). y.serial == z.serial) (sym here) ∙ differ row.serial y.serial lt) rest rising.0) in
        placed_between new row [] rest same_row tt rising.0 ∙ rw (equal, rest_stays, is, here) refl
    by false f ih =
        let lt : Below row old = found_has (Below row) is_unfinished rest old rising.0 f in
        let before : request_before row new ≡ true = ap (nat_lt row.serial) same ∙ lt in
        let not_behind : request_before new row ≡ false = turned row.serial new.serial before in
        rw (before, not_behind, differ_low row.serial old.serial lt) (ap (λ l. row ∷ l) (ih f))

-- a new one, put in front of the first that doesn't stand before it
pub placed_new : (row : DeleteRow) (rows : List DeleteRow) → Rises rows → has_request row.serial rows ≡ false
    → placed request_before row rows ≡ inserted request_before row rows
placed_new row [] rising e = refl
placed_new row (x ∷ rest) rising e = by (nat_lt x.serial row.serial) refl (first_part (x.serial == row.serial) (has_request row.serial rest) e)
    (second_part (x.serial == row.serial) (has_request row.serial rest) e) (placed_new row rest rising.1)
  where
    first_part : (a b : Bool) → (a || b) ≡ false → a ≡ false
    first_part true b f = absurd (grind (arith, f))
    first_part false b f = refl

    second_part : (a b : Bool) → (a || b) ≡ false → b ≡ false
    second_part true b f = absurd (grind (arith, f))
    second_part false b f = f

    by : (t : Bool) → nat_lt x.serial row.serial ≡ t → (x.serial == row.serial) ≡ false → has_request row.serial rest ≡ false
        → (has_request row.serial rest ≡ false → placed request_before row rest ≡ inserted request_before row rest)
        → placed request_before row (x ∷ rest) ≡ cond t (x ∷ inserted request_before row rest) (row ∷ x ∷ rest)
    by true et other none ih = rw (et, turned x.serial row.serial et) (ap (λ l. x ∷ l) (ih none))
    by false et other none ih =
        let behind : nat_lt row.serial x.serial ≡ true = third x.serial row.serial et other in
        let all_behind = all_map (Below x) (Below row) (λ y lt. through row.serial x.serial y.serial behind lt) rest rising.0 in
        let no_more : filter (λ y. request_before y row) rest ≡ [] = filter_none (λ y. request_before y row) rest
        (all_map (Below row) (λ y. request_before y row ≡ false) (λ y lt. turned row.serial y.serial lt) rest all_behind) in
        let all_more : filter (λ y. request_before row y) rest ≡ rest = filter_all (λ y. request_before row y) rest all_behind in
        rw (et, behind, no_more, all_more) refl

-- ---- requests of a flow that goes

-- each of some stands before each of others
abbrev Ahead : List DeleteRow → List DeleteRow → Type 0
Ahead front rest = AllByRecursion (λ y. AllByRecursion (λ x. Below x y) front) rest

one_ahead : (front : List DeleteRow) (row new : DeleteRow) (rest : List DeleteRow) → new.serial ≡ row.serial → Ahead front rest
    → AllByRecursion (Below row) rest → Ahead (front ++ new ∷ []) rest
one_ahead front row new [] e ahead behind = tt
one_ahead front row new (y ∷ rest) e ahead behind = (
  all_append (λ x. Below x y) front (new ∷ []) ahead.0 (ap (λ s. nat_lt s y.serial) e ∙ behind.0, tt),
  one_ahead front row new rest e ahead.1 behind.1,
)

pub ended_from : (flow moment : ℕ) (front rest : List DeleteRow) → Rises rest → Ahead front rest
    → ended_by flow moment (filter is_unfinished rest) (front ++ rest) ≡ front ++ map (ended_row flow moment) rest
ended_from flow moment front [] rising ahead = refl
ended_from flow moment front (row ∷ rest) rising ahead =
    by (is_unfinished row) (row.flow == flow) refl refl
    (λ new e. ended_from flow moment (front ++ new ∷ []) rest rising.1 (one_ahead front row new rest e ahead.1 rising.0))
  where
    onward : ((new : DeleteRow) → new.serial ≡ row.serial → ended_by flow moment (filter is_unfinished rest) ((front ++ new ∷ []) ++ rest)
        ≡ (front ++ new ∷ []) ++ map (ended_row flow moment) rest) → (new : DeleteRow) → new.serial ≡ row.serial → new ≡ ended_row flow moment row
        → ended_by flow moment (filter is_unfinished rest) (front ++ new ∷ rest) ≡ front ++ map (ended_row flow moment) (row ∷ rest)
    onward ih new e is =
        ap (ended_by flow moment (filter is_unfinished rest)) (append_one front new rest)
        ∙ ih new e
        ∙ sym (append_one front new (map (ended_row flow moment) rest))
        ∙ ap (λ r. front ++ r ∷ map (ended_row flow moment) rest) is

    by : (u f : Bool) → is_unfinished row ≡ u → (row.flow == flow) ≡ f
        → ((new : DeleteRow) → new.serial ≡ row.serial → ended_by flow moment (filter is_unfinished rest) ((front ++ new ∷ []) ++ rest)
        ≡ (front ++ new ∷ []) ++ map (ended_row flow moment) rest)
        → ended_by flow moment (cond u (row ∷ filter is_unfinished rest) (filter is_unfinished rest)) (front ++ row ∷ rest)
        ≡ front ++ map (ended_row flow moment) (row ∷ rest)
    by true true eu ef ih =
        ap (λ b. ended_by flow moment (filter is_unfinished rest) (if b then placed request_before (done_row moment row) (front ++ row ∷ rest) else front ++ row
        ∷ rest)) ef
        ∙ ap (ended_by flow moment (filter is_unfinished rest)) (placed_between (done_row moment row) row front rest refl ahead.0 rising.0)
        ∙ onward ih (done_row moment row) refl (rw (eu, ef) refl)
    by true false eu ef ih =
        ap (λ b. ended_by flow moment (filter is_unfinished rest) (if b then placed request_before (done_row moment row) (front ++ row ∷ rest) else front ++ row
        ∷ rest)) ef
        ∙ onward ih row refl (rw (eu, ef) refl)
    by false f eu ef ih = onward ih row refl (rw eu refl)

none_ahead : (rows : List DeleteRow) → Ahead [] rows
none_ahead [] = tt
none_ahead (row ∷ rows) = (tt, none_ahead rows)

pub ended_all : (flow moment : ℕ) (rows : List DeleteRow) → Rises rows
    → ended_by flow moment (filter is_unfinished rows) rows ≡ map (ended_row flow moment) rows
ended_all flow moment rows rising = ended_from flow moment [] rows rising (none_ahead rows)
