-- Requests at the keys of their serials: what a change of them makes of those that stand apart.
use Rattle.std.proofs.Common.{◌≡◌, ℕ, suc, length, ◌-◌, ◌^◌, ◌≤◌, ◌==◌, ℤ, negsuc, ◌≤ℤ◌, FitsSigned, ◌<ℤ◌, int_eq, int_lt, Bool, true, false, not, ◌&&◌, cond, if◌then◌else◌, List, [], ◌∷◌, ◌++◌, Some, None, filter, find, map, option_map, refl, sym, ap, subst, ◌∙◌, arith}
use Rattle.std.specs.List.{AllByRecursion}
use Rattle.std.proofs.lemmas.List.Elements.{filter-append}
use Rattle.std.proofs.lemmas.Int.{ints}
use Rattle.media_rows.specs.declared.request.DeleteRow.{DeleteRow}
use Rattle.media_rows.specs.Lists.{has_number, placed}
use Rattle.media_rows.specs.Requests.{done_count, is_deleting, is_done, is_unfinished, request_of}
use Rattle.media_rows.specs.Views.{id_key}
use Rattle.shared_tree.specs.Pairs.{AreKeys, IsRising, first, is_above, is_at, is_below, value_at, values, with_pair, without_key}
use Rattle.shared_tree.specs.Rows.{IsKeyedBy}
use Rattle.shared_tree.proofs.Rising.{all_map, around, cut_at, cut_right, filter_none}
use Rattle.std.specs.Cmp.{signed_Decides}
use mir.Syntax.{w128}
use Rattle.shared_tree.proofs.Rows.{found_is, keyed_with, keyed_without, placed_is, tests_are}
use Rattle.id_index.specs.Index.{Links, Unlinks, has_pairs, ids_at, naming}
use Rattle.id_index.proofs.Ids.{below_key, same_key}
use Rattle.id_index.proofs.Named.{index_none, index_with, index_without}
use Rattle.id_index.proofs.Pairs.{filter_swap}
use Rattle.delete_work.specs.Within.Keeping.{AreRequests, IsEnding, entered_if, flow_ending, is_done_pair, is_ending, is_unfinished_pair, request_before, request_key, serial_of_row, without_first_done}
use Rattle.delete_work.proofs.Lists.{all_two, number_turn, some_same}

abbrev pub Rows : Type 0
Rows = List (ℤ × DeleteRow)

-- ---- a test of pairs

module _ {V : Type 0} (test : ℤ × V → Bool) where
  pub kept_without : (key : ℤ) (ps : List (ℤ × V)) → filter test (without_key key ps) ≡ without_key key (filter test ps)
  kept_without key ps = filter-append test (filter (is_below key) ps) (filter (is_above key) ps)
      ∙ rw (filter_swap (is_below key) test ps, filter_swap (is_above key) test ps) refl

  pub kept_with : (key : ℤ) (value : V) (ps : List (ℤ × V))
      → filter test (with_pair (key, value) ps) ≡ (if test (key, value) then with_pair (key, value) (filter test ps) else without_key key (filter test ps))
  kept_with key value ps = filter-append test (filter (is_below key) ps) ((key, value) ∷ filter (is_above key) ps) ∙ by (test (key, value)) refl
    where
      by : (t : Bool) → test (key, value) ≡ t → filter test (filter (is_below key) ps) ++ filter test ((key, value) ∷ filter (is_above key) ps)
          ≡ (if t then with_pair (key, value) (filter test ps) else without_key key (filter test ps))
      by true e = rw (e, filter_swap (is_below key) test ps, filter_swap (is_above key) test ps) refl
      by false e = rw (e, filter_swap (is_below key) test ps, filter_swap (is_above key) test ps) refl

-- ---- a request that is put

pub put_kept : (row : DeleteRow) (rows next unfinished next_unfinished done next_done : Rows) (ending next_ending : List (ℤ × List (ℤ × ℕ)))
    → AreRequests rows unfinished done ending → next ≡ with_pair (request_key row, row) rows
    → next_unfinished ≡ entered_if (not (is_done row.status)) row unfinished → next_done ≡ entered_if (is_done row.status) row done
    → IsEnding (with_pair (request_key row, row) rows) next_ending → AreRequests next next_unfinished next_done next_ending
put_kept row rows next unfinished next_unfinished done next_done ending next_ending kept en eu ed ee = record {
  keyed = subst (IsKeyedBy request_key) (sym en) (keyed_with request_key (request_key row) row rows refl kept.keyed);
  unfinished = eu ∙ ap (entered_if (is_unfinished row) row) kept.unfinished
      ∙ sym (ap (filter is_unfinished_pair) en ∙ kept_with is_unfinished_pair (request_key row) row rows);
  done = ed ∙ ap (entered_if (is_done row.status) row) kept.done ∙ sym (ap (filter is_done_pair) en ∙ kept_with is_done_pair (request_key row) row rows);
  ending = subst (λ l. IsEnding l next_ending) (sym en) ee;
}

pub put_values : (row : DeleteRow) (rows : Rows) → IsKeyedBy request_key rows
    → values (with_pair (request_key row, row) rows) ≡ placed request_before row (values rows)
put_values row rows keyed =
    placed_is request_before (request_key row) row rows
    (tests_are request_key (λ other. request_before other row) (λ k. int_lt k (request_key row)) rows (λ other. below_key other.serial row.serial) keyed)
    (tests_are request_key (λ other. request_before row other) (λ k. int_lt (request_key row) k) rows (λ other. below_key row.serial other.serial) keyed)

-- ---- a request that is left out

pub cut_kept : (row : DeleteRow) (rows next unfinished next_unfinished done next_done : Rows) (ending next_ending : List (ℤ × List (ℤ × ℕ)))
    → AreRequests rows unfinished done ending → next ≡ without_key (request_key row) rows → next_unfinished ≡ without_key (request_key row) unfinished
    → next_done ≡ without_key (request_key row) done → IsEnding (without_key (request_key row) rows) next_ending
    → AreRequests next next_unfinished next_done next_ending
cut_kept row rows next unfinished next_unfinished done next_done ending next_ending kept en eu ed ee = record {
  keyed = subst (IsKeyedBy request_key) (sym en) (keyed_without request_key (request_key row) rows kept.keyed);
  unfinished = eu ∙ ap (without_key (request_key row)) kept.unfinished
      ∙ sym (ap (filter is_unfinished_pair) en ∙ kept_without is_unfinished_pair (request_key row) rows);
  done = ed ∙ ap (without_key (request_key row)) kept.done ∙ sym (ap (filter is_done_pair) en ∙ kept_without is_done_pair (request_key row) rows);
  ending = subst (λ l. IsEnding l next_ending) (sym en) ee;
}

-- what is first of some has what all have
first_has : (P : DeleteRow → Type 0) (test : ℤ × DeleteRow → Bool) (ps : Rows) (row : DeleteRow) → AllByRecursion (λ p. P p.1) ps
    → first (values (filter test ps)) ≡ Some row → P row
first_has P test [] row h e = absurd (grind (arith, e))
first_has P test (p ∷ ps) row h e = by (test p) e (first_has P test ps row h.1)
  where
    by : (t : Bool) → first (values (cond t (p ∷ filter test ps) (filter test ps))) ≡ Some row → (first (values (filter test ps)) ≡ Some row → P row) → P row
    by true f ih = subst P (some_same f) h.0
    by false f ih = ih f

pub cut_values : (row : DeleteRow) (rows : Rows) → IsRising rows → IsKeyedBy request_key rows → first (values (filter is_done_pair rows)) ≡ Some row
    → values (without_key (request_key row) rows) ≡ without_first_done (values rows)
cut_values row [] rising keyed e = absurd (grind (arith, e))
cut_values row (p ∷ rest) rising keyed e = by (is_done p.1.status) e (cut_values row rest rising.1 keyed.1)
  where
    by : (t : Bool) → first (values (cond t (p ∷ filter is_done_pair rest) (filter is_done_pair rest))) ≡ Some row
        → (first (values (filter is_done_pair rest)) ≡ Some row → values (without_key (request_key row) rest) ≡ without_first_done (values rest))
        → values (without_key (request_key row) (p ∷ rest)) ≡ (if t then values rest else p.1 ∷ without_first_done (values rest))
    by true f ih =
        let same : p.1 ≡ row = some_same f in
        ap values (cut_at (request_key row) [] p rest (around [] p rest rising) (ap request_key (sym same) ∙ sym keyed.0))
    by false f ih =
        let behind : p.0 <ℤ request_key row = first_has (λ r. p.0 <ℤ request_key r) is_done_pair rest row
        (all_two (λ q. p.0 <ℤ q.0) (λ q. q.0 ≡ request_key q.1) (λ q. p.0 <ℤ request_key q.1) (λ q lt is. subst (λ k. p.0 <ℤ k) is lt) rest rising.0 keyed.1)
        f in
        ap values (cut_right (request_key row) [] p rest (around [] p rest rising) behind) ∙ ap (λ l. p.1 ∷ l) (ih f)

-- ---- looks

pub first_found : (test : DeleteRow → Bool) (ps : Rows) → first (values (filter (λ p. test p.1) ps)) ≡ find test (values ps)
first_found test [] = refl
first_found test (p ∷ ps) = by (test p.1) (first_found test ps)
  where
    by : (t : Bool) → first (values (filter (λ q. test q.1) ps)) ≡ find test (values ps)
        → first (values (cond t (p ∷ filter (λ q. test q.1) ps) (filter (λ q. test q.1) ps))) ≡ cond t (Some p.1) (find test (values ps))
    by true ih = refl
    by false ih = ih

pub request_found : (serial : ℕ) (rows : Rows) → IsKeyedBy request_key rows → value_at (id_key serial) rows ≡ request_of serial (values rows)
request_found serial rows keyed =
    found_is (λ row. row.serial == serial) (id_key serial) rows
    (tests_are request_key (λ row. row.serial == serial) (λ k. int_eq k (id_key serial)) rows (λ row. same_key row.serial serial) keyed)

-- a request names the flow that it deletes
named_is : (flow : ℕ) (row : DeleteRow) → has_number flow (flow_ending row) ≡ (is_unfinished row && row.delete_flow && (row.flow == flow))
named_is flow row = by (is_unfinished row) row.delete_flow (row.flow == flow) (number_turn flow row.flow)
  where
    by : (u d b : Bool) → (flow == row.flow) ≡ b → has_number flow (if u && d then row.flow ∷ [] else []) ≡ (u && d && b)
    by true true true e = rw e refl
    by true true false e = rw e refl
    by true false b e = refl
    by false d b e = refl

pub deleting_is : (flow : ℕ) (rows : Rows) → has_pairs (naming serial_of_row flow_ending flow rows) ≡ is_deleting (values rows) flow
deleting_is flow [] = refl
deleting_is flow (p ∷ rows) = by (has_number flow (flow_ending p.1)) (named_is flow p.1) (deleting_is flow rows)
  where
    by : (t : Bool) → t ≡ (is_unfinished p.1 && p.1.delete_flow && (p.1.flow == flow)) → has_pairs (naming serial_of_row flow_ending flow rows)
        ≡ is_deleting (values rows) flow → has_pairs (map (λ q. (q.0, serial_of_row q.1)) (cond t
        (p ∷ filter (λ q. has_number flow (flow_ending q.1)) rows) (filter (λ q. has_number flow (flow_ending q.1)) rows)))
        ≡ is_deleting (p.1 ∷ values rows) flow
    by true e ih = rw (sym e) refl
    by false e ih = rw (sym e) ih

-- ---- the flows that requests delete

pub flow_named : (row : DeleteRow) → is_ending row ≡ true → flow_ending row ≡ row.flow ∷ []
flow_named row e = rw e refl

pub no_flow_named : (row : DeleteRow) → is_ending row ≡ false → flow_ending row ≡ []
no_flow_named row e = rw e refl

pub ending_none : (row : DeleteRow) (rows : Rows) (index next : List (ℤ × List (ℤ × ℕ))) → IsRising rows → value_at (request_key row) rows ≡ None
    → IsEnding rows index → next ≡ index → IsEnding (without_key (request_key row) rows) next
ending_none row rows index next rising none indexed is =
    subst (IsEnding (without_key (request_key row) rows)) (sym is) (index_none serial_of_row flow_ending row.serial rows index rising none indexed)

pub ending_gone : (row old : DeleteRow) (rows : Rows) (index next : List (ℤ × List (ℤ × ℕ))) → IsRising rows → value_at (request_key row) rows ≡ Some old
    → IsEnding rows index → is_ending old ≡ true → Unlinks (old.flow ∷ []) row.serial index next → IsEnding (without_key (request_key row) rows) next
ending_gone row old rows index next rising found indexed e gone =
    index_without serial_of_row flow_ending row.serial old rows index next rising found indexed
    (subst (λ l. Unlinks l row.serial index next) (sym (flow_named old e)) gone)

pub ending_stays : (row old : DeleteRow) (rows : Rows) (index next : List (ℤ × List (ℤ × ℕ))) → IsRising rows → value_at (request_key row) rows ≡ Some old
    → IsEnding rows index → is_ending old ≡ false → next ≡ index → IsEnding (without_key (request_key row) rows) next
ending_stays row old rows index next rising found indexed e is =
    index_without serial_of_row flow_ending row.serial old rows index next rising found indexed
    (subst (λ l. Unlinks l row.serial index next) (sym (no_flow_named old e)) (λ a. ap (ids_at a) is))

pub ending_linked : (row : DeleteRow) (rows : Rows) (left next : List (ℤ × List (ℤ × ℕ))) → IsEnding (without_key (request_key row) rows) left
    → is_ending row ≡ true → Links (row.flow ∷ []) row.serial left next → IsEnding (with_pair (request_key row, row) rows) next
ending_linked row rows left next indexed e come =
    index_with serial_of_row flow_ending row.serial row rows left next refl indexed (subst (λ l. Links l row.serial left next) (sym (flow_named row e)) come)

pub ending_same : (row : DeleteRow) (rows : Rows) (left : List (ℤ × List (ℤ × ℕ))) → IsEnding (without_key (request_key row) rows) left
    → is_ending row ≡ false → IsEnding (with_pair (request_key row, row) rows) left
ending_same row rows left indexed e =
    index_with serial_of_row flow_ending row.serial row rows left left refl indexed
    (subst (λ l. Links l row.serial left left) (sym (no_flow_named row e)) (λ a. refl))

-- ---- the first request

least : (key : ℤ) → FitsSigned w128 key → negsuc (2 ^ 127 - 1) ≤ℤ key
least key fit = grind (arith, ints)

-- the one at the least key is the first
pub first_there : (rows : Rows) (row : DeleteRow) → IsRising rows → AreKeys rows → value_at (id_key 0) rows ≡ Some row → first (values rows) ≡ Some row
first_there [] row rising fits e = absurd (grind (arith, e))
first_there (p ∷ rest) row rising fits e = by (int_eq p.0 (id_key 0)) refl e
  where
    low : negsuc (2 ^ 127 - 1) ≤ℤ p.0
    low = least p.0 fits.0

    none : filter (is_at (id_key 0)) rest ≡ []
    none = filter_none (is_at (id_key 0)) rest (all_map (λ q. p.0 <ℤ q.0) (λ q. is_at (id_key 0) q ≡ false) (λ q lt. above q.0 lt) rest rising.0)
      where
        above : (k : ℤ) → p.0 <ℤ k → int_eq k (id_key 0) ≡ false
        above k lt = on (int_eq k (id_key 0)) refl
          where
            on : (t : Bool) → int_eq k (id_key 0) ≡ t → int_eq k (id_key 0) ≡ false
            on true f = absurd (let d = signed_Decides k (id_key 0) in let same : k ≡ id_key 0 = d.0 f in omega (arith, ints, same, lt, low))
            on false f = f

    by : (t : Bool) → int_eq p.0 (id_key 0) ≡ t → option_map (λ (q : ℤ × DeleteRow). q.1) (first (cond t (p ∷ filter (is_at (id_key 0)) rest)
        (filter (is_at (id_key 0)) rest))) ≡ Some row → Some p.1 ≡ Some row
    by true f g = g
    by false f g = absurd (let h : None ≡ Some row = sym (ap (λ l. option_map (λ (q : ℤ × DeleteRow). q.1) (first l)) none) ∙ g in grind (arith, h))

-- and otherwise the first one stands above it
pub first_above : (rows : Rows) → AreKeys rows → value_at (id_key 0) rows ≡ None
    → option_map (λ p. p.1) (first (filter (is_above (negsuc (2 ^ 127 - 1))) rows)) ≡ first (values rows)
first_above [] fits e = refl
first_above (p ∷ rest) fits e = by (int_eq p.0 (id_key 0)) refl e
  where
    by : (t : Bool) → int_eq p.0 (id_key 0) ≡ t → option_map (λ (q : ℤ × DeleteRow). q.1) (first (cond t (p ∷ filter (is_at (id_key 0)) rest)
        (filter (is_at (id_key 0)) rest))) ≡ None → option_map (λ (q : ℤ × DeleteRow). q.1)
        (first (filter (is_above (negsuc (2 ^ 127 - 1))) (p ∷ rest))) ≡ Some p.1
    by true f g = absurd (grind (arith, g))
    by false f g = rw (on (int_lt (negsuc (2 ^ 127 - 1)) p.0) refl) refl
      where
        on : (t : Bool) → int_lt (negsuc (2 ^ 127 - 1)) p.0 ≡ t → int_lt (negsuc (2 ^ 127 - 1)) p.0 ≡ true
        on true h = h
        on false h = absurd (let low = least p.0 fits.0 in let other : p.0 ≡ id_key 0 = omega (arith, ints, low, h) in
            let d = signed_Decides p.0 (id_key 0) in let yes = d.1 other in grind (arith, yes, f))

-- ---- how many are done

pub done_are : (rows : Rows) → length (filter is_done_pair rows) ≡ done_count (values rows)
done_are [] = refl
done_are (p ∷ rows) = by (is_done p.1.status) (done_are rows)
  where
    by : (t : Bool) → length (filter is_done_pair rows) ≡ done_count (values rows)
        → length (cond t (p ∷ filter is_done_pair rows) (filter is_done_pair rows))
        ≡ length (cond t (p.1 ∷ filter (λ r. is_done r.status) (values rows)) (filter (λ r. is_done r.status) (values rows)))
    by true ih = ap suc ih
    by false ih = ih

pub none_done : (rows done : Rows) → done ≡ filter is_done_pair rows → 1 ≤ done_count (values rows) → None ≡ first (values done) → ⊥
none_done rows done is le e = by done (subst (λ n. 1 ≤ n) (sym (ap (λ (l : Rows). length l) is ∙ done_are rows)) le) e
  where
    by : (l : Rows) → 1 ≤ length l → None ≡ first (values l) → ⊥
    by [] le' f = omega (arith, le')
    by (p ∷ l) le' f = grind (arith, f)

pub unfinished_are : (rows : Rows) → values (filter is_unfinished_pair rows) ≡ filter is_unfinished (values rows)
unfinished_are [] = refl
unfinished_are (p ∷ rows) = by (is_unfinished p.1) (unfinished_are rows)
  where
    by : (t : Bool) → values (filter is_unfinished_pair rows) ≡ filter is_unfinished (values rows)
        → values (cond t (p ∷ filter is_unfinished_pair rows) (filter is_unfinished_pair rows))
        ≡ cond t (p.1 ∷ filter is_unfinished (values rows)) (filter is_unfinished (values rows))
    by true ih = ap (λ l. p.1 ∷ l) ih
    by false ih = ih
