-- Flows left out that none of the others collects: no circle goes with them, and where none can go, there is a circle.
use Rattle.std.proofs.Common.{◌≡◌, ◌↔◌, inl, inr, ℕ, zero, suc, ℤ, ◌+◌, ◌≤◌, ◌==◌, int_eq, Bool, true, false, not, ◌&&◌, ◌||◌, cond, IsTrue, List, [], ◌∷◌, ◌++◌, Some, None, is_some, filter, length, map, refl, sym, ap, subst, ◌∙◌, arith}
use Rattle.std.specs.List.{AllByRecursion, list_all}
use Rattle.std.proofs.lemmas.Bool.{cases_Bool, eq-eqb, false≢true, ne_eqb, or_cases, or_left, or_right, true≢false}
use Rattle.std.proofs.lemmas.List.{length-append, length-map}
use Rattle.std.proofs.lemmas.List.Filters.{length-filter_both}
use Rattle.media_rows.specs.declared.flow.FlowRow.{FlowRow}
use Rattle.media_rows.specs.declared.flow.Member.{Member}
use Rattle.media_rows.specs.Catalog.{flow_before}
use Rattle.media_rows.specs.Collections.{AnyReaches, Collects, Reaches, collects_itself, member_ids, there, through}
use Rattle.media_rows.specs.Lists.{has_number, in_order}
use Rattle.media_rows.specs.Views.{flow_key, id_key}
use Rattle.library_laws.proofs.ListLemmas.{Contains-from_In, In, In-append, In-back, In-filter, In-front, In-from_Contains, In-has_number, In-in_order, In-map, filter-In, has_number-In, in_order-In, list_all-In, list_all-from_In, list_any-from_In, map-In}
use Rattle.shared_tree.specs.Pairs.{IsRising, is_above, is_at, is_below, value_at, values, without_key}
use Rattle.shared_tree.specs.Rows.{IsKeyedBy}
use Rattle.shared_tree.proofs.Rising.{around, cut_at}
use Rattle.shared_tree.proofs.Rows.{keyed_without, others_are}
use Rattle.id_index.specs.Index.{Unlinks, has_pairs, ids_at, naming}
use Rattle.id_index.proofs.Ids.{same_key}
use Rattle.id_index.proofs.Named.{index_without, none_there}
use Rattle.id_index.proofs.Pairs.{standing, value_at_without}
use Rattle.flow_book.specs.Within.Gathering.{is_acyclic}
use Rattle.flow_book.specs.Within.Order.{AreGathered, IsByCollected, flow_id, flows_named}
use Rattle.flow_book.specs.Within.Peeling.{IsInCircle, IsPeeled, weight}
use Rattle.flow_book.proofs.Gathering.{found_gathered, gathered_at, gathered_is}
use Rattle.flow_book.proofs.Keys.{flow_found}
use Rattle.flow_book.proofs.Kept.{found_kept}
use Rattle.flow_book.proofs.Ways.{collecting, collecting_named}

-- ---- which flows are left

all_at : {X : Type 0} (P : X → Type 0) (xs : List X) → AllByRecursion P xs → (x : X) → In x xs → P x
all_at P [] h x here = absurd here
all_at P (y ∷ ys) h x (inl same) = subst P (sym same) h.0
all_at P (y ∷ ys) h x (inr later) = all_at P ys h.1 x later

left_among : (key : ℤ) (ps : List (ℤ × FlowRow)) (row : FlowRow) → In row (values (without_key key ps)) → In row (values ps)
left_among key ps row h =
    let pair = In-map (λ (p : ℤ × FlowRow). p.1) (without_key key ps) row h in
    let within : In pair.0 ps = elim (In-append (filter (is_below key) ps) (filter (is_above key) ps) pair.0 pair.1) [
      | inl below ↦ (In-filter (is_below key) ps pair.0 below).0
      | inr above ↦ (In-filter (is_above key) ps pair.0 above).0
    ] in
    subst (λ r. In r (values ps)) (sym pair.2) (map-In (λ (p : ℤ × FlowRow). p.1) ps pair.0 within)

-- a flow of another id stays
stays_left : (id : ℕ) (ps : List (ℤ × FlowRow)) → IsRising ps → IsKeyedBy flow_key ps → (row : FlowRow) → In row (values ps) → (row.body.id ≡ id → ⊥)
    → In row (values (without_key (id_key id) ps))
stays_left id ps rising keyed row h other =
    let pair = In-map (λ (p : ℤ × FlowRow). p.1) ps row h in
    let at : pair.0.0 ≡ id_key row.body.id = all_at (λ (p : ℤ × FlowRow). p.0 ≡ flow_key p.1) ps keyed pair.0 pair.1 ∙ ap (λ (r : FlowRow). id_key r.body.id)
    (sym pair.2) in
    let apart : is_at (id_key id) pair.0 ≡ false = ap (λ k. int_eq k (id_key id)) at ∙ sym (same_key row.body.id id) ∙ ne_eqb row.body.id id other in
    let kept : In pair.0 (without_key (id_key id) ps) = subst (λ l. In pair.0 l) (sym (others_are (id_key id) ps rising))
    (filter-In (λ p. not (is_at (id_key id) p)) ps pair.0 pair.1 (ap not apart)) in
    subst (λ r. In r (values (without_key (id_key id) ps))) (sym pair.2) (map-In (λ (p : ℤ × FlowRow). p.1) (without_key (id_key id) ps) pair.0 kept)

found_left : (id : ℕ) (ps : List (ℤ × FlowRow)) → IsKeyedBy flow_key ps → (row : FlowRow) → In row (values ps) → row.body.id ≡ id
    → is_some (value_at (id_key id) ps) ≡ true
found_left id ps keyed row h same =
    ap is_some (flow_found id ps keyed)
    ∙ found_kept id (values ps)
    ∙ list_any-from_In (λ (r : FlowRow). r.body.id == id) (values ps) row h (eq-eqb row.body.id id same)

-- ---- circles stay where a flow goes that none collects

module _ (id : ℕ) (ps : List (ℤ × FlowRow)) (rising : IsRising ps) (keyed : IsKeyedBy flow_key ps)
    (alone : (from : ℕ) → Collects (values ps) from id → ⊥) where
  abbrev others : List FlowRow
  others = values (without_key (id_key id) ps)

  entry_stays : (from to : ℕ) → (from ≡ id → ⊥) → Collects (values ps) from to → Collects others from to
  entry_stays from to other c =
      record {
        row = c.row;
        kept = Contains-from_In others c.row (stays_left id ps rising keyed c.row (In-from_Contains (values ps) c.row c.kept) (λ e. other (sym c.row_is ∙ e)));
        row_is = c.row_is;
        entry = c.entry;
      }

  is_other : (by from : ℕ) → Collects (values ps) by from → from ≡ id → ⊥
  is_other by from c same = alone by (subst (Collects (values ps) by) same c)

  way_stays : (to from by : ℕ) → Collects (values ps) by from → Reaches (values ps) to from → Reaches others to from
  way_stays to from by c (there f same) = there from same
  way_stays to from by c (through f next c' way) = through from next (entry_stays from next (is_other by from c) c') (way_stays to next from c' way)

  way_ends : (to from by : ℕ) → Collects (values ps) by from → Reaches (values ps) to from → (last : ℕ) × Collects (values ps) last to
  way_ends to from by c (there f same) = (by, subst (Collects (values ps) by) same c)
  way_ends to from by c (through f next c' way) = way_ends to next from c' way

  circle_stays : (x : ℕ) → IsInCircle (values ps) x → IsInCircle others x
  circle_stays x circle =
      let end = way_ends x circle.next x circle.first circle.way in
      record {
        next = circle.next;
        first = entry_stays x circle.next (is_other end.0 x end.1) circle.first;
        way = way_stays x circle.next x circle.first circle.way;
      }

-- none collects a flow at which nothing stands
none_collects : (id : ℕ) (ps : List (ℤ × FlowRow)) (index : List (ℤ × List (ℤ × ℕ))) → IsByCollected ps index → has_pairs (ids_at id index) ≡ false
    → (from : ℕ) → Collects (values ps) from id → ⊥
none_collects id ps index indexed e from c =
    let none : naming flow_id flows_named id ps ≡ [] = sym (indexed id) ∙ none_there (ids_at id index) e in
    false≢true (subst (λ l. has_number from (values l) ≡ true) none (collecting_named id from ps c))

-- ---- one that waited

waits_yet : (a id : ℕ) (b : Bool) (waiting : List ℕ) → (a ≡ id → b ≡ true) → (b || has_number a (waiting ++ id ∷ [])) ≡ true
    → (b || has_number a waiting) ≡ true
waits_yet a id b waiting same e =
    elim (or_cases b (has_number a (waiting ++ id ∷ [])) e) [
      | inl held ↦ or_left b (has_number a waiting) held
      | inr waited ↦ elim (In-append waiting (id ∷ []) a (has_number-In a (waiting ++ id ∷ []) waited)) [
        | inl front ↦ or_right b (has_number a waiting) (In-has_number a waiting front)
        | inr (inl is) ↦ or_left b (has_number a waiting) (same is)
        | inr (inr none) ↦ absurd none
      ]
    ]

with_waiting : (rows : List FlowRow) (left : List (ℤ × FlowRow)) (index : List (ℤ × List (ℤ × ℕ))) (before after : List ℕ)
    → IsPeeled rows left index before
    → ((id : ℕ) → is_some (value_at (id_key id) left) ≡ true → (has_pairs (ids_at id index) || has_number id after) ≡ true)
    → IsPeeled rows left index after
with_waiting rows left index before after h waits =
    record { keyed = h.keyed; indexed = h.indexed; among = h.among; circles = h.circles; waits = waits }

-- it stays where one of those left collects it
pub still_collected : (id : ℕ) (left : List (ℤ × FlowRow)) (index : List (ℤ × List (ℤ × ℕ))) (waiting : List ℕ) (rows : List FlowRow)
    → has_pairs (ids_at id index) ≡ true → IsPeeled rows left index (waiting ++ id ∷ []) → IsPeeled rows left index waiting
still_collected id left index waiting rows held h = with_waiting rows left index (waiting ++ id ∷ []) waiting h (λ a e. waits_yet a id
    (has_pairs (ids_at a index)) waiting (λ same. ap (λ n. has_pairs (ids_at n index)) same ∙ held) (h.waits a e))

-- or it went already
pub gone_already : (id : ℕ) (left : List (ℤ × FlowRow)) (index : List (ℤ × List (ℤ × ℕ))) (waiting : List ℕ) (rows : List FlowRow)
    → value_at (id_key id) left ≡ None → IsPeeled rows left index (waiting ++ id ∷ []) → IsPeeled rows left index waiting
gone_already id left index waiting rows none h = with_waiting rows left index (waiting ++ id ∷ []) waiting h (λ a e. waits_yet a id
    (has_pairs (ids_at a index)) waiting
    (λ same. absurd (false≢true (sym (ap is_some (ap (λ n. value_at (id_key n) left) same ∙ none)) ∙ e))) (h.waits a e))

-- else it goes, and those that it collects wait
pub peeled_on : (id : ℕ) (row : FlowRow) (left : List (ℤ × FlowRow)) (index next : List (ℤ × List (ℤ × ℕ))) (waiting : List ℕ) (rows : List FlowRow)
    → IsRising left → value_at (id_key id) left ≡ Some row → has_pairs (ids_at id index) ≡ false → Unlinks (member_ids row.body.members) id index next
    → IsPeeled rows left index (waiting ++ id ∷ [])
    → IsPeeled rows (without_key (id_key id) left) next (waiting ++ member_ids row.body.members)
peeled_on id row left index next waiting rows rising found none gone h =
    record {
      keyed = keyed_without flow_key (id_key id) left h.keyed;
      indexed = index_without flow_id flows_named id row left index next rising found h.indexed gone;
      among = λ r c. h.among r (Contains-from_In (values left) r (left_among (id_key id) left r (In-from_Contains (values (without_key (id_key id) left)) r
          c)));
      circles = λ x circle. circle_stays id left rising h.keyed (none_collects id left index h.indexed none) x (h.circles x circle);
      waits = λ a e. elim (cases_Bool (a == id)) [
        | inl same ↦ absurd (false≢true (sym (ap is_some (at a ∙ ap (λ b. cond b None (value_at (id_key a) left)) same)) ∙ e))
        | inr other ↦ waits a other (sym (ap is_some (at a ∙ ap (λ b. cond b None (value_at (id_key a) left)) other)) ∙ e)
      ];
    }
  where
    ids : List ℕ
    ids = member_ids row.body.members

    at : (a : ℕ) → value_at (id_key a) (without_key (id_key id) left) ≡ cond (a == id) None (value_at (id_key a) left)
    at a = value_at_without (id_key a) (id_key id) left ∙ ap (λ b. cond b None (value_at (id_key a) left)) (sym (same_key a id))

    waits : (a : ℕ) → (a == id) ≡ false → is_some (value_at (id_key a) left) ≡ true → (has_pairs (ids_at a next) || has_number a (waiting ++ ids)) ≡ true
    waits a other e = elim (cases_Bool (has_number a ids)) [
      | inl named ↦ or_right (has_pairs (ids_at a next)) (has_number a (waiting ++ ids)) (In-has_number a (waiting ++ ids) (In-back waiting ids a
          (has_number-In a ids named)))
      | inr unnamed ↦
          let stays : ids_at a next ≡ ids_at a index = gone a ∙ ap (λ b. cond b (without_key (id_key id) (ids_at a index)) (ids_at a index)) unnamed in
          let yet = waits_yet a id (has_pairs (ids_at a index)) waiting (λ same. absurd (true≢false (sym (eq-eqb a id same) ∙ other))) (h.waits a e) in
          elim (or_cases (has_pairs (ids_at a index)) (has_number a waiting) yet) [
            | inl held ↦ or_left (has_pairs (ids_at a next)) (has_number a (waiting ++ ids)) (ap has_pairs stays ∙ held)
            | inr waited ↦ or_right (has_pairs (ids_at a next)) (has_number a (waiting ++ ids)) (In-has_number a (waiting ++ ids) (In-front waiting ids a
                (has_number-In a waiting waited)))
          ]
    ]

-- ---- fewer flows and entries

weight_append : (l r : List (ℤ × FlowRow)) → weight (l ++ r) ≡ weight l + weight r
weight_append [] r = omega arith
weight_append (p ∷ l) r = let rest = weight_append l r in omega (arith, rest)

pub weight_left : (key : ℤ) (row : FlowRow) (ps next : List (ℤ × FlowRow)) (before after : List ℕ) → IsRising ps → value_at key ps ≡ Some row
    → next ≡ without_key key ps → after ≡ before ++ member_ids row.body.members → length after + weight next ≤ length before + weight ps
weight_left key row ps next before after rising found is more =
    let at = standing key row ps found in
    let cut : next ≡ at.left ++ at.right = is ∙ ap (without_key key) at.is ∙ cut_at key at.left (key, row) at.right
    (around at.left (key, row) at.right (subst IsRising at.is rising)) refl in
    let old : weight ps ≡ weight at.left + (length row.body.members + 1 + weight at.right) = ap weight at.is ∙ weight_append at.left
    ((key, row) ∷ at.right) in
    let new : weight next ≡ weight at.left + weight at.right = ap weight cut ∙ weight_append at.left at.right in
    let longer : length after ≡ length before + length (member_ids row.body.members) = ap length more ∙ length-append before (member_ids row.body.members) in
    let count : length (member_ids row.body.members) ≡ length row.body.members = length-map row.body.members (λ (m : Member). m.flow) in
    omega (arith, old, new, longer, count)

-- ---- the first step

any_of : (a : ℕ) (ns : List ℕ) → not (list_all (λ b. not (a == b)) ns) ≡ has_number a ns
any_of a [] = refl
any_of a (n ∷ ns) = by (a == n) (any_of a ns)
  where
    by : (t : Bool) → not (list_all (λ b. not (a == b)) ns) ≡ has_number a ns → not (not t && list_all (λ b. not (a == b)) ns) ≡ (t || has_number a ns)
    by true ih = refl
    by false ih = ih

pub peeled_first : (rows : List FlowRow) (flows : List (ℤ × FlowRow)) (by_source index : List (ℤ × List (ℤ × ℕ))) → AreGathered rows flows by_source index
    → IsPeeled rows flows index (map flow_id rows)
peeled_first rows flows by_source index h =
    record {
      keyed = gathered_at flow_id rows flows h.placed;
      indexed = h.collectors_indexed;
      among = λ row c. Contains-from_In rows row (In-in_order flow_before rows row (subst (In row) ordered (In-from_Contains (values flows) row c)));
      circles = λ id circle. record { next = circle.next; first = entry id circle.next circle.first; way = way id circle.next circle.way };
      waits = λ id e. or_right (has_pairs (ids_at id index)) (has_number id (map flow_id rows)) (sym (any_of id (map flow_id rows)) ∙ sym
          (found_gathered flow_id id rows) ∙ ap (λ l. is_some (value_at (id_key id) l)) (sym h.placed) ∙ e);
    }
  where
    ordered : values flows ≡ in_order flow_before rows
    ordered = gathered_is flow_id rows flows h.distinct h.placed

    entry : (from to : ℕ) → Collects rows from to → Collects (values flows) from to
    entry from to c = record {
      row = c.row;
      kept = Contains-from_In (values flows) c.row (subst (In c.row) (sym ordered) (in_order-In flow_before rows c.row (In-from_Contains rows c.row c.kept)));
      row_is = c.row_is;
      entry = c.entry;
    }

    way : (to from : ℕ) → Reaches rows to from → Reaches (values flows) to from
    way to from (there f same) = there from same
    way to from (through f next c rest) = through from next (entry from next c) (way to next rest)

-- ---- the last step

-- how the library tells a flow that reaches itself
abbrev Tells : List FlowRow → Type 0
Tells rows = (id : ℕ) (members : List Member) → IsTrue (collects_itself rows id members) ↔ AnyReaches rows members id

record Collector (rows : List FlowRow) (row : FlowRow) : Type 0 where
  by : FlowRow
  kept : In by rows
  entry : In row.body.id (member_ids by.body.members)

record Circle (rows some : List FlowRow) : Type 0 where
  row : FlowRow
  kept : In row some
  itself : collects_itself rows row.body.id row.body.members ≡ true

-- where each of some flows is collected by one of them, one reaches itself
circle_there : (rows : List FlowRow) → Tells rows → (n : ℕ) (some : List FlowRow) → length some ≤ n → ((row : FlowRow) → In row some → In row rows)
    → ((row : FlowRow) → In row some → Collector some row) → (first : FlowRow) → In first some → Circle rows some
circle_there rows law zero [] few within each first here = absurd here
circle_there rows law zero (x ∷ some) few within each first here = absurd (omega (arith, few))
circle_there rows law (suc n) some few within each first here =
    elim (cases_Bool (leads first)) [
      | inl itself ↦ record { row = first; kept = here; itself = itself }
      | inr not_itself ↦
          let some_lead : In first (filter (λ r. not (leads r)) some) = filter-In (λ r. not (leads r)) some first here (ap not not_itself) in
          let fewer = length-filter_both leads (λ r. not (leads r)) (λ r. refl) some in
          let one = not_none (filter (λ r. not (leads r)) some) first some_lead in
          let by = each first here in
          let start : leads by.by ≡ true = (law first.body.id by.by.body.members).1 (record {
            first = first.body.id;
            entry = Contains-from_In (member_ids by.by.body.members) first.body.id by.entry;
            way = there first.body.id refl;
          }) in
          let found = circle_there rows law n (filter leads some) (omega (arith, few, fewer, one)) (λ row h. within row (In-filter leads some row h).0) more
          by.by (filter-In leads some by.by by.kept start) in
          record { row = found.row; kept = (In-filter leads some found.row found.kept).0; itself = found.itself }
    ]
  where
    leads : FlowRow → Bool
    leads row = collects_itself rows first.body.id row.body.members

    not_none : (xs : List FlowRow) (x : FlowRow) → In x xs → 1 ≤ length xs
    not_none [] x h = absurd h
    not_none (y ∷ xs) x h = omega arith

    more : (row : FlowRow) → In row (filter leads some) → Collector (filter leads some) row
    more row h =
        let kept = In-filter leads some row h in
        let by = each row kept.0 in
        let any = (law first.body.id row.body.members).0 kept.1 in
        let led : leads by.by ≡ true = (law first.body.id by.by.body.members).1 (record {
          first = row.body.id;
          entry = Contains-from_In (member_ids by.by.body.members) row.body.id by.entry;
          way = through row.body.id any.first (record {
            row = row;
            kept = Contains-from_In rows row (within row kept.0);
            row_is = refl;
            entry = any.entry;
          }) any.way;
        }) in
        record { by = by.by; kept = filter-In leads some by.by by.kept led; entry = by.entry }

first_of : (ps : List (ℤ × ℕ)) → has_pairs ps ≡ true → (a : ℕ) × (has_number a (values ps) ≡ true)
first_of [] e = absurd (false≢true e)
first_of (p ∷ ps) e = (p.1, or_left (p.1 == p.1) (has_number p.1 (values ps)) (eq-eqb p.1 p.1 refl))

-- each flow that is left is collected by another where none waits
collector_left : (rows : List FlowRow) (left : List (ℤ × FlowRow)) (index : List (ℤ × List (ℤ × ℕ))) → IsPeeled rows left index [] → (row : FlowRow)
    → In row (values left) → Collector (values left) row
collector_left rows left index h row here =
    let waits = h.waits row.body.id (found_left row.body.id left h.keyed row here refl) in
    let some : has_pairs (ids_at row.body.id index) ≡ true = elim (or_cases (has_pairs (ids_at row.body.id index)) (has_number row.body.id []) waits) [
      | inl e ↦ e
      | inr e ↦ absurd (false≢true e)
    ] in
    let by = first_of (naming flow_id flows_named row.body.id left) (ap has_pairs (sym (h.indexed row.body.id)) ∙ some) in
    let c = collecting row.body.id by.0 left by.1 in
    record {
      by = c.row;
      kept = In-from_Contains (values left) c.row c.kept;
      entry = In-from_Contains (member_ids c.row.body.members) row.body.id c.entry;
    }

-- none is left exactly where no flow reaches itself
pub peeled_last : (rows : List FlowRow) (left : List (ℤ × FlowRow)) (index : List (ℤ × List (ℤ × ℕ)))
    → ((flows : List FlowRow) (id : ℕ) (members : List Member) → IsTrue (collects_itself flows id members) ↔ AnyReaches flows members id)
    → IsPeeled rows left index [] → not (has_pairs left) ≡ list_all (is_acyclic rows) rows
peeled_last rows [] index law h = sym (list_all-from_In (is_acyclic rows) rows (λ row here. by row here (collects_itself rows row.body.id row.body.members)
    refl))
  where
    by : (row : FlowRow) → In row rows → (t : Bool) → collects_itself rows row.body.id row.body.members ≡ t → not t ≡ true
    by row here false e = refl
    by row here true e =
        let any = (law rows row.body.id row.body.members).0 e in
        let circle = h.circles row.body.id (record {
          next = any.first;
          first = record { row = row; kept = Contains-from_In rows row here; row_is = refl; entry = any.entry };
          way = any.way;
        }) in
        absurd (In-from_Contains [] circle.first.row circle.first.kept)
peeled_last rows (p ∷ left) index law h =
    let within = λ (row : FlowRow) (here : In row (values (p ∷ left))). In-from_Contains rows row (h.among row (Contains-from_In (values (p ∷ left)) row here))
    in
    let circle = circle_there rows (law rows) (length (values (p ∷ left))) (values (p ∷ left)) (omega arith) within
    (collector_left rows (p ∷ left) index h) p.1 (inl refl) in
    by (list_all (is_acyclic rows) rows) refl circle (within circle.row circle.kept)
  where
    by : (t : Bool) → list_all (is_acyclic rows) rows ≡ t → (circle : Circle rows (values (p ∷ left))) → In circle.row rows → false ≡ t
    by false e circle here = refl
    by true e circle here =
        absurd (true≢false (sym (list_all-In (is_acyclic rows) rows e circle.row here) ∙ ap not circle.itself))
