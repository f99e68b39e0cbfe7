-- What the steps of a drop make of the rows, one after the other.
use Rattle.std.proofs.Common.{◌≡◌, ℕ, ℤ, ◌<ℤ◌, int_eq, ◌==◌, Bool, true, false, not, ◌||◌, cond, if◌then◌else◌, List, [], ◌∷◌, ◌++◌, Some, filter, filter_map, map, option_map, refl, sym, ap, subst, ◌∙◌, arith, append_assoc}
use Rattle.std.specs.List.{AllByRecursion}
use Rattle.std.specs.Cmp.{signed_Decides}
use Rattle.std.proofs.lemmas.Bool.{eqb-true}
use Rattle.std.proofs.lemmas.Bool.Decides.{nat_tests}
use Rattle.std.proofs.lemmas.Int.{ints}
use Rattle.std.proofs.lemmas.List.Elements.{filter-append}
use Rattle.media_rows.specs.declared.flow.FlowRow.{FlowRow}
use Rattle.media_rows.specs.declared.flow.Member.{Member}
use Rattle.media_rows.specs.declared.source.SourceRow.{SourceRow}
use Rattle.media_rows.specs.Catalog.{flow_of, has_flow}
use Rattle.media_rows.specs.Collections.{member_ids, without_entries}
use Rattle.media_rows.specs.Lists.{has_number}
use Rattle.media_rows.specs.Views.{flow_key, id_key}
use Rattle.shared_tree.specs.Pairs.{IsRising, first, is_at, value_at, values, with_pair}
use Rattle.shared_tree.specs.Rows.{IsKeyedBy}
use Rattle.shared_tree.proofs.Counted.{rising_with}
use Rattle.shared_tree.proofs.Rising.{all_map, around, filter_none, put_at}
use Rattle.id_index.specs.Index.{has_pairs, naming}
use Rattle.flow_book.specs.Within.Order.{all_cleared, cleared, collects, flow_id, flows_named, source_named}
use Rattle.flow_book.proofs.Keys.{flow_found}

-- ---- entries of a flow

-- a pair without the entries of a flow
abbrev clear : ℕ → ℤ × FlowRow → ℤ × FlowRow
clear id p = (p.0, without_entries id p.1)

no_entries : (id : ℕ) (members : List Member) → collects id members ≡ false → filter (λ m. not (m.flow == id)) members ≡ members
no_entries id [] e = refl
no_entries id (m ∷ members) e = by (m.flow == id) e (no_entries id members)
  where
    by : (t : Bool) → (t || collects id members) ≡ false → (collects id members ≡ false → filter (λ x. not (x.flow == id)) members ≡ members)
        → cond (not t) (m ∷ filter (λ x. not (x.flow == id)) members) (filter (λ x. not (x.flow == id)) members) ≡ m ∷ members
    by true e' rest = absurd (grind (arith, e'))
    by false e' rest = ap (λ l. m ∷ l) (rest e')

same_row : (id : ℕ) (row : FlowRow) → collects id row.body.members ≡ false → without_entries id row ≡ row
same_row id row e = ap (λ l. record row { body = record row.body { members = l } }) (no_entries id row.body.members e)

cleared_from : (id : ℕ) (done rest : List (ℤ × FlowRow)) → IsRising (done ++ rest) → IsKeyedBy flow_key rest
    → cleared id (values rest) (done ++ rest) ≡ done ++ map (clear id) rest
cleared_from id done [] rising keyed = refl
cleared_from id done (p ∷ rest) rising keyed =
    by (collects id p.1.body.members) refl (λ q rising'. cleared_from id (done ++ q ∷ []) rest rising' keyed.1)
  where
    key : ℤ
    key = id_key p.1.body.id

    on : (q : ℤ × FlowRow) → (IsRising ((done ++ q ∷ []) ++ rest) → cleared id (values rest) ((done ++ q ∷ []) ++ rest) ≡ (done ++ q ∷ []) ++ map (clear id)
        rest) → IsRising (done ++ q ∷ rest) → cleared id (values rest) (done ++ q ∷ rest) ≡ done ++ q ∷ map (clear id) rest
    on q step rising' =
        let e = append_assoc done (q ∷ []) rest in
        ap (cleared id (values rest)) (sym e) ∙ step (subst IsRising (sym e) rising') ∙ append_assoc done (q ∷ []) (map (clear id) rest)

    by : (t : Bool) → collects id p.1.body.members ≡ t → ((q : ℤ × FlowRow) → IsRising ((done ++ q ∷ []) ++ rest)
        → cleared id (values rest) ((done ++ q ∷ []) ++ rest) ≡ (done ++ q ∷ []) ++ map (clear id) rest)
        → cleared id (values rest) (cond t (with_pair (key, without_entries id p.1) (done ++ p ∷ rest)) (done ++ p ∷ rest)) ≡ done ++ clear id p ∷ map
        (clear id) rest
    by true e step =
        let new : ℤ × FlowRow = (key, without_entries id p.1) in
        let put = put_at key (without_entries id p.1) done p rest (around done p rest rising) (sym keyed.0) in
        let still = subst IsRising put (rising_with key (without_entries id p.1) (done ++ p ∷ rest) rising) in
        ap (cleared id (values rest)) put ∙ on new (step new) still ∙ ap (λ k. done ++ (k, without_entries id p.1) ∷ map (clear id) rest) (sym keyed.0)
    by false e step = on p (step p) rising ∙ ap (λ row. done ++ (p.0, row) ∷ map (clear id) rest) (sym (same_row id p.1 e))

pub clear_values : (id : ℕ) (ps : List (ℤ × FlowRow)) → values (all_cleared id ps) ≡ map (without_entries id) (values ps)
clear_values id [] = refl
clear_values id (p ∷ ps) = ap (λ l. without_entries id p.1 ∷ l) (clear_values id ps)

pub clear_keyed : (id : ℕ) (ps : List (ℤ × FlowRow)) → IsKeyedBy flow_key ps → IsKeyedBy flow_key (all_cleared id ps)
clear_keyed id [] h = tt
clear_keyed id (p ∷ ps) h = (h.0, clear_keyed id ps h.1)

-- ---- the flows that have entries

pub eq_sym : (a b : ℕ) → (a == b) ≡ (b == a)
eq_sym a b = by (a == b) (b == a) refl refl
  where
    by : (s t : Bool) → (a == b) ≡ s → (b == a) ≡ t → (a == b) ≡ (b == a)
    by true true es et = es ∙ sym et
    by false false es et = es ∙ sym et
    by true false es et = absurd (let e = eqb-true a b es in let f : b ≡ a = sym e in grind (arith, nat_tests, f))
    by false true es et = absurd (let e = eqb-true b a et in let f : a ≡ b = sym e in grind (arith, nat_tests, f))

pub collects_named : (id : ℕ) (members : List Member) → has_number id (member_ids members) ≡ collects id members
collects_named id [] = refl
collects_named id (m ∷ members) = ap (λ b. b || has_number id (member_ids members)) (eq_sym id m.flow) ∙ ap (λ b. (m.flow == id) || b)
    (collects_named id members)

-- only rows with entries are replaced
cleared_named : (id : ℕ) (ps flows : List (ℤ × FlowRow)) → cleared id (values (filter (λ p. has_number id (flows_named p.1)) ps)) flows ≡ cleared id (values ps)
    flows
cleared_named id [] flows = refl
cleared_named id (p ∷ ps) flows = by (has_number id (flows_named p.1)) (collects id p.1.body.members) (collects_named id p.1.body.members) refl
    (cleared_named id ps (with_pair (id_key p.1.body.id, without_entries id p.1) flows)) (cleared_named id ps flows)
  where
    test : ℤ × FlowRow → Bool
    test q = has_number id (flows_named q.1)

    put : List (ℤ × FlowRow)
    put = with_pair (id_key p.1.body.id, without_entries id p.1) flows

    by : (s t : Bool) → s ≡ t → collects id p.1.body.members ≡ t → cleared id (values (filter test ps)) put ≡ cleared id (values ps) put
        → cleared id (values (filter test ps)) flows ≡ cleared id (values ps) flows → cleared id (values (cond s (p ∷ filter test ps) (filter test ps))) flows
        ≡ cleared id (values ps) (cond t put flows)
    by true true e h changed same = ap (λ b. cleared id (values (filter test ps)) (cond b put flows)) h ∙ changed
    by false false e h changed same = same
    by true false e h changed same = absurd (grind (arith, e))
    by false true e h changed same = absurd (grind (arith, e))

-- each row is found at its id
found_each : (done rest : List (ℤ × FlowRow)) → IsRising (done ++ rest) → AllByRecursion (λ p. value_at p.0 (done ++ rest) ≡ Some p.1) rest
found_each done [] rising = tt
found_each done (p ∷ rest) rising =
    let e = append_assoc done (p ∷ []) rest in
    let round = around done p rest rising in (
      value_first done p rest round.before,
      subst (λ l. AllByRecursion (λ q. value_at q.0 l ≡ Some q.1) rest) e
          (found_each (done ++ p ∷ []) rest (subst IsRising (sym e) rising)),
    )
  where
    value_first : (l : List (ℤ × FlowRow)) (q : ℤ × FlowRow) (r : List (ℤ × FlowRow)) → AllByRecursion (λ x. x.0 <ℤ q.0) l
        → value_at q.0 (l ++ q ∷ r) ≡ Some q.1
    value_first l q r before =
        let none : filter (is_at q.0) l ≡ [] = filter_none (is_at q.0) l (all_map (λ x. x.0 <ℤ q.0) (λ x. is_at q.0 x ≡ false) (λ x lt. grind (arith, ints)) l
        before) in
        let here : int_eq q.0 q.0 ≡ true = let d = signed_Decides q.0 q.0 in d.1 refl in
        let all : filter (is_at q.0) (l ++ q ∷ r) ≡ q ∷ filter (is_at q.0) r = filter-append (is_at q.0) l (q ∷ r) ∙ rw (none, here) refl in
        ap (λ l'. option_map (λ x. x.1) (first l')) all

found_listed : (flows : List FlowRow) (test : ℤ × FlowRow → Bool) (ps : List (ℤ × FlowRow)) → AllByRecursion (λ p. flow_of p.1.body.id flows ≡ Some p.1) ps
    → filter_map (λ id. flow_of id flows) (values (map (λ p. (p.0, flow_id p.1)) (filter test ps))) ≡ values (filter test ps)
found_listed flows test [] h = refl
found_listed flows test (p ∷ ps) h = by (test p) (found_listed flows test ps h.1)
  where
    by : (t : Bool) → filter_map (λ id. flow_of id flows) (values (map (λ q. (q.0, flow_id q.1)) (filter test ps))) ≡ values (filter test ps)
        → filter_map (λ id. flow_of id flows) (values (map (λ q. (q.0, flow_id q.1)) (cond t (p ∷ filter test ps) (filter test ps)))) ≡ values
        (cond t (p ∷ filter test ps) (filter test ps))
    by true ih = rw h.0 (ap (λ l. p.1 ∷ l) ih)
    by false ih = ih

found_ids : (flows ps : List (ℤ × FlowRow)) → IsKeyedBy flow_key flows → IsKeyedBy flow_key ps → AllByRecursion (λ p. value_at p.0 flows ≡ Some p.1) ps
    → AllByRecursion (λ p. flow_of p.1.body.id (values flows) ≡ Some p.1) ps
found_ids flows [] keyed own h = tt
found_ids flows (p ∷ ps) keyed own h =
    (sym (flow_found p.1.body.id flows keyed) ∙ ap (λ k. value_at k flows) (sym own.0) ∙ h.0, found_ids flows ps keyed own.1 h.1)

-- once those were replaced, no flow has entries
pub entries_gone : (id : ℕ) (ids : List ℕ) (rows : List FlowRow) (flows next : List (ℤ × FlowRow)) → IsRising flows → IsKeyedBy flow_key flows
    → ids ≡ values (naming flow_id flows_named id flows) → rows ≡ filter_map (λ i. flow_of i (values flows)) ids → next ≡ cleared id rows flows
    → next ≡ all_cleared id flows
entries_gone id ids rows flows next rising keyed named found is =
    let each = found_ids flows flows keyed keyed (found_each [] flows rising) in
    let shown : rows ≡ values (filter (λ p. has_number id (flows_named p.1)) flows) = found ∙ ap (filter_map (λ i. flow_of i (values flows))) named ∙
    found_listed (values flows) (λ p. has_number id (flows_named p.1)) flows each in
    is ∙ ap (λ l. cleared id l flows) shown ∙ cleared_named id flows flows ∙ cleared_from id [] flows rising keyed

-- ---- what flows name without the entries of one

module _ (a : ℕ) where
  pub sources_stay : (id : ℕ) (ps : List (ℤ × FlowRow)) → naming flow_id source_named a (all_cleared id ps) ≡ naming flow_id source_named a ps
  sources_stay id [] = refl
  sources_stay id (p ∷ ps) = by (has_number a (source_named p.1)) refl (sources_stay id ps)
    where
      by : (t : Bool) → has_number a (source_named p.1) ≡ t → naming flow_id source_named a (all_cleared id ps) ≡ naming flow_id source_named a ps
          → naming flow_id source_named a (all_cleared id (p ∷ ps)) ≡ naming flow_id source_named a (p ∷ ps)
      by true e ih = rw e (ap (λ l. (p.0, flow_id p.1) ∷ l) ih)
      by false e ih = rw e ih

  -- no entry is of the flow, and all others stay
  none_left : (members : List Member) → has_number a (member_ids (filter (λ m. not (m.flow == a)) members)) ≡ false
  none_left [] = refl
  none_left (m ∷ members) = by (m.flow == a) refl (none_left members)
    where
      by : (t : Bool) → (m.flow == a) ≡ t → has_number a (member_ids (filter (λ x. not (x.flow == a)) members)) ≡ false
          → has_number a (member_ids (cond (not t) (m ∷ filter (λ x. not (x.flow == a)) members) (filter (λ x. not (x.flow == a)) members))) ≡ false
      by true e ih = ih
      by false e ih = rw (eq_sym a m.flow ∙ e) ih

  others_left : (id : ℕ) (members : List Member) → (a == id) ≡ false → has_number a (member_ids (filter (λ m. not (m.flow == id)) members)) ≡ has_number a
      (member_ids members)
  others_left id [] other = refl
  others_left id (m ∷ members) other = by (m.flow == id) refl (others_left id members other)
    where
      by : (t : Bool) → (m.flow == id) ≡ t → has_number a (member_ids (filter (λ x. not (x.flow == id)) members)) ≡ has_number a (member_ids members)
          → has_number a (member_ids (cond (not t) (m ∷ filter (λ x. not (x.flow == id)) members) (filter (λ x. not (x.flow == id)) members))) ≡ has_number a
          (member_ids (m ∷ members))
      by true e ih =
          let apart : (a == m.flow) ≡ false = ap (λ n. a == n) (eqb-true m.flow id e) ∙ other in
          ih ∙ ap (λ b. b || has_number a (member_ids members)) (sym apart)
      by false e ih = ap (λ b. (a == m.flow) || b) ih

  pub entries_stay : (id : ℕ) (ps : List (ℤ × FlowRow)) → naming flow_id flows_named a (all_cleared id ps)
      ≡ (if a == id then [] else naming flow_id flows_named a ps)
  entries_stay id ps = by (a == id) refl
    where
      none : (qs : List (ℤ × FlowRow)) → naming flow_id flows_named a (all_cleared a qs) ≡ []
      none [] = refl
      none (q ∷ qs) = rw (none_left q.1.body.members) (none qs)

      same : (qs : List (ℤ × FlowRow)) → (a == id) ≡ false → naming flow_id flows_named a (all_cleared id qs) ≡ naming flow_id flows_named a qs
      same [] e = refl
      same (q ∷ qs) e = on (has_number a (flows_named q.1)) refl (same qs e)
        where
          on : (t : Bool) → has_number a (flows_named q.1) ≡ t → naming flow_id flows_named a (all_cleared id qs) ≡ naming flow_id flows_named a qs
              → naming flow_id flows_named a (all_cleared id (q ∷ qs)) ≡ naming flow_id flows_named a (q ∷ qs)
          on true h ih = rw (others_left id q.1.body.members e ∙ h, h) (ap (λ l. (q.0, flow_id q.1) ∷ l) ih)
          on false h ih = rw (others_left id q.1.body.members e ∙ h, h) ih

      by : (t : Bool) → (a == id) ≡ t → naming flow_id flows_named a (all_cleared id ps) ≡ cond t [] (naming flow_id flows_named a ps)
      by true e = ap (λ i. naming flow_id flows_named a (all_cleared i ps)) (sym (eqb-true a id e)) ∙ none ps
      by false e = same ps e

-- whether a source has a flow, by what names it
pub has_flow_is : (ps : List (ℤ × FlowRow)) (source : SourceRow) → has_flow (values ps) source ≡ has_pairs (naming flow_id source_named source.id ps)
has_flow_is [] source = refl
has_flow_is (p ∷ ps) source = by (p.1.body.source == source.id) (source.id == p.1.body.source) (eq_sym p.1.body.source source.id) refl (has_flow_is ps source)
  where
    by : (s t : Bool) → s ≡ t → (source.id == p.1.body.source) ≡ t → has_flow (values ps) source ≡ has_pairs (naming flow_id source_named source.id ps)
        → (s || has_flow (values ps) source) ≡ has_pairs (naming flow_id source_named source.id (p ∷ ps))
    by true true e h ih = rw h refl
    by false false e h ih = rw h ih
    by true false e h ih = absurd (grind (arith, e))
    by false true e h ih = absurd (grind (arith, e))
