-- Ways back from a flow: those that were followed are all that there are.
use Rattle.std.proofs.Common.{◌≡◌, ◌↔◌, inl, inr, ℕ, ℤ, ◌+◌, ◌-◌, ◌≤◌, ◌<◌, ◌==◌, Bool, true, false, ◌&&◌, ◌||◌, cond, IsTrue, List, [], ◌∷◌, ◌++◌, Option, Some, None, is_some, is_none, filter, length, take, refl, sym, ap, subst, ◌∙◌, arith}
use Rattle.std.specs.List.{list_any}
use Rattle.std.proofs.lemmas.Bool.{and_parts, cases_Bool, eq-eqb, eqb-true, false≢true, or_cases, or_left, or_right, true≢false}
use Rattle.std.proofs.lemmas.List.{length-append}
use Rattle.std.proofs.lemmas.List.Folds.{list_any-append}
use Rattle.media_rows.specs.declared.flow.FlowRow.{FlowRow}
use Rattle.media_rows.specs.declared.flow.Member.{Member}
use Rattle.media_rows.specs.Collections.{AnyReaches, Collects, Reaches, collects_itself, member_ids, there, through}
use Rattle.media_rows.specs.Lists.{has_number}
use Rattle.media_rows.specs.Views.{flow_key, id_key}
use Rattle.library_laws.proofs.ListLemmas.{Contains-from_In, In-append, In-back, In-filter, In-front, In-from_Contains, In-has_number, In-map, filter-In, has_number-In, list_any-In, list_any-from_In, map-In}
use Rattle.shared_tree.specs.Pairs.{IsRising, value_at, values, without_key}
use Rattle.shared_tree.specs.Rows.{IsKeyedBy}
use Rattle.shared_tree.proofs.Counted.{others_there, rising_without}
use Rattle.id_index.specs.Index.{naming}
use Rattle.id_index.proofs.Ids.{same_key}
use Rattle.id_index.proofs.Pairs.{value_at_without}
use Rattle.flow_book.specs.Within.Order.{flow_id, flows_named}
use Rattle.flow_book.specs.Within.Ways.{AreFollowed, leads, moved_to_waiting}
use Rattle.flow_book.proofs.Keys.{flow_found}
use Rattle.flow_book.proofs.Kept.{found_kept}
use Rattle.library_laws.proofs.SoundLemmas.{same_test}

-- ---- what an index tells of those that collect a flow

names : ℕ → ℤ × FlowRow → Bool
names to p = has_number to (flows_named p.1)

pub collecting : (to from : ℕ) (flows : List (ℤ × FlowRow)) → has_number from (values (naming flow_id flows_named to flows)) ≡ true
    → Collects (values flows) from to
collecting to from flows e =
    let mark = In-map (λ (q : ℤ × ℕ). q.1) (naming flow_id flows_named to flows) from (has_number-In from (values (naming flow_id flows_named to flows)) e) in
    let pair = In-map (λ (p : ℤ × FlowRow). (p.0, flow_id p.1)) (filter (λ p. has_number to (flows_named p.1)) flows) mark.0 mark.1 in
    let kept = In-filter (λ (p : ℤ × FlowRow). has_number to (flows_named p.1)) flows pair.0 pair.1 in
    record {
      row = pair.0.1;
      kept = Contains-from_In (values flows) pair.0.1 (map-In (λ (p : ℤ × FlowRow). p.1) flows pair.0 kept.0);
      row_is = sym (mark.2 ∙ ap (λ (q : ℤ × ℕ). q.1) pair.2);
      entry = Contains-from_In (member_ids pair.0.1.body.members) to (has_number-In to (member_ids pair.0.1.body.members) kept.1);
    }

pub collecting_named : (to from : ℕ) (flows : List (ℤ × FlowRow)) → Collects (values flows) from to
    → has_number from (values (naming flow_id flows_named to flows)) ≡ true
collecting_named to from flows c =
    let pair = In-map (λ (p : ℤ × FlowRow). p.1) flows c.row (In-from_Contains (values flows) c.row c.kept) in
    let named : has_number to (flows_named pair.0.1) ≡ true = ap (λ (r : FlowRow). has_number to (flows_named r)) (sym pair.2) ∙ In-has_number to
    (member_ids c.row.body.members) (In-from_Contains (member_ids c.row.body.members) to c.entry) in
    let marked = map-In (λ (p : ℤ × FlowRow). (p.0, flow_id p.1)) (filter (λ p. has_number to (flows_named p.1)) flows) pair.0
    (filter-In (λ (p : ℤ × FlowRow). has_number to (flows_named p.1)) flows pair.0 pair.1 named) in
    let id : flow_id pair.0.1 ≡ from = ap flow_id (sym pair.2) ∙ c.row_is in
    subst (λ n. has_number n (values (naming flow_id flows_named to flows)) ≡ true) id
    (In-has_number (flow_id pair.0.1) (values (naming flow_id flows_named to flows)) (map-In (λ (q : ℤ × ℕ). q.1) (naming flow_id flows_named to flows)
    (pair.0.0, flow_id pair.0.1) marked))

-- what collects a flow is kept
collecting_kept : (to from : ℕ) (flows : List (ℤ × FlowRow)) → IsKeyedBy flow_key flows → Collects (values flows) from to
    → is_some (value_at (id_key from) flows) ≡ true
collecting_kept to from flows keyed c =
    ap is_some (flow_found from flows keyed)
    ∙ found_kept from (values flows)
    ∙ list_any-from_In (λ (row : FlowRow). row.body.id == from) (values flows) c.row (In-from_Contains (values flows) c.row c.kept)
    (eq-eqb c.row.body.id from c.row_is)

-- ---- what is moved_to_waiting

none_some : {V : Type 0} (o : Option V) → is_some o ≡ false → o ≡ None
none_some None e = refl
none_some (Some x) e = absurd (true≢false e)

merge : {V : Type 0} (s t : Bool) (o : Option V) → cond t None (cond s None o) ≡ cond (s || t) None o
merge true true o = refl
merge true false o = refl
merge false t o = refl

none_either : {V : Type 0} (t : Bool) (o : Option V) → o ≡ None → cond t None o ≡ None
none_either true o e = refl
none_either false o e = e

pub swept_apart : (a : ℕ) (ids : List ℕ) (apart : List (ℤ × FlowRow)) (waiting : List ℕ)
    → value_at (id_key a) (moved_to_waiting ids apart waiting).0 ≡ cond (has_number a ids) None (value_at (id_key a) apart)
swept_apart a [] apart waiting = refl
swept_apart a (x ∷ ids) apart waiting = by (is_some (value_at (id_key x) apart)) refl
    (swept_apart a ids (without_key (id_key x) apart) (waiting ++ x ∷ [])) (swept_apart a ids apart waiting)
  where
    there : Option FlowRow
    there = value_at (id_key a) apart

    not_here : is_some (value_at (id_key x) apart) ≡ false → (s : Bool) → (a == x) ≡ s → cond (has_number a ids) None there ≡ cond
        (s || has_number a ids) None there
    not_here e true h =
        let none : there ≡ None = ap (λ n. value_at (id_key n) apart) (eqb-true a x h) ∙ none_some (value_at (id_key x) apart) e in
        none_either (has_number a ids) there none ∙ sym (none_either (true || has_number a ids) there none)
    not_here e false h = refl

    by : (t : Bool) → is_some (value_at (id_key x) apart) ≡ t
        → value_at (id_key a) (moved_to_waiting ids (without_key (id_key x) apart) (waiting ++ x ∷ [])).0 ≡ cond (has_number a ids) None
        (value_at (id_key a) (without_key (id_key x) apart))
        → value_at (id_key a) (moved_to_waiting ids apart waiting).0 ≡ cond (has_number a ids) None there
        → value_at (id_key a) (cond t (moved_to_waiting ids (without_key (id_key x) apart) (waiting ++ x ∷ [])) (moved_to_waiting ids apart waiting)).0 ≡ cond
        ((a == x) || has_number a ids) None there
    by true e gone stays =
        gone
        ∙ ap (λ o. cond (has_number a ids) None o) (value_at_without (id_key a) (id_key x) apart ∙ ap (λ b. cond b None there) (sym (same_key a x)))
        ∙ merge (a == x) (has_number a ids) there
    by false e gone stays = stays ∙ not_here e (a == x) refl

or_false : (b : Bool) → b ≡ (b || false)
or_false true = refl
or_false false = refl

came : {V : Type 0} (w s h : Bool) (o : Option V) → (s ≡ true → is_some o ≡ true)
    → ((w || (s || false)) || (h && is_some (cond s None o))) ≡ (w || ((s || h) && is_some o))
came true s h o is = refl
came false true h o is = sym (is refl)
came false false h o is = refl

stayed : {V : Type 0} (w s h : Bool) (o : Option V) → (s ≡ true → is_some o ≡ false) → (w || (h && is_some o)) ≡ (w || ((s || h) && is_some o))
stayed true s h o none = refl
stayed false true true o none = refl
stayed false true false o none = sym (none refl)
stayed false false h o none = refl

pub swept_waiting : (a : ℕ) (ids : List ℕ) (apart : List (ℤ × FlowRow)) (waiting : List ℕ)
    → has_number a (moved_to_waiting ids apart waiting).1 ≡ (has_number a waiting || (has_number a ids && is_some (value_at (id_key a) apart)))
swept_waiting a [] apart waiting = or_false (has_number a waiting)
swept_waiting a (x ∷ ids) apart waiting = by (is_some (value_at (id_key x) apart)) refl
    (swept_waiting a ids (without_key (id_key x) apart) (waiting ++ x ∷ [])) (swept_waiting a ids apart waiting)
  where
    there : Option FlowRow
    there = value_at (id_key a) apart

    as_is : (t : Bool) → is_some (value_at (id_key x) apart) ≡ t → (a == x) ≡ true → is_some there ≡ t
    as_is t e h = ap (λ n. is_some (value_at (id_key n) apart)) (eqb-true a x h) ∙ e

    by : (t : Bool) → is_some (value_at (id_key x) apart) ≡ t
        → has_number a (moved_to_waiting ids (without_key (id_key x) apart) (waiting ++ x ∷ [])).1 ≡ (has_number a (waiting ++ x ∷ [])
        || (has_number a ids && is_some
        (value_at (id_key a) (without_key (id_key x) apart))))
        → has_number a (moved_to_waiting ids apart waiting).1 ≡ (has_number a waiting || (has_number a ids && is_some there))
        → has_number a (cond t (moved_to_waiting ids (without_key (id_key x) apart) (waiting ++ x ∷ [])) (moved_to_waiting ids apart waiting)).1
        ≡ (has_number a waiting || (((a == x) || has_number a ids) && is_some there))
    by true e gone stays =
        gone
        ∙ ap (λ b. b || (has_number a ids && is_some (value_at (id_key a) (without_key (id_key x) apart)))) (list_any-append (λ m. a == m) waiting (x ∷ []))
        ∙ ap (λ o. (has_number a waiting || ((a == x) || false)) || (has_number a ids && is_some o))
        (value_at_without (id_key a) (id_key x) apart ∙ ap (λ b. cond b None there) (sym (same_key a x)))
        ∙ came (has_number a waiting) (a == x) (has_number a ids) there (as_is true e)
    by false e gone stays = stays ∙ stayed (has_number a waiting) (a == x) (has_number a ids) there (as_is false e)

not_empty : (key : ℤ) (ps : List (ℤ × FlowRow)) → is_some (value_at key ps) ≡ true → 1 ≤ length ps
not_empty key [] e = absurd (false≢true e)
not_empty key (p ∷ ps) e = omega arith

-- each that goes waits
pub swept_count : (ids : List ℕ) (apart : List (ℤ × FlowRow)) (waiting : List ℕ) → IsRising apart
    → length (moved_to_waiting ids apart waiting).0 + length (moved_to_waiting ids apart waiting).1 ≡ length apart + length waiting
swept_count [] apart waiting rising = refl
swept_count (x ∷ ids) apart waiting rising = by (is_some (value_at (id_key x) apart)) refl
    (swept_count ids (without_key (id_key x) apart) (waiting ++ x ∷ []) (rising_without (id_key x) apart rising)) (swept_count ids apart waiting rising)
  where
    by : (t : Bool) → is_some (value_at (id_key x) apart) ≡ t
        → length (moved_to_waiting ids (without_key (id_key x) apart) (waiting ++ x ∷ [])).0 + length (moved_to_waiting ids (without_key (id_key x) apart)
        (waiting ++ x ∷ [])).1
        ≡ length (without_key (id_key x) apart) + length (waiting ++ x ∷ [])
        → length (moved_to_waiting ids apart waiting).0 + length (moved_to_waiting ids apart waiting).1 ≡ length apart + length waiting
        → length (cond t (moved_to_waiting ids (without_key (id_key x) apart) (waiting ++ x ∷ [])) (moved_to_waiting ids apart waiting)).0 + length
        (cond t (moved_to_waiting ids (without_key (id_key x) apart) (waiting ++ x ∷ [])) (moved_to_waiting ids apart waiting)).1
        ≡ length apart + length waiting
    by true e gone stays =
        let fewer = others_there (id_key x) apart rising e in
        let some = not_empty (id_key x) apart e in
        let more = length-append waiting (x ∷ []) in
        gone ∙ omega (arith, fewer, some, more)
    by false e gone stays = stays

pub swept_fewer : (ids : List ℕ) (apart : List (ℤ × FlowRow)) (waiting rest : List ℕ) (next : ℕ) (new : List (ℤ × FlowRow) × List ℕ) → IsRising apart
    → new ≡ moved_to_waiting ids apart rest → waiting ≡ rest ++ next ∷ [] → length new.0 + length new.1 < length apart + length waiting
swept_fewer ids apart waiting rest next new rising is popped =
    let count : length new.0 + length new.1 ≡ length apart + length rest = ap (λ (s : List (ℤ × FlowRow) × List ℕ). length s.0 + length s.1) is ∙ swept_count
    ids apart rest rising in
    let longer = ap length popped ∙ length-append rest (next ∷ []) in
    omega (arith, count, longer)

-- ---- one step back

stays_found : {V : Type 0} (s k h : Bool) (o : Option V) → (s || (k && is_none o)) ≡ true → (s || (k && is_none (cond h None o))) ≡ true
stays_found true k h o e = refl
stays_found false true true o e = refl
stays_found false true false o e = e
stays_found false false h o e = e

is_found : {V : Type 0} (s k h : Bool) (o : Option V) → k ≡ true → h ≡ true → (s || (k && is_none (cond h None o))) ≡ true
is_found true k h o ek eh = refl
is_found false true true o ek eh = refl
is_found false true false o ek eh = absurd (false≢true eh)
is_found false false h o ek eh = absurd (false≢true ek)

newly_found : {V : Type 0} (s k h : Bool) (o : Option V) → (s || (k && is_none o)) ≡ false → (s || (k && is_none (cond h None o))) ≡ true
    → (h && is_some o) ≡ true
newly_found true k h o old new = absurd (true≢false old)
newly_found false false h o old new = absurd (false≢true new)
newly_found false true true None old new = absurd (true≢false old)
newly_found false true true (Some x) old new = refl
newly_found false true false o old new = absurd (true≢false (sym new ∙ old))

pub followed_on : (flows apart : List (ℤ × FlowRow)) (to next : ℕ) (rest ids : List ℕ) → IsKeyedBy flow_key flows
    → ids ≡ values (naming flow_id flows_named next flows) → AreFollowed flows apart to (rest ++ next ∷ [])
    → AreFollowed flows (moved_to_waiting ids apart rest).0 to (moved_to_waiting ids apart rest).1
followed_on flows apart to next rest ids keyed ids_are old =
    record {
      sound = λ from e. elim (cases_Bool (has_number from ids)) [
        | inl named ↦ through from next (collector from named) (old.sound next next_leads)
        | inr other ↦ old.sound from
            (ap (λ h. (from == to) || (kept from && is_none (cond h None (value_at (id_key from) apart)))) (sym other) ∙ sym (now from) ∙ e)
      ];
      waits = λ from e. elim (or_cases (has_number from rest) (has_number from ids && is_some (value_at (id_key from) apart))
          (sym (swept_waiting from ids apart rest) ∙ e)) [
            | inl waited ↦ still from (old.waits from (in_front from waited))
            | inr more ↦ found from (collector from (and_parts (has_number from ids) (is_some (value_at (id_key from) apart)) more).0)
          ];
      closed = λ from n c e. elim (cases_Bool (leads flows apart to n)) [
        | inl led ↦ elim (or_cases (leads flows apart to from) (has_number n (rest ++ next ∷ [])) (old.closed from n c led)) [
          | inl both ↦ or_left (leads flows (moved_to_waiting ids apart rest).0 to from) (has_number n (moved_to_waiting ids apart rest).1) (still from both)
          | inr waited ↦ elim (In-append rest (next ∷ []) n (has_number-In n (rest ++ next ∷ []) waited)) [
            | inl front ↦ or_right (leads flows (moved_to_waiting ids apart rest).0 to from) (has_number n (moved_to_waiting ids apart rest).1)
                (swept_waiting n ids apart rest ∙ or_left (has_number n rest) (has_number n ids && is_some (value_at (id_key n) apart))
                (In-has_number n rest front))
            | inr (inl same) ↦ or_left (leads flows (moved_to_waiting ids apart rest).0 to from) (has_number n (moved_to_waiting ids apart rest).1)
                (found from (subst (λ m. Collects (values flows) from m) same c))
            | inr (inr none) ↦ absurd none
          ]
        ]
        | inr apart_yet ↦ or_right (leads flows (moved_to_waiting ids apart rest).0 to from) (has_number n (moved_to_waiting ids apart rest).1)
            (swept_waiting n ids apart rest ∙ or_right (has_number n rest) (has_number n ids && is_some (value_at (id_key n) apart))
            (newly_found (n == to) (kept n) (has_number n ids) (value_at (id_key n) apart) apart_yet (sym (now n) ∙ e)))
      ];
    }
  where
    kept : ℕ → Bool
    kept a = is_some (value_at (id_key a) flows)

    now : (a : ℕ) → leads flows (moved_to_waiting ids apart rest).0 to a
        ≡ ((a == to) || (kept a && is_none (cond (has_number a ids) None (value_at (id_key a) apart))))
    now a = ap (λ o. (a == to) || (kept a && is_none o)) (swept_apart a ids apart rest)

    still : (a : ℕ) → leads flows apart to a ≡ true → leads flows (moved_to_waiting ids apart rest).0 to a ≡ true
    still a e = now a ∙ stays_found (a == to) (kept a) (has_number a ids) (value_at (id_key a) apart) e

    collector : (a : ℕ) → has_number a ids ≡ true → Collects (values flows) a next
    collector a e = collecting next a flows (ap (has_number a) (sym ids_are) ∙ e)

    found : (a : ℕ) → Collects (values flows) a next → leads flows (moved_to_waiting ids apart rest).0 to a ≡ true
    found a c = now a ∙ is_found (a == to) (kept a) (has_number a ids) (value_at (id_key a) apart) (collecting_kept next a flows keyed c)
        (ap (has_number a) ids_are ∙ collecting_named next a flows c)

    in_front : (a : ℕ) → has_number a rest ≡ true → has_number a (rest ++ next ∷ []) ≡ true
    in_front a e = In-has_number a (rest ++ next ∷ []) (In-front rest (next ∷ []) a (has_number-In a rest e))

    next_leads : leads flows apart to next ≡ true
    next_leads = old.waits next (In-has_number next (rest ++ next ∷ []) (In-back rest (next ∷ []) next (inl refl)))

-- ---- from the first step to the last

pub followed_first : (flows : List (ℤ × FlowRow)) (to : ℕ) → AreFollowed flows (without_key (id_key to) flows) to (to ∷ [])
followed_first flows to =
    record {
      sound = λ from e. there from (eqb-true from to (sym (itself from) ∙ e));
      waits = λ from e. itself from ∙ or_false (from == to) ∙ e;
      closed = λ from next c e. or_right (leads flows (without_key (id_key to) flows) to from) (has_number next (to ∷ [])) (sym (or_false (next == to)) ∙ sym
          (itself next) ∙ e);
    }
  where
    alone : {V : Type 0} (s : Bool) (o : Option V) → (s || (is_some o && is_none (cond s None o))) ≡ s
    alone true o = refl
    alone false None = refl
    alone false (Some x) = refl

    itself : (a : ℕ) → leads flows (without_key (id_key to) flows) to a ≡ (a == to)
    itself a =
        ap (λ o. (a == to) || (is_some (value_at (id_key a) flows) && is_none o)) (value_at_without (id_key a) (id_key to) flows ∙ ap
        (λ b. cond b None (value_at (id_key a) flows)) (sym (same_key a to)))
        ∙ alone (a == to) (value_at (id_key a) flows)

-- where none waits, all ways were followed
all_found : (flows apart : List (ℤ × FlowRow)) (to : ℕ) → AreFollowed flows apart to [] → (from : ℕ) → Reaches (values flows) to from
    → leads flows apart to from ≡ true
all_found flows apart to h from (there f same) =
    or_left (from == to) (is_some (value_at (id_key from) flows) && is_none (value_at (id_key from) apart)) (eq-eqb from to same)
all_found flows apart to h from (through f next c way) =
    elim (or_cases (leads flows apart to from) (has_number next []) (h.closed from next c (all_found flows apart to h next way))) [
      | inl e ↦ e
      | inr e ↦ absurd (false≢true e)
    ]

-- none is left once nothing is popped
pub none_popped : (waiting rest : List ℕ) (n : ℕ) → n ≡ 0 → waiting ≡ rest ++ [] → rest ≡ take (n - 1) waiting → waiting ≡ []
none_popped waiting rest n none popped taken = popped ∙ ap (λ l. l ++ []) (taken ∙ ap (λ k. take (k - 1) waiting) none)

pub followed_all : (flows apart : List (ℤ × FlowRow)) (to : ℕ) → AreFollowed flows apart to [] → (from : ℕ)
    → (leads flows apart to from ≡ true) ↔ Reaches (values flows) to from
followed_all flows apart to h from = (h.sound from, all_found flows apart to h from)

-- a flow reaches itself where a way leads from one of its entries
pub itself_is : (flows apart : List (ℤ × FlowRow)) (id : ℕ) (members : List Member)
    → (IsTrue (collects_itself (values flows) id members) ↔ AnyReaches (values flows) members id)
    → ((from : ℕ) → (leads flows apart id from ≡ true) ↔ Reaches (values flows) id from)
    → list_any (λ m. leads flows apart id m.flow) members ≡ collects_itself (values flows) id members
itself_is flows apart id members law ways = same_test (list_any (λ m. leads flows apart id m.flow) members) (collects_itself (values flows) id members)
    (λ e. let found = list_any-In (λ (m : Member). leads flows apart id m.flow) members e in
    law.1 (record {
      first = found.0.flow;
      entry = Contains-from_In (member_ids members) found.0.flow (map-In (λ (m : Member). m.flow) members found.0 found.1);
      way = (ways found.0.flow).0 found.2;
    })) (λ e. let any = law.0 e in
    let member = In-map (λ (m : Member). m.flow) members any.first (In-from_Contains (member_ids members) any.first any.entry) in
    list_any-from_In (λ (m : Member). leads flows apart id m.flow) members member.0 member.1
    (ap (leads flows apart id) (sym member.2) ∙ (ways any.first).1 any.way))
