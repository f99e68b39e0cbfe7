-- As many steps through collections as there are flows find each flow that can be reached.
use Rattle.std.proofs.Common.{◌≡◌, ◌↔◌, ◌⊎◌, inl, inr, ℕ, zero, suc, ◌≤◌, ◌<◌, Bool, true, false, not, cond, List, [], filter, length, IsTrue, refl, sym, subst, arith}
use Rattle.std.proofs.lemmas.Bool.{cases_lt, false≢true}
use Rattle.std.proofs.lemmas.List.Filters.{length-filter_both}
use Rattle.media_rows.specs.declared.flow.FlowRow.{FlowRow}
use Rattle.media_rows.specs.declared.flow.Member.{Member}
use Rattle.media_rows.specs.Collections.{member_ids, collected_by_row, collected_by, one_step, reached, collects_itself, Collects, Reaches, there, through, AnyReaches}
use Rattle.media_rows.specs.Lists.{has_number}
use Rattle.library_laws.proofs.ListLemmas.{In, In-append, In-front, In-back, In-flat_map, flat_map-In, In-from_Contains, Contains-from_In, has_number-In, In-has_number, count-same}

-- ---- what one step adds

In-by_row : (b : Bool) (ids : List ℕ) (x : ℕ) → In x (cond b ids []) → (b ≡ true) × In x ids
In-by_row true ids x h = (refl, h)
In-by_row false ids x h = absurd h

-- a flow that these collect is collected by one of them
collected_from : (flows : List FlowRow) (ids : List ℕ) (x : ℕ) → In x (collected_by flows ids) → (from : ℕ) × In from ids × Collects flows from x
collected_from flows ids x h =
    let found = In-flat_map (collected_by_row ids) flows x h in
    let row = In-by_row (has_number found.0.body.id ids) (member_ids found.0.body.members) x found.2 in (
      found.0.body.id,
      has_number-In found.0.body.id ids row.0,
      record {
        row = found.0;
        kept = Contains-from_In flows found.0 found.1;
        row_is = refl;
        entry = Contains-from_In (member_ids found.0.body.members) x row.1;
      },
    )

by_row-In : (b : Bool) (ids : List ℕ) (x : ℕ) → b ≡ true → In x ids → In x (cond b ids [])
by_row-In true ids x e h = h
by_row-In false ids x e h = absurd (false≢true e)

-- and what one of them collects is among them
collected_to : (flows : List FlowRow) (ids : List ℕ) (from x : ℕ) → In from ids → Collects flows from x → In x (collected_by flows ids)
collected_to flows ids from x h c =
    flat_map-In (collected_by_row ids) flows c.row x (In-from_Contains flows c.row c.kept)
    (by_row-In (has_number c.row.body.id ids) (member_ids c.row.body.members) x (In-has_number c.row.body.id ids (subst (λ a. In a ids) (sym c.row_is) h))
    (In-from_Contains (member_ids c.row.body.members) x c.entry))

-- ---- what is found can be reached

longer : (flows : List FlowRow) (to next from : ℕ) → Collects flows next to → Reaches flows next from → Reaches flows to from
longer flows to next from c (there _ same) = through from to (subst (λ a. Collects flows a to) (sym same) c) (there to refl)
longer flows to next from c (through _ middle first way) = through from middle first (longer flows to next middle c way)

-- a way leads from one of these to a flow
record FromSome (flows : List FlowRow) (ids : List ℕ) (to : ℕ) : Type 0 where
  first : ℕ
  among : In first ids
  way : Reaches flows to first

found_reached : (steps : ℕ) (flows : List FlowRow) (ids : List ℕ) (x : ℕ) → In x (reached steps flows ids) → FromSome flows ids x
found_reached zero flows ids x h = record { first = x; among = h; way = there x refl }
found_reached (suc steps) flows ids x h =
    elim (In-append (reached steps flows ids) (collected_by flows (reached steps flows ids)) x h) [
      | inl before ↦ found_reached steps flows ids x before
      | inr added ↦
          let by = collected_from flows (reached steps flows ids) x added in
          let some = found_reached steps flows ids by.0 by.1 in
          record { first = some.first; among = some.among; way = longer flows x by.0 some.first by.2 some.way }
    ]

-- ---- what can be reached is found

-- what these collect is among them
record IsClosed (flows : List FlowRow) (ids : List ℕ) : Type 0 where
  closed : (from to : ℕ) → In from ids → Collects flows from to → In to ids

way_within : (flows : List FlowRow) (ids : List ℕ) → IsClosed flows ids → (to from : ℕ) → In from ids → Reaches flows to from → In to ids
way_within flows ids is to from h (there _ same) = subst (λ a. In a ids) same h
way_within flows ids is to from h (through _ next c way) = way_within flows ids is to next (is.closed from next h c) way

start_within : (steps : ℕ) (flows : List FlowRow) (ids : List ℕ) (x : ℕ) → In x ids → In x (reached steps flows ids)
start_within zero flows ids x h = h
start_within (suc steps) flows ids x h = In-front (reached steps flows ids) (collected_by flows (reached steps flows ids)) x (start_within steps flows ids x h)

-- the flows that are among these
found : List ℕ → FlowRow → Bool
found ids row = has_number row.body.id ids

more_found : (flows : List FlowRow) (ids : List ℕ) (row : FlowRow) → In row flows → found ids row ≡ true → found (one_step flows ids) row ≡ true
unfolding found
more_found flows ids row h e = In-has_number row.body.id (one_step flows ids)
    (In-front ids (collected_by flows ids) row.body.id (has_number-In row.body.id ids e))

-- a step that finds no further flow leaves a closed list
closed_step : (flows : List FlowRow) (ids : List ℕ) → length (filter (found (one_step flows ids)) flows) ≤ length (filter (found ids) flows)
    → IsClosed flows (one_step flows ids)
unfolding found
closed_step flows ids le = record {
  closed = λ from to h c.
      let was = count-same (found ids) (found (one_step flows ids)) flows (more_found flows ids) le c.row (In-from_Contains flows c.row c.kept)
      (In-has_number c.row.body.id (one_step flows ids) (subst (λ a. In a (one_step flows ids)) (sym c.row_is) h)) in
      In-back ids (collected_by flows ids) to (collected_to flows ids from to (subst (λ a. In a ids) c.row_is (has_number-In c.row.body.id ids was)) c);
}

-- a closed list stays closed
closed_stays : (flows : List FlowRow) (ids : List ℕ) → IsClosed flows ids → IsClosed flows (one_step flows ids)
closed_stays flows ids is = record {
  closed = λ from to h c.
      In-front ids (collected_by flows ids) to (elim (In-append ids (collected_by flows ids) from h) [
        | inl before ↦ is.closed from to before c
        | inr added ↦ let by = collected_from flows ids from added in is.closed from to (is.closed by.0 from by.1 by.2) c
      ]);
}

-- a list that finds no flow is closed
closed_none : (flows : List FlowRow) (ids : List ℕ) → length (filter (found ids) flows) ≤ 0 → IsClosed flows ids
unfolding found
closed_none flows ids le = record {
  closed = λ from to h c.
      absurd (false≢true (count-same (λ row. false) (found ids) flows (λ row here e. absurd (false≢true e)) (omega (arith, le)) c.row
      (In-from_Contains flows c.row c.kept)
      (In-has_number c.row.body.id ids (subst (λ a. In a ids) (sym c.row_is) h))));
}

-- after so many steps the list is closed, or has found more flows than steps were made
closed_or_more : (steps : ℕ) (flows : List FlowRow) (ids : List ℕ)
    → IsClosed flows (reached steps flows ids) ⊎ (steps < length (filter (found (reached steps flows ids)) flows))
closed_or_more zero flows ids =
    elim (cases_lt 0 (length (filter (found ids) flows))) [ inl some ↦ inr some | inr none ↦ inl (closed_none flows ids none) ]
closed_or_more (suc steps) flows ids =
    elim (closed_or_more steps flows ids) [
      | inl is ↦ inl (closed_stays flows (reached steps flows ids) is)
      | inr more ↦
          elim (cases_lt (length (filter (found (reached steps flows ids)) flows)) (length (filter (found (one_step flows (reached steps flows ids))) flows))) [
            | inl further ↦ inr (omega arith)
            | inr none ↦ inl (closed_step flows (reached steps flows ids) none)
          ]
    ]

closed_at_last : (flows : List FlowRow) (ids : List ℕ) → IsClosed flows (reached (length flows) flows ids)
closed_at_last flows ids =
    let seen : FlowRow → Bool = found (reached (length flows) flows ids) in
    elim (closed_or_more (length flows) flows ids) [
      | inl is ↦ is
      | inr more ↦ absurd (omega (arith, length-filter_both seen (λ row. not (seen row)) (λ row. refl) flows))
    ]

-- ---- the law

pub collects_itself_is : (flows : List FlowRow) (id : ℕ) (members : List Member) → IsTrue (collects_itself flows id members) ↔ AnyReaches flows members id
collects_itself_is flows id members = (
  λ e. let some = found_reached (length flows) flows (member_ids members) id (has_number-In id (reached (length flows) flows (member_ids members)) e) in
      record { first = some.first; entry = Contains-from_In (member_ids members) some.first some.among; way = some.way },
  λ any. In-has_number id (reached (length flows) flows (member_ids members))
      (way_within flows (reached (length flows) flows (member_ids members)) (closed_at_last flows (member_ids members)) id any.first
      (start_within (length flows) flows (member_ids members) any.first (In-from_Contains (member_ids members) any.first any.entry)) any.way),
)
