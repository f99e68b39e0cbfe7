-- A step removes at most 32 segments, and a sweep at most 16 objects.
use Rattle.std.proofs.Common.{◌≡◌, inl, inr, ℕ, suc, ◌+◌, ◌≤◌, Bool, true, false, not, ◌||◌, cond, List, [], ◌∷◌, filter, length, nat_lt, Option, Some, None, refl, ap, ◌∙◌, arith}
use Rattle.std.specs.Prelude.{◌==◌}
use Rattle.std.specs.List.{list_any, list_all}
use Rattle.std.proofs.lemmas.Bool.{and_parts, ltb-true, eqb-true, ne_eqb, cond_both}
use Rattle.std.proofs.lemmas.List.Filters.{length-filter_both}
use Rattle.media_rows.specs.declared.request.DeleteRow.{DeleteRow}
use Rattle.media_rows.specs.declared.segment.SegmentRow.{SegmentRow}
use Rattle.media_rows.specs.declared.object.ObjectRow.{ObjectRow}
use Rattle.media_rows.specs.Catalog.{after_touch}
use Rattle.media_rows.specs.Changes.{touch_flow, with_step, after_request_step, after_step_of, is_flow_gone}
use Rattle.media_rows.specs.Good.{Good}
use Rattle.media_rows.specs.Library.{Library}
use Rattle.media_rows.specs.Lists.{rises}
use Rattle.media_rows.specs.Objects.{due_objects, swept_objects}
use Rattle.media_rows.specs.Requests.{first_unfinished, requested, removed_by_step}
use Rattle.media_rows.specs.Segments.{without_segments}
use Rattle.library_laws.specs.Laws.{TurnsAreBounded}
use Rattle.library_laws.proofs.ListLemmas.{In, list_all-In, length-take_most}
use Rattle.library_laws.proofs.OutboxKept.{Names-from}

-- ---- how many items of given keys a list has

count_or : (a b : Bool) (x y z : ℕ) → z ≤ x + y → cond (a || b) (suc z) z ≤ cond a (suc x) x + cond b (suc y) y
count_or true true x y z le = omega arith
count_or true false x y z le = omega arith
count_or false true x y z le = omega arith
count_or false false x y z le = le

length-cond : {X : Type 0} (b : Bool) (x : X) (xs : List X) → length (cond b (x ∷ xs) xs) ≡ cond b (suc (length xs)) (length xs)
length-cond true x xs = refl
length-cond false x xs = refl

-- what passes one of two tests is counted by both
count-or : {X : Type 0} (p q : X → Bool) (xs : List X) → length (filter (λ x. p x || q x) xs) ≤ length (filter p xs) + length (filter q xs)
count-or p q [] = omega arith
count-or p q (x ∷ xs) =
    let rest = count_or (p x) (q x) (length (filter p xs)) (length (filter q xs)) (length (filter (λ y. p y || q y) xs)) (count-or p q xs) in
    omega (arith, rest, length-cond (p x || q x) x (filter (λ y. p y || q y) xs), length-cond (p x) x (filter p xs), length-cond (q x) x (filter q xs))

-- a key that no item has
count-none : {X : Type 0} (key : X → ℕ) (k : ℕ) (xs : List X) → ((x : X) → In x xs → k ≡ key x → ⊥) → length (filter (λ x. k == key x) xs) ≡ 0
count-none key k [] apart = refl
count-none key k (x ∷ xs) apart = ap (λ b. length (cond b (x ∷ filter (λ y. k == key y) xs) (filter (λ y. k == key y) xs)))
    (ne_eqb k (key x) (apart x (inl refl))) ∙ count-none key k xs (λ y here. apart y (inr here))

one_step : {X : Type 0} (b : Bool) (x : X) (rest : List X) → length rest ≤ 1 → (b ≡ true → length rest ≡ 0) → length (cond b (x ∷ rest) rest) ≤ 1
one_step true x rest le none = let e = none refl in omega arith
one_step false x rest le none = le

-- a list by rising keys has at most one item of a key
count-one : {X : Type 0} (key : X → ℕ) (k : ℕ) (xs : List X) → rises (λ a b. nat_lt (key a) (key b)) xs ≡ true → length (filter (λ x. k == key x) xs) ≤ 1
count-one key k [] e = omega arith
count-one key k (x ∷ xs) e =
    let parts = and_parts (list_all (λ y. nat_lt (key x) (key y)) xs) (rises (λ a b. nat_lt (key a) (key b)) xs) e in
    one_step (k == key x) x (filter (λ y. k == key y) xs) (count-one key k xs parts.1)
    (λ same. count-none key k xs (λ y here is.
    let low = ltb-true (key x) (key y) (list_all-In (λ z. nat_lt (key x) (key z)) xs parts.0 y here) in
    let at = eqb-true k (key x) same in
    absurd (omega arith)))

none_pass : {X : Type 0} (xs : List X) → length (filter (λ x. false) xs) ≡ 0
none_pass [] = refl
none_pass (x ∷ xs) = none_pass xs

-- and of several keys at most as many items
count-keys : {X : Type 0} (key : X → ℕ) (gone xs : List X) → rises (λ a b. nat_lt (key a) (key b)) xs ≡ true
    → length (filter (λ x. list_any (λ g. key g == key x) gone) xs) ≤ length gone
count-keys key [] xs e = omega (arith, none_pass xs)
count-keys key (g ∷ gs) xs e =
    omega (arith, count-or (λ x. key g == key x) (λ x. list_any (λ h. key h == key x) gs) xs, count-one key (key g) xs e, count-keys key gs xs e)

-- a list loses at most as many items as it is told to lose
lost : {X : Type 0} (key : X → ℕ) (gone xs : List X) → rises (λ a b. nat_lt (key a) (key b)) xs ≡ true
    → length xs ≤ length (filter (λ x. not (list_any (λ g. key g == key x) gone)) xs) + length gone
lost key gone xs e =
    omega (
      arith,
      length-filter_both (λ x. list_any (λ g. key g == key x) gone) (λ x. not (list_any (λ g. key g == key x) gone)) (λ x. refl) xs,
      count-keys key
          gone xs e,
    )

-- ---- steps

end_segments : (gone : Bool) (one other : Library) (segments : List SegmentRow) → one.segments ≡ segments → other.segments ≡ segments
    → (cond gone one other).segments ≡ segments
end_segments true one other segments e k = e
end_segments false one other segments e k = k

-- the segments that a step leaves
left_by_step : (library : Library) (request : DeleteRow) (moment : ℕ) → (after_request_step moment request library).segments
    ≡ without_segments (removed_by_step library.segments request) library.segments
left_by_step library request moment =
    let removed : List SegmentRow = removed_by_step library.segments request in
    let touched : (touch_flow request.flow removed moment (with_step request moment library)).segments ≡ library.segments =
    cond_both (length removed == 0) (with_step request moment library)
    (record (with_step request moment library) { catalog = after_touch request.flow moment library.catalog }) (λ (l : Library). l.segments ≡ library.segments)
    (λ e. refl) (λ e. refl) in
    end_segments (is_flow_gone request library) _ _ (without_segments removed library.segments) (ap (without_segments removed) touched)
    (ap (without_segments removed) touched)

step_bounded : (library : Library) (moment : ℕ) → Good library → (o : Option DeleteRow)
    → length library.segments ≤ length (after_step_of o moment library).segments + 32
step_bounded library moment good None = omega arith
step_bounded library moment good (Some request) =
    omega (
      arith,
      lost (λ (s : SegmentRow). s.serial) (removed_by_step library.segments request) library.segments (Names-from library good.names).segments_rise,
      length-take_most 32 (requested library.segments request),
      ap length (left_by_step library request moment),
    )

pub turns_bounded : TurnsAreBounded
turns_bounded library moment good = record {
  deleted = step_bounded library moment good (first_unfinished library.requests);
  swept = omega (
    arith,
    lost (λ (o : ObjectRow). o.serial) (swept_objects library.segments library.objects moment) library.objects (Names-from library good.names).objects_rise,
    length-take_most 16 (due_objects library.segments library.objects moment),
  );
}
