-- The last segments of flows, and flows that are kept.
use Rattle.std.proofs.Common.{◌≡◌, inl, ℕ, zero, suc, ℤ, ◌<◌, ◌+◌, ◌==◌, Bool, true, false, not, ◌&&◌, ◌||◌, cond, List, [], ◌∷◌, ◌++◌, Some, nat_lt, get_or, take, length, refl, sym, ap, subst, ◌∙◌, arith}
use Rattle.std.specs.List.{list_all}
use Rattle.std.proofs.lemmas.Bool.{and_parts, and_from}
use Rattle.std.proofs.lemmas.Bool.Decides.{nat_tests}
use Rattle.std.proofs.lemmas.Grind.{take_at_read}
use Rattle.media_rows.specs.declared.segment.SegmentRow.{SegmentRow}
use Rattle.media_rows.specs.Good.{rises_by}
use Rattle.media_rows.specs.Lists.{is_behind, rises}
use Rattle.media_rows.specs.Views.{id_key}
use Rattle.shared_tree.specs.Pairs.{value_at, with_pair}
use Rattle.id_index.proofs.Ids.{same_key}
use Rattle.id_index.proofs.Pairs.{value_at_with}
use Rattle.library_laws.proofs.ListLemmas.{In-take, list_all-In, list_all-from_In}
use Rattle.library_laws.proofs.KeptLemmas.{rises-parts}
use Rattle.core_restore.specs.Within.{AreLast, is_behind_flow}

-- ---- flows that are kept

-- ---- the last segments of flows

-- rows that rise do so as far as they go
rises-take : {X : Type 0} (t : X → X → Bool) (n : ℕ) (xs : List X) → rises t xs ≡ true → rises t (take n xs) ≡ true
rises-take t zero xs e = refl
rises-take t (suc n) [] e = refl
rises-take t (suc n) (x ∷ xs) e =
    let parts = and_parts (list_all (t x) xs) (rises t xs) e in
    and_from (list_all (t x) (take n xs)) (rises t (take n xs))
    (list_all-from_In (t x) (take n xs) (λ y here. list_all-In (t x) xs parts.0 y (In-take n xs y here))) (rises-take t n xs parts.1)

all_behind : {X : Type 0} (p : X → Bool) (xs : List X) (x : X) → list_all p (xs ++ x ∷ []) ≡ (list_all p xs && p x)
all_behind p [] x = at_end (p x)
  where
    at_end : (b : Bool) → (b && true) ≡ b
    at_end true = refl
    at_end false = refl
all_behind p (y ∷ xs) x = ap (λ (b : Bool). p y && b) (all_behind p xs x) ∙ grouped (p y) (list_all p xs) (p x)
  where
    grouped : (a b c : Bool) → (a && (b && c)) ≡ ((a && b) && c)
    grouped true b c = refl
    grouped false b c = refl

-- what lies behind the last one lies behind all before it
behind_front : (front : List SegmentRow) (row : SegmentRow) (flow serial : ℕ) → rises_by (λ row. row.serial) (front ++ row ∷ []) ≡ true
    → nat_lt row.serial serial ≡ true → is_behind_flow front flow serial ≡ true
behind_front front row flow serial rise e =
    let parts = rises-parts (λ (a b : SegmentRow). nat_lt a.serial b.serial) front (row ∷ []) rise in
    list_all-from_In (λ (s : SegmentRow). not (s.flow == flow) || nat_lt s.serial serial) front
    (λ s here. passes (s.flow == flow) s.serial row.serial serial (parts.across s row here (inl refl)) e)
  where
    passes : (b : Bool) (s last serial : ℕ) → nat_lt s last ≡ true → nat_lt last serial ≡ true → (not b || nat_lt s serial) ≡ true
    passes true s last serial f g = grind (arith, nat_tests)
    passes false s last serial f g = refl

-- a segment behind all others is the last one of its flow
one_later : (front : List SegmentRow) (row : SegmentRow) (last next : List (ℤ × ℕ)) → rises_by (λ row. row.serial) (front ++ row ∷ []) ≡ true
    → AreLast front last → next ≡ with_pair (id_key row.flow, row.serial) last → AreLast (front ++ row ∷ []) next
one_later front row last next rise was is flow serial =
    ap (λ ps. is_behind (value_at (id_key flow) ps) serial) is
    ∙ ap (λ o. is_behind o serial) (value_at_with (id_key flow) (id_key row.flow) row.serial last)
    ∙ ap (λ (b : Bool). is_behind (cond b (Some row.serial) (value_at (id_key flow) last)) serial) (sym (same_key flow row.flow) ∙ turn flow row.flow)
    ∙ by (row.flow == flow) refl (nat_lt row.serial serial) refl (was flow serial)
    ∙ sym (all_behind (λ (s : SegmentRow). not (s.flow == flow) || nat_lt s.serial serial) front row)
  where
    turn : (a b : ℕ) → (a == b) ≡ (b == a)
    turn a b = same (a == b) (b == a) refl refl
      where
        same : (p q : Bool) → (a == b) ≡ p → (b == a) ≡ q → (a == b) ≡ (b == a)
        same true true e f = e ∙ sym f
        same false false e f = e ∙ sym f
        same true false e f = absurd (grind (arith, nat_tests))
        same false true e f = absurd (grind (arith, nat_tests))

    kept : (b : Bool) → b ≡ (b && true)
    kept true = refl
    kept false = refl

    none : (b : Bool) → false ≡ (b && false)
    none true = refl
    none false = refl

    by : (b : Bool) → (row.flow == flow) ≡ b → (c : Bool) → nat_lt row.serial serial ≡ c
        → is_behind (value_at (id_key flow) last) serial ≡ is_behind_flow front flow serial
        → is_behind (cond b (Some row.serial) (value_at (id_key flow) last)) serial ≡ (is_behind_flow front flow serial && (not b || nat_lt row.serial serial))
    by false e c f rest = rest ∙ kept (is_behind_flow front flow serial)
    by true e true f rest = f ∙ sym (and_from (is_behind_flow front flow serial) (nat_lt row.serial serial) (behind_front front row flow serial rise f) f)
    by true e false f rest = rw f (none (is_behind_flow front flow serial))

pub last_step : (segments : List SegmentRow) (i : ℕ) (row : SegmentRow) (last next : List (ℤ × ℕ)) → rises_by (λ row. row.serial) segments ≡ true
    → i < length segments → row ≡ get_or segments i row → AreLast (take i segments) last → next ≡ with_pair (id_key row.flow, row.serial) last
    → AreLast (take (i + 1) segments) next
last_step segments i row last next rise lt at was is =
    let front : take (i + 1) segments ≡ take i segments ++ row ∷ [] = (take_at_read segments i row lt).1 ∙ ap (λ r. take i segments ++ r ∷ []) (sym at) in
    subst (λ l. AreLast l next) (sym front)
    (one_later (take i segments) row last next
    (ap (rises_by (λ (r : SegmentRow). r.serial)) (sym front) ∙ rises-take (λ (a b : SegmentRow). nat_lt a.serial b.serial) (i + 1) segments rise) was is)
