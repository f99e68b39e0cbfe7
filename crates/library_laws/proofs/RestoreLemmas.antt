-- Rows put in order: two neighbours may change places before, and rows that rise stay as they are.
use Rattle.std.proofs.Common.{◌≡◌, ℕ, Bool, true, false, not, List, [], ◌∷◌, ◌++◌, map, refl, sym, ap, ◌∙◌, arith, nat_lt}
use Rattle.std.specs.Prelude.{◌==◌, nat_le}
use Rattle.std.specs.List.{list_all}
use Rattle.std.proofs.lemmas.Bool.{and_parts, and_from, cond-true, cond-false, ltb-true, ltb-false}
use Rattle.std.proofs.lemmas.Bool.Decides.{nat_tests}
use Rattle.media_rows.specs.declared.event.EventRow.{EventRow}
use Rattle.media_rows.specs.declared.flow.FlowRow.{FlowRow}
use Rattle.media_rows.specs.declared.hook.HookRow.{HookRow}
use Rattle.media_rows.specs.declared.object.ObjectRow.{ObjectRow}
use Rattle.media_rows.specs.declared.request.DeleteRow.{DeleteRow}
use Rattle.media_rows.specs.declared.source.SourceRow.{SourceRow}
use Rattle.media_rows.specs.Catalog.{source_before, flow_before}
use Rattle.media_rows.specs.Good.{Good, is_request_good}
use Rattle.media_rows.specs.Library.{Library}
use Rattle.media_rows.specs.Lists.{rises, are_distinct, inserted, in_order}
use Rattle.media_rows.specs.Requests.{done_count, done_kept}
use Rattle.library_laws.specs.Laws.{OwnBooks, BooksAreRestored}
use Rattle.library_laws.proofs.ListLemmas.{list_all-In, list_all-from_In}
use Rattle.library_laws.proofs.KeptLemmas.{Sub-append, Sub-behind, Sub-same, rises-Sub, rises-keys}
use Rattle.library_laws.proofs.OutboxKept.{Names-from}

-- rows by a number of theirs
abbrev pub before : {X : Type 0} → (X → ℕ) → X → X → Bool
before key a b = nat_lt (key a) (key b)

-- ---- one row put in

past : {X : Type 0} (key : X → ℕ) (x y : X) (ys : List X) → before key y x ≡ true → inserted (before key) x (y ∷ ys) ≡ y ∷ inserted (before key) x ys
past key x y ys e = cond-true (before key y x) (y ∷ inserted (before key) x ys) (x ∷ y ∷ ys) e

here : {X : Type 0} (key : X → ℕ) (x y : X) (ys : List X) → before key y x ≡ false → inserted (before key) x (y ∷ ys) ≡ x ∷ y ∷ ys
here key x y ys e = cond-false (before key y x) (y ∷ inserted (before key) x ys) (x ∷ y ∷ ys) e

not_both : (a b : ℕ) → nat_lt a b ≡ true → nat_lt b a ≡ false
not_both a b e = grind (arith, nat_tests)

one_of_both : (a b : ℕ) → nat_lt b a ≡ false → (a == b) ≡ false → nat_lt a b ≡ true
one_of_both a b e apart = grind (arith, nat_tests)

between : (x y z : ℕ) → nat_lt z x ≡ false → nat_lt z y ≡ true → nat_lt y x ≡ true → ⊥
between x y z a b c = let u = ltb-false z x a in let v = ltb-true z y b in let w = ltb-true y x c in omega arith

-- ---- two rows put in, of which one stands before the other

swap_past : {X : Type 0} (key : X → ℕ) (x y z : X) (zs : List X) (p q : Bool) → before key z x ≡ p → before key z y ≡ q → before key y x ≡ true
    → inserted (before key) x (inserted (before key) y zs) ≡ inserted (before key) y (inserted (before key) x zs)
    → inserted (before key) x (inserted (before key) y (z ∷ zs)) ≡ inserted (before key) y (inserted (before key) x (z ∷ zs))
swap_past key x y z zs true true zx zy yx rest =
    ap (inserted (before key) x) (past key y z zs zy) ∙ past key x z (inserted (before key) y zs) zx ∙ ap (λ l. z ∷ l) rest
    ∙ sym (past key y z (inserted (before key) x zs) zy) ∙ sym (ap (inserted (before key) y) (past key x z zs zx))
swap_past key x y z zs true false zx zy yx rest =
    ap (inserted (before key) x) (here key y z zs zy) ∙ past key x y (z ∷ zs) yx ∙ ap (λ l. y ∷ l) (past key x z zs zx)
    ∙ sym (here key y z (inserted (before key) x zs) zy) ∙ sym (ap (inserted (before key) y) (past key x z zs zx))
swap_past key x y z zs false true zx zy yx rest = absurd (between (key x) (key y) (key z) zx zy yx)
swap_past key x y z zs false false zx zy yx rest =
    ap (inserted (before key) x) (here key y z zs zy) ∙ past key x y (z ∷ zs) yx ∙ ap (λ l. y ∷ l) (here key x z zs zx)
    ∙ sym (here key y x (z ∷ zs) (not_both (key y) (key x) yx)) ∙ sym (ap (inserted (before key) y) (here key x z zs zx))

swap_below : {X : Type 0} (key : X → ℕ) (x y : X) (zs : List X) → before key y x ≡ true
    → inserted (before key) x (inserted (before key) y zs) ≡ inserted (before key) y (inserted (before key) x zs)
swap_below key x y [] e = past key x y [] e ∙ sym (here key y x [] (not_both (key y) (key x) e))
swap_below key x y (z ∷ zs) e = swap_past key x y z zs (before key z x) (before key z y) refl refl e (swap_below key x y zs e)

pub swap_two : {X : Type 0} (key : X → ℕ) (x y : X) (zs : List X) (b : Bool) → before key y x ≡ b → (key x == key y) ≡ false
    → inserted (before key) x (inserted (before key) y zs) ≡ inserted (before key) y (inserted (before key) x zs)
swap_two key x y zs true e apart = swap_below key x y zs e
swap_two key x y zs false e apart = sym (swap_below key y x zs (one_of_both (key x) (key y) e apart))

-- ---- whole lists

swap_any : {X : Type 0} (key : X → ℕ) (front : List X) (a b : X) (back : List X) → (key a == key b) ≡ false
    → in_order (before key) (front ++ a ∷ b ∷ back) ≡ in_order (before key) (front ++ b ∷ a ∷ back)
swap_any key [] a b back apart = swap_two key a b (in_order (before key) back) (before key b a) refl apart
swap_any key (x ∷ front) a b back apart = ap (inserted (before key) x) (swap_any key front a b back apart)

first_stays : {X : Type 0} (key : X → ℕ) (x : X) (xs : List X) → list_all (before key x) xs ≡ true → inserted (before key) x xs ≡ x ∷ xs
first_stays key x [] e = refl
first_stays key x (y ∷ ys) e = here key x y ys (not_both (key x) (key y) (and_parts (before key x y) (list_all (before key x) ys) e).0)

pub stays : {X : Type 0} (key : X → ℕ) (xs : List X) → rises (before key) xs ≡ true → in_order (before key) xs ≡ xs
stays key [] e = refl
stays key (x ∷ xs) e =
    let parts = and_parts (list_all (before key x) xs) (rises (before key) xs) e in
    ap (inserted (before key) x) (stays key xs parts.1) ∙ first_stays key x xs parts.0

-- keys of rows that rise are distinct
apart_from : (a b : ℕ) → nat_lt a b ≡ true → not (a == b) ≡ true
apart_from a b e = grind (arith, nat_tests)

pub apart_keys : {X : Type 0} (key : X → ℕ) (xs : List X) → rises (before key) xs ≡ true → rises (λ a b. not (key a == key b)) xs ≡ true
apart_keys key [] e = refl
apart_keys key (x ∷ xs) e =
    let parts = and_parts (list_all (before key x) xs) (rises (before key) xs) e in
    and_from (list_all (λ y. not (key x == key y)) xs) (rises (λ a b. not (key a == key b)) xs)
    (list_all-from_In (λ y. not (key x == key y)) xs (λ y there. apart_from (key x) (key y) (list_all-In (before key x) xs parts.0 y there)))
    (apart_keys key xs parts.1)

distinct_keys : {X : Type 0} (key : X → ℕ) (xs : List X) → rises (before key) xs ≡ true → are_distinct (map key xs) ≡ true
distinct_keys key xs e = rises-keys (λ a b. not (a == b)) key xs ∙ apart_keys key xs e

-- ---- the books

-- the serials of the outbox are distinct, as all serials are
outbox_distinct : (o s r h e : List ℕ) → are_distinct (o ++ s ++ r ++ h ++ e) ≡ true → are_distinct (h ++ e) ≡ true
outbox_distinct o s r h e is =
    rises-Sub (λ a b. not (a == b)) (h ++ e) (o ++ s ++ r ++ h ++ e)
    (Sub-append h (o ++ s ++ r ++ h) e e (Sub-behind (o ++ s ++ r) h h (Sub-same h)) (Sub-same e)) is

own_books : (library : Library) → Good library → OwnBooks library
own_books library good =
    let names = Names-from library good.names in
    let order = and_parts (rises source_before library.catalog.sources) (rises flow_before library.catalog.flows) names.catalog in
    let asked = and_parts (list_all (is_request_good library.catalog.flows library.segments) library.requests) (nat_le (done_count library.requests) done_kept)
    good.requests in
    record {
      sources = stays (λ (row : SourceRow). row.id) library.catalog.sources order.0;
      flows = stays (λ (row : FlowRow). row.body.id) library.catalog.flows order.1;
      objects = stays (λ (row : ObjectRow). row.serial) library.objects names.objects_rise;
      requests = stays (λ (row : DeleteRow). row.serial) library.requests names.requests_rise;
      hooks = stays (λ (row : HookRow). row.serial) library.outbox.hooks names.hooks_rise;
      events = stays (λ (row : EventRow). row.serial) library.outbox.events names.events_rise;
      can_catalog = and_from _ _ (and_from _ _ (distinct_keys (λ (row : SourceRow). row.id) library.catalog.sources order.0)
          (distinct_keys (λ (row : FlowRow). row.body.id) library.catalog.flows order.1)) (and_from _ _ good.sources good.collections);
      can_objects = and_from _ _ (and_from _ _ names.objects (distinct_keys (λ (row : ObjectRow). row.serial) library.objects names.objects_rise))
          good.references;
      can_requests = and_from _ _ (distinct_keys (λ (row : DeleteRow). row.serial) library.requests names.requests_rise) asked.1;
      can_outbox = and_from _ _ (and_from _ _ names.urls
          (outbox_distinct (map (λ row. row.serial) library.objects) (map (λ row. row.serial) library.segments) (map (λ row. row.serial) library.requests)
          (map (λ row. row.serial) library.outbox.hooks) (map (λ row. row.serial) library.outbox.events) names.serials.distinct)) good.outbox;
    }

pub books_are_restored : BooksAreRestored
books_are_restored = record {
  sources = record { swapped = λ front a b back apart. swap_any (λ (row : SourceRow). row.id) front a b back apart };
  flows = record { swapped = λ front a b back apart. swap_any (λ (row : FlowRow). row.body.id) front a b back apart };
  objects = record { swapped = λ front a b back apart. swap_any (λ (row : ObjectRow). row.serial) front a b back apart };
  requests = record { swapped = λ front a b back apart. swap_any (λ (row : DeleteRow). row.serial) front a b back apart };
  hooks = record { swapped = λ front a b back apart. swap_any (λ (row : HookRow). row.serial) front a b back apart };
  events = record { swapped = λ front a b back apart. swap_any (λ (row : EventRow). row.serial) front a b back apart };
  own = own_books;
}
