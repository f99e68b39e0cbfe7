-- Segments that stand by flow and first point are put in that order again from any other.
use Rattle.std.proofs.Common.{◌≡◌, inl, inr, ℕ, Bool, true, false, ◌&&◌, ◌||◌, List, [], ◌∷◌, nat_lt, refl, sym, ap, ◌∙◌, arith}
use Rattle.std.specs.Prelude.{◌==◌}
use Rattle.std.specs.List.{list_all}
use Rattle.std.proofs.lemmas.Bool.{and_parts, cond_both, false≢true}
use Rattle.std.proofs.lemmas.Bool.Decides.{nat_tests}
use Rattle.media_rows.specs.Lists.{rises, inserted, in_order}
use Rattle.media_rows.specs.Segments.{starts_before}
use Rattle.media_rows.specs.Snapshot.{segment_row_before}
use Rattle.library_laws.proofs.ListLemmas.{In, In-in_order, list_all-In}
use Rattle.library_laws.proofs.PageLemmas.{IsOrder, starts_in_order}
use Rattle.segment_book.proofs.Ordered.{here, swap_below}

module _ {X : Type 0} (t : X → X → Bool) (is : IsOrder t) where
  -- one that stands before all others comes to its place from any place
  from_any : (other : X → X → Bool) (x : X) (ys : List X) → ((y : X) → In y ys → t x y ≡ true)
      → in_order t (inserted other x ys) ≡ inserted t x (in_order t ys)
  from_any other x [] low = refl
  from_any other x (y ∷ ys) low =
      cond_both (other y x) (y ∷ inserted other x ys) (x ∷ y ∷ ys) (λ l. in_order t l ≡ inserted t x (inserted t y (in_order t ys)))
      (λ e. ap (inserted t y) (from_any other x ys (λ z there. low z (inr there))) ∙ swap_below t is y x (in_order t ys) (low y (inl refl))) (λ e. refl)

  first_stays : (x : X) (xs : List X) → list_all (t x) xs ≡ true → inserted t x xs ≡ x ∷ xs
  first_stays x [] e = refl
  first_stays x (y ∷ ys) e = here t is x y ys (is.one_way x y (and_parts (t x y) (list_all (t x) ys) e).0)

  -- what rises is the same once it was put in another order and back
  pub back : (other : X → X → Bool) (xs : List X) → rises t xs ≡ true → in_order t (in_order other xs) ≡ xs
  back other [] e = refl
  back other (x ∷ xs) e =
      let parts = and_parts (list_all (t x) xs) (rises t xs) e in
      from_any other x (in_order other xs) (λ y there. list_all-In (t x) xs parts.0 y (In-in_order other xs y there))
      ∙ ap (inserted t x) (back other xs parts.1) ∙ first_stays x xs parts.0

-- ---- segments by flow and first point

one_way : (a b : ℕ) (p q : Bool) → (p ≡ true → q ≡ false) → (nat_lt a b || ((a == b) && p)) ≡ true → (nat_lt b a || ((b == a) && q)) ≡ false
one_way a b true true h e = absurd (false≢true (sym (h refl)))
one_way a b true false h e = grind (arith, nat_tests)
one_way a b false q h e = grind (arith, nat_tests)

passes_on : (x y z : ℕ) (p q r : Bool) → (p ≡ false → q ≡ false → r ≡ false) → (nat_lt y x || ((y == x) && p)) ≡ false
    → (nat_lt z y || ((z == y) && q)) ≡ false → (nat_lt z x || ((z == x) && r)) ≡ false
passes_on x y z false false false h e f = grind (arith, nat_tests)
passes_on x y z false false true h e f = absurd (false≢true (sym (h refl refl)))
passes_on x y z true q r h e f = grind (arith, nat_tests)
passes_on x y z false true r h e f = grind (arith, nat_tests)

pub by_flow : IsOrder segment_row_before
by_flow = record {
  one_way = λ a b. one_way a.flow b.flow (starts_before a b) (starts_before b a) (starts_in_order.one_way a b);
  passes_on = λ a b c. passes_on a.flow b.flow c.flow (starts_before b a) (starts_before c b) (starts_before c a) (starts_in_order.passes_on a b c);
}
