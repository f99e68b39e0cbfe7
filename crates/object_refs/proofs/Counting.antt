-- What changes of counts make of the flows that they stand for.
use Rattle.std.proofs.Common.{◌≡◌, ℕ, zero, suc, ℤ, ◌+◌, ◌-◌, ◌<◌, ◌≤◌, ◌<ℤ◌, nat_lt, int_lt, Bool, true, false, cond, List, [], ◌∷◌, ◌++◌, Some, None, length, replicate, refl, sym, ap, subst, ◌∙◌, arith, length-append, negsuc, ◌^◌, ◌≤ℤ◌, map}
use Rattle.std.specs.List.{AllByRecursion}
use Rattle.std.proofs.lemmas.Int.{ints}
use Rattle.media_rows.specs.Lists.{inserted, placed, placed_all}
use Rattle.media_rows.specs.Views.{id_key}
use Rattle.shared_tree.specs.Pairs.{IsRising, value_at, with_pair, without_key, values}
use Rattle.shared_tree.specs.Rows.{IsKeyedBy}
use Rattle.shared_tree.proofs.Counted.{all_append}
use Rattle.shared_tree.proofs.Rows.{keyed_with, keyed_without}
use Rattle.shared_tree.proofs.Rising.{Around, all_map, cut_at, cut_right, put_at, put_left, put_right, filter_all, filter_none}
use Rattle.object_refs.specs.References.{less_one}
use Rattle.object_refs.specs.declared.flows.FlowCount.{FlowCount}
use Rattle.object_refs.specs.Within.Counts.{AreCounts, flow_count, count_key, flows_counted, recounted, times_of}
use Rattle.object_refs.proofs.Looks.{all_with, all_without, below_differs, is_same, looked_below, looked_here, looked_past, not_lower, is_lower}
use Rattle.object_refs.proofs.Numbers.{above_other, below_other, eq_true, lower_key, lt_false, lt_true, same_number}

inserted_past : (x y c : ℕ) (zs : List ℕ) → y < x → inserted nat_lt x (replicate c y ++ zs) ≡ replicate c y ++ inserted nat_lt x zs
inserted_past x y zero zs lt = refl
inserted_past x y (suc c) zs lt = rw (lt_true y x lt) (ap (λ l. y ∷ l) (inserted_past x y c zs lt))

inserted_front : (x : ℕ) (ys : List ℕ) → AllByRecursion (λ y. x ≤ y) ys → inserted nat_lt x ys ≡ x ∷ ys
inserted_front x [] h = refl
inserted_front x (y ∷ ys) h = rw (lt_false y x h.0) refl

less_past : (x y c : ℕ) (zs : List ℕ) → y < x → less_one x (replicate c y ++ zs) ≡ replicate c y ++ less_one x zs
less_past x y zero zs lt = refl
less_past x y (suc c) zs lt = rw (below_other y x lt) (ap (λ l. y ∷ l) (less_past x y c zs lt))

less_none : (x : ℕ) (ys : List ℕ) → AllByRecursion (λ y. x < y) ys → less_one x ys ≡ ys
less_none x [] h = refl
less_none x (y ∷ ys) h = rw (above_other y x h.0) (ap (λ l. y ∷ l) (less_none x ys h.1))

all_replicate : (P : ℕ → Type 0) (c y : ℕ) → P y → AllByRecursion P (replicate c y)
all_replicate P zero y h = tt
all_replicate P (suc c) y h = (h, all_replicate P c y h)

pub all_counted : (P : ℕ → Type 0) (ps : List (ℤ × FlowCount)) → AllByRecursion (λ p. P p.1.flow) ps → AllByRecursion P (flows_counted ps)
all_counted P [] h = tt
all_counted P (p ∷ ps) h = all_append P (replicate p.1.count p.1.flow) (flows_counted ps) (all_replicate P p.1.count p.1.flow h.0) (all_counted P ps h.1)

-- the flows of later pairs are above this one's, as their keys are
pub later_flows : (p : ℤ × FlowCount) (rest : List (ℤ × FlowCount)) → IsRising (p ∷ rest) → IsKeyedBy count_key (p ∷ rest)
    → AllByRecursion (λ q. p.1.flow < q.1.flow) rest
later_flows p rest rising keyed = both rest rising.0 keyed.1
  where
    both : (qs : List (ℤ × FlowCount)) → AllByRecursion (λ q. p.0 <ℤ q.0) qs → IsKeyedBy count_key qs → AllByRecursion (λ q. p.1.flow < q.1.flow) qs
    both [] lt k = tt
    both (q ∷ qs) lt k = (lower_key p.1.flow q.1.flow (subst (λ b. id_key p.1.flow <ℤ b) k.0 (subst (λ a. a <ℤ q.0) keyed.0 lt.0)), both qs lt.1 k.1)

first_around : {V : Type 0} (p : ℤ × V) (rest : List (ℤ × V)) → IsRising (p ∷ rest) → Around [] p rest
first_around p rest rising = record { left = tt; right = rising.1; before = tt; behind = rising.0 }

abbrev Pairs : Type 0
Pairs = List (ℤ × FlowCount)

-- where a flow stands to the first of the counts
pub data Stands (flow : ℕ) (p : ℤ × FlowCount) (rest : Pairs) : Type 0 where
  behind : p.1.flow < flow → p.0 <ℤ id_key flow → value_at (id_key flow) (p ∷ rest) ≡ value_at (id_key flow) rest → Stands flow p rest
  here : id_key flow ≡ p.0 → p.1.flow ≡ flow → value_at (id_key flow) (p ∷ rest) ≡ Some p.1 → Stands flow p rest
  ahead : flow < p.1.flow → id_key flow <ℤ p.0 → value_at (id_key flow) (p ∷ rest) ≡ None → Stands flow p rest

pub stands : (flow : ℕ) (p : ℤ × FlowCount) (rest : Pairs) → IsRising (p ∷ rest) → IsKeyedBy count_key (p ∷ rest) → Stands flow p rest
stands flow p rest rising keyed = by (int_lt p.0 (id_key flow)) (int_lt (id_key flow) p.0) refl refl
  where
    key : ℤ
    key = id_key flow

    by : (b a : Bool) → int_lt p.0 key ≡ b → int_lt key p.0 ≡ a → Stands flow p rest
    by true a eb ea =
        let lt = is_lower p.0 key eb in
        behind (lower_key p.1.flow flow (subst (λ k. k <ℤ key) keyed.0 lt)) lt (looked_past key p rest (below_differs p.0 key lt))
    by false true eb ea =
        let lt = is_lower key p.0 ea in
        ahead (lower_key flow p.1.flow (subst (λ k. key <ℤ k) keyed.0 lt)) lt
        (looked_below key (p ∷ rest) (lt, all_map (λ q. p.0 <ℤ q.0) (λ q. key <ℤ q.0) (λ q l. omega (arith, ints, l, lt)) rest rising.0))
    by false false eb ea =
        let same = not_lower p.0 key eb ea in
        here (sym same) (same_number p.1.flow flow (sym keyed.0 ∙ same)) (looked_here key p rest (is_same p.0 key same))

-- one reference more
pub one_more : (flow n : ℕ) (ps : Pairs) → IsRising ps → IsKeyedBy count_key ps → times_of (value_at (id_key flow) ps) ≡ n
    → flows_counted (with_pair (id_key flow, flow_count flow (suc n)) ps) ≡ inserted nat_lt flow (flows_counted ps)
one_more flow n [] rising keyed e = rw (sym e) refl
one_more flow n (p ∷ rest) rising keyed e = by (stands flow p rest rising keyed) (λ e'. one_more flow n rest rising.1 keyed.1 e')
  where
    key : ℤ
    key = id_key flow

    around : Around [] p rest
    around = first_around p rest rising

    over : AllByRecursion (λ q. p.1.flow < q) (flows_counted rest)
    over = all_counted (λ f. p.1.flow < f) rest (later_flows p rest rising keyed)

    by : Stands flow p rest
        → (times_of (value_at key rest) ≡ n → flows_counted (with_pair (key, flow_count flow (suc n)) rest) ≡ inserted nat_lt flow (flows_counted rest))
        → flows_counted (with_pair (key, flow_count flow (suc n)) (p ∷ rest)) ≡ inserted nat_lt flow (flows_counted (p ∷ rest))
    by (behind below lt look) ih =
        ap flows_counted (put_right key (flow_count flow (suc n)) [] p rest around lt)
        ∙ ap (λ l. replicate p.1.count p.1.flow ++ l) (ih (ap times_of (sym look) ∙ e))
        ∙ sym (inserted_past flow p.1.flow p.1.count (flows_counted rest) below)
    by (here same flow_is look) ih =
        let n_is : p.1.count ≡ n = ap times_of (sym look) ∙ e in
        ap flows_counted (put_at key (flow_count flow (suc n)) [] p rest around same)
        ∙ ap (λ c. flow ∷ (replicate c flow ++ flows_counted rest)) (sym n_is)
        ∙ ap (λ f. flow ∷ (replicate p.1.count f ++ flows_counted rest)) (sym flow_is)
        ∙ sym (inserted_front flow (flows_counted (p ∷ rest))
        (all_append (λ f. flow ≤ f) (replicate p.1.count p.1.flow) (flows_counted rest)
        (all_replicate (λ f. flow ≤ f) p.1.count p.1.flow (omega (arith, flow_is)))
        (all_map (λ f. p.1.flow < f) (λ f. flow ≤ f) (λ f lt. omega (arith, lt, flow_is)) (flows_counted rest) over)))
    by (ahead above lt look) ih =
        let n_is : 0 ≡ n = ap times_of (sym look) ∙ e in
        ap flows_counted (put_left key (flow_count flow (suc n)) [] p rest around lt)
        ∙ ap (λ c. flow ∷ (replicate c flow ++ flows_counted (p ∷ rest))) (sym n_is)
        ∙ sym (inserted_front flow (flows_counted (p ∷ rest))
        (all_append (λ f. flow ≤ f) (replicate p.1.count p.1.flow) (flows_counted rest)
        (all_replicate (λ f. flow ≤ f) p.1.count p.1.flow (omega (arith, above)))
        (all_map (λ f. p.1.flow < f) (λ f. flow ≤ f) (λ f l. omega (arith, l, above)) (flows_counted rest) over)))

-- one reference less, where there are further ones
pub one_less : (flow n : ℕ) (ps : Pairs) → IsRising ps → IsKeyedBy count_key ps → times_of (value_at (id_key flow) ps) ≡ suc n
    → flows_counted (with_pair (id_key flow, flow_count flow n) ps) ≡ less_one flow (flows_counted ps)
one_less flow n [] rising keyed e = absurd (omega (arith, e))
one_less flow n (p ∷ rest) rising keyed e = by (stands flow p rest rising keyed) (λ e'. one_less flow n rest rising.1 keyed.1 e')
  where
    key : ℤ
    key = id_key flow

    by : Stands flow p rest
        → (times_of (value_at key rest) ≡ suc n → flows_counted (with_pair (key, flow_count flow n) rest) ≡ less_one flow (flows_counted rest))
        → flows_counted (with_pair (key, flow_count flow n) (p ∷ rest)) ≡ less_one flow (flows_counted (p ∷ rest))
    by (behind below lt look) ih =
        ap flows_counted (put_right key (flow_count flow n) [] p rest (first_around p rest rising) lt)
        ∙ ap (λ l. replicate p.1.count p.1.flow ++ l) (ih (ap times_of (sym look) ∙ e))
        ∙ sym (less_past flow p.1.flow p.1.count (flows_counted rest) below)
    by (here same flow_is look) ih =
        let n_is : p.1.count ≡ suc n = ap times_of (sym look) ∙ e in
        ap flows_counted (put_at key (flow_count flow n) [] p rest (first_around p rest rising) same)
        ∙ sym (taken flow flow n (flows_counted rest) refl)
        ∙ ap (λ f. less_one flow (replicate (suc n) f ++ flows_counted rest)) (sym flow_is)
        ∙ ap (λ c. less_one flow (replicate c p.1.flow ++ flows_counted rest)) (sym n_is)
      where
        taken : (f g m : ℕ) (l : List ℕ) → g ≡ f → less_one f (g ∷ (replicate m g ++ l)) ≡ replicate m g ++ l
        taken f g m l same' = rw (eq_true g f same') refl
    by (ahead above lt look) ih = absurd (let none = ap times_of (sym look) ∙ e in omega (arith, none))

-- the last one
pub last_one : (flow : ℕ) (ps : Pairs) → IsRising ps → IsKeyedBy count_key ps → times_of (value_at (id_key flow) ps) ≡ 1
    → flows_counted (without_key (id_key flow) ps) ≡ less_one flow (flows_counted ps)
last_one flow [] rising keyed e = absurd (omega (arith, e))
last_one flow (p ∷ rest) rising keyed e = by (stands flow p rest rising keyed) (λ e'. last_one flow rest rising.1 keyed.1 e')
  where
    key : ℤ
    key = id_key flow

    by : Stands flow p rest → (times_of (value_at key rest) ≡ 1 → flows_counted (without_key key rest) ≡ less_one flow (flows_counted rest))
        → flows_counted (without_key key (p ∷ rest)) ≡ less_one flow (flows_counted (p ∷ rest))
    by (behind below lt look) ih =
        ap flows_counted (cut_right key [] p rest (first_around p rest rising) lt)
        ∙ ap (λ l. replicate p.1.count p.1.flow ++ l) (ih (ap times_of (sym look) ∙ e))
        ∙ sym (less_past flow p.1.flow p.1.count (flows_counted rest) below)
    by (here same flow_is look) ih =
        let n_is : p.1.count ≡ 1 = ap times_of (sym look) ∙ e in
        ap flows_counted (cut_at key [] p rest (first_around p rest rising) same)
        ∙ sym (taken flow (flows_counted rest))
        ∙ ap (λ f. less_one flow (replicate 1 f ++ flows_counted rest)) (sym flow_is)
        ∙ ap (λ c. less_one flow (replicate c p.1.flow ++ flows_counted rest)) (sym n_is)
      where
        taken : (f : ℕ) (l : List ℕ) → less_one f (f ∷ l) ≡ l
        taken f l = rw (eq_true f f refl) refl
    by (ahead above lt look) ih = absurd (let none = ap times_of (sym look) ∙ e in omega (arith, none))

-- none to take
pub no_less : (flow : ℕ) (ps : Pairs) → IsRising ps → IsKeyedBy count_key ps → AllByRecursion (λ p. 1 ≤ p.1.count) ps
    → times_of (value_at (id_key flow) ps) ≡ 0 → less_one flow (flows_counted ps) ≡ flows_counted ps
no_less flow [] rising keyed filled e = refl
no_less flow (p ∷ rest) rising keyed filled e = by (stands flow p rest rising keyed) (λ e'. no_less flow rest rising.1 keyed.1 filled.1 e')
  where
    by : Stands flow p rest → (times_of (value_at (id_key flow) rest) ≡ 0 → less_one flow (flows_counted rest) ≡ flows_counted rest)
        → less_one flow (flows_counted (p ∷ rest)) ≡ flows_counted (p ∷ rest)
    by (behind below lt look) ih =
        less_past flow p.1.flow p.1.count (flows_counted rest) below
        ∙ ap (λ l. replicate p.1.count p.1.flow ++ l) (ih (ap times_of (sym look) ∙ e))
    by (here same flow_is look) ih = absurd (let none : p.1.count ≡ 0 = ap times_of (sym look) ∙ e in let some = filled.0 in omega (arith, none, some))
    by (ahead above lt look) ih =
        less_none flow (flows_counted (p ∷ rest))
        (all_append (λ f. flow < f) (replicate p.1.count p.1.flow) (flows_counted rest) (all_replicate (λ f. flow < f) p.1.count p.1.flow above)
        (all_map (λ f. p.1.flow < f) (λ f. flow < f) (λ f l. omega (arith, l, above)) (flows_counted rest)
        (all_counted (λ f. p.1.flow < f) rest (later_flows p rest rising keyed))))

-- ---- how many there are

inserted_length : (x : ℕ) (ys : List ℕ) → length (inserted nat_lt x ys) ≡ suc (length ys)
inserted_length x [] = refl
inserted_length x (y ∷ ys) = by (nat_lt y x) (inserted_length x ys)
  where
    by : (t : Bool) → length (inserted nat_lt x ys) ≡ suc (length ys) → length (cond t (y ∷ inserted nat_lt x ys) (x ∷ y ∷ ys)) ≡ suc (suc (length ys))
    by true ih = ap suc ih
    by false ih = refl

less_length : (flow n : ℕ) (ps : Pairs) → IsRising ps → IsKeyedBy count_key ps → times_of (value_at (id_key flow) ps) ≡ suc n
    → length (flows_counted ps) ≡ suc (length (less_one flow (flows_counted ps)))
less_length flow n [] rising keyed e = absurd (omega (arith, e))
less_length flow n (p ∷ rest) rising keyed e = by (stands flow p rest rising keyed) (λ e'. less_length flow n rest rising.1 keyed.1 e')
  where
    by : Stands flow p rest
        → (times_of (value_at (id_key flow) rest) ≡ suc n → length (flows_counted rest) ≡ suc (length (less_one flow (flows_counted rest))))
        → length (flows_counted (p ∷ rest)) ≡ suc (length (less_one flow (flows_counted (p ∷ rest))))
    by (behind below lt look) ih =
        let fewer = ih (ap times_of (sym look) ∙ e) in
        rw (
          less_past flow p.1.flow p.1.count (flows_counted rest) below,
          length-append (replicate p.1.count p.1.flow) (flows_counted rest),
          length-append
              (replicate p.1.count p.1.flow) (less_one flow (flows_counted rest)),
        )
        (omega (arith, fewer))
    by (here same flow_is look) ih =
        let n_is : p.1.count ≡ suc n = ap times_of (sym look) ∙ e in
        rw n_is (taken (flows_counted rest) flow_is)
      where
        taken : (l : List ℕ) → p.1.flow ≡ flow
            → length (p.1.flow ∷ (replicate n p.1.flow ++ l)) ≡ suc (length (less_one flow (p.1.flow ∷ (replicate n p.1.flow ++ l))))
        taken l same' = rw (eq_true p.1.flow flow same') refl
    by (ahead above lt look) ih = absurd (let none = ap times_of (sym look) ∙ e in omega (arith, none))

-- ---- what a change keeps

pub more_flows : (flow total n : ℕ) (ps next : Pairs) → IsRising ps → AreCounts ps total → n ≡ times_of (value_at (id_key flow) ps)
    → next ≡ recounted flow (suc n) ps → flows_counted next ≡ inserted nat_lt flow (flows_counted ps)
more_flows flow total n ps next rising counts e is = ap flows_counted is ∙ one_more flow n ps rising counts.keyed (sym e)

keyed_again : (flow n : ℕ) (ps : Pairs) → IsKeyedBy count_key ps → IsKeyedBy count_key (recounted flow n ps)
keyed_again flow zero ps keyed = keyed_without count_key (id_key flow) ps keyed
keyed_again flow (suc n) ps keyed = keyed_with count_key (id_key flow) (flow_count flow (suc n)) ps refl keyed

filled_again : (flow n : ℕ) (ps : Pairs) → AllByRecursion (λ p. 1 ≤ p.1.count) ps → AllByRecursion (λ p. 1 ≤ p.1.count) (recounted flow n ps)
filled_again flow zero ps filled = all_without (λ p. 1 ≤ p.1.count) (id_key flow) ps filled
filled_again flow (suc n) ps filled = all_with (λ p. 1 ≤ p.1.count) (id_key flow) (flow_count flow (suc n)) ps (omega arith) filled

pub more_follows : (flow total n : ℕ) (ps next : Pairs) → IsRising ps → AreCounts ps total → n ≡ times_of (value_at (id_key flow) ps)
    → next ≡ recounted flow (suc n) ps → AreCounts next (total + 1)
more_follows flow total n ps next rising counts e is =
    let size = ap length (more_flows flow total n ps next rising counts e is) ∙ inserted_length flow (flows_counted ps) in
    record {
      keyed = subst (IsKeyedBy count_key) (sym is) (keyed_again flow (suc n) ps counts.keyed);
      filled = subst (AllByRecursion (λ p. 1 ≤ p.1.count)) (sym is) (filled_again flow (suc n) ps counts.filled);
      total = omega (arith, size, counts.total);
    }

pub less_flows : (flow total n : ℕ) (ps next : Pairs) → IsRising ps → AreCounts ps total → suc n ≡ times_of (value_at (id_key flow) ps)
    → next ≡ recounted flow n ps → flows_counted next ≡ less_one flow (flows_counted ps)
less_flows flow total zero ps next rising counts e is = ap flows_counted is ∙ last_one flow ps rising counts.keyed (sym e)
less_flows flow total (suc n) ps next rising counts e is = ap flows_counted is ∙ one_less flow (suc n) ps rising counts.keyed (sym e)

pub less_counted : (flow total n : ℕ) (ps : Pairs) → IsRising ps → AreCounts ps total → suc n ≡ times_of (value_at (id_key flow) ps) → 1 ≤ total
less_counted flow total n ps rising counts e = let size = less_length flow n ps rising counts.keyed (sym e) in omega (arith, size, counts.total)

pub less_follows : (flow total n : ℕ) (ps next : Pairs) → IsRising ps → AreCounts ps total → suc n ≡ times_of (value_at (id_key flow) ps)
    → next ≡ recounted flow n ps → AreCounts next (total - 1)
less_follows flow total n ps next rising counts e is =
    let same = ap length (less_flows flow total n ps next rising counts e is) in
    let size = less_length flow n ps rising counts.keyed (sym e) in
    record {
      keyed = subst (IsKeyedBy count_key) (sym is) (keyed_again flow n ps counts.keyed);
      filled = subst (AllByRecursion (λ p. 1 ≤ p.1.count)) (sym is) (filled_again flow n ps counts.filled);
      total = omega (arith, size, same, counts.total);
    }

pub none_left : (flow total n : ℕ) (ps : Pairs) → IsRising ps → AreCounts ps total → n ≡ times_of (value_at (id_key flow) ps) → n ≡ 0
    → less_one flow (flows_counted ps) ≡ flows_counted ps
none_left flow total n ps rising counts e none = no_less flow ps rising counts.keyed counts.filled (sym e ∙ none)

-- ---- each flow once

placed_front : (x : ℕ) (ys : List ℕ) → AllByRecursion (λ y. x < y) ys → placed nat_lt x ys ≡ x ∷ ys
placed_front x ys h =
    rw (
      filter_none (λ y. nat_lt y x) ys (all_map (λ y. x < y) (λ y. nat_lt y x ≡ false) (λ y lt. lt_false y x (omega (arith, lt))) ys h),
      filter_all
          (λ y. nat_lt x y) ys (all_map (λ y. x < y) (λ y. nat_lt x y ≡ true) (λ y lt. lt_true x y lt) ys h),
    )
    refl

placed_again : (x : ℕ) (ys : List ℕ) → AllByRecursion (λ y. x < y) ys → placed nat_lt x (x ∷ ys) ≡ x ∷ ys
placed_again x ys h = rw (lt_false x x (omega arith)) (placed_front x ys h)

placed_many : (x n : ℕ) (ys zs : List ℕ) → placed_all nat_lt zs ≡ ys → AllByRecursion (λ y. x < y) ys → placed_all nat_lt (replicate (suc n) x ++ zs) ≡ x ∷ ys
placed_many x zero ys zs e h = ap (placed nat_lt x) e ∙ placed_front x ys h
placed_many x (suc n) ys zs e h = ap (placed nat_lt x) (placed_many x n ys zs e h) ∙ placed_again x ys h

all_flows : (P : ℕ → Type 0) (ps : Pairs) → AllByRecursion (λ p. P p.1.flow) ps → AllByRecursion P (map (λ c. c.flow) (values ps))
all_flows P [] h = tt
all_flows P (p ∷ ps) h = (h.0, all_flows P ps h.1)

each_once : (ps : Pairs) → IsRising ps → IsKeyedBy count_key ps → AllByRecursion (λ p. 1 ≤ p.1.count) ps
    → placed_all nat_lt (flows_counted ps) ≡ map (λ c. c.flow) (values ps)
each_once [] rising keyed filled = refl
each_once (p ∷ ps) rising keyed filled = by p.1.count refl filled.0 (each_once ps rising.1 keyed.1 filled.1)
  where
    by : (n : ℕ) → p.1.count ≡ n → 1 ≤ n → placed_all nat_lt (flows_counted ps) ≡ map (λ c. c.flow) (values ps)
        → placed_all nat_lt (replicate n p.1.flow ++ flows_counted ps) ≡ p.1.flow ∷ map (λ c. c.flow) (values ps)
    by zero e some ih = absurd (omega (arith, some))
    by (suc n) e some ih =
        placed_many p.1.flow n (map (λ c. c.flow) (values ps)) (flows_counted ps) ih (all_flows (λ f. p.1.flow < f) ps (later_flows p ps rising keyed))

pub listed_once : (total : ℕ) (ps : Pairs) (seen : List FlowCount) (list : List ℕ) → IsRising ps → AreCounts ps total → seen ≡ values ps
    → list ≡ map (λ c. c.flow) seen → list ≡ placed_all nat_lt (flows_counted ps)
listed_once total ps seen list rising counts es el = el ∙ ap (map (λ c. c.flow)) es ∙ sym (each_once ps rising counts.keyed counts.filled)

-- the keys of flows are no less than the least key
pub counts_least : (ps : Pairs) → IsKeyedBy count_key ps → AllByRecursion (λ p. negsuc (2 ^ 127 - 1) ≤ℤ p.0) ps
counts_least ps keyed = all_map (λ p. p.0 ≡ count_key p.1) (λ p. negsuc (2 ^ 127 - 1) ≤ℤ p.0) (λ p e. rw e (least p.1.flow)) ps keyed
  where
    least : (flow : ℕ) → negsuc (2 ^ 127 - 1) ≤ℤ id_key flow
    least flow = omega (arith, ints)
