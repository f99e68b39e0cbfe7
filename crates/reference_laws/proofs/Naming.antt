-- The flows that a book keeps at an object, and how many references there are, as the segments have them.
use Rattle.std.proofs.Common.{◌≡◌, ℕ, nat_lt, Bool, true, false, not, cond, List, [], ◌∷◌, ◌++◌, Some, filter, length, map, bytes_eq, refl, sym, ap, ap₂, subst, ◌∙◌, arith, append-nil, append_assoc}
use Rattle.std.specs.Prelude.{is_some}
use Rattle.std.specs.List.{list_all}
use Rattle.std.proofs.lemmas.Bool.{and_parts}
use Rattle.std.proofs.lemmas.Bool.Decides.{nat_tests}
use Rattle.std.proofs.lemmas.List.{length-map, map-append}
use Rattle.std.proofs.lemmas.List.Elements.{filter-append}
use Rattle.std.specs.Cmp.Lexicographic.{bytes_decides}
use Rattle.media_rows.specs.declared.segment.SegmentRow.{SegmentRow}
use Rattle.media_rows.specs.Good.{are_object_ids_distinct}
use Rattle.media_rows.specs.Lists.{in_order, inserted, placed, placed_all}
use Rattle.media_rows.specs.Objects.{object_of, references}
use Rattle.library_laws.proofs.ListLemmas.{length-in_order}
use Rattle.object_refs.specs.declared.kept.Kept.{Kept}
use Rattle.object_refs.specs.References.{objects_in, reference_of, references_in, references_to}
use Rattle.reference_laws.specs.Ties.{AreTied, flows_to}
use Rattle.reference_laws.specs.Laws.{CountsAreSame, FlowsAreSame}

-- ---- the references to one object

same_id : (a b : List ℕ) → bytes_eq a b ≡ true → a ≡ b
same_id a b e = let d = bytes_decides a b in d.0 e

own_references : (object id : List ℕ) (flows : List ℕ) → bytes_eq object id ≡ true
    → map (λ row. row.flow) (references (map (reference_of object) flows) id) ≡ flows
own_references object id [] e = refl
own_references object id (flow ∷ flows) e = rw e (ap (λ l. flow ∷ l) (own_references object id flows e))

no_references : (object id : List ℕ) (flows : List ℕ) → bytes_eq object id ≡ false → references (map (reference_of object) flows) id ≡ []
no_references object id [] e = refl
no_references object id (flow ∷ flows) e = rw e (no_references object id flows e)

-- objects of other ids have none
none_of_others : (id : List ℕ) (kept : List Kept) → list_all (λ other. not (bytes_eq id other)) (map (λ row. row.id) (objects_in kept)) ≡ true
    → references (references_in kept) id ≡ []
none_of_others id [] e = refl
none_of_others id (k ∷ ks) e =
    let parts = and_parts (not (bytes_eq id k.row.id)) (list_all (λ other. not (bytes_eq id other)) (map (λ row. row.id) (objects_in ks))) e in
    filter-append (λ row. bytes_eq row.segment.object id) (references_to k) (references_in ks)
    ∙ ap₂ (λ a b. a ++ b) (no_references k.row.id id k.flows (other (bytes_eq k.row.id id) refl parts.0)) (none_of_others id ks parts.1)
  where
    other : (b : Bool) → bytes_eq k.row.id id ≡ b → not (bytes_eq id k.row.id) ≡ true → bytes_eq k.row.id id ≡ false
    other false e' apart = e'
    other true e' apart = absurd (let d = bytes_decides id k.row.id in let yes = d.1 (sym (same_id k.row.id id e')) in grind (arith, yes, apart))

-- the flows of the references to an object that is kept are those that stand at it
kept_flows : (segments : List SegmentRow) (kept : List Kept) (id : List ℕ) → AreTied segments kept
    → are_object_ids_distinct (objects_in kept) ≡ true → is_some (object_of id (objects_in kept)) ≡ true
    → map (λ row. row.flow) (references (references_in kept) id) ≡ flows_to segments id
kept_flows segments [] id tied distinct there = absurd (grind (arith, there))
kept_flows segments (k ∷ ks) id tied distinct there =
    let parts =
    and_parts (list_all (λ other. not (bytes_eq k.row.id other)) (map (λ row. row.id) (objects_in ks))) (are_object_ids_distinct (objects_in ks)) distinct in
    ap (map (λ row. row.flow)) (filter-append (λ row. bytes_eq row.segment.object id) (references_to k) (references_in ks))
    ∙ map-append (λ row. row.flow) (references (references_to k) id) (references (references_in ks) id)
    ∙ by (bytes_eq k.row.id id) refl there parts.0 (λ e. kept_flows segments ks id tied.1 parts.1 e)
  where
    by : (p : Bool) → bytes_eq k.row.id id ≡ p → is_some (cond p (Some k.row) (object_of id (objects_in ks))) ≡ true
        → list_all (λ other. not (bytes_eq k.row.id other)) (map (λ row. row.id) (objects_in ks)) ≡ true
        → (is_some (object_of id (objects_in ks)) ≡ true → map (λ row. row.flow) (references (references_in ks) id) ≡ flows_to segments id)
        → map (λ row. row.flow) (references (references_to k) id) ++ map (λ row. row.flow) (references (references_in ks) id) ≡ flows_to segments id
    by true e held apart rest =
        let same = same_id k.row.id id e in
        ap₂ (λ a b. a ++ map (λ row. row.flow) b) (own_references k.row.id id k.flows e)
        (none_of_others id ks (subst (λ i. list_all (λ other. not (bytes_eq i other)) (map (λ row. row.id) (objects_in ks)) ≡ true) same apart))
        ∙ append-nil k.flows ∙ tied.0 ∙ ap (flows_to segments) same
    by false e held apart rest =
        ap (λ l. map (λ row. row.flow) l ++ map (λ row. row.flow) (references (references_in ks) id)) (no_references k.row.id id k.flows e)
        ∙ rest held

-- ---- each flow once

-- what passes two tests of which one is the narrower
within : (p q : ℕ → Bool) → ((n : ℕ) → q n ≡ true → p n ≡ true) → (ns : List ℕ) → filter q (filter p ns) ≡ filter q ns
within p q narrow [] = refl
within p q narrow (n ∷ ns) = by (p n) (q n) refl refl (within p q narrow ns)
  where
    by : (s t : Bool) → p n ≡ s → q n ≡ t → filter q (filter p ns) ≡ filter q ns
        → filter q (cond s (n ∷ filter p ns) (filter p ns)) ≡ cond t (n ∷ filter q ns) (filter q ns)
    by true true es et rest = rw et (ap (λ l. n ∷ l) rest)
    by true false es et rest = rw et rest
    by false true es et rest = absurd (let yes = narrow n et in grind (arith, es, yes))
    by false false es et rest = rest

nothing : (p q : ℕ → Bool) → ((n : ℕ) → p n ≡ true → q n ≡ false) → (ns : List ℕ) → filter q (filter p ns) ≡ []
nothing p q apart [] = refl
nothing p q apart (n ∷ ns) = by (p n) refl (nothing p q apart ns)
  where
    by : (s : Bool) → p n ≡ s → filter q (filter p ns) ≡ [] → filter q (cond s (n ∷ filter p ns) (filter p ns)) ≡ []
    by true es rest = let no = apart n es in rw no rest
    by false es rest = rest

swap : (p q : ℕ → Bool) (ns : List ℕ) → filter q (filter p ns) ≡ filter p (filter q ns)
swap p q [] = refl
swap p q (n ∷ ns) = by (p n) (q n) refl refl (swap p q ns)
  where
    by : (s t : Bool) → p n ≡ s → q n ≡ t → filter q (filter p ns) ≡ filter p (filter q ns)
        → filter q (cond s (n ∷ filter p ns) (filter p ns)) ≡ filter p (cond t (n ∷ filter q ns) (filter q ns))
    by true true es et rest = rw (et, es) (ap (λ l. n ∷ l) rest)
    by true false es et rest = rw et rest
    by false true es et rest = rw es rest
    by false false es et rest = rest

-- the numbers below one, and those above it
abbrev low : ℕ → List ℕ → List ℕ
low a ns = filter (λ n. nat_lt n a) ns

abbrev high : ℕ → List ℕ → List ℕ
high a ns = filter (λ n. nat_lt a n) ns

-- two numbers placed one after the other, of which the first is the lower
both_placed : (a b : ℕ) (ns : List ℕ) → nat_lt a b ≡ true → placed nat_lt a (placed nat_lt b ns) ≡ low a ns ++ a ∷ (high a (low b ns) ++ b ∷ high b ns)
both_placed a b ns lt =
    let below : nat_lt b a ≡ false = grind (arith, nat_tests) in
    let fronts : low a (placed nat_lt b ns) ≡ low a ns =
    filter-append (λ n. nat_lt n a) (low b ns) (b ∷ high b ns)
    ∙ ap₂ (λ x y. x ++ y) (within (λ n. nat_lt n b) (λ n. nat_lt n a) (λ n e. grind (arith, nat_tests)) ns)
    (rw below (nothing (λ n. nat_lt b n) (λ n. nat_lt n a) (λ n e. grind (arith, nat_tests)) ns))
    ∙ append-nil (low a ns) in
    let backs : high a (placed nat_lt b ns) ≡ high a (low b ns) ++ b ∷ high b ns =
    filter-append (λ n. nat_lt a n) (low b ns) (b ∷ high b ns)
    ∙ ap (λ y. high a (low b ns) ++ y) (rw lt (ap (λ l. b ∷ l)
    (swap (λ n. nat_lt b n) (λ n. nat_lt a n) ns ∙ within (λ n. nat_lt a n) (λ n. nat_lt b n) (λ n e. grind (arith, nat_tests)) ns))) in
    ap₂ (λ x y. x ++ a ∷ y) fronts backs

both_turned : (a b : ℕ) (ns : List ℕ) → nat_lt a b ≡ true → placed nat_lt b (placed nat_lt a ns) ≡ low a ns ++ a ∷ (high a (low b ns) ++ b ∷ high b ns)
both_turned a b ns lt =
    let below : nat_lt b a ≡ false = grind (arith, nat_tests) in
    let fronts : low b (placed nat_lt a ns) ≡ low a ns ++ a ∷ high a (low b ns) =
    filter-append (λ n. nat_lt n b) (low a ns) (a ∷ high a ns)
    ∙ ap₂ (λ x y. x ++ y) (swap (λ n. nat_lt n a) (λ n. nat_lt n b) ns ∙ within (λ n. nat_lt n b) (λ n. nat_lt n a) (λ n e. grind (arith, nat_tests)) ns)
    (rw lt (ap (λ l. a ∷ l) (swap (λ n. nat_lt a n) (λ n. nat_lt n b) ns))) in
    let backs : high b (placed nat_lt a ns) ≡ high b ns =
    filter-append (λ n. nat_lt b n) (low a ns) (a ∷ high a ns)
    ∙ ap₂ (λ x y. x ++ y) (nothing (λ n. nat_lt n a) (λ n. nat_lt b n) (λ n e. grind (arith, nat_tests)) ns)
    (rw below (within (λ n. nat_lt a n) (λ n. nat_lt b n) (λ n e. grind (arith, nat_tests)) ns)) in
    ap₂ (λ x y. x ++ b ∷ y) fronts backs ∙ append_assoc (low a ns) (a ∷ high a (low b ns)) (b ∷ high b ns)

placed_turned : (a b : ℕ) (ns : List ℕ) → placed nat_lt a (placed nat_lt b ns) ≡ placed nat_lt b (placed nat_lt a ns)
placed_turned a b ns = by (nat_lt a b) (nat_lt b a) refl refl
  where
    by : (p q : Bool) → nat_lt a b ≡ p → nat_lt b a ≡ q → placed nat_lt a (placed nat_lt b ns) ≡ placed nat_lt b (placed nat_lt a ns)
    by true q ep eq = both_placed a b ns ep ∙ sym (both_turned a b ns ep)
    by false true ep eq = both_turned b a ns eq ∙ sym (both_placed b a ns eq)
    by false false ep eq =
        let same : a ≡ b = grind (arith, nat_tests) in
        ap (λ n. placed nat_lt n (placed nat_lt b ns)) same ∙ ap (λ n. placed nat_lt b (placed nat_lt n ns)) (sym same)

put_placed : (a : ℕ) (ns : List ℕ) → placed_all nat_lt (inserted nat_lt a ns) ≡ placed nat_lt a (placed_all nat_lt ns)
put_placed a [] = refl
put_placed a (n ∷ ns) = by (nat_lt n a) (put_placed a ns)
  where
    by : (p : Bool) → placed_all nat_lt (inserted nat_lt a ns) ≡ placed nat_lt a (placed_all nat_lt ns)
        → placed_all nat_lt (cond p (n ∷ inserted nat_lt a ns) (a ∷ n ∷ ns)) ≡ placed nat_lt a (placed nat_lt n (placed_all nat_lt ns))
    by true rest = ap (placed nat_lt n) rest ∙ placed_turned n a (placed_all nat_lt ns)
    by false rest = refl

ordered_placed : (ns : List ℕ) → placed_all nat_lt (in_order nat_lt ns) ≡ placed_all nat_lt ns
ordered_placed [] = refl
ordered_placed (n ∷ ns) = put_placed n (in_order nat_lt ns) ∙ ap (placed nat_lt n) (ordered_placed ns)

-- ---- the laws

pub flows_are_same : FlowsAreSame
flows_are_same segments kept id tied distinct there =
    ap (placed_all nat_lt) (kept_flows segments kept id tied distinct there) ∙ ordered_placed (map (λ row. row.flow) (references segments id))

pub counts_are_same : CountsAreSame
counts_are_same segments kept id tied distinct there =
    sym (length-map (references (references_in kept) id) (λ row. row.flow)) ∙ ap length (kept_flows segments kept id tied distinct there)
    ∙ length-in_order nat_lt (map (λ row. row.flow) (references segments id)) ∙ length-map (references segments id) (λ row. row.flow)
