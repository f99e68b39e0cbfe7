-- The references that a book of objects keeps, where they are those of the segments: what a book says of them it
-- says of the segments, and a segment that comes or goes is one reference more or less.
use Rattle.std.proofs.Common.{◌≡◌, inl, inr, ℕ, ◌+◌, nat_lt, Bool, true, false, not, ◌&&◌, ◌||◌, cond, List, [], ◌∷◌, ◌++◌, filter, map, bytes_eq, refl, sym, ap, ap₂, subst, ◌∙◌, arith}
use Rattle.std.specs.Prelude.{◌==◌, nat_le}
use Rattle.std.specs.List.{AllByRecursion, list_any}
use Rattle.std.proofs.lemmas.Bool.Decides.{nat_tests}
use Rattle.std.proofs.lemmas.List.{map-append}
use Rattle.std.proofs.lemmas.List.Elements.{filter-append}
use Rattle.std.specs.Cmp.Lexicographic.{bytes_decides}
use Rattle.media_rows.specs.declared.object.ObjectRow.{ObjectRow}
use Rattle.media_rows.specs.declared.segment.SegmentRow.{SegmentRow}
use Rattle.media_rows.specs.Lists.{inserted, in_order}
use Rattle.media_rows.specs.Objects.{due_objects, idle_time, idled, idles_before, is_due, is_named, references}
use Rattle.shared_tree.proofs.Counted.{all_append, all_kept}
use Rattle.shared_tree.proofs.Rising.{all_map}
use Rattle.library_laws.proofs.ListLemmas.{In, In-from_Contains}
use Rattle.library_laws.proofs.PageLemmas.{IsOrder}
use Rattle.segment_book.proofs.Ordered.{Comparable, put_last}
use Rattle.segment_book.proofs.Gaining.{Gains}
use Rattle.object_refs.specs.declared.kept.Kept.{Kept}
use Rattle.object_refs.specs.References.{changed_at, flows_in, less_one, objects_in, reference_of, references_in, references_to, referred, released}
use Rattle.reference_laws.specs.Ties.{AreTied, flows_to}
use Rattle.reference_laws.specs.Laws.{DueAreSame, NamesAreSame, ObjectsChange, ObjectsCome, ObjectsGo, ReferencesCome, ReferencesGo}
use Rattle.object_refs.proofs.Theorems.{any_append}
use Rattle.library_laws.proofs.ObjectsKept.{idled_id}

-- ---- numbers in order

pub numbers_in_order : IsOrder nat_lt
numbers_in_order = record { one_way = λ a b e. grind (arith, nat_tests); passes_on = λ a b c e k. grind (arith, nat_tests) }

numbers_compare : (a b : ℕ) → Comparable nat_lt a b
numbers_compare a b = by (nat_lt a b) (nat_lt b a) refl refl
  where
    by : (p q : Bool) → nat_lt a b ≡ p → nat_lt b a ≡ q → Comparable nat_lt a b
    by true q ep eq = inl ep
    by false true ep eq = inr (inl eq)
    by false false ep eq = inr (inr (grind (arith, nat_tests)))

all_compare : (a : ℕ) (bs : List ℕ) → AllByRecursion (Comparable nat_lt a) bs
all_compare a [] = tt
all_compare a (b ∷ bs) = (numbers_compare a b, all_compare a bs)

pub one_put : (a : ℕ) (front back : List ℕ) → in_order nat_lt (front ++ a ∷ back) ≡ inserted nat_lt a (in_order nat_lt (front ++ back))
one_put a front back = put_last nat_lt numbers_in_order front a back (all_compare a front)

pub one_less : (a : ℕ) (bs : List ℕ) → less_one a (inserted nat_lt a bs) ≡ bs
one_less a [] = let same : (a == a) ≡ true = grind (arith, nat_tests) in rw same refl
one_less a (b ∷ bs) = by (nat_lt b a) refl (one_less a bs)
  where
    by : (p : Bool) → nat_lt b a ≡ p → less_one a (inserted nat_lt a bs) ≡ bs
        → less_one a (cond p (b ∷ inserted nat_lt a bs) (a ∷ b ∷ bs)) ≡ b ∷ bs
    by true e rest = let other : (b == a) ≡ false = grind (arith, nat_tests) in rw other (ap (λ l. b ∷ l) rest)
    by false e rest = let same : (a == a) ≡ true = grind (arith, nat_tests) in rw same refl

-- ---- what is named

-- a list has an item
abbrev is_filled : {X : Type 0} → List X → Bool
is_filled [] = false
is_filled (x ∷ xs) = true

put_filled : (a : ℕ) (bs : List ℕ) → is_filled (inserted nat_lt a bs) ≡ true
put_filled a [] = refl
put_filled a (b ∷ bs) = by (nat_lt b a)
  where
    by : (p : Bool) → is_filled (cond p (b ∷ inserted nat_lt a bs) (a ∷ b ∷ bs)) ≡ true
    by true = refl
    by false = refl

order_filled : (bs : List ℕ) → is_filled (in_order nat_lt bs) ≡ is_filled bs
order_filled [] = refl
order_filled (b ∷ bs) = put_filled b (in_order nat_lt bs)

named_filled : (segments : List SegmentRow) (id : List ℕ) → is_filled (map (λ row. row.flow) (references segments id)) ≡ is_named segments id
named_filled [] id = refl
named_filled (row ∷ rows) id = by (bytes_eq row.segment.object id) (named_filled rows id)
  where
    by : (p : Bool) → is_filled (map (λ r. r.flow) (references rows id)) ≡ is_named rows id
        → is_filled (map (λ r. r.flow) (cond p (row ∷ references rows id) (references rows id))) ≡ (p || is_named rows id)
    by true rest = refl
    by false rest = rest

flows_filled : (segments : List SegmentRow) (id : List ℕ) → is_filled (flows_to segments id) ≡ is_named segments id
flows_filled segments id = order_filled (map (λ row. row.flow) (references segments id)) ∙ named_filled segments id

-- references to an object name just that
references_name : (object id : List ℕ) (flows : List ℕ) → is_named (map (reference_of object) flows) id ≡ (bytes_eq object id && is_filled flows)
references_name object id [] = by (bytes_eq object id)
  where
    by : (p : Bool) → false ≡ (p && false)
    by true = refl
    by false = refl
references_name object id (flow ∷ flows) = by (bytes_eq object id) refl (references_name object id flows)
  where
    by : (p : Bool) → bytes_eq object id ≡ p → is_named (map (reference_of object) flows) id ≡ (bytes_eq object id && is_filled flows)
        → (p || is_named (map (reference_of object) flows) id) ≡ (p && true)
    by true e rest = refl
    by false e rest = rw e at rest

pub same_id : (a b : List ℕ) → bytes_eq a b ≡ true → a ≡ b
same_id a b e = let d = bytes_decides a b in d.0 e

-- an id is one of an object, and a segment names it
pub named_is : (segments : List SegmentRow) (kept : List Kept) (id : List ℕ) → AreTied segments kept
    → is_named (references_in kept) id ≡ (list_any (λ k. bytes_eq k.row.id id) kept && is_named segments id)
named_is segments [] id tied = refl
named_is segments (k ∷ ks) id tied =
    any_append (λ row. bytes_eq row.segment.object id) (references_to k) (references_in ks)
    ∙ ap₂ (λ (a b : Bool). a || b) (references_name k.row.id id k.flows) (named_is segments ks id tied.1)
    ∙ by (bytes_eq k.row.id id) refl
  where
    by : (p : Bool) → bytes_eq k.row.id id ≡ p
        → ((p && is_filled k.flows) || (list_any (λ o. bytes_eq o.row.id id) ks && is_named segments id))
        ≡ ((p || list_any (λ o. bytes_eq o.row.id id) ks) && is_named segments id)
    by true e = rw (ap is_filled tied.0 ∙ flows_filled segments k.row.id ∙ ap (is_named segments) (same_id k.row.id id e)) (both (is_named segments id) _)
      where
        both : (a b : Bool) → (a || (b && a)) ≡ a
        both true b = refl
        both false true = refl
        both false false = refl
    by false e = refl

-- ---- objects that are kept

bytes_same : (id : List ℕ) → bytes_eq id id ≡ true
bytes_same id = let d = bytes_decides id id in d.1 refl

or_more : (a b : Bool) → b ≡ true → (a || b) ≡ true
or_more true b e = refl
or_more false b e = e

-- a test of each kept object's id
each_there : (ks kept : List Kept) → ((id : List ℕ) → list_any (λ k. bytes_eq k.row.id id) ks ≡ true → list_any (λ k. bytes_eq k.row.id id) kept ≡ true)
    → AllByRecursion (λ k. list_any (λ o. bytes_eq o.row.id k.row.id) kept ≡ true) ks
each_there [] kept within = tt
each_there (k ∷ ks) kept within = (
  within k.row.id (rw (bytes_same k.row.id) refl),
  each_there ks kept (λ id e. within id (or_more (bytes_eq k.row.id id) (list_any (λ o. bytes_eq o.row.id id) ks) e)),
)

-- of the objects that are kept, a book's references name just those that segments name
pub each_named : (segments : List SegmentRow) (kept : List Kept) → AreTied segments kept
    → AllByRecursion (λ k. is_named (references_in kept) k.row.id ≡ is_named segments k.row.id) kept
each_named segments kept tied =
    all_map (λ k. list_any (λ o. bytes_eq o.row.id k.row.id) kept ≡ true) (λ k. is_named (references_in kept) k.row.id ≡ is_named segments k.row.id)
    (λ k there. named_is segments kept k.row.id tied ∙ ap (λ b. b && is_named segments k.row.id) there) kept (each_there kept kept (λ id e. e))

-- so the same objects are due
due_kept : (refs segments : List SegmentRow) (moment : ℕ) (ks : List Kept) → AllByRecursion (λ k. is_named refs k.row.id ≡ is_named segments k.row.id) ks
    → filter (is_due refs moment) (objects_in ks) ≡ filter (is_due segments moment) (objects_in ks)
due_kept refs segments moment [] each = refl
due_kept refs segments moment (k ∷ ks) each =
    ap₂ (λ (b : Bool) (l : List ObjectRow). cond (not b && nat_le (k.row.idle_since + idle_time) moment) (k.row ∷ l) l) each.0
    (due_kept refs segments moment ks each.1)

pub due_is : (segments : List SegmentRow) (kept : List Kept) (moment : ℕ) → AreTied segments kept
    → due_objects (references_in kept) (objects_in kept) moment ≡ due_objects segments (objects_in kept) moment
due_is segments kept moment tied = ap (in_order idles_before) (due_kept (references_in kept) segments moment kept (each_named segments kept tied))

-- ---- one reference more

references_append : (a b : List SegmentRow) (id : List ℕ) → references (a ++ b) id ≡ references a id ++ references b id
references_append a b id = filter-append (λ row. bytes_eq row.segment.object id) a b

-- the flows to an object once a segment came
flows_more : (front back : List SegmentRow) (row : SegmentRow) (id : List ℕ)
    → flows_to (front ++ row ∷ back) id
    ≡ cond (bytes_eq row.segment.object id) (inserted nat_lt row.flow (flows_to (front ++ back) id)) (flows_to (front ++ back) id)
flows_more front back row id =
    ap (λ l. in_order nat_lt (map (λ r. r.flow) l)) (references_append front (row ∷ back) id) ∙ by (bytes_eq row.segment.object id)
  where
    flows : List SegmentRow → List ℕ
    flows rows = map (λ r. r.flow) (references rows id)

    parts : (l : List SegmentRow) → map (λ r. r.flow) (references front id ++ l) ≡ flows front ++ map (λ r. r.flow) l
    parts l = map-append (λ r. r.flow) (references front id) l

    both : flows front ++ flows back ≡ flows (front ++ back)
    both = sym (ap (map (λ r. r.flow)) (references_append front back id) ∙ parts (references back id))

    by : (p : Bool) → in_order nat_lt (map (λ r. r.flow) (references front id ++ cond p (row ∷ references back id) (references back id)))
        ≡ cond p (inserted nat_lt row.flow (flows_to (front ++ back) id)) (flows_to (front ++ back) id)
    by true =
        ap (in_order nat_lt) (parts (row ∷ references back id)) ∙ one_put row.flow (flows front) (flows back)
        ∙ ap (λ l. inserted nat_lt row.flow (in_order nat_lt l)) both
    by false = ap (in_order nat_lt) (parts (references back id) ∙ both)

turned : (a b : List ℕ) → bytes_eq a b ≡ bytes_eq b a
turned a b = by (bytes_eq a b) (bytes_eq b a) refl refl
  where
    by : (p q : Bool) → bytes_eq a b ≡ p → bytes_eq b a ≡ q → p ≡ q
    by true true ep eq = refl
    by false false ep eq = refl
    by true false ep eq = absurd (let same = same_id a b ep in let yes = bytes_same b in grind (arith, eq, yes, same))
    by false true ep eq = absurd (let same = same_id b a eq in let yes = bytes_same a in grind (arith, ep, yes, same))

-- a segment that comes is one reference more to its object
pub tied_more : (old new : List SegmentRow) (row : SegmentRow) (kept : List Kept) → Gains row old new → AreTied old kept
    → AreTied new (changed_at row.segment.object (referred row.flow) kept)
tied_more old new row [] g tied = tt
tied_more old new row (k ∷ ks) g tied = (by (bytes_eq k.row.id row.segment.object) refl, tied_more old new row ks g tied.1)
  where
    whole : flows_to new k.row.id ≡ cond (bytes_eq k.row.id row.segment.object) (inserted nat_lt row.flow (flows_to old k.row.id)) (flows_to old k.row.id)
    whole =
        ap (λ l. flows_to l k.row.id) g.is ∙ flows_more g.front g.back row k.row.id
        ∙ ap₂ (λ (b : Bool) (l : List SegmentRow). cond b (inserted nat_lt row.flow (flows_to l k.row.id)) (flows_to l k.row.id))
        (turned row.segment.object k.row.id) (sym g.was)

    by : (p : Bool) → bytes_eq k.row.id row.segment.object ≡ p
        → (cond p (referred row.flow k) k).flows ≡ flows_to new (cond p (referred row.flow k) k).row.id
    by true e = ap (inserted nat_lt row.flow) tied.0 ∙ sym (whole ∙ rw e refl)
    by false e = tied.0 ∙ sym (whole ∙ rw e refl)

-- ---- one reference less

-- the ids of objects
abbrev pub ids_in : List Kept → List (List ℕ)
ids_in kept = map (λ k. k.row.id) kept

abbrev objects_ids : List ObjectRow → List (List ℕ)
objects_ids rows = map (λ row. row.id) rows

ids_are : (kept : List Kept) → objects_ids (objects_in kept) ≡ ids_in kept
ids_are [] = refl
ids_are (k ∷ ks) = ap (λ l. k.row.id ∷ l) (ids_are ks)

idled_ids : (before after : List SegmentRow) (moment : ℕ) (rows : List ObjectRow) → objects_ids (idled before after moment rows) ≡ objects_ids rows
idled_ids before after moment [] = refl
idled_ids before after moment (row ∷ rows) = ap₂ (λ i l. i ∷ l) (idled_id before after moment row) (idled_ids before after moment rows)

-- objects that lost references keep their ids
pub ids_stay : (before after : List SegmentRow) (moment : ℕ) (kept next : List Kept) → objects_in next ≡ idled before after moment (objects_in kept)
    → ids_in next ≡ ids_in kept
ids_stay before after moment kept next e =
    sym (ids_are next) ∙ ap objects_ids e ∙ idled_ids before after moment (objects_in kept) ∙ ids_are kept

head_same : {X : Type 0} {x y : X} {xs ys : List X} → x ∷ xs ≡ y ∷ ys → x ≡ y
head_same e = grind arith

tail_same : {X : Type 0} {x y : X} {xs ys : List X} → x ∷ xs ≡ y ∷ ys → xs ≡ ys
tail_same e = grind arith

-- a segment that goes is one reference less to its object
pub tied_less : (old new : List SegmentRow) (row : SegmentRow) (kept next : List Kept) → Gains row old new → AreTied new kept
    → ids_in next ≡ ids_in kept → flows_in next ≡ flows_in (changed_at row.segment.object (released row.flow) kept) → AreTied old next
tied_less old new row [] [] g tied ids flows = tt
tied_less old new row [] (n ∷ ns) g tied ids flows = absurd (grind (arith, ids))
tied_less old new row (k ∷ ks) [] g tied ids flows = absurd (grind (arith, ids))
tied_less old new row (k ∷ ks) (n ∷ ns) g tied ids flows = (
  head_same flows ∙ by (bytes_eq k.row.id row.segment.object) refl ∙ ap (flows_to old) (sym (head_same ids)),
  tied_less old new row ks ns g tied.1 (tail_same ids) (tail_same flows),
)
  where
    whole : flows_to new k.row.id ≡ cond (bytes_eq k.row.id row.segment.object) (inserted nat_lt row.flow (flows_to old k.row.id)) (flows_to old k.row.id)
    whole =
        ap (λ l. flows_to l k.row.id) g.is ∙ flows_more g.front g.back row k.row.id
        ∙ ap₂ (λ (b : Bool) (l : List SegmentRow). cond b (inserted nat_lt row.flow (flows_to l k.row.id)) (flows_to l k.row.id))
        (turned row.segment.object k.row.id) (sym g.was)

    by : (p : Bool) → bytes_eq k.row.id row.segment.object ≡ p → (cond p (released row.flow k) k).flows ≡ flows_to old k.row.id
    by true e = ap (less_one row.flow) (tied.0 ∙ whole ∙ rw e refl) ∙ one_less row.flow (flows_to old k.row.id)
    by false e = tied.0 ∙ whole ∙ rw e refl

-- what holds of each id holds by the other list
ids_all : (P : List ℕ → Type 0) (kept next : List Kept) → ids_in next ≡ ids_in kept → AllByRecursion (λ k. P k.row.id) next
    → AllByRecursion (λ k. P k.row.id) kept
ids_all P [] [] ids all = tt
ids_all P [] (n ∷ ns) ids all = absurd (grind (arith, ids))
ids_all P (k ∷ ks) [] ids all = absurd (grind (arith, ids))
ids_all P (k ∷ ks) (n ∷ ns) ids all = (subst P (head_same ids) all.0, ids_all P ks ns (tail_same ids) all.1)

idled_same : (a b c d : List SegmentRow) (moment : ℕ) (ks : List Kept) → AllByRecursion (λ k. is_named a k.row.id ≡ is_named c k.row.id) ks
    → AllByRecursion (λ k. is_named b k.row.id ≡ is_named d k.row.id) ks → idled a b moment (objects_in ks) ≡ idled c d moment (objects_in ks)
idled_same a b c d moment [] before after = refl
idled_same a b c d moment (k ∷ ks) before after =
    ap₂ (λ row l. row ∷ l)
    (ap₂ (λ (p q : Bool). cond (p && not q) (record k.row { idle_since = moment }) k.row) before.0 after.0)
    (idled_same a b c d moment ks before.1 after.1)

-- the objects that lost their last reference are those whose last segment went
pub idled_is : (old new : List SegmentRow) (moment : ℕ) (kept next : List Kept) → AreTied new kept → AreTied old next → ids_in next ≡ ids_in kept
    → objects_in next ≡ idled (references_in kept) (references_in next) moment (objects_in kept)
    → objects_in next ≡ idled new old moment (objects_in kept)
idled_is old new moment kept next before after ids e =
    e ∙ idled_same (references_in kept) (references_in next) new old moment kept (each_named new kept before)
    (ids_all (λ id. is_named (references_in next) id ≡ is_named old id) kept next ids (each_named old next after))

-- ---- the laws

all_has : {X : Type 0} (P : X → Type 0) (xs : List X) (x : X) → AllByRecursion P xs → In x xs → P x
all_has P [] x all here = absurd here
all_has P (y ∷ ys) x all (inl same) = subst P (sym same) all.0
all_has P (y ∷ ys) x all (inr there) = all_has P ys x all.1 there

pub names_are_same : NamesAreSame
names_are_same segments kept k tied there =
    all_has (λ o. is_named (references_in kept) o.row.id ≡ is_named segments o.row.id) kept k (each_named segments kept tied) (In-from_Contains kept k there)

pub due_are_same : DueAreSame
due_are_same segments kept moment tied = due_is segments kept moment tied

one_more : (front back : List SegmentRow) (row : SegmentRow) → Gains row (front ++ back) (front ++ row ∷ back)
one_more front back row = record { front = front; back = back; was = refl; is = refl }

pub references_come : ReferencesCome
references_come front back row kept tied = tied_more (front ++ back) (front ++ row ∷ back) row kept (one_more front back row) tied

pub references_go : ReferencesGo
references_go front back row moment kept next tied objects flows =
    let ids = ids_stay (references_in kept) (references_in next) moment kept next objects in
    let after = tied_less (front ++ back) (front ++ row ∷ back) row kept next (one_more front back row) tied ids flows in
    record { tied = after; objects = idled_is (front ++ back) (front ++ row ∷ back) moment kept next tied after ids objects }

none_named : (segments : List SegmentRow) (id : List ℕ) → is_named segments id ≡ false → references segments id ≡ []
none_named [] id e = refl
none_named (row ∷ rows) id e = by (bytes_eq row.segment.object id) refl (none_named rows id) e
  where
    by : (p : Bool) → bytes_eq row.segment.object id ≡ p → (is_named rows id ≡ false → references rows id ≡ [])
        → (p || is_named rows id) ≡ false → cond p (row ∷ references rows id) (references rows id) ≡ []
    by true ep rest bad = absurd (grind (arith, bad))
    by false ep rest held = rest held

pub objects_come : ObjectsCome
objects_come segments id serial moment kept tied unnamed =
    all_append (λ k. k.flows ≡ flows_to segments k.row.id) kept _ tied
    (sym (ap (λ l. in_order nat_lt (map (λ row. row.flow) l)) (none_named segments id unnamed)), tt)

pub objects_change : ObjectsChange
objects_change segments id change [] ids flows tied = tt
objects_change segments id change (k ∷ ks) ids flows tied = (by (bytes_eq k.row.id id), objects_change segments id change ks ids flows tied.1)
  where
    by : (p : Bool) → (cond p (change k) k).flows ≡ flows_to segments (cond p (change k) k).row.id
    by true = flows k ∙ tied.0 ∙ ap (flows_to segments) (sym (ids k))
    by false = tied.0

pub objects_go : ObjectsGo
objects_go segments id kept tied = all_kept (λ k. k.flows ≡ flows_to segments k.row.id) (λ k. not (bytes_eq k.row.id id)) kept tied
