-- References that go: how many are left of a flow, and which objects are idle by then.
use Rattle.std.proofs.Common.{◌≡◌, ℕ, ◌≤◌, ◌+◌, ◌==◌, Bool, true, false, not, ◌&&◌, ◌||◌, cond, if◌then◌else◌, List, [], ◌∷◌, ◌++◌, ◌<◌, bytes_eq, drop, filter, get_or, map, take, zero, suc, length, refl, sym, ap, subst, ◌∙◌, arith}
use Rattle.std.specs.List.{list_all, list_any}
use Rattle.std.proofs.Math.Seq.{drop-cons}
use Rattle.std.proofs.lemmas.List.{length-append}
use Rattle.std.proofs.lemmas.List.Elements.{filter-append}
use Rattle.std.proofs.lemmas.Slice.Eq.{bytes_eq-Decides}
use Rattle.std.proofs.lemmas.Bool.Decides.{nat_tests}
use Rattle.media_rows.specs.declared.object.ObjectRow.{ObjectRow}
use Rattle.media_rows.specs.declared.segment.SegmentRow.{SegmentRow}
use Rattle.media_rows.specs.Good.{are_object_ids_distinct}
use Rattle.media_rows.specs.Objects.{idled, idled_row, is_named, reference_count, references}
use Rattle.media_rows.specs.Segments.{segments_of}
use Rattle.object_refs.specs.declared.kept.Kept.{Kept}
use Rattle.object_refs.specs.References.{changed_at, idle_row, less_one, objects_in, reference_of, references_in, references_to, refers, released_at}
use Rattle.id_index.proofs.Pairs.{filter_swap}
use Rattle.delete_work.specs.Work.{HasReferences, released_by}
use Rattle.delete_work.specs.Within.Seeking.{Releasing, are_of}
use Rattle.delete_work.proofs.Lists.{not_true, parts, some_any}
use Rattle.object_refs.proofs.Theorems.{any_append}

abbrev one_if : Bool → ℕ
one_if b = if b then 1 else 0

pub bytes_are : (a b : List ℕ) → bytes_eq a b ≡ true → a ≡ b
bytes_are a b e = (bytes_eq-Decides a b).0 e

pub same_bytes : (a : List ℕ) → bytes_eq a a ≡ true
same_bytes a = (bytes_eq-Decides a a).1 refl

pub bytes_turn : (a b : List ℕ) → bytes_eq a b ≡ false → bytes_eq b a ≡ false
bytes_turn a b f = by (bytes_eq b a) refl
  where
    by : (t : Bool) → bytes_eq b a ≡ t → bytes_eq b a ≡ false
    by true g = absurd (let same : bytes_eq a b ≡ true = subst (λ z. bytes_eq a z ≡ true) (sym (bytes_are b a g)) (same_bytes a) in grind (arith, same, f))
    by false g = g

-- ---- references of one flow to one object

-- how many references of a flow a list has to an object
abbrev pub flow_count : ℕ → List SegmentRow → List ℕ → ℕ
flow_count flow rows object = reference_count (segments_of flow rows) object

count_append : (flow : ℕ) (l r : List SegmentRow) (object : List ℕ) → flow_count flow (l ++ r) object ≡ flow_count flow l object + flow_count flow r object
count_append flow l r object =
    ap (λ rows. length (references rows object)) (filter-append (λ row. row.flow == flow) l r)
    ∙ ap length (filter-append (λ row. bytes_eq row.segment.object object) (segments_of flow l) (segments_of flow r))
    ∙ length-append (references (segments_of flow l) object) (references (segments_of flow r) object)

-- the references that are left of an object
idle_id : (flows : List ℕ) (moment : ℕ) (row : ObjectRow) → (idle_row flows moment row).id ≡ row.id
idle_id [] moment row = refl
idle_id (f ∷ flows) moment row = refl

released_refs : (flow moment : ℕ) (k : Kept) → references_to (released_at flow moment k) ≡ map (reference_of k.row.id) (less_one flow k.flows)
released_refs flow moment k = ap (λ i. map (reference_of i) (less_one flow k.flows)) (idle_id (less_one flow k.flows) moment k.row)

-- one reference less of a flow is at most one less of any
less_count : (flow : ℕ) (own object : List ℕ) (flows : List ℕ)
    → flow_count flow (map (reference_of own) flows) object
    ≤ flow_count flow (map (reference_of own) (less_one flow flows)) object + one_if (bytes_eq own object)
less_count flow own object [] = omega arith
less_count flow own object (f ∷ flows) = by (f == flow) (bytes_eq own object) refl refl (less_count flow own object flows)
  where
    rest : ℕ
    rest = flow_count flow (map (reference_of own) flows) object

    by : (t b : Bool) → (f == flow) ≡ t → bytes_eq own object ≡ b
        → rest ≤ flow_count flow (map (reference_of own) (less_one flow flows)) object + one_if b
        → flow_count flow (map (reference_of own) (f ∷ flows)) object
        ≤ flow_count flow (map (reference_of own) (cond t flows (f ∷ less_one flow flows))) object + one_if b
    by true true et eb ih = rw (et, eb) (omega arith)
    by true false et eb ih = rw (et, eb) (omega arith)
    by false b et eb ih = rw et ih

-- an object of another id has none of this one
other_none : (flow : ℕ) (own object : List ℕ) (flows : List ℕ) → bytes_eq own object ≡ false → flow_count flow (map (reference_of own) flows) object ≡ 0
other_none flow own object [] e = refl
other_none flow own object (f ∷ flows) e = by (f == flow) (other_none flow own object flows e)
  where
    by : (t : Bool) → flow_count flow (map (reference_of own) flows) object ≡ 0
        → length (references (cond t (reference_of own f ∷ segments_of flow (map (reference_of own) flows)) (segments_of flow (map (reference_of own) flows)))
        object) ≡ 0
    by true ih = rw e ih
    by false ih = ih

-- no object of these has the id, so none is changed
none_changed : (id : List ℕ) (change : Kept → Kept) (kept : List Kept)
    → list_all (λ other. not (bytes_eq id other)) (map (λ row. row.id) (objects_in kept)) ≡ true
    → changed_at id change kept ≡ kept
none_changed id change [] e = refl
none_changed id change (k ∷ kept) e =
    let p = parts (not (bytes_eq id k.row.id)) (list_all (λ other. not (bytes_eq id other)) (map (λ row. row.id) (objects_in kept))) e in
    rw (bytes_turn id k.row.id (not_true (bytes_eq id k.row.id) p.0)) (ap (λ l. k ∷ l) (none_changed id change kept p.1))

pub released_count : (id : List ℕ) (flow moment : ℕ) (object : List ℕ) (kept : List Kept) → are_object_ids_distinct (objects_in kept) ≡ true
    → flow_count flow (references_in kept) object
    ≤ flow_count flow (references_in (changed_at id (released_at flow moment) kept)) object + one_if (bytes_eq id object)
released_count id flow moment object [] apart = omega arith
released_count id flow moment object (k ∷ kept) apart =
    let p = parts (list_all (λ other. not (bytes_eq k.row.id other)) (map (λ row. row.id) (objects_in kept))) (are_object_ids_distinct (objects_in kept)) apart
    in
    by (bytes_eq k.row.id id) refl p.0 (released_count id flow moment object kept p.1)
  where
    one_less : (all here rest after left m : ℕ) → all ≡ here + rest → after ≡ left + rest → here ≤ left + m → all ≤ after + m
    one_less all here rest after left m e f le = omega (arith, e, f, le)

    by : (t : Bool) → bytes_eq k.row.id id ≡ t → list_all (λ other. not (bytes_eq k.row.id other)) (map (λ row. row.id) (objects_in kept)) ≡ true
        → flow_count flow (references_in kept) object ≤ flow_count flow (references_in (changed_at id (released_at flow moment) kept)) object + one_if
        (bytes_eq id object)
        → flow_count flow (references_to k ++ references_in kept) object
        ≤ flow_count flow (references_in ((if t then released_at flow moment k else k) ∷ changed_at id (released_at flow moment) kept)) object
        + one_if (bytes_eq id object)
    by true e others ih =
        let same : k.row.id ≡ id = bytes_are k.row.id id e in
        let stays : changed_at id (released_at flow moment) kept ≡ kept = subst (λ i. changed_at i (released_at flow moment) kept ≡ kept) same
        (none_changed k.row.id (released_at flow moment) kept others) in
        let left : List SegmentRow = map (reference_of k.row.id) (less_one flow k.flows) in
        let less : flow_count flow (references_to k) object ≤ flow_count flow left object + one_if (bytes_eq id object) =
        subst (λ i. flow_count flow (references_to k) object ≤ flow_count flow left object + one_if (bytes_eq i object)) same
        (less_count flow k.row.id object k.flows) in
        subst (λ l. flow_count flow (references_to k ++ references_in kept) object ≤ flow_count flow (references_in (released_at flow moment k ∷ l)) object
        + one_if (bytes_eq id object)) (sym stays)
        (subst (λ l. flow_count flow (references_to k ++ references_in kept) object ≤ flow_count flow (l ++ references_in kept) object
        + one_if (bytes_eq id object)) (sym (released_refs flow moment k))
        (one_less (flow_count flow (references_to k ++ references_in kept) object) (flow_count flow (references_to k) object)
        (flow_count flow (references_in kept) object) (flow_count flow (left ++ references_in kept) object) (flow_count flow left object)
        (one_if (bytes_eq id object)) (count_append flow (references_to k) (references_in kept) object)
        (count_append flow left (references_in kept) object) less))
    by false e others ih =
        let before = count_append flow (references_to k) (references_in kept) object in
        let after = count_append flow (references_to k) (references_in (changed_at id (released_at flow moment) kept)) object in
        omega (arith, ih, before, after)

-- a flow that has a reference refers
pub count_refers : (flow : ℕ) (rows : List SegmentRow) (object : List ℕ) → 1 ≤ flow_count flow rows object → refers rows object flow ≡ true
count_refers flow rows object le =
    some_any (λ (row : SegmentRow). row.flow == flow) (references rows object)
    (subst (λ l. 1 ≤ length l) (filter_swap (λ (row : SegmentRow). row.flow == flow) (λ (row : SegmentRow). bytes_eq row.segment.object object) rows) le)

-- ---- which objects are named

less_named : (flow : ℕ) (own object : List ℕ) (flows : List ℕ) → is_named (map (reference_of own) (less_one flow flows)) object ≡ true
    → is_named (map (reference_of own) flows) object ≡ true
less_named flow own object [] e = e
less_named flow own object (f ∷ flows) e = by (f == flow) (bytes_eq own object) refl e (less_named flow own object flows)
  where
    by : (t b : Bool) → bytes_eq own object ≡ b
        → list_any (λ row. bytes_eq row.segment.object object) (map (reference_of own) (cond t flows (f ∷ less_one flow flows))) ≡ true
        → (is_named (map (reference_of own) (less_one flow flows)) object ≡ true → is_named (map (reference_of own) flows) object ≡ true)
        → (b || is_named (map (reference_of own) flows) object) ≡ true
    by t true eb h ih = refl
    by true false eb h ih = h
    by false false eb h ih = ih (sym (ap (λ b. b || is_named (map (reference_of own) (less_one flow flows)) object) eb) ∙ h)

pub released_named : (id : List ℕ) (flow moment : ℕ) (object : List ℕ) (kept : List Kept)
    → is_named (references_in (changed_at id (released_at flow moment) kept)) object ≡ true → is_named (references_in kept) object ≡ true
released_named id flow moment object [] e = e
released_named id flow moment object (k ∷ kept) e =
    by (bytes_eq k.row.id id) e (released_named id flow moment object kept)
  where
    named : SegmentRow → Bool
    named row = bytes_eq row.segment.object object

    either : (a b c d : Bool) → (a ≡ true → c ≡ true) → (b ≡ true → d ≡ true) → (a || b) ≡ true → (c || d) ≡ true
    either true b true d f g h = refl
    either true b false d f g h = absurd (let no = f refl in grind (arith, no))
    either false b true d f g h = refl
    either false b false d f g h = g h

    by : (t : Bool) → is_named (references_in ((if t then released_at flow moment k else k) ∷ changed_at id (released_at flow moment) kept)) object ≡ true
        → (is_named (references_in (changed_at id (released_at flow moment) kept)) object ≡ true → is_named (references_in kept) object ≡ true)
        → is_named (references_to k ++ references_in kept) object ≡ true
    by true h ih =
        any_append (λ row. bytes_eq row.segment.object object) (references_to k) (references_in kept)
        ∙ either (is_named (references_to (released_at flow moment k)) object) (is_named (references_in (changed_at id (released_at flow moment) kept)) object)
        (is_named (references_to k) object) (is_named (references_in kept) object)
        (λ f. less_named flow k.row.id object k.flows (sym (ap (λ l. is_named l object) (released_refs flow moment k)) ∙ f)) ih
        (sym (any_append (λ row. bytes_eq row.segment.object object) (references_to (released_at flow moment k))
        (references_in (changed_at id (released_at flow moment) kept))) ∙ h)
    by false h ih =
        any_append (λ row. bytes_eq row.segment.object object) (references_to k) (references_in kept)
        ∙ either (is_named (references_to k) object) (is_named (references_in (changed_at id (released_at flow moment) kept)) object)
        (is_named (references_to k) object) (is_named (references_in kept) object) (λ f. f) ih
        (sym (any_append (λ row. bytes_eq row.segment.object object) (references_to k) (references_in (changed_at id (released_at flow moment) kept))) ∙ h)

-- ---- which objects are idle

-- what is named later was named before
abbrev pub FewerNamed : List SegmentRow → List SegmentRow → Type 0
FewerNamed before after = (object : List ℕ) → is_named after object ≡ true → is_named before object ≡ true

pub idled_same : (refs : List SegmentRow) (moment : ℕ) (objects : List ObjectRow) → idled refs refs moment objects ≡ objects
idled_same refs moment [] = refl
idled_same refs moment (row ∷ objects) = by (is_named refs row.id) (idled_same refs moment objects)
  where
    by : (t : Bool) → idled refs refs moment objects ≡ objects
        → (if t && not t then record row { idle_since = moment } else row) ∷ idled refs refs moment objects ≡ row ∷ objects
    by true ih = ap (λ l. row ∷ l) ih
    by false ih = ap (λ l. row ∷ l) ih

one_idled : (a b c : Bool) (moment : ℕ) (row : ObjectRow) → (b ≡ true → a ≡ true) → (c ≡ true → b ≡ true)
    → (if b && not c then record row { idle_since = moment } else (if a && not b then record row { idle_since = moment } else row))
    ≡ (if a && not c then record row { idle_since = moment } else row)
one_idled true true true moment row f g = refl
one_idled true true false moment row f g = refl
one_idled true false true moment row f g = absurd (let no = g refl in grind (arith, no))
one_idled true false false moment row f g = refl
one_idled false true c moment row f g = absurd (let no = f refl in grind (arith, no))
one_idled false false true moment row f g = absurd (let no = g refl in grind (arith, no))
one_idled false false false moment row f g = refl

row_twice : (first middle last : List SegmentRow) (moment : ℕ) (row : ObjectRow) → FewerNamed first middle → FewerNamed middle last
    → idled_row middle last moment (idled_row first middle moment row) ≡ idled_row first last moment row
row_twice first middle last moment row f g =
    outer (is_named first row.id && not (is_named middle row.id))
    ∙ one_idled (is_named first row.id) (is_named middle row.id) (is_named last row.id) moment row (f row.id) (g row.id)
  where
    outer : (t : Bool) → idled_row middle last moment (if t then record row { idle_since = moment } else row)
        ≡ (if is_named middle row.id && not (is_named last row.id) then record row { idle_since = moment }
        else (if t then record row { idle_since = moment } else row))
    outer true = refl
    outer false = refl

pub idled_twice : (first middle last : List SegmentRow) (moment : ℕ) (objects : List ObjectRow) → FewerNamed first middle → FewerNamed middle last
    → idled middle last moment (idled first middle moment objects) ≡ idled first last moment objects
idled_twice first middle last moment [] f g = refl
idled_twice first middle last moment (row ∷ objects) f g =
    ap (λ l. idled_row middle last moment (idled_row first middle moment row) ∷ l) (idled_twice first middle last moment objects f g)
    ∙ ap (λ r. r ∷ idled first last moment objects) (row_twice first middle last moment row f g)

-- ---- references of the rows that are left

pub some_count : (row : SegmentRow) (rows : List SegmentRow) (object : List ℕ)
    → reference_count (row ∷ rows) object ≡ one_if (bytes_eq row.segment.object object) + reference_count rows object
some_count row rows object = by (bytes_eq row.segment.object object)
  where
    by : (t : Bool) → length (cond t (row ∷ references rows object) (references rows object)) ≡ one_if t + reference_count rows object
    by true = omega arith
    by false = omega arith

pub row_refers : (flow : ℕ) (row : SegmentRow) (rows : List SegmentRow) (kept : List Kept) → row.flow ≡ flow → HasReferences flow (row ∷ rows) kept
    → refers (references_in kept) row.segment.object row.flow ≡ true
row_refers flow row rows kept e has =
    subst (λ f. refers (references_in kept) row.segment.object f ≡ true) (sym e)
    (count_refers flow (references_in kept) row.segment.object
    (let own = some_count row rows row.segment.object in let one = ap one_if (same_bytes row.segment.object) in let le = has row.segment.object in
    omega (arith, own, one, le)))

pub rest_referred : (flow moment : ℕ) (row : SegmentRow) (rows : List SegmentRow) (kept : List Kept) → row.flow ≡ flow
    → are_object_ids_distinct (objects_in kept) ≡ true → HasReferences flow (row ∷ rows) kept
    → HasReferences flow rows (changed_at row.segment.object (released_at row.flow moment) kept)
rest_referred flow moment row rows kept e apart has object =
    let own = some_count row rows object in
    let le = has object in
    let less = released_count row.segment.object flow moment object kept apart in
    subst (λ f. reference_count rows object ≤ reference_count (segments_of flow (references_in (changed_at row.segment.object (released_at f moment) kept)))
    object) (sym e) (omega (arith, own, le, less))

-- ---- the first of some segments

pub kept_count : (test : SegmentRow → Bool) (rows : List SegmentRow) (object : List ℕ) → reference_count (filter test rows) object ≤ reference_count rows object
kept_count test [] object = omega arith
kept_count test (row ∷ rows) object = by (test row) (bytes_eq row.segment.object object) refl (kept_count test rows object)
  where
    by : (t b : Bool) → bytes_eq row.segment.object object ≡ b → reference_count (filter test rows) object ≤ reference_count rows object
        → reference_count (cond t (row ∷ filter test rows) (filter test rows)) object ≤ length (cond b (row ∷ references rows object) (references rows object))
    by true true e ih = rw e (omega (arith, ih))
    by true false e ih = rw e ih
    by false true e ih = omega (arith, ih)
    by false false e ih = ih

pub taken_count : (n : ℕ) (rows : List SegmentRow) (object : List ℕ) → reference_count (take n rows) object ≤ reference_count rows object
taken_count zero rows object = omega arith
taken_count (suc n) [] object = omega arith
taken_count (suc n) (row ∷ rows) object = by (bytes_eq row.segment.object object) refl (taken_count n rows object)
  where
    by : (b : Bool) → bytes_eq row.segment.object object ≡ b → reference_count (take n rows) object ≤ reference_count rows object
        → length (cond b (row ∷ references (take n rows) object) (references (take n rows) object))
        ≤ length (cond b (row ∷ references rows object) (references rows object))
    by true e ih = omega (arith, ih)
    by false e ih = ih

-- ---- one after the other

number_is : (a b : ℕ) → (a == b) ≡ true → a ≡ b
number_is a b e = grind (arith, nat_tests)

pub releasing_starts : (flow moment : ℕ) (kept next : List Kept) (rows : List SegmentRow) → are_of flow rows ≡ true → HasReferences flow rows kept
    → next ≡ kept → Releasing flow moment kept next rows rows
releasing_starts flow moment kept next rows own has is =
    rw is (record {
      flows = own;
      has = has;
      book = refl;
      idle = sym (idled_same (references_in kept) moment (objects_in kept));
      named = λ object e. e;
    })

pub releasing_row : (flow moment : ℕ) (start kept : List Kept) (all left rest : List SegmentRow) (row : SegmentRow)
    → Releasing flow moment start kept all left → left ≡ row ∷ rest → refers (references_in kept) row.segment.object row.flow ≡ true
releasing_row flow moment start kept all left rest row was shape =
    row_refers flow row rest kept (number_is row.flow flow (parts (row.flow == flow) (are_of flow rest) (subst (λ l. are_of flow l ≡ true) shape was.flows)).0)
    (subst (λ l. HasReferences flow l kept) shape was.has)

pub releasing_more : (flow moment : ℕ) (start kept next : List Kept) (all left rest : List SegmentRow) (row : SegmentRow)
    → are_object_ids_distinct (objects_in kept) ≡ true → Releasing flow moment start kept all left → left ≡ row ∷ rest
    → next ≡ changed_at row.segment.object (released_at row.flow moment) kept
    → objects_in next ≡ idled (references_in kept) (references_in next) moment (objects_in kept) → Releasing flow moment start next all rest
releasing_more flow moment start kept next all left rest row distinct was shape is idle =
    let p = parts (row.flow == flow) (are_of flow rest) (subst (λ l. are_of flow l ≡ true) shape was.flows) in
    let same : row.flow ≡ flow = number_is row.flow flow p.0 in
    let fewer : FewerNamed (references_in kept) (references_in next) =
    λ object e. released_named row.segment.object row.flow moment object kept (subst (λ k. is_named (references_in k) object ≡ true) is e) in
    record {
      flows = p.1;
      has = subst (HasReferences flow rest) (sym is)
          (rest_referred flow moment row rest kept same distinct (subst (λ l. HasReferences flow l kept) shape was.has));
      book = ap (released_by moment rest) is ∙ sym (ap (λ l. released_by moment l kept) shape) ∙ was.book;
      idle = idle ∙ ap (idled (references_in kept) (references_in next) moment) was.idle
          ∙ idled_twice (references_in start) (references_in kept) (references_in next) moment (objects_in start) was.named fewer;
      named = λ object e. was.named object (fewer object e);
    }

-- the next of some segments, and those behind it
pub next_is : (rows : List SegmentRow) (i : ℕ) (row : SegmentRow) → i < length rows → row ≡ get_or rows i row → drop i rows ≡ row ∷ drop (i + 1) rows
next_is rows i row lt at =
    let e : suc i ≡ i + 1 = omega arith in
    drop-cons rows i row lt ∙ ap (λ v. v ∷ drop (suc i) rows) (sym at) ∙ ap (λ n. row ∷ drop n rows) e
