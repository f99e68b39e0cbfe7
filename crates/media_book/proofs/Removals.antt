-- Segments that go one after the other, and the objects that lose their last references.
use Rattle.std.proofs.Common.{◌≡◌, inl, inr, ℕ, nat_lt, Bool, true, false, not, ◌&&◌, ◌||◌, cond, List, [], ◌∷◌, Some, Contains, bytes_eq, filter, map, refl, sym, ap, ap₂, subst, ◌∙◌, arith}
use Rattle.std.specs.Prelude.{◌==◌}
use Rattle.std.specs.List.{AllByRecursion, list_all, list_any}
use Rattle.std.proofs.lemmas.Bool.{and_parts}
use Rattle.std.proofs.lemmas.Bool.Decides.{nat_tests}
use Rattle.media_rows.specs.declared.object.ObjectRow.{ObjectRow}
use Rattle.media_rows.specs.declared.segment.SegmentRow.{SegmentRow}
use Rattle.media_rows.specs.Lists.{are_distinct}
use Rattle.media_rows.specs.Objects.{idled, idled_row, is_named, is_stored_object, is_stored_row, object_of, references}
use Rattle.object_refs.specs.declared.kept.Kept.{Kept}
use Rattle.object_refs.specs.References.{objects_in, reference_of, references_in, references_to, refers}
use Rattle.library_laws.proofs.ListLemmas.{In, In-back, In-front, filter-In, in_order-In, list_any-from_In, map-In}
use Rattle.reference_laws.specs.Ties.{AreTied, flows_to}
use Rattle.media_book.specs.Media.{AreSome, Media, without_rows}
use Rattle.media_book.specs.Within.Ties.{Removing, object_states}
use Rattle.media_book.proofs.ObjectRows.{bytes_turned}
use Rattle.media_book.proofs.Serials.{is_other, kept_all, some_left, without_twice}

-- the serial of a segment
abbrev pub serial_of : SegmentRow → ℕ
serial_of row = row.serial

-- ---- the reference of a segment

-- an object that segments name stands among those that are kept, with the flows of these segments
pub record Referred (segments : List SegmentRow) (kept : List Kept) (id : List ℕ) : Type 0 where
  pub object : Kept
  pub there : In object kept
  pub same : bytes_eq object.row.id id ≡ true
  pub flows : object.flows ≡ flows_to segments object.row.id

referred : (segments : List SegmentRow) (kept : List Kept) (id : List ℕ) → AreTied segments kept → is_stored_object (objects_in kept) id ≡ true
    → Referred segments kept id
referred segments [] id tied stored = absurd (grind (arith, stored))
referred segments (k ∷ ks) id tied stored = by (bytes_eq k.row.id id) refl stored (λ e. referred segments ks id tied.1 e)
  where
    by : (p : Bool) → bytes_eq k.row.id id ≡ p → is_stored_row (cond p (Some k.row) (object_of id (objects_in ks))) ≡ true
        → (is_stored_object (objects_in ks) id ≡ true → Referred segments ks id) → Referred segments (k ∷ ks) id
    by true e held rest = record { object = k; there = inl refl; same = e; flows = tied.0 }
    by false e held rest =
        let r = rest held in
        record { object = r.object; there = inr r.there; same = r.same; flows = r.flows }

references_within : (k : Kept) (kept : List Kept) (x : SegmentRow) → In k kept → In x (references_to k) → In x (references_in kept)
references_within k [] x here there = absurd here
references_within k (o ∷ os) x (inl same) there = In-front (references_to o) (references_in os) x (subst (λ z. In x (references_to z)) same there)
references_within k (o ∷ os) x (inr later) there = In-back (references_to o) (references_in os) x (references_within k os x later there)

-- so the segment's flow refers to its object
pub row_refers : (segments : List SegmentRow) (kept : List Kept) (row : SegmentRow) → AreTied segments kept → In row segments
    → is_stored_object (objects_in kept) row.segment.object ≡ true → refers (references_in kept) row.segment.object row.flow ≡ true
row_refers segments kept row tied here stored =
    let r = referred segments kept row.segment.object tied stored in
    let own : bytes_eq row.segment.object r.object.row.id ≡ true = bytes_turned row.segment.object r.object.row.id ∙ r.same in
    let flow_in : In row.flow (flows_to segments r.object.row.id) =
    in_order-In nat_lt (map (λ s. s.flow) (references segments r.object.row.id)) row.flow
    (map-In (λ (s : SegmentRow). s.flow) (references segments r.object.row.id) row
    (filter-In (λ (s : SegmentRow). bytes_eq s.segment.object r.object.row.id) segments row here own)) in
    let reference : SegmentRow = reference_of r.object.row.id row.flow in
    let among : In reference (references_in kept) =
    references_within r.object kept reference r.there
    (map-In (reference_of r.object.row.id) r.object.flows row.flow (subst (In row.flow) (sym r.flows) flow_in)) in
    let itself : (row.flow == row.flow) ≡ true = grind (arith, nat_tests) in
    list_any-from_In (λ (s : SegmentRow). s.flow == row.flow) (references (references_in kept) row.segment.object) reference
    (filter-In (λ (s : SegmentRow). bytes_eq s.segment.object row.segment.object) (references_in kept) reference among r.same) itself

-- ---- objects that are idle keep their states and ids

idled_keeps : (before after : List SegmentRow) (moment : ℕ) (row : ObjectRow) → (b : Bool)
    → ((cond b (record row { idle_since = moment }) row).state ≡ row.state) × ((cond b (record row { idle_since = moment }) row).id ≡ row.id)
idled_keeps before after moment row true = (refl, refl)
idled_keeps before after moment row false = (refl, refl)

pub idled_states : (before after : List SegmentRow) (moment : ℕ) (objects : List ObjectRow) → object_states (idled before after moment objects)
    ≡ object_states objects
idled_states before after moment [] = refl
idled_states before after moment (row ∷ rows) =
    ap₂ (λ s l. s ∷ l) ((idled_keeps before after moment row (is_named before row.id && not (is_named after row.id))).0)
    (idled_states before after moment rows)

-- ---- one after the other

-- what is named by fewer segments
named_less : (test : SegmentRow → Bool) (segments : List SegmentRow) (id : List ℕ) → is_named (filter test segments) id ≡ true → is_named segments id ≡ true
named_less test [] id e = e
named_less test (row ∷ rows) id e = by (test row) (bytes_eq row.segment.object id) refl (named_less test rows id) e
  where
    by : (t p : Bool) → bytes_eq row.segment.object id ≡ p → (is_named (filter test rows) id ≡ true → is_named rows id ≡ true)
        → is_named (cond t (row ∷ filter test rows) (filter test rows)) id ≡ true → (p || is_named rows id) ≡ true
    by t true ep rest held = refl
    by true false ep rest held = rest (sym (ap (λ b. b || is_named (filter test rows) id) ep) ∙ held)
    by false false ep rest held = rest held

row_twice : (moment : ℕ) (row : ObjectRow) (a b c : Bool) → (b ≡ true → a ≡ true) → (c ≡ true → b ≡ true)
    → cond (b && not c) (record (cond (a && not b) (record row { idle_since = moment }) row) { idle_since = moment })
    (cond (a && not b) (record row { idle_since = moment }) row)
    ≡ cond (a && not c) (record row { idle_since = moment }) row
row_twice moment row true true c f g = refl
row_twice moment row true false true f g = absurd (let e = g refl in grind (arith, e))
row_twice moment row true false false f g = refl
row_twice moment row false true c f g = absurd (let e = f refl in grind (arith, e))
row_twice moment row false false c f g = refl

-- objects that lose their last references in two steps
idled_twice : (test more : SegmentRow → Bool) (segments : List SegmentRow) (moment : ℕ) (objects : List ObjectRow)
    → idled (filter test segments) (filter more (filter test segments)) moment (idled segments (filter test segments) moment objects)
    ≡ idled segments (filter more (filter test segments)) moment objects
idled_twice test more segments moment [] = refl
idled_twice test more segments moment (row ∷ rows) =
    ap₂ (λ r l. r ∷ l)
    (ap (λ i. cond (is_named (filter test segments) i && not (is_named (filter more (filter test segments)) i))
    (record (idled_row segments (filter test segments) moment row) { idle_since = moment }) (idled_row segments (filter test segments) moment row))
    ((idled_keeps segments (filter test segments) moment row (is_named segments row.id && not (is_named (filter test segments) row.id))).1)
    ∙ row_twice moment row (is_named segments row.id) (is_named (filter test segments) row.id)
    (is_named (filter more (filter test segments)) row.id) (λ e. named_less test segments row.id e)
    (λ e. named_less more (filter test segments) row.id e))
    (idled_twice test more segments moment rows)

pub rows_step : (gone : SegmentRow) (later : List SegmentRow) (moment : ℕ) (media : Media)
    → without_rows later moment (without_rows (gone ∷ []) moment media) ≡ without_rows (gone ∷ later) moment media
rows_step gone later moment media =
    ap₂ (λ s o. record { blocks = media.blocks; segments = s; objects = o }) (without_twice serial_of gone later media.segments)
    (idled_twice (is_other serial_of gone) (λ row. not (list_any (λ other. other.serial == row.serial) later)) media.segments moment media.objects
    ∙ ap (λ l. idled media.segments l moment media.objects) (without_twice serial_of gone later media.segments))

none_idled : (segments : List SegmentRow) (moment : ℕ) (objects : List ObjectRow) → idled segments segments moment objects ≡ objects
none_idled segments moment [] = refl
none_idled segments moment (row ∷ rows) = ap₂ (λ r l. r ∷ l) (by (is_named segments row.id)) (none_idled segments moment rows)
  where
    by : (b : Bool) → cond (b && not b) (record row { idle_since = moment }) row ≡ row
    by true = refl
    by false = refl

pub rows_done : (moment : ℕ) (media : Media) → without_rows [] moment media ≡ media
rows_done moment media =
    ap₂ (λ s o. record { blocks = media.blocks; segments = s; objects = o }) (kept_all serial_of media.segments)
    (ap (λ l. idled media.segments l moment media.objects) (kept_all serial_of media.segments) ∙ none_idled media.segments moment media.objects)

-- ---- the loop

pub removing_starts : (moment : ℕ) (start media : Media) (rows : List SegmentRow) → media ≡ start → AreSome rows start.segments
    → Removing moment start media rows rows
removing_starts moment start media rows same some = rw same (record { rest = refl; some = some })

pub removing_row : (moment : ℕ) (start media : Media) (all left later : List SegmentRow) (row : SegmentRow) → Removing moment start media all left
    → left ≡ row ∷ later → Contains media.segments row
removing_row moment start media all left later row was shape = (subst (λ l. AllByRecursion (Contains media.segments) l) shape was.some.there).0

pub removing_more : (moment : ℕ) (start media after : Media) (all left later : List SegmentRow) (row : SegmentRow) → Removing moment start media all left
    → left ≡ row ∷ later → after ≡ without_rows (row ∷ []) moment media → Removing moment start after all later
removing_more moment start media after all left later row was shape is =
    let there = subst (λ l. AllByRecursion (Contains media.segments) l) shape was.some.there in
    let once = and_parts (list_all (λ serial. not (row.serial == serial)) (map (λ r. r.serial) later)) (are_distinct (map (λ r. r.serial) later))
    (subst (λ l. are_distinct (map (λ r. r.serial) l) ≡ true) shape was.some.once) in
    rw is (record {
      rest = rows_step row later moment media ∙ ap (λ l. without_rows l moment media) (sym shape) ∙ was.rest;
      some = record { there = some_left serial_of row later media.segments there.1 once.0; once = once.1 };
    })

pub removing_done : (moment : ℕ) (start media : Media) (all left : List SegmentRow) → Removing moment start media all left → left ≡ []
    → media ≡ without_rows all moment start
removing_done moment start media all left was none = sym (rows_done moment media) ∙ ap (λ l. without_rows l moment media) (sym none) ∙ was.rest
