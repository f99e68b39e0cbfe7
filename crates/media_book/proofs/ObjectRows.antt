-- Objects as a call changes them: which of them segments name, which states they have, and which ids are taken.
use Rattle.std.proofs.Common.{◌≡◌, ℕ, ◌+◌, nat_lt, Bool, true, false, not, ◌&&◌, ◌||◌, cond, List, [], ◌∷◌, ◌++◌, Option, Some, None, bytes_eq, map, refl, sym, ap, ap₂, subst, ◌∙◌, arith}
use Rattle.std.specs.Prelude.{is_some, option_map}
use Rattle.std.specs.List.{list_all}
use Rattle.std.proofs.lemmas.Bool.{and_from, and_parts}
use Rattle.std.proofs.lemmas.Bool.Decides.{nat_tests}
use Rattle.std.specs.Cmp.Lexicographic.{bytes_decides}
use Rattle.media_rows.specs.declared.object.Digest.{Digest}
use Rattle.media_rows.specs.declared.object.Extent.{Extent}
use Rattle.media_rows.specs.declared.object.ObjectRow.{ObjectRow}
use Rattle.media_rows.specs.declared.object.ObjectState.{ObjectState}
use Rattle.media_rows.specs.declared.object.ObjectState.TheVariants.{Allocated, Stored}
use Rattle.media_rows.specs.declared.reply.View.TheVariants as views
use Rattle.media_rows.specs.declared.segment.SegmentRow.{SegmentRow}
use Rattle.media_rows.specs.Answer.{first_taken, keep_refusal, keep_state}
use Rattle.media_rows.specs.Good.{are_object_ids_distinct, are_references_good}
use Rattle.media_rows.specs.Lists.{has_text}
use Rattle.media_rows.specs.Objects.{allocated_rows, flows_naming, is_named, is_stored_object, is_stored_row, object_of, stored_row, with_object}
use Rattle.media_rows.specs.Views.{shown_object}
use Rattle.library_laws.proofs.ListLemmas.{find-In}
use Rattle.object_refs.specs.declared.kept.Kept.{Kept}
use Rattle.object_refs.specs.References.{are_below, changed_at, objects_in, stored_at, with_new}
use Rattle.media_book.specs.Media.{Media, are_objects_below, library_with}
use Rattle.media_book.specs.Within.Ties.{object_states}

pub same_id : (a b : List ℕ) → bytes_eq a b ≡ true → a ≡ b
same_id a b e = let d = bytes_decides a b in d.0 e

pub same_bytes : (a b : List ℕ) → a ≡ b → bytes_eq a b ≡ true
same_bytes a b e = let d = bytes_decides a b in d.1 e

pub bytes_turned : (a b : List ℕ) → bytes_eq a b ≡ bytes_eq b a
bytes_turned a b = by (bytes_eq a b) (bytes_eq b a) refl refl
  where
    by : (p q : Bool) → bytes_eq a b ≡ p → bytes_eq b a ≡ q → p ≡ q
    by true true ep eq = refl
    by false false ep eq = refl
    by true false ep eq = absurd (let yes = same_bytes b a (sym (same_id a b ep)) in grind (arith, eq, yes))
    by false true ep eq = absurd (let yes = same_bytes a b (sym (same_id b a eq)) in grind (arith, ep, yes))

-- ---- the library's objects of a book

pub below_is : (serial : ℕ) (kept : List Kept) → are_below serial kept ≡ are_objects_below serial (objects_in kept)
below_is serial [] = refl
below_is serial (k ∷ ks) = ap (λ b. nat_lt k.row.serial serial && b) (below_is serial ks)

pub new_objects : (id : List ℕ) (serial moment : ℕ) (kept : List Kept)
    → objects_in (with_new id serial moment kept) ≡ objects_in kept ++ allocated_rows serial moment (id ∷ [])
new_objects id serial moment [] = refl
new_objects id serial moment (k ∷ ks) = ap (λ l. k.row ∷ l) (new_objects id serial moment ks)

pub stored_objects : (id : List ℕ) (extent : Extent) (digest : Option Digest) (moment : ℕ) (kept : List Kept)
    → objects_in (changed_at id (stored_at extent digest moment) kept) ≡ with_object id (stored_row extent.start extent.length digest moment) (objects_in kept)
stored_objects id extent digest moment [] = refl
stored_objects id extent digest moment (k ∷ ks) = by (bytes_eq k.row.id id) (stored_objects id extent digest moment ks)
  where
    by : (p : Bool) → objects_in (changed_at id (stored_at extent digest moment) ks) ≡ with_object id (stored_row extent.start extent.length digest moment) (objects_in ks)
        → (cond p (stored_at extent digest moment k) k).row ∷ objects_in (changed_at id (stored_at extent digest moment) ks)
        ≡ cond p (stored_row extent.start extent.length digest moment k.row) k.row
        ∷ with_object id (stored_row extent.start extent.length digest moment) (objects_in ks)
    by true rest = ap (λ l. stored_row extent.start extent.length digest moment k.row ∷ l) rest
    by false rest = ap (λ l. k.row ∷ l) rest

-- ---- what segments name is kept

-- an object that isn't kept is named by no segment
pub unkept_unnamed : (objects : List ObjectRow) (segments : List SegmentRow) (id : List ℕ) → are_references_good objects segments ≡ true
    → is_some (object_of id objects) ≡ false → is_named segments id ≡ false
unkept_unnamed objects [] id good none = refl
unkept_unnamed objects (row ∷ rows) id good none =
    let parts = and_parts (is_stored_object objects row.segment.object) (are_references_good objects rows) good in
    by (bytes_eq row.segment.object id) refl parts.0 (unkept_unnamed objects rows id parts.1 none)
  where
    there : (o : Option ObjectRow) → is_stored_row o ≡ true → is_some o ≡ true
    there None e = absurd (grind (arith, e))
    there (Some r) e = refl

    by : (p : Bool) → bytes_eq row.segment.object id ≡ p → is_stored_object objects row.segment.object ≡ true → is_named rows id ≡ false
        → (p || is_named rows id) ≡ false
    by true e stored rest =
        absurd
        (let is = there (object_of id objects) (subst (λ i. is_stored_object objects i ≡ true) (same_id row.segment.object id e) stored) in
        grind (arith, is, none))
    by false e stored rest = rest

-- references stay good where each stored object stays stored
pub good_still : (objects next : List ObjectRow) → ((id : List ℕ) → is_stored_object objects id ≡ true → is_stored_object next id ≡ true)
    → (segments : List SegmentRow) → are_references_good objects segments ≡ true → are_references_good next segments ≡ true
good_still objects next stay [] good = refl
good_still objects next stay (row ∷ rows) good =
    let parts = and_parts (is_stored_object objects row.segment.object) (are_references_good objects rows) good in
    and_from (is_stored_object next row.segment.object) (are_references_good next rows) (stay row.segment.object parts.0)
    (good_still objects next stay rows parts.1)

pub stored_behind : (more : List ObjectRow) (objects : List ObjectRow) (id : List ℕ) → is_stored_object objects id ≡ true
    → is_stored_object (objects ++ more) id ≡ true
stored_behind more [] id e = absurd (grind (arith, e))
stored_behind more (row ∷ rows) id e = by (bytes_eq row.id id) e (stored_behind more rows id)
  where
    by : (p : Bool) → is_stored_row (cond p (Some row) (object_of id rows)) ≡ true
        → (is_stored_object rows id ≡ true → is_stored_object (rows ++ more) id ≡ true)
        → is_stored_row (cond p (Some row) (object_of id (rows ++ more))) ≡ true
    by true held rest = held
    by false held rest = rest held

pub stored_after : (at : List ℕ) (start size : ℕ) (digest : Option Digest) (moment : ℕ) (objects : List ObjectRow) (id : List ℕ) → is_stored_object objects id ≡ true
    → is_stored_object (with_object at (stored_row start size digest moment) objects) id ≡ true
stored_after at start size digest moment [] id e = absurd (grind (arith, e))
stored_after at start size digest moment (row ∷ rows) id e =
    by (bytes_eq row.id at) (bytes_eq row.id id) refl e (stored_after at start size digest moment rows id)
  where
    by : (q p : Bool) → bytes_eq row.id id ≡ p → is_stored_row (cond p (Some row) (object_of id rows)) ≡ true
        → (is_stored_object rows id ≡ true → is_stored_object (with_object at (stored_row start size digest moment) rows) id ≡ true)
        → is_stored_object (cond q (stored_row start size digest moment row) row ∷ with_object at (stored_row start size digest moment) rows) id ≡ true
    by true true ep held rest = rw ep refl
    by true false ep held rest = rw ep (rest held)
    by false true ep held rest = rw ep held
    by false false ep held rest = rw ep (rest held)

-- ---- states

pub states_append : (a b : List ObjectRow) → object_states (a ++ b) ≡ object_states a ++ object_states b
states_append [] b = refl
states_append (row ∷ a) b = ap (λ l. row.state ∷ l) (states_append a b)

-- the states of objects of which an allocated one is stored
pub record IsFilled (start size : ℕ) (digest : Option Digest) (objects next : List ObjectRow) : Type 0 where
  pub front : List ObjectState
  pub back : List ObjectState
  pub was : object_states objects ≡ front ++ Allocated ∷ back
  pub is : object_states next ≡ front ++ Stored start size digest ∷ back

pub filled : (id : List ℕ) (start size : ℕ) (digest : Option Digest) (moment : ℕ) (objects : List ObjectRow) → are_object_ids_distinct objects ≡ true
    → keep_refusal (object_of id objects) ≡ None → IsFilled start size digest objects (with_object id (stored_row start size digest moment) objects)
filled id start size digest moment [] distinct free = absurd (grind (arith, free))
filled id start size digest moment (row ∷ rows) distinct free =
    let parts = and_parts (list_all (λ other. not (bytes_eq row.id other)) (map (λ r. r.id) rows)) (are_object_ids_distinct rows) distinct in
    by (bytes_eq row.id id) refl free parts.0 (λ e. filled id start size digest moment rows parts.1 e)
  where
    others : (rs : List ObjectRow) → row.id ≡ id → list_all (λ other. not (bytes_eq row.id other)) (map (λ r. r.id) rs) ≡ true
        → with_object id (stored_row start size digest moment) rs ≡ rs
    others [] same e = refl
    others (r ∷ rs) same e =
        let both = and_parts (not (bytes_eq row.id r.id)) (list_all (λ other. not (bytes_eq row.id other)) (map (λ x. x.id) rs)) e in
        ap₂ (λ (b : Bool) (l : List ObjectRow). cond b (stored_row start size digest moment r) r ∷ l)
        (bytes_turned r.id id ∙ ap (λ i. bytes_eq i r.id) (sym same) ∙ un (bytes_eq row.id r.id) both.0) (others rs same both.1)
      where
        un : (b : Bool) → not b ≡ true → b ≡ false
        un true e' = sym e'
        un false e' = refl

    state_is : (s : ObjectState) → keep_state s ≡ None → s ≡ Allocated
    state_is Allocated e = refl
    state_is (Stored a b digest) e = absurd (grind (arith, e))

    by : (p : Bool) → bytes_eq row.id id ≡ p → keep_refusal (cond p (Some row) (object_of id rows)) ≡ None
        → list_all (λ other. not (bytes_eq row.id other)) (map (λ r. r.id) rows) ≡ true
        → (keep_refusal (object_of id rows) ≡ None → IsFilled start size digest rows (with_object id (stored_row start size digest moment) rows))
        → IsFilled start size digest (row ∷ rows) (cond p (stored_row start size digest moment row) row ∷ with_object id (stored_row start size digest moment) rows)
    by true e held apart rest = record {
      front = [];
      back = object_states rows;
      was = ap (λ s. s ∷ object_states rows) (state_is row.state held);
      is = ap (λ l. Stored start size digest ∷ object_states l) (others rows (same_id row.id id e) apart);
    }
    by false e held apart rest =
        let r = rest held in
        record {
          front = row.state ∷ r.front;
          back = r.back;
          was = ap (λ l. row.state ∷ l) r.was;
          is = ap (λ l. row.state ∷ l) r.is;
        }

-- ---- ids of an allocation

text_append : (x : List ℕ) (a b : List (List ℕ)) → has_text x (a ++ b) ≡ (has_text x a || has_text x b)
text_append x [] b = refl
text_append x (t ∷ a) b = by (bytes_eq x t) (text_append x a b)
  where
    by : (p : Bool) → has_text x (a ++ b) ≡ (has_text x a || has_text x b) → (p || has_text x (a ++ b)) ≡ ((p || has_text x a) || has_text x b)
    by true rest = refl
    by false rest = rest

-- an id that stands earlier may as well count as kept
taken_moves : (kept more : List ℕ → Bool) (id : List ℕ) → ((x : List ℕ) → more x ≡ (kept x || bytes_eq x id))
    → (earlier later : List (List ℕ)) → first_taken kept (earlier ++ id ∷ []) later ≡ first_taken more earlier later
taken_moves kept more id same earlier [] = refl
taken_moves kept more id same earlier (x ∷ later) =
    ap₂ (λ (b : Bool) (o : Option (List ℕ)). cond b (Some x) o)
    (ap (λ b. kept x || b) (text_append x earlier (id ∷ [])) ∙ turned (kept x) (has_text x earlier) (bytes_eq x id)
    ∙ ap (λ b. b || has_text x earlier) (sym (same x)))
    (taken_moves kept more id same (x ∷ earlier) later)
  where
    turned : (k h e : Bool) → (k || (h || (e || false))) ≡ ((k || e) || h)
    turned true h e = refl
    turned false true true = refl
    turned false true false = refl
    turned false false true = refl
    turned false false false = refl

found_behind : (row : ObjectRow) (objects : List ObjectRow) (x : List ℕ)
    → is_some (object_of x (objects ++ row ∷ [])) ≡ (is_some (object_of x objects) || bytes_eq x row.id)
found_behind row [] x = by (bytes_eq row.id x) (bytes_turned row.id x)
  where
    by : (p : Bool) → p ≡ bytes_eq x row.id → is_some (cond p (Some row) None) ≡ bytes_eq x row.id
    by true e = e
    by false e = e
found_behind row (o ∷ objects) x = by (bytes_eq o.id x) (found_behind row objects x)
  where
    by : (p : Bool) → is_some (object_of x (objects ++ row ∷ [])) ≡ (is_some (object_of x objects) || bytes_eq x row.id)
        → is_some (cond p (Some o) (object_of x (objects ++ row ∷ []))) ≡ (is_some (cond p (Some o) (object_of x objects)) || bytes_eq x row.id)
    by true rest = refl
    by false rest = rest

-- the first id that is taken, once the one before it is an object
pub taken_after : (objects : List ObjectRow) (row : ObjectRow) (later : List (List ℕ)) → is_some (object_of row.id objects) ≡ false
    → first_taken (λ id. is_some (object_of id objects)) [] (row.id ∷ later)
    ≡ first_taken (λ id. is_some (object_of id (objects ++ row ∷ []))) [] later
taken_after objects row later none =
    ap (λ (b : Bool). cond (b || false) (Some row.id) (first_taken (λ id. is_some (object_of id objects)) (row.id ∷ []) later)) none
    ∙ taken_moves (λ id. is_some (object_of id objects)) (λ id. is_some (object_of id (objects ++ row ∷ []))) row.id
    (λ x. found_behind row objects x) [] later

pub below_more : (serial moment : ℕ) (id : List ℕ) (objects : List ObjectRow) → are_objects_below serial objects ≡ true
    → are_objects_below (serial + 1) (objects ++ allocated_rows serial moment (id ∷ [])) ≡ true
below_more serial moment id [] e = let lt : nat_lt serial (serial + 1) ≡ true = grind (arith, nat_tests) in rw lt refl
below_more serial moment id (row ∷ rows) e =
    let parts = and_parts (nat_lt row.serial serial) (are_objects_below serial rows) e in
    and_from (nat_lt row.serial (serial + 1)) (are_objects_below (serial + 1) (rows ++ allocated_rows serial moment (id ∷ [])))
    (up row.serial parts.0) (below_more serial moment id rows parts.1)
  where
    up : (a : ℕ) → nat_lt a serial ≡ true → nat_lt a (serial + 1) ≡ true
    up a h = grind (arith, nat_tests)

-- ---- what is shown of an object

-- an object that is found by an id has it
pub found_id : (id : List ℕ) (objects : List ObjectRow) (row : ObjectRow) → object_of id objects ≡ Some row → row.id ≡ id
found_id id objects row e = same_id row.id id (find-In (λ (r : ObjectRow). bytes_eq r.id id) objects row e).1

pub shown_is : (media : Media) (id : List ℕ) (row copy : ObjectRow) (flows : List ℕ) → Some row ≡ object_of id media.objects → copy ≡ row
    → flows ≡ flows_naming media.segments id
    → Some (views.Object copy flows) ≡ option_map (shown_object (library_with media 0)) (object_of id media.objects)
shown_is media id row copy flows found same named =
    ap₂ (λ r l. Some (views.Object r l)) same (named ∙ ap (flows_naming media.segments) (sym (found_id id media.objects row (sym found))))
    ∙ ap (option_map (shown_object (library_with media 0))) found
