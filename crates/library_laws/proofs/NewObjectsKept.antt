-- Objects that are allocated, and objects that are stored, keep a library good.
use Rattle.std.proofs.Common.{◌≡◌, inl, inr, ℕ, ◌+◌, ◌≤◌, Bool, true, false, not, ◌||◌, cond, List, [], ◌∷◌, ◌++◌, map, find, length, nat_lt, Option, Some, None, refl, sym, ap, ap₂, subst, ◌∙◌, arith}
use Rattle.std.specs.Prelude.{◌==◌, nat_le, bytes_eq, option_map, is_some}
use Rattle.std.specs.List.{list_all}
use Rattle.std.proofs.lemmas.List.{map-append}
use Rattle.std.proofs.lemmas.Bool.{and_parts, and_from, or_cases, or_left, or_right, or_parts, not-true, not_from_false, cond_both, false≢true, false_from_ne_true}
use Rattle.media_rows.specs.declared.object.Digest.{Digest}
use Rattle.media_rows.specs.declared.object.ObjectRow.{ObjectRow}
use Rattle.media_rows.specs.declared.object.ObjectState.{ObjectState}
use Rattle.media_rows.specs.declared.object.ObjectState.TheVariants.{Allocated, Stored}
use Rattle.media_rows.specs.Answer.{first_taken, is_kept_object}
use Rattle.media_rows.specs.Changes.{after_allocate, after_store}
use Rattle.media_rows.specs.Good.{Good, are_states_apart, is_extent_good, is_object_text}
use Rattle.media_rows.specs.Ids.{is_object_id}
use Rattle.media_rows.specs.Library.{Library, last_serial}
use Rattle.media_rows.specs.Lists.{rises, are_distinct_texts, has_text}
use Rattle.media_rows.specs.Moments.{is_moment}
use Rattle.media_rows.specs.Objects.{object_of, is_stored, is_stored_row, is_stored_object, allocated_rows, stored_row, is_free, is_clear_of, blocks_of}
use Rattle.library_laws.proofs.ListLemmas.{In, In-map, find-some, find-map, list_all-In, list_all-from_In}
use Rattle.library_laws.proofs.KeptLemmas.{Serials, counted, counted-New, rises-counted, serials_objects, map-kept, list_all-mapped, list_all-both, rises-both, rises-mapped, rises-keys, same_text, text_same}
use Rattle.library_laws.proofs.OutboxKept.{object_below, Names-from, Names-test, Texts-from, Texts-test}

-- ---- ids of an allocation

-- ids that are not taken: no test takes them, none stands twice
record Untaken (taken : List ℕ → Bool) (earlier ids : List (List ℕ)) : Type 0 where
  apart : (id : List ℕ) → In id ids → (taken id ≡ false) × (has_text id earlier ≡ false)
  distinct : are_distinct_texts ids ≡ true

different : (a b : List ℕ) → bytes_eq b a ≡ false → not (bytes_eq a b) ≡ true
different a b e = not_from_false (bytes_eq a b) (false_from_ne_true (bytes_eq a b)
    (λ bad. false≢true (sym e ∙ ap (bytes_eq b) (same_text a b bad) ∙ text_same b)))

untaken_step : (taken : List ℕ → Bool) (earlier : List (List ℕ)) (id : List ℕ) (later : List (List ℕ)) (a b : Bool) → taken id ≡ a → has_text id earlier ≡ b
    → cond (a || b) (Some id) (first_taken taken (id ∷ earlier) later) ≡ None
    → (first_taken taken (id ∷ earlier) later ≡ None → Untaken taken (id ∷ earlier) later) → Untaken taken earlier (id ∷ later)
untaken_step taken earlier id later true b ta hb none rest = absurd (cc)
untaken_step taken earlier id later false true ta hb none rest = absurd (cc)
untaken_step taken earlier id later false false ta hb none rest =
    let r = rest none in
    record {
      apart = λ x here. elim here [
        | inl same ↦ (ap taken same ∙ ta, ap (λ y. has_text y earlier) same ∙ hb)
        | inr more ↦ let w = r.apart x more in (w.0, (or_parts (bytes_eq x id) (has_text x earlier) w.1).1)
      ];
      distinct = and_from _ _ (list_all-from_In (λ x. not (bytes_eq id x)) later
          (λ x here. different id x (or_parts (bytes_eq x id) (has_text x earlier) (r.apart x here).1).0)) r.distinct;
    }

untaken : (taken : List ℕ → Bool) (earlier ids : List (List ℕ)) → first_taken taken earlier ids ≡ None → Untaken taken earlier ids
untaken taken earlier [] e = record { apart = λ id here. absurd here; distinct = refl }
untaken taken earlier (id ∷ later) e = untaken_step taken earlier id later (taken id) (has_text id earlier) refl refl e (untaken taken (id ∷ earlier) later)

-- ---- an allocation

pub ids-allocated : (serial moment : ℕ) (ids : List (List ℕ)) → map (λ row. row.id) (allocated_rows serial moment ids) ≡ ids
ids-allocated serial moment [] = refl
ids-allocated serial moment (id ∷ later) = ap (λ l. id ∷ l) (ids-allocated (serial + 1) moment later)

pub serials-allocated : (serial moment : ℕ) (ids : List (List ℕ)) → map (λ row. row.serial) (allocated_rows serial moment ids) ≡ counted serial (length ids)
serials-allocated serial moment [] = refl
serials-allocated serial moment (id ∷ later) = ap (λ l. serial ∷ l) (serials-allocated (serial + 1) moment later)

-- what each new row is
allocated_is : (serial moment : ℕ) (ids : List (List ℕ)) (row : ObjectRow) → In row (allocated_rows serial moment ids) → (row.state ≡ Allocated)
    × (row.idle_since ≡ moment) × In row.id ids
allocated_is serial moment [] row here = absurd here
allocated_is serial moment (id ∷ later) row (inl same) =
    (ap (λ (r : ObjectRow). r.state) same, ap (λ (r : ObjectRow). r.idle_since) same, inl (ap (λ (r : ObjectRow). r.id) same))
allocated_is serial moment (id ∷ later) row (inr more) = let w = allocated_is (serial + 1) moment later row more in (w.0, w.1, inr w.2)

apart_allocated : (a b : ObjectState) → b ≡ Allocated → are_states_apart a b ≡ true
apart_allocated Allocated b e = refl
apart_allocated (Stored start size digest) b e = ap (are_states_apart (Stored start size digest)) e

first_apart : (a b : ObjectState) → a ≡ Allocated → are_states_apart a b ≡ true
first_apart a b e = ap (λ s. are_states_apart s b) e

-- new rows have no block
rises-allocated : (serial moment : ℕ) (ids : List (List ℕ)) → rises (λ a b. are_states_apart a.state b.state) (allocated_rows serial moment ids) ≡ true
rises-allocated serial moment [] = refl
rises-allocated serial moment (id ∷ later) = and_from _ _
    (list_all-from_In (λ (b : ObjectRow). are_states_apart Allocated b.state) (allocated_rows (serial + 1) moment later) (λ b here. refl))
    (rises-allocated (serial + 1) moment later)

front_step : (b : Bool) (x : ObjectRow) (rest more : Option ObjectRow) → is_stored_row (cond b (Some x) rest) ≡ true → (is_stored_row rest ≡ true → more ≡ rest)
    → cond b (Some x) more ≡ cond b (Some x) rest
front_step true x rest more e later = refl
front_step false x rest more e later = later e

find-front : (p : ObjectRow → Bool) (xs ys : List ObjectRow) → is_stored_row (find p xs) ≡ true → find p (xs ++ ys) ≡ find p xs
find-front p [] ys e = absurd (false≢true e)
find-front p (x ∷ xs) ys e = front_step (p x) x (find p xs) (find p (xs ++ ys)) e (find-front p xs ys)

pub allocation_keeps_good : (library : Library) (moment : ℕ) (ids : List (List ℕ)) → Good library → is_moment moment ≡ true → list_all is_object_id ids ≡ true
    → first_taken (is_kept_object library) [] ids ≡ None → library.next_serial + length ids ≤ last_serial → Good (after_allocate moment ids library)
allocation_keeps_good library moment ids good at forms free most =
    let names = Names-from library good.names in
    let texts = Texts-from library good.texts in
    let new : List ObjectRow = allocated_rows library.next_serial moment ids in
    let extents = and_parts (rises (λ a b. are_states_apart a.state b.state) library.objects)
    (list_all (λ row. is_extent_good library.blocks row.state) library.objects) good.extents in
    let fresh = untaken (is_kept_object library) [] ids free in
    let numbers = serials-allocated library.next_serial moment ids in
    record {
      segments = good.segments;
      references = list_all-from_In (λ s. is_stored_object (library.objects ++ new) s.segment.object) library.segments (λ s here.
          let e = list_all-In (λ t. is_stored_object library.objects t.segment.object) library.segments good.references s here in
          ap is_stored_row (find-front (λ row. bytes_eq row.id s.segment.object) library.objects new e) ∙ e);
      extents = and_from _ _
          (rises-both (λ a b. are_states_apart a.state b.state) library.objects new extents.0 (rises-allocated library.next_serial moment ids)
          (λ a b here there. apart_allocated a.state b.state (allocated_is library.next_serial moment ids b there).0))
          (list_all-both (λ row. is_extent_good library.blocks row.state) library.objects new extents.1
          (list_all-from_In (λ row. is_extent_good library.blocks row.state) new
          (λ row here. ap (is_extent_good library.blocks) (allocated_is library.next_serial moment ids row here).0)));
      names = Names-test (after_allocate moment ids library) (record {
        catalog = names.catalog;
        objects = ap are_distinct_texts (map-append (λ row. row.id) library.objects new
            ∙ ap (λ l. map (λ (row : ObjectRow). row.id) library.objects ++ l) (ids-allocated library.next_serial moment ids))
            ∙ rises-both (λ a b. not (bytes_eq a b)) (map (λ row. row.id) library.objects) ids names.objects fresh.distinct
            (λ a b here there. not_from_false (bytes_eq a b) (false_from_ne_true (bytes_eq a b) (λ bad.
            let row = In-map (λ (r : ObjectRow). r.id) library.objects a here in
            let kept = find-some (λ r. bytes_eq r.id b) library.objects row.0 row.1 (ap (λ x. bytes_eq x b) (sym row.2) ∙ bad) in
            false≢true (sym (fresh.apart b there).0 ∙ ap is_some kept.1))));
        urls = names.urls;
        objects_rise = rises-counted (λ row. row.serial) library.objects new library.next_serial (length ids) names.objects_rise
            (object_below library names) numbers;
        segments_rise = names.segments_rise;
        requests_rise = names.requests_rise;
        hooks_rise = names.hooks_rise;
        events_rise = names.events_rise;
        serials = subst (λ (l : List ℕ). Serials (library.next_serial + length ids)
            (l ++ map (λ row. row.serial) library.segments ++ map (λ row. row.serial) library.requests ++ map (λ row. row.serial) library.outbox.hooks ++ map
            (λ row. row.serial) library.outbox.events))
            (ap (λ l. map (λ (row : ObjectRow). row.serial) library.objects ++ l) (sym numbers) ∙ sym (map-append (λ row. row.serial) library.objects new))
            (serials_objects library.next_serial (library.next_serial + length ids) (map (λ row. row.serial) library.objects)
            (counted library.next_serial (length ids)) _ _ _ _ names.least (omega arith) names.serials (counted-New library.next_serial (length ids)));
        least = omega (arith, names.least);
        most = most;
      });
      sources = good.sources;
      collections = good.collections;
      requests = good.requests;
      outbox = good.outbox;
      texts = Texts-test (after_allocate moment ids library) (record {
        sources = texts.sources;
        flows = texts.flows;
        objects = list_all-both is_object_text library.objects new texts.objects (list_all-from_In is_object_text new (λ row here.
            let w = allocated_is library.next_serial moment ids row here in and_from _ _ (list_all-In is_object_id ids forms row.id w.2)
            (ap is_moment w.1 ∙ at)));
        requests = texts.requests;
        hooks = texts.hooks;
        events = texts.events;
      });
    }

-- ---- an object that is stored

-- the change of one row
put_bytes : List ℕ → ℕ → ℕ → Option Digest → ℕ → ObjectRow → ObjectRow
put_bytes id start size digest moment row = cond (bytes_eq row.id id) (stored_row start size digest moment row) row

bytes_id : (id : List ℕ) (start size : ℕ) (digest : Option Digest) (moment : ℕ) (row : ObjectRow) → (put_bytes id start size digest moment row).id ≡ row.id
unfolding put_bytes
bytes_id id start size digest moment row = cond_both (bytes_eq row.id id) (stored_row start size digest moment row) row (λ r. r.id ≡ row.id) (λ e. refl) (λ e. refl)

bytes_serial : (id : List ℕ) (start size : ℕ) (digest : Option Digest) (moment : ℕ) (row : ObjectRow) → (put_bytes id start size digest moment row).serial ≡ row.serial
unfolding put_bytes
bytes_serial id start size digest moment row = cond_both (bytes_eq row.id id) (stored_row start size digest moment row) row (λ r. r.serial ≡ row.serial) (λ e. refl)
    (λ e. refl)

state_step : (b : Bool) (start size : ℕ) (digest : Option Digest) (moment : ℕ) (row : ObjectRow) → (cond b (stored_row start size digest moment row) row).state ≡ cond b (Stored start size digest) row.state
state_step true start size digest moment row = refl
state_step false start size digest moment row = refl

bytes_state : (id : List ℕ) (start size : ℕ) (digest : Option Digest) (moment : ℕ) (row : ObjectRow) → (put_bytes id start size digest moment row).state
    ≡ cond (bytes_eq row.id id) (Stored start size digest) row.state
unfolding put_bytes
bytes_state id start size digest moment row = state_step (bytes_eq row.id id) start size digest moment row

still_stored : (id : List ℕ) (start size : ℕ) (digest : Option Digest) (moment : ℕ) (o : Option ObjectRow) → is_stored_row o ≡ true
    → is_stored_row (option_map (put_bytes id start size digest moment) o) ≡ true
still_stored id start size digest moment None e = absurd (false≢true e)
still_stored id start size digest moment (Some row) e =
    ap is_stored (bytes_state id start size digest moment row) ∙ cond_both (bytes_eq row.id id) (Stored start size digest) row.state (λ s. is_stored s ≡ true) (λ k. refl)
    (λ k. e)

-- a free place is apart from each state, on either side
clear_before : (start size : ℕ) (digest : Option Digest) (state : ObjectState) → is_clear_of start (blocks_of size) state ≡ true → are_states_apart (Stored start size digest) state ≡ true
clear_before start size digest Allocated e = refl
clear_before start size digest (Stored other more other_digest) e = e

swap : (a b : Bool) → (a || b) ≡ true → (b || a) ≡ true
swap a b e = elim (or_cases a b e) [ inl left ↦ or_right b a left | inr right ↦ or_left b a right ]

clear_behind : (start size : ℕ) (digest : Option Digest) (state : ObjectState) → is_clear_of start (blocks_of size) state ≡ true → are_states_apart state (Stored start size digest) ≡ true
clear_behind start size digest Allocated e = refl
clear_behind start size digest (Stored other more other_digest) e = swap (nat_le (start + blocks_of size) other) (nat_le (other + blocks_of more) start) e

still_apart : (a b : Bool) (start size : ℕ) (digest : Option Digest) (left right : ObjectState) → (a ≡ true → b ≡ true → ⊥) → are_states_apart left right ≡ true
    → is_clear_of start (blocks_of size) left ≡ true → is_clear_of start (blocks_of size) right ≡ true
    → are_states_apart (cond a (Stored start size digest) left) (cond b (Stored start size digest) right) ≡ true
still_apart true true start size digest left right one e l r = absurd (one refl refl)
still_apart true false start size digest left right one e l r = clear_before start size digest right r
still_apart false true start size digest left right one e l r = clear_behind start size digest left l
still_apart false false start size digest left right one e l r = e

pub storing_keeps_good : (library : Library) (moment : ℕ) (object : List ℕ) (start size : ℕ) (digest : Option Digest) → Good library → is_moment moment ≡ true
    → is_free library.objects library.blocks (blocks_of size) start ≡ true → (nat_lt 0 size || (start == 0)) ≡ true
    → Good (after_store moment object start size digest library)
unfolding put_bytes
storing_keeps_good library moment object start size digest good at free zero_first =
    let names = Names-from library good.names in
    let texts = Texts-from library good.texts in
    let change : ObjectRow → ObjectRow = put_bytes object start size digest moment in
    let place = and_parts (nat_le (start + blocks_of size) library.blocks) (list_all (λ row. is_clear_of start (blocks_of size) row.state) library.objects) free
    in
    let extents = and_parts (rises (λ a b. are_states_apart a.state b.state) library.objects)
    (list_all (λ row. is_extent_good library.blocks row.state) library.objects) good.extents in
    let ids = map-kept (λ (row : ObjectRow). row.id) change library.objects (bytes_id object start size digest moment) in
    let serials = map-kept (λ (row : ObjectRow). row.serial) change library.objects (bytes_serial object start size digest moment) in
    record {
      segments = good.segments;
      references = list_all-from_In (λ s. is_stored_object (map change library.objects) s.segment.object) library.segments (λ s here.
          ap is_stored_row (find-map (λ row. bytes_eq row.id s.segment.object) change library.objects
          (λ row. ap (λ i. bytes_eq i s.segment.object) (bytes_id object start size digest moment row)))
          ∙ still_stored object start size digest moment (object_of s.segment.object library.objects)
          (list_all-In (λ t. is_stored_object library.objects t.segment.object) library.segments good.references s here));
      extents = and_from _ _
          (rises-mapped (λ a b. are_states_apart a.state b.state) (λ a b. not (bytes_eq a.id b.id)) (λ a b. are_states_apart a.state b.state) change
          library.objects
          (λ x y here there t u. ap₂ are_states_apart (bytes_state object start size digest moment x) (bytes_state object start size digest moment y)
          ∙ still_apart (bytes_eq x.id object) (bytes_eq y.id object) start size digest x.state y.state
          (λ a b. false≢true (sym (not-true (bytes_eq x.id y.id) u) ∙ ap (bytes_eq x.id) (same_text y.id object b ∙ sym (same_text x.id object a))
          ∙ text_same x.id)) t
          (list_all-In (λ row. is_clear_of start (blocks_of size) row.state) library.objects place.1 x here)
          (list_all-In (λ row. is_clear_of start (blocks_of size) row.state) library.objects place.1 y there))
          extents.0 (sym (rises-keys (λ a b. not (bytes_eq a b)) (λ (row : ObjectRow). row.id) library.objects) ∙ names.objects))
          (list_all-mapped (λ row. is_extent_good library.blocks row.state) change library.objects (λ row here.
          ap (is_extent_good library.blocks) (bytes_state object start size digest moment row)
          ∙ cond_both (bytes_eq row.id object) (Stored start size digest) row.state (λ s. is_extent_good library.blocks s ≡ true)
          (λ e. and_from _ _ place.0 zero_first)
          (λ e. list_all-In (λ r. is_extent_good library.blocks r.state) library.objects extents.1 row here)));
      names = Names-test (after_store moment object start size digest library) (record {
        catalog = names.catalog;
        objects = ap are_distinct_texts ids ∙ names.objects;
        urls = names.urls;
        objects_rise = rises-mapped _ _ (λ a b. nat_lt a.serial b.serial) change library.objects
            (λ x y here there t u. ap₂ nat_lt (bytes_serial object start size digest moment x) (bytes_serial object start size digest moment y) ∙ t) names.objects_rise
            names.objects_rise;
        segments_rise = names.segments_rise;
        requests_rise = names.requests_rise;
        hooks_rise = names.hooks_rise;
        events_rise = names.events_rise;
        serials = subst (λ (l : List ℕ). Serials library.next_serial
            (l ++ map (λ row. row.serial) library.segments ++ map (λ row. row.serial) library.requests ++ map (λ row. row.serial) library.outbox.hooks ++ map
            (λ row. row.serial) library.outbox.events)) (sym serials) names.serials;
        least = names.least;
        most = names.most;
      });
      sources = good.sources;
      collections = good.collections;
      requests = good.requests;
      outbox = good.outbox;
      texts = Texts-test (after_store moment object start size digest library) (record {
        sources = texts.sources;
        flows = texts.flows;
        objects = list_all-mapped is_object_text change library.objects (λ row here.
            let parts = and_parts (is_object_id row.id) (is_moment row.idle_since) (list_all-In is_object_text library.objects texts.objects row here) in
            cond_both (bytes_eq row.id object) (stored_row start size digest moment row) row (λ r. is_object_text r ≡ true)
            (λ e. and_from (is_object_id row.id) (is_moment moment) parts.0 at)
            (λ e. and_from (is_object_id row.id) (is_moment row.idle_since) parts.0 parts.1));
        requests = texts.requests;
        hooks = texts.hooks;
        events = texts.events;
      });
    }
