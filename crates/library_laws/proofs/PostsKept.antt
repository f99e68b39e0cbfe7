-- Segments that are posted keep a library good.
use Rattle.std.proofs.Common.{◌≡◌, inl, inr, ℕ, ◌+◌, ◌≤◌, true, false, not, ◌&&◌, ◌||◌, List, [], ◌∷◌, ◌++◌, map, filter, length, nat_lt, Option, Some, None, refl, sym, ap, subst, ◌∙◌, append_assoc, append-nil, arith}
use Rattle.std.specs.Prelude.{◌==◌, nat_le, slice_get}
use Rattle.std.specs.List.{list_all}
use Rattle.std.proofs.lemmas.List.{map-append}
use Rattle.std.proofs.lemmas.Bool.{and_parts, and_from, or_left, eq-eqb, ne_eqb, not-false, not_from_false, false≢true, false_from_ne_true}
use Rattle.time_range.specs.declared.ranges.Span.{Span}
use Rattle.media_rows.specs.declared.object.ObjectRow.{ObjectRow}
use Rattle.media_rows.specs.declared.refusal.Refusal.TheVariants as refusals
use Rattle.media_rows.specs.declared.request.DeleteRow.{DeleteRow}
use Rattle.media_rows.specs.declared.segment.Segment.{Segment}
use Rattle.media_rows.specs.declared.segment.SegmentRow.{SegmentRow}
use Rattle.media_rows.specs.Posts.{overlap_refusal, posts_refusal, kept_behind, post_refusal, refusals_behind}
use Rattle.media_rows.specs.Collections.{is_kept}
use Rattle.media_rows.specs.Good.{Good, are_compatible, is_segment_good, is_request_good}
use Rattle.media_rows.specs.Library.{Library, last_serial}
use Rattle.media_rows.specs.Lists.{rises}
use Rattle.media_rows.specs.Objects.{is_stored_object}
use Rattle.media_rows.specs.Ranges.{overlaps, has_both_ends}
use Rattle.media_rows.specs.Refusals.{when, first_refusal}
use Rattle.media_rows.specs.Requests.{is_unfinished, is_deleting, done_count, done_kept}
use Rattle.media_rows.specs.Segments.{segments_of, names_object, overlapping, starts_before, posted}
use Rattle.library_laws.proofs.ListLemmas.{In, filter-In, in_order-In, list_all-In, list_all-from_In, list_any-from_In}
use Rattle.library_laws.proofs.KeptLemmas.{Serials, counted, counted-New, rises-counted, serials_segments, list_all-both, rises-both}
use Rattle.library_laws.proofs.Neither.{neither}
use Rattle.library_laws.proofs.CatalogKept.{not_when}
use Rattle.library_laws.proofs.RequestLemmas.{request_stays_good}
use Rattle.library_laws.proofs.OutboxKept.{segment_below, Names-from, Names-test}

-- ---- what a post that isn't refused tells

no_first : {X : Type 0} (xs : List X) (x : X) → slice_get xs 0 ≡ None → In x xs → ⊥
no_first [] x e here = here
no_first (y ∷ ys) x e here = absurd (cc)

none_overlaps : (o : Option SegmentRow) → overlap_refusal o ≡ None → o ≡ None
none_overlaps None e = refl
none_overlaps (Some row) e = absurd (cc)

-- no kept segment of the flow overlaps the new one
apart_from_all : (segments : List SegmentRow) (flow : ℕ) (range : Option Span) → slice_get (overlapping segments flow range None) 0 ≡ None → (s : SegmentRow)
    → In s segments
    → ((s.flow == flow) && overlaps s.segment.range range) ≡ true → ⊥
apart_from_all segments flow range none s here e =
    let parts = and_parts (s.flow == flow) (overlaps s.segment.range range) e in
    no_first (overlapping segments flow range None) s none
    (in_order-In starts_before (filter (λ row. overlaps row.segment.range range && names_object None row) (segments_of flow segments)) s
    (filter-In (λ row. overlaps row.segment.range range && names_object None row) (segments_of flow segments) s
    (filter-In (λ row. row.flow == flow) segments s here parts.0) (and_from (overlaps s.segment.range range) true parts.1 refl)))

-- the rows of a post, one after the other
posts_step : (segments : List SegmentRow) (flow serial : ℕ) (post : Segment) → rises are_compatible segments ≡ true
    → overlap_refusal (slice_get (overlapping segments flow post.range None) 0) ≡ None
    → rises are_compatible (segments ++ record { flow = flow; serial = serial; segment = post } ∷ []) ≡ true
posts_step segments flow serial post e none =
    rises-both are_compatible segments (record { flow = flow; serial = serial; segment = post } ∷ []) e refl (λ a b here there. elim there [
      | inl same ↦ subst (λ (r : SegmentRow). are_compatible a r ≡ true) (sym same)
          (not_from_false ((a.flow == flow) && overlaps a.segment.range post.range)
          (false_from_ne_true ((a.flow == flow) && overlaps a.segment.range post.range)
          (apart_from_all segments flow post.range (none_overlaps (slice_get (overlapping segments flow post.range None) 0) none) a here)))
      | inr bad ↦ absurd bad
    ])

-- a front with one segment more
pub posted_more : (flow serial : ℕ) (front : List Segment) (post : Segment) (at : ℕ) → at ≡ serial + length front
    → posted flow serial (front ++ post ∷ []) ≡ posted flow serial front ++ record { flow = flow; serial = at; segment = post } ∷ []
posted_more flow serial [] post at e =
    let first : serial ≡ at = omega (arith, e) in ap (λ n. (let row : SegmentRow = record { flow = flow; serial = n; segment = post } in row) ∷ []) first
posted_more flow serial (x ∷ front) post at e =
    ap (λ l. (let row : SegmentRow = record { flow = flow; serial = serial; segment = x } in row) ∷ l)
    (posted_more flow (serial + 1) front post at (omega (arith, e)))

posts_compatible : (library : Library) (flow : ℕ) (front posts : List Segment) → rises are_compatible (kept_behind library flow front) ≡ true
    → first_refusal (refusals_behind library flow front posts) ≡ None → rises are_compatible (kept_behind library flow (front ++ posts)) ≡ true
posts_compatible library flow front [] e none = ap (λ l. rises are_compatible (kept_behind library flow l)) (append-nil front) ∙ e
posts_compatible library flow front (post ∷ later) e none =
    let at : ℕ = library.next_serial + length front in
    let row : SegmentRow = record { flow = flow; serial = at; segment = post } in
    let outer = neither (post_refusal library flow front post) (first_refusal (refusals_behind library flow (front ++ post ∷ []) later)) none in
    let inner = neither (when (not (is_stored_object library.objects post.object)) (refusals.NoObject post.object))
    (overlap_refusal (slice_get (overlapping (kept_behind library flow front) flow post.range None) 0)) outer.0 in
    let one_more : kept_behind library flow (front ++ post ∷ []) ≡ kept_behind library flow front ++ row ∷ [] =
    ap (λ l. library.segments ++ l) (posted_more flow library.next_serial front post at refl) ∙ sym
    (append_assoc library.segments (posted flow library.next_serial front) (row ∷ [])) in
    ap (λ l. rises are_compatible (kept_behind library flow l)) (sym (append_assoc front (post ∷ []) later))
    ∙ posts_compatible library flow (front ++ post ∷ []) later (ap (rises are_compatible) one_more ∙ posts_step (kept_behind library flow front) flow at post e
    inner.1) outer.1

-- the objects of a post that isn't refused are stored
all_stored : (library : Library) (flow : ℕ) (front posts : List Segment) → first_refusal (refusals_behind library flow front posts) ≡ None
    → (post : Segment) → In post posts → is_stored_object library.objects post.object ≡ true
all_stored library flow front [] none post here = absurd here
all_stored library flow front (first ∷ later) none post here =
    let outer = neither (post_refusal library flow front first) (first_refusal (refusals_behind library flow (front ++ first ∷ []) later)) none in
    let inner = neither (when (not (is_stored_object library.objects first.object)) (refusals.NoObject first.object))
    (overlap_refusal (slice_get (overlapping (kept_behind library flow front) flow first.range None) 0)) outer.0 in
    elim here [
      | inl same ↦ ap (λ (p : Segment). is_stored_object library.objects p.object) same
          ∙ not-false (is_stored_object library.objects first.object) (not_when (not (is_stored_object library.objects first.object))
          (refusals.NoObject first.object) inner.0)
      | inr more ↦ all_stored library flow (front ++ first ∷ []) later outer.1 post more
    ]

-- what each new row is
record IsPosted (objects : List ObjectRow) (flow : ℕ) (posts : List Segment) (row : SegmentRow) : Type 0 where
  under : row.flow ≡ flow
  among : In row.segment posts
  stored : is_stored_object objects row.segment.object ≡ true

posted_step : (objects : List ObjectRow) (flow : ℕ) (post : Segment) (later : List Segment) (first row : SegmentRow) (rows : List SegmentRow) → first
    ≡ record { flow = flow; serial = first.serial; segment = post } → In row (first ∷ rows)
    → is_stored_object objects post.object ≡ true → (In row rows → IsPosted objects flow later row) → IsPosted objects flow (post ∷ later) row
posted_step objects flow post later first row rows is (inl same) stored rest =
    let own : row ≡ record { flow = flow; serial = first.serial; segment = post } = same ∙ is in
    record {
      under = ap (λ (r : SegmentRow). r.flow) own;
      among = inl (ap (λ (r : SegmentRow). r.segment) own);
      stored = ap
          (λ (r : SegmentRow). is_stored_object objects r.segment.object) own ∙ stored;
    }
posted_step objects flow post later first row rows is (inr more) stored rest =
    let r = rest more in record { under = r.under; among = inr r.among; stored = r.stored }

posted_is : (objects : List ObjectRow) (flow serial : ℕ) (posts : List Segment)
    → ((post : Segment) → In post posts → is_stored_object objects post.object ≡ true)
    → (row : SegmentRow) → In row (posted flow serial posts) → IsPosted objects flow posts row
posted_is objects flow serial [] stored row here = absurd here
posted_is objects flow serial (post ∷ later) stored row here =
    let first : SegmentRow = record { flow = flow; serial = serial; segment = post } in
    posted_step objects flow post later first row (posted flow (serial + 1) later) refl here (stored post (inl refl))
    (posted_is objects flow (serial + 1) later (λ p more. stored p (inr more)) row)

serials-posted : (flow serial : ℕ) (posts : List Segment) → map (λ row. row.serial) (posted flow serial posts) ≡ counted serial (length posts)
serials-posted flow serial [] = refl
serials-posted flow serial (post ∷ later) = ap (λ l. serial ∷ l) (serials-posted flow (serial + 1) later)

-- ---- the library

-- the library with these posts as further segments
abbrev pub with_posts : ℕ → List Segment → Library → Library
with_posts flow posts library = record library {
  segments = library.segments ++ posted flow library.next_serial posts;
  next_serial = library.next_serial + length posts;
}

-- no request deletes the flow
free_of : (requests : List DeleteRow) (flow : ℕ) → is_deleting requests flow ≡ false → (row : DeleteRow) → In row requests → is_unfinished row ≡ true
    → row.delete_flow ≡ true → row.flow ≡ flow → ⊥
free_of requests flow none row here open_one deletes same =
    false≢true (sym none ∙ list_any-from_In (λ r. is_unfinished r && r.delete_flow && (r.flow == flow)) requests row here
    (and_from (is_unfinished row && row.delete_flow) (row.flow == flow) (and_from (is_unfinished row) row.delete_flow open_one deletes)
    (eq-eqb row.flow flow same)))

pub posts_keep_good : (library : Library) (flow : ℕ) (posts : List Segment) → Good library → is_kept library.catalog.flows flow ≡ true
    → is_deleting library.requests flow ≡ false
    → list_all (λ post. has_both_ends post.range) posts ≡ true → posts_refusal library flow posts ≡ None
    → library.next_serial + length posts ≤ last_serial
    → Good (with_posts flow posts library)
posts_keep_good library flow posts good kept free ends none most =
    let names = Names-from library good.names in
    let new : List SegmentRow = posted flow library.next_serial posts in
    let is = posted_is library.objects flow library.next_serial posts (all_stored library flow [] posts none) in
    let one = and_parts (rises are_compatible library.segments) (list_all (is_segment_good library.catalog.flows) library.segments) good.segments in
    let asked = and_parts (list_all (is_request_good library.catalog.flows library.segments) library.requests) (nat_le (done_count library.requests) done_kept)
    good.requests in
    let numbers = serials-posted flow library.next_serial posts in
    record {
      segments = and_from _ _ (posts_compatible library flow [] posts (ap (rises are_compatible) (append-nil library.segments) ∙ one.0) none)
          (list_all-both (is_segment_good library.catalog.flows) library.segments new one.1
          (list_all-from_In (is_segment_good library.catalog.flows) new (λ row here.
          and_from (has_both_ends row.segment.range) (is_kept library.catalog.flows row.flow)
          (list_all-In (λ post. has_both_ends post.range) posts ends row.segment (is row here).among)
          (ap (is_kept library.catalog.flows) (is row here).under ∙ kept))));
      references = list_all-both (λ row. is_stored_object library.objects row.segment.object) library.segments new good.references
          (list_all-from_In (λ row. is_stored_object library.objects row.segment.object) new (λ row here. (is row here).stored));
      extents = good.extents;
      names = Names-test (with_posts flow posts library) (record {
        catalog = names.catalog;
        objects = names.objects;
        urls = names.urls;
        objects_rise = names.objects_rise;
        segments_rise = rises-counted (λ row. row.serial) library.segments new library.next_serial (length posts) names.segments_rise
            (segment_below library names) numbers;
        requests_rise = names.requests_rise;
        hooks_rise = names.hooks_rise;
        events_rise = names.events_rise;
        serials = subst (λ (l : List ℕ). Serials (library.next_serial + length posts)
            (map (λ r. r.serial) library.objects ++ l ++ map (λ r. r.serial) library.requests ++ map (λ r. r.serial) library.outbox.hooks ++ map (λ r. r.serial)
            library.outbox.events))
            (ap (λ l. map (λ (row : SegmentRow). row.serial) library.segments ++ l) (sym numbers) ∙ sym (map-append (λ row. row.serial) library.segments new))
            (serials_segments library.next_serial (library.next_serial + length posts) (map (λ r. r.serial) library.objects)
            (map (λ r. r.serial) library.segments) (counted library.next_serial (length posts)) (map (λ r. r.serial) library.requests)
            (map (λ r. r.serial) library.outbox.hooks) (map (λ r. r.serial) library.outbox.events)
            names.least (omega arith) names.serials (counted-New library.next_serial (length posts)));
        least = omega (arith, names.least);
        most = most;
      });
      sources = good.sources;
      collections = good.collections;
      requests = and_from _ _ (list_all-from_In (is_request_good library.catalog.flows (library.segments ++ new)) library.requests (λ row here.
          request_stays_good library.catalog.flows library.catalog.flows library.segments (library.segments ++ new) row (λ u k. k)
          (λ u d k. list_all-both (λ s. not (s.flow == row.flow) || nat_lt s.serial row.serial) library.segments new k
          (list_all-from_In (λ s. not (s.flow == row.flow) || nat_lt s.serial row.serial) new (λ s there.
          or_left (not (s.flow == row.flow)) (nat_lt s.serial row.serial)
          (not_from_false (s.flow == row.flow) (ne_eqb s.flow row.flow
          (λ e. free_of library.requests flow free row here u d (sym e ∙ (is s there).under)))))))
          (list_all-In (is_request_good library.catalog.flows library.segments) library.requests asked.0 row here))) asked.1;
      outbox = good.outbox;
      texts = good.texts;
    }
