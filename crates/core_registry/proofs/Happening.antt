-- Hulls of posts and of rows, and what happens when segments and flows go.
use Rattle.std.proofs.Common.{◌≡◌, ℕ, ℤ, Bool, true, false, not, cond, List, [], ◌∷◌, ◌++◌, Option, Some, None, is_some, is_none, drop, filter, find, map, refl, sym, ap, ap₂, subst, ◌∙◌, arith}
use Rattle.std.specs.Prelude.{◌+◌, ◌==◌, ◌≤◌, if◌then◌else◌, length, suc}
use Rattle.std.specs.List.{list_all, list_any}
use Rattle.std.proofs.lemmas.Bool.{and_parts, eqb-true}
use Rattle.std.proofs.lemmas.Int.{ints, clamps}
use Rattle.time_range.specs.declared.ranges.Span.{Span}
use Rattle.media_rows.specs.declared.event.EventKind.TheVariants.{SegmentsAdded, SegmentsDeleted}
use Rattle.media_rows.specs.declared.event.EventKind.{EventKind}
use Rattle.media_rows.specs.declared.event.EventRow.{EventRow}
use Rattle.media_rows.specs.declared.event.Happened.{Happened}
use Rattle.media_rows.specs.declared.flow.FlowRow.{FlowRow}
use Rattle.media_rows.specs.declared.segment.Segment.{Segment}
use Rattle.media_rows.specs.declared.segment.SegmentRow.{SegmentRow}
use Rattle.media_rows.specs.declared.source.SourceRow.{SourceRow}
use Rattle.media_rows.specs.Catalog.{Catalog, after_drop, after_touch, flow_of, flows_after_drop, has_flow, source_of, touched, with_flow}
use Rattle.media_rows.specs.Collections.{without_entries}
use Rattle.media_rows.specs.Events.{added_events, drop_events, gone_events, kept_segments_events, removed_events}
use Rattle.media_rows.specs.Good.{are_sources_good, fits_kept}
use Rattle.media_rows.specs.Ranges.{hull, hull_of, lower, higher}
use Rattle.media_rows.specs.Segments.{hull_of_segments, posted}
use Rattle.webhook_outbox.specs.Delivered.{IsBehind}
use Rattle.core_registry.specs.Going.{ending_events, going_events, hull_events, hull_if_any}
use Rattle.core_registry.specs.Within.{gone_if, hull_if_told}

-- ---- hulls

lower_join : (a b c : Option ℤ) → lower (lower a b) c ≡ lower a (lower b c)
lower_join None b c = refl
lower_join (Some a) None c = refl
lower_join (Some a) (Some b) None = refl
lower_join (Some a) (Some b) (Some c) = ap Some (omega (arith, ints, clamps))

higher_join : (a b c : Option ℤ) → higher (higher a b) c ≡ higher a (higher b c)
higher_join None b c = refl
higher_join (Some a) None c = refl
higher_join (Some a) (Some b) None = refl
higher_join (Some a) (Some b) (Some c) = ap Some (omega (arith, ints, clamps))

-- a range with these ends
abbrev ends : Option ℤ → Option ℤ → Option Span
ends low high = Some (record { low = low; high = high })

-- hulls of three ranges, the first two first
pub hull_join : (a b c : Option Span) → hull (hull a b) c ≡ hull a (hull b c)
hull_join None b c = refl
hull_join (Some a) None c = refl
hull_join (Some a) (Some b) None = refl
hull_join (Some a) (Some b) (Some c) = ap₂ ends (lower_join a.low b.low c.low) (higher_join a.high b.high c.high)

-- never adds nothing
pub hull_none : (a : Option Span) → hull a None ≡ a
hull_none None = refl
hull_none (Some a) = refl

-- the rows of a post have its ranges
pub posted_hull : (flow serial : ℕ) (posts : List Segment) → hull_of_segments (posted flow serial posts) ≡ hull_of (map (λ post. post.range) posts)
posted_hull flow serial [] = refl
posted_hull flow serial (post ∷ posts) = ap (hull post.range) (posted_hull flow (serial + 1) posts)

-- ---- segments that go

hull_told : (kind : EventKind) (kept : Option FlowRow) (rows : List SegmentRow) → kept_segments_events kind kept rows
    ≡ hull_events kind kept (hull_of_segments rows)
hull_told kind None rows = refl
hull_told kind (Some row) rows = refl

-- what a post makes happen needs the hull of its segments alone
pub added_told : (catalog : Catalog) (flow serial : ℕ) (posts : List Segment) → added_events catalog flow (posted flow serial posts)
    ≡ hull_events SegmentsAdded (flow_of flow catalog.flows) (hull_of (map (λ post. post.range) posts))
added_told catalog flow serial posts =
    hull_told SegmentsAdded (flow_of flow catalog.flows) (posted flow serial posts)
    ∙ ap (hull_events SegmentsAdded (flow_of flow catalog.flows)) (posted_hull flow serial posts)

-- of segments that go, what happens needs their hull alone
pub going_told : (catalog : Catalog) (flow : ℕ) (rows : List SegmentRow) → removed_events catalog flow rows ≡ going_events catalog flow (hull_if_any rows)
going_told catalog flow rows = by (length rows == 0)
  where
    by : (t : Bool) → (if t then [] else kept_segments_events SegmentsDeleted (flow_of flow catalog.flows) rows)
        ≡ going_events catalog flow (if t then None else Some (hull_of_segments rows))
    by true = refl
    by false = hull_told SegmentsDeleted (flow_of flow catalog.flows) rows

pub ending_told : (catalog : Catalog) (flow : ℕ) (rows : List SegmentRow) → drop_events catalog flow rows ≡ ending_events catalog flow (hull_if_any rows)
ending_told catalog flow rows = ap (λ l. l ++ gone_events catalog (flow_of flow catalog.flows)) (going_told catalog flow rows)

-- ---- a flow that goes

others_stay : (id moment : ℕ) (flows : List FlowRow) → filter (λ row. not (row.body.id == id)) (with_flow id (touched moment) flows) ≡ filter
    (λ row. not (row.body.id == id)) flows
others_stay id moment [] = refl
others_stay id moment (row ∷ rows) = by (row.body.id == id) refl (others_stay id moment rows)
  where
    by : (t : Bool) → (row.body.id == id) ≡ t
        → filter (λ r. not (r.body.id == id)) (with_flow id (touched moment) rows) ≡ filter (λ r. not (r.body.id == id)) rows
        → filter (λ r. not (r.body.id == id)) (cond t (touched moment row) row ∷ with_flow id (touched moment) rows)
        ≡ filter (λ r. not (r.body.id == id)) (row ∷ rows)
    by true e rest = rw e rest
    by false e rest = rw e (ap (λ l. row ∷ l) rest)

flows_forget : (id moment : ℕ) (flows : List FlowRow) → flows_after_drop id (with_flow id (touched moment) flows) ≡ flows_after_drop id flows
flows_forget id moment flows = ap (map (without_entries id)) (others_stay id moment flows)

-- a flow that goes leaves nothing of the moment at which its segments did
pub forgets : (catalog : Catalog) (flow moment : ℕ) → after_drop flow (after_touch flow moment catalog) ≡ after_drop flow catalog
forgets catalog flow moment = ap (λ l. record { sources = filter (has_flow l) catalog.sources; flows = l }) (flows_forget flow moment catalog.flows)

-- ---- its source

-- what is found passes both tests
found : {X : Type 0} (p q : X → Bool) (xs : List X) (x : X) → list_all p xs ≡ true → find q xs ≡ Some x → (p x ≡ true) × (q x ≡ true)
found p q [] x all e = absurd (cc)
found p q (y ∷ ys) x all e = by (q y) refl e (found p q ys x (and_parts (p y) (list_all p ys) all).1)
  where
    parts : (p y ≡ true) × (list_all p ys ≡ true)
    parts = and_parts (p y) (list_all p ys) all

    by : (t : Bool) → q y ≡ t → cond t (Some y) (find q ys) ≡ Some x → (find q ys ≡ Some x → (p x ≡ true) × (q x ≡ true)) → (p x ≡ true) × (q x ≡ true)
    by true k e' rest =
        let same : y ≡ x = grind (arith, e') in
        subst (λ z. (p z ≡ true) × (q z ≡ true)) same (parts.0, k)
    by false k e' rest = rest e'

-- sources without flows are left out
none_left : (id : ℕ) (flows : List FlowRow) (sources : List SourceRow) → list_any (λ other. other.body.source == id) flows ≡ false
    → is_none (source_of id (filter (has_flow flows) sources)) ≡ true
none_left id flows [] none = refl
none_left id flows (s ∷ sources) none = by (has_flow flows s) refl (none_left id flows sources none)
  where
    false_true : false ≡ true → ⊥
    false_true e = grind (arith, e)

    here : (t : Bool) → (s.id == id) ≡ t → has_flow flows s ≡ true → is_none (source_of id (filter (has_flow flows) sources)) ≡ true
        → is_none (cond t (Some s) (source_of id (filter (has_flow flows) sources))) ≡ true
    here true e has rest =
        absurd (false_true (sym none ∙ ap (λ i. list_any (λ other. other.body.source == i) flows) (sym (eqb-true s.id id e)) ∙ has))
    here false e has rest = rest

    by : (t : Bool) → has_flow flows s ≡ t → is_none (source_of id (filter (has_flow flows) sources)) ≡ true
        → is_none (source_of id (cond t (s ∷ filter (has_flow flows) sources) (filter (has_flow flows) sources))) ≡ true
    by true has rest = here (s.id == id) refl has rest
    by false has rest = rest

-- some flow is of the source
abbrev of_source : List FlowRow → ℕ → Bool
of_source flows id = list_any (λ other. other.body.source == id) flows

-- what is left of sources, where the first one is kept by this test
abbrev left_by : Bool → List FlowRow → SourceRow → List SourceRow → List SourceRow
left_by t flows s sources = cond t (s ∷ filter (has_flow flows) sources) (filter (has_flow flows) sources)

-- a kept source is left exactly where some flow is of it
source_left : (id : ℕ) (flows : List FlowRow) (sources : List SourceRow) → is_some (source_of id sources) ≡ true
    → is_none (source_of id (filter (has_flow flows) sources)) ≡ not (of_source flows id)
source_left id flows [] kept = absurd (grind (arith, kept))
source_left id flows (s ∷ sources) kept = by (s.id == id) refl kept (source_left id flows sources)
  where
    mine : (t : Bool) → (s.id == id) ≡ true → of_source flows id ≡ t → is_none (source_of id (left_by t flows s sources)) ≡ not t
    mine true same e = rw same refl
    mine false same e = none_left id flows sources e

    skip : (t : Bool) → (s.id == id) ≡ false → is_none (source_of id (filter (has_flow flows) sources)) ≡ not (of_source flows id)
        → is_none (source_of id (left_by t flows s sources)) ≡ not (of_source flows id)
    skip true e rest = rw e rest
    skip false e rest = rest

    by : (t : Bool) → (s.id == id) ≡ t → is_some (cond t (Some s) (source_of id sources)) ≡ true
        → (is_some (source_of id sources) ≡ true → is_none (source_of id (filter (has_flow flows) sources)) ≡ not (of_source flows id))
        → is_none (source_of id (filter (has_flow flows) (s ∷ sources))) ≡ not (of_source flows id)
    by true e k rest =
        let same : s.id ≡ id = eqb-true s.id id e in
        ap (λ t. is_none (source_of id (left_by t flows s sources))) (ap (of_source flows) same) ∙ mine (of_source flows id) e refl
    by false e k rest = skip (has_flow flows s) e (rest k)

kept_some : (o : Option SourceRow) (row : FlowRow) → fits_kept o row ≡ true → is_some o ≡ true
kept_some None row e = e
kept_some (Some s) row e = refl

-- what a kept flow that goes makes happen, told by the catalog without it
pub gone_told : (catalog : Catalog) (flow : ℕ) (row : FlowRow) → are_sources_good catalog ≡ true → flow_of flow catalog.flows ≡ Some row
    → gone_if (is_none (source_of row.body.source (after_drop flow catalog).sources)) row ≡ gone_events catalog (flow_of flow catalog.flows)
gone_told catalog flow row good there =
    let all = (and_parts (list_all (λ r. fits_kept (source_of r.body.source catalog.sources) r) catalog.flows)
    (list_all (has_flow catalog.flows) catalog.sources) good).0 in
    let both = found (λ r. fits_kept (source_of r.body.source catalog.sources) r) (λ r. r.body.id == flow) catalog.flows row all there in
    let same : row.body.id ≡ flow = eqb-true row.body.id flow both.1 in
    let kept = kept_some (source_of row.body.source catalog.sources) row both.0 in
    let left = source_left row.body.source (flows_after_drop flow catalog.flows) catalog.sources kept in
    ap (λ t. gone_if t row) (left ∙ ap (λ i. not (list_any (λ other. other.body.source == row.body.source) (flows_after_drop i catalog.flows))) (sym same))
    ∙ ap (gone_events catalog) (sym there)

-- the same with its segments
pub ending_is : (catalog : Catalog) (flow : ℕ) (row : FlowRow) (told : Option (Option Span)) (t : Bool) → are_sources_good catalog ≡ true
    → flow_of flow catalog.flows ≡ Some row → t ≡ is_none (source_of row.body.source (after_drop flow catalog).sources)
    → hull_if_told row told ++ gone_if t row ≡ ending_events catalog flow told
ending_is catalog flow row None t good there e = ap (λ b. gone_if b row) e ∙ gone_told catalog flow row good there
ending_is catalog flow row (Some h) t good there e =
    ap₂ (λ (front back : List Happened). front ++ back) (ap (λ o. hull_events SegmentsDeleted o h) (sym there))
    (ap (λ b. gone_if b row) e ∙ gone_told catalog flow row good there)

-- a flow that isn't kept makes nothing happen
pub ending_none : (catalog : Catalog) (flow : ℕ) (told : Option (Option Span)) → flow_of flow catalog.flows ≡ None → [] ≡ ending_events catalog flow told
ending_none catalog flow None there = ap (gone_events catalog) (sym there)
ending_none catalog flow (Some h) there =
    ap₂ (λ (front back : List Happened). front ++ back) (ap (λ o. hull_events SegmentsDeleted o h) (sym there)) (ap (gone_events catalog) (sym there))

-- ---- serials

-- a greater serial is behind the same events
pub behind_more : (serial later : ℕ) (events : List EventRow) → serial ≤ later → IsBehind serial events → IsBehind later events
behind_more serial later [] le behind = tt
behind_more serial later (row ∷ rows) le behind = (omega (arith, le, behind.0), behind_more serial later rows le behind.1)

-- ---- loops

-- one range more
pub hull_more : (acc : Option Span) (posts : List Segment) (i : ℕ) (post : Segment) → drop i posts ≡ post ∷ drop (i + 1) posts
    → hull (hull acc post.range) (hull_of (map (λ p. p.range) (drop (i + 1) posts))) ≡ hull acc (hull_of (map (λ p. p.range) (drop i posts)))
hull_more acc posts i post shape =
    hull_join acc post.range (hull_of (map (λ (p : Segment). p.range) (drop (i + 1) posts)))
    ∙ ap (λ (l : List Segment). hull acc (hull_of (map (λ p. p.range) l))) (sym shape)

pub hull_row_more : (acc : Option Span) (rows : List SegmentRow) (i : ℕ) (row : SegmentRow) → drop i rows ≡ row ∷ drop (i + 1) rows
    → hull (hull acc row.segment.range) (hull_of_segments (drop (i + 1) rows)) ≡ hull acc (hull_of_segments (drop i rows))
hull_row_more acc rows i row shape =
    hull_join acc row.segment.range (hull_of_segments (drop (i + 1) rows)) ∙ ap (λ (l : List SegmentRow). hull acc (hull_of_segments l)) (sym shape)
