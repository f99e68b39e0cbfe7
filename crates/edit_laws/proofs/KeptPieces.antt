-- A post of pieces is kept whole, and is a good command.
use Rattle.std.proofs.Common.{◌≡◌, inl, inr, ℕ, ℤ, ◌-ℤ◌, Bool, true, false, not, List, [], ◌∷◌, ◌++◌, filter, Option, Some, None, IfSome, refl, sym, ap, ap₂, subst, ◌∙◌}
use Rattle.std.specs.Prelude.{◌==◌, ◌&&◌, slice_get}
use Rattle.std.specs.List.{list_all}
use Rattle.std.proofs.lemmas.Bool.{and_parts, eqb-true}
use Rattle.std.proofs.lemmas.List.Elements.{All-contains}
use Rattle.time_range.specs.Points.{Has, IsRange, Overlap, instant}
use Rattle.time_range.specs.declared.ranges.Span.{Span}
use Rattle.media_rows.specs.declared.change.Change.TheVariants as changes
use Rattle.media_rows.specs.declared.flow.FlowRow.{FlowRow}
use Rattle.media_rows.specs.declared.refusal.Refusal.TheVariants as refusals
use Rattle.media_rows.specs.declared.reply.Reply.TheVariants as replies
use Rattle.media_rows.specs.declared.reply.SortedPosts.{SortedPosts}
use Rattle.media_rows.specs.declared.segment.PostList.{PostList}
use Rattle.media_rows.specs.declared.segment.Segment.{Segment}
use Rattle.media_rows.specs.declared.segment.SegmentRow.{SegmentRow}
use Rattle.media_rows.specs.Answer.{answer_by, change_refusal, changed, list_refusal, list_reply}
use Rattle.media_rows.specs.Catalog.{flow_of, flow_refusals}
use Rattle.media_rows.specs.Good.{Good, are_compatible, is_segment_good}
use Rattle.media_rows.specs.Library.{Library}
use Rattle.media_rows.specs.Lists.{in_order, or_else, rises}
use Rattle.media_rows.specs.Objects.{is_stored_object}
use Rattle.media_rows.specs.Posts.{kept_behind, overlap_refusal, post_refusal, refusals_behind}
use Rattle.media_rows.specs.Ranges.{has_both_ends, overlaps}
use Rattle.media_rows.specs.Refusals.{first_refusal, when}
use Rattle.media_rows.specs.Requests.{is_deleting}
use Rattle.media_rows.specs.Segments.{list_post, names_object, overlapping, posted, segments_of, starts_before}
use Rattle.media_rows.proofs.RangeLemmas.{overlaps_decides}
use Rattle.segment_pieces.specs.Laws.{IsPieceOfGood, PiecesShowWhatWasShown, PostsAreGood}
use Rattle.library_laws.proofs.ListLemmas.{Contains-from_In, In, In-append, In-filter, list_all-In, rises-filter}
use Rattle.library_laws.proofs.SortedLemmas.{whole_is_kept}
use Rattle.range_edit.specs.Assembling.{IsPieceOf, Taking, clip_of, place_of, shift_of, taken_by, takings_in, takings_of}
use Rattle.range_edit.specs.declared.list.EditRow.{EditRow}
use Rattle.edit_laws.specs.Laws.{HaveSoundRanges, IsGoodCut, IsOfFlow, PiecesAreGoodPosts, PiecesAreKept}
use Rattle.edit_laws.proofs.EditLemmas.{point_before}
use Rattle.edit_laws.proofs.EndLemmas.{Has-moved, IsClosedIf, overlap_point, overlaps_outer, part_is_closed}
use Rattle.edit_laws.proofs.PairLemmas.{All-from_In, AllZip-first, EachPair, EachPair-AllZip, EachPair-flat_map, EachPair-in_order, EachPair-map, EachPair-rises, EachPair-weaker, filter-none}
use Rattle.edit_laws.proofs.ShowLemmas.{compatible, no_common_point}
use Rattle.edit_laws.proofs.TakenLemmas.{In-posted, In-takings_in, In-takings_of, PlacesApart, overlapping-In, places_are_apart, places_are_free, taking_of}

-- ---- pieces of one row and of several

-- a point is in a taking, moved
record HasMoved (taking : Taking) (p : ℤ) : Type 0 where
  segment : Has taking.segment.range (p -ℤ instant taking.clip.shift)
  clip : Has taking.clip.range (p -ℤ instant taking.clip.shift)

-- two takings have no point in common
TakingsApart : Taking → Taking → Type 0
TakingsApart one other = (p : ℤ) → HasMoved one p → HasMoved other p → ⊥

-- two segments have no point in common
SegmentsApart : SegmentRow → SegmentRow → Type 0
SegmentsApart one other =
    (p : ℤ) → Has one.segment.range p → Has other.segment.range p → ⊥

-- two compatible segments of the list of one flow have none
flow_apart : (segments : List SegmentRow) (flow : ℕ) (test : SegmentRow → Bool) (a b : SegmentRow)
    → In a (filter test (segments_of flow segments))
    → In b (filter test (segments_of flow segments)) → are_compatible a b ≡ true
    → SegmentsApart a b
unfolding SegmentsApart
flow_apart segments flow test a b one two e p h k =
    let first =
    In-filter (λ r. r.flow == flow) segments a (In-filter test (segments_of flow segments) a one).0
    in
    let second =
    In-filter (λ r. r.flow == flow) segments b (In-filter test (segments_of flow segments) b two).0
    in
    no_common_point a b p e (eqb-true a.flow flow first.1 ∙ sym (eqb-true b.flow flow second.1)) h k

-- so the segments that a row takes have none
taken_apart : (library : Library) → Good library → (row : EditRow)
    → EachPair SegmentsApart (taken_by library row)
unfolding SegmentsApart
taken_apart library good row =
    let test : SegmentRow → Bool =
    λ r. overlaps r.segment.range row.range && names_object None r in
    let listed = filter test (segments_of row.flow library.segments) in
    EachPair-in_order SegmentsApart starts_before listed (λ a b apart p h k. apart p k h)
    (EachPair-weaker (λ a b. are_compatible a b ≡ true) SegmentsApart listed
    (λ a b one two e. flow_apart library.segments row.flow test a b one two e)
    (EachPair-rises are_compatible listed
    (rises-filter are_compatible test (segments_of row.flow library.segments)
    (rises-filter are_compatible (λ r. r.flow == row.flow) library.segments
    (compatible library good)))))

-- and what it takes of them
row_apart : (library : Library) → Good library → (row : EditRow)
    → EachPair TakingsApart (takings_of library row)
unfolding SegmentsApart TakingsApart
row_apart library good row =
    EachPair-map TakingsApart (taking_of library row) (taken_by library row)
    (EachPair-weaker SegmentsApart
    (λ a b. TakingsApart (taking_of library row a) (taking_of library row b))
    (taken_by library row)
    (λ a b one two apart p h k. apart (point_before row p) h.segment k.segment)
    (taken_apart library good row))

-- what a row takes is in its place
in_place : (library : Library) (row : EditRow) (taking : Taking)
    → In taking (takings_of library row) → (p : ℤ) → HasMoved taking p → Has (place_of row) p
in_place library row taking here p has =
    let own = In-takings_of library row taking here in
    let moved_has : HasMoved (taking_of library row own.0) p =
    subst (λ (t : Taking). HasMoved t p) own.2 has in
    (Has-moved row.range (shift_of row) p).1 moved_has.clip

-- all takings of a list have no point in common
takings_apart : (library : Library) (target : ℕ) (rows : List EditRow) (posts : PostList)
    → IsGoodCut library target rows posts → EachPair TakingsApart (takings_in library rows)
unfolding TakingsApart
takings_apart library target rows posts given =
    EachPair-flat_map PlacesApart TakingsApart (takings_of library) rows
    (λ row here. row_apart library given.good row)
    (λ a b apart one other first second p h k.
    apart (p, in_place library a one first p h, in_place library b other second p k))
    (places_are_apart library target rows given.cut.taken)

-- ---- one piece

-- what a piece of a list is
record IsOneOf (library : Library) (target : ℕ) (piece : Segment) : Type 0 where
  stored : is_stored_object library.objects piece.object ≡ true
  ends : IsClosedIf piece.range
  clear : (s : SegmentRow) → In s library.segments → s.flow ≡ target
      → overlaps s.segment.range piece.range ≡ true → ⊥

-- a segment of a good library has both ends
ends_of : (library : Library) → Good library → (s : SegmentRow) → In s library.segments
    → has_both_ends s.segment.range ≡ true
ends_of library good s here =
    let all = (and_parts (rises are_compatible library.segments)
    (list_all (is_segment_good library.catalog.flows) library.segments) good.segments).1 in
    (and_parts (has_both_ends s.segment.range) _
    (list_all-In (is_segment_good library.catalog.flows) library.segments all s here)).0

-- a piece of a list is so
one_of : PiecesShowWhatWasShown → (library : Library) (target : ℕ) (rows : List EditRow)
    (posts : PostList) → IsGoodCut library target rows posts → (piece : Segment)
    → In piece posts.segments → IsOneOf library target piece
one_of law library target rows posts given piece here =
    let found =
    AllZip-first IsPieceOf (takings_in library rows) posts.segments given.cut.pieces piece here in
    let own = In-takings_in library rows found.0 found.1 in
    let s = own.s in
    let row = own.row in
    let is : IsPieceOf (taking_of library row s) piece =
    subst (λ (t : Taking). IsPieceOf t piece) own.is found.2 in
    let shows_it = law (clip_of library row) s.segment piece is in
    let closed : IsClosedIf piece.range =
    subst IsClosedIf (sym is.range) (part_is_closed s.segment.range row.range (shift_of row)
    (ends_of library given.good s own.taken.among)) in
    record {
      stored = ap (is_stored_object library.objects) is.object
          ∙ list_all-In (λ r. is_stored_object library.objects r.segment.object) library.segments
          given.good.references s own.taken.among;
      ends = closed;
      clear = λ other among under e.
          subst (In other) (places_are_free library target rows given.cut.taken row own.among)
          (overlapping-In library.segments target (place_of row) other among under
          (overlaps_outer other.segment.range piece.range (place_of row) closed
          (λ p has. (Has-moved row.range (shift_of row) p).1 ((shows_it.points p).0 has).1) e));
    }

-- two pieces don't overlap
PiecesApart : Segment → Segment → Type 0
PiecesApart one other = overlaps one.range other.range ≡ true → ⊥

-- those of a list don't
pieces_apart : PiecesShowWhatWasShown → (library : Library) (target : ℕ) (rows : List EditRow)
    (posts : PostList) → IsGoodCut library target rows posts
    → EachPair PiecesApart posts.segments
unfolding PiecesApart TakingsApart
pieces_apart law library target rows posts given =
    let one = one_of law library target rows posts given in
    EachPair-weaker (λ a b. Overlap a.range b.range → ⊥) PiecesApart posts.segments
    (λ a b first second apart e.
    apart (overlap_point a.range b.range (one a first).ends (one b second).ends e))
    (EachPair-AllZip IsPieceOf TakingsApart (λ a b. Overlap a.range b.range → ⊥)
    (takings_in library rows) posts.segments given.cut.pieces
    (λ s t a b apart is_one is_other overlap.
    let p = overlap.0 in
    let first = ((law s.clip s.segment a is_one).points p).0 overlap.1 in
    let second = ((law t.clip t.segment b is_other).points p).0 overlap.2 in
    apart p (record { segment = first.0; clip = first.1 })
    (record { segment = second.0; clip = second.1 }))
    (takings_apart library target rows posts given))

-- ---- none is refused

-- no segment of the flow overlaps the range
none_overlaps : (segments : List SegmentRow) (flow : ℕ) (range : Option Span)
    → ((s : SegmentRow) → In s segments → s.flow ≡ flow
    → overlaps s.segment.range range ≡ true → ⊥)
    → overlapping segments flow range None ≡ []
none_overlaps segments flow range none =
    ap (in_order starts_before)
    (filter-none (λ row. overlaps row.segment.range range && names_object None row)
    (segments_of flow segments)
    (λ s here e. let kept = In-filter (λ r. r.flow == flow) segments s here in
    none s kept.0 (eqb-true s.flow flow kept.1)
    (and_parts (overlaps s.segment.range range) true e).0))

-- a segment whose object is stored, and that no kept one overlaps, isn't refused
post_is_kept : (library : Library) (flow : ℕ) (front : List Segment) (post : Segment)
    → IsOneOf library flow post → ((one : Segment) → In one front → PiecesApart one post)
    → post_refusal library flow front post ≡ None
unfolding PiecesApart
post_is_kept library flow front post is apart =
    let kept = kept_behind library flow front in
    let free = none_overlaps kept flow post.range (λ s here under e.
    elim (In-append library.segments (posted flow library.next_serial front) s here) [
      | inl old ↦ is.clear s old under e
      | inr new ↦ apart s.segment (In-posted flow library.next_serial front s new).1 e
    ]) in
    ap (λ b. or_else (when (not b) (refusals.NoObject post.object))
    (overlap_refusal (slice_get (overlapping kept flow post.range None) 0))) is.stored
    ∙ ap (λ l. overlap_refusal (slice_get l 0)) free

-- and of a list whose segments are so none is
none_refused : (library : Library) (flow : ℕ) (front posts : List Segment)
    → ((post : Segment) → In post posts → IsOneOf library flow post)
    → ((one post : Segment) → In one front → In post posts → PiecesApart one post)
    → EachPair PiecesApart posts → first_refusal (refusals_behind library flow front posts) ≡ None
none_refused library flow front [] is apart pairs = refl
none_refused library flow front (post ∷ later) is apart pairs =
    ap (λ o. or_else o (first_refusal (refusals_behind library flow (front ++ post ∷ []) later)))
    (post_is_kept library flow front post (is post (inl refl))
    (λ one here. apart one post here (inl refl)))
    ∙ none_refused library flow (front ++ post ∷ []) later (λ other here. is other (inr here))
    (λ one other here there. elim (In-append front (post ∷ []) one here) [
      | inl old ↦ apart one other old (inr there)
      | inr (inl same) ↦ subst (λ (s : Segment). PiecesApart s other) (sym same)
          (pairs.0 other there)
      | inr (inr bad) ↦ absurd bad
    ])
    pairs.1

-- ---- the answer

-- nothing stands behind the first
or_else-none : {X : Type 0} (o : Option X) → or_else o None ≡ o
or_else-none None = refl
or_else-none (Some x) = refl

-- a flow that may be read-only
read_only : (test : Bool)
    → IfSome (or_else (when test refusals.ReadOnly) None) IsOfFlow
read_only true = inr refl
read_only false = tt

-- the refusals of a flow that is kept
of_flow : (test : Bool) (kept : Option FlowRow) → (kept ≡ None → ⊥)
    → IfSome (or_else (when test refusals.Deleting) (first_refusal (flow_refusals kept))) IsOfFlow
of_flow true kept there = inl refl
of_flow false None there = absurd (there refl)
of_flow false (Some row) there = read_only row.body.read_only

-- a list as a post
same_list : (posts : PostList) → posts.single ≡ false → list_post posts.segments ≡ posts
same_list posts e =
    ap (λ b. let post : PostList = record { single = b; segments = posts.segments } in post) (sym e)

-- pieces are kept whole
pub pieces_are_kept : PiecesShowWhatWasShown → PiecesAreKept
pieces_are_kept law library target rows posts given =
    let whole = whole_is_kept library target [] posts.segments
    (none_refused library target [] posts.segments (one_of law library target rows posts given)
    (λ one other here there. absurd here)
    (pieces_apart law library target rows posts given)) in
    let refusal = ap (λ (s : SortedPosts). or_else (change_refusal library target) (list_refusal s))
    whole
    ∙ or_else-none (change_refusal library target) in
    record {
      whole = whole;
      refusal = refusal;
      reasons = of_flow (is_deleting library.requests target) (flow_of target library.catalog.flows)
          given.cut.kept;
      answered = λ moment. ap₂ answer_by refusal
          (ap (λ (s : SortedPosts). changed (list_reply s.failed)
          (changes.AddSegments moment target (list_post s.kept))) whole
          ∙ ap (λ l. changed replies.Created (changes.AddSegments moment target l))
          (same_list posts given.cut.list));
    }

-- ---- a good command

-- where ranges are sound, a piece is that of a segment which its clip overlaps
piece_of_good : (library : Library) (target : ℕ) (rows : List EditRow) (posts : PostList)
    → IsGoodCut library target rows posts → HaveSoundRanges library rows → (piece : Segment)
    → In piece posts.segments → IsPieceOfGood piece
piece_of_good library target rows posts given sound piece here =
    let found =
    AllZip-first IsPieceOf (takings_in library rows) posts.segments given.cut.pieces piece here in
    let own = In-takings_in library rows found.0 found.1 in
    let s = own.s in
    record {
      clip = clip_of library own.row;
      segment = s.segment;
      is_piece = subst (λ (t : Taking). IsPieceOf t piece) own.is found.2;
      overlap = (overlaps_decides s.segment.range own.row.range
          (All-contains (λ (r : SegmentRow). IsRange r.segment.range) library.segments s
          sound.of_segments (Contains-from_In library.segments s own.taken.among))
          (All-contains (λ (r : EditRow). IsRange r.range) rows own.row sound.of_rows
          (Contains-from_In rows own.row own.among))).0 own.taken.overlap;
      bounded = ends_of library given.good s own.taken.among;
    }

-- so their post is a good command
pub pieces_are_good_posts : PostsAreGood → PiecesAreGoodPosts
pieces_are_good_posts law library target rows posts given sound =
    law library target posts (All-from_In IsPieceOfGood posts.segments
    (piece_of_good library target rows posts given sound))
