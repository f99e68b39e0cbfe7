-- What flows show once the pieces of a list are posted.
use Rattle.std.proofs.Common.{◌≡◌, ◌≢◌, inl, inr, ℕ, ℤ, ◌-ℤ◌, List, ◌++◌, sym, ap, ap₂, subst, ◌∙◌}
use Rattle.std.specs.Prelude.{filter, option_map, slice_get}
use Rattle.time_range.specs.Points.{Has, instant}
use Rattle.media_rows.specs.declared.segment.PostList.{PostList}
use Rattle.media_rows.specs.declared.segment.Segment.{Segment}
use Rattle.media_rows.specs.declared.segment.SegmentRow.{SegmentRow}
use Rattle.media_rows.specs.Library.{Library}
use Rattle.media_rows.specs.Ranges.{covers}
use Rattle.media_rows.specs.Segments.{posted}
use Rattle.segment_pieces.specs.Laws.{PiecesShowWhatWasShown, ShowsWhatWasShown}
use Rattle.segment_pieces.specs.Pieces.{IsPiece}
use Rattle.library_laws.proofs.ListLemmas.{Contains-from_In, In, In-append, In-back, In-from_Contains}
use Rattle.range_edit.specs.Assembling.{IsPieceOf, Taking, clip_of, place_of, shift_of, takings_in}
use Rattle.range_edit.specs.declared.list.EditRow.{EditRow}
use Rattle.edit_laws.specs.Laws.{EditsShow, IsGoodCut, ShowsWhatWasTaken}
use Rattle.edit_laws.specs.Showing.{Shown, just, shown_by, shows}
use Rattle.edit_laws.proofs.EndLemmas.{Has-moved, both_overlap}
use Rattle.edit_laws.proofs.PairLemmas.{AllZip-first, AllZip-second, EachPair-In}
use Rattle.edit_laws.proofs.ShowLemmas.{IsShowing, one_shows, segments_of-more, shown_cases, shows-more, shows_none, shows_some}
use Rattle.edit_laws.proofs.TakenLemmas.{In-posted, In-takings_in, IsTakenBy, PlacesApart, overlapping-In, places_are_apart, places_are_free, posted-In, taking_of, takings_in-In}

-- ---- a piece and the segment from which it was taken

-- the point from which a row moves one
abbrev pub point_before : EditRow → ℤ → ℤ
point_before row p = p -ℤ instant (shift_of row)

-- what is shown, of its two parts
abbrev shown : List ℕ → ℤ → Shown
shown object point = record { object = object; point = point }

-- a piece shows what its segment showed
same_shown : (library : Library) (row : EditRow) (s new : SegmentRow) (p : ℤ)
    → IsPiece (clip_of library row) s.segment new.segment
    → ShowsWhatWasShown (clip_of library row) s.segment new.segment
    → Has new.segment.range p → shown_by p new ≡ shown_by (point_before row p) s
same_shown library row s new p piece shows_it has = ap₂ shown piece.object (shows_it.media p has)

-- a segment of a post shows what a row's flow shows at the point before
pub record IsShownFrom (library : Library) (rows : List EditRow) (p : ℤ) (new : SegmentRow)
    : Type 0 where
  pub row : EditRow
  pub among : In row rows
  pub place : Has (place_of row) p
  pub s : SegmentRow
  pub showing : IsShowing library.segments row.flow (point_before row p) s
  pub same : shown_by p new ≡ shown_by (point_before row p) s

-- so does each piece that contains the point
pub piece_is_shown : PiecesShowWhatWasShown → (library : Library) (target : ℕ)
    (rows : List EditRow) (posts : PostList) → IsGoodCut library target rows posts
    → (new : SegmentRow) (p : ℤ) → In new.segment posts.segments → Has new.segment.range p
    → IsShownFrom library rows p new
piece_is_shown law library target rows posts given new p here has =
    let found =
    AllZip-first IsPieceOf (takings_in library rows) posts.segments given.cut.pieces new.segment
    here in
    let own = In-takings_in library rows found.0 found.1 in
    let piece : IsPieceOf (taking_of library own.row own.s) new.segment =
    subst (λ (t : Taking). IsPieceOf t new.segment) own.is found.2 in
    let shows_it = law (clip_of library own.row) own.s.segment new.segment piece in
    let points = (shows_it.points p).0 has in
    record {
      row = own.row;
      among = own.among;
      place = (Has-moved own.row.range (shift_of own.row) p).1 points.1;
      s = own.s;
      showing = record {
        among = own.taken.among;
        under = own.taken.under;
        has = points.0;
      };
      same = same_shown library own.row own.s new p piece shows_it has;
    }

-- a row of a post that contains the point and shows this
pub record Shows (flow serial : ℕ) (posts : List Segment) (p : ℤ) (what : Shown) : Type 0 where
  pub new : SegmentRow
  pub among : In new (posted flow serial posts)
  pub under : new.flow ≡ flow
  pub has : Has new.segment.range p
  pub same : shown_by p new ≡ what

-- a segment that shows at the point before has a piece that does
pub shown_has_piece : PiecesShowWhatWasShown → (library : Library) (target serial : ℕ)
    (rows : List EditRow) (posts : PostList) → IsGoodCut library target rows posts
    → (p : ℤ) (row : EditRow) → In row rows → Has (place_of row) p → (s : SegmentRow)
    → IsShowing library.segments row.flow (point_before row p) s
    → Shows target serial posts.segments p (shown_by (point_before row p) s)
shown_has_piece law library target serial rows posts given p row here place s is =
    let before = (Has-moved row.range (shift_of row) p).0 place in
    let taken : IsTakenBy library row s = record {
      among = is.among;
      under = is.under;
      overlap = both_overlap s.segment.range row.range (point_before row p) is.has before;
    } in
    let found =
    AllZip-second IsPieceOf (takings_in library rows) posts.segments given.cut.pieces
    (taking_of library row s)
    (takings_in-In library rows row s here taken) in
    let new = posted-In target serial posts.segments found.0 found.1 in
    let piece : IsPieceOf (taking_of library row s) new.row.segment =
    subst (IsPieceOf (taking_of library row s)) (sym new.segment) found.2 in
    let shows_it = law (clip_of library row) s.segment new.row.segment piece in
    let has = (shows_it.points p).1 (is.has, before) in
    record {
      new = new.row;
      among = new.among;
      under = new.under;
      has = has;
      same = same_shown library row s new.row p piece shows_it has;
    }

-- ---- in the place of a row

-- a segment that shows at the point before one of this row
pub record IsShownBy (library : Library) (row : EditRow) (p : ℤ) (new : SegmentRow) : Type 0 where
  pub s : SegmentRow
  pub showing : IsShowing library.segments row.flow (point_before row p) s
  pub same : shown_by p new ≡ shown_by (point_before row p) s

-- rows whose places have one point are one row
same_row : (library : Library) (target : ℕ) (rows : List EditRow) (posts : PostList)
    → IsGoodCut library target rows posts → (p : ℤ) (a b : EditRow) → In a rows → In b rows
    → Has (place_of a) p → Has (place_of b) p → a ≡ b
same_row library target rows posts given p a b one two h k =
    elim (EachPair-In PlacesApart rows (places_are_apart library target rows given.cut.taken) a b
    one two) [
      | inl same ↦ same
      | inr (inl apart) ↦ absurd (apart (p, h, k))
      | inr (inr apart) ↦ absurd (apart (p, k, h))
    ]

-- none of the target's segments contains the point
none_of_target : (library : Library) (target : ℕ) (rows : List EditRow) (posts : PostList)
    → IsGoodCut library target rows posts → (p : ℤ) (row : EditRow) → In row rows
    → Has (place_of row) p → (old : SegmentRow) → In old library.segments → old.flow ≡ target
    → Has old.segment.range p → ⊥
none_of_target library target rows posts given p row here place old among under has =
    subst (In old) (places_are_free library target rows given.cut.taken row here)
    (overlapping-In library.segments target (place_of row) old among under
    (both_overlap old.segment.range (place_of row) p has place))

-- what shows there is a piece that the row takes
shown_within : PiecesShowWhatWasShown → (library : Library) (target serial : ℕ)
    (rows : List EditRow) (posts : PostList) → IsGoodCut library target rows posts
    → (p : ℤ) (row : EditRow) → In row rows → Has (place_of row) p → (new : SegmentRow)
    → IsShowing (library.segments ++ posted target serial posts.segments) target p new
    → IsShownBy library row p new
shown_within law library target serial rows posts given p row here place new is =
    elim (In-append library.segments (posted target serial posts.segments) new is.among) [
      | inl old ↦ absurd (none_of_target library target rows posts given p row here place new old
          is.under is.has)
      | inr added ↦ (
          let from = piece_is_shown law library target rows posts given new p
          (In-posted target serial posts.segments new added).1 is.has in
          let own : IsShownBy library from.row p new =
          record { s = from.s; showing = from.showing; same = from.same } in
          subst (λ (r : EditRow). IsShownBy library r p new)
          (same_row library target rows posts given p from.row row from.among here from.place place)
          own)
    ]

-- so the target shows what the row's flow showed
pub within_place : PiecesShowWhatWasShown → (library : Library) (target serial : ℕ)
    (rows : List EditRow) (posts : PostList) → IsGoodCut library target rows posts
    → (p : ℤ) (row : EditRow) → In row rows → Has (place_of row) p
    → shows (library.segments ++ posted target serial posts.segments) target p
    ≡ shows library.segments row.flow (point_before row p)
within_place law library target serial rows posts given p row here place =
    let old = library.segments in
    let added = posted target serial posts.segments in
    let q : ℤ = point_before row p in
    let from = shown_within law library target serial rows posts given p row here place in
    elim (shown_cases old row.flow q) [
      | inl none ↦ (
          shows_none (old ++ added) target p (λ new is. none (from new is).s (from new is).showing)
          ∙ sym (shows_none old row.flow q none))
      | inr some ↦ (
          let s = some.0 in
          let new = shown_has_piece law library target serial rows posts given p row here place s
          some.1 in
          let one : (other : SegmentRow) → IsShowing old row.flow q other → other ≡ s =
          λ other is. one_shows library given.good row.flow q other s is some.1 in
          shows_some (old ++ added) target p (shown_by q s) new.new (record {
            among = In-back old added new.new new.among;
            under = new.under;
            has = new.has;
          })
          (λ other is. (from other is).same
          ∙ ap (shown_by q) (one (from other is).s (from other is).showing))
          ∙ sym (shows_some old row.flow q (shown_by q s) s some.1
          (λ other is. ap (shown_by q) (one other is))))
    ]

-- ---- all together

-- a flow of which no segment is added shows what it showed
others_show : (old added : List SegmentRow) (flow : ℕ) (p : ℤ)
    → ((row : SegmentRow) → In row added → row.flow ≢ flow)
    → shows (old ++ added) flow p ≡ shows old flow p
others_show old added flow p apart =
    ap (λ l. option_map (shown_by p)
    (slice_get (filter (λ row. covers row.segment.range (just p)) l) 0))
    (segments_of-more old added flow apart)

-- the segments behind a post
shows_taken : PiecesShowWhatWasShown → (library : Library) (target serial : ℕ)
    (rows : List EditRow) (posts : PostList) → IsGoodCut library target rows posts
    → ShowsWhatWasTaken library.segments
    (library.segments ++ posted target serial posts.segments) target rows
shows_taken law library target serial rows posts given =
    let old = library.segments in
    let added = posted target serial posts.segments in
    let posts_of = In-posted target serial posts.segments in
    record {
      within = λ p row here place. within_place law library target serial rows posts given p row
          (In-from_Contains rows row here) place;
      outside = λ p none. shows-more old added target p (λ new here has.
          let from = piece_is_shown law library target rows posts given new p
          (posts_of new here).1 has in
          none from.row (Contains-from_In rows from.row from.among) from.place);
      other_segments = λ flow apart. segments_of-more old added flow
          (λ new here same. apart (sym same ∙ (posts_of new here).0));
      others = λ flow apart p. others_show old added flow p
          (λ new here same. apart (sym same ∙ (posts_of new here).0));
    }

-- what a later library shows
pub edits_show : PiecesShowWhatWasShown → EditsShow
edits_show law library later target rows posts given behind =
    subst (λ l. ShowsWhatWasTaken library.segments l target rows) (sym behind.1)
    (shows_taken law library target behind.0 rows posts given)
