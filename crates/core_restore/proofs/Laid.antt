-- Rows that rise are laid out kind by kind, and so are those of the library that they make.
use Rattle.std.proofs.Common.{◌≡◌, inl, ℕ, Bool, true, false, ◌&&◌, ◌||◌, List, [], ◌∷◌, ◌++◌, map, nat_lt, Option, Some, None, is_some, refl, sym, ap, ◌∙◌}
use Rattle.std.specs.Prelude.{unwrap_or, ◌==◌}
use Rattle.std.specs.List.{list_all}
use Rattle.std.proofs.lemmas.Bool.{and_parts, and_from, false≢true}
use Rattle.media_rows.specs.declared.flow.FlowRow.{FlowRow}
use Rattle.media_rows.specs.declared.hook.HookRow.{HookRow}
use Rattle.media_rows.specs.declared.object.ObjectRow.{ObjectRow}
use Rattle.media_rows.specs.declared.request.DeleteRow.{DeleteRow}
use Rattle.media_rows.specs.declared.row.Row.{Row}
use Rattle.media_rows.specs.declared.row.Row.TheVariants as rows
use Rattle.time_range.specs.Points.{low_of}
use Rattle.media_rows.specs.declared.segment.SegmentRow.{SegmentRow}
use Rattle.media_rows.specs.declared.source.SourceRow.{SourceRow}
use Rattle.media_rows.specs.Good.{is_good}
use Rattle.media_rows.specs.Library.{Library}
use Rattle.media_rows.specs.Lists.{in_order, rises}
use Rattle.media_rows.specs.Segments.{low_before}
use Rattle.media_rows.specs.Snapshot.{have_numbers, is_numbers, library_of, older, row_before, rows_of, segment_row_before}
use Rattle.core_rows.specs.Kinds.{Kinds, KindsMakeTheLibrary, joined, kind_of, kinds_of, library_of_kinds}
use Rattle.library_laws.specs.RowLaws.{RowsGiveTheLibrary, RowsRise}
use Rattle.library_laws.proofs.ChangesKept.{good_is_tested}
use Rattle.library_laws.proofs.ListLemmas.{In-back, list_any-from_In}
use Rattle.core_restore.specs.Restored.{RowsOfALibraryPass, PassingRowsAreOfALibrary}
use Rattle.core_restore.proofs.Backed.{back, by_flow}
use Rattle.core_restore.proofs.Handing.{numbers_are}
use Rattle.core_restore.proofs.Parted.{absent_of, flows, hooks, objects, requests, rise_of, segments, sources}
use Rattle.library_laws.proofs.RowOrder.{nested}

-- ---- rows laid out by their kinds

-- the row of numbers, where there is a next serial
abbrev last_row : Option ℕ → List Row
last_row None = []
last_row (Some next) = rows.Numbers next ∷ []

-- the rows of each kind behind those of the kinds before
abbrev laid : Kinds → List Row
laid kinds =
    map rows.Source kinds.sources ++ (map rows.Flow kinds.flows ++ (map rows.Object kinds.objects ++ (map rows.Segment kinds.segments
    ++ (map rows.Request kinds.requests ++ (map rows.Hook kinds.hooks ++ (map rows.Event kinds.events ++ last_row kinds.next_serial))))))

-- ---- rows that rise are so

module _ (row : Row) (later : List Row) (all : list_all (row_before row) later ≡ true) where
  no_sources : ((x : SourceRow) → row_before row (rows.Source x) ≡ false) → (kinds_of later).sources ≡ []
  no_sources h = absent_of (λ k. k.sources) rows.Source refl (λ a b. refl) sources row later all h

  no_flows : ((x : FlowRow) → row_before row (rows.Flow x) ≡ false) → (kinds_of later).flows ≡ []
  no_flows h = absent_of (λ k. k.flows) rows.Flow refl (λ a b. refl) flows row later all h

  no_objects : ((x : ObjectRow) → row_before row (rows.Object x) ≡ false) → (kinds_of later).objects ≡ []
  no_objects h = absent_of (λ k. k.objects) rows.Object refl (λ a b. refl) objects row later all h

  no_segments : ((x : SegmentRow) → row_before row (rows.Segment x) ≡ false) → (kinds_of later).segments ≡ []
  no_segments h = absent_of (λ k. k.segments) rows.Segment refl (λ a b. refl) segments row later all h

  no_requests : ((x : DeleteRow) → row_before row (rows.Request x) ≡ false) → (kinds_of later).requests ≡ []
  no_requests h = absent_of (λ k. k.requests) rows.Request refl (λ a b. refl) requests row later all h

  no_hooks : ((x : HookRow) → row_before row (rows.Hook x) ≡ false) → (kinds_of later).hooks ≡ []
  no_hooks h = absent_of (λ k. k.hooks) rows.Hook refl (λ a b. refl) hooks row later all h

-- nothing stands behind the row of numbers
none_last : (next : ℕ) (later : List Row) → list_all (row_before (rows.Numbers next)) later ≡ true → later ≡ []
none_last next [] all = refl
none_last next (y ∷ ys) all = absurd (by y (and_parts (row_before (rows.Numbers next) y) (list_all (row_before (rows.Numbers next)) ys) all).0)
  where
    by : (y : Row) → row_before (rows.Numbers next) y ≡ true → ⊥
    by (rows.Source x) e = false≢true e
    by (rows.Flow x) e = false≢true e
    by (rows.Object x) e = false≢true e
    by (rows.Segment x) e = false≢true e
    by (rows.Request x) e = false≢true e
    by (rows.Hook x) e = false≢true e
    by (rows.Event x) e = false≢true e
    by (rows.Numbers n) e = false≢true e

laid_first : (row : Row) (later : List Row) → list_all (row_before row) later ≡ true
    → laid (joined (kind_of row) (kinds_of later)) ≡ row ∷ laid (kinds_of later)
laid_first (rows.Source x) later all = refl
laid_first (rows.Flow x) later all =
    let row = rows.Flow x in
    rw (no_sources row later all (λ y. refl)) refl
laid_first (rows.Object x) later all =
    let row = rows.Object x in
    rw (no_sources row later all (λ y. refl), no_flows row later all (λ y. refl)) refl
laid_first (rows.Segment x) later all =
    let row = rows.Segment x in
    rw (no_sources row later all (λ y. refl), no_flows row later all (λ y. refl), no_objects row later all (λ y. refl)) refl
laid_first (rows.Request x) later all =
    let row = rows.Request x in
    rw (
      no_sources row later all (λ y. refl),
      no_flows row later all (λ y. refl),
      no_objects row later all (λ y. refl),
      no_segments row later all (λ y. refl),
    ) refl
laid_first (rows.Hook x) later all =
    let row = rows.Hook x in
    rw (
      no_sources row later all (λ y. refl),
      no_flows row later all (λ y. refl),
      no_objects row later all (λ y. refl),
      no_segments row later all (λ y. refl),
      no_requests row later all (λ y. refl),
    ) refl
laid_first (rows.Event x) later all =
    let row = rows.Event x in
    rw (
      no_sources row later all (λ y. refl),
      no_flows row later all (λ y. refl),
      no_objects row later all (λ y. refl),
      no_segments row later all (λ y. refl),
      no_requests row later all (λ y. refl),
      no_hooks row later all (λ y. refl),
    ) refl
laid_first (rows.Numbers next) later all = rw (none_last next later all) refl

laid_out : (all : List Row) → rises row_before all ≡ true → laid (kinds_of all) ≡ all
laid_out [] e = refl
laid_out (row ∷ later) e =
    let parts = and_parts (list_all (row_before row) later) (rises row_before later) e in
    laid_first row later parts.0 ∙ ap (λ l. row ∷ l) (laid_out later parts.1)

-- ---- and those of the library that they make are the same

lower_first : (a b : SegmentRow) → row_before (rows.Segment a) (rows.Segment b) ≡ true → segment_row_before a b ≡ true
lower_first a b e = by (nat_lt a.flow b.flow) (a.flow == b.flow) (low_before (low_of a.segment.range) (low_of b.segment.range)) _ e
  where
    by : (p q r s : Bool) → (p || (q && r)) ≡ true → (p || (q && (r || s))) ≡ true
    by true q r s f = refl
    by false true true s f = refl
    by false true false s f = absurd (false≢true f)
    by false false r s f = f

segments_back : (all : List Row) → rises row_before all ≡ true
    → in_order segment_row_before (in_order older (kinds_of all).segments) ≡ (kinds_of all).segments
segments_back all e =
    back segment_row_before by_flow older (kinds_of all).segments
    (rise_of (λ k. k.segments) rows.Segment refl (λ a b. refl) segments segment_row_before lower_first all e)

last_is : (next : Option ℕ) → is_some next ≡ true → rows.Numbers (unwrap_or next 1) ∷ [] ≡ last_row next
last_is None e = absurd (false≢true e)
last_is (Some next) e = refl

rows_are : (id blocks : ℕ) (all : List Row) → rises row_before all ≡ true → have_numbers all ≡ true → rows_of (library_of_kinds id blocks (kinds_of all)) ≡ all
rows_are id blocks all e some =
    let kinds = kinds_of all in
    nested (map rows.Source kinds.sources) (map rows.Flow kinds.flows) (map rows.Object kinds.objects)
    (map rows.Segment (in_order segment_row_before (in_order older kinds.segments))) (map rows.Request kinds.requests) (map rows.Hook kinds.hooks)
    (map rows.Event kinds.events) (rows.Numbers (unwrap_or kinds.next_serial 1) ∷ [])
    ∙ rw (segments_back all e, last_is kinds.next_serial (sym (numbers_are all) ∙ some)) (laid_out all e)

pub passing_rows : KindsMakeTheLibrary → PassingRowsAreOfALibrary
passing_rows made id blocks all e =
    let parts = and_parts (rises row_before all) (have_numbers all && is_good (library_of id blocks all)) e in
    let rest = and_parts (have_numbers all) (is_good (library_of id blocks all)) parts.1 in
    record {
      named = ap (λ l. l.id) (made id blocks all);
      sized = ap (λ l. l.blocks) (made id blocks all);
      good = (good_is_tested (library_of id blocks all)).0 rest.1;
      listed = ap rows_of (made id blocks all) ∙ rows_are id blocks all parts.0 rest.0;
    }

-- ---- the rows of a good library pass the test

numbered : (library : Library) → have_numbers (rows_of library) ≡ true
numbered library =
    list_any-from_In is_numbers (rows_of library) (rows.Numbers library.next_serial)
    (In-back (map rows.Source library.catalog.sources ++ map rows.Flow library.catalog.flows ++ map rows.Object library.objects
    ++ map rows.Segment (in_order segment_row_before library.segments) ++ map rows.Request library.requests ++ map rows.Hook library.outbox.hooks
    ++ map rows.Event library.outbox.events) (rows.Numbers library.next_serial ∷ []) (rows.Numbers library.next_serial) (inl refl)) refl

pub rows_pass : RowsGiveTheLibrary → RowsRise → RowsOfALibraryPass
rows_pass gives rise id blocks all library fine has =
    let same : library_of id blocks all ≡ library =
    rw (sym has.named, sym has.sized, sym has.listed) (gives library has.good) in
    and_from (rises row_before all) (have_numbers all && is_good (library_of id blocks all))
    (ap (rises row_before) (sym has.listed) ∙ rise library has.good fine)
    (and_from (have_numbers all) (is_good (library_of id blocks all)) (ap have_numbers (sym has.listed) ∙ numbered library)
    (ap is_good same ∙ (good_is_tested library).1 has.good))
