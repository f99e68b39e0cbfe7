-- Laws over the definitions of the library.
use Rattle.std.specs.Prelude.{◌≡◌, ◌↔◌, ◌≤◌, ◌<◌, ◌+◌, ◌==◌, ℤ, not, ℕ, Bool, IsTrue, IsFalse, List, Contains, Option, Some, None, IfSome, MatchOption, length, [], ◌∷◌, ◌++◌, filter}
use Rattle.time_range.specs.Points.{IsRange, Overlap}
use Rattle.time_range.specs.declared.ranges.Span.{Span}
use Rattle.media_rows.specs.Lists.{rises, items_past, page_items, next_key}
use Rattle.media_rows.specs.Segments.{first_point, names_object, overlapping, starts_before}
use Rattle.media_rows.specs.declared.command.Page.{Page}
use Rattle.media_rows.specs.declared.segment.SegmentRow.{SegmentRow}
use Rattle.media_rows.specs.declared.change.Change.{Change}
use Rattle.media_rows.specs.declared.command.Command.{Command}
use Rattle.media_rows.specs.declared.command.Command.TheVariants as commands
use Rattle.media_rows.specs.declared.flow.FlowRow.{FlowRow}
use Rattle.media_rows.specs.declared.flow.Member.{Member}
use Rattle.media_rows.specs.Answer.{answer, keep_refusal}
use Rattle.media_rows.specs.Sound.{is_good_command, has_good_values}
use Rattle.media_rows.specs.Apply.{is_allowed, applied, passes_serials, turn}
use Rattle.media_rows.specs.Changes.{moment_of, after}
use Rattle.media_rows.specs.Collections.{collects_itself, AnyReaches}
use Rattle.media_rows.specs.Good.{Good, is_good}
use Rattle.media_rows.specs.Moments.{is_moment}
use Rattle.media_rows.specs.declared.object.ObjectRow.{ObjectRow}
use Rattle.media_rows.specs.declared.change.Change.TheVariants as changes
use Rattle.media_rows.specs.Library.{Library, last_serial}
use Rattle.media_rows.specs.declared.event.EventRow.{EventRow}
use Rattle.media_rows.specs.declared.hook.HookRow.{HookRow}
use Rattle.media_rows.specs.declared.request.DeleteRow.{DeleteRow}
use Rattle.media_rows.specs.declared.source.SourceRow.{SourceRow}
use Rattle.media_rows.specs.Views.{source_key, flow_key}
use Rattle.media_rows.specs.Restoring.{catalog_of, objects_of, requests_of, outbox_of, can_restore_catalog, can_restore_objects, can_restore_requests, can_restore_outbox}
use Rattle.media_rows.specs.Objects.{object_of, free_place, is_free, is_stored, blocks_of}

-- ---- answers and changes

-- the storing of an object that isn't refused names a free place; nothing is asked of other
-- commands
abbrev pub HasPlace : Library → Command → Type 0
HasPlace library (commands.PutFlow body) = Unit {0}
HasPlace library (commands.SetFlow flow part) = Unit {0}
HasPlace library (commands.SetSource source part) = Unit {0}
HasPlace library (commands.DropFlow flow) = Unit {0}
HasPlace library (commands.Allocate flow want) = Unit {0}
HasPlace library (commands.Keep object start size digest) =
    keep_refusal (object_of object library.objects) ≡ None
    → IsTrue (is_free library.objects library.blocks (blocks_of size) start)
HasPlace library (commands.AddSegments flow posts) = Unit {0}
HasPlace library (commands.CutSegments flow range) = Unit {0}
HasPlace library (commands.PutHook hook) = Unit {0}
HasPlace library (commands.DropHook url) = Unit {0}
HasPlace library (commands.Ask query) = Unit {0}

-- a change is one at this moment that the library allows
pub record IsAllowedAt (library : Library) (moment : ℕ) (change : Change) : Type 0 where
  pub allowed : IsTrue (is_allowed library change)
  pub at : moment_of change ≡ moment

-- a command that is answered with a change is answered with one that the library allows, at its
-- moment
abbrev pub AnswersAreAllowed : Type 0
AnswersAreAllowed = (library : Library) (command : Command) (moment : ℕ) → HasPlace library command
    → IfSome (answer library command moment).change (IsAllowedAt library moment)

-- ---- collections

-- the bounded test finds a flow that reaches itself exactly where a way through collections leads
-- back to it
abbrev pub CirclesAreFound : Type 0
CirclesAreFound = (flows : List FlowRow) (id : ℕ) (members : List Member)
    → IsTrue (collects_itself flows id members) ↔ AnyReaches flows members id

-- ---- changes and good libraries

-- a change at a moment whose values are good, and after which the serials haven't ended
pub record IsSound (library : Library) (change : Change) : Type 0 where
  pub at : IsTrue (is_moment (moment_of change))
  pub values : IsTrue (has_good_values change)
  pub serials : (after change library).next_serial ≤ last_serial

-- a sound change that a good library allows leaves a good library
abbrev pub ChangesKeepGood : Type 0
ChangesKeepGood = (library : Library) (change : Change) → Good library
    → IsTrue (is_allowed library change) → IsSound library change → Good (after change library)

-- and so it applies: no test of the next library is needed
abbrev pub ChangesApply : Type 0
ChangesApply = (library : Library) (change : Change) → Good library
    → IsTrue (is_allowed library change) → IsSound library change
    → applied change library ≡ Some (after change library)

-- a change applies, unless the serials would end with it
abbrev pub AppliesWithin : Library → Change → Type 0
AppliesWithin library change =
    IsFalse (passes_serials change library) → applied change library ≡ Some (after change library)

-- where a command is answered with a change, the change applies, unless the serials would end
abbrev pub AnswersApply : Type 0
AnswersApply = (library : Library) (command : Command) (moment : ℕ) → Good library
    → IsTrue (is_good_command library command) → IsTrue (is_moment moment)
    → IfSome (answer library command moment).change (AppliesWithin library)

-- the change of a turn applies, unless the serials would end
abbrev pub TurnsApply : Type 0
TurnsApply = (library : Library) (moment : ℕ) → Good library → IsTrue (is_moment moment)
    → IfSome (turn library moment) (AppliesWithin library)

-- ---- places

-- a place that is found is free, and no lower one is; no blocks are placed at 0
pub record IsLeastPlace (objects : List ObjectRow) (blocks count place : ℕ) : Type 0 where
  pub free : IsTrue (is_free objects blocks count place)
  pub zero : count ≡ 0 → place ≡ 0
  pub least : (lower : ℕ) → lower < place → IsFalse (is_free objects blocks count lower)

-- no place is free
abbrev pub HasNoPlace : List ObjectRow → ℕ → ℕ → Type 0
HasNoPlace objects blocks count =
    (place : ℕ) → place < blocks → IsFalse (is_free objects blocks count place)

-- and where none is found no place is free
abbrev pub PlacesAreLeast : Type 0
PlacesAreLeast = (objects : List ObjectRow) (blocks count : ℕ)
    → MatchOption (free_place objects blocks count) (HasNoPlace objects blocks count)
    (IsLeastPlace objects blocks count)

-- the one test of a good library is its nine parts
abbrev pub GoodIsTested : Type 0
GoodIsTested = (library : Library) → IsTrue (is_good library) ↔ Good library

-- ---- steps

-- a delete step removes at most 32 segments, and a sweep at most 16 objects
pub record StepsAreBounded (library : Library) (moment : ℕ) : Type 0 where
  pub deleted : length library.segments
      ≤ length (after (changes.DeleteStep moment) library).segments + 32
  pub swept : length library.objects
      ≤ length (after (changes.SweepStep moment) library).objects + 16

-- in a good library no delete step and no sweep removes more than that
abbrev pub TurnsAreBounded : Type 0
TurnsAreBounded = (library : Library) (moment : ℕ) → Good library → StepsAreBounded library moment

-- ---- first bytes

-- an object that is stored keeps its id and its place while it is kept
abbrev pub FirstBytesStay : Type 0
FirstBytesStay = (library : Library) (change : Change) → Good library
    → IsTrue (is_allowed library change) → (old new : ObjectRow)
    → Contains library.objects old → Contains (after change library).objects new
    → new.serial ≡ old.serial → IsTrue (is_stored old.state)
    → (new.id ≡ old.id) × (new.state ≡ old.state)

-- ---- range answers and pages

-- each segment's range is one
abbrev pub HaveRanges : List SegmentRow → Type 0
HaveRanges segments = (row : SegmentRow) → Contains segments row → IsRange row.segment.range

-- what is asked for: a segment of the flow of which some point is in the range, and that names the
-- object
pub record IsAsked (segments : List SegmentRow) (flow : ℕ) (range : Option Span)
    (object : Option (List ℕ)) (row : SegmentRow) : Type 0 where
  pub kept : Contains segments row
  pub under : row.flow ≡ flow
  pub meets : Overlap row.segment.range range
  pub names : IsTrue (names_object object row)

-- the answer to a range has just the segments that are asked for
abbrev pub RangeAnswerIsOnPoints : Type 0
RangeAnswerIsOnPoints = (segments : List SegmentRow) (flow : ℕ) (range : Option Span)
    (object : Option (List ℕ)) → HaveRanges segments → IsRange range → (row : SegmentRow)
    → Contains (overlapping segments flow range object) row ↔ IsAsked segments flow range object row

-- and has them by rising first point: none stands behind one that begins later
abbrev pub RangeAnswerIsInOrder : Type 0
RangeAnswerIsInOrder = (segments : List SegmentRow) (flow : ℕ) (range : Option Span)
    (object : Option (List ℕ))
    → IsTrue (rises (λ a b. not (starts_before b a)) (overlapping segments flow range object))

-- a page has at most as many items as its limit, and where no next key comes it has all that lie
-- past its own
pub record IsCutAtLimit {X : Type 0} (key : X → ℤ) (page : Page) (xs : List X) : Type 0 where
  pub whole : next_key key page xs ≡ None → page_items key page xs ≡ items_past key page xs
  pub most : length (page_items key page xs) ≤ page.limit

-- this holds of pages of segments, whose limit is at least 1
abbrev pub PagesHaveAll : Type 0
PagesHaveAll = (segments : List SegmentRow) (page : Page) → 1 ≤ page.limit
    → IsCutAtLimit first_point page segments

-- the page past a key
abbrev pub page_past : Page → ℤ → Page
page_past page key = record { after = Some key; limit = page.limit; reverse = page.reverse }

-- what lies past a page's key is the page, and then what lies past its next key
pub record NextPageFollows {X : Type 0} (key : X → ℤ) (page : Page) (xs : List X) : Type 0 where
  pub next : (last : ℤ) → next_key key page xs ≡ Some last
      → items_past key page xs ≡ page_items key page xs ++ items_past key (page_past page last) xs

-- the lists of a library that come in pages: a range's answer, and sources and flows that pass a
-- test
pub record ListsFollow (library : Library) : Type 0 where
  pub segments : (flow : ℕ) (range : Option Span) (object : Option (List ℕ)) (page : Page)
      → NextPageFollows first_point page (overlapping library.segments flow range object)
  pub sources : (test : SourceRow → Bool) (page : Page)
      → NextPageFollows source_key page (filter test library.catalog.sources)
  pub flows : (test : FlowRow → Bool) (page : Page)
      → NextPageFollows flow_key page (filter test library.catalog.flows)

-- pages of a good library follow one another without loss
abbrev pub PagesFollow : Type 0
PagesFollow = (library : Library) → Good library → HaveRanges library.segments → ListsFollow library

-- ---- restoring

-- before rows are put into a book two neighbours of two keys may change places, and so the rows may
-- come in any order
pub record AnyOrder {X : Type 0} (key : X → ℕ) (book : List X → List X) : Type 0 where
  pub swapped : (front : List X) (a b : X) (back : List X) → IsFalse (key a == key b)
      → book (front ++ a ∷ b ∷ back) ≡ book (front ++ b ∷ a ∷ back)

-- a good library's books are made from their own rows, and are the same
pub record OwnBooks (library : Library) : Type 0 where
  pub sources : (catalog_of library.catalog.sources library.catalog.flows).sources
      ≡ library.catalog.sources
  pub flows : (catalog_of library.catalog.sources library.catalog.flows).flows
      ≡ library.catalog.flows
  pub objects : objects_of library.objects ≡ library.objects
  pub requests : requests_of library.requests ≡ library.requests
  pub hooks : (outbox_of library.outbox.hooks library.outbox.events).hooks ≡ library.outbox.hooks
  pub events : (outbox_of library.outbox.hooks library.outbox.events).events ≡ library.outbox.events
  pub can_catalog : IsTrue (can_restore_catalog library.catalog.sources library.catalog.flows)
  pub can_objects : IsTrue (can_restore_objects library.objects library.segments)
  pub can_requests : IsTrue (can_restore_requests library.requests)
  pub can_outbox : IsTrue (can_restore_outbox library.outbox.hooks library.outbox.events)

-- rows in any order give the same book, and a good library's rows give its own
pub record BooksAreRestored : Type 0 where
  pub sources : AnyOrder (λ (row : SourceRow). row.id) (λ rows. (catalog_of rows []).sources)
  pub flows : AnyOrder (λ (row : FlowRow). row.body.id) (λ rows. (catalog_of [] rows).flows)
  pub objects : AnyOrder (λ (row : ObjectRow). row.serial) objects_of
  pub requests : AnyOrder (λ (row : DeleteRow). row.serial) requests_of
  pub hooks : AnyOrder (λ (row : HookRow). row.serial) (λ rows. (outbox_of rows []).hooks)
  pub events : AnyOrder (λ (row : EventRow). row.serial) (λ rows. (outbox_of [] rows).events)
  pub own : (library : Library) → Good library → OwnBooks library
