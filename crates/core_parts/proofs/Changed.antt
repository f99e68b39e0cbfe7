-- A library from what its media and its registry become.
use Rattle.std.proofs.Common.{◌≡◌, ℕ, ◌≤◌, Bool, true, false, List, Option, Some, None, refl, sym, ap, ap₂, ◌∙◌}
use Rattle.std.specs.Prelude.{◌==◌, nat_le, if◌then◌else◌, length}
use Rattle.std.proofs.lemmas.Bool.{le-leb}
use Rattle.time_range.specs.declared.ranges.Span.{Span}
use Rattle.media_rows.specs.declared.change.Change.TheVariants as changes
use Rattle.media_rows.specs.declared.event.Happened.{Happened}
use Rattle.media_rows.specs.declared.request.DeleteRow.{DeleteRow}
use Rattle.media_rows.specs.declared.segment.SegmentRow.{SegmentRow}
use Rattle.media_rows.specs.Catalog.{Catalog, after_drop, after_touch}
use Rattle.media_rows.specs.Changes.{after, remove_flow, remove_segments}
use Rattle.media_rows.specs.Events.{drop_events, removed_events}
use Rattle.media_rows.specs.Library.{Library, last_serial, with_happened}
use Rattle.media_rows.specs.Segments.{hull_of_segments, segments_of}
use Rattle.media_book.specs.Media.{Media, media_of, without_rows}
use Rattle.core_registry.specs.Going.{ending_events, going_events, hull_if_any, touched_by, with_requests, without_flow}
use Rattle.core_registry.specs.Laws.{GoingFlowsForget, GoingIsTold}
use Rattle.core_registry.specs.Registry.{Registry, registry_of, with_events_of, within}
use Rattle.core_parts.specs.Parts.{library_of_parts, made_of, within_serials}
use Rattle.core_parts.specs.Within.{after_going}

-- ---- serials

-- where a registry's serials haven't ended, neither have those of the library that it makes with media
pub made_within : (id : ℕ) (media : Media) (registry : Registry)
    → made_of id media (within registry) ≡ within_serials (library_of_parts id media registry)
made_within id media registry = by (nat_le registry.next_serial last_serial)
  where
    by : (t : Bool) → made_of id media (if t then Some registry else None) ≡ (if t then Some (library_of_parts id media registry) else None)
    by true = refl
    by false = refl

-- the same of media and a registry that are known
pub both_within : (id : ℕ) (media : Media) (m : Media) (registry : Option Registry) (r : Registry) → media ≡ m → registry ≡ within r
    → made_of id media registry ≡ within_serials (library_of_parts id m r)
both_within id media m registry r same told = ap₂ (made_of id) same told ∙ made_within id m r

-- the same of a registry that stays as it was, whose serials haven't ended
pub made_kept : (id : ℕ) (media : Media) (m : Media) (registry : Registry) (r : Registry) → r.next_serial ≤ last_serial → media ≡ m → registry ≡ r
    → made_of id media (Some registry) ≡ within_serials (library_of_parts id m r)
made_kept id media m registry r within same kept =
    ap₂ (λ (x : Media) (y : Registry). made_of id x (Some y)) same kept
    ∙ ap (λ t. if t then Some (library_of_parts id m r) else None) (sym (le-leb r.next_serial last_serial within))

-- ---- segments that go

-- the library, with its flow touched unless no segment went
abbrev pub touched_unless : Bool → ℕ → ℕ → Library → Library
touched_unless none flow moment library =
    if none then library else record library { catalog = after_touch flow moment library.catalog }

cut_is : (library : Library) (flow : ℕ) (rows : List SegmentRow) (moment : ℕ) (happened : List Happened) (hull : Option Span) (none : Bool)
    → library_of_parts library.id (without_rows rows moment (media_of library))
    (with_events_of happened moment (touched_by flow (if none then None else Some hull) moment (registry_of library)))
    ≡ with_happened happened moment (touched_unless none flow moment (remove_segments rows moment library))
cut_is library flow rows moment happened hull true = refl
cut_is library flow rows moment happened hull false = refl

-- segments that go from a flow
pub losing : GoingIsTold → (library : Library) (flow : ℕ) (rows : List SegmentRow) (moment : ℕ) (media : Media) (registry : Option Registry)
    → media ≡ without_rows rows moment (media_of library)
    → registry ≡ within (with_events_of (going_events library.catalog flow (hull_if_any rows)) moment
    (touched_by flow (hull_if_any rows) moment (registry_of library)))
    → made_of library.id media registry ≡ within_serials (after_going flow rows moment library)
losing told library flow rows moment media registry same lost =
    both_within library.id media (without_rows rows moment (media_of library)) registry
    (with_events_of (going_events library.catalog flow (hull_if_any rows)) moment (touched_by flow (hull_if_any rows) moment (registry_of library))) same lost
    ∙ ap within_serials
    (ap (λ happened. library_of_parts library.id (without_rows rows moment (media_of library))
    (with_events_of happened moment (touched_by flow (hull_if_any rows) moment (registry_of library)))) (sym (told.segments library.catalog flow rows))
    ∙ cut_is library flow rows moment (removed_events library.catalog flow rows) (hull_of_segments rows) (length rows == 0))

-- a flow that goes with all its segments
pub ending : GoingIsTold → (library : Library) (flow moment : ℕ) (media : Media) (registry : Option Registry)
    → media ≡ without_rows (segments_of flow library.segments) moment (media_of library)
    → registry ≡ within (with_events_of (ending_events library.catalog flow (hull_if_any (segments_of flow library.segments))) moment
    (without_flow flow moment (registry_of library)))
    → made_of library.id media registry ≡ within_serials (after (changes.DropFlow moment flow) library)
ending told library flow moment media registry same lost =
    let rows = segments_of flow library.segments in
    both_within library.id media (without_rows rows moment (media_of library)) registry
    (with_events_of (ending_events library.catalog flow (hull_if_any rows)) moment (without_flow flow moment (registry_of library))) same lost
    ∙ ap (λ happened. within_serials (library_of_parts library.id (without_rows rows moment (media_of library))
    (with_events_of happened moment (without_flow flow moment (registry_of library))))) (sym (told.flows library.catalog flow rows))
