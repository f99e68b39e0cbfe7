-- What each change leaves of a library: the store's numbers, and, where there are no hooks, all of it.
use Rattle.std.proofs.Common.{◌≡◌, ℕ, ◌+◌, Bool, true, false, cond, List, [], ◌∷◌, length, Option, Some, None, refl, sym, ap, ◌∙◌, arith}
use Rattle.std.specs.Prelude.{◌==◌}
use Rattle.std.proofs.lemmas.Bool.{cond_both}
use Rattle.std.proofs.lemmas.List.{append-nil}
use Rattle.media_rows.specs.declared.change.Change.TheVariants as changes
use Rattle.media_rows.specs.declared.event.EventRow.{EventRow}
use Rattle.media_rows.specs.declared.event.Happened.{Happened}
use Rattle.media_rows.specs.declared.request.DeleteRow.{DeleteRow}
use Rattle.media_rows.specs.declared.segment.SegmentRow.{SegmentRow}
use Rattle.media_rows.specs.Catalog.{after_touch}
use Rattle.media_rows.specs.Changes.{touch_flow, with_step, remove_segments, remove_flow, is_flow_gone, after_step_of}
use Rattle.media_rows.specs.Library.{Library, with_posted}
use Rattle.media_rows.specs.Outbox.{Posted, after_post}
use Rattle.media_rows.specs.Requests.{first_unfinished, removed_by_step}
use Rattle.media_rows.specs.Segments.{covered}
use Rattle.library_laws.specs.ChangeLaws.{IsSameStore, StoreStays, NothingPosted, SerialsEnd}
use Rattle.library_laws.proofs.OutboxKept.{Names-from}

-- ---- without hooks

-- an outbox without hooks, and the next serial
abbrev pub unheard : List EventRow → ℕ → Posted
unheard events next = record { outbox = record { hooks = []; events = events }; next = next }

plus-zero : (n : ℕ) → n + 0 ≡ n
plus-zero n = omega arith

post_unheard : (happened : List Happened) (moment next : ℕ) (events : List EventRow) → after_post happened moment (unheard events next) ≡ unheard events next
post_unheard [] moment next events = refl
post_unheard (thing ∷ later) moment next events =
    ap (λ e. after_post later moment (unheard e (next + 0))) (append-nil events)
    ∙ ap (λ n. after_post later moment (unheard events n)) (plus-zero next)
    ∙ post_unheard later moment next events

pub nothing_posted : NothingPosted
nothing_posted library happened moment none =
    ap (λ h. with_posted (after_post happened moment (record { outbox = record { hooks = h; events = library.outbox.events }; next = library.next_serial }))
    library) none
    ∙ ap (λ p. with_posted p library) (post_unheard happened moment library.next_serial library.outbox.events)
    ∙ ap (λ h. record library { outbox = record { hooks = h; events = library.outbox.events } }) (sym none)

-- ---- the store's numbers

same_store : (library : Library) → IsSameStore library library
same_store library = record { id = refl; blocks = refl }

touched_store : (library : Library) (flow moment : ℕ) (rows : List SegmentRow) → IsSameStore library (touch_flow flow rows moment library)
touched_store library flow moment rows =
    cond_both (length rows == 0) library (record library { catalog = after_touch flow moment library.catalog }) (IsSameStore library) (λ e. same_store library)
    (λ e. record { id = refl; blocks = refl })

stepped_store : (gone : Bool) (library touched : Library) (flow moment : ℕ) (removed : List SegmentRow) → IsSameStore library touched
    → IsSameStore library (cond gone (remove_flow flow moment (remove_segments removed moment touched)) (remove_segments removed moment touched))
stepped_store true library touched flow moment removed same = record { id = same.id; blocks = same.blocks }
stepped_store false library touched flow moment removed same = record { id = same.id; blocks = same.blocks }

step_store : (library : Library) (moment : ℕ) (o : Option DeleteRow) → IsSameStore library (after_step_of o moment library)
step_store library moment None = same_store library
step_store library moment (Some request) =
    let removed : List SegmentRow = removed_by_step library.segments request in
    let touched = touched_store (with_step request moment library) request.flow moment removed in
    stepped_store (is_flow_gone request library) library (touch_flow request.flow removed moment (with_step request moment library)) request.flow moment removed
    (record { id = touched.id; blocks = touched.blocks })

pub store_stays : StoreStays
store_stays library (changes.PutFlow moment flow) = record { id = refl; blocks = refl }
store_stays library (changes.SetFlow moment flow part) = record { id = refl; blocks = refl }
store_stays library (changes.SetSource moment source part) = record { id = refl; blocks = refl }
store_stays library (changes.DropFlow moment flow) = record { id = refl; blocks = refl }
store_stays library (changes.Allocate moment flow ids) = record { id = refl; blocks = refl }
store_stays library (changes.Store moment object start size digest) = record { id = refl; blocks = refl }
store_stays library (changes.AddSegments moment flow posts) = record { id = refl; blocks = refl }
store_stays library (changes.CutSegments moment flow range) =
    let gone : List SegmentRow = covered library.segments flow range in
    let touched = touched_store (remove_segments gone moment library) flow moment gone in
    record { id = touched.id; blocks = touched.blocks }
store_stays library (changes.AskDelete moment flow range delete_flow) = record { id = refl; blocks = refl }
store_stays library (changes.DeleteStep moment) =
    let stepped = step_store library moment (first_unfinished library.requests) in
    record { id = stepped.id; blocks = stepped.blocks }
store_stays library (changes.SweepStep moment) = record { id = refl; blocks = refl }
store_stays library (changes.PutHook moment hook) = record { id = refl; blocks = refl }
store_stays library (changes.DropHook moment url) = record { id = refl; blocks = refl }
store_stays library (changes.Delivered moment event) = record { id = refl; blocks = refl }

pub serials_end : SerialsEnd
serials_end library good = (Names-from library good.names).most
