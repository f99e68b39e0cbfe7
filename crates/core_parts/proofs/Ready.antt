-- A good library's serials are below the next one, and the flow of its due request is kept.
use Rattle.std.proofs.Common.{◌≡◌, inl, inr, ℕ, ◌<◌, Bool, true, false, cond, List, [], ◌∷◌, Option, Some, None, find, refl, ap}
use Rattle.std.specs.Prelude.{◌==◌, ◌&&◌, ◌||◌, not, is_none, nat_lt, nat_le}
use Rattle.std.specs.List.{AllByRecursion, list_all}
use Rattle.std.proofs.lemmas.Bool.{and_parts, false≢true, lt-ltb}
use Rattle.media_rows.specs.declared.flow.FlowRow.{FlowRow}
use Rattle.media_rows.specs.declared.refusal.Refusal.TheVariants.{NoFlow}
use Rattle.media_rows.specs.declared.request.DeleteRow.{DeleteRow}
use Rattle.media_rows.specs.declared.segment.SegmentRow.{SegmentRow}
use Rattle.media_rows.specs.Catalog.{Catalog, flow_of, no_flow_refusal}
use Rattle.media_rows.specs.Collections.{is_kept}
use Rattle.media_rows.specs.Good.{Good, is_after_segments, is_request_good}
use Rattle.media_rows.specs.Library.{Library}
use Rattle.media_rows.specs.Ranges.{is_eternity}
use Rattle.media_rows.specs.Refusals.{when}
use Rattle.media_rows.specs.Requests.{done_count, done_kept, first_unfinished, is_unfinished}
use Rattle.core_parts.specs.Conditions.{IsReady}
use Rattle.library_laws.proofs.ListLemmas.{In, find-In, list_all-In, list_all-from_In}
use Rattle.library_laws.proofs.OutboxKept.{Names, Names-from, object_below, segment_below, request_below, hook_below, event_below}

-- ---- serials

-- a test of each row's serial
tested : {X : Type 0} (serial : X → ℕ) (next : ℕ) (xs : List X) → ((x : X) → In x xs → serial x < next)
    → list_all (λ x. nat_lt (serial x) next) xs ≡ true
tested serial next xs each = list_all-from_In (λ x. nat_lt (serial x) next) xs (λ x here. lt-ltb (serial x) next (each x here))

-- a fact of each row
each_is : {X : Type 0} (P : X → Type 0) (xs : List X) → ((x : X) → In x xs → P x) → AllByRecursion P xs
each_is P [] each = tt
each_is P (x ∷ xs) each = (each x (inl refl), each_is P xs (λ y later. each y (inr later)))

-- ---- the request that is due

kept_is : (unfinished kept rest : Bool) → unfinished ≡ true → (not unfinished || (kept && rest)) ≡ true → kept ≡ true
kept_is true true rest e t = refl
kept_is true false rest e t = t
kept_is false kept rest e t = absurd (false≢true e)

found_kept : (id : ℕ) (flows : List FlowRow) → is_kept flows id ≡ true → is_none (flow_of id flows) ≡ false
found_kept id [] e = absurd (false≢true e)
found_kept id (x ∷ xs) e = by (x.body.id == id) e (found_kept id xs)
  where
    by : (t : Bool) → (t || is_kept xs id) ≡ true → (is_kept xs id ≡ true → is_none (flow_of id xs) ≡ false)
        → is_none (cond t (Some x) (flow_of id xs)) ≡ false
    by true e' rest = refl
    by false e' rest = rest e'

due_kept : (catalog : Catalog) (segments : List SegmentRow) (requests : List DeleteRow) → list_all (is_request_good catalog.flows segments) requests ≡ true
    → (row : DeleteRow) → first_unfinished requests ≡ Some row → no_flow_refusal catalog row.flow ≡ None
due_kept catalog segments requests good row e =
    let here = find-In is_unfinished requests row e in
    let passes = list_all-In (is_request_good catalog.flows segments) requests good row here.0 in
    ap (λ t. when t NoFlow)
    (found_kept row.flow catalog.flows
    (kept_is (is_unfinished row) (is_kept catalog.flows row.flow)
    (not row.delete_flow || (is_eternity row.range && is_after_segments segments row)) here.1 passes))

pub ready : (library : Library) → Good library → IsReady library
ready library good =
    let names : Names library = Names-from library good.names in
    let requests = and_parts (list_all (is_request_good library.catalog.flows library.segments) library.requests)
    (nat_le (done_count library.requests) done_kept) good.requests in
    record {
      within = names.most;
      segments = tested (λ row. row.serial) library.next_serial library.segments (segment_below library names);
      objects = tested (λ row. row.serial) library.next_serial library.objects (object_below library names);
      requests = tested (λ row. row.serial) library.next_serial library.requests (request_below library names);
      hooks = each_is (λ row. row.serial < library.next_serial) library.outbox.hooks (hook_below library names);
      events = each_is (λ row. row.serial < library.next_serial) library.outbox.events (event_below library names);
      sources = good.sources;
      due = due_kept library.catalog library.segments library.requests requests.0;
    }
