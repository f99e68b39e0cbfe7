-- A good library is the library of its rows; and what the tables and a few words of commands give.
use Rattle.std.proofs.Common.{◌≡◌, inl, inr, ℕ, ◌^◌, ℤ, pos, ◌+ℤ◌, ◌-ℤ◌, Bool, true, false, not, List, [], ◌∷◌, ◌++◌, map, refl, sym, ap, ◌∙◌, arith}
use Rattle.std.specs.Prelude.{◌==◌, unsigned_abs}
use Rattle.std.specs.List.{list_all}
use Rattle.std.proofs.lemmas.Bool.{and_parts, cond_both, not-true}
use Rattle.std.proofs.lemmas.Int.{ints}
use Rattle.media_rows.specs.declared.event.EventRow.{EventRow}
use Rattle.media_rows.specs.declared.flow.FlowRow.{FlowRow}
use Rattle.media_rows.specs.declared.hook.HookRow.{HookRow}
use Rattle.media_rows.specs.declared.object.ObjectRow.{ObjectRow}
use Rattle.media_rows.specs.declared.request.DeleteRow.{DeleteRow}
use Rattle.media_rows.specs.declared.row.Row.{Row}
use Rattle.media_rows.specs.declared.row.Row.TheVariants as rows
use Rattle.media_rows.specs.declared.segment.SegmentRow.{SegmentRow}
use Rattle.media_rows.specs.declared.source.SourceRow.{SourceRow}
use Rattle.media_rows.specs.Library.{Library}
use Rattle.media_rows.specs.Lists.{rises, inserted, in_order}
use Rattle.media_rows.specs.Snapshot.{segment_row_before, rows_of, older, with_row, library_of}
use Rattle.library_laws.specs.RowLaws.{RowsGiveTheLibrary, EqualRowsAreOneLibrary, KeysGiveIds}
use Rattle.library_laws.proofs.ListLemmas.{In, In-in_order, list_all-In}
use Rattle.library_laws.proofs.OutboxKept.{Names-from}
use Rattle.library_laws.proofs.RowOrder.{nested}
use Rattle.library_laws.proofs.RestoreLemmas.{swap_two, stays, apart_keys}

-- ---- one order and then another

-- a row that is put in by another order comes to its place all the same
inserted_any : (other : SegmentRow → SegmentRow → Bool) (x : SegmentRow) (ys : List SegmentRow) → ((y : SegmentRow) → In y ys → (x.serial == y.serial) ≡ false)
    → in_order older (inserted other x ys) ≡ inserted older x (in_order older ys)
inserted_any other x [] apart = refl
inserted_any other x (y ∷ ys) apart =
    cond_both (other y x) (y ∷ inserted other x ys) (x ∷ y ∷ ys) (λ l. in_order older l ≡ inserted older x (inserted older y (in_order older ys)))
    (λ e. ap (inserted older y) (inserted_any other x ys (λ z here. apart z (inr here)))
    ∙ sym (swap_two (λ (r : SegmentRow). r.serial) x y (in_order older ys) (older y x) refl (apart y (inl refl))))
    (λ e. refl)

-- rows that rise are the same once they were put in another order and back
order_back : (other : SegmentRow → SegmentRow → Bool) (xs : List SegmentRow) → rises (λ (a b : SegmentRow). not (a.serial == b.serial)) xs ≡ true
    → in_order older (in_order other xs) ≡ in_order older xs
order_back other [] e = refl
order_back other (x ∷ xs) e =
    let parts = and_parts (list_all (λ y. not (x.serial == y.serial)) xs) (rises (λ (a b : SegmentRow). not (a.serial == b.serial)) xs) e in
    inserted_any other x (in_order other xs) (λ y here. not-true (x.serial == y.serial)
    (list_all-In (λ y. not (x.serial == y.serial)) xs parts.0 y (In-in_order other xs y here)))
    ∙ ap (inserted older x) (order_back other xs parts.1)

-- ---- kind by kind

-- a library of these lists
abbrev filled : ℕ → ℕ → List SourceRow → List FlowRow → List ObjectRow → List SegmentRow → List DeleteRow → List HookRow → List EventRow → ℕ → Library
filled id blocks s f o g r h e n = record {
  id = id;
  blocks = blocks;
  catalog = record { sources = s; flows = f };
  segments = g;
  objects = o;
  requests = r;
  outbox = record { hooks = h; events = e };
  next_serial = n;
}

module _ (id blocks n : ℕ) where
  from_events : (e : List EventRow) → library_of id blocks (map rows.Event e ++ rows.Numbers n ∷ []) ≡ filled id blocks [] [] [] [] [] [] e n
  from_events [] = refl
  from_events (x ∷ xs) = ap (with_row (rows.Event x)) (from_events xs)

  from_hooks : (h : List HookRow) (e : List EventRow) (later : List Row) → library_of id blocks later ≡ filled id blocks [] [] [] [] [] [] e n
      → library_of id blocks (map rows.Hook h ++ later) ≡ filled id blocks [] [] [] [] [] h e n
  from_hooks [] e later is = is
  from_hooks (x ∷ xs) e later is = ap (with_row (rows.Hook x)) (from_hooks xs e later is)

  from_requests : (r : List DeleteRow) (h : List HookRow) (e : List EventRow) (later : List Row) → library_of id blocks later
      ≡ filled id blocks [] [] [] [] [] h e n
      → library_of id blocks (map rows.Request r ++ later) ≡ filled id blocks [] [] [] [] r h e n
  from_requests [] h e later is = is
  from_requests (x ∷ xs) h e later is = ap (with_row (rows.Request x)) (from_requests xs h e later is)

  from_segments : (g : List SegmentRow) (r : List DeleteRow) (h : List HookRow) (e : List EventRow) (later : List Row) → library_of id blocks later
      ≡ filled id blocks [] [] [] [] r h e n
      → library_of id blocks (map rows.Segment g ++ later) ≡ filled id blocks [] [] [] (in_order older g) r h e n
  from_segments [] r h e later is = is
  from_segments (x ∷ xs) r h e later is = ap (with_row (rows.Segment x)) (from_segments xs r h e later is)

  from_objects : (o : List ObjectRow) (g : List SegmentRow) (r : List DeleteRow) (h : List HookRow) (e : List EventRow) (later : List Row)
      → library_of id blocks later ≡ filled id blocks [] [] [] g r h e n
      → library_of id blocks (map rows.Object o ++ later) ≡ filled id blocks [] [] o g r h e n
  from_objects [] g r h e later is = is
  from_objects (x ∷ xs) g r h e later is = ap (with_row (rows.Object x)) (from_objects xs g r h e later is)

  from_flows : (f : List FlowRow) (o : List ObjectRow) (g : List SegmentRow) (r : List DeleteRow) (h : List HookRow) (e : List EventRow) (later : List Row)
      → library_of id blocks later ≡ filled id blocks [] [] o g r h e n
      → library_of id blocks (map rows.Flow f ++ later) ≡ filled id blocks [] f o g r h e n
  from_flows [] o g r h e later is = is
  from_flows (x ∷ xs) o g r h e later is = ap (with_row (rows.Flow x)) (from_flows xs o g r h e later is)

  from_sources : (s : List SourceRow) (f : List FlowRow) (o : List ObjectRow) (g : List SegmentRow) (r : List DeleteRow) (h : List HookRow) (e : List EventRow)
      (later : List Row) → library_of id blocks later ≡ filled id blocks [] f o g r h e n
      → library_of id blocks (map rows.Source s ++ later) ≡ filled id blocks s f o g r h e n
  from_sources [] f o g r h e later is = is
  from_sources (x ∷ xs) f o g r h e later is = ap (with_row (rows.Source x)) (from_sources xs f o g r h e later is)

-- the library of a library's rows, whose segments were put in order and back
from_rows : (l : Library) → library_of l.id l.blocks (rows_of l)
    ≡ filled l.id l.blocks l.catalog.sources l.catalog.flows l.objects (in_order older (in_order segment_row_before l.segments)) l.requests l.outbox.hooks
    l.outbox.events l.next_serial
from_rows l =
    ap (library_of l.id l.blocks) (nested (map rows.Source l.catalog.sources) (map rows.Flow l.catalog.flows) (map rows.Object l.objects)
    (map rows.Segment (in_order segment_row_before l.segments))
    (map rows.Request l.requests) (map rows.Hook l.outbox.hooks) (map rows.Event l.outbox.events) (rows.Numbers l.next_serial ∷ []))
    ∙ from_sources l.id l.blocks l.next_serial l.catalog.sources l.catalog.flows l.objects _ l.requests l.outbox.hooks l.outbox.events _
    (from_flows l.id l.blocks l.next_serial l.catalog.flows l.objects _ l.requests l.outbox.hooks l.outbox.events _
    (from_objects l.id l.blocks l.next_serial l.objects _ l.requests l.outbox.hooks l.outbox.events _
    (from_segments l.id l.blocks l.next_serial (in_order segment_row_before l.segments) l.requests l.outbox.hooks l.outbox.events _
    (from_requests l.id l.blocks l.next_serial l.requests l.outbox.hooks l.outbox.events _
    (from_hooks l.id l.blocks l.next_serial l.outbox.hooks l.outbox.events _
    (from_events l.id l.blocks l.next_serial l.outbox.events))))))

pub rows_give_the_library : RowsGiveTheLibrary
rows_give_the_library library good =
    let rise = (Names-from library good.names).segments_rise in
    let back = order_back segment_row_before library.segments (apart_keys (λ (r : SegmentRow). r.serial) library.segments rise)
    ∙ stays (λ (r : SegmentRow). r.serial) library.segments rise in
    from_rows library ∙ ap (λ g. record library { segments = g }) back

pub equal_rows_are_one : EqualRowsAreOneLibrary
equal_rows_are_one a b good_a good_b ids blocks same =
    sym (rows_give_the_library a good_a) ∙ ap (λ id. library_of id a.blocks (rows_of a)) ids ∙ ap (λ n. library_of b.id n (rows_of a)) blocks
    ∙ ap (library_of b.id b.blocks) same ∙ rows_give_the_library b good_b

-- ---- keys

-- a number that is lowered and raised by another is itself
back_again : (z : ℤ) (id m : ℕ) → z ≡ (pos id -ℤ pos m) +ℤ pos m → z ≡ pos id
back_again z id m e = omega (arith, ints)

pub keys_give_ids : KeysGiveIds
keys_give_ids id = ap unsigned_abs (back_again _ id (2 ^ 127) refl)
