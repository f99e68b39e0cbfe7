-- Objects with the references to them, as a book is seen: which object each call changes, and how.
-- Our own rules.
use Rattle.std.specs.Prelude.{ℕ, ◌==◌, pos, nat_lt, List, [], ◌∷◌, ◌++◌, Bool, Option, Some, None, if◌then◌else◌, bytes_eq, filter, find, map, not, option_map}
use Rattle.std.specs.List.{list_all, list_any}
use Rattle.media_rows.specs.declared.object.Digest.{Digest}
use Rattle.media_rows.specs.declared.object.Extent.{Extent}
use Rattle.media_rows.specs.declared.object.ObjectRow.{ObjectRow}
use Rattle.media_rows.specs.declared.object.ObjectState.{ObjectState}
use Rattle.media_rows.specs.declared.object.ObjectState.TheVariants.{Allocated, Stored}
use Rattle.media_rows.specs.declared.segment.SegmentRow.{SegmentRow}
use Rattle.media_rows.specs.Lists.{in_order, inserted}
use Rattle.media_rows.specs.Objects.{allocated_rows, object_of, references, stored_row}
use Rattle.media_rows.specs.Restoring.{objects_of}
use Rattle.object_refs.specs.declared.kept.Kept.{Kept}

-- ---- a book

-- A book as it is seen: the objects by rising serial, each with the references to it, and the
-- serial of the object whose row the book holds apart, where it holds one.
pub record Book : Type 0 where
  pub kept : List Kept
  pub apart : Option ℕ

-- a book that holds no row apart
abbrev pub settled : List Kept → Book
settled kept = record { kept = kept; apart = None }

-- ---- what a book has

-- the objects, by rising serial
abbrev pub objects_in : List Kept → List ObjectRow
objects_in kept = map (λ k. k.row) kept

-- a reference as a segment that says nothing but its flow and the object that it names
abbrev pub reference_of : List ℕ → ℕ → SegmentRow
reference_of object flow = record {
  flow = flow;
  serial = 0;
  segment = record {
    object = object;
    range = None;
    ts_offset = pos 0;
    last_duration = None;
    sample_offset = 0;
    sample_count = None;
    key_frames = None;
  };
}

-- the references to one object, each as often as it stands
abbrev pub references_to : Kept → List SegmentRow
references_to k = map (reference_of k.row.id) k.flows

-- the references to all objects
abbrev pub references_in : List Kept → List SegmentRow
references_in [] = []
references_in (k ∷ kept) = references_to k ++ references_in kept

-- the object of an id with the references to it
abbrev pub kept_of : List ℕ → List Kept → Option Kept
kept_of id kept = find (λ k. bytes_eq k.row.id id) kept

-- a flow has a reference to the object
abbrev pub refers : List SegmentRow → List ℕ → ℕ → Bool
refers segments object flow = list_any (λ row. row.flow == flow) (references segments object)

-- each object has a lower serial
abbrev pub are_below : ℕ → List Kept → Bool
are_below serial kept = list_all (λ k. nat_lt k.row.serial serial) kept

-- ---- what calls make

-- objects to which nothing refers
abbrev pub unreferred : List ObjectRow → List Kept
unreferred rows = map (λ row. record { row = row; flows = [] }) rows

-- a new object at the end, without bytes and idle since this moment
abbrev pub with_new : List ℕ → ℕ → ℕ → List Kept → List Kept
with_new id serial moment kept = kept ++ unreferred (allocated_rows serial moment (id ∷ []))

-- the object of an id changed, and all others as they were
abbrev pub changed_at : List ℕ → (Kept → Kept) → List Kept → List Kept
changed_at id change kept = map (λ k. if bytes_eq k.row.id id then change k else k) kept

-- an object with its bytes at a place, with their digest where one is kept, idle since this moment
abbrev pub stored_at : Extent → Option Digest → ℕ → Kept → Kept
stored_at extent digest moment k =
    record { row = stored_row extent.start extent.length digest moment k.row; flows = k.flows }

-- a book that holds the row of an id apart
abbrev pub held_apart : List ℕ → List Kept → Book
held_apart id kept = record {
  kept = kept;
  apart = option_map (λ row. row.serial) (object_of id (objects_in kept));
}

-- an object in this state, with this digest where it has its bytes
abbrev pub digested_state : Digest → ObjectState → ObjectState
digested_state digest Allocated = Allocated
digested_state digest (Stored start size kept) = Stored start size (Some digest)

-- an object with this digest, where it has its bytes
abbrev pub digested_row : Digest → ObjectRow → ObjectRow
digested_row digest row = record row { state = digested_state digest row.state }

-- an object with this digest, where it has this serial
abbrev pub digested_at : Option ℕ → Digest → ObjectRow → ObjectRow
digested_at None digest row = row
digested_at (Some serial) digest row =
    if row.serial == serial then digested_row digest row else row

-- the objects with this digest at the one of a serial, if there is a serial
abbrev pub digested : Option ℕ → Digest → List ObjectRow → List ObjectRow
digested apart digest objects = map (digested_at apart digest) objects

-- the book with this digest at the row that it holds apart
abbrev pub with_digest : Digest → Book → Book
with_digest digest book = record {
  kept =
      map (λ k. record { row = digested_at book.apart digest k.row; flows = k.flows }) book.kept;
  apart = book.apart;
}

-- an object with one reference of a flow more
abbrev pub referred : ℕ → Kept → Kept
referred flow k = record { row = k.row; flows = inserted nat_lt flow k.flows }

-- the flows without one reference of this one, if it has any
abbrev pub less_one : ℕ → List ℕ → List ℕ
less_one flow [] = []
less_one flow (f ∷ fs) = if f == flow then fs else f ∷ less_one flow fs

-- an object with one reference of a flow less
abbrev pub released : ℕ → Kept → Kept
released flow k = record { row = k.row; flows = less_one flow k.flows }

-- an object idle since this moment where nothing refers to it, and otherwise as it was
abbrev pub idle_row : List ℕ → ℕ → ObjectRow → ObjectRow
idle_row [] moment row = record row { idle_since = moment }
idle_row (flow ∷ flows) moment row = row

-- an object with one reference of a flow less, idle since this moment where it was the last one
abbrev pub released_at : ℕ → ℕ → Kept → Kept
released_at flow moment k =
    record { row = idle_row (less_one flow k.flows) moment k.row; flows = less_one flow k.flows }

-- the flows that refer to the objects, in the objects' order
abbrev pub flows_in : List Kept → List (List ℕ)
flows_in kept = map (λ k. k.flows) kept

-- the objects without the one of an id
abbrev pub without_id : List ℕ → List Kept → List Kept
without_id id kept = filter (λ k. not (bytes_eq k.row.id id)) kept

-- ---- books from rows

-- an object with the references that segments have to it
abbrev pub with_references : List SegmentRow → ObjectRow → Kept
with_references segments row =
    record { row = row; flows = in_order nat_lt (map (λ s. s.flow) (references segments row.id)) }

-- the book of objects in any order and of the references of segments
abbrev pub book_of : List ObjectRow → List SegmentRow → List Kept
book_of objects segments = map (with_references segments) (objects_of objects)
