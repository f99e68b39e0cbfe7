-- The media of a library, what its changes make of them, and which media can be made from rows. Our
-- own rules.
use Rattle.std.specs.Prelude.{◌≡◌, ℕ, ◌==◌, nat_lt, List, [], ◌++◌, Bool, ◌&&◌, ◌||◌, IsTrue, Contains, Option, Some, None, option_map, Result, Ok, Err, if◌then◌else◌, is_some, map}
use Rattle.std.specs.List.{AllByRecursion, list_all, sum}
use Rattle.media_rows.specs.declared.object.Digest.{Digest}
use Rattle.media_rows.specs.declared.object.Extent.{Extent}
use Rattle.media_rows.specs.declared.object.ObjectRow.{ObjectRow}
use Rattle.media_rows.specs.declared.object.ObjectState.{ObjectState}
use Rattle.media_rows.specs.declared.object.ObjectState.TheVariants.{Allocated, Stored}
use Rattle.media_rows.specs.declared.refusal.Refusal.{Refusal}
use Rattle.media_rows.specs.declared.reply.SortedPosts.{SortedPosts}
use Rattle.media_rows.specs.declared.segment.Segment.{Segment}
use Rattle.media_rows.specs.declared.segment.SegmentRow.{SegmentRow}
use Rattle.media_rows.specs.Answer.{first_taken, taken_refusal}
use Rattle.media_rows.specs.Posts.{posts_refusal, sorted}
use Rattle.media_rows.specs.Good.{Good, are_compatible, are_extents_good, are_object_ids_distinct, are_references_good, rises_by}
use Rattle.media_rows.specs.Library.{Library, empty_library}
use Rattle.media_rows.specs.Lists.{are_distinct, each_pair}
use Rattle.media_rows.specs.Objects.{allocated_rows, blocks_of, idled, is_free, object_of, stored_row, swept_objects, with_object, without_objects}
use Rattle.media_rows.specs.Ranges.{has_both_ends}
use Rattle.media_rows.specs.Segments.{posted, without_segments}
use Rattle.object_refs.specs.References.{digested}

-- the media of a library: how many media blocks there are, and its segments and its objects, each
-- by rising serial
pub record Media : Type 0 where
  pub blocks : ℕ
  pub segments : List SegmentRow
  pub objects : List ObjectRow

-- Media as a book is seen: beside them the serial of the object whose row the book holds apart,
-- where it holds one.
pub record HeldMedia : Type 0 where
  pub media : Media
  pub apart : Option ℕ

-- the media alone, where there are some
abbrev pub only_media : Option HeldMedia → Option Media
only_media held = option_map (λ h. h.media) held

-- the media alone, or what went wrong
abbrev pub given_media : {E : Type 0} → Result HeldMedia E → Result Media E
given_media (Ok held) = Ok held.media
given_media (Err fault) = Err fault

-- the media of a library
abbrev pub media_of : Library → Media
media_of library = record {
  blocks = library.blocks;
  segments = library.segments;
  objects = library.objects;
}

-- a library that has these media and nothing else, with its next serial
abbrev pub library_with : Media → ℕ → Library
library_with media next_serial = record (empty_library 0 media.blocks) {
  segments = media.segments;
  objects = media.objects;
  next_serial = next_serial;
}

-- neither a segment nor an object
abbrev pub no_media : ℕ → Media
no_media blocks = record { blocks = blocks; segments = []; objects = [] }

-- ---- conditions

-- each of these segments has a lower serial
abbrev pub are_segments_below : ℕ → List SegmentRow → Bool
are_segments_below serial segments = list_all (λ row. nat_lt row.serial serial) segments

-- each of these objects has a lower serial
abbrev pub are_objects_below : ℕ → List ObjectRow → Bool
are_objects_below serial objects = list_all (λ row. nat_lt row.serial serial) objects

-- these are some of the segments, each of them once
pub record AreSome (rows segments : List SegmentRow) : Type 0 where
  pub there : AllByRecursion (Contains segments) rows
  pub once : IsTrue (are_distinct (map (λ row. row.serial) rows))

-- the blocks of an extent are free, and one without bytes begins at block 0
abbrev pub can_take : Media → Extent → Bool
can_take media extent =
    is_free media.objects media.blocks (blocks_of extent.length) extent.start
    && (nat_lt 0 extent.length || (extent.start == 0))

-- ---- refusals

-- the refusal of an allocation: the first id that a kept object has, or that the list repeats
abbrev pub allocation_refusal : Media → List (List ℕ) → Option Refusal
allocation_refusal media ids =
    taken_refusal (first_taken (λ id. is_some (object_of id media.objects)) [] ids)

-- a post is refused by a library as by its media alone
abbrev pub PostsAreRefusedAlike : Type 0
PostsAreRefusedAlike = (library : Library) (flow : ℕ) (posts : List Segment)
    → posts_refusal library flow posts
    ≡ posts_refusal (library_with (media_of library) library.next_serial) flow posts

-- what is told of a list of segments over these media, the next of which has this serial
abbrev pub list_told : Media → ℕ → ℕ → List Segment → SortedPosts
list_told media serial flow posts = sorted (library_with media serial) flow [] posts

-- a list is told by a library as by its media alone
abbrev pub ListsAreToldAlike : Type 0
ListsAreToldAlike = (library : Library) (flow : ℕ) (posts : List Segment)
    → sorted library flow [] posts ≡ list_told (media_of library) library.next_serial flow posts

-- ---- what changes make

-- objects without bytes come, with rising serials from this one on, idle since this moment
abbrev pub with_allocated : ℕ → ℕ → List (List ℕ) → Media → Media
with_allocated serial moment ids media =
    record media { objects = media.objects ++ allocated_rows serial moment ids }

-- an object has its bytes at a place from now on, and their digest where one is kept
abbrev pub with_stored : List ℕ → Extent → Option Digest → ℕ → Media → Media
with_stored id extent digest moment media = record media {
  objects = with_object id (stored_row extent.start extent.length digest moment) media.objects;
}

-- the object whose row is held apart has this digest
abbrev pub media_digested : Digest → HeldMedia → HeldMedia
media_digested digest held = record {
  media = record held.media { objects = digested held.apart digest held.media.objects };
  apart = held.apart;
}

-- the serial of the object of an id
abbrev pub serial_in : List ℕ → Media → Option ℕ
serial_in id media = option_map (λ row. row.serial) (object_of id media.objects)

-- the segments of a post come, with rising serials from this one on
abbrev pub with_posts : ℕ → ℕ → List Segment → Media → Media
with_posts flow serial posts media =
    record media { segments = media.segments ++ posted flow serial posts }

-- segments go; an object that loses its last reference is idle since this moment
abbrev pub without_rows : List SegmentRow → ℕ → Media → Media
without_rows rows moment media = record media {
  segments = without_segments rows media.segments;
  objects = idled media.segments (without_segments rows media.segments) moment media.objects;
}

-- the first objects that are due go
abbrev pub swept : ℕ → Media → Media
swept moment media = record media {
  objects =
      without_objects (swept_objects media.segments media.objects moment) media.objects;
}

-- ---- numbers

-- how many bytes an object in this state has
abbrev pub stored_size : ObjectState → ℕ
stored_size Allocated = 0
stored_size (Stored start size digest) = size

-- the bytes of all objects
abbrev pub stored_bytes : List ObjectRow → ℕ
stored_bytes objects = sum (map (λ row. stored_size row.state) objects)

-- ---- media from rows

-- What a good library says of its objects alone: extents are disjoint and lie within the media
-- blocks, no two objects have one id, and they stand by rising serial.
abbrev pub are_objects_good : ℕ → List ObjectRow → Bool
are_objects_good blocks objects =
    are_extents_good blocks objects
    && (are_object_ids_distinct objects && rises_by (λ row. row.serial) objects)

-- And of its segments beside these objects: those of one flow never overlap, each is bounded at
-- both ends, its object is kept and stored, and they stand by rising serial. That their flows are
-- kept is left to the catalog.
abbrev pub are_rows_good : List ObjectRow → List SegmentRow → Bool
are_rows_good objects segments =
    each_pair are_compatible segments
    && (list_all (λ row. has_both_ends row.segment.range) segments
    && (are_references_good objects segments && rises_by (λ row. row.serial) segments))

-- what a good library says of its media alone
abbrev pub are_media_good : Media → Bool
are_media_good media =
    are_objects_good media.blocks media.objects && are_rows_good media.objects media.segments

-- the media where a test holds
abbrev pub media_if : Bool → Media → Option Media
media_if good media = if good then Some media else None

-- the media of a good library are good
abbrev pub MediaAreGood : Type 0
MediaAreGood = (library : Library) → Good library → IsTrue (are_media_good (media_of library))
