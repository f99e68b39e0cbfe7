-- The replies of commands on the examples, and the change that each has.
use Rattle.std.specs.Prelude.{◌≡◌, ℕ, List, [], ◌∷◌, Bool, true, false, Option, Some, None, map, codes}
use Rattle.time_range.specs.declared.ranges.Span.{Span}
use Rattle.media_rows.specs.declared.change.Change.{Change}
use Rattle.media_rows.specs.declared.change.Change.TheVariants as changes
use Rattle.media_rows.specs.declared.command.Command.{Command}
use Rattle.media_rows.specs.declared.command.Command.TheVariants as commands
use Rattle.media_rows.specs.declared.command.Want.TheVariants.{Count, Named}
use Rattle.media_rows.specs.declared.flow.FormatKind.TheVariants.{Multi}
use Rattle.media_rows.specs.declared.object.Digest.{Digest}
use Rattle.media_rows.specs.declared.object.ObjectState.TheVariants.{Stored}
use Rattle.media_rows.specs.declared.refusal.Refusal.{Refusal}
use Rattle.media_rows.specs.declared.refusal.Refusal.TheVariants as refusals
use Rattle.media_rows.specs.declared.reply.FailedSegment.{FailedSegment}
use Rattle.media_rows.specs.declared.reply.Reply.{Reply}
use Rattle.media_rows.specs.declared.reply.Reply.TheVariants as replies
use Rattle.media_rows.specs.declared.request.DeleteRow.{DeleteRow}
use Rattle.media_rows.specs.declared.request.DeleteStatus.TheVariants as statuses
use Rattle.media_rows.specs.declared.segment.Segment.{Segment}
use Rattle.media_rows.specs.Answer.{Outcome, answer, refusal_of, made_id, is_taken, put_media_answer, whole_media}
use Rattle.media_rows.specs.Changes.{after}
use Rattle.media_rows.specs.Digests.{digest_of}
use Rattle.media_rows.specs.Library.{Library}
use Rattle.media_rows.specs.Media.{Archive, is_held, asks, puts, gets, answer_to, archive_after, fits_bytes, get_media_reply}
use Rattle.media_rows.specs.Objects.{free_place}
use Rattle.media_rows.specs.Ranges.{eternity}
use Rattle.media_rows.specs.Segments.{covered, overlapping}
use Rattle.library_examples.specs.Examples.{a_list, alone, no_digest, segment_serials, new_label, first_flow, second_flow, body, empty_store, seconds, piece, piece_of, stored, allocate, with_pieces, hook}
use Rattle.library_examples.specs.Studio.{other_source, main_body, object_a, object_b, one_hook, studio}

-- the answer to a command on the studio at moment 205
abbrev pub studio_answer : Command → Outcome
studio_answer command = answer studio command 205

-- a reply with its change
abbrev pub gives : Reply → Change → Outcome
gives reply change = record { reply = reply; change = Some change }

-- a reply that changes nothing
abbrev pub leaves : Reply → Outcome
leaves reply = record { reply = reply; change = None }

-- ---- each command

-- A flow, a hook or segments that are new are created, and all else is done. What isn't there isn't
-- dropped, and a refusal changes nothing.
pub record RepliesAreGiven : Type 0 where
  pub kept_flow : studio_answer (commands.PutFlow main_body)
      ≡ gives replies.Done (changes.PutFlow 205 main_body)
  pub new_flow : studio_answer (commands.PutFlow (body 244 Multi []))
      ≡ gives replies.Created (changes.PutFlow 205 (body 244 Multi []))
  pub flow_part : studio_answer (commands.SetFlow first_flow new_label)
      ≡ gives replies.Done (changes.SetFlow 205 first_flow new_label)
  pub source_part : studio_answer (commands.SetSource other_source new_label)
      ≡ gives replies.Done (changes.SetSource 205 other_source new_label)
  pub drop : studio_answer (commands.DropFlow first_flow)
      ≡ gives replies.Done (changes.DropFlow 205 first_flow)
  pub named : studio_answer (commands.Allocate first_flow (Named (codes "e" ∷ codes "d" ∷ [])))
      ≡ gives (replies.CreatedObjects (codes "e" ∷ codes "d" ∷ []))
      (changes.Allocate 205 first_flow (codes "e" ∷ codes "d" ∷ []))
  pub bytes : studio_answer (commands.Keep (codes "c") 3 5 no_digest)
      ≡ gives replies.Created (changes.Store 205 (codes "c") 3 5 (Some no_digest))
  pub posted : studio_answer (commands.AddSegments first_flow (alone (piece 40 50)))
      ≡ gives replies.Created (changes.AddSegments 205 first_flow (a_list (piece 40 50 ∷ [])))
  pub cut : studio_answer (commands.CutSegments first_flow (seconds 0 15))
      ≡ gives replies.Done (changes.CutSegments 205 first_flow (seconds 0 15))
  pub only_overlapped : studio_answer (commands.CutSegments first_flow (seconds 1 9))
      ≡ leaves replies.Done
  pub kept_hook : studio_answer (commands.PutHook one_hook.hook)
      ≡ gives replies.Done (changes.PutHook 205 one_hook.hook)
  pub new_hook : studio_answer (commands.PutHook (hook (codes "h") None))
      ≡ gives replies.Created (changes.PutHook 205 (hook (codes "h") None))
  pub hook_gone : studio_answer (commands.DropHook (codes "http://two/"))
      ≡ gives replies.Done (changes.DropHook 205 (codes "http://two/"))
  pub no_hook : studio_answer (commands.DropHook (codes "http://three/")) ≡ leaves replies.Done
  pub refused : studio_answer (commands.DropFlow second_flow)
      ≡ leaves (replies.Refused refusals.ReadOnly)

-- ---- lists of segments

-- a segment of an object that failed
abbrev pub failed : Refusal → List ℕ → ℕ → ℕ → FailedSegment
failed refusal object from to =
    record { refusal = refusal; object = object; range = seconds from to }

-- the segment from 30 to 40 and later ones, of which one overlaps it, one names no object, and one
-- overlaps only the one that fails
abbrev pub four_posts : List Segment
four_posts = piece 30 40 ∷ piece 39 41 ∷ piece_of (codes "z") 50 51 ∷ piece 40 45 ∷ []

-- the change that keeps two of them
abbrev pub two_kept : Change
two_kept = changes.AddSegments 5 first_flow (a_list (piece 30 40 ∷ piece 40 45 ∷ []))

-- Each segment of a list is kept or fails against the ones kept before it. Those that fail are
-- named in order, with the range of the kept segment that they overlap, and take no serial. Where
-- all are kept nothing is named. The same list again is refused as its first segment is.
pub record ListsAreAnswered : Type 0 where
  pub partly : answer stored (commands.AddSegments first_flow (a_list four_posts)) 5
      ≡ gives (replies.Partly (failed (refusals.Overlap (seconds 30 40)) (codes "a") 39 41
      ∷ failed (refusals.NoObject (codes "z")) (codes "z") 50 51 ∷ [])) two_kept
  pub serials : segment_serials (after two_kept stored) ≡ 2 ∷ 3 ∷ []
  pub again : answer (after two_kept stored)
      (commands.AddSegments first_flow (a_list four_posts)) 6
      ≡ leaves (replies.Refused (refusals.Overlap (seconds 30 40)))
  pub whole : answer stored (commands.AddSegments first_flow (a_list (piece 30 40 ∷ []))) 5
      ≡ gives replies.Created (changes.AddSegments 5 first_flow (a_list (piece 30 40 ∷ [])))

-- ---- what goes at once, and what is asked for

-- the request that a command on 33 segments makes
abbrev pub made_request : Option Span → Bool → DeleteRow
made_request range delete_flow = record {
  serial = 35;
  flow = first_flow;
  range = range;
  delete_flow = delete_flow;
  status = statuses.Created;
  created = 205;
  updated = 205;
}

-- 32 segments go at once, and more make a request, which is the reply: of the range, or of all with
-- the flow.
pub record ManyAreAskedFor : Type 0 where
  pub few : answer (with_pieces 32) (commands.DropFlow first_flow) 205
      ≡ gives replies.Done (changes.DropFlow 205 first_flow)
  pub many : answer (with_pieces 33) (commands.DropFlow first_flow) 205
      ≡ gives (replies.Accepted (made_request eternity true))
      (changes.AskDelete 205 first_flow eternity true)
  pub cut_few : answer (with_pieces 33) (commands.CutSegments first_flow (seconds 0 32)) 205
      ≡ gives replies.Done (changes.CutSegments 205 first_flow (seconds 0 32))
  pub cut_many : answer (with_pieces 33) (commands.CutSegments first_flow (seconds 0 33)) 205
      ≡ gives (replies.Accepted (made_request (seconds 0 33) false))
      (changes.AskDelete 205 first_flow (seconds 0 33) false)
  pub none_covered : answer (with_pieces 33) (commands.CutSegments first_flow (seconds 40 50)) 205
      ≡ leaves replies.Done

-- A cut removes what its range covers, and leaves what only overlaps it, and the segments of other
-- flows.
pub record CutsCover : Type 0 where
  pub covers : map (λ row. row.serial) (covered studio.segments first_flow (seconds 0 15)) ≡ 5 ∷ []
  pub meets : map (λ row. row.serial) (overlapping studio.segments first_flow (seconds 0 15) None)
      ≡ 5 ∷ 4 ∷ []
  pub left : segment_serials (after (changes.CutSegments 205 first_flow (seconds 0 15)) studio)
      ≡ 4 ∷ 6 ∷ 7 ∷ []
  pub whole : segment_serials (after (changes.CutSegments 205 first_flow eternity) studio) ≡ 6 ∷ []
  pub inner : map (λ row. row.serial) (covered studio.segments first_flow (seconds 1 9)) ≡ []

-- ---- ids that the store makes

-- an allocation of two objects, whose ids the store makes
abbrev pub two_made : Change
two_made = changes.Allocate 205 first_flow (codes "00000000-0000-0000-0000-000000000001-15"
    ∷ codes "00000000-0000-0000-0000-000000000001-16" ∷ [])

-- An id that the store makes is its own id, a hyphen and the serial that the object gets. A client
-- may name none that begins so, but one that begins with another store's id.
pub record IdsAreMade : Type 0 where
  pub first : made_id 1 1 ≡ codes "00000000-0000-0000-0000-000000000001-1"
  pub like_it :
      is_taken empty_store (Named []) (codes "00000000-0000-0000-0000-000000000001-x") ≡ true
  pub other :
      is_taken empty_store (Named []) (codes "00000000-0000-0000-0000-000000000002-1") ≡ false
  pub counted : studio_answer (commands.Allocate first_flow (Count 2))
      ≡ gives (replies.CreatedObjects (codes "00000000-0000-0000-0000-000000000001-15"
      ∷ codes "00000000-0000-0000-0000-000000000001-16" ∷ [])) two_made
  pub serials_are_theirs : map (λ row. row.serial) (after two_made studio).objects
      ≡ 1 ∷ 2 ∷ 3 ∷ 15 ∷ 16 ∷ []
  pub refused_name : refusal_of studio (commands.Allocate first_flow
      (Named (codes "00000000-0000-0000-0000-000000000001-x" ∷ [])))
      ≡ Some (refusals.IdTaken (codes "00000000-0000-0000-0000-000000000001-x"))

-- ---- media

-- the first flow with the one object stored and another one allocated
abbrev pub two_objects : Library
two_objects = after (allocate (codes "b")) stored

-- the same in a store of one media block
abbrev pub one_block : Library
one_block = record two_objects { blocks = 1 }

-- the bytes of both
abbrev pub their_bytes : List (List ℕ)
their_bytes = codes "xyz" ∷ [] ∷ []

-- the reply to a GET of an object of this library, where no digest is kept of its bytes
abbrev pub media_of : Library → List ℕ → Reply
media_of library object = get_media_reply (record { library = library; held = [] }) object

-- digests of which one half is another
abbrev pub other_high : Digest
other_high = record { high = 1; low = 0 }

abbrev pub other_low : Digest
other_low = record { high = 0; low = 1 }

-- The first bytes of an object take the least free place, with their digest, equal bytes change
-- nothing, and others are refused. An object without bytes is stored even where no block is free.
-- Bytes are given where they have the digest that is kept, if one is.
pub record MediaAreKept : Type 0 where
  pub unknown : put_media_answer empty_store [] (codes "a") (codes "xyz") 5
      ≡ leaves (replies.Refused refusals.UnknownObject)
  pub first : put_media_answer two_objects their_bytes (codes "b") (codes "q") 5
      ≡ gives replies.Created (changes.Store 5 (codes "b") 1 1 (Some (digest_of (codes "q"))))
  pub equal : put_media_answer stored (codes "xyz" ∷ []) (codes "a") (codes "xyz") 5
      ≡ leaves replies.Done
  pub other : put_media_answer stored (codes "xyz" ∷ []) (codes "a") (codes "xy") 5
      ≡ leaves (replies.Refused refusals.OtherBytes)
  pub longer : put_media_answer stored (codes "xyz" ∷ []) (codes "a") (codes "xyzz") 5
      ≡ leaves (replies.Refused refusals.OtherBytes)
  pub full : put_media_answer one_block their_bytes (codes "b") (codes "q") 5
      ≡ leaves (replies.Refused refusals.MediaFull)
  pub nothing_fits : put_media_answer one_block their_bytes (codes "b") [] 5
      ≡ gives replies.Created (changes.Store 5 (codes "b") 0 0 (Some (digest_of [])))
  pub given : media_of stored (codes "a") ≡ replies.Media 3
  pub given_other : media_of studio (codes "b") ≡ replies.Media 4097
  pub not_given : media_of two_objects (codes "b") ≡ replies.Refused refusals.UnknownObject
  pub not_kept : media_of studio (codes "z") ≡ replies.Refused refusals.UnknownObject
  pub no_digest_kept : whole_media 3 None no_digest ≡ replies.Media 3
  pub same_digest : whole_media 3 (Some no_digest) no_digest ≡ replies.Media 3
  pub other_front : whole_media 3 (Some no_digest) other_high
      ≡ replies.Refused (refusals.ObjectDamaged no_digest other_high)
  pub other_back : whole_media 3 (Some no_digest) other_low
      ≡ replies.Refused (refusals.ObjectDamaged no_digest other_low)

-- the archive of a stored object and an allocated one
abbrev pub archive : Archive
archive = record { library = two_objects; held = their_bytes }

-- the bytes of its objects after a change, with which these bytes come
abbrev pub held_after : Change → List ℕ → List (List ℕ)
held_after change came = (archive_after change came archive).held

-- A question is a command, bytes to keep, or bytes to give. A change leaves the bytes of the
-- objects that stay; those that come are of the object that it stores.
pub record BytesStandBeside : Type 0 where
  pub fits : is_held archive ≡ true
  pub too_short : is_held (record archive { held = codes "xy" ∷ [] ∷ [] }) ≡ false
  pub too_many : is_held (record archive { held = codes "xyz" ∷ [] ∷ [] ∷ [] }) ≡ false
  pub unstored : is_held (record archive { held = codes "xyz" ∷ codes "q" ∷ [] }) ≡ false
  pub command : answer_to archive (asks (commands.DropFlow 99)) 5
      ≡ leaves (replies.Refused refusals.NoFlow)
  pub put : answer_to archive (puts (codes "b") (codes "q")) 5
      ≡ gives replies.Created (changes.Store 5 (codes "b") 1 1 (Some (digest_of (codes "q"))))
  pub get : answer_to archive (gets (codes "a")) 5 ≡ leaves (replies.Media 3)
  pub no_get : answer_to archive (gets (codes "b")) 5
      ≡ leaves (replies.Refused refusals.UnknownObject)
  pub bytes_come : held_after (changes.Store 5 (codes "b") 1 1 None) (codes "q")
      ≡ codes "xyz" ∷ codes "q" ∷ []
  pub bytes_stay : held_after (changes.DropFlow 5 first_flow) (codes "q") ≡ codes "xyz" ∷ [] ∷ []
  pub objects_come : held_after (allocate (codes "c")) [] ≡ codes "xyz" ∷ [] ∷ [] ∷ []
  pub objects_go : held_after (changes.SweepStep 86400) [] ≡ []
  pub came_whole : fits_bytes (changes.Store 5 (codes "b") 1 2 None) (codes "q") ≡ false

-- ---- places

-- The least place of so many free blocks, also between objects, and none where they don't fit.
pub record PlacesAreFound : Type 0 where
  pub behind : free_place studio.objects studio.blocks 1 ≡ Some 3
  pub whole : free_place studio.objects studio.blocks 43 ≡ Some 3
  pub too_many : free_place studio.objects studio.blocks 44 ≡ None
  pub no_blocks : free_place studio.objects studio.blocks 0 ≡ Some 0
  pub between :
      free_place (object_b ∷ record object_a { state = Stored 5 4096 None } ∷ []) 46 2 ≡ Some 3
  pub in_front : free_place (object_b ∷ record object_a { state = Stored 5 4096 None } ∷ []) 46 1
      ≡ Some 0
  pub past :
      free_place (object_b ∷ record object_a { state = Stored 5 4096 None } ∷ []) 46 3 ≡ Some 6
