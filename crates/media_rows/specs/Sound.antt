-- What a command or a change itself brings, tested apart from what a library refuses: its texts,
-- the ends of its ranges, the ids of its objects, and the place of an object's bytes. Our own
-- rules.
use Rattle.std.specs.Prelude.{ℕ, ◌==◌, nat_lt, List, Bool, true, false, not, ◌&&◌, ◌||◌, Option, Some, None}
use Rattle.std.specs.List.{list_all}
use Rattle.std.specs.Str.{is_utf8}
use Rattle.media_rows.specs.declared.change.Change.{Change}
use Rattle.media_rows.specs.declared.change.Change.TheVariants as changes
use Rattle.media_rows.specs.declared.command.Command.{Command}
use Rattle.media_rows.specs.declared.command.Command.TheVariants as commands
use Rattle.media_rows.specs.declared.command.Want.{Want}
use Rattle.media_rows.specs.declared.command.Want.TheVariants.{Count, Named}
use Rattle.media_rows.specs.declared.hook.Hook.{Hook}
use Rattle.media_rows.specs.declared.object.ObjectRow.{ObjectRow}
use Rattle.media_rows.specs.declared.object.ObjectState.{ObjectState}
use Rattle.media_rows.specs.declared.object.ObjectState.TheVariants.{Allocated, Stored}
use Rattle.media_rows.specs.declared.part.Part.{Part}
use Rattle.media_rows.specs.declared.part.Part.TheVariants as parts
use Rattle.media_rows.specs.declared.segment.Segment.{Segment}
use Rattle.media_rows.specs.Apply.{passes_serials}
use Rattle.media_rows.specs.Changes.{moment_of}
use Rattle.media_rows.specs.Good.{if_there, is_tag_text, is_member_text, is_body_text, is_hook_text}
use Rattle.media_rows.specs.Ids.{is_object_id}
use Rattle.media_rows.specs.Library.{Library}
use Rattle.media_rows.specs.Moments.{is_moment}
use Rattle.media_rows.specs.Objects.{blocks_of, free_place, object_of}
use Rattle.media_rows.specs.Outbox.{hook_row}
use Rattle.media_rows.specs.Ranges.{has_both_ends, is_eternity}

-- ---- what both bring

-- the texts of a part are good
abbrev pub is_part_good : Part → Bool
is_part_good (parts.Tag name new) = if_there is_tag_text new
is_part_good (parts.Label new) = if_there is_utf8 new
is_part_good (parts.Description new) = if_there is_utf8 new
is_part_good (parts.ReadOnly new) = true
is_part_good (parts.Collection new) = list_all is_member_text new
is_part_good (parts.MaxBitRate new) = true
is_part_good (parts.AvgBitRate new) = true

-- each segment of a post is bounded at both ends, and isn't never
abbrev pub are_posts_good : List Segment → Bool
are_posts_good posts = list_all (λ post. has_both_ends post.range) posts

-- a hook's texts are good
abbrev pub is_new_hook_good : Hook → Bool
is_new_hook_good hook = is_hook_text (hook_row hook 0)

-- ---- a command

-- the ids that a client names for an allocation have their form
abbrev pub is_want_good : Want → Bool
is_want_good (Count n) = true
is_want_good (Named ids) = list_all is_object_id ids

-- a block is the place that was found, if one was
abbrev pub is_place : ℕ → Option ℕ → Bool
is_place start None = false
is_place start (Some place) = start == place

-- a block is the least free place for so many bytes
abbrev pub is_least_place : Library → ℕ → ℕ → Bool
is_least_place library start size =
    is_place start (free_place library.objects library.blocks (blocks_of size))

-- an object in this state takes bytes at a place that passes, and none once it is stored
abbrev pub may_take : ObjectState → Bool → Bool
may_take Allocated at_place = at_place
may_take (Stored start size digest) at_place = false

-- the same of an object that may be missing, which nothing is asked of
abbrev pub may_keep : Option ObjectRow → Bool → Bool
may_keep None at_place = true
may_keep (Some row) at_place = may_take row.state at_place

-- What a command brings is good. An object whose bytes are to be stored isn't stored yet, and where
-- it is allocated its place is the least free one.
abbrev pub is_good_command : Library → Command → Bool
is_good_command library (commands.PutFlow body) = is_body_text body
is_good_command library (commands.SetFlow flow part) = is_part_good part
is_good_command library (commands.SetSource source part) = is_part_good part
is_good_command library (commands.DropFlow flow) = true
is_good_command library (commands.Allocate flow want) = is_want_good want
is_good_command library (commands.Keep object start size digest) =
    may_keep (object_of object library.objects) (is_least_place library start size)
is_good_command library (commands.AddSegments flow posts) = are_posts_good posts.segments
is_good_command library (commands.CutSegments flow range) = true
is_good_command library (commands.PutHook hook) = is_new_hook_good hook
is_good_command library (commands.DropHook url) = true
is_good_command library (commands.Ask query) = true

-- ---- a change

-- What a change brings is good. An object without bytes begins at block 0, and a request that
-- deletes its flow has all of the line as its range.
abbrev pub has_good_values : Change → Bool
has_good_values (changes.PutFlow moment flow) = is_body_text flow
has_good_values (changes.SetFlow moment flow part) = is_part_good part
has_good_values (changes.SetSource moment source part) = is_part_good part
has_good_values (changes.DropFlow moment flow) = true
has_good_values (changes.Allocate moment flow ids) = list_all is_object_id ids
has_good_values (changes.Store moment object start size digest) = nat_lt 0 size || (start == 0)
has_good_values (changes.AddSegments moment flow posts) = are_posts_good posts.segments
has_good_values (changes.CutSegments moment flow range) = true
has_good_values (changes.AskDelete moment flow range delete_flow) =
    not delete_flow || is_eternity range
has_good_values (changes.DeleteStep moment) = true
has_good_values (changes.SweepStep moment) = true
has_good_values (changes.PutHook moment hook) = is_new_hook_good hook
has_good_values (changes.DropHook moment url) = true
has_good_values (changes.Delivered moment event) = true

-- a change at a moment brings good values, and the serials don't end with it
abbrev pub is_sound : Library → Change → Bool
is_sound library change =
    is_moment (moment_of change) && has_good_values change && not (passes_serials change library)
