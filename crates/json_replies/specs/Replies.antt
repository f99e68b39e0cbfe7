-- The body of each answer. It is empty where the answer has none: for `Created`, `Done`, and
-- `Media`, whose bytes follow from elsewhere. Our own profile of the Time-addressable Media Store.
use Rattle.std.specs.Prelude.{ℕ, List, [], ◌∷◌, ◌++◌, Option, Some, None, codes}
use Rattle.json.specs.Print.{print}
use Rattle.json.specs.Token.{Token}
use Rattle.media_rows.specs.Digests.{digest_text}
use Rattle.media_rows.specs.Ids.{id_text}
use Rattle.media_rows.specs.RefusalTable.{refusal_name}
use Rattle.media_rows.specs.declared.object.Digest.{Digest}
use Rattle.media_rows.specs.declared.part.Part.{Part}
use Rattle.media_rows.specs.declared.part.Part.TheVariants as parts
use Rattle.media_rows.specs.declared.refusal.Refusal.{Refusal}
use Rattle.media_rows.specs.declared.refusal.Refusal.TheVariants as refusals
use Rattle.media_rows.specs.declared.reply.FailedSegment.{FailedSegment}
use Rattle.media_rows.specs.declared.reply.Reply.{Reply}
use Rattle.media_rows.specs.declared.reply.Reply.TheVariants as replies
use Rattle.media_rows.specs.declared.reply.View.{View}
use Rattle.media_rows.specs.declared.reply.View.TheVariants as views
use Rattle.time_range.specs.Printing.{canonical_range_text}
use Rattle.json_replies.specs.Rows.{source_value, flow_value, segment_value, object_value, storage_value, request_value, hook_value}
use Rattle.json_replies.specs.Shapes.{string_value, number_value, truth_value, list_tokens, object_tokens, ObjectMember, always, where_set}
use Rattle.json_replies.specs.Values.{id_value, range_value, tag_value, tags_value, collection_value}

-- ---- refusals

-- the digest that is kept of an object's bytes and the one that was found, with a blank between
unfoldable pub damage_text : Digest → Digest → List ℕ
damage_text kept found = digest_text kept ++ codes " " ++ digest_text found

-- the detail of a refusal, where it has one
abbrev pub refusal_detail : Refusal → Option (List ℕ)
refusal_detail refusals.BadHead = None
refusal_detail refusals.BadFraming = None
refusal_detail refusals.LengthRequired = None
refusal_detail refusals.TooLarge = None
refusal_detail refusals.Coding = None
refusal_detail refusals.NoRoute = None
refusal_detail refusals.NoMethod = None
refusal_detail refusals.NotJson = None
refusal_detail refusals.Fractional = None
refusal_detail (refusals.Missing member) = Some member
refusal_detail (refusals.WrongKind member) = Some member
refusal_detail (refusals.TooLong member) = Some member
refusal_detail (refusals.OutOfRange member) = Some member
refusal_detail (refusals.BadTimerange member) = Some member
refusal_detail (refusals.BadQuery name) = Some name
refusal_detail refusals.NoSource = None
refusal_detail refusals.NoFlow = None
refusal_detail refusals.UnknownObject = None
refusal_detail refusals.NoRequest = None
refusal_detail (refusals.NotSet part) = Some part
refusal_detail refusals.Deleting = None
refusal_detail refusals.ReadOnly = None
refusal_detail refusals.SourceFormat = None
refusal_detail refusals.FlowChanged = None
refusal_detail refusals.CollectsItself = None
refusal_detail (refusals.CollectedMissing id) = Some (id_text id)
refusal_detail (refusals.IdTaken object) = Some object
refusal_detail refusals.OtherBytes = None
refusal_detail (refusals.NoObject object) = Some object
refusal_detail (refusals.Overlap range) = Some (canonical_range_text range)
refusal_detail refusals.JournalFull = None
refusal_detail refusals.MediaFull = None
refusal_detail (refusals.ObjectDamaged kept found) = Some (damage_text kept found)

-- the members of a refusal
abbrev pub refusal_members : Refusal → List ObjectMember
refusal_members refusal =
    where_set (codes "detail") string_value (refusal_detail refusal)
    ∷ always (codes "type") (string_value (refusal_name refusal))
    ∷ []

-- a refusal
unfoldable pub refusal_value : Refusal → List Token
refusal_value refusal = object_tokens (refusal_members refusal)

-- the members of a segment that isn't kept: why, the object that it names, and its range
abbrev pub failed_members : FailedSegment → List ObjectMember
failed_members failed =
    always (codes "error") (refusal_value failed.refusal)
    ∷ always (codes "object_id") (string_value failed.object)
    ∷ always (codes "timerange") (range_value failed.range)
    ∷ []

-- a segment that isn't kept
unfoldable pub failed_value : FailedSegment → List Token
failed_value failed = object_tokens (failed_members failed)

-- the members of what a post answers of which some segments aren't kept
abbrev pub partly_members : List FailedSegment → List ObjectMember
partly_members failed = always (codes "failed_segments") (list_tokens failed_value failed) ∷ []

-- what such a post answers
unfoldable pub partly_value : List FailedSegment → List Token
partly_value failed = object_tokens (partly_members failed)

-- ---- parts

-- a part that is set, by its value; nothing for one that isn't
abbrev pub if_set : {X : Type 0} → (X → List Token) → Option X → List Token
if_set value None = []
if_set value (Some x) = value x

-- the value of a part
abbrev pub part_value : Part → List Token
part_value (parts.Tag name tag) = if_set tag_value tag
part_value (parts.Label text) = if_set string_value text
part_value (parts.Description text) = if_set string_value text
part_value (parts.ReadOnly mark) = truth_value mark
part_value (parts.Collection members) = collection_value members
part_value (parts.MaxBitRate rate) = if_set number_value rate
part_value (parts.AvgBitRate rate) = if_set number_value rate

-- ---- views

-- the names of what the store has
abbrev pub root_names : List (List ℕ)
root_names =
    codes "flow-delete-requests" ∷ codes "flows" ∷ codes "objects" ∷ codes "service"
    ∷ codes "sources" ∷ []

-- the members of the service: the store's id and its type
abbrev pub service_members : ℕ → List ObjectMember
service_members store =
    always (codes "store_id") (id_value store)
    ∷ always (codes "type") (string_value (codes "tams-profile-1"))
    ∷ []

-- what a query shows, for the store's id and the base of its addresses
abbrev pub view_value : ℕ → List ℕ → View → List Token
view_value store base views.Root = list_tokens string_value root_names
view_value store base views.Service = object_tokens (service_members store)
view_value store base (views.Source row) = source_value row
view_value store base (views.Sources rows next) = list_tokens source_value rows
view_value store base (views.Flow flow) = flow_value flow
view_value store base (views.Flows flows next) = list_tokens flow_value flows
view_value store base (views.Segments rows next) = list_tokens (segment_value base) rows
view_value store base (views.Object row flows) = object_value row flows
view_value store base (views.Request row) = request_value store row
view_value store base (views.Requests rows) = list_tokens (request_value store) rows
view_value store base (views.Hooks hooks) = list_tokens hook_value hooks
view_value store base (views.OnePart part) = part_value part
view_value store base (views.AllTags tags) = tags_value tags

-- ---- replies

-- what a reply has as its body
abbrev pub reply_value : ℕ → List ℕ → Reply → List Token
reply_value store base replies.Created = []
reply_value store base (replies.CreatedObjects ids) = storage_value base ids
reply_value store base (replies.Accepted row) = request_value store row
reply_value store base replies.Done = []
reply_value store base (replies.Shown view) = view_value store base view
reply_value store base (replies.Media size) = []
reply_value store base (replies.Refused refusal) = refusal_value refusal
reply_value store base (replies.Partly failed) = partly_value failed

-- the text of that body
abbrev pub reply_text : ℕ → List ℕ → Reply → List ℕ
reply_text store base reply = print (reply_value store base reply)
