-- Replies that can be printed: their texts are UTF-8, the ids of objects have their form, essence
-- texts are such, and moments lie in their range. Those of a good library are.
use Rattle.std.specs.Prelude.{Bool, true, ◌&&◌}
use Rattle.std.specs.List.{list_all}
use Rattle.std.specs.Str.{is_utf8}
use Rattle.media_rows.specs.Good.{if_there, is_tag_text, is_member_text, is_flow_text, is_source_text, is_object_text, is_request_text, is_hook_text}
use Rattle.media_rows.specs.Ids.{is_object_id}
use Rattle.media_rows.specs.declared.part.Part.{Part}
use Rattle.media_rows.specs.declared.part.Part.TheVariants as parts
use Rattle.media_rows.specs.declared.refusal.Refusal.{Refusal}
use Rattle.media_rows.specs.declared.refusal.Refusal.TheVariants as refusals
use Rattle.media_rows.specs.declared.reply.FailedSegment.{FailedSegment}
use Rattle.media_rows.specs.declared.reply.Reply.{Reply}
use Rattle.media_rows.specs.declared.reply.Reply.TheVariants as replies
use Rattle.media_rows.specs.declared.reply.View.{View}
use Rattle.media_rows.specs.declared.reply.View.TheVariants as views

-- of a refusal: the name of a member, a query or a part, or the id of an object
abbrev pub has_refusal_texts : Refusal → Bool
has_refusal_texts refusals.BadHead = true
has_refusal_texts refusals.BadFraming = true
has_refusal_texts refusals.LengthRequired = true
has_refusal_texts refusals.TooLarge = true
has_refusal_texts refusals.Coding = true
has_refusal_texts refusals.NoRoute = true
has_refusal_texts refusals.NoMethod = true
has_refusal_texts refusals.NotJson = true
has_refusal_texts refusals.Fractional = true
has_refusal_texts (refusals.Missing member) = is_utf8 member
has_refusal_texts (refusals.WrongKind member) = is_utf8 member
has_refusal_texts (refusals.TooLong member) = is_utf8 member
has_refusal_texts (refusals.OutOfRange member) = is_utf8 member
has_refusal_texts (refusals.BadTimerange member) = is_utf8 member
has_refusal_texts (refusals.BadQuery name) = is_utf8 name
has_refusal_texts refusals.NoSource = true
has_refusal_texts refusals.NoFlow = true
has_refusal_texts refusals.UnknownObject = true
has_refusal_texts refusals.NoRequest = true
has_refusal_texts (refusals.NotSet part) = is_utf8 part
has_refusal_texts refusals.Deleting = true
has_refusal_texts refusals.ReadOnly = true
has_refusal_texts refusals.SourceFormat = true
has_refusal_texts refusals.FlowChanged = true
has_refusal_texts refusals.CollectsItself = true
has_refusal_texts (refusals.CollectedMissing id) = true
has_refusal_texts (refusals.IdTaken object) = is_object_id object
has_refusal_texts refusals.OtherBytes = true
has_refusal_texts (refusals.NoObject object) = is_object_id object
has_refusal_texts (refusals.Overlap range) = true
has_refusal_texts refusals.JournalFull = true
has_refusal_texts refusals.MediaFull = true
has_refusal_texts (refusals.ObjectDamaged kept found) = true

-- of a segment that isn't kept
abbrev pub has_failed_texts : FailedSegment → Bool
has_failed_texts failed = has_refusal_texts failed.refusal && is_object_id failed.object

-- of a part, by what is shown of it
abbrev pub has_shown_texts : Part → Bool
has_shown_texts (parts.Tag name tag) = if_there is_tag_text tag
has_shown_texts (parts.Label text) = if_there is_utf8 text
has_shown_texts (parts.Description text) = if_there is_utf8 text
has_shown_texts (parts.ReadOnly mark) = true
has_shown_texts (parts.Collection members) = list_all is_member_text members
has_shown_texts (parts.MaxBitRate rate) = true
has_shown_texts (parts.AvgBitRate rate) = true

-- of what a query shows
abbrev pub has_view_texts : View → Bool
has_view_texts views.Root = true
has_view_texts views.Service = true
has_view_texts (views.Source row) = is_source_text row
has_view_texts (views.Sources rows next) = list_all is_source_text rows
has_view_texts (views.Flow flow) = is_flow_text flow.row
has_view_texts (views.Flows flows next) = list_all (λ flow. is_flow_text flow.row) flows
has_view_texts (views.Segments rows next) = list_all (λ row. is_object_id row.segment.object) rows
has_view_texts (views.Object row flows) = is_object_text row
has_view_texts (views.Request row) = is_request_text row
has_view_texts (views.Requests rows) = list_all is_request_text rows
has_view_texts (views.Hooks hooks) = list_all (λ hook. is_hook_text hook.row) hooks
has_view_texts (views.OnePart part) = has_shown_texts part
has_view_texts (views.AllTags tags) = list_all is_tag_text tags

-- of a reply
abbrev pub has_reply_texts : Reply → Bool
has_reply_texts replies.Created = true
has_reply_texts (replies.CreatedObjects ids) = list_all is_object_id ids
has_reply_texts (replies.Accepted row) = is_request_text row
has_reply_texts replies.Done = true
has_reply_texts (replies.Shown view) = has_view_texts view
has_reply_texts (replies.Media size) = true
has_reply_texts (replies.Refused refusal) = has_refusal_texts refusal
has_reply_texts (replies.Partly failed) = list_all has_failed_texts failed
