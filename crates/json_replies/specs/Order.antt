-- The law on the order of keys: in each object of an answer they rise, byte by byte.
use Rattle.std.specs.Prelude.{ℕ, List, IsTrue, map}
use Rattle.media_rows.specs.Lists.{text_before, rises}
use Rattle.media_rows.specs.declared.flow.Member.{Member}
use Rattle.media_rows.specs.declared.flow.Tag.{Tag}
use Rattle.media_rows.specs.declared.object.ObjectRow.{ObjectRow}
use Rattle.media_rows.specs.declared.refusal.Refusal.{Refusal}
use Rattle.media_rows.specs.declared.reply.FailedSegment.{FailedSegment}
use Rattle.media_rows.specs.declared.reply.FlowShown.{FlowShown}
use Rattle.media_rows.specs.declared.reply.HookShown.{HookShown}
use Rattle.media_rows.specs.declared.request.DeleteRow.{DeleteRow}
use Rattle.media_rows.specs.declared.segment.Segment.{Segment}
use Rattle.media_rows.specs.declared.source.SourceRow.{SourceRow}
use Rattle.json_replies.specs.Replies.{failed_members, partly_members, refusal_members, service_members}
use Rattle.json_replies.specs.Rows.{source_members, flow_members, get_url_members, segment_members, object_members, put_url_members, allocated_members, storage_members, request_members, hook_members}
use Rattle.json_replies.specs.Shapes.{HasRisingKeys}
use Rattle.json_replies.specs.Values.{collected_members, tag_member}

-- tags rise by name, as those of a kept flow or source do
abbrev pub AreTagsInOrder : List Tag → Type 0
AreTagsInOrder tags = IsTrue (rises (λ a b. text_before a.name b.name) tags)

-- each object's keys rise; those of the object of tags do where its tags rise by name
pub record KeysRise : Type 0 where
  pub service : (store : ℕ) → HasRisingKeys (service_members store)
  pub source : (row : SourceRow) → HasRisingKeys (source_members row)
  pub flow : (flow : FlowShown) → HasRisingKeys (flow_members flow)
  pub collected : (m : Member) → HasRisingKeys (collected_members m)
  pub tags : (tags : List Tag) → AreTagsInOrder tags → HasRisingKeys (map tag_member tags)
  pub segment : (base : List ℕ) (segment : Segment) → HasRisingKeys (segment_members base segment)
  pub get_url : (base object : List ℕ) → HasRisingKeys (get_url_members base object)
  pub object : (row : ObjectRow) (flows : List ℕ) → HasRisingKeys (object_members row flows)
  pub put_url : (base object : List ℕ) → HasRisingKeys (put_url_members base object)
  pub allocated : (base object : List ℕ) → HasRisingKeys (allocated_members base object)
  pub storage :
      (base : List ℕ) (objects : List (List ℕ)) → HasRisingKeys (storage_members base objects)
  pub request : (store : ℕ) (row : DeleteRow) → HasRisingKeys (request_members store row)
  pub hook : (shown : HookShown) → HasRisingKeys (hook_members shown)
  pub refusal : (refusal : Refusal) → HasRisingKeys (refusal_members refusal)
  pub failed : (failed : FailedSegment) → HasRisingKeys (failed_members failed)
  pub partly : (failed : List FailedSegment) → HasRisingKeys (partly_members failed)
