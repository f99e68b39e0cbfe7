-- Each refusal of a reader of bodies is one of a body: so it is for each step, and for a chain of them.
use Rattle.std.proofs.Common.{refl, List, [], ◌∷◌, ℕ, Option, Some, None, Result, Ok, Err, true, false, Bool}
use Rattle.std.specs.Prelude.{IsTrue, IfErr, codes, if◌then◌else◌}
use Rattle.serde_json.specs.Data.{Data, Items, no_items, item}
use Rattle.serde_json.specs.Find.{get}
use Rattle.serde_json.specs.Written.{has_float}
use Rattle.media_rows.specs.Essence.{is_object}
use Rattle.media_rows.specs.declared.command.Want.{Want}
use Rattle.media_rows.specs.declared.flow.FlowBody.{FlowBody}
use Rattle.media_rows.specs.declared.hook.Hook.{Hook}
use Rattle.media_rows.specs.declared.part.Part.{Part}
use Rattle.media_rows.specs.declared.part.PartName.{PartName}
use Rattle.media_rows.specs.declared.part.PartName.TheVariants as names
use Rattle.media_rows.specs.declared.refusal.Refusal.{Refusal}
use Rattle.media_rows.specs.declared.refusal.Refusal.TheVariants as refusals
use Rattle.media_rows.specs.declared.refusal.Refusal.TheVariants.{Fractional}
use Rattle.media_rows.specs.declared.segment.Segment.{Segment}
use Rattle.json_bodies.specs.declared.fault.Breach.{Breach}
use Rattle.json_bodies.specs.declared.fault.Breach.TheVariants.{Missing, WrongKind, TooLong, OutOfRange, BadTimerange}
use Rattle.json_bodies.specs.Body.{json_in, without_fraction, value_in, checked_object}
use Rattle.json_bodies.specs.Flow.{same_id, anything, format, tags, essence, origin_of, named_source, flow_texts, numbers_of, flow_contents, flow_body_of, flow_in}
use Rattle.json_bodies.specs.Hook.{address, events, ids, hook_from, hook_in}
use Rattle.json_bodies.specs.Part.{part_from, part_in}
use Rattle.json_bodies.specs.Refusals.{is_body_refusal}
use Rattle.json_bodies.specs.Kinds.{counted_items, object_id_value, tag_rule, collection}
use Rattle.json_bodies.specs.Rules.{◌>>=◌, named_result, optional_member, required, absent_or, if_required, id, text, truth, whole, longest_text, longest_description, last_whole}
use Rattle.json_bodies.specs.Segments.{object_id, bounded, offset, duration, whole_number, samples_of, segment_of, segments_from, segments_in_items, post_items, post_of, segments_in}
use Rattle.json_bodies.specs.Storage.{most_objects, count_in, want_from, want_of, want_in}

-- a refusal, where there is one, is one of a body
pub record IsOfBodies {X : Type 0} (result : Result X Refusal) : Type 0 where
  pub is : IfErr result (λ why. IsTrue (is_body_refusal why))

-- what is given isn't refused
fine : {X : Type 0} {x : X} → IsOfBodies (Ok x)
fine = record { is = tt }

-- so it is for two steps, the second of which goes on with what the first gives
chain : {X Y : Type 0} (first : Result X Refusal) (next : X → Result Y Refusal) → IsOfBodies first → ((x : X) → IsOfBodies (next x))
    → IsOfBodies (first >>= next)
chain (Ok x) next h k = k x
chain (Err why) next h k = record { is = h.is }

-- so it is for a member
member_of : {X : Type 0} (name : List ℕ) (given : Result X Breach) → IsOfBodies (named_result name given)
member_of name (Ok x) = fine
member_of name (Err Missing) = record { is = refl }
member_of name (Err WrongKind) = record { is = refl }
member_of name (Err TooLong) = record { is = refl }
member_of name (Err OutOfRange) = record { is = refl }
member_of name (Err BadTimerange) = record { is = refl }

-- for a member, and what goes on with it
after : {X Y : Type 0} (name : List ℕ) (given : Result X Breach) (next : X → Result Y Refusal) → ((x : X) → IsOfBodies (next x))
    → IsOfBodies (named_result name given >>= next)
after name given next k = chain (named_result name given) next (member_of name given) k

-- for a member that may be absent, and one that has to be there
may : {X Y : Type 0} (name : List ℕ) (rule : Data → Result X Breach) (fields : Data) (next : Option X → Result Y Refusal)
    → ((x : Option X) → IsOfBodies (next x)) → IsOfBodies (optional_member name rule fields >>= next)
may name rule fields next k = after name (absent_or rule (get name fields)) next k

must : {X Y : Type 0} (name : List ℕ) (rule : Data → Result X Breach) (fields : Data) (next : X → Result Y Refusal)
    → ((x : X) → IsOfBodies (next x)) → IsOfBodies (required name rule fields >>= next)
must name rule fields next k = after name (if_required rule (get name fields)) next k

-- for the value of a body
fraction_in : (value : Data) (has : Bool) → IsOfBodies (if has then Err Fractional else Ok value)
fraction_in value true = record { is = refl }
fraction_in value false = fine

value_of : (value : Option Data) → IsOfBodies (without_fraction value)
value_of None = record { is = refl }
value_of (Some value) = fraction_in value (has_float value)

-- for a value that has to be an object
object_if : (yes : Bool) → IsOfBodies {X = Unit {0}} (if yes then Ok tt else Err (refusals.WrongKind (codes "body")))
object_if true = fine
object_if false = record { is = refl }

-- for a body that has to be an object
body_of : {X : Type 0} (body : List ℕ) (next : Data → Result X Refusal) → ((value : Data) → IsOfBodies (next value))
    → IsOfBodies (value_in body >>= λ value. checked_object value >>= λ _. next value)
body_of body next k =
    chain (value_in body) (λ value. checked_object value >>= λ _. next value) (value_of (json_in body))
    (λ value. chain (checked_object value) (λ _. next value) (object_if (is_object value)) (λ _. k value))

-- ---- flows

-- a source that has to be there
source_of : (source : Option ℕ) → IsOfBodies (named_source source)
source_of None = record { is = refl }
source_of (Some source) = fine

origin : (fields : Data) → IsOfBodies (origin_of fields)
origin fields =
    may (codes "source_id") id fields _ (λ found. must (codes "format") anything fields _
    (λ _. chain (named_source found) _ (source_of found) (λ source. must (codes "format") format fields _ (λ kind. fine))))

texts : (fields : Data) → IsOfBodies (flow_texts fields)
texts fields =
    may (codes "codec") (text longest_text) fields _ (λ codec. may (codes "container") (text longest_text) fields _
    (λ container. may (codes "label") (text longest_text) fields _
    (λ label. may (codes "description") (text longest_description) fields _ (λ description. fine))))

numbers : (fields : Data) → IsOfBodies (numbers_of fields)
numbers fields =
    may (codes "read_only") truth fields _ (λ mark. may (codes "max_bit_rate") (whole 0 last_whole) fields _
    (λ most. may (codes "avg_bit_rate") (whole 0 last_whole) fields _ (λ average. fine)))

contents : (fields : Data) → IsOfBodies (flow_contents fields)
contents fields =
    may (codes "tags") tags fields _ (λ found. may (codes "flow_collection") collection fields _
    (λ members. may (codes "essence_parameters") essence fields _ (λ text. fine)))

flow : (id : ℕ) (fields : Data) → IsOfBodies (flow_body_of id fields)
flow id fields =
    may (codes "id") (same_id id) fields _ (λ _. chain (origin_of fields) _ (origin fields) (λ origin. chain (flow_texts fields) _ (texts fields)
    (λ texts. chain (numbers_of fields) _ (numbers fields) (λ numbers. chain (flow_contents fields) _ (contents fields) (λ contents. fine)))))

pub of_flow : (id : ℕ) (body : List ℕ) → IsOfBodies (flow_in id body)
of_flow id body = body_of body (flow_body_of id) (flow id)

-- ---- segments

samples : (fields : Data) → IsOfBodies (samples_of fields)
samples fields =
    may (codes "sample_offset") whole_number fields _ (λ offset. may (codes "sample_count") whole_number fields _
    (λ count. may (codes "key_frame_count") whole_number fields _ (λ frames. fine)))

segment : (fields : Data) → IsOfBodies (segment_of fields)
segment fields =
    must (codes "object_id") object_id fields _ (λ id. must (codes "timerange") bounded fields _
    (λ range. may (codes "ts_offset") offset fields _ (λ offset. may (codes "last_duration") duration fields _
    (λ duration. chain (samples_of fields) _ (samples fields) (λ samples. fine)))))

segments : (values : Items) → IsOfBodies (segments_from values)
segments no_items = fine
segments (item value values) =
    chain (segment_of value) _ (segment value) (λ first. chain (segments_from values) _ (segments values) (λ later. fine))

posted : (values : Option Items) → IsOfBodies (segments_in_items values)
posted None = record { is = refl }
posted (Some values) = segments values

pub of_segments : (body : List ℕ) → IsOfBodies (segments_in body)
of_segments body =
    chain (value_in body) post_of (value_of (json_in body)) (λ value. chain (segments_in_items (post_items value)) _ (posted (post_items value)) (λ segments. fine))

-- ---- storage, hooks and parts

count : (fields : Data) → IsOfBodies (count_in fields)
count fields = may (codes "limit") (whole 1 most_objects) fields _ (λ limit. fine)

want_by : (fields : Data) (ids : Option (List (List ℕ))) → IsOfBodies (want_from fields ids)
want_by fields None = count fields
want_by fields (Some ids) = fine

pub of_storage : (body : List ℕ) → IsOfBodies (want_in body)
of_storage [] = fine
of_storage (byte ∷ bytes) =
    body_of (byte ∷ bytes) want_of
    (λ fields. may (codes "object_ids") (counted_items object_id_value 1 most_objects) fields (want_from fields) (λ ids. want_by fields ids))

hook : (fields : Data) → IsOfBodies (hook_from fields)
hook fields =
    must (codes "url") address fields _ (λ url. must (codes "events") events fields _
    (λ kinds. may (codes "api_key_name") (text longest_text) fields _ (λ name. may (codes "api_key_value") (text longest_text) fields _
    (λ value. may (codes "flow_ids") ids fields _ (λ flows. may (codes "source_ids") ids fields _ (λ sources. fine))))))

pub of_hook : (body : List ℕ) → IsOfBodies (hook_in body)
of_hook body = body_of body hook_from hook

part : (name : PartName) (value : Data) → IsOfBodies (part_from name value)
part (names.Tag name) value = after (codes "tags") (tag_rule name value) _ (λ tag. fine)
part names.Tags value = record { is = refl }
part names.Label value = after (codes "label") (text longest_text value) _ (λ label. fine)
part names.Description value = after (codes "description") (text longest_description value) _ (λ description. fine)
part names.ReadOnly value = after (codes "read_only") (truth value) _ (λ mark. fine)
part names.Collection value = after (codes "flow_collection") (collection value) _ (λ members. fine)
part names.MaxBitRate value = after (codes "max_bit_rate") (whole 0 last_whole value) _ (λ rate. fine)
part names.AvgBitRate value = after (codes "avg_bit_rate") (whole 0 last_whole value) _ (λ rate. fine)

pub of_part : (name : PartName) (body : List ℕ) → IsOfBodies (part_in name body)
of_part name body = chain (value_in body) (part_from name) (value_of (json_in body)) (part name)
