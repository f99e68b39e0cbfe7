-- Each refusal of a reader of bodies has its texts: so it is for each step, and for a chain of them. What a body asks for is few objects.
use Rattle.std.proofs.Common.{◌≡◌, refl, List, [], ◌∷◌, ℕ, Option, Some, None, Result, Ok, Err, true, false, Bool, arith}
use Rattle.std.specs.Prelude.{IsTrue, IfErr, IfOk, codes, if◌then◌else◌, nat_le, ◌&&◌, unwrap_or}
use Rattle.std.specs.Str.{is_utf8, chars}
use Rattle.std.proofs.Math.Utf8.{encode}
use Rattle.std.proofs.lemmas.Bool.{and_parts}
use Rattle.serde_json.specs.Data.{Num, Data, Items, no_items, item}
use Rattle.serde_json.specs.Find.{get, as_number, as_u64}
use Rattle.serde_json.specs.Written.{has_float}
use Rattle.json_replies.specs.Texts.{has_refusal_texts}
use Rattle.media_rows.specs.Essence.{is_object}
use Rattle.media_rows.specs.Good.{if_there}
use Rattle.media_rows.specs.declared.command.Want.{Want}
use Rattle.media_rows.specs.declared.command.Want.TheVariants as wants
use Rattle.media_rows.specs.declared.part.PartName.{PartName}
use Rattle.media_rows.specs.declared.part.PartName.TheVariants as names
use Rattle.media_rows.specs.declared.refusal.Refusal.{Refusal}
use Rattle.media_rows.specs.declared.refusal.Refusal.TheVariants as refusals
use Rattle.media_rows.specs.declared.refusal.Refusal.TheVariants.{Fractional}
use Rattle.json_bodies.specs.Body.{json_in, without_fraction, value_in, checked_object}
use Rattle.json_bodies.specs.Flow.{same_id, anything, format, tags, essence, origin_of, named_source, flow_texts, numbers_of, flow_contents, flow_body_of, flow_in}
use Rattle.json_bodies.specs.Hook.{address, events, ids, hook_from, hook_in}
use Rattle.json_bodies.specs.Part.{part_from, part_in}
use Rattle.json_bodies.specs.Kinds.{counted_items, object_id_value, tag_rule, collection}
use Rattle.json_bodies.specs.Rules.{◌>>=◌, breach_of, named_result, some_of, optional_member, required, absent_or, if_required, number_from, ranged, id, text, truth, whole, longest_text, longest_description, last_whole}
use Rattle.json_bodies.specs.Segments.{object_id, bounded, offset, duration, whole_number, samples_of, segment_of, segments_from, post_of, segments_in_items, post_items, segments_in}
use Rattle.json_bodies.specs.Storage.{most_objects, usual_objects, count_in, want_from, want_of, want_in}
use Rattle.reply_laws.specs.Asks.{is_few}

-- what is given passes, and a refusal has its texts
pub record Reads {X : Type 0} (P : X → Type 0) (result : Result X Refusal) : Type 0 where
  pub given : IfOk result P
  pub refused : IfErr result (λ why. IsTrue (has_refusal_texts why))

pub gives : {X : Type 0} {P : X → Type 0} {x : X} → P x → Reads P (Ok x)
gives p = record { given = p; refused = tt }

pub refuses : {X : Type 0} {P : X → Type 0} (why : Refusal) → has_refusal_texts why ≡ true → Reads P (Err why)
refuses why e = record { given = tt; refused = e }

-- so it is for two steps, the second of which goes on with what the first gives
pub chain : {X Y : Type 0} {P : X → Type 0} {Q : Y → Type 0} (first : Result X Refusal) (next : X → Result Y Refusal) → Reads P first
    → ((x : X) → P x → Reads Q (next x)) → Reads Q (first >>= next)
chain (Ok x) next h k = k x h.given
chain (Err why) next h k = record { given = tt; refused = h.refused }

-- anything may be given
abbrev pub Any : {X : Type 0} → X → Type 0
Any x = Unit {0}

-- for a member, whose name is UTF-8
breach_told : (name : List ℕ) (breach : _) → is_utf8 name ≡ true → has_refusal_texts (breach_of name breach) ≡ true
breach_told name breach e = grind arith

named : {X : Type 0} {P : X → Type 0} (name : List ℕ) (found : Result X _) → is_utf8 name ≡ true → IfOk found P → Reads P (named_result name found)
named name (Ok x) e p = gives p
named name (Err breach) e p = refuses (breach_of name breach) (breach_told name breach e)

any : {X E : Type 0} (found : Result X E) → IfOk found Any
any (Ok x) = tt
any (Err breach) = tt

-- and what goes on with it
after : {X Y : Type 0} {Q : Y → Type 0} (name : List ℕ) (found : Result X _) (next : X → Result Y Refusal) → is_utf8 name ≡ true
    → ((x : X) → Reads Q (next x)) → Reads Q (named_result name found >>= next)
after name found next e k = chain {P = Any} (named_result name found) next (named name found e (any found)) (λ x _. k x)

-- for a member that may be absent, and one that has to be there
may : {X Y : Type 0} {Q : Y → Type 0} (name : List ℕ) (rule : Data → Result X _) (fields : Data) (next : Option X → Result Y Refusal)
    → is_utf8 name ≡ true → ((x : Option X) → Reads Q (next x)) → Reads Q (optional_member name rule fields >>= next)
may name rule fields next e k = after name (absent_or rule (get name fields)) next e k

must : {X Y : Type 0} {Q : Y → Type 0} (name : List ℕ) (rule : Data → Result X _) (fields : Data) (next : X → Result Y Refusal)
    → is_utf8 name ≡ true → ((x : X) → Reads Q (next x)) → Reads Q (required name rule fields >>= next)
must name rule fields next e k = after name (if_required rule (get name fields)) next e k

-- for the value of a body
fraction_in : (value : Data) (has : Bool) → Reads Any (if has then Err Fractional else Ok value)
fraction_in value true = refuses Fractional refl
fraction_in value false = gives tt

value_of : (value : Option Data) → Reads Any (without_fraction value)
value_of None = refuses refusals.NotJson refl
value_of (Some value) = fraction_in value (has_float value)

-- for a value that has to be an object
object_if : (yes : Bool) → Reads {X = Unit {0}} Any (if yes then Ok tt else Err (refusals.WrongKind (codes "body")))
unfolding is_utf8 chars encode
object_if true = gives tt
object_if false = refuses (refusals.WrongKind (codes "body")) refl

-- for a body that has to be an object
body_of : {X : Type 0} {Q : X → Type 0} (body : List ℕ) (next : Data → Result X Refusal) → ((value : Data) → Reads Q (next value))
    → Reads Q (value_in body >>= λ value. checked_object value >>= λ _. next value)
body_of body next k =
    chain (value_in body) (λ value. checked_object value >>= λ _. next value) (value_of (json_in body))
    (λ value _. chain (checked_object value) (λ _. next value) (object_if (is_object value)) (λ _ _. k value))

-- ---- flows

source_of : (source : Option ℕ) → Reads Any (named_source source)
unfolding is_utf8 chars encode
source_of None = refuses (refusals.Missing (codes "source_id")) refl
source_of (Some source) = gives tt

origin : (fields : Data) → Reads Any (origin_of fields)
unfolding is_utf8 chars encode
origin fields =
    may (codes "source_id") id fields _ refl (λ found. must (codes "format") anything fields _ refl
    (λ _. chain (named_source found) _ (source_of found) (λ source _. must (codes "format") format fields _ refl (λ kind. gives tt))))

texts : (fields : Data) → Reads Any (flow_texts fields)
unfolding is_utf8 chars encode
texts fields =
    may (codes "codec") (text longest_text) fields _ refl (λ codec. may (codes "container") (text longest_text) fields _ refl
    (λ container. may (codes "label") (text longest_text) fields _ refl
    (λ label. may (codes "description") (text longest_description) fields _ refl (λ description. gives tt))))

numbers : (fields : Data) → Reads Any (numbers_of fields)
unfolding is_utf8 chars encode
numbers fields =
    may (codes "read_only") truth fields _ refl (λ mark. may (codes "max_bit_rate") (whole 0 last_whole) fields _ refl
    (λ most. may (codes "avg_bit_rate") (whole 0 last_whole) fields _ refl (λ average. gives tt)))

contents : (fields : Data) → Reads Any (flow_contents fields)
unfolding is_utf8 chars encode
contents fields =
    may (codes "tags") tags fields _ refl (λ found. may (codes "flow_collection") collection fields _ refl
    (λ members. may (codes "essence_parameters") essence fields _ refl (λ text. gives tt)))

flow : (id : ℕ) (fields : Data) → Reads Any (flow_body_of id fields)
unfolding is_utf8 chars encode
flow id fields =
    may (codes "id") (same_id id) fields _ refl (λ _. chain (origin_of fields) _ (origin fields) (λ origin _. chain (flow_texts fields) _ (texts fields)
    (λ texts _. chain (numbers_of fields) _ (numbers fields) (λ numbers _. chain (flow_contents fields) _ (contents fields) (λ contents _. gives tt)))))

pub of_flow : (id : ℕ) (body : List ℕ) → Reads Any (flow_in id body)
of_flow id body = body_of body (flow_body_of id) (flow id)

-- ---- segments

samples : (fields : Data) → Reads Any (samples_of fields)
unfolding is_utf8 chars encode
samples fields =
    may (codes "sample_offset") whole_number fields _ refl (λ offset. may (codes "sample_count") whole_number fields _ refl
    (λ count. may (codes "key_frame_count") whole_number fields _ refl (λ frames. gives tt)))

segment : (fields : Data) → Reads Any (segment_of fields)
unfolding is_utf8 chars encode
segment fields =
    must (codes "object_id") object_id fields _ refl (λ id. must (codes "timerange") bounded fields _ refl
    (λ range. may (codes "ts_offset") offset fields _ refl (λ offset. may (codes "last_duration") duration fields _ refl
    (λ duration. chain (samples_of fields) _ (samples fields) (λ samples _. gives tt)))))

segments : (values : Items) → Reads Any (segments_from values)
segments no_items = gives tt
segments (item value values) =
    chain (segment_of value) _ (segment value) (λ first _. chain (segments_from values) _ (segments values) (λ later _. gives tt))

posted : (values : Option Items) → Reads Any (segments_in_items values)
unfolding is_utf8 chars encode
posted None = refuses (refusals.OutOfRange (codes "body")) refl
posted (Some values) = segments values

pub of_segments : (body : List ℕ) → Reads Any (segments_in body)
of_segments body =
    chain (value_in body) post_of (value_of (json_in body))
    (λ value _. chain (segments_in_items (post_items value)) _ (posted (post_items value)) (λ segments _. gives tt))

-- ---- storage

-- a number of objects, where there is one, is within its limit
abbrev IsLimit : Option ℕ → Type 0
IsLimit limit = if_there (λ n. nat_le n most_objects) limit ≡ true

within : (n : ℕ) (b : Bool) (breach : _) → (nat_le 1 n && nat_le n most_objects) ≡ b → IfOk (some_of (if b then Ok n else Err breach)) IsLimit
within n true breach e = (and_parts (nat_le 1 n) _ e).1
within n false breach e = tt

limited : (n : Option ℕ) → IfOk (some_of (number_from 1 most_objects n)) IsLimit
limited None = tt
limited (Some n) = within n _ _ refl

limit_number : (number : Option Num) → IfOk (some_of (ranged 1 most_objects number)) IsLimit
limit_number None = tt
limit_number (Some number) = limited (as_u64 number)

limit_in : (value : Option Data) → IfOk (absent_or (whole 1 most_objects) value) IsLimit
limit_in None = refl
limit_in (Some value) = limit_number (as_number value)

-- the objects that are asked for are few
abbrev pub AreFew : Want → Type 0
AreFew want = is_few want ≡ true

usual : (limit : Option ℕ) → IsLimit limit → Reads AreFew (Ok (wants.Count (unwrap_or limit usual_objects)))
usual None e = gives refl
usual (Some n) e = gives e

count : (fields : Data) → Reads AreFew (count_in fields)
unfolding is_utf8 chars encode
count fields =
    chain (optional_member (codes "limit") (whole 1 most_objects) fields) _
    (named (codes "limit") (absent_or (whole 1 most_objects) (get (codes "limit") fields)) refl (limit_in (get (codes "limit") fields)))
    (λ limit e. usual limit e)

want_by : (fields : Data) (ids : Option (List (List ℕ))) → Reads AreFew (want_from fields ids)
want_by fields None = count fields
want_by fields (Some ids) = gives refl

want : (fields : Data) → Reads AreFew (want_of fields)
unfolding is_utf8 chars encode
want fields =
    may (codes "object_ids") (counted_items object_id_value 1 most_objects) fields (want_from fields) refl (λ ids. want_by fields ids)

pub of_storage : (body : List ℕ) → Reads AreFew (want_in body)
of_storage [] = gives refl
of_storage (byte ∷ bytes) = body_of (byte ∷ bytes) want_of want

-- ---- hooks and parts

hook : (fields : Data) → Reads Any (hook_from fields)
unfolding is_utf8 chars encode
hook fields =
    must (codes "url") address fields _ refl (λ url. must (codes "events") events fields _ refl
    (λ kinds. may (codes "api_key_name") (text longest_text) fields _ refl (λ name. may (codes "api_key_value") (text longest_text) fields _ refl
    (λ value. may (codes "flow_ids") ids fields _ refl (λ flows. may (codes "source_ids") ids fields _ refl (λ sources. gives tt))))))

pub of_hook : (body : List ℕ) → Reads Any (hook_in body)
of_hook body = body_of body hook_from hook

part : (name : PartName) (value : Data) → Reads Any (part_from name value)
unfolding is_utf8 chars encode
part (names.Tag name) value = after (codes "tags") (tag_rule name value) _ refl (λ tag. gives tt)
part names.Tags value = refuses (refusals.WrongKind (codes "tags")) refl
part names.Label value = after (codes "label") (text longest_text value) _ refl (λ label. gives tt)
part names.Description value = after (codes "description") (text longest_description value) _ refl (λ description. gives tt)
part names.ReadOnly value = after (codes "read_only") (truth value) _ refl (λ mark. gives tt)
part names.Collection value = after (codes "flow_collection") (collection value) _ refl (λ members. gives tt)
part names.MaxBitRate value = after (codes "max_bit_rate") (whole 0 last_whole value) _ refl (λ rate. gives tt)
part names.AvgBitRate value = after (codes "avg_bit_rate") (whole 0 last_whole value) _ refl (λ rate. gives tt)

pub of_part : (name : PartName) (body : List ℕ) → Reads Any (part_in name body)
of_part name body = chain (value_in body) (part_from name) (value_of (json_in body)) (λ value _. part name value)
