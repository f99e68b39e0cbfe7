-- The names of each object are compared one with another.
use Rattle.std.proofs.Common.{refl}
use Rattle.json_replies.specs.Replies.{failed_members, partly_members, refusal_members, service_members}
use Rattle.json_replies.specs.Rows.{source_members, flow_members, get_url_members, segment_members, object_members, put_url_members, allocated_members, storage_members, request_members, hook_members}
use Rattle.json_replies.specs.Values.{collected_members}
use Rattle.json_replies.proofs.Order.{keys_rise, tags_rise}
use Rattle.json_replies.proofs.laws.keys_rise.Goals as goal

pub returns : goal.returns
returns c = record {
  service = λ store. keys_rise (service_members store) refl;
  source = λ row. keys_rise (source_members row) refl;
  flow = λ flow. keys_rise (flow_members flow) refl;
  collected = λ m. keys_rise (collected_members m) refl;
  tags = tags_rise;
  segment = λ base segment. keys_rise (segment_members base segment) refl;
  get_url = λ base object. keys_rise (get_url_members base object) refl;
  object = λ row flows. keys_rise (object_members row flows) refl;
  put_url = λ base object. keys_rise (put_url_members base object) refl;
  allocated = λ base object. keys_rise (allocated_members base object) refl;
  storage = λ base objects. keys_rise (storage_members base objects) refl;
  request = λ store row. keys_rise (request_members store row) refl;
  hook = λ shown. keys_rise (hook_members shown) refl;
  refusal = λ refusal. keys_rise (refusal_members refusal) refl;
  failed = λ failed. keys_rise (failed_members failed) refl;
  partly = λ failed. keys_rise (partly_members failed) refl;
}
