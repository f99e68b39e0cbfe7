-- The text of an event: each of its tokens can be printed, and its keys rise.
use Rattle.std.proofs.Common.{ℕ, Bool, true, false, List, [], ◌∷◌, Option, Some, None, codes, refl, rules, if◌then◌else◌}
use Rattle.json.specs.Print.{ArePrintable}
use Rattle.json.proofs.Printed.Tokens.{tokens-print}
use Rattle.time_range.specs.declared.ranges.Span.{Span}
use Rattle.media_rows.specs.Ids.{id_text}
use Rattle.media_rows.specs.Outbox.{is_of_source}
use Rattle.json_replies.specs.Shapes.{HasRisingKeys, ObjectMember, always, member_tokens, object_tokens, string_value, where_set}
use Rattle.json_replies.specs.Values.{range_value}
use Rattle.hook_delivery.specs.Posting.{EventKeysRise, EventsReadBack, event_members, event_text}

-- the members of a subject, by its name, its id and the range
abbrev subject : List ℕ → List ℕ → Option (Option Span) → List ObjectMember
subject name id range = always name (string_value id) ∷ where_set (codes "timerange") range_value range ∷ []

-- those of an event, by its parts
abbrev event : List ObjectMember → List ℕ → List ℕ → List ℕ → List ObjectMember
event members id moment kind =
    always (codes "event") (object_tokens members)
    ∷ always (codes "event_id") (string_value id)
    ∷ always (codes "event_timestamp") (string_value moment)
    ∷ always (codes "event_type") (string_value kind)
    ∷ []

-- each token can be printed
printable : (name subject_id : List ℕ) (range : Option (Option Span)) (id moment kind : List ℕ)
    → ArePrintable (object_tokens (event (subject name subject_id range) id moment kind))
unfolding ArePrintable member_tokens
printable name subject_id None id moment kind = search rules
printable name subject_id (Some range) id moment kind = search rules

pub events_read_back : EventsReadBack
unfolding event_text
events_read_back store event = tokens-print (object_tokens (event_members store event)) (printable _ _ event.range _ _ _)

-- the two names of a subject's id stand before that of the range
subject_rises : (of_source : Bool) (id : List ℕ) (range : Option (Option Span))
    → HasRisingKeys (subject (if of_source then codes "source_id" else codes "flow_id") id range)
subject_rises true id None = refl
subject_rises true id (Some range) = refl
subject_rises false id None = refl
subject_rises false id (Some range) = refl

pub event_keys_rise : EventKeysRise
event_keys_rise = record {
  event = λ store event. refl;
  subject = λ event. subject_rises (is_of_source event.kind) (id_text event.subject) event.range;
}
