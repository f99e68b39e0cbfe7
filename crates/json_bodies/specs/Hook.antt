-- Bodies that register a hook. Addresses are read and printed as the URL Standard says.
use Rattle.std.specs.Prelude.{ℕ, List, Bool, not, ◌&&◌, ◌||◌, ◌==◌, Option, Some, None, Result, Ok, Err, option_and_then, if◌then◌else◌, find, bytes_eq, codes}
use Rattle.std.specs.Str.{is_utf8}
use Rattle.serde_json.specs.Data.{Data}
use Rattle.serde_json.specs.Find.{as_str}
use Rattle.url.specs.Parser.{Parsed, parse_url}
use Rattle.url.specs.Parts.{Parts, serialize}
use Rattle.media_rows.specs.declared.event.EventKind.{EventKind}
use Rattle.media_rows.specs.declared.hook.Hook.{Hook}
use Rattle.media_rows.specs.declared.refusal.Refusal.{Refusal}
use Rattle.media_rows.specs.Formats.{all_events, event_name, event_number}
use Rattle.media_rows.specs.Good.{if_there}
use Rattle.media_rows.specs.Lists.{each_pair}
use Rattle.json_bodies.specs.declared.fault.Breach.{Breach}
use Rattle.json_bodies.specs.declared.fault.Breach.TheVariants.{WrongKind, TooLong}
use Rattle.json_bodies.specs.Rules.{◌>>=◌, optional_member, required, of_kind, has_at_most, text, id_of_value, longest_text}
use Rattle.json_bodies.specs.Kinds.{counted_items, items_of_value, tested}
use Rattle.json_bodies.specs.Body.{value_in, checked_object}

-- ---- addresses

-- the bytes of the longest address, as it stands in the body
abbrev pub longest_address : ℕ
longest_address = 2048

-- an address of the web
abbrev pub is_web : Parts → Bool
is_web url = bytes_eq url.scheme (codes "http") || bytes_eq url.scheme (codes "https")

-- the printed address of the web, where one was read
abbrev pub web_address : Parsed Parts → Option (List ℕ)
web_address (Ok url) = if is_web url then Some (serialize url) else None
web_address (Err why) = None

-- the address of the web that a text is, as it is printed
abbrev pub printed_address : List ℕ → Option (List ℕ)
printed_address text = web_address (parse_url None text)

-- an address as it is printed, where the text that spells it isn't too long
abbrev pub short_address : List ℕ → Option (List ℕ) → Result (List ℕ) Breach
short_address text None = Err WrongKind
short_address text (Some printed) =
    if has_at_most longest_address text then Ok printed else Err TooLong

-- the address that a text spells, where there is a text
abbrev pub address_of : Option (List ℕ) → Result (List ℕ) Breach
address_of None = Err WrongKind
address_of (Some text) = short_address text (printed_address text)

-- an address
abbrev pub address : Data → Result (List ℕ) Breach
address value = address_of (as_str value)

-- ---- events

-- the event of a name
abbrev pub event_of : List ℕ → Option EventKind
event_of name = find (λ kind. bytes_eq name (event_name kind)) all_events

-- the event that a text names
abbrev pub event_kind_of : Data → Option EventKind
event_kind_of value = option_and_then event_of (as_str value)

-- two events aren't the same
abbrev pub is_other_event : EventKind → EventKind → Bool
is_other_event a b = not (event_number a == event_number b)

-- no event stands twice
abbrev pub are_kinds_distinct : List EventKind → Bool
are_kinds_distinct kinds = each_pair is_other_event kinds

-- a list of names of events, of which none stands twice
abbrev pub events : Data → Result (List EventKind) Breach
events value =
    of_kind (option_and_then (tested are_kinds_distinct) (items_of_value event_kind_of value))

-- ---- the hook

-- the most flows or sources to which a hook keeps
abbrev pub most_ids : ℕ
most_ids = 256

-- a list of ids
abbrev pub ids : Data → Result (List ℕ) Breach
ids value = counted_items id_of_value 0 most_ids value

-- the hook that an object spells
abbrev pub hook_from : Data → Result Hook Refusal
hook_from fields =
    required (codes "url") address fields >>= λ url.
    required (codes "events") events fields >>= λ events.
    optional_member (codes "api_key_name") (text longest_text) fields >>= λ key_name.
    optional_member (codes "api_key_value") (text longest_text) fields >>= λ key_value.
    optional_member (codes "flow_ids") ids fields >>= λ flow_ids.
    optional_member (codes "source_ids") ids fields >>= λ source_ids.
    Ok (record {
      url = url;
      events = events;
      key_name = key_name;
      key_value = key_value;
      flow_ids = flow_ids;
      source_ids = source_ids;
    })

-- the hook that a body spells
abbrev pub hook_in : List ℕ → Result Hook Refusal
hook_in body = value_in body >>= λ value. checked_object value >>= λ _. hook_from value

-- each text of a hook is UTF-8
abbrev pub has_hook_texts : Hook → Bool
has_hook_texts hook =
    is_utf8 hook.url && if_there is_utf8 hook.key_name && if_there is_utf8 hook.key_value
