-- The ids and names in a path, or the refusal where one names nothing. Our own profile of the
-- Time-addressable Media Store.
use Rattle.std.specs.Prelude.{ℕ, List, Option, Some, None, Result, Ok, Err, codes}
use Rattle.http_routes.specs.Named as paths
use Rattle.media_rows.specs.declared.refusal.Refusal.{Refusal}
use Rattle.media_rows.specs.declared.refusal.Refusal.TheVariants.{NoSource, NoFlow, UnknownObject, NoRequest, NotSet}

-- what was found, or the refusal
abbrev pub named_or : {X : Type 0} → Refusal → Option X → Result X Refusal
named_or refusal None = Err refusal
named_or refusal (Some x) = Ok x

-- the id of a source
abbrev pub source_at : List ℕ → Result ℕ Refusal
source_at path = named_or NoSource (paths.named_id path)

-- the id of a flow
abbrev pub flow_at : List ℕ → Result ℕ Refusal
flow_at path = named_or NoFlow (paths.named_id path)

-- the id of an object
abbrev pub object_at : List ℕ → Result (List ℕ) Refusal
object_at path = named_or UnknownObject (paths.named_object path)

-- the serial of a delete request of a store
abbrev pub request_at : ℕ → List ℕ → Result ℕ Refusal
request_at store path = named_or NoRequest (paths.named_request store path)

-- the name of a tag
abbrev pub tag_at : List ℕ → Result (List ℕ) Refusal
tag_at path = named_or (NotSet (codes "tags")) (paths.tag_named path)
