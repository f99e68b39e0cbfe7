-- The bytes behind a response are those that an image has of the object.
use Rattle.std.proofs.Common.{◌≡◌, ◌∙◌, ℕ, Bool, true, false, List, [], ◌∷◌, Option, Some, None, Result, Ok, Err, refl, sym, ap}
use Rattle.std.specs.Prelude.{bytes_eq, if◌then◌else◌}
use Rattle.http_wire.specs.Framing.{method_kind}
use Rattle.http_wire.specs.Response.{body_unless}
use Rattle.media_rows.specs.declared.object.Extent.{Extent}
use Rattle.media_rows.specs.declared.object.ObjectRow.{ObjectRow}
use Rattle.media_rows.specs.declared.object.ObjectState.{ObjectState}
use Rattle.media_rows.specs.declared.object.ObjectState.TheVariants.{Allocated, Stored}
use Rattle.media_rows.specs.declared.refusal.Refusal.{Refusal}
use Rattle.media_rows.specs.declared.reply.Reply.{Reply}
use Rattle.media_rows.specs.declared.reply.Reply.TheVariants.{Accepted, Created, CreatedObjects, Done, Media, Partly, Refused, Shown}
use Rattle.media_rows.specs.Media.{Archive}
use Rattle.media_rows.specs.Objects.{bytes_of, object_of}
use Rattle.store_states.specs.States.{StoreState, held_in, state_bytes}
use Rattle.media_store.specs.Stores.{extent_in, extent_of}
use Rattle.tams_http.specs.declared.ask.Ask.{Ask}
use Rattle.tams_http.specs.declared.ask.Ask.TheVariants.{GetMedia, PutMedia, Run}
use Rattle.tams_machine.specs.Answers.{asked_in, object_bytes}
use Rattle.tams_machine.specs.Requests.{is_head_only}
use Rattle.tams_answers.specs.Answers.{MediaFollows, media_by, following_bytes}

-- the bytes of an object in an image, if it is kept
abbrev pub row_bytes : List ℕ → ℕ → Option ObjectRow → List ℕ
row_bytes image area None = []
row_bytes image area (Some row) = state_bytes image area row.state

found_step : (b : Bool) (image : List ℕ) (area : ℕ) (row : ObjectRow) (later : Option ObjectRow) (bytes : List ℕ) → bytes ≡ row_bytes image area later
    → (if b then state_bytes image area row.state else bytes) ≡ row_bytes image area (if b then Some row else later)
found_step true image area row later bytes e = refl
found_step false image area row later bytes e = e

-- the bytes of an object among those that an image has of all
pub found_bytes : (image : List ℕ) (area : ℕ) (object : List ℕ) (objects : List ObjectRow)
    → bytes_of object objects (held_in image area objects) ≡ row_bytes image area (object_of object objects)
found_bytes image area object [] = refl
found_bytes image area object (row ∷ rows) =
    found_step (bytes_eq row.id object) image area row (object_of object rows) (bytes_of object rows (held_in image area rows))
    (found_bytes image area object rows)

by_state : (area : ℕ) (image : List ℕ) (state : ObjectState) → state_bytes image area state ≡ following_bytes area (extent_in state) image
by_state area image Allocated = refl
by_state area image (Stored start size digest) = refl

by_row : (area : ℕ) (image : List ℕ) (row : Option ObjectRow) → row_bytes image area row ≡ following_bytes area (extent_of row) image
by_row area image None = refl
by_row area image (Some row) = by_state area image row.state

unless_head : (head_only : Bool) (bytes : List ℕ) (extent : Option Extent) (area : ℕ) (image : List ℕ) → bytes ≡ following_bytes area extent image
    → body_unless head_only bytes ≡ following_bytes area (if head_only then None else extent) image
unless_head true bytes extent area image e = refl
unless_head false bytes extent area image e = e

no_body : (head_only : Bool) → body_unless head_only [] ≡ []
no_body true = refl
no_body false = refl

-- the bytes of an object, behind a reply
given : (archive : Archive) (object : List ℕ) (head_only : Bool) (area : ℕ) (image : List ℕ) (reply : Reply)
    → bytes_of object archive.library.objects archive.held ≡ following_bytes area (extent_of (object_of object archive.library.objects)) image
    → body_unless head_only (object_bytes archive (Ok (GetMedia object)) reply)
    ≡ following_bytes area (media_by archive.library head_only (Ok (GetMedia object)) reply) image
given archive object head_only area image (Media size) bytes =
    unless_head head_only (bytes_of object archive.library.objects archive.held) (extent_of (object_of object archive.library.objects)) area image bytes
given archive object head_only area image Created bytes = no_body head_only
given archive object head_only area image (CreatedObjects ids) bytes = no_body head_only
given archive object head_only area image (Accepted row) bytes = no_body head_only
given archive object head_only area image Done bytes = no_body head_only
given archive object head_only area image (Shown view) bytes = no_body head_only
given archive object head_only area image (Refused why) bytes = no_body head_only
given archive object head_only area image (Partly failed) bytes = no_body head_only

follows : (s : StoreState) (head_only : Bool) (reply : Reply) (area : ℕ) (image : List ℕ) (asked : Result Ask Refusal)
    → held_in image area s.archive.library.objects ≡ s.archive.held
    → body_unless head_only (object_bytes s.archive asked reply) ≡ following_bytes area (media_by s.archive.library head_only asked reply) image
follows s head_only reply area image (Err why) held = no_body head_only
follows s head_only reply area image (Ok (Run command)) held = no_body head_only
follows s head_only reply area image (Ok (PutMedia object)) held = no_body head_only
follows s head_only reply area image (Ok (GetMedia object)) held =
    let objects = s.archive.library.objects in
    given s.archive object head_only area image reply
    (ap (bytes_of object objects) (sym held) ∙ found_bytes image area object objects ∙ by_row area image (object_of object objects))

pub media_follows : MediaFollows
media_follows base s r moment answer area image answers held =
    follows s (is_head_only (method_kind r.head.method)) answer.planned.reply area image (asked_in s r) held
    ∙ ap (λ (extent : Option Extent). following_bytes area extent image) (sym answers.media)
