-- Bodies that ask for objects: so many of them, or these.
use Rattle.std.specs.Prelude.{ℕ, List, [], ◌∷◌, Option, Some, None, Result, Ok, unwrap_or, codes}
use Rattle.serde_json.specs.Data.{Data}
use Rattle.media_rows.specs.declared.command.Want.{Want}
use Rattle.media_rows.specs.declared.command.Want.TheVariants as wants
use Rattle.media_rows.specs.declared.refusal.Refusal.{Refusal}
use Rattle.json_bodies.specs.Rules.{◌>>=◌, optional_member, whole}
use Rattle.json_bodies.specs.Kinds.{counted_items, object_id_value}
use Rattle.json_bodies.specs.Body.{value_in, checked_object}

-- the most objects that are asked for at once
abbrev pub most_objects : ℕ
most_objects = 1000

-- so many are meant where no number is named
abbrev pub usual_objects : ℕ
usual_objects = 100

-- as many objects as `limit` says, or the usual number
abbrev pub count_in : Data → Result Want Refusal
count_in fields =
    optional_member (codes "limit") (whole 1 most_objects) fields
    >>= λ limit. Ok (wants.Count (unwrap_or limit usual_objects))

-- these objects, where `object_ids` names them, and else so many
abbrev pub want_from : Data → Option (List (List ℕ)) → Result Want Refusal
want_from fields (Some ids) = Ok (wants.Named ids)
want_from fields None = count_in fields

-- What an object asks for. Where `object_ids` is there, `limit` isn't looked at.
abbrev pub want_of : Data → Result Want Refusal
want_of fields =
    optional_member (codes "object_ids") (counted_items object_id_value 1 most_objects) fields
    >>= want_from fields

-- what a body asks for, which may be absent
abbrev pub want_in : List ℕ → Result Want Refusal
want_in [] = Ok (wants.Count usual_objects)
want_in (byte ∷ bytes) =
    value_in (byte ∷ bytes) >>= λ value. checked_object value >>= λ _. want_of value
