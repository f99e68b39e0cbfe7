-- The two responses that no reply has: where there was no memory, and where the disk failed. Each
-- ends its connection.
use Rattle.std.specs.Prelude.{ℕ, List, [], ◌∷◌, true, codes}
use Rattle.http_wire.specs.Response.{response}
use Rattle.http_wire.specs.declared.response.HeadField.{HeadField}

-- the fields of such a response
abbrev pub failure_fields : List HeadField
failure_fields =
    record { name = codes "Content-Length"; value = codes "0" }
    ∷ record { name = codes "Connection"; value = codes "close" } ∷ []

-- the response of a status
abbrev pub failure : ℕ → List ℕ
failure status = response status failure_fields [] true
