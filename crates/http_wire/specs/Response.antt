-- The bytes of a response (RFC 9112, sections 4 to 6).
use Rattle.std.specs.Prelude.{ℕ, Bool, List, [], ◌++◌, codes, decimal, unwrap_or, if◌then◌else◌}
use Rattle.std.specs.List.{flat_map}
use Rattle.http.specs.StatusCode.{reason_phrase}
use Rattle.http_wire.specs.declared.response.HeadField.{HeadField}

-- the end of a line
abbrev pub crlf : List ℕ
crlf = codes "\r\n"

-- the line with the status and the phrase that belongs to it
abbrev pub status_line : ℕ → List ℕ
status_line status =
    codes "HTTP/1.1 " ++ decimal status ++ codes " " ++ unwrap_or (reason_phrase status) [] ++ crlf

-- the line of a field
abbrev pub field_line : HeadField → List ℕ
field_line field = field.name ++ codes ": " ++ field.value ++ crlf

-- the head: the status line, the fields in their order and an empty line
abbrev pub response_head : ℕ → List HeadField → List ℕ
response_head status fields = status_line status ++ flat_map field_line fields ++ crlf

-- the body, or nothing where the head stands alone
abbrev pub body_unless : Bool → List ℕ → List ℕ
body_unless head_only body = if head_only then [] else body

-- the head, and the body behind it unless the head stands alone
abbrev pub response : ℕ → List HeadField → List ℕ → Bool → List ℕ
response status fields body head_only =
    response_head status fields ++ body_unless head_only body
