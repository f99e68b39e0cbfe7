-- Laws on refusals: those of requests and of the wire have their texts, and so can be printed.
use Rattle.std.specs.Prelude.{◌≡◌, ℕ, IsTrue, List, Err}
use Rattle.http_wire.specs.Steps.{wire_refusal}
use Rattle.http_wire.specs.declared.framing.WireFault.{WireFault}
use Rattle.http_wire.specs.declared.head.MethodKind.{MethodKind}
use Rattle.json_replies.specs.Texts.{has_refusal_texts}
use Rattle.media_rows.specs.declared.refusal.Refusal.{Refusal}
use Rattle.tams_http.specs.Asked.{ask_of}

-- the refusal of what a request asks for has its texts: the names of members and of parts are fixed
-- words, and the name of a query was made UTF-8
abbrev pub AskRefusalsHaveTexts : Type 0
AskRefusalsHaveTexts = (store : ℕ) (method : MethodKind) (target body : List ℕ) (why : Refusal)
    → ask_of store method target body ≡ Err why → IsTrue (has_refusal_texts why)

-- the refusal of a fault of the wire has none
abbrev pub WireRefusalsHaveTexts : Type 0
WireRefusalsHaveTexts = (fault : WireFault) → IsTrue (has_refusal_texts (wire_refusal fault))
