-- The law on refusals: a request is refused for its route, its method, an id or a name in its path,
-- its body or its query.
use Rattle.std.specs.Prelude.{ℕ, List, Bool, IsTrue, ◌&&◌, nat_le, IfErr}
use Rattle.http_wire.specs.declared.head.MethodKind.{MethodKind}
use Rattle.media_rows.specs.RefusalTable.{refusal_number}
use Rattle.media_rows.specs.declared.refusal.Refusal.{Refusal}
use Rattle.tams_http.specs.Asked.{ask_of}

-- a refusal of a request, from `NoRoute` to `NotSet`, which have the numbers 6 to 20
abbrev pub is_request_refusal : Refusal → Bool
is_request_refusal why = nat_le 6 (refusal_number why) && nat_le (refusal_number why) 20

-- each refusal of what a request asks for is such a one
abbrev pub AreRequestRefusals : Type 0
AreRequestRefusals =
    (store : ℕ) (method : MethodKind) (target body : List ℕ)
    → IfErr (ask_of store method target body) (λ why. IsTrue (is_request_refusal why))
