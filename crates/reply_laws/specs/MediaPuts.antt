-- Laws on media PUTs: the wire knows one by its method and the front of its target, and the routes
-- by the path, and they mean the same.
use Rattle.std.specs.Prelude.{◌≡◌, ℕ, List, Result, Ok, Err, IsTrue}
use Rattle.http_wire.specs.Framing.{is_media, method_kind}
use Rattle.http_wire.specs.declared.head.MethodKind.TheVariants.{Put}
use Rattle.media_rows.specs.declared.refusal.Refusal.{Refusal}
use Rattle.tams_http.specs.Asked.{ask_of}
use Rattle.tams_http.specs.declared.ask.Ask.{Ask}
use Rattle.tams_http.specs.declared.ask.Ask.TheVariants.{Run, PutMedia, GetMedia}

-- What asks for a put of an object's bytes is a media PUT of the wire. So no request whose body is
-- held whole asks for one.
abbrev pub MediaAsksAreMedia : Type 0
MediaAsksAreMedia = (store : ℕ) (method target body object : List ℕ)
    → ask_of store (method_kind method) target body ≡ Ok (PutMedia object)
    → IsTrue (is_media method target)

-- a put of an object's bytes is asked for, or the request is refused
abbrev pub IsPutOrRefusal : Result Ask Refusal → Type 0
IsPutOrRefusal (Ok (Run command)) = ⊥
IsPutOrRefusal (Ok (PutMedia object)) = Unit {0}
IsPutOrRefusal (Ok (GetMedia object)) = ⊥
IsPutOrRefusal (Err why) = Unit {0}

-- A request is a PUT, and asks for a put of an object's bytes or is refused, the same with each
-- body.
pub record AsksForPut (store : ℕ) (method target : List ℕ) : Type 0 where
  pub asked : Result Ask Refusal
  pub kind : method_kind method ≡ Put
  pub same : (body : List ℕ) → ask_of store (method_kind method) target body ≡ asked
  pub is : IsPutOrRefusal asked

-- so does each media PUT of the wire: what it asks for is known by its head
abbrev pub MediaPutsAsk : Type 0
MediaPutsAsk = (store : ℕ) (method target : List ℕ) → IsTrue (is_media method target)
    → AsksForPut store method target
