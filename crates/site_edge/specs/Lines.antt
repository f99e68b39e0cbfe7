-- A peer in memory: what it sends, and its connection.
use Rattle.std.specs.Prelude.{◌++◌, ◌||◌, ℕ, zero, suc, Bool, true, not, List, [], ◌∷◌, length, map, take, drop, Option, Some, None}
use Rattle.disk_trait.specs.Device.{AtEnd, Connection, Gave, HearCall, HearEnd, Unheard}
use Rattle.site_edge.specs.Links.{hearings_with}
use Rattle.site_edge.specs.declared.heard_piece.HeardPiece.{HeardPiece}

-- the bytes that a peer sends, and its connection
pub record Talk : Type 0 where
  pub sends : List ℕ
  pub connection : Connection

-- the bytes of a peer that weren't heard yet
abbrev pub rest_of : Talk → List ℕ
rest_of talk = drop (length talk.connection.heard) talk.sends

-- the peer with another connection
abbrev pub with_changed_connection : (Connection → Connection) → Talk → Talk
with_changed_connection change talk = record talk { connection = change talk.connection }

-- how a hearing that gave so many bytes ended
abbrev pub given_end : ℕ → HearEnd
given_end zero = AtEnd
given_end (suc n) = Gave (suc n)

-- a hearing that was noted, by how it ended
abbrev pub noted_as : HearEnd → HeardPiece → HearCall
noted_as end p = record { heard = p.heard; told = p.told; unsaid = p.unsaid; end = end }

-- the hearings that were noted, and the first that failed
abbrev pub noted_calls : List HeardPiece → Option HeardPiece → List HearCall
noted_calls pieces None = map (λ p. noted_as (given_end p.count) p) pieces
noted_calls pieces (Some p) =
    map (λ p. noted_as (given_end p.count) p) pieces ++ noted_as Unheard p ∷ []

-- a connection after a hearing that failed
abbrev pub unheard_once : Connection → Connection
unheard_once connection =
    record connection { unheard = true; hearings = hearings_with Unheard connection }

-- a connection after a saying that passed or failed
abbrev pub with_passed : Bool → Connection → Connection
with_passed passed connection = record connection { unsaid = connection.unsaid || not passed }

-- a connection that was told these bytes more
abbrev pub told_more : List ℕ → Connection → Connection
told_more bytes connection = record connection { told = connection.told ++ bytes }

-- a connection that heard so many of the bytes in `out` more, or came to the end of the bytes
abbrev pub heard_more : ℕ → List ℕ → Connection → Connection
heard_more zero out connection =
    record connection { ended = true; hearings = hearings_with AtEnd connection }
heard_more (suc n) out connection = record connection {
  heard = connection.heard ++ take (suc n) out;
  hearings = hearings_with (Gave (suc n)) connection;
}
