-- What a peer is told of a flow's whole objects within a range, and how that ends.
use Rattle.std.specs.Prelude.{◌≡◌, ◌⊎◌, ℕ, Bool, true, false, List, [], ◌∷◌, ◌++◌, Option, None, IsSome}
use Rattle.disk_trait.specs.Calls.{IsCounted}
use Rattle.disk_trait.specs.Device.{Connection, Device, Link}
use Rattle.hls_manifest.specs.Entries.{manifest_text, whole_objects}
use Rattle.hls_manifest.specs.Manifests.{counted}
use Rattle.hook_delivery.specs.Exchanging.{MayTell}
use Rattle.media_rows.specs.Catalog.{flow_of}
use Rattle.media_rows.specs.Library.{Library}
use Rattle.media_rows.specs.declared.segment.SegmentRow.{SegmentRow}
use Rattle.site_edge.specs.Links.{LinkCall, SamePeers, Sends, Tells, after_say, change_last}
use Rattle.site_edge.specs.Saying.{IsPrefix}
use Rattle.tams_outcomes.specs.Touching.{Untouched}
use Rattle.tams_outcomes.specs.declared.outcome.PlaylistRefusal.TheVariants.{NoFlow, NoPeer}
use Rattle.tams_outcomes.specs.declared.outcome.RunOutcome.{RunOutcome}
use Rattle.tams_outcomes.specs.declared.outcome.RunOutcome.TheVariants.{LinkFault, NoMemory, NoPlaylist, Playlist}
use Rattle.time_range.specs.declared.ranges.Span.{Span}

-- the playlist that is asked for: of a flow's whole objects within a range, behind a base
pub record PlaylistAsked : Type 0 where
  pub base : List ℕ
  pub flow : ℕ
  pub range : Option Span

-- the segments that it names, by rising first point
abbrev pub named_in : Library → PlaylistAsked → List SegmentRow
named_in library asked = whole_objects library.segments asked.flow asked.range

-- its text
abbrev pub playlist_in : Library → PlaylistAsked → List ℕ
playlist_in library asked = manifest_text asked.base (named_in library asked)

-- The text of the playlist, and how many objects it names, of a flow that is kept.
pub record IsPlaylistIn (library : Library) (asked : PlaylistAsked) (playlist : List ℕ × ℕ)
    : Type 0 where
  pub kept : IsSome (flow_of asked.flow library.catalog.flows)
  pub text : playlist.0 ≡ playlist_in library asked
  pub objects : playlist.1 ≡ counted (named_in library asked)

-- no call of the link failed
abbrev pub link_held : RunOutcome → Bool
link_held LinkFault = false
link_held _ = true

-- ---- connections

-- one more connection, which was told the whole text
abbrev pub HasToldWhole : List ℕ → List Connection → List Connection → Type 0
HasToldWhole text before after =
    (c : Connection) × (after ≡ before ++ c ∷ []) × (c.told ≡ text)

-- at most one more connection, which was told a prefix of the text
abbrev pub HasToldPart : List ℕ → List Connection → List Connection → Type 0
HasToldPart text before after = (after ≡ before)
    ⊎ ((c : Connection) × (after ≡ before ++ c ∷ []) × IsPrefix c.told text)

-- what became of the connections by the outcome, where a text names so many objects: a peer was told
-- all of it; nobody came; or a call failed, and a peer was told a prefix of it at most
abbrev pub ToldBy : List ℕ → ℕ → RunOutcome → Link → Link → Type 0
ToldBy text objects (Playlist n) old new =
    (n ≡ objects) × HasToldWhole text old.connections new.connections
ToldBy text objects (NoPlaylist NoPeer) old new =
    (new.connections ≡ old.connections) × IsCounted false old.closed new.closed
ToldBy text objects LinkFault old new = HasToldPart text old.connections new.connections
ToldBy text objects _ old new = ⊥

-- the outcomes that a waiting for a peer has, where a text names so many objects
abbrev pub IsOfPeer : ℕ → RunOutcome → Type 0
IsOfPeer objects (Playlist n) = n ≡ objects
IsOfPeer objects (NoPlaylist NoPeer) = Unit {0}
IsOfPeer objects LinkFault = Unit {0}
IsOfPeer objects _ = ⊥

-- A peer was waited for, and told a text that names so many objects, as far as the calls of the link
-- held. A crash leaves a prefix of it told at most, and the file as it was. The connection is ended,
-- and nobody was dialled.
pub record TellsPeer (text : List ℕ) (objects : ℕ) (old new : Device) (o : RunOutcome) : Type 0
  where
    pub call : LinkCall (MayTell text) (MayTell text) (link_held o) old new
    pub outcome : IsOfPeer objects o
    pub told : old.tells ≡ true → ToldBy text objects o old.link new.link
    pub dials : new.link.dials ≡ old.link.dials
    pub closed : old.link.under_way ≡ false → new.link.under_way ≡ false

-- the playlist was told so, of a flow that is kept
pub record TellsPlaylist (asked : PlaylistAsked) (library : Library) (old new : Device)
    (o : RunOutcome) : Type 0 where
  pub kept : IsSome (flow_of asked.flow library.catalog.flows)
  pub tells : TellsPeer (playlist_in library asked) (counted (named_in library asked)) old new o

-- How it ends: the flow isn't kept, or there was no memory, and nothing was touched; or a peer was
-- waited for.
abbrev pub PlaylistEnds : PlaylistAsked → Library → Device → Device → RunOutcome → Type 0
PlaylistEnds asked library old new (NoPlaylist NoFlow) =
    (flow_of asked.flow library.catalog.flows ≡ None) × Untouched old new
PlaylistEnds asked library old new NoMemory = Untouched old new
PlaylistEnds asked library old new o = TellsPlaylist asked library old new o

-- ---- within this crate

-- the outcomes of saying a text that names so many objects
abbrev pub IsOfSaying : ℕ → RunOutcome → Type 0
IsOfSaying objects (Playlist n) = n ≡ objects
IsOfSaying objects LinkFault = Unit {0}
IsOfSaying objects _ = ⊥

-- A text was said on the connection that was under way, as far as the calls of the link held, and
-- the connection was ended.
pub record HasSaid (text : List ℕ) (objects : ℕ) (old new : Device) (o : RunOutcome) : Type 0 where
  pub call : LinkCall (Tells false text) (Tells (link_held o) text) (link_held o) old new
  pub outcome : IsOfSaying objects o
  pub peers : SamePeers old new
  pub under_way : new.link.under_way ≡ false
  pub connections : old.tells ≡ true → (sent : List ℕ) × Sends (link_held o) text sent
      × (new.link.connections ≡ change_last (after_say (link_held o) sent) old.link.connections)
