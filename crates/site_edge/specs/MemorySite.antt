-- What a site in memory means. Its disk calls and its said bytes have one order of moments.
use Rattle.std.specs.Prelude.{if◌then◌else◌, ◌==◌, ◌≡◌, ◌<◌, ◌≤◌, ◌+◌, min, ℕ, Bool, true, false, List, [], ◌∷◌, ◌++◌, length, map, replicate, take, slice_index_or, slice_set, All, IsFalse, ◌⊎◌}
use Rattle.disk_trait.specs.Device.{Connection, Device, Dialled, Dials, Left, Link}
use Rattle.disk_trait.specs.Calls.{DiskRequest, Rose}
use Rattle.disk_trait.specs.History.{Past, kept_bytes}
use Rattle.disk_trait.specs.MemoryDisk.{DiskState, DiskCalled, LeavesAt, counted_on, memory_device}
use Rattle.site_edge.specs.Links.{Sends, change_last, dials_after, fresh}
use Rattle.site_edge.specs.Lines.{Talk, heard_more, rest_of, with_changed_connection, told_more}
use Rattle.site_edge.specs.Tallies.{CountsCall}
use Rattle.site_edge.specs.declared.tally.Tally.{Tally}
use Rattle.site_edge.specs.declared.placed_dial.PlacedDial.{PlacedDial}
use Rattle.site_edge.specs.declared.span.ToldSpan.{ToldSpan}
use Rattle.site_edge.specs.declared.span.Added.{Added}
use Rattle.site_edge.specs.declared.span.Added.TheVariants.{Peer, Bytes}

-- what was told, with what a link call adds
abbrev pub add_to : List (List ℕ) → Added → List (List ℕ)
add_to told Peer = told ++ [] ∷ []
add_to told (Bytes sent) = change_last (λ t. t ++ sent) told

-- what was told after these spans
abbrev pub told_after : List ToldSpan → List (List ℕ) → List (List ℕ)
told_after [] told = told
told_after (span ∷ later) told = told_after later (add_to told span.adds)

-- A site in memory: its disk, the numbers and counts of its link calls, the peers that came, the
-- bytes of those that are still to come, at most how many bytes one `hear` gives, whether a
-- connection is under way, how often it was said that no more will come, the calls of `dial`, the
-- spans that have ended, and how many disk calls had been made when the last of them ended.
pub record SiteState : Type 0 where
  pub disk : DiskState
  pub tally : Tally
  pub talks : List Talk
  pub waiting : List (List ℕ)
  pub piece : ℕ
  pub under_way : Bool
  pub closed : ℕ
  pub dials : Dials
  pub spans : List ToldSpan
  pub since : ℕ

-- the connections that were dialled, as they are kept
abbrev pub placed_dials : List PlacedDial → List Dialled
placed_dials = map (λ d. record { place = d.place; port = d.port })

-- no port was missed
unfoldable pub none_missed : List Bool
none_missed = replicate 65536 false

-- a site at its beginning
abbrev pub fresh_site : DiskState → List (List ℕ) → ℕ → List ℕ → SiteState
fresh_site disk peers piece fail = record {
  disk = disk;
  tally = record { fail = fail; made = 0; starved = 0; faults = 0; peer_faults = 0 };
  talks = [];
  waiting = peers;
  piece = piece;
  under_way = false;
  closed = 0;
  dials = record { begun = []; missed = none_missed };
  spans = [];
  since = 0;
}

-- its connections
abbrev pub connections_of : SiteState → List Connection
connections_of site = map (λ talk. talk.connection) site.talks

-- what each connection was told
abbrev pub told_of : SiteState → List (List ℕ)
told_of site = map (λ connection. connection.told) (connections_of site)

-- the number of its disk calls
abbrev pub disk_calls : SiteState → ℕ
disk_calls site = length site.disk.past.calls

-- A crash may leave this image at a moment since t, within the stretch from one number of disk
-- calls to another; so many moments more came from the spans before it.
pub record LeavesIn (past : Past) (from to before t : ℕ) (image : List ℕ) : Type 0 where
  pub moment : ℕ
  pub begun : from ≤ moment
  pub not_over : moment ≤ to
  pub within : moment ≤ length past.calls
  pub later : t ≤ moment + before
  pub leaves : LeavesAt past moment image

-- what was told so far while a link call adds to it: any prefix of the bytes
abbrev pub SoFar : Added → List (List ℕ) → List (List ℕ) → Type 0
SoFar Peer before told = ⊥
SoFar (Bytes sent) before told =
    (part : List ℕ) × Sends false sent part × (told ≡ change_last (λ t. t ++ part) before)

-- in the stretch that goes on
abbrev pub LeavesNow : SiteState → ℕ → List ℕ → Type 0
LeavesNow site t =
    LeavesIn site.disk.past (min site.since (disk_calls site)) (disk_calls site) (length site.spans)
    t

-- what was told before the span of this place
abbrev pub told_before : SiteState → ℕ → List (List ℕ)
told_before site n = told_after (take n site.spans) []

-- A crash at a moment since t may leave this: in the stretch that goes on, in one that has ended,
-- or within the call that ended it.
pub data SiteLeaves (site : SiteState) (t : ℕ) (p : Left) : Type 0 where
  now : LeavesNow site t p.image → p.told ≡ told_of site → SiteLeaves site t p
  earlier : (n : ℕ) (span : ToldSpan)
      → n < length site.spans
      → slice_index_or site.spans n span ≡ span
      → LeavesIn site.disk.past span.from span.to n t p.image
      → p.told ≡ told_before site n
      → SiteLeaves site t p
  ending : (n : ℕ) (span : ToldSpan)
      → n < length site.spans
      → slice_index_or site.spans n span ≡ span
      → LeavesIn site.disk.past span.to span.to n t p.image
      → SoFar span.adds (told_before site n) p.told
      → SiteLeaves site t p

-- its links
abbrev pub link_of : SiteState → Link
link_of site = record {
  faults = site.tally.faults;
  peer_faults = site.tally.peer_faults;
  under_way = site.under_way;
  connections = connections_of site;
  closed = site.closed;
  dials = site.dials;
}

-- the device of a site in memory
abbrev pub site_device : SiteState → Device
site_device site = record (memory_device site.disk) {
  link = link_of site;
  moment = disk_calls site + length site.spans;
  left_since = SiteLeaves site;
}

-- the site once the span that goes on was ended by what a link call adds
abbrev pub end_span : Added → SiteState → SiteState
end_span adds site = record site {
  spans = site.spans ++ record { from = site.since; to = disk_calls site; adds = adds } ∷ [];
  since = disk_calls site;
}

-- whether a peer is left
abbrev pub is_one_left : List (List ℕ) → Bool
is_one_left [] = false
is_one_left (sends ∷ later) = true

-- the site once the next of these peers came, or none was left
abbrev pub next_of : List (List ℕ) → SiteState → SiteState
next_of [] site = record site { under_way = false; closed = counted_on site.closed }
next_of (sends ∷ later) site = record (end_span Peer site) {
  talks = site.talks ++ record { sends = sends; connection = fresh } ∷ [];
  waiting = later;
  under_way = true;
}

-- the site once it waited for a peer
abbrev pub after_next : SiteState → SiteState
after_next site = next_of site.waiting site

-- the site once the last peer was heard: so many of the bytes in `out`, or to its end
abbrev pub after_heard : ℕ → List ℕ → SiteState → SiteState
after_heard count out site = record site {
  talks = change_last (with_changed_connection (heard_more count out)) site.talks;
}

-- the site once it told the last connection these bytes
abbrev pub after_tell : List ℕ → SiteState → SiteState
after_tell sent site = record (end_span (Bytes sent) site) {
  talks = change_last (with_changed_connection (told_more sent)) site.talks;
}

-- What a site in memory keeps: a connection that is under way has begun, spans end in the past, and
-- what was told is what the spans added.
pub record IsKeptBySite (site : SiteState) : Type 0 where
  pub piece : 0 < site.piece
  pub under_way : site.under_way ≡ true → 0 < length site.talks
  pub since : site.since ≤ disk_calls site
  pub spans : All (λ span. span.to ≤ disk_calls site) site.spans
  pub told : told_after site.spans [] ≡ told_of site

-- what a disk call that asked for this leaves of a site in memory
pub record SiteDiskCalled (asked : DiskRequest) (old new : SiteState) (ok : Bool) : Type 0 where
  pub disk : DiskCalled asked old.disk new.disk ok
  pub rest : new ≡ record old { disk = new.disk }

-- the bytes of all its peers, of those that came and of those that are still to come
abbrev pub peers_of : SiteState → List (List ℕ)
peers_of site = map (λ talk. talk.sends) site.talks ++ site.waiting

-- what a link call leaves of a site in memory
pub record SiteCalled (old new : SiteState) (ok : Bool) : Type 0 where
  pub counts : CountsCall old.tally new.tally ok
  pub disk : new.disk ≡ old.disk
  pub piece : new.piece ≡ old.piece
  pub peers : peers_of new ≡ peers_of old

-- the bytes of the last peer that weren't heard yet
abbrev pub rest_of_last : List Talk → List ℕ
rest_of_last [] = []
rest_of_last (talk ∷ []) = rest_of talk
rest_of_last (talk ∷ next ∷ later) = rest_of_last (next ∷ later)

-- what a `say` sends: all bytes, their first half where its number fails, none where it was starved
abbrev pub sent_by : SiteState → SiteState → Bool → List ℕ → List ℕ
sent_by old new ok bytes = if new.tally.made == old.tally.made then [] else kept_bytes ok bytes

-- these bytes, told to the last connection
abbrev pub told_also : List ℕ → List (List ℕ) → List (List ℕ)
told_also sent = change_last (λ t. t ++ sent)

-- the site once the connection that was under way was ended
abbrev pub after_close : SiteState → SiteState
after_close site = record site { under_way = false }

-- the site once it dialled a port: a connection began, or the port was missed
abbrev pub after_dial : ℕ → Bool → SiteState → SiteState
after_dial port true site = record (after_next site) {
  dials = dials_after true port (length site.talks) site.dials;
}
after_dial port false site =
    record site { dials = dials_after false port (length site.talks) site.dials }

-- What a `dial` leaves of a site in memory. It fails exactly where no peer is left or it was
-- starved, and takes no number.
pub record SiteDialled (old new : SiteState) (ok : Bool) : Type 0 where
  pub never_falls : old.tally.starved ≤ new.tally.starved
  pub none_left : old.waiting ≡ [] → IsFalse ok
  pub starved : old.tally.starved < new.tally.starved → IsFalse ok
  pub only : IsFalse ok → (old.waiting ≡ []) ⊎ Rose old.tally.starved new.tally.starved
  pub made : new.tally.made ≡ old.tally.made
  pub fail : new.tally.fail ≡ old.tally.fail
  pub disk : new.disk ≡ old.disk
  pub piece : new.piece ≡ old.piece
  pub peers : peers_of new ≡ peers_of old
