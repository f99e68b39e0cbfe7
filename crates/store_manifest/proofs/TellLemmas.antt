-- What the calls of telling a peer leave, one after another.
use Rattle.std.proofs.Common.{subst, ◌≡◌, ◌∙◌, ℕ, Bool, true, false, List, [], ◌∷◌, ◌++◌, refl, ap, inl, inr, Ok}
use Rattle.disk_trait.specs.Device.{Device, Left, Link}
use Rattle.disk_trait.proofs.Theorems.{counted_twice, elapses_twice, elapses_weaker, same_device_twice}
use Rattle.hook_delivery.specs.Exchanging.{MayTell}
use Rattle.site_edge.specs.Links.{AddsConnection, Begins, LinkCall, NextPeer, Sends, Tells, after_say, change_last, fresh}
use Rattle.site_edge.specs.declared.fault.LinkFailed.{LinkFailed}
use Rattle.tams_outcomes.specs.declared.outcome.PlaylistRefusal.TheVariants.{NoFlow, NoPeer}
use Rattle.tams_outcomes.specs.declared.outcome.RunOutcome.{RunOutcome}
use Rattle.tams_outcomes.specs.declared.outcome.RunOutcome.TheVariants.{LinkFault, NoMemory, NoPlaylist, Playlist}
use Rattle.hls_manifest.specs.Manifests.{counted}
use Rattle.media_rows.specs.Library.{Library}
use Rattle.store_manifest.specs.Telling.{IsPlaylistIn, PlaylistAsked, PlaylistEnds, TellsPlaylist, named_in, HasSaid, IsOfPeer, IsOfSaying, TellsPeer, ToldBy, link_held}

-- the last of a list is the one behind the others
change_last-end : {A : Type 0} (f : A → A) (before : List A) (x : A) → change_last f (before ++ x ∷ []) ≡ before ++ f x ∷ []
change_last-end f [] x = refl
change_last-end f (y ∷ []) x = refl
change_last-end f (y ∷ z ∷ before) x = ap (λ l. y ∷ l) (change_last-end f (z ∷ before) x)

-- a connection that was added, and then told some of a text
may_tell : (text : List ℕ) (ok : Bool) (q m p : Left) → AddsConnection q m → Tells ok text m p → MayTell text q p
may_tell text ok q m p added tells = record {
  image = tells.image ∙ added.image;
  told =
      let (sent, sends, is) = tells.told in
      inr (sent, sends.prefix, is ∙ (ap (change_last (λ t. t ++ sent)) added.told ∙ change_last-end (λ t. t ++ sent) q.told []));
}

-- a connection that was only added
only_added : (text : List ℕ) (q p : Left) → AddsConnection q p → MayTell text q p
only_added text q p added = record { image = added.image; told = inr ([], (text, refl), added.told) }

-- an outcome of saying is one of a peer
of_peer : (objects : ℕ) (o : RunOutcome) → IsOfSaying objects o → IsOfPeer objects o
of_peer objects (Playlist n) is = is
of_peer objects LinkFault is = tt
of_peer objects _ is = absurd is

-- what became of the connections
told_by : (text : List ℕ) (objects : ℕ) (o : RunOutcome) (old new : Link) (sent : List ℕ) → IsOfSaying objects o → Sends (link_held o) text sent
    → new.connections ≡ old.connections ++ after_say (link_held o) sent fresh ∷ [] → ToldBy text objects o old new
told_by text objects (Playlist n) old new sent is sends e = (is, (after_say true sent fresh, e, sends.whole refl))
told_by text objects LinkFault old new sent is sends e = inr (after_say false sent fresh, e, sends.prefix)
told_by text objects _ old new sent is sends e = absurd is

-- a peer came, and then some of the text was said
pub told_after : (text : List ℕ) (objects : ℕ) (old mid new : Device) (o : RunOutcome)
    → LinkCall (Begins {E = LinkFailed} (Ok true)) (Begins {E = LinkFailed} (Ok true)) true old mid → NextPeer {E = LinkFailed} (Ok true) old mid
    → HasSaid text objects mid new o → TellsPeer text objects old new o
told_after text objects old mid new o came next said = record {
  call = record {
    same = same_device_twice old mid new came.same said.call.same;
    faults = said.call.faults ∙ came.faults;
    seen = said.call.seen ∙ came.seen;
    handed = said.call.handed ∙ came.handed;
    counted = counted_twice (link_held o) old.link.faults mid.link.faults new.link.faults came.counted said.call.counted;
    time = elapses_weaker _ _ (MayTell text) (MayTell text) old new
        (elapses_twice (Begins {E = LinkFailed} (Ok true)) (Begins {E = LinkFailed} (Ok true)) (Tells false text) (Tells (link_held o) text) old mid new came.time said.call.time)
        (λ q p could steps. elim steps [
          | inl so_far ↦ only_added text q p so_far
          | inr both ↦ may_tell text false q both.0 p both.1 both.2
        ])
        (λ q p could left both. may_tell text (link_held o) q both.0 p both.1 both.2);
  };
  outcome = of_peer objects o said.outcome;
  told = λ tells.
      let (sent, sends, is) = said.connections (came.same.tells ∙ tells) in
      told_by text objects o old.link new.link sent said.outcome sends
      (is ∙ (ap (change_last (after_say (link_held o) sent)) (next.connections tells) ∙ change_last-end (after_say (link_held o) sent) old.link.connections fresh));
  dials = said.peers.dials ∙ next.dials;
  closed = λ idle. said.under_way;
}

-- the end of a run in which a peer was waited for
pub ends_told : (asked : PlaylistAsked) (library : Library) (old new : Device) (o : RunOutcome) → TellsPlaylist asked library old new o
    → PlaylistEnds asked library old new o
ends_told asked library old new (NoPlaylist NoFlow) ends = absurd ends.tells.outcome
ends_told asked library old new NoMemory ends = absurd ends.tells.outcome
ends_told asked library old new (Playlist objects) ends = ends
ends_told asked library old new (NoPlaylist NoPeer) ends = ends
ends_told asked library old new LinkFault ends = ends
ends_told asked library old new _ ends = absurd ends.tells.outcome

-- the same by the text that was said
pub ends_by : (asked : PlaylistAsked) (library : Library) (old new : Device) (o : RunOutcome) (text : List ℕ) (objects : ℕ)
    → IsPlaylistIn library asked (text, objects) → TellsPeer text objects old new o → PlaylistEnds asked library old new o
ends_by asked library old new o text objects is tells =
    ends_told asked library old new o (record {
      kept = is.kept;
      tells = subst (λ (t : List ℕ). TellsPeer t (counted (named_in library asked)) old new o) is.text
          (subst (λ n. TellsPeer text n old new o) is.objects tells);
    })
