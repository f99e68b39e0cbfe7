-- The ends of `manifest`, from what opening and telling answer.
use Rattle.std.proofs.Common.{◌≡◌, ◌∙◌, ℕ, Bool, true, false, List, refl, sym, ap, subst, inl, inr, arith}
use Rattle.disk_trait.specs.Forms.{form_in_use}
use Rattle.disk_trait.specs.Device.{Device, Left, Link}
use Rattle.disk_trait.specs.Calls.{DiskReads, IsCounted, Unchanged}
use Rattle.disk_trait.proofs.Theorems.{elapses_twice, elapses_weaker, same_device_twice}
use Rattle.hook_delivery.specs.Exchanging.{MayTell}
use Rattle.media_journal.specs.declared.fault.JournalFault.{JournalFault}
use Rattle.media_journal.specs.declared.fault.JournalFault.TheVariants as opening
use Rattle.media_rows.specs.Library.{Library}
use Rattle.site_edge.specs.Links.{LinkCall}
use Rattle.store_manifest.specs.Telling.{PlaylistAsked, PlaylistEnds, TellsPeer, ToldBy, link_held}
use Rattle.store_opening.specs.Laws.{KeptStands}
use Rattle.store_opening.specs.Opening.{IsKept, bytes_in_image}
use Rattle.store_states.specs.Kept.{StoreView, kept_state}
use Rattle.store_states.specs.Laws.{IsOneState}
use Rattle.store_states.specs.States.{StandsFor, StoreState}
use Rattle.tams_outcomes.specs.Statuses.{no_disk_fault}
use Rattle.tams_outcomes.specs.Touching.{Untouched}
use Rattle.tams_outcomes.specs.declared.outcome.PlaylistRefusal.TheVariants.{NoFlow, NoPeer}
use Rattle.tams_outcomes.specs.declared.outcome.RunOutcome.{RunOutcome}
use Rattle.tams_outcomes.specs.declared.outcome.RunOutcome.TheVariants.{Playlist, NoPlaylist, NoMemory, LinkFault}
use Rattle.store_commands.specs.ManifestEnds.{LeavesImage, ManifestCause, ManifestRun, OnOpened, WritesNothing}
use Rattle.store_commands.specs.Opening.{opening_outcome}
use Rattle.store_commands.specs.ServeEnds.{LinkFaults}
use Rattle.store_commands.proofs.OpeningLemmas.{Answers, untouched_by}

-- nothing that was touched was written
pub unwritten : (old new : Device) → Untouched old new → WritesNothing old new
unwritten old new same = record {
  seen = same.seen;
  handed = same.handed;
  time = elapses_weaker Unchanged Unchanged LeavesImage LeavesImage old new same.time
      (λ q p could step. ap (λ (l : Left). l.image) step) (λ q p could left step. ap (λ (l : Left). l.image) step);
}

-- ---- the store couldn't be opened

module _ (asked : PlaylistAsked) (old new : Device) (ok : Bool) (reads : DiskReads ok old new) where
  same_link : new.link ≡ old.link
  same_link = reads.calls.link

  untouched : Untouched old new
  untouched = untouched_by ok old new reads

  cause_of : (fault : JournalFault) → Answers old fault → ManifestCause old new (opening_outcome fault)
  cause_of opening.NotStore answer = (answer, untouched)
  cause_of (opening.Damaged at) answer = (answer, untouched)
  cause_of opening.OldForm answer = (answer, untouched)
  cause_of opening.Disk answer = untouched
  cause_of opening.Memory answer = untouched

  told_of : (fault : JournalFault) (says : Type 0) → OnOpened (opening_outcome fault) says
  told_of opening.NotStore says = tt
  told_of (opening.Damaged at) says = tt
  told_of opening.OldForm says = tt
  told_of opening.Disk says = tt
  told_of opening.Memory says = tt

  link_of : (fault : JournalFault) → LinkFaults (opening_outcome fault) old.link.faults new.link.faults
  link_of opening.NotStore = ap (λ (l : Link). l.faults) same_link
  link_of (opening.Damaged at) = ap (λ (l : Link). l.faults) same_link
  link_of opening.OldForm = ap (λ (l : Link). l.faults) same_link
  link_of opening.Disk = omega (arith, ap (λ (l : Link). l.faults) same_link)
  link_of opening.Memory = omega (arith, ap (λ (l : Link). l.faults) same_link)

  pub manifest_failed : (fault : JournalFault) → Answers old fault → ManifestRun asked old new (opening_outcome fault)
  manifest_failed fault answer = record {
    cause = cause_of fault answer;
    told = λ shows from stands. told_of fault _;
    link = link_of fault;
    unwritten = unwritten old new untouched;
    closed = λ idle. ap (λ (l : Link). l.under_way) same_link ∙ idle;
    dials = ap (λ (l : Link). l.dials) same_link;
  }

-- ---- the store was opened

-- a telling behind reads
module _ (old mid new : Device) (first : DiskReads true old mid) where
  same_before : mid.link ≡ old.link
  same_before = first.calls.link

  untouched_from : Untouched mid new → Untouched old new
  untouched_from same = record {
    seen = same.seen ∙ first.seen;
    handed = same.handed ∙ first.handed;
    link = same.link ∙ same_before;
    time = elapses_weaker _ _ Unchanged Unchanged old new (elapses_twice Unchanged Unchanged Unchanged Unchanged old mid new first.time same.time)
        (λ q p could steps. elim steps [ inl so_far ↦ so_far | inr both ↦ both.2 ∙ both.1 ])
        (λ q p could left both. both.2 ∙ both.1);
  }

  told_from : (text : List ℕ) (objects : ℕ) (o : RunOutcome) → ToldBy text objects o mid.link new.link → ToldBy text objects o old.link new.link
  told_from text objects o told = subst (λ (l : Link). ToldBy text objects o l new.link) same_before told

  call_from : (text : List ℕ) (ok : Bool) → LinkCall (MayTell text) (MayTell text) ok mid new → LinkCall (MayTell text) (MayTell text) ok old new
  call_from text ok call = record {
    same = same_device_twice old mid new first.calls.same call.same;
    faults = call.faults ∙ first.calls.counted.stays refl;
    seen = call.seen ∙ first.seen;
    handed = call.handed ∙ first.handed;
    counted = subst (λ (l : Link). IsCounted ok l.faults new.link.faults) same_before call.counted;
    time = elapses_weaker _ _ (MayTell text) (MayTell text) old new
        (elapses_twice Unchanged Unchanged (MayTell text) (MayTell text) old mid new first.time call.time)
        (λ q p could steps. elim steps [
          | inl so_far ↦ record { image = ap (λ (l : Left). l.image) so_far; told = inl (ap (λ (l : Left). l.told) so_far) }
          | inr both ↦ subst (λ (l : Left). MayTell text l p) both.1 both.2
        ])
        (λ q p could left both. subst (λ (l : Left). MayTell text l p) both.1 both.2);
  }

  tells_from : (text : List ℕ) (objects : ℕ) (o : RunOutcome) → TellsPeer text objects mid new o → TellsPeer text objects old new o
  tells_from text objects o tells = record {
    call = call_from text (link_held o) tells.call;
    outcome = tells.outcome;
    told = λ told. told_from text objects o (tells.told (first.calls.same.tells ∙ told));
    dials = tells.dials ∙ ap (λ (l : Link). l.dials) same_before;
    closed = λ idle. tells.closed (ap (λ (l : Link). l.under_way) same_before ∙ idle);
  }

  pub ends_from : (asked : PlaylistAsked) (library : Library) (o : RunOutcome) → PlaylistEnds asked library mid new o → PlaylistEnds asked library old new o
  ends_from asked library (NoPlaylist NoFlow) ends = (ends.0, untouched_from ends.1)
  ends_from asked library NoMemory ends = untouched_from ends
  ends_from asked library (Playlist objects) ends = record { kept = ends.kept; tells = tells_from _ _ (Playlist objects) ends.tells }
  ends_from asked library (NoPlaylist NoPeer) ends = record { kept = ends.kept; tells = tells_from _ _ (NoPlaylist NoPeer) ends.tells }
  ends_from asked library LinkFault ends = record { kept = ends.kept; tells = tells_from _ _ LinkFault ends.tells }
  ends_from asked library _ ends = absurd ends.tells.outcome

-- what its end says of the device
module _ (asked : PlaylistAsked) (library : Library) (old new : Device) where
  link_by : (o : RunOutcome) → PlaylistEnds asked library old new o → LinkFaults o old.link.faults new.link.faults
  link_by (NoPlaylist NoFlow) ends = ap (λ (l : Link). l.faults) ends.1.link
  link_by NoMemory ends = omega (arith, ap (λ (l : Link). l.faults) ends.link)
  link_by (Playlist objects) ends = ends.tells.call.counted.stays refl
  link_by (NoPlaylist NoPeer) ends = ends.tells.call.counted.stays refl
  link_by LinkFault ends = (ends.tells.call.counted.never_falls, ends.tells.call.counted.rises refl)
  link_by _ ends = absurd ends.tells.outcome

  told_unwritten : (text : List ℕ) (ok : Bool) → LinkCall (MayTell text) (MayTell text) ok old new → WritesNothing old new
  told_unwritten text ok call = record {
    seen = call.seen;
    handed = call.handed;
    time = elapses_weaker (MayTell text) (MayTell text) LeavesImage LeavesImage old new call.time
        (λ q p could step. step.image) (λ q p could left step. step.image);
  }

  unwritten_by : (o : RunOutcome) → PlaylistEnds asked library old new o → WritesNothing old new
  unwritten_by (NoPlaylist NoFlow) ends = unwritten old new ends.1
  unwritten_by NoMemory ends = unwritten old new ends
  unwritten_by (Playlist objects) ends = told_unwritten _ true ends.tells.call
  unwritten_by (NoPlaylist NoPeer) ends = told_unwritten _ true ends.tells.call
  unwritten_by LinkFault ends = told_unwritten _ false ends.tells.call
  unwritten_by _ ends = absurd ends.tells.outcome

  closed_by : (o : RunOutcome) → PlaylistEnds asked library old new o → old.link.under_way ≡ false → new.link.under_way ≡ false
  closed_by (NoPlaylist NoFlow) ends idle = ap (λ (l : Link). l.under_way) ends.1.link ∙ idle
  closed_by NoMemory ends idle = ap (λ (l : Link). l.under_way) ends.link ∙ idle
  closed_by (Playlist objects) ends idle = ends.tells.closed idle
  closed_by (NoPlaylist NoPeer) ends idle = ends.tells.closed idle
  closed_by LinkFault ends idle = ends.tells.closed idle
  closed_by _ ends idle = absurd ends.tells.outcome

  dials_by : (o : RunOutcome) → PlaylistEnds asked library old new o → new.link.dials ≡ old.link.dials
  dials_by (NoPlaylist NoFlow) ends = ap (λ (l : Link). l.dials) ends.1.link
  dials_by NoMemory ends = ap (λ (l : Link). l.dials) ends.link
  dials_by (Playlist objects) ends = ends.tells.dials
  dials_by (NoPlaylist NoPeer) ends = ends.tells.dials
  dials_by LinkFault ends = ends.tells.dials
  dials_by _ ends = absurd ends.tells.outcome

  cause_by : (o : RunOutcome) → PlaylistEnds asked library old new o → (old.shows ≡ true → (s : StoreState) × StandsFor old.seen s) → ManifestCause old new o
  cause_by (NoPlaylist refusal) ends stands = stands
  cause_by NoMemory ends stands = ends
  cause_by (Playlist objects) ends stands = stands
  cause_by LinkFault ends stands = stands
  cause_by _ ends stands = absurd ends.tells.outcome

  opened_by : (o : RunOutcome) (says : Type 0) → PlaylistEnds asked library old new o → says → OnOpened o says
  opened_by (NoPlaylist refusal) says ends told = told
  opened_by NoMemory says ends told = tt
  opened_by (Playlist objects) says ends told = told
  opened_by LinkFault says ends told = told
  opened_by _ says ends told = absurd ends.tells.outcome

  -- no call of the disk failed
  held_by : (o : RunOutcome) → PlaylistEnds asked library old new o → no_disk_fault o ≡ true
  held_by (NoPlaylist refusal) ends = refl
  held_by NoMemory ends = refl
  held_by (Playlist objects) ends = refl
  held_by LinkFault ends = refl
  held_by _ ends = absurd ends.tells.outcome

  pub disk_by : (before : ℕ) (o : RunOutcome) → PlaylistEnds asked library old new o → IsCounted true before old.faults → new.faults ≡ old.faults
      → IsCounted (no_disk_fault o) before new.faults
  disk_by before o ends counted same =
      subst (λ n. IsCounted (no_disk_fault o) before n) (sym same) (subst (λ (ok : Bool). IsCounted ok before old.faults) (sym (held_by o ends)) counted)

module _ (asked : PlaylistAsked) (old mid new : Device) (first : DiskReads true old mid) (kept_stands : KeptStands) (one : IsOneState) (kept : StoreView)
    (answer : old.shows ≡ true → IsKept old.seen kept) (o : RunOutcome) (ends : PlaylistEnds asked kept.library mid new o) where
  abbrev kept_in : StoreState
  kept_in = kept_state kept (bytes_in_image old.seen kept)

  whole : PlaylistEnds asked kept.library old new o
  whole = ends_from old mid new first asked kept.library o ends

  stands : old.shows ≡ true → StandsFor old.seen kept_in
  stands shows = kept_stands old.seen kept (answer shows)

  same : old.shows ≡ true → (from : StoreState) → StandsFor old.seen from → from ≡ kept_in
  same shows from other = one old.seen form_in_use form_in_use kept_in from (stands shows) other

  pub manifest_told : ManifestRun asked old new o
  manifest_told = record {
    cause = cause_by asked kept.library old new o whole (λ shows. (kept_in, stands shows));
    told = λ shows from other.
        opened_by asked kept.library old new o _ whole
        (subst (λ (s : StoreState). PlaylistEnds asked s.archive.library old new o) (sym (same shows from other)) whole);
    link = link_by asked kept.library old new o whole;
    unwritten = unwritten_by asked kept.library old new o whole;
    closed = closed_by asked kept.library old new o whole;
    dials = dials_by asked kept.library old new o whole;
  }
