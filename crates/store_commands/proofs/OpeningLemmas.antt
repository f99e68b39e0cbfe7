-- The ends of a command whose store couldn't be opened, and what its status says of its file.
use Rattle.std.proofs.Common.{◌≡◌, ◌≢◌, ◌⊎◌, ℕ, Bool, true, List, Err, refl, inl, inr, arith}
use Rattle.disk_trait.specs.Device.{Device}
use Rattle.disk_trait.specs.Calls.{DiskReads}
use Rattle.media_journal.specs.declared.fault.JournalFault.{JournalFault}
use Rattle.media_journal.specs.declared.fault.JournalFault.TheVariants as opening
use Rattle.media_journal.specs.Opening.{IsStore}
use Rattle.media_journal.proofs.OpeningLemmas.{is_store}
use Rattle.disk_trait.specs.Forms.{form_in_use}
use Rattle.store_opening.specs.Laws.{RefusedStandForNone}
use Rattle.store_opening.specs.Opening.{StoreAnswer}
use Rattle.store_states.specs.States.{StandsBy, StoreState}
use Rattle.tams_outcomes.specs.Statuses.{exit_of}
use Rattle.tams_outcomes.specs.Touching.{Untouched}
use Rattle.tams_outcomes.specs.declared.outcome.RunOutcome.{RunOutcome}
use Rattle.tams_outcomes.specs.declared.outcome.RunOutcome.TheVariants.{Served, BadWords, Cut, NotStore, AlreadyStore, TooSmall, Damaged, DamagedObject, OldForm, DiskFault, NoMemory, LinkFault}
use Rattle.store_commands.specs.Opening.{DamageFound, NoStoreFound, OpenedCause, OtherFormFound, StandsForNone, opening_outcome}

-- an image that is no store stands for no state, by a half of no form
pub no_state : (form : ℕ) (image : List ℕ) → ¬ (IsStore image) → (s : StoreState) → StandsBy form image s → ⊥
no_state form image none s stands =
    let sizes = stands.reads.sizes in
    none (is_store image stands.header stands.reads.header (omega (arith, sizes.some_half, sizes.fits, sizes.within)))

pub no_store : (image : List ℕ) → ¬ (IsStore image) → StandsForNone image
no_store = no_state form_in_use

-- reads leave all as it was
pub untouched_by : (ok : Bool) (old new : Device) → DiskReads ok old new → Untouched old new
untouched_by ok old new reads = record { seen = reads.seen; handed = reads.handed; link = reads.calls.link; time = reads.time }

-- what opening answered of what is shown
abbrev pub Answers : Device → JournalFault → Type 0
Answers old fault = old.shows ≡ true → StoreAnswer old.seen (Err fault)

pub refused_cause : (old new : Device) (fault : JournalFault) → Untouched old new → Answers old fault → OpenedCause old new (opening_outcome fault)
refused_cause old new opening.NotStore untouched answer = (answer, untouched)
refused_cause old new (opening.Damaged at) untouched answer = (answer, untouched)
refused_cause old new opening.OldForm untouched answer = (answer, untouched)
refused_cause old new opening.Disk untouched answer = tt
refused_cause old new opening.Memory untouched answer = tt

-- ---- what the file is where it refuses a command

module _ (old new : Device) where
  pub none_found : NoStoreFound old new → Untouched old new × (old.shows ≡ true → StandsForNone old.seen)
  none_found cause = (cause.1, λ shows. no_store old.seen (cause.0 shows))

  pub damage_found : RefusedStandForNone → (at : ℕ) → DamageFound old new at → Untouched old new × (old.shows ≡ true → StandsForNone old.seen)
  damage_found none at cause = (cause.1, λ shows state. none.damaged old.seen at form_in_use state (cause.0 shows).1)

  pub other_found : RefusedStandForNone → OtherFormFound old new → Untouched old new × (old.shows ≡ true → StandsForNone old.seen)
  other_found none cause = (cause.1, λ shows state. none.other old.seen state (cause.0 shows))

  pub opened_refused : RefusedStandForNone → (o : RunOutcome) → OpenedCause old new o → exit_of o ≡ 2
      → Untouched old new × (old.shows ≡ true → StandsForNone old.seen)
  opened_refused none NotStore cause s = none_found cause
  opened_refused none (Damaged at) cause s = damage_found none at cause
  opened_refused none OldForm cause s = other_found none cause
  opened_refused none AlreadyStore cause s = absurd cause
  opened_refused none TooSmall cause s = absurd cause
  opened_refused none (DamagedObject damaged) cause s = absurd cause
  opened_refused none _ cause s = absurd (omega (arith, s))

  pub opened_only : (o : RunOutcome) → OpenedCause old new o → old.shows ≡ true → StandsForNone old.seen
      → (exit_of o ≡ 2) ⊎ ((exit_of o ≡ 3) ⊎ (exit_of o ≡ 4))
  opened_only (Served requests changes skipped) cause shows none = let stood = cause shows in absurd (none stood.0 stood.1)
  opened_only Cut cause shows none = let stood = cause shows in absurd (none stood.0 stood.1)
  opened_only LinkFault cause shows none = let stood = cause shows in absurd (none stood.0 stood.1)
  opened_only NotStore cause shows none = inl refl
  opened_only (Damaged at) cause shows none = inl refl
  opened_only OldForm cause shows none = inl refl
  opened_only DiskFault cause shows none = inr (inl refl)
  opened_only NoMemory cause shows none = inr (inr refl)
  opened_only _ cause shows none = absurd cause

  pub opened_words : (o : RunOutcome) → OpenedCause old new o → exit_of o ≢ 1
  opened_words BadWords cause s = cause
  opened_words _ cause s = omega (arith, s)
