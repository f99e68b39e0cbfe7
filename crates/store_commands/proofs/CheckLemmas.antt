-- The ends of `check`.
use Rattle.std.proofs.Common.{◌≡◌, ◌∙◌, ℕ, Bool, true, List, sym, ap, subst}
use Rattle.disk_trait.specs.Forms.{form_in_use}
use Rattle.disk_trait.specs.Device.{Device}
use Rattle.disk_trait.specs.Calls.{DiskReads}
use Rattle.disk_trait.proofs.Theorems.{reads_twice}
use Rattle.media_journal.specs.declared.fault.JournalFault.{JournalFault}
use Rattle.media_journal.specs.declared.fault.JournalFault.TheVariants as opening
use Rattle.store_opening.specs.Laws.{KeptStands}
use Rattle.store_opening.specs.Opening.{IsKept, bytes_in_image}
use Rattle.store_states.specs.Kept.{StoreView, kept_state}
use Rattle.store_states.specs.Laws.{IsOneState}
use Rattle.store_states.specs.States.{StandsFor, StoreState}
use Rattle.media_rows.specs.Media.{Archive}
use Rattle.tams_outcomes.specs.declared.outcome.RunOutcome.{RunOutcome}
use Rattle.tams_outcomes.specs.declared.outcome.RunOutcome.TheVariants.{Checked, DamagedObject, DiskFault, NoMemory}
use Rattle.store_commands.specs.CheckEnds.{CheckCause, ProbedCause, counts_in}
use Rattle.store_commands.specs.Probing.{AreWhole, IsFirstDamaged, archive_in}
use Rattle.tams_outcomes.specs.Touching.{Untouched}
use Rattle.store_commands.specs.Opening.{opening_outcome}
use Rattle.store_commands.proofs.OpeningLemmas.{Answers}
use Rattle.store_commands.proofs.OpeningLemmas.{untouched_by}

module _ (old new : Device) (ok : Bool) (reads : DiskReads ok old new) where
  untouched : Untouched old new
  untouched = untouched_by ok old new reads

  -- the store couldn't be opened
  pub check_failed : (fault : JournalFault) → Answers old fault → CheckCause old new (opening_outcome fault)
  check_failed opening.NotStore answer = (answer, untouched)
  check_failed (opening.Damaged at) answer = (answer, untouched)
  check_failed opening.OldForm answer = (answer, untouched)
  check_failed opening.Disk answer = untouched
  check_failed opening.Memory answer = untouched

-- it was, and its objects were probed
module _ (old mid new : Device) (first : DiskReads true old mid) (ok : Bool) (second : DiskReads ok mid new) (kept_stands : KeptStands) (one : IsOneState)
    (kept : StoreView) (answer : old.shows ≡ true → IsKept old.seen kept) where
  left : Untouched old new
  left = untouched_by ok old new (reads_twice ok old mid new first second)

  abbrev kept_in : StoreState
  kept_in = kept_state kept (bytes_in_image old.seen kept)

  stands : old.shows ≡ true → StandsFor old.seen kept_in
  stands shows = kept_stands old.seen kept (answer shows)

  same : old.shows ≡ true → (from : StoreState) → StandsFor old.seen from → from ≡ kept_in
  same shows from other = one old.seen form_in_use form_in_use kept_in from (stands shows) other

  -- what was found over the device then is so of each state for which the file stands
  found : (P : Archive → Type 0) → (mid.shows ≡ true → P (archive_in mid.seen kept)) → old.shows ≡ true → (from : StoreState) → StandsFor old.seen from
      → P from.archive
  found P told shows from other =
      subst (λ (s : StoreState). P s.archive) (sym (same shows from other))
      (subst (λ (seen : List ℕ). P (archive_in seen kept)) first.seen (told (first.calls.same.shows ∙ shows)))

  pub check_probed : (o : RunOutcome) → ProbedCause kept mid o → CheckCause old new o
  check_probed (Checked counts) (whole, counts_are) = (
    λ shows. record {
      stands = (kept_in, stands shows);
      counts_are = λ from other. counts_are ∙ ap counts_in (sym (same shows from other));
      whole = found AreWhole whole shows;
    },
    left,
  )
  check_probed (DamagedObject damaged) told =
      (λ shows. record { stands = (kept_in, stands shows); first = found (λ (a : Archive). IsFirstDamaged a damaged) told shows }, left)
  check_probed DiskFault cause = left
  check_probed NoMemory cause = left
  check_probed _ cause = absurd cause
