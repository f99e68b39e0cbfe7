use Rattle.std.proofs.Common.{◌≡◌, ◌∙◌, sym, arith}
use Rattle.hls_manifest.proofs.TimingLemmas.{same_timing, seconds_fit}
use Rattle.hls_manifest.proofs.progress.next_timed.Goals as goal
use Rattle.hls_manifest.proofs.progress.next_timed.Goals.{then-nanos-gt-LONGEST-via-then-nanos-gt-LONGEST, then-nanos-gt-LONGEST-via-else-nanos-gt-LONGEST+then-nanos-from}

-- The line gives one duration alone, and that one is too long.
pub returns-then-nanos-gt-LONGEST-clause-none : goal.returns-then-nanos-gt-LONGEST-clause-none
returns-then-nanos-gt-LONGEST-clause-none c = λ _ next is.
    let same : c.in_ok-nanos.nanos ≡ is.nanos =
    same_timing c.in_ok-nanos.nanos is.nanos c.in_ok-nanos.ensures.fits
    (seconds_fit is.nanos is.duration) (sym c.in_ok-nanos.ensures.found ∙ is.text) in
    elim c.then-nanos-gt-LONGEST.branch [
      | then-nanos-gt-LONGEST-via-then-nanos-gt-LONGEST w ↦ omega (arith, same, is.duration)
      | then-nanos-gt-LONGEST-via-else-nanos-gt-LONGEST+then-nanos-from w ↦ omega
          (arith, same, is.within)
    ]
