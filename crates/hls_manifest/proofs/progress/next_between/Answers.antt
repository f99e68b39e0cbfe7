use Rattle.std.proofs.Common.{◌∙◌, sym, arith}
use Rattle.std.proofs.lemmas.Bool.{false≢true}
use Rattle.std.proofs.lemmas.Bool.Decides.{nat_tests}
use Rattle.hls_manifest.specs.Progress.BreaksOrGoesOn.{Ends, Breaks, GoesOn}
use Rattle.hls_manifest.proofs.progress.next_between.Goals as goal
use Rattle.hls_manifest.proofs.progress.next_between.Goals.{else-not-is_empty-via-then-not-is_empty+else-same_bytes-2, else-not-is_empty-via-else-not-is_empty}

-- The line is neither the last one, nor one that breaks off behind an entry, nor gives a duration.
pub returns-clause-none : goal.returns-clause-none
returns-clause-none c = λ none next follows.
    elim follows [
      | Ends is ↦ false≢true (sym c.if-same_bytes.false ∙ c.same_bytes.ensures.1 is.text)
      | Breaks some is ↦
          elim c.else-not-is_empty.branch [
            | else-not-is_empty-via-then-not-is_empty+else-same_bytes-2 w ↦
                false≢true (sym w.if-same_bytes-2.false
                ∙ w.same_bytes-then-not-is_empty.ensures.1 is.text)
            | else-not-is_empty-via-else-not-is_empty w ↦ grind (arith, nat_tests, some)
          ]
      | GoesOn is ↦ c.next_timed.ensures.none none next is
    ]
