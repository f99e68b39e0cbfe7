use Rattle.std.proofs.Common.{refl}
use Rattle.hls_manifest.proofs.progress.Progress.next.Goals as goal

-- Behind the version a target duration stands.
pub returns-in_err-target-in-Versioned-clause-none
    : goal.returns-in_err-target-in-Versioned-clause-none
returns-in_err-target-in-Versioned-clause-none c = λ _ next follows.
    let is = rw c.in-Versioned.is at follows in
    c.in_err-target-in-Versioned.ensures.none refl is.target is.text

-- Behind the head or an entry one of the three stands.
pub returns-in-Between-clause-none : goal.returns-in-Between-clause-none
returns-in-Between-clause-none c = λ none next follows.
    c.next_between.ensures.none none next (rw c.in-Between.is at follows)
