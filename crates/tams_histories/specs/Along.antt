-- What all states of a run have in common: what is stored keeps its bytes and its digest. Our own
-- rules.
use Rattle.std.specs.Prelude.{ℕ, List, [], ◌∷◌, All, IsTrue}
use Rattle.std.specs.List.{AllByRecursion}
use Rattle.media_rows.specs.Media.{HasDigests}
use Rattle.media_rows.specs.Moments.{is_moment}
use Rattle.store_states.specs.States.{StoreState}
use Rattle.run_history.specs.Sessions.{Session, run_effect}
use Rattle.run_history.specs.Traces.{start_of, states_of, trace_of}
use Rattle.tams_machine.specs.Laws.{KeepsBytes}
use Rattle.tams_machine.specs.Machine.{tams_machine}
use Rattle.tams_machine.specs.Requests.{TamsRequest}

-- each object that is stored in one of these states has the same bytes and the same digest in each
-- later one in which it is kept, known by its serial
abbrev pub KeepBytes : List StoreState → Type 0
KeepBytes [] = Unit {0}
KeepBytes (s ∷ later) = AllByRecursion (KeepsBytes s) later × KeepBytes later

-- So it is in the states of each history, where they are good and its moments are moments.
abbrev pub RunsKeepBytes : Type 0
RunsKeepBytes = (base : List ℕ) (from : StoreState) (sessions : List (Session TamsRequest))
    → All (tams_machine base).good (states_of (trace_of (tams_machine base) from sessions))
    → All (λ moment. IsTrue (is_moment moment))
    (run_effect (tams_machine base) (start_of from) sessions).moments
    → KeepBytes (states_of (trace_of (tams_machine base) from sessions))

-- where each stored object of the first of these states has the digest of its bytes, so it has in
-- each of them
abbrev pub KeepDigests : List StoreState → Type 0
KeepDigests [] = Unit {0}
KeepDigests (s ∷ later) =
    HasDigests s.archive → AllByRecursion (λ next. HasDigests next.archive) later

-- So it is in the states of each history, where they are good and its moments are moments.
abbrev pub RunsKeepDigests : Type 0
RunsKeepDigests = (base : List ℕ) (from : StoreState) (sessions : List (Session TamsRequest))
    → All (tams_machine base).good (states_of (trace_of (tams_machine base) from sessions))
    → All (λ moment. IsTrue (is_moment moment))
    (run_effect (tams_machine base) (start_of from) sessions).moments
    → KeepDigests (states_of (trace_of (tams_machine base) from sessions))

-- Both hold of each history.
pub record RunsKeepObjects : Type 0 where
  pub bytes : RunsKeepBytes
  pub digests : RunsKeepDigests
