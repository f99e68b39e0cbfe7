-- Worked words: a command line of each command that opens a store, and what it spells.
use Rattle.std.specs.Prelude.{ℕ, List, [], ◌∷◌, codes}
use Rattle.time_range.specs.Points.{eternity}
use Rattle.tams_words.specs.Words.{IsCommand}
use Rattle.tams_words.specs.declared.words.Invocation.TheVariants.{Check, Migrate, Work, Deliver, Replay, Serve, Manifest}

-- the path and the base in them
abbrev pub worked_path : List ℕ
worked_path = codes "s"

abbrev pub worked_base : List ℕ
worked_base = codes "http://s"

abbrev pub check_line : List (List ℕ)
check_line = codes "check" ∷ worked_path ∷ []

abbrev pub migrate_line : List (List ℕ)
migrate_line = codes "migrate" ∷ worked_path ∷ []

abbrev pub work_line : List (List ℕ)
work_line = codes "work" ∷ worked_path ∷ []

abbrev pub deliver_line : List (List ℕ)
deliver_line = codes "deliver" ∷ worked_path ∷ []

abbrev pub replay_line : List (List ℕ)
replay_line = codes "replay" ∷ worked_path ∷ worked_base ∷ []

-- two connections on port 8
abbrev pub serve_line : List (List ℕ)
serve_line = codes "serve" ∷ worked_path ∷ codes "8" ∷ worked_base ∷ codes "2" ∷ []

-- of all segments of the flow 00000000-0000-0000-0000-000000000001
abbrev pub manifest_line : List (List ℕ)
manifest_line =
    codes "manifest" ∷ worked_path ∷ worked_base
    ∷ codes "00000000-0000-0000-0000-000000000001" ∷ codes "_" ∷ []

-- each spells its command
pub record WordsAsWorked : Type 0 where
  pub check : IsCommand check_line (Check worked_path)
  pub migrate : IsCommand migrate_line (Migrate worked_path)
  pub work : IsCommand work_line (Work worked_path)
  pub deliver : IsCommand deliver_line (Deliver worked_path)
  pub replay : IsCommand replay_line (Replay worked_path worked_base)
  pub serve : IsCommand serve_line (Serve worked_path 8 worked_base 2)
  pub manifest : IsCommand manifest_line (Manifest worked_path worked_base 1 eternity)
