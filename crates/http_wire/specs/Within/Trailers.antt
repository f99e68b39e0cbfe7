-- How far a trailer was looked at.
use Rattle.std.specs.Prelude.{◌≡◌, ℕ, ◌≤◌, List, length, take}
use Rattle.http_wire.specs.Chunks.{count_lines, max_trailer, trailer}
use Rattle.http_wire.specs.Lines.{looked}
use Rattle.http_wire.specs.declared.chunk_line.FrontEnd.TheVariants.{Ended, Open, Wrong}
use Rattle.http_wire.specs.declared.chunk_line.TrailerFound.{TrailerFound}
use Rattle.http_wire.specs.declared.chunk_line.TrailerFound.TheVariants as found
use Rattle.http_wire.specs.declared.chunk_line.TrailerSeen.{TrailerSeen}
use Rattle.http_wire.specs.declared.lines.Looked.TheVariants.{Still}
use Rattle.http_wire.specs.declared.lines.LinePlace.TheVariants.{After}

-- so many bytes of a trailer hold no empty line and lead to a place, and so many lines end in them
pub record IsTrailerSeen (bytes : List ℕ) (seen : TrailerSeen) : Type 0 where
  pub leads : looked After (take seen.at bytes) ≡ Still seen.place
  pub ended : seen.lines ≡ count_lines (take seen.at bytes)
  pub inside : seen.at ≤ length bytes
  pub few : seen.at ≤ max_trailer

-- what is found of a trailer
abbrev pub FindsTrailer : List ℕ → TrailerFound → Type 0
FindsTrailer bytes (found.More seen) = (trailer bytes ≡ Open) × IsTrailerSeen bytes seen
FindsTrailer bytes found.Wrong = trailer bytes ≡ Wrong
FindsTrailer bytes (found.Whole n) = (trailer bytes ≡ Ended n) × (n ≤ length bytes)
