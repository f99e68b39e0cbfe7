-- Where a head ends, and where a line ends (RFC 9112, sections 2.1 and 2.2).
use Rattle.std.specs.Prelude.{ℕ, ◌+◌, ◌==◌, List, [], ◌∷◌, Option, Some, None, take, if◌then◌else◌}
use Rattle.http_wire.specs.declared.lines.LinePlace.{LinePlace}
use Rattle.http_wire.specs.declared.lines.LinePlace.TheVariants.{Before, BeforeReturn, Within, After, AfterReturn}
use Rattle.http_wire.specs.declared.lines.Looked.{Looked}
use Rattle.http_wire.specs.declared.lines.Looked.TheVariants.{Ended, Still}

-- LF, which ends a line
abbrev pub line_feed : ℕ
line_feed = 10

-- CR, which may stand before it
abbrev pub carriage_return : ℕ
carriage_return = 13

-- The place behind a byte, and none where the byte ends the head. A line is empty where it is LF
-- alone or CR LF. A head ends at the end of the first empty line that follows a line which isn't
-- empty.
abbrev pub next_place : LinePlace → ℕ → Option LinePlace
next_place Before b =
    if b == line_feed then Some Before
    else if b == carriage_return then Some BeforeReturn
    else Some Within
next_place BeforeReturn b = if b == line_feed then Some Before else Some Within
next_place Within b = if b == line_feed then Some After else Some Within
next_place After b =
    if b == line_feed then None
    else if b == carriage_return then Some AfterReturn
    else Some Within
next_place AfterReturn b = if b == line_feed then None else Some Within

-- the same, one byte on
abbrev pub one_on : Looked → Looked
one_on (Ended n) = Ended (n + 1)
one_on (Still place) = Still place

-- what is found behind a byte, by the place that it leads to
abbrev pub behind_byte : Option LinePlace → (LinePlace → Looked) → Looked
behind_byte None later = Ended 1
behind_byte (Some place) later = one_on (later place)

-- what bytes lead to from a place: the end of the head behind so many of them, or a further place
abbrev pub looked : LinePlace → List ℕ → Looked
looked place [] = Still place
looked place (b ∷ bytes) = behind_byte (next_place place b) (λ next. looked next bytes)

-- a head's bytes are at most so many
abbrev pub max_head : ℕ
max_head = 16384

-- the bytes of the whole head that stands at the front, or the place that the first 16,384 lead to
abbrev pub head_end : List ℕ → Looked
head_end bytes = looked Before (take max_head bytes)

-- so many bytes and one more
abbrev pub further : Option ℕ → Option ℕ
further None = None
further (Some n) = Some (n + 1)

-- the bytes up to and with the first LF
abbrev pub line_end : List ℕ → Option ℕ
line_end [] = None
line_end (b ∷ bytes) = if b == line_feed then Some 1 else further (line_end bytes)
