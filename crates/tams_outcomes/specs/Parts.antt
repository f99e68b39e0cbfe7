-- A line by its parts, as it is put.
use Rattle.std.specs.Prelude.{ℕ, List, [], ◌∷◌, ◌++◌}
use Rattle.std.specs.Fmt.{decimal}
use Rattle.tams_outcomes.specs.declared.outcome.LinePart.{LinePart}
use Rattle.tams_outcomes.specs.declared.outcome.Shown.{Shown}
use Rattle.tams_outcomes.specs.declared.outcome.Shown.TheVariants.{Bytes, Number}

-- what is shown: a number in decimal digits, and bytes as they are
abbrev pub shown_by : Shown → List ℕ
shown_by (Number n) = decimal n
shown_by (Bytes bytes) = bytes.now

-- a text and what is shown behind it
abbrev pub part_by : LinePart → List ℕ
part_by part = part.text.now ++ shown_by part.shown

-- the parts of a line, and then its end
abbrev pub line_by : List LinePart → List ℕ → List ℕ
line_by [] end = end
line_by (part ∷ parts) end = part_by part ++ line_by parts end
