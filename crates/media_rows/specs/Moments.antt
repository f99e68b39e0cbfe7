-- Moments: whole seconds since 1970-01-01T00:00:00Z, and their text in the form of RFC 3339 with
-- `Z`. The calendar is the proleptic Gregorian one, and no day has a leap second.
use Rattle.std.specs.Prelude.{ℕ, zero, suc, ◌+◌, ◌/◌, ◌%◌, List, [], ◌∷◌, ◌++◌, Bool, nat_lt, nat_le, if◌then◌else◌, pos}
use Rattle.jiff_core.specs.Calendar.{days_in_month}

-- the last moment: 9999-12-31T23:59:59Z
abbrev pub last_moment : ℕ
last_moment = 253402300799

-- a number that is a moment
abbrev pub is_moment : ℕ → Bool
is_moment n = nat_le n last_moment

-- a date of the calendar
pub record CivilDate : Type 0 where
  pub year : ℕ
  pub month : ℕ
  pub day : ℕ

-- the date of the day after
abbrev pub next_date : CivilDate → CivilDate
next_date d =
    if nat_lt d.day (days_in_month (pos d.year) d.month)
    then record { year = d.year; month = d.month; day = d.day + 1 }
    else if nat_lt d.month 12 then record { year = d.year; month = d.month + 1; day = 1 }
    else record { year = d.year + 1; month = 1; day = 1 }

-- the date so many days after 1970-01-01
unfoldable pub civil_date : ℕ → CivilDate
civil_date zero = record { year = 1970; month = 1; day = 1 }
civil_date (suc n) = next_date (civil_date n)

-- a number below 100, in two digits
abbrev pub two_digits : ℕ → List ℕ
two_digits n = (48 + n / 10) ∷ (48 + n % 10) ∷ []

-- a date: the year in four digits, the month and the day in two, with hyphens between
unfoldable pub date_text : CivilDate → List ℕ
date_text d =
    two_digits (d.year / 100) ++ two_digits (d.year % 100) ++ 45 ∷ two_digits d.month
    ++ 45 ∷ two_digits d.day

-- the time of a day behind its date, from the seconds since the day began
unfoldable pub clock_text : ℕ → List ℕ
clock_text seconds =
    84 ∷ two_digits (seconds / 3600) ++ 58 ∷ two_digits (seconds / 60 % 60)
    ++ 58 ∷ two_digits (seconds % 60) ++ 90 ∷ []

-- the seconds of a day, none of which has a leap second
abbrev pub seconds_in_day : ℕ
seconds_in_day = 86400

-- the text of a moment
unfoldable pub moment_text : ℕ → List ℕ
moment_text moment =
    date_text (civil_date (moment / seconds_in_day)) ++ clock_text (moment % seconds_in_day)
