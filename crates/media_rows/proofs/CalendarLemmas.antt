-- The date so many days after 1970-01-01 is the calendar's, and its text is that of the date of that day number.
use Rattle.std.proofs.Common.{◌≡◌, ℕ, zero, suc, ◌+◌, ◌≤◌, ◌<◌, Bool, true, false, nat_lt, if◌then◌else◌, pos, refl, sym, ◌∙◌, arith, rules, inl, inr}
use Rattle.std.proofs.lemmas.Bool.{cases_lt}
use Rattle.std.proofs.lemmas.Bool.Decides.{nat_tests}
use Rattle.jiff_core.specs.Calendar.{days_in_month, days_from_civil, IsCivilDate}
use Rattle.jiff_core.specs.Date.{epoch_day}
use Rattle.jiff_core.specs.declared.civil.date.Date.{Date}
use Rattle.jiff_core.proofs.CalendarLemmas.{days_from_civil-day_count, day_count-epoch, day_count-lt_year, days_in_month_bounds}
use Rattle.jiff.proofs.Family.{epoch_day_range, epoch_day_injective, days_from_civil-day, days_from_civil-next_month, days_from_civil-next_year, days_from_civil-max}
use Rattle.jiff.proofs.SpanFacts.{signed_arith}
use Rattle.jiff.specs.Words as jiff
use Rattle.media_rows.specs.Moments.{CivilDate, civil_date, date_text}

-- the date is in the calendar, and so many days after 1970-01-01
pub record IsDay (d : CivilDate) (n : ℕ) : Type 0 where
  pub month_least : 1 ≤ d.month
  pub month_most : d.month ≤ 12
  pub day_least : 1 ≤ d.day
  pub day_most : d.day ≤ days_in_month (pos d.year) d.month
  pub number : days_from_civil (pos d.year) d.month d.day ≡ pos n

-- 1970-01-01 itself
day_first : IsDay (civil_date 0) 0
unfolding civil_date
day_first = record {
  month_least = omega arith;
  month_most = omega arith;
  day_least = omega arith;
  day_most = omega (arith, days_in_month_bounds (pos 1970) 1);
  number = omega (arith, signed_arith, days_from_civil-day_count (pos 1970) 1 1, day_count-epoch);
}

-- the next day of a month
within : (d : CivilDate) (n : ℕ) → IsDay d n → d.day < days_in_month (pos d.year) d.month → IsDay (record { year = d.year; month = d.month; day = d.day + 1 })
    (suc n)
within d n is more = record {
  month_least = is.month_least;
  month_most = is.month_most;
  day_least = omega arith;
  day_most = omega arith;
  number = omega (arith, signed_arith, is.number, days_from_civil-day (pos d.year) d.month d.day (d.day + 1) is.day_least (omega arith));
}

-- the first of the next month
over_month : (d : CivilDate) (n : ℕ) → IsDay d n → days_in_month (pos d.year) d.month ≤ d.day → d.month < 12
    → IsDay (record { year = d.year; month = d.month + 1; day = 1 }) (suc n)
over_month d n is last more = record {
  month_least = omega arith;
  month_most = omega arith;
  day_least = omega arith;
  day_most = omega (arith, days_in_month_bounds (pos d.year) (d.month + 1));
  number = omega (arith, signed_arith, is.number, days_from_civil-next_month (pos d.year) d.month d.day is.month_least (omega (arith, is.day_most)));
}

-- the first of the next year
over_year : (d : CivilDate) (n : ℕ) → IsDay d n → days_in_month (pos d.year) d.month ≤ d.day → 12 ≤ d.month
    → IsDay (record { year = d.year + 1; month = 1; day = 1 }) (suc n)
over_year d n is last end =
    let month : d.month ≡ 12 = omega (arith, is.month_most) in
    let day : d.day ≡ 31 = omega (arith, is.day_most, rw month at last, rw month at is.day_most) in
    let here : days_from_civil (pos d.year) 12 31 ≡ pos n = rw (month, day) at is.number in
    record {
      month_least = omega arith;
      month_most = omega arith;
      day_least = omega arith;
      day_most = omega (arith, days_in_month_bounds (pos (d.year + 1)) 1);
      number = omega (
        arith,
        signed_arith,
        here,
        days_from_civil-next_year (pos d.year) (pos (d.year + 1)) (omega (arith, signed_arith))
            (omega (arith, signed_arith)),
      );
    }

-- a choice of the month's end
month_end : (d : CivilDate) (n : ℕ) → IsDay d n → days_in_month (pos d.year) d.month ≤ d.day → (b : Bool) → nat_lt d.month 12 ≡ b
    → IsDay (if b then record { year = d.year; month = d.month + 1; day = 1 } else record { year = d.year + 1; month = 1; day = 1 }) (suc n)
month_end d n is last true e = over_month d n is last (grind (arith, nat_tests))
month_end d n is last false e = over_year d n is last (grind (arith, nat_tests))

-- a choice of the day's
day_end : (d : CivilDate) (n : ℕ) → IsDay d n → (b : Bool) → nat_lt d.day (days_in_month (pos d.year) d.month) ≡ b
    → IsDay (if b then record { year = d.year; month = d.month; day = d.day + 1 }
    else if nat_lt d.month 12 then record { year = d.year; month = d.month + 1; day = 1 } else record { year = d.year + 1; month = 1; day = 1 }) (suc n)
day_end d n is true e = within d n is (grind (arith, nat_tests))
day_end d n is false e = month_end d n is (grind (arith, nat_tests)) (nat_lt d.month 12) refl

-- the date so many days after 1970-01-01 is the calendar's
pub civil_date-IsDay : (n : ℕ) → IsDay (civil_date n) n
unfolding civil_date
civil_date-IsDay zero = day_first
civil_date-IsDay (suc n) = day_end (civil_date n) n (civil_date-IsDay n)
    (nat_lt (civil_date n).day (days_in_month (pos (civil_date n).year) (civil_date n).month)) refl

-- the last date that the calendar's library has
last_date : IsCivilDate (pos 9999) 12 31
last_date = ((search rules, search rules), (omega arith, omega arith), (omega arith, search rules))

-- a day that the library has is in a year that it has
year_within : (d : CivilDate) (n : ℕ) → IsDay d n → n ≤ 2932896 → d.year ≤ 9999
year_within d n is most =
    elim (cases_lt 9999 d.year) [
      | inl past ↦ absurd (omega (
        arith,
        signed_arith,
        is.number,
        days_from_civil-max,
        days_from_civil-day_count (pos 9999) 12 31,
        days_from_civil-day_count (pos d.year) d.month d.day,
        day_count-lt_year (pos 9999) 12 31 (pos d.year) d.month d.day last_date is.day_least
            (omega (arith, signed_arith)),
      ))
      | inr within ↦ within
    ]

-- the date of a day number is printed as the date so many days after 1970-01-01
pub date_text-civil_date : (a : Date) (n : ℕ) → epoch_day a ≡ pos n → jiff.date_text a ≡ date_text (civil_date n)
unfolding date_text
date_text-civil_date a n e =
    let is = civil_date-IsDay n in
    let range = epoch_day_range a in
    let most : n ≤ 2932896 = omega (arith, signed_arith, e, range.1) in
    let year = year_within (civil_date n) n is most in
    let b : Date = record {
      year = pos (civil_date n).year;
      month = (civil_date n).month;
      day = (civil_date n).day;
      year_in = (omega (arith, signed_arith), omega (arith, signed_arith));
      month_in = (is.month_least, is.month_most);
      day_in = (is.day_least, is.day_most);
    } in
    let same = epoch_day_injective a b (e ∙ sym is.number) in
    rw (same.0, same.1, same.2) refl
