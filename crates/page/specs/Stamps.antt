-- A moment in seconds, and as a date and a time of RFC 3339 in UTC: `1700000000.012000 s, 2023-11-14T22:13:20.012000Z`.
use Rattle.std.specs.Prelude.{ℕ, ◌+◌, ◌-◌, ◌*◌, ◌/◌, ◌%◌, ◌++◌, nat_le, nat_lt, List, codes, decimal, if◌then◌else◌}
use Rattle.page.specs.Charts.{seconds_text, six_last_digits}

-- ---- the calendar: days are counted from 1 March of year 0 on, so that a leap day is the last one of its year; 146097 are 400 years

-- 1970-01-01 is 719468 days behind that
abbrev pub march_day : ℕ → ℕ
march_day days = days + 719468

-- the year of a day among those of 400 years: without its leap days it has 365 days a year
abbrev pub year_of_day : ℕ → ℕ
year_of_day day = (day - day / 1460 + day / 36524 - day / 146096) / 365

-- the days of 400 years that come before a year
abbrev pub days_before_year : ℕ → ℕ
days_before_year year = 365 * year + year / 4 - year / 100

-- the place of a day in its year, from 1 March
abbrev pub place_in_year : ℕ → ℕ
place_in_year day = day - days_before_year (year_of_day day)

-- the month of a place, from 0 for March, and the days before it: five months have 153 days
abbrev pub month_of_place : ℕ → ℕ
month_of_place place = (5 * place + 2) / 153

abbrev pub day_of_place : ℕ → ℕ
day_of_place place = place - (153 * month_of_place place + 2) / 5 + 1

-- January and February are of the next year
abbrev pub month_number : ℕ → ℕ
month_number month = if nat_lt month 10 then month + 3 else month - 9

abbrev pub year_number : ℕ → ℕ → ℕ
year_number year month = if nat_lt month 10 then year else year + 1

-- ---- texts

abbrev pub two_digits : ℕ → List ℕ
two_digits number = decimal (number / 10 % 10) ++ decimal (number % 10)

abbrev pub date_pieces : List ℕ → List ℕ → List ℕ → List ℕ → List ℕ
date_pieces century year month day = century ++ (year ++ (codes "-" ++ (month ++ (codes "-" ++ day))))

abbrev pub date_of : ℕ → ℕ → ℕ → List ℕ
date_of year month day = date_pieces (two_digits (year / 100)) (two_digits year) (two_digits month) (two_digits day)

-- the date of a day of 400 years, of which so many came before
abbrev pub date_in : ℕ → ℕ → List ℕ
date_in era day =
    date_of (year_number (era * 400 + year_of_day day) (month_of_place (place_in_year day))) (month_number (month_of_place (place_in_year day)))
    (day_of_place (place_in_year day))

abbrev pub clock_pieces : List ℕ → List ℕ → List ℕ → List ℕ
clock_pieces hours minutes seconds = hours ++ (codes ":" ++ (minutes ++ (codes ":" ++ seconds)))

-- the time of a second of a day
abbrev pub clock_of : ℕ → List ℕ
clock_of second = clock_pieces (two_digits (second / 3600)) (two_digits (second / 60 % 60)) (two_digits (second % 60))

abbrev pub stamp_pieces : List ℕ → List ℕ → List ℕ → List ℕ
stamp_pieces date clock micros = date ++ (codes "T" ++ (clock ++ (codes "." ++ (micros ++ codes "Z"))))

abbrev pub stamp_of : ℕ → ℕ → List ℕ
stamp_of seconds micros =
    stamp_pieces (date_in (march_day (seconds / 86400) / 146097) (march_day (seconds / 86400) % 146097)) (clock_of (seconds % 86400))
    (six_last_digits micros)

-- RFC 3339 has no form for year 10000 and later ones, which begins after 253402300800 seconds
abbrev pub stamp_text : ℕ → List ℕ
stamp_text micros = if nat_le 253402300800 (micros / 1000000) then codes "later" else stamp_of (micros / 1000000) micros

abbrev pub moment_pieces : List ℕ → List ℕ → List ℕ
moment_pieces seconds stamp = seconds ++ (codes " s, " ++ stamp)

-- a moment in microseconds since the start of 1970
unfoldable pub moment_text : ℕ → List ℕ
moment_text micros = moment_pieces (seconds_text micros) (stamp_text micros)
