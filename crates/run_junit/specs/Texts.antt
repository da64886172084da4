-- Times and moments as they are said.
use Rattle.std.specs.Prelude.{ℕ, ◌+◌, ◌-◌, ◌*◌, ◌/◌, ◌%◌, ◌^◌, nat_lt, if◌then◌else◌, List, [], ◌∷◌, ◌++◌, length}
use Rattle.std.specs.Prelude.{replicate, codes, decimal, Option, Some, None}
use Rattle.run_progress.specs.Texts.{two_digits}
use Rattle.run_report.specs.Texts.{seconds_text, three_digits}
use Rattle.run_junit.specs.declared.tag.Key.TheVariants as keys
use Rattle.run_junit.specs.Tokens.{Attribute}

-- a number with at least four digits
abbrev pub four_digits : ℕ → List ℕ
four_digits n = replicate (4 - length (decimal n)) 48 ++ decimal n

-- A day by its number since the first of March of the year 0, in years that begin with March: eras of 400 years have
-- 146,097 days.

-- which year of its era, by the day of the era
abbrev pub year_of_era : ℕ → ℕ
year_of_era day = (((day - day / 1460) + day / 36524) - day / 146096) / 365

-- which day of that year
abbrev pub day_of_year : ℕ → ℕ
day_of_year day = day - ((365 * year_of_era day + year_of_era day / 4) - year_of_era day / 100)

-- which month of the year, from March, by its day
abbrev pub month_from_march : ℕ → ℕ
month_from_march day = (5 * day + 2) / 153

-- which day of that month
abbrev pub day_of_month : ℕ → ℕ
day_of_month day = (day - (153 * month_from_march day + 2) / 5) + 1

-- the month from January
abbrev pub month_from_january : ℕ → ℕ
month_from_january month = if nat_lt month 10 then month + 3 else month - 9

-- a day as year, month and day, by its year from March and its day in that
abbrev pub date_in_year : ℕ → ℕ → List ℕ
date_in_year year day =
    four_digits (year + (if nat_lt (month_from_march day) 10 then 0 else 1)) ++ (codes "-"
    ++ (two_digits (month_from_january (month_from_march day)) ++ (codes "-" ++ two_digits (day_of_month day))))

-- a day so many days after the first of March of the year 0
abbrev pub date_of_march : ℕ → List ℕ
date_of_march day =
    date_in_year (day / 146_097 * 400 + year_of_era (day % 146_097)) (day_of_year (day % 146_097))

-- a day so many days after the start of 1970
unfoldable pub date_text : ℕ → List ℕ
date_text day = date_of_march (day + 719_468)

-- a time of day, in milliseconds
unfoldable pub time_of_day : ℕ → List ℕ
time_of_day time = two_digits (time / 3_600_000) ++ (codes ":" ++ (two_digits (time / 60_000 % 60) ++ (codes ":"
    ++ (two_digits (time / 1000 % 60) ++ (codes "." ++ three_digits (time % 1000))))))

-- the moment so many milliseconds after the start of 1970
unfoldable pub moment_text : ℕ → List ℕ
moment_text time =
    date_text (time / 86_400_000) ++ (codes "T" ++ (time_of_day (time % 86_400_000) ++ codes "+00:00"))

-- the moment so many nanoseconds after one so many milliseconds after the start of 1970; none past the greatest u64
abbrev pub moment_said : Option ℕ → ℕ → List Attribute
moment_said None at = []
moment_said (Some started) at = if nat_lt (started + at / 1_000_000) (2 ^ 64)
    then (keys.Timestamp, moment_text (started + at / 1_000_000)) ∷ [] else []

-- the moment of the clock of a run that started so, and how long something took from there on
abbrev pub times_said : Option ℕ → ℕ → ℕ → List Attribute
times_said started at time = moment_said started at ++ (keys.Time, seconds_text time) ∷ []
