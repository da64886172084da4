-- Times and counts as they are shown.
use Rattle.std.specs.Prelude.{ℕ, zero, suc, ◌+◌, ◌-◌, ◌*◌, ◌/◌, ◌%◌, ◌==◌, nat_le, if◌then◌else◌, List, [], ◌∷◌, ◌++◌}
use Rattle.std.specs.Prelude.{length, replicate, codes, decimal}
use Rattle.run_progress.specs.Texts.{right}

-- nanoseconds, rounded to milliseconds
abbrev pub milliseconds : ℕ → ℕ
milliseconds time = time / 1_000_000 + (if nat_le 500_000 (time % 1_000_000) then 1 else 0)

-- a number with at least three digits
abbrev pub three_digits : ℕ → List ℕ
three_digits n = replicate (3 - length (decimal n)) 48 ++ decimal n

-- nanoseconds as seconds, with three decimals
unfoldable pub seconds_text : ℕ → List ℕ
seconds_text time = decimal (milliseconds time / 1000) ++ (codes "." ++ three_digits (milliseconds time % 1000))

-- how long an attempt took
abbrev pub took_text : ℕ → List ℕ
took_text time = codes "[" ++ (right 8 (seconds_text time) ++ codes "s] ")

-- how long an attempt has run, and runs on
abbrev pub over_text : ℕ → List ℕ
over_text time = codes "[>" ++ (right 7 (seconds_text time) ++ codes "s] ")

-- how long the next attempt is waited for
abbrev pub delay_text : ℕ → List ℕ
delay_text time = codes "by " ++ (right 7 (seconds_text time) ++ codes "s ")

-- how many tests have finished, of so many, in the width of these
abbrev pub counter_text : ℕ → ℕ → List ℕ
counter_text done total = codes "(" ++ (right (length (decimal total)) (decimal done)
    ++ (codes "/" ++ (decimal total ++ codes ") ")))

-- a dash as wide as a column
abbrev pub dash : List ℕ
dash = 226 ∷ 148 ∷ 128 ∷ []

-- so many dashes
abbrev pub dashes : ℕ → List ℕ
dashes zero = []
dashes (suc n) = dash ++ dashes n

-- in place of a counter, where no test finished: as wide as it would be
abbrev pub open_text : ℕ → List ℕ
open_text total = codes "(" ++ (dashes (length (decimal total) * 2 + 1) ++ codes ") ")

-- a count and what it counts
abbrev pub plural_text : ℕ → List ℕ → List ℕ
plural_text n word = decimal n ++ (codes " " ++ (word ++ (if n == 1 then [] else codes "s")))
