-- Numbers and times as they are shown.
use Rattle.std.specs.Prelude.{ℕ, ◌-◌, ◌/◌, ◌%◌, List, ◌++◌, length, replicate, codes, decimal}

-- a text at the right of so many columns
abbrev pub right : ℕ → List ℕ → List ℕ
right width text = replicate (width - length text) 32 ++ text

-- a number with at least two digits
abbrev pub two_digits : ℕ → List ℕ
two_digits n = replicate (2 - length (decimal n)) 48 ++ decimal n

-- whole seconds as HH:MM:SS
unfoldable pub clock_text : ℕ → List ℕ
clock_text seconds = two_digits (seconds / 3600) ++ (codes ":"
    ++ (two_digits (seconds / 60 % 60) ++ (codes ":" ++ two_digits (seconds % 60))))

-- a time in nanoseconds, rounded down to seconds, in brackets
unfoldable pub bracket : ℕ → List ℕ
bracket time = codes "[" ++ (right 9 (clock_text (time / 1_000_000_000)) ++ codes "] ")
