-- Parts of a summary, as they are added one after another.
use Rattle.std.specs.Prelude.{ℕ, ◌==◌, nat_lt, if◌then◌else◌, List, ◌++◌, length, codes, decimal}
use Rattle.std.specs.List.{flat_map}

-- each text with a comma and a space before it
abbrev pub after_commas : List (List ℕ) → List ℕ
after_commas texts = flat_map (λ text. codes ", " ++ text) texts

-- kinds with one more, where its count is above 0
abbrev pub with_kind : ℕ → List ℕ → List ℕ → List ℕ
with_kind n words kinds = if nat_lt 0 n
    then kinds ++ ((if length kinds == 0 then codes " (" else codes ", ") ++ (decimal n ++ words)) else kinds

-- kinds with the parenthesis that closes them
abbrev pub closed : List ℕ → List ℕ
closed kinds = if length kinds == 0 then kinds else kinds ++ codes ")"
