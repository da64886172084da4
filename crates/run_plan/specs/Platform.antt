-- The platform that a compiler's lines say.
use Rattle.std.specs.Prelude.{ℕ, ◌++◌, ◌==◌, List, [], ◌∷◌, codes, length, if◌then◌else◌}
use Rattle.std.specs.Prelude.{Option, Some, None, option_and_then, option_map, unwrap_or}
use Rattle.std.specs.Str.Lines.{lines}
use Rattle.run_profile.specs.declared.cfg.Cfg.{Cfg}
use Rattle.run_input.specs.TurnLine.{is_word}
use Rattle.run_plan.specs.Values.{parts_at}

-- what stands between the first two quotes of a text
abbrev pub between_quotes : List ℕ → Option (List ℕ)
between_quotes text =
    option_and_then (λ opened. option_map (λ closed. closed.0) (parts_at 34 opened.1)) (parts_at 34 text)

-- the value of a line `key="value"`
abbrev pub value_after : List ℕ → List ℕ × List ℕ → Option (List ℕ)
value_after key parts = if is_word parts.0 key then between_quotes parts.1 else None

abbrev pub line_value : List ℕ → List ℕ → Option (List ℕ)
line_value key line = option_and_then (value_after key) (parts_at 61 line)

-- the value of the first such line; empty where there is none
abbrev pub first_value : List ℕ → List (List ℕ) → List ℕ
first_value key [] = []
first_value key (line ∷ lines) = unwrap_or (line_value key line) (first_value key lines)

-- the environment and the binary interface at a triple's end, where there are some
abbrev pub triple_with : List ℕ → List ℕ → List ℕ
triple_with triple end = if length end == 0 then triple else triple ++ codes "-" ++ end

-- the triple of a platform
abbrev pub triple_of : List (List ℕ) → List ℕ
triple_of lines =
    triple_with (first_value (codes "target_arch") lines ++ codes "-" ++ first_value (codes "target_vendor") lines
    ++ codes "-" ++ first_value (codes "target_os") lines)
    (first_value (codes "target_env") lines ++ first_value (codes "target_abi") lines)

abbrev pub platform_with : List (List ℕ) → Cfg
platform_with lines = record { triple = triple_of lines; facts = lines }

-- the platform of a compiler's lines; without them nothing is known of it
abbrev pub platform_given : Option (List ℕ) → Cfg
platform_given None = record { triple = []; facts = [] }
platform_given (Some text) = platform_with (lines text)
