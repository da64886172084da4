-- What the value of a word says.
use Rattle.std.specs.Prelude.{ℕ, ◌^◌, ◌==◌, ◌&&◌, List, Option, Some, None}
use Rattle.std.specs.Prelude.{option_map, option_and_then, if◌then◌else◌, nat_eq, nat_lt, length, codes}
use Rattle.std.specs.List.{after_first, before_first, position_or_len}
use Rattle.std.specs.Str.Parse.{digits_value, without_leading_plus}
use Rattle.run_events.specs.declared.result.FlakyResult.{FlakyResult}
use Rattle.run_events.specs.declared.result.FlakyResult.TheVariants as flaky
use Rattle.run_events.specs.declared.retry_policy.MaxFail.{MaxFail}
use Rattle.run_events.specs.declared.retry_policy.MaxFail.TheVariants as fails
use Rattle.run_events.specs.declared.retry_policy.TerminateMode.{TerminateMode}
use Rattle.run_events.specs.declared.retry_policy.TerminateMode.TheVariants as modes
use Rattle.run_input.specs.PlanStress.{are_decimals}
use Rattle.run_input.specs.Fields.{◌>>=◌}
use Rattle.run_input.specs.TurnLine.{is_word}
use Rattle.run_plan.specs.declared.choices.RunIgnored.{RunIgnored}
use Rattle.run_plan.specs.declared.choices.RunIgnored.TheVariants as ignored

-- the parts of a text round its first such byte, if it has one
abbrev pub parts_at : ℕ → List ℕ → Option (List ℕ × List ℕ)
parts_at byte text =
    if nat_lt (position_or_len (λ b. b == byte) text) (length text)
    then Some (before_first (λ b. b == byte) text, after_first (λ b. b == byte) text)
    else None

-- a number below 2 ^ 32: decimal digits, with an optional `+` before them
abbrev pub decimal_number : List ℕ → Option ℕ
decimal_number digits =
    if are_decimals digits && nat_lt (digits_value 10 digits) (2 ^ 32) then Some (digits_value 10 digits) else None

abbrev pub number_named : List ℕ → Option ℕ
number_named text = decimal_number (without_leading_plus text)

-- a number that isn't 0
abbrev pub unless_none : ℕ → Option ℕ
unless_none n = if nat_eq n 0 then None else Some n

-- a number from 1
abbrev pub some_number_named : List ℕ → Option ℕ
some_number_named text = option_and_then unless_none (number_named text)

-- how often a test is tried again: a number below 2 ^ 32 - 1
abbrev pub retries_named : List ℕ → Option ℕ
retries_named text = option_and_then (λ n. if nat_lt n 4294967295 then Some n else None) (number_named text)

abbrev pub run_ignored_named : List ℕ → Option RunIgnored
run_ignored_named text =
    if is_word text (codes "default") then Some ignored.Default
    else if is_word text (codes "only") then Some ignored.Only
    else if is_word text (codes "all") then Some ignored.All
    else None

abbrev pub flaky_by_name : List ℕ → Option FlakyResult
flaky_by_name text =
    if is_word text (codes "pass") then Some flaky.Pass
    else if is_word text (codes "fail") then Some flaky.Fail
    else None

abbrev pub mode_by_name : List ℕ → Option TerminateMode
mode_by_name text =
    if is_word text (codes "wait") then Some modes.Wait
    else if is_word text (codes "immediate") then Some modes.Immediate
    else None

-- after how many failures no test starts any more: `all`, or a number, maybe with a mode after a colon
abbrev pub fails_with : Option (List ℕ × List ℕ) → List ℕ → Option MaxFail
fails_with None text = option_map (λ n. fails.Count n modes.Wait) (number_named text)
fails_with (Some parts) text = do
  max_fail ← number_named parts.0
  terminate ← mode_by_name parts.1
  Some (fails.Count max_fail terminate)

abbrev pub max_fail_named : List ℕ → Option MaxFail
max_fail_named text =
    if is_word text (codes "all") then Some fails.All else fails_with (parts_at 58 text) text
