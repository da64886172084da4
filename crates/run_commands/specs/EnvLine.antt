-- What a line of an environment file says.
use Rattle.std.specs.Prelude.{ℕ, ◌==◌, ◌||◌, ◌&&◌, not, Bool, false, List, [], ◌∷◌, codes, Result, Ok, Err}
use Rattle.std.specs.Prelude.{if◌then◌else◌, nat_eq}
use Rattle.std.specs.Char.{is_ascii_alphabetic, is_ascii_digit}
use Rattle.std.specs.List.{list_all, list_any, starts_with, before_first, after_first}
use Rattle.std.specs.Str.{is_utf8}
use Rattle.run_commands.specs.Pair.{Pair}
use Rattle.run_commands.specs.declared.env_line.BrokenRule.{BrokenRule}
use Rattle.run_commands.specs.declared.env_line.BrokenRule.TheVariants as rule

-- a letter or `_`
abbrev pub may_begin_key : ℕ → Bool
may_begin_key byte = is_ascii_alphabetic byte || byte == 95

-- a letter, `_` or a digit
abbrev pub may_stand_in_key : ℕ → Bool
may_stand_in_key byte = may_begin_key byte || is_ascii_digit byte

-- the name of a variable that a script may set: one of NEXTEST it may not
abbrev pub is_key : List ℕ → Bool
is_key [] = false
is_key (first ∷ others) =
    may_begin_key first && list_all may_stand_in_key others && not
    (starts_with nat_eq (first ∷ others) (codes "NEXTEST"))

-- the name before a line's first `=`, and the value after it
abbrev pub cut_at_equals : List ℕ → Pair
cut_at_equals line = (before_first (λ b. b == 61) line, after_first (λ b. b == 61) line)

-- the variable that a line sets, or the first rule that it breaks
abbrev pub pair_of : List ℕ → Result Pair BrokenRule
pair_of line =
    if not (is_utf8 line) then Err rule.Utf8
    else if not (list_any (λ b. b == 61) line) then Err rule.EqualsSign
    else if not (is_key (cut_at_equals line).0) then Err rule.Key
    else Ok (cut_at_equals line)
