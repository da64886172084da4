-- Why tests don't run.
use Rattle.std.specs.Prelude.{ℕ, ◌&&◌, ◌||◌, not, Bool, true, false, List, [], ◌∷◌, codes, if◌then◌else◌}
use Rattle.std.specs.Prelude.{nat_eq, length, Option, Some, None}
use Rattle.std.specs.List.{list_any}
use Rattle.std.specs.Option.{option_or}
use Rattle.run_filter.specs.Holds.{stands_in}
use Rattle.run_plan.specs.Listed.{AskedTest}
use Rattle.run_plan.specs.declared.asked.Asked.{Asked}
use Rattle.run_plan.specs.declared.choices.Picks.{Picks}
use Rattle.run_plan.specs.declared.choices.RunIgnored.{RunIgnored}
use Rattle.run_plan.specs.declared.choices.RunIgnored.TheVariants as ignored
use Rattle.run_plan.specs.declared.test_list.ListedTest.{ListedTest}
use lib.Pointwise.{pointwise}

-- the first reason whose test holds
abbrev pub first_that_holds : List (Bool × List ℕ) → Option (List ℕ)
first_that_holds [] = None
first_that_holds (reason ∷ reasons) = if reason.0 then Some reason.1 else first_that_holds reasons

-- whether tests that are ignored are left out, and whether those that aren't are
abbrev pub leaves_ignored : Option RunIgnored → Bool
leaves_ignored None = true
leaves_ignored (Some ignored.Default) = true
leaves_ignored (Some ignored.Only) = false
leaves_ignored (Some ignored.All) = false

abbrev pub leaves_others : Option RunIgnored → Bool
leaves_others (Some ignored.Only) = true
leaves_others (Some ignored.Default) = false
leaves_others (Some ignored.All) = false
leaves_others None = false

-- whether a name is this word, or has it somewhere
abbrev pub is_called : Bool → List ℕ → List ℕ → Bool
is_called true name word = pointwise nat_eq name word
is_called false name word = stands_in word name

-- whether a name is one that the words name, where they name any, and none that they skip
abbrev pub is_named : Picks → List ℕ → Bool
is_named picks name =
    (nat_eq (length picks.names) 0 || list_any (is_called picks.is_exact name) picks.names)
    && not (list_any (is_called picks.is_exact name) picks.skips)

-- why filters and words leave a test out, each with whether it does
abbrev pub filter_reasons : Picks → ListedTest → Asked → List (Bool × List ℕ)
filter_reasons picks test asked =
    (test.is_ignored && leaves_ignored picks.run_ignored, codes "ignored")
    ∷ (not test.is_ignored && leaves_others picks.run_ignored, codes "not ignored")
    ∷ (not (is_named picks test.name), codes "string")
    ∷ (not asked.is_picked, codes "expression")
    ∷ (not asked.in_default && not picks.ignores_default_filter, codes "default-filter")
    ∷ []

-- why a test doesn't run, before partitions have a say: the list's own reason, else the first of these
abbrev pub reason_of_filters : Picks → AskedTest → Option (List ℕ)
reason_of_filters picks row = option_or row.0.2.left_out (first_that_holds (filter_reasons picks row.0.2 row.1))

-- a test that all else lets run and that isn't in the part is skipped for it
abbrev pub part_reason : Option (List ℕ) → Bool → Option (List ℕ)
part_reason (Some reason) is_in = Some reason
part_reason None true = None
part_reason None false = Some (codes "partition")
