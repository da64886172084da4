use Rattle.std.proofs.Common.{◌≡◌, ◌++◌, option_map}
use Rattle.serde_json.specs.View.{members_view}
use Rattle.run_plan.specs.TestList.{tests_read}
use Rattle.run_plan.proofs.testcases.tests_in.Given as goal

abbrev pub invariant-loop-name : goal.invariant-loop-name
invariant-loop-name l =
    option_map (λ more. l.tests ++ more) (tests_read (members_view l.name-iterator))
    ≡ tests_read (members_view l.members.entries)
