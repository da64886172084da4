use Rattle.std.proofs.Common.{◌≡◌, ◌++◌, option_map}
use Rattle.serde_json.specs.View.{members_view}
use Rattle.run_plan.specs.TestList.{binaries_from}
use Rattle.run_plan.proofs.suites.binaries_in.Given as goal

abbrev pub invariant-loop-id : goal.invariant-loop-id
invariant-loop-id l =
    option_map (λ more. l.binaries ++ more) (binaries_from (members_view l.id-iterator))
    ≡ binaries_from (members_view l.members.entries)
