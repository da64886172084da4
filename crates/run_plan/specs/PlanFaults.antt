-- Why there is no plan line.
use Rattle.std.specs.Prelude.{ℕ}
use Rattle.run_profile.specs.declared.errors.ProfileError.{ProfileError}
use Rattle.run_profile.specs.declared.errors.ProfileError.TheVariants as profiles
use Rattle.run_plan.specs.declared.filters.AskError.{AskError}
use Rattle.run_plan.specs.declared.filters.AskError.TheVariants as asks
use Rattle.run_plan.specs.declared.plan_fault.PlanFault.{PlanFault}
use Rattle.run_plan.specs.declared.plan_fault.PlanFault.TheVariants as faults

-- the status that a program ends with
abbrev pub plan_status : PlanFault → ℕ
plan_status (faults.List error) = 104
plan_status (faults.NotToml error) = 96
plan_status (faults.Profile path fault) = 96
plan_status (faults.ProfileFilter path place fault) = 96
plan_status faults.AsksItself = 96
plan_status (faults.Filter number place fault) = 94
plan_status faults.NeedsNewer = 92
plan_status faults.ScriptOrder = 96
plan_status faults.TooMany = 12
plan_status faults.TooLong = 12
plan_status faults.NoTests = 4
plan_status faults.OutOfMemory = 11

-- what filters, or a profile, are refused for
abbrev pub asked_fault : AskError → PlanFault
asked_fault (asks.OfProfile path place fault) = faults.ProfileFilter path place fault
asked_fault (asks.OfWords number place fault) = faults.Filter number place fault
asked_fault asks.AsksItself = faults.AsksItself
asked_fault asks.OutOfMemory = faults.OutOfMemory

abbrev pub profile_fault : ProfileError → PlanFault
profile_fault (profiles.Refused path fault) = faults.Profile path fault
profile_fault profiles.OutOfMemory = faults.OutOfMemory
