-- What the line of a plan answers.
use Rattle.std.specs.Prelude.{ℕ, ◌≡◌, ◌<◌, ◌≤◌, ◌+◌, ◌&&◌, Bool, true, false, List, length, nat_le, is_none, Some}
use Rattle.std.specs.Prelude.{Result, Ok, Err, ⊤}
use Rattle.std.specs.List.{list_any}
use Rattle.run_events.specs.declared.plan.PlanTest.{PlanTest}
use Rattle.run_input.specs.Input.{plan_line_of}
use Rattle.run_plan_line.specs.PlanFields.{plan_text}
use Rattle.run_plan_line.specs.SaidPlan.{said_keys, said_plan}
use Rattle.run_plan_line.specs.declared.said.SaidPlan.{SaidPlan}
use Rattle.run_plan.specs.declared.plan_fault.PlanFault.{PlanFault}
use Rattle.run_plan.specs.declared.plan_fault.PlanFault.TheVariants as faults

-- its groups, and its scripts and tests, are fewer than 2^32
abbrev pub fits_plan : SaidPlan → Bool
fits_plan plan =
    nat_le (length plan.groups) 4294967295 && nat_le (length plan.scripts + length plan.tests) 4294967295

-- some test isn't skipped
abbrev pub runs_any : SaidPlan → Bool
runs_any plan = list_any (λ (test : PlanTest). is_none test.skip) plan.tests

-- the line of the plan, of at most 16,777,216 bytes, which is read as the plan, and of which some test runs
pub record IsLineOfPlan (text : List ℕ) (plan : SaidPlan) : Type 0 where
  pub is : text ≡ plan_text plan
  pub says : plan_line_of text ≡ Some (said_keys plan, said_plan plan)
  pub short : length text ≤ 16777216
  pub runs : runs_any plan ≡ true

-- or why there is none
abbrev pub AnswersPlan : Result (List ℕ) PlanFault → SaidPlan → Type 0
AnswersPlan (Ok text) plan = IsLineOfPlan text plan
AnswersPlan (Err faults.TooMany) plan = fits_plan plan ≡ false
AnswersPlan (Err faults.TooLong) plan = 16777216 < length (plan_text plan)
AnswersPlan (Err faults.NoTests) plan = runs_any plan ≡ false
AnswersPlan (Err faults.OutOfMemory) plan = ⊤
AnswersPlan (Err _) plan = ⊥
