-- What parts of a call answer, as the whole does.
use Rattle.std.proofs.Common.{◌≡◌, ◌∙◌, ℕ, ◌+◌, ◌<◌, ◌&&◌, Bool, true, false, List, length, map, nat_le, Option, Err}
use Rattle.std.proofs.Common.{arith, leb-true, refl}
use Rattle.std.proofs.lemmas.List.{length-map}
use Rattle.run_profile.specs.declared.levels.Project.{Project}
use Rattle.run_profile.specs.declared.scripts.SetupScript.{SetupScript}
use Rattle.run_plan.specs.Asks.{IsAskError}
use Rattle.run_plan.specs.Calls.{AnswersProject}
use Rattle.run_plan.specs.Listed.{AskedTest}
use Rattle.run_plan.specs.PlanFaults.{asked_fault}
use Rattle.run_plan.specs.PlanSaid.{fits_plan}
use Rattle.run_plan.specs.Planned.{planned}
use Rattle.run_plan.specs.Scripted.{plan_script}
use Rattle.run_plan.specs.declared.asked.Call.{Call}
use Rattle.run_plan.specs.declared.choices.Choices.{Choices}
use Rattle.run_plan.specs.declared.filters.AskError.{AskError}
use Rattle.run_plan.specs.declared.filters.AskError.TheVariants as asks
use Rattle.run_plan.specs.declared.test_list.TestList.{TestList}

-- what filters are refused for, the project is
pub asks_answered : (config : Option (List ℕ)) (list : TestList) (project : Project) (choices : Choices) (call : Call)
    (error : AskError) → IsAskError project.profile choices.picks error
    → AnswersProject (Err (asked_fault error)) config list project choices call
asks_answered config list project choices call (asks.OfProfile path place fault) h = h
asks_answered config list project choices call (asks.OfWords number place fault) h = h
asks_answered config list project choices call asks.AsksItself h = h
asks_answered config list project choices call asks.OutOfMemory h = tt

no_more : (a m : ℕ) (b : Bool) → nat_le a m ≡ b → m < a → nat_le a m ≡ false
no_more a m true e h = absurd (omega (arith, leb-true a m e, h))
no_more a m false e h = e

neither : (x y : Bool) → y ≡ false → (x && y) ≡ false
neither true y e = e
neither false y e = refl

many_made : (list : TestList) (id : List ℕ) (used : List SetupScript) (m n : ℕ) → m < length used
    → m < length (map (plan_script list id) used) + n
many_made list id used m n h = rw length-map (omega (arith, h))

-- a plan of too many scripts doesn't fit
pub too_many : (list : TestList) (project : Project) (choices : Choices) (call : Call) (rows : List AskedTest)
    (used : List SetupScript) → 4294967295 < length used
    → fits_plan (planned list project choices call rows used) ≡ false
unfolding planned
too_many list project choices call rows used h =
    neither _ _ (no_more _ 4294967295 _ refl (many_made list call.run_id used 4294967295 _ h))
