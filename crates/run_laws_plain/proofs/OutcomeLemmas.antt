-- What came of the child of an attempt.
use Rattle.std.proofs.Common.{◌≡◌, Bool, ◌||◌, List, [], ◌∷◌, ◌++◌, if◌then◌else◌, Option, Some, None, refl}
use Rattle.std.proofs.Common.{is_some, option_to_list}
use Rattle.run_capture.specs.declared.test_output.ChildFdError.{ChildFdError}
use Rattle.run_events.specs.Result.{execution_result}
use Rattle.run_events.specs.declared.result.ChildExit.{ChildExit}
use Rattle.run_events.specs.declared.result.ExecutionResult.TheVariants.{ExecFail}
use Rattle.run_events.specs.declared.result.LeakTimeoutResult.{LeakTimeoutResult}
use Rattle.run_laws_plain.specs.Any.{has_any}

-- a list has an item with one more, if there is one
pub any_more : {X : Type 0} (xs : List X) (o : Option X) → has_any (xs ++ option_to_list o) ≡ has_any xs || is_some o
any_more [] None = refl
any_more [] (Some x) = refl
any_more (x ∷ xs) o = refl

-- all errors come to the same
pub ended_as : (exit : Option ChildExit) (errors : List ChildFdError) (leaked : Bool) (leak : LeakTimeoutResult)
    → (if has_any errors then ExecFail else execution_result exit [] leaked leak)
    ≡ execution_result exit errors leaked leak
ended_as exit [] leaked leak = refl
ended_as None (error ∷ errors) leaked leak = refl
ended_as (Some exit) (error ∷ errors) leaked leak = refl
