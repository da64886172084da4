-- What a reader answers of the value of a line, and what it may refuse first.
use Rattle.std.proofs.Common.{◌≡◌, ℕ, List, Bool, true, false, Option, Some, None, Result, Ok, Err, refl, ◌⊎◌, inl, inr}
use Rattle.std.proofs.Common.{option_and_then, codes}
use Rattle.std.specs.Str.{IsUtf8}
use Rattle.serde_json.specs.Data.{Data}
use Rattle.serde_json.specs.Find.{get}
use Rattle.serde_json.specs.Read.{read}
use Rattle.serde_json.specs.Written.{has_float}
use Rattle.run_events.specs.declared.plan.Plan.{Plan}
use Rattle.run_input.specs.Fields.{or_usual, when, is_object_of}
use Rattle.run_input.specs.PlanLine.{plan_of, plan_alone_of, plan_names, keys_of, plan_version_of}
use Rattle.run_input.specs.ReadsValue.{ReadsValue}
use Rattle.run_input.specs.ValueOf.{json_value}
use Rattle.run_input.specs.declared.errors.LineError.{LineError}
use Rattle.run_input.specs.declared.errors.LineError.TheVariants as errors
use Rattle.run_input.specs.declared.plan_line.RunnerKeys.{RunnerKeys}
use Rattle.run_input.proofs.ValueLemmas.{value_of-read, value_of-float}

-- any refusal fits where there is no value
refused_none : {X : Type 0} (result : Result X LineError)
    → (result ≡ Err errors.NotInTable) ⊎ (result ≡ Err errors.OutOfMemory) → ReadsValue result None
refused_none result (inl e) = rw e refl
refused_none result (inr e) = rw e tt

-- what a reader says of a value is what it says of the line of that value, where a float refuses it
pub reads_line : {X : Type 0} (line : List ℕ) (d : Data) (f : Data → Option X) (said result : Result X LineError)
    → IsUtf8 line → read line ≡ Some d → ReadsValue said (f d) → (has_float d ≡ false → result ≡ said)
    → (has_float d ≡ true → (result ≡ Err errors.NotInTable) ⊎ (result ≡ Err errors.OutOfMemory))
    → ReadsValue result (option_and_then f (json_value line))
reads_line {X} line d f said result utf8 reads says plain float = by (has_float d) refl
  where
    by : (b : Bool) → has_float d ≡ b → ReadsValue result (option_and_then f (json_value line))
    by false e = rw (value_of-read line d utf8 reads e, plain e) says
    by true e = rw (value_of-float line d utf8 reads e) (refused_none result (float e))

-- without a plan there is no plan line
no_plan : (b : Option (Unit {0})) (k : Option RunnerKeys) (p : Option Plan) → p ≡ None
    → option_and_then {U = RunnerKeys × Plan} (λ _. option_and_then {U = RunnerKeys × Plan}
    (λ keys. option_and_then {U = RunnerKeys × Plan} (λ plan. Some (keys, plan)) p) k) b ≡ None
no_plan None k p none = refl
no_plan (Some _) None p none = refl
no_plan (Some _) (Some keys) p none = rw none refl

-- a plan of no known version is none
alone_none : (d : Data) → or_usual 1 plan_version_of (get (codes "version") d) ≡ None → plan_alone_of d ≡ None
alone_none d e = rw e refl

no_version : (d : Data) → or_usual 1 plan_version_of (get (codes "version") d) ≡ None → plan_of d ≡ None
unfolding plan_of
no_version d e = no_plan (when (is_object_of plan_names d)) (keys_of d) (plan_alone_of d) (alone_none d e)

-- so a plan line may be refused for its version first
pub refused_version : (d : Data) (e : LineError)
    → ReadsValue {X = ℕ} (Err e) (or_usual 1 plan_version_of (get (codes "version") d))
    → ReadsValue {X = RunnerKeys × Plan} (Err e) (plan_of d)
refused_version d errors.NotInTable none = no_version d none
refused_version d errors.OutOfMemory none = tt
