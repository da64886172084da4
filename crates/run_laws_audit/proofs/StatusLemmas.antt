-- The text of a plain status is read back as what is compared of it.
use Rattle.std.proofs.Common.{◌≡◌, ℕ, ◌≤◌, List, [], ◌∷◌, ◌++◌, map, Option, Some, None}
use Rattle.std.proofs.Common.{option_map, option_and_then, refl, ap, ◌∙◌, arith, if◌then◌else◌, IfSome}
use Rattle.std.specs.List.{All}
use Rattle.std.proofs.lemmas.List.Elements.{All-head, All-tail}
use Rattle.serde_json.specs.Data.{Data, depth, items_depth, string}
use Rattle.serde_json.specs.Read.{max_depth, read}
use Rattle.serde_json.specs.View.{items_of}
use Rattle.serde_json.specs.Written.{compact_text}
use Rattle.run_capture.specs.declared.test_output.ChildOutput.TheVariants.{Split, Combined}
use Rattle.run_events.specs.declared.result.ChildExecutionOutput.{ChildExecutionOutput}
use Rattle.run_events.specs.declared.result.ChildExecutionOutput.TheVariants.{Output, StartError}
use Rattle.run_events.specs.declared.result.ExecuteStatus.{ExecuteStatus}
use Rattle.run_events.specs.declared.result.ScriptEnv.{ScriptEnv}
use Rattle.run_events.specs.declared.result.ScriptEnv.TheVariants.{Unread, Variables, Fault}
use Rattle.run_events.specs.declared.result.SetupScriptExecuteStatus.{SetupScriptExecuteStatus}
use Rattle.run_input.specs.ValueOf.{json_value, unless_float}
use Rattle.run_output.specs.Errors.{errors_data}
use Rattle.run_output.specs.Fields.{object_of, pair}
use Rattle.run_output.specs.Statuses.{attempt_fields, env_data, script_fields, script_status_data, status_data}
use Rattle.run_output.specs.Statuses.{stream_fields}
use Rattle.run_output.specs.Texts.{bytes_data}
use Rattle.run_text_laws.specs.Objects.{AreShallow}
use Rattle.run_text_laws.specs.Plain.{IsPlain, IsRead}
use Rattle.run_text_laws.proofs.ObjectLemmas.{has_fields}
use Rattle.run_text_laws.proofs.ReadLemmas.{all_read}
use Rattle.run_audit_model.specs.Seen.{script_status_text, attempt_text}
use Rattle.run_audit_model.specs.Statuses.{compared, compared_in}

-- data that is read back is the value of its line
value_read : (d : Data) → IsRead d → json_value (compact_text d) ≡ Some d
unfolding json_value
value_read d is =
    ap (λ b. if b then option_and_then unless_float (read (compact_text d)) else None) is.utf8
    ∙ ap (option_and_then unless_float) is.read
    ∙ ap (λ b. if b then None else Some d) is.whole

-- texts nest no deeper than their list
strings_shallow : (texts : List (List ℕ)) → items_depth (items_of (map string texts)) ≤ 0
strings_shallow [] = omega arith
strings_shallow (text ∷ texts) = omega (arith, strings_shallow texts)

pairs_shallow : (pairs : List (List ℕ × List ℕ)) → items_depth (items_of (map pair pairs)) ≤ 1
pairs_shallow [] = omega arith
pairs_shallow (first ∷ pairs) = omega (arith, pairs_shallow pairs)

errors_shallow : (errors : List (List ℕ)) → IfSome (errors_data errors) (λ d. depth d ≤ 2)
errors_shallow [] = tt
errors_shallow (error ∷ errors) = omega (arith, strings_shallow errors)

env_shallow : (env : ScriptEnv) → IfSome (env_data env) (λ d. depth d ≤ 2)
env_shallow Unread = tt
env_shallow (Variables pairs) = omega (arith, pairs_shallow pairs)
env_shallow (Fault fault) = tt

bytes_shallow : (bytes : Option (List ℕ)) → IfSome (option_map bytes_data bytes) (λ d. depth d ≤ 2)
bytes_shallow None = tt
bytes_shallow (Some bytes) = omega arith

streams_shallow : (output : ChildExecutionOutput) → AreShallow 2 (stream_fields output)
unfolding stream_fields
streams_shallow (Output (Split split) errors) = (bytes_shallow split.stderr, (bytes_shallow split.stdout, tt))
streams_shallow (Output (Combined output) errors) = (omega arith, tt)
streams_shallow (StartError error) = (omega arith, tt)

fields_shallow : (status : ExecuteStatus) → AreShallow 2 (attempt_fields status ++ stream_fields status.output)
unfolding attempt_fields
fields_shallow status = (
  omega arith,
  (
    omega arith,
    (
      omega arith,
      (
        errors_shallow _,
        (
          omega arith,
          (
            omega arith,
            (
              omega arith,
              (
                omega arith,
                streams_shallow status.output,
              ),
            ),
          ),
        ),
      ),
    ),
  ),
)

script_shallow : (status : SetupScriptExecuteStatus)
    → AreShallow 2 (script_fields status ++ stream_fields status.output)
unfolding script_fields
script_shallow status = (
  env_shallow status.env,
  (errors_shallow _, (omega arith, (omega arith, (omega arith, (omega arith, streams_shallow status.output))))),
)

-- so is the text of a plain object of shallow fields
object_read : (fields : List (List ℕ × Option Data)) → AreShallow 2 fields → IsPlain (object_of fields)
    → json_value (compact_text (object_of fields)) ≡ Some (object_of fields)
object_read fields shallow plain =
    let low : depth (object_of fields) ≤ 3 = (has_fields fields).shallow 2 shallow in
    let most : depth (object_of fields) ≤ max_depth = omega (arith, low) in
    value_read (object_of fields) (all_read (object_of fields) plain most)

-- and so is what is compared of the text of a status
pub status_read : (status : ExecuteStatus) → IsPlain (status_data status)
    → compared (attempt_text status) ≡ Some (compared_in (status_data status))
status_read status plain =
    ap (option_map compared_in)
    (object_read (attempt_fields status ++ stream_fields status.output) (fields_shallow status) plain)

pub script_read : (status : SetupScriptExecuteStatus) → IsPlain (script_status_data status)
    → compared (script_status_text status) ≡ Some (compared_in (script_status_data status))
script_read status plain =
    ap (option_map compared_in)
    (object_read (script_fields status ++ stream_fields status.output) (script_shallow status) plain)

pub statuses_read : (statuses : List ExecuteStatus) → All (λ status. IsPlain (status_data status)) statuses
    → map compared (map attempt_text statuses) ≡ map (λ status. Some (compared_in (status_data status))) statuses
statuses_read [] all = refl
statuses_read (status ∷ statuses) all =
    ap (λ c. c ∷ map compared (map attempt_text statuses))
    (status_read status (All-head (λ status. IsPlain (status_data status)) status statuses all))
    ∙ ap (λ cs. Some (compared_in (status_data status)) ∷ cs)
    (statuses_read statuses (All-tail (λ status. IsPlain (status_data status)) status statuses all))
