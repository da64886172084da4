-- The plan line of a rerun, by its text.
use Rattle.std.proofs.Common.{◌≡◌, ◌∙◌, ℕ, ◌≤◌, List, sym, ap, subst, Some, IsSome, false}
use Rattle.std.specs.Option.{option_and_then}
use Rattle.std.specs.Str.{IsUtf8}
use Rattle.std.proofs.lemmas.Str.{is_utf8-from_IsUtf8}
use Rattle.serde_json.specs.Data.{Data, depth}
use Rattle.serde_json.specs.Read.{read}
use Rattle.serde_json.specs.Written.{compact_text, has_float}
use Rattle.run_events.specs.declared.plan.Plan.{Plan}
use Rattle.run_events.specs.declared.plan.TestInstanceId.{TestInstanceId}
use Rattle.run_input.specs.Input.{plan_line_of}
use Rattle.run_input.specs.PlanLine.{plan_of}
use Rattle.run_input.specs.ValueOf.{json_value}
use Rattle.run_input.specs.declared.plan_line.RunnerKeys.{RunnerKeys}
use Rattle.run_rerun.specs.Made.{made, made_keys, made_plan}
use Rattle.run_rerun.proofs.PlanMadeLemmas.{plan_made}
use Rattle.run_rerun.proofs.ValueLemmas.{depth_made, plan_value, text_value, whole_made}

-- its text is that of the value that it is made of
pub text_made : (line text : List ℕ) (ids : List TestInstanceId) (d m : Data) → IsUtf8 line → read line ≡ Some d
    → IsSome (plan_line_of line) → m ≡ made ids d → (has_float m ≡ false → text ≡ compact_text m)
    → (x : Data) × (json_value line ≡ Some x) × (text ≡ compact_text (made ids x))
text_made line text ids d m utf8 is said made_is written =
    let value = plan_value line d (is_utf8-from_IsUtf8 line utf8) is said in
    (d, value.1, written (ap has_float made_is ∙ whole_made ids d value.0) ∙ ap compact_text made_is)

-- and it says the plan with its changes
pub line_made : (line text : List ℕ) (ids : List TestInstanceId) (d m : Data) → IsUtf8 line → read line ≡ Some d
    → depth d ≤ 127 → IsSome (plan_line_of line) → m ≡ made ids d → IsUtf8 text
    → (depth m ≤ 127 → read text ≡ Some m) → (keys : RunnerKeys) (plan : Plan)
    → plan_line_of line ≡ Some (keys, plan) → plan_line_of text ≡ Some (made_keys ids keys, made_plan ids plan)
line_made line text ids d m utf8 is shallow said made_is text_utf8 reads keys plan says =
    let value = plan_value line d (is_utf8-from_IsUtf8 line utf8) is said in
    let whole : has_float m ≡ false = ap has_float made_is ∙ whole_made ids d value.0 in
    let deep : depth m ≤ 127 = subst (λ x. depth x ≤ 127) (sym made_is) (depth_made ids d 124 shallow) in
    ap (option_and_then plan_of) (text_value text m (is_utf8-from_IsUtf8 text text_utf8) (reads deep) whole)
    ∙ ap plan_of made_is
    ∙ plan_made ids d keys plan (sym (ap (option_and_then plan_of) value.1) ∙ says)
