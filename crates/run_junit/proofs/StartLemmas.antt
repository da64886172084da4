-- What is said where elements begin, in the tokens of a document.
use Rattle.std.proofs.Common.{◌≡◌, ℕ, Bool, true, false, if◌then◌else◌, List, [], ◌∷◌, ◌++◌, length, map}
use Rattle.std.proofs.Common.{Option, Some, None, refl, ap, ◌∙◌, arith, append-nil}
use Rattle.std.proofs.lemmas.List.Elements.{filter_map-append}
use Rattle.std.specs.List.{cons_option, flat_map}
use Rattle.run_capture.specs.declared.test_output.ChildOutput.{ChildOutput}
use Rattle.run_capture.specs.declared.test_output.ChildOutput.TheVariants.{Split, Combined}
use Rattle.run_commands.specs.Pair.{Pair}
use Rattle.run_events.specs.declared.message.ScriptFinish.{ScriptFinish}
use Rattle.run_events.specs.declared.message.TestFinish.{TestFinish}
use Rattle.run_events.specs.declared.result.ChildExecutionOutput.{ChildExecutionOutput}
use Rattle.run_events.specs.declared.result.ChildExecutionOutput.TheVariants.{Output, StartError}
use Rattle.run_events.specs.declared.result.ExecuteStatus.{ExecuteStatus}
use Rattle.run_events.specs.declared.result.ExecutionResult.TheVariants.{ExecFail}
use Rattle.run_events.specs.declared.result.ScriptEnv.{ScriptEnv}
use Rattle.run_events.specs.declared.result.ScriptEnv.TheVariants as envs
use Rattle.run_events.specs.Result.{is_success}
use Rattle.run_events.specs.Stats.{one_if}
use Rattle.run_junit.specs.declared.case.Ended.{Ended}
use Rattle.run_junit.specs.declared.case.Ended.TheVariants as ends
use Rattle.run_junit.specs.declared.reason.Fault.{Fault}
use Rattle.run_junit.specs.declared.reason.Fault.TheVariants as faults
use Rattle.run_junit.specs.declared.tag.Tag.{Tag}
use Rattle.run_junit.specs.declared.tag.Tag.TheVariants as tags
use Rattle.run_junit.specs.Cases.{attempt_attributes, attempt_tokens, case_end, case_start, ended_of, env_tokens}
use Rattle.run_junit.specs.Cases.{main_of, other_tag, other_tokens, others_by, others_tokens, output_tokens}
use Rattle.run_junit.specs.Cases.{reason_tokens, script_tokens, script_why, stream_tokens, streams_tokens, test_by}
use Rattle.run_junit.specs.Cases.{test_output, test_reason, test_tokens, variable_tokens, variables_tokens, why_tokens}
use Rattle.run_junit.specs.Reasons.{fault_by_result, fault_tag, type_said}
use Rattle.run_junit.specs.Laws.{finish_said, is_case, is_error_tag, is_failure_tag, said_in, attributes_at, test_said}
use Rattle.run_junit.specs.Suites.{Finish, case_tokens, fault_by, fault_counted, script}
use Rattle.run_junit.specs.Suites.{test}
use Rattle.run_junit.specs.Tokens.{Attribute, Token, end, line, start, written}

-- tags that stand outside of what an attempt wrote and of other attempts
pub record IsOuter (fits : Tag → Bool) : Type 0 where
  pub properties : fits tags.Properties ≡ false
  pub property : fits tags.Property ≡ false
  pub system_out : fits tags.SystemOut ≡ false
  pub system_err : fits tags.SystemErr ≡ false
  pub rerun_failure : fits tags.RerunFailure ≡ false
  pub rerun_error : fits tags.RerunError ≡ false
  pub flaky_failure : fits tags.FlakyFailure ≡ false
  pub flaky_error : fits tags.FlakyError ≡ false

pub starts-append : (fits : Tag → Bool) (xs ys : List Token)
    → attributes_at fits (xs ++ ys) ≡ attributes_at fits xs ++ attributes_at fits ys
starts-append fits xs ys = filter_map-append (said_in fits) xs ys

none_of_both : (fits : Tag → Bool) (xs ys : List Token) → attributes_at fits xs ≡ [] → attributes_at fits ys ≡ []
    → attributes_at fits (xs ++ ys) ≡ []
none_of_both fits xs ys p q =
    starts-append fits xs ys ∙ ap (λ ss. ss ++ attributes_at fits ys) p ∙ q

pub none_behind : (fits : Tag → Bool) (xs ys : List Token) → attributes_at fits ys ≡ []
    → attributes_at fits (xs ++ ys) ≡ attributes_at fits xs
none_behind fits xs ys q =
    starts-append fits xs ys ∙ ap (λ ss. attributes_at fits xs ++ ss) q ∙ append-nil (attributes_at fits xs)

pub none_before : (fits : Tag → Bool) (xs ys : List Token) → attributes_at fits xs ≡ []
    → attributes_at fits (xs ++ ys) ≡ attributes_at fits ys
none_before fits xs ys p = starts-append fits xs ys ∙ ap (λ ss. ss ++ attributes_at fits ys) p

-- an element that doesn't fit
pub unfit : (fits : Tag → Bool) (tag : Tag) (said : List Attribute) (rest : List Token) → fits tag ≡ false
    → attributes_at fits (start tag said ∷ rest) ≡ attributes_at fits rest
unfit fits tag said rest off =
    ap (λ (b : Bool). cons_option (if b then Some said else None) (attributes_at fits rest)) off

stream_none : (fits : Tag → Bool) (depth : ℕ) (tag : Tag) (o : Option (List ℕ)) → fits tag ≡ false
    → attributes_at fits (stream_tokens depth tag o) ≡ []
stream_none fits depth tag (Some bytes) off = unfit fits tag [] (written bytes ∷ end tag ∷ []) off
stream_none fits depth tag None off = refl

streams_none : (fits : Tag → Bool) (depth : ℕ) (output : ChildOutput) → IsOuter fits
    → attributes_at fits (streams_tokens depth output) ≡ []
streams_none fits depth (Split split) o =
    none_of_both fits (stream_tokens depth tags.SystemOut split.stdout)
    (stream_tokens depth tags.SystemErr split.stderr)
    (stream_none fits depth tags.SystemOut split.stdout o.system_out)
    (stream_none fits depth tags.SystemErr split.stderr o.system_err)
streams_none fits depth (Combined output) o = stream_none fits depth tags.SystemOut (Some output) o.system_out

output_none : (fits : Tag → Bool) (depth : ℕ) (child : ChildExecutionOutput) → IsOuter fits
    → attributes_at fits (output_tokens depth child) ≡ []
unfolding output_tokens
output_none fits depth (StartError text) o = refl
output_none fits depth (Output output errors) o = streams_none fits depth output o

other_off : (fits : Tag → Bool) (ended : Ended) (fault : Fault) → IsOuter fits → fits (other_tag ended fault) ≡ false
other_off fits ends.Passed faults.Failure o = o.flaky_failure
other_off fits ends.Passed faults.Error o = o.flaky_error
other_off fits ends.FlakyFailed faults.Failure o = o.rerun_failure
other_off fits ends.FlakyFailed faults.Error o = o.rerun_error
other_off fits ends.Failed faults.Failure o = o.rerun_failure
other_off fits ends.Failed faults.Error o = o.rerun_error

attempt_none : (fits : Tag → Bool) (started : Option ℕ) (tag : Tag) (status : ExecuteStatus) → IsOuter fits
    → fits tag ≡ false → attributes_at fits (attempt_tokens started tag status) ≡ []
attempt_none fits started tag status o off =
    unfit fits tag (attempt_attributes started status) (output_tokens 4 status.output ++ (line 3 ∷ end tag ∷ [])) off
    ∙ none_of_both fits (output_tokens 4 status.output) (line 3 ∷ end tag ∷ [])
    (output_none fits 4 status.output o) refl

none_unless : (fits : Tag → Bool) (b : Bool) (xs : List Token) → attributes_at fits xs ≡ []
    → attributes_at fits (if b then [] else xs) ≡ []
none_unless fits true xs none = refl
none_unless fits false xs none = none

others_none : (fits : Tag → Bool) (started : Option ℕ) (ended : Ended) (others : List ExecuteStatus) → IsOuter fits
    → attributes_at fits (others_tokens started ended others) ≡ []
unfolding others_tokens
others_none fits started ended [] o = refl
others_none fits started ended (s ∷ ss) o =
    none_of_both fits (other_tokens started ended s) (flat_map (other_tokens started ended) ss)
    (none_unless fits (is_success s.result) (attempt_tokens started (other_tag ended (fault_by_result s.result)) s)
    (attempt_none fits started (other_tag ended (fault_by_result s.result)) s o
    (other_off fits ended (fault_by_result s.result) o)))
    (others_none fits started ended ss o)

test_output_none : (fits : Tag → Bool) (ended : Ended) (main : ExecuteStatus) → IsOuter fits
    → attributes_at fits (test_output ended main) ≡ []
test_output_none fits ends.Passed main o = refl
test_output_none fits ends.FlakyFailed main o = output_none fits 3 main.output o
test_output_none fits ends.Failed main o = output_none fits 3 main.output o

-- what is said where a case begins, if it fits
abbrev pub said_if : Bool → List Attribute → List (List Attribute)
said_if b said = if b then said ∷ [] else []

option_if : (b : Bool) (said : List Attribute) → cons_option (if b then Some said else None) [] ≡ said_if b said
option_if true said = refl
option_if false said = refl

-- why a case of a test is none of a success
abbrev pub why_test : Ended → Option ExecuteStatus → List Token
why_test ended None = reason_tokens faults.Error [] (type_said ExecFail)
why_test ended (Some main) = test_reason ended main

-- a case of a test: its head, and why it is none of a success
test_starts : (fits : Tag → Bool) (started : Option ℕ) (f : TestFinish) (ended : Ended) (o : Option ExecuteStatus)
    → IsOuter fits → attributes_at fits (test_by started f ended o)
    ≡ said_if (fits tags.TestCase) (test_said started f o) ++ attributes_at fits (why_test ended o)
test_starts fits started f ended (Some main) outer =
    let head = case_start started f.test.id.name f.test.id.binary main.start main.time in
    let rest = others_tokens started ended (others_by ended f) ++ (test_output ended main ++ case_end) in
    let ends_none = none_of_both fits (test_output ended main) case_end (test_output_none fits ended main outer) refl in
    let none = none_of_both fits (others_tokens started ended (others_by ended f)) (test_output ended main ++ case_end)
    (others_none fits started ended (others_by ended f) outer) ends_none in
    starts-append fits head (test_reason ended main ++ rest)
    ∙ ap (λ ss. ss ++ attributes_at fits (test_reason ended main ++ rest))
    (option_if (fits tags.TestCase) (test_said started f (Some main)))
    ∙ ap (λ ss. said_if (fits tags.TestCase) (test_said started f (Some main)) ++ ss)
    (none_behind fits (test_reason ended main) rest none)
test_starts fits started f ended None outer =
    let head = case_start started f.test.id.name f.test.id.binary 0 0 in
    let why = reason_tokens faults.Error [] (type_said ExecFail) in
    starts-append fits head (why ++ case_end)
    ∙ ap (λ ss. ss ++ attributes_at fits (why ++ case_end))
    (option_if (fits tags.TestCase) (test_said started f None))
    ∙ ap (λ ss. said_if (fits tags.TestCase) (test_said started f None) ++ ss) (none_behind fits why case_end refl)

variables_none : (fits : Tag → Bool) (vs : List Pair) → IsOuter fits
    → attributes_at fits (flat_map variable_tokens vs) ≡ []
variables_none fits [] o = refl
variables_none fits (v ∷ vs) o =
    none_of_both fits (variable_tokens v) (flat_map variable_tokens vs)
    (unfit fits tags.Property _ (end tags.Property ∷ []) o.property) (variables_none fits vs o)

handed_none : (fits : Tag → Bool) (vs : List Pair) → IsOuter fits → attributes_at fits (variables_tokens vs) ≡ []
handed_none fits [] o = refl
handed_none fits (v ∷ vs) o =
    unfit fits tags.Properties [] (flat_map variable_tokens (v ∷ vs) ++ (line 3 ∷ end tags.Properties ∷ []))
    o.properties
    ∙ none_of_both fits (flat_map variable_tokens (v ∷ vs)) (line 3 ∷ end tags.Properties ∷ [])
    (variables_none fits (v ∷ vs) o) refl

env_none : (fits : Tag → Bool) (env : ScriptEnv) → IsOuter fits → attributes_at fits (env_tokens env) ≡ []
env_none fits envs.Unread o = refl
env_none fits (envs.Variables map) o = handed_none fits map o
env_none fits (envs.Fault fault) o = refl

-- why a case of a finish is none of a success
abbrev pub why_finish : Finish → List Token
why_finish (test f) = why_test (ended_of f) (main_of f)
why_finish (script f) = script_why f

-- a case: its head, and why it is none of a success
pub case_starts : (fits : Tag → Bool) (started : Option ℕ) (x : Finish) → IsOuter fits
    → attributes_at fits (case_tokens started x)
    ≡ said_if (fits tags.TestCase) (finish_said started x) ++ attributes_at fits (why_finish x)
unfolding test_tokens script_tokens
case_starts fits started (test f) o = test_starts fits started f (ended_of f) (main_of f) o
case_starts fits started (script f) o =
    let head = case_start started f.script.id f.script.id f.status.start f.status.time in
    let rest = script_why f ++ case_end in
    starts-append fits head (env_tokens f.status.env ++ rest)
    ∙ ap (λ ss. ss ++ attributes_at fits (env_tokens f.status.env ++ rest))
    (option_if (fits tags.TestCase) (finish_said started (script f)))
    ∙ ap (λ ss. said_if (fits tags.TestCase) (finish_said started (script f)) ++ ss)
    (none_before fits (env_tokens f.status.env) rest (env_none fits f.status.env o)
    ∙ none_behind fits (script_why f) case_end refl)

-- whether a fault fits
abbrev pub fault_fits : (Tag → Bool) → Option Fault → Bool
fault_fits fits (Some fault) = fits (fault_tag fault)
fault_fits fits None = false

one_said : (b : Bool) (said : List Attribute)
    → length (cons_option (if b then Some said else None) []) ≡ one_if b
one_said true said = refl
one_said false said = refl

reason_length : (fits : Tag → Bool) (fault : Fault) (message kind : List ℕ)
    → length (attributes_at fits (reason_tokens fault message kind)) ≡ one_if (fits (fault_tag fault))
reason_length fits fault message kind = one_said (fits (fault_tag fault)) _

test_length : (fits : Tag → Bool) (ended : Ended) (o : Option ExecuteStatus)
    → length (attributes_at fits (why_test ended o)) ≡ one_if (fault_fits fits (fault_by ended o))
test_length fits ended None = reason_length fits faults.Error _ _
test_length fits ends.Passed (Some main) = refl
test_length fits ends.FlakyFailed (Some main) = reason_length fits faults.Failure _ _
test_length fits ends.Failed (Some main) = reason_length fits (fault_by_result main.result) _ _

script_either : (fits : Tag → Bool) (b : Bool) (f : ScriptFinish) → IsOuter fits
    → length (attributes_at fits (if b then [] else why_tokens f.status.result f.status.output))
    ≡ one_if (fault_fits fits (if b then None else Some (fault_by_result f.status.result)))
script_either fits true f o = refl
script_either fits false f o =
    ap length (none_behind fits (reason_tokens (fault_by_result f.status.result) _ (type_said f.status.result))
    (output_tokens 3 f.status.output) (output_none fits 3 f.status.output o))
    ∙ reason_length fits (fault_by_result f.status.result) _ _

-- how many elements say why, by whether it is a fault
why_length : (fits : Tag → Bool) (x : Finish) → IsOuter fits
    → length (attributes_at fits (why_finish x)) ≡ one_if (fault_fits fits (fault_counted x))
why_length fits (test f) o = test_length fits (ended_of f) (main_of f)
why_length fits (script f) o = script_either fits (is_success f.status.result) f o

-- a case's elements of a fault
pub fault_length : (fits : Tag → Bool) (started : Option ℕ) (x : Finish) → IsOuter fits → fits tags.TestCase ≡ false
    → length (attributes_at fits (case_tokens started x)) ≡ one_if (fault_fits fits (fault_counted x))
fault_length fits started x o off =
    ap length (case_starts fits started x o)
    ∙ ap (λ (b : Bool). length (said_if b (finish_said started x) ++ attributes_at fits (why_finish x))) off
    ∙ why_length fits x o

pub case_outer : IsOuter is_case
case_outer = record {
  properties = refl;
  property = refl;
  system_out = refl;
  system_err = refl;
  rerun_failure = refl;
  rerun_error = refl;
  flaky_failure = refl;
  flaky_error = refl;
}

pub failure_outer : IsOuter is_failure_tag
failure_outer = record {
  properties = refl;
  property = refl;
  system_out = refl;
  system_err = refl;
  rerun_failure = refl;
  rerun_error = refl;
  flaky_failure = refl;
  flaky_error = refl;
}

pub error_outer : IsOuter is_error_tag
error_outer = record {
  properties = refl;
  property = refl;
  system_out = refl;
  system_err = refl;
  rerun_failure = refl;
  rerun_error = refl;
  flaky_failure = refl;
  flaky_error = refl;
}

none_of_case : (o : Option Fault) → fault_fits is_case o ≡ false
none_of_case None = refl
none_of_case (Some faults.Failure) = refl
none_of_case (Some faults.Error) = refl

no_length : {X : Type 0} (xs : List X) → length xs ≡ 0 → xs ≡ []
no_length [] e = refl
no_length (x ∷ xs) e = absurd (omega (arith, e))

-- a case is one element of a case
pub one_case : (started : Option ℕ) (x : Finish)
    → attributes_at is_case (case_tokens started x) ≡ finish_said started x ∷ []
one_case started x =
    case_starts is_case started x case_outer
    ∙ ap (λ ss. finish_said started x ∷ ss) (no_length (attributes_at is_case (why_finish x))
    (why_length is_case x case_outer ∙ ap one_if (none_of_case (fault_counted x))))
