-- Statuses whose numbers have 64 bits and whose texts are UTF-8 are plain.
use Rattle.std.proofs.Common.{ℕ, ◌<◌, ◌^◌, ℤ, pos, negsuc, List, [], ◌∷◌, ◌++◌, map, Bool, true, false, Option, Some}
use Rattle.std.proofs.Common.{None}
use Rattle.std.proofs.Common.{◌≡◌, ◌≤◌, ◌+◌, length, take, get_or, subst, codes, option_map, ltb-true, refl, arith}
use Rattle.std.proofs.Common.{IsUtf8, IfSome, FitsSigned, w32}
use Rattle.std.specs.List.{All}
use Rattle.std.specs.Fmt.{signed_decimal}
use Rattle.std.specs.Str.{IsAscii}
use Rattle.std.proofs.lemmas.Bool.{and_parts}
use Rattle.std.proofs.lemmas.Fmt.{IsAscii-signed}
use Rattle.std.proofs.lemmas.List.Elements.{All-nil, All-cons, All-append, All-head, All-map, All-more, All-tail}
use Rattle.std.proofs.lemmas.List.{take_all}
use Rattle.std.proofs.lemmas.Str.{IsUtf8-append, IsUtf8-from_ascii, IsUtf8-nil}
use Rattle.std.proofs.lemmas.Str.Ascii.{IsAscii-nil, IsAscii-cons}
use Rattle.json.proofs.Printed.Utf8.{are_ascii, IsUtf8-are_ascii}
use Rattle.hex.specs.Hex.{encode_lower, lower_digits}
use Rattle.hex.proofs.HexLemmas.{IsAscii-encode_with}
use Rattle.run_capture.specs.declared.test_output.ChildFdError.{ChildFdError}
use Rattle.run_capture.specs.declared.test_output.ChildFdError.TheVariants.{ReadStdout, ReadStderr, ReadCombined, Wait}
use Rattle.run_capture.specs.declared.test_output.ChildOutput.{ChildOutput}
use Rattle.run_capture.specs.declared.test_output.ChildOutput.TheVariants.{Split, Combined}
use Rattle.run_commands.specs.declared.errors.SetupScriptOutputError.{SetupScriptOutputError}
use Rattle.run_commands.specs.declared.errors.SetupScriptOutputError.TheVariants.{EnvFileRead, EnvFileParse}
use Rattle.run_commands.specs.declared.errors.SetupScriptOutputError.TheVariants.{EnvFileInvalidKey, EnvFileTooLong}
use Rattle.run_commands.specs.declared.errors.SetupScriptOutputError.TheVariants.{EnvFileOpen, OutOfMemory}
use Rattle.run_events.specs.declared.result.ChildExecutionOutput.{ChildExecutionOutput}
use Rattle.run_events.specs.declared.result.ChildExecutionOutput.TheVariants.{Output, StartError}
use Rattle.run_events.specs.declared.result.ExecuteStatus.{ExecuteStatus}
use Rattle.run_events.specs.declared.result.ExecutionResult.{ExecutionResult}
use Rattle.run_events.specs.declared.result.ExecutionResult.TheVariants.{Pass, Leak, Fail, ExecFail, Timeout}
use Rattle.run_events.specs.declared.result.FailureStatus.TheVariants.{ExitCode, Abort}
use Rattle.run_events.specs.declared.result.LeakTimeoutResult.TheVariants as leak
use Rattle.run_events.specs.declared.result.SlowTimeoutResult.TheVariants as slow
use Rattle.run_events.specs.declared.result.ScriptEnv.{ScriptEnv}
use Rattle.run_events.specs.declared.result.ScriptEnv.TheVariants.{Unread, Variables, Fault}
use Rattle.run_events.specs.declared.result.SetupScriptExecuteStatus.{SetupScriptExecuteStatus}
use Rattle.serde_json.specs.Data.{Data, boolean, string}
use Rattle.serde_json.specs.View.{items_of}
use Rattle.run_output.specs.Errors.{child_errors, env_fault_text, error_text, errors_data, fault_errors}
use Rattle.run_output.specs.Fields.{count, pair}
use Rattle.run_output.specs.Statuses.{attempt_fields, env_data, fault_of, script_fields, script_status_data}
use Rattle.run_output.specs.Statuses.{status_data}
use Rattle.run_output.specs.Statuses.{stream_fields}
use Rattle.run_output.specs.Texts.{bytes_data, leaked_text, result_text}
use Rattle.run_text_laws.specs.Objects.{ArePlainFields}
use Rattle.run_text_laws.specs.Plain.{ArePlain, IsPlain}
use Rattle.run_text_laws.proofs.ObjectLemmas.{has_fields}
use Rattle.run_laws_audit.specs.Plain.{IsPlainEnv, IsPlainResult}

-- a word of ASCII letters
abbrev said : (word : List ℕ) → are_ascii word ≡ true → IsUtf8 word
said word e = IsUtf8-are_ascii word e

-- one more, and all, of a list that is gone through
pub one_more : {X : Type 0} (P : X → Type 0) (xs : List X) (i : ℕ) (x : X) → i < length xs → x ≡ get_or xs i x
    → All P (take i xs) → P x → All P (take (i + 1) xs)
one_more P xs i x below is all own = All-more P xs i x below all (subst P is own)

pub all_gone : {X : Type 0} (P : X → Type 0) (xs : List X) (i : ℕ) → length xs ≤ i → All P (take i xs) → All P xs
all_gone P xs i whole all = subst (All P) (take_all i xs whole) all

-- digits, with a sign
pub signed_utf8 : (z : ℤ) → FitsSigned w32 z → IsUtf8 (signed_decimal z)
signed_utf8 (pos n) h =
    let low : n < 2 ^ 31 = h.sfits in
    IsUtf8-from_ascii (signed_decimal (pos n)) (IsAscii-signed (pos n) (omega (arith, low)))
signed_utf8 (negsuc n) h =
    let low : n < 2 ^ 31 = h.sfits in
    IsUtf8-from_ascii (signed_decimal (negsuc n)) (IsAscii-signed (negsuc n) (omega (arith, low)))

-- the words for a result
leaked_utf8 : (leaked : Bool) → IsUtf8 (leaked_text leaked)
leaked_utf8 true = said (codes " leaked") refl
leaked_utf8 false = IsUtf8-nil

after_word : (word : List ℕ) (n : ℤ) (leaked : Bool) → are_ascii word ≡ true → FitsSigned w32 n
    → IsUtf8 (word ++ (signed_decimal n ++ leaked_text leaked))
after_word word n leaked ascii fits =
    IsUtf8-append word (signed_decimal n ++ leaked_text leaked) (said word ascii)
    (IsUtf8-append (signed_decimal n) (leaked_text leaked) (signed_utf8 n fits) (leaked_utf8 leaked))

result_utf8 : (r : ExecutionResult) → IsPlainResult r → IsUtf8 (result_text r)
unfolding result_text
result_utf8 Pass h = said (codes "pass") refl
result_utf8 (Leak leak.Pass) h = said (codes "leak-pass") refl
result_utf8 (Leak leak.Fail) h = said (codes "leak-fail") refl
result_utf8 (Fail (ExitCode code) leaked) h = after_word (codes "fail code ") code leaked refl h
result_utf8 (Fail (Abort signal) leaked) h = after_word (codes "fail signal ") signal leaked refl h
result_utf8 ExecFail h = said (codes "exec-fail") refl
result_utf8 (Timeout slow.Pass) h = said (codes "timeout-pass") refl
result_utf8 (Timeout slow.Fail) h = said (codes "timeout-fail") refl

-- an error of a child
pub error_utf8 : (word text : List ℕ) → are_ascii word ≡ true → IsUtf8 text → IsUtf8 (word ++ text)
error_utf8 word text ascii h = IsUtf8-append word text (said word ascii) h

abbrev text_in : ChildFdError → List ℕ
text_in (ReadStdout text) = text
text_in (ReadStderr text) = text
text_in (ReadCombined text) = text
text_in (Wait text) = text

pub child_error_utf8 : (error : ChildFdError) → IsUtf8 (text_in error) → IsUtf8 (error_text error)
unfolding error_text
child_error_utf8 (ReadStdout text) h = error_utf8 (codes "stdout: ") text refl h
child_error_utf8 (ReadStderr text) h = error_utf8 (codes "stderr: ") text refl h
child_error_utf8 (ReadCombined text) h = error_utf8 (codes "combined: ") text refl h
child_error_utf8 (Wait text) h = error_utf8 (codes "wait: ") text refl h

-- that of an environment file
fault_utf8 : (fault : SetupScriptOutputError) → IsUtf8 (env_fault_text fault)
unfolding env_fault_text
fault_utf8 EnvFileOpen = said (codes "env: open") refl
fault_utf8 (EnvFileRead line) = said (codes "env: read") refl
fault_utf8 EnvFileTooLong = said (codes "env: read") refl
fault_utf8 OutOfMemory = said (codes "env: read") refl
fault_utf8 (EnvFileParse line) = said (codes "env: parse") refl
fault_utf8 (EnvFileInvalidKey line) = said (codes "env: key") refl

faults_utf8 : (fault : Option SetupScriptOutputError) → All IsUtf8 (fault_errors fault)
faults_utf8 None = All-nil IsUtf8
faults_utf8 (Some fault) = All-cons IsUtf8 (env_fault_text fault) [] (fault_utf8 fault) (All-nil IsUtf8)

-- errors
strings_plain : (texts : List (List ℕ)) → All IsUtf8 texts → ArePlain (items_of (map string texts))
strings_plain [] all = tt
strings_plain (text ∷ texts) all =
    (All-head IsUtf8 text texts all, strings_plain texts (All-tail IsUtf8 text texts all))

errors_plain : (errors : List (List ℕ)) → All IsUtf8 errors → IfSome (errors_data errors) IsPlain
errors_plain [] all = tt
errors_plain (error ∷ errors) all = strings_plain (error ∷ errors) all

pub child_errors_utf8 : (errors : List ChildFdError) → All (λ error. IsUtf8 (error_text error)) errors
    → All IsUtf8 (map error_text errors)
child_errors_utf8 errors all = All-map IsUtf8 error_text errors all

-- what was written
ascii_text : (text : List ℕ) → are_ascii text ≡ true → IsAscii text
ascii_text [] e = IsAscii-nil
ascii_text (c ∷ text) e =
    let parts = and_parts _ _ e in IsAscii-cons c text (ltb-true _ _ parts.0) (ascii_text text parts.1)

hex_utf8 : (bytes : List ℕ) → IsUtf8 (encode_lower bytes)
hex_utf8 bytes =
    IsUtf8-from_ascii (encode_lower bytes) (IsAscii-encode_with lower_digits bytes (ascii_text lower_digits refl))

bytes_plain : (bytes : Option (List ℕ)) → IfSome (option_map bytes_data bytes) IsPlain
bytes_plain None = tt
bytes_plain (Some bytes) = hex_utf8 bytes

pub output_plain : (output : ChildOutput) (errors : List ChildFdError)
    → ArePlainFields (stream_fields (Output output errors))
unfolding stream_fields
output_plain (Split split) errors =
    (said (codes "stderr") refl, bytes_plain split.stderr, (said (codes "stdout") refl, bytes_plain split.stdout, tt))
output_plain (Combined output) errors = (said (codes "combined") refl, hex_utf8 output, tt)

pub start_error_plain : (error : List ℕ) → IsUtf8 error → ArePlainFields (stream_fields (StartError error))
unfolding stream_fields
start_error_plain error h = (said (codes "start_error") refl, h, tt)

-- variables
pairs_plain : (pairs : List (List ℕ × List ℕ)) → All (λ two. IsUtf8 two.0 × IsUtf8 two.1) pairs
    → ArePlain (items_of (map pair pairs))
pairs_plain [] all = tt
pairs_plain (two ∷ pairs) all =
    let own = All-head (λ two. IsUtf8 two.0 × IsUtf8 two.1) two pairs all in
    ((own.0, (own.1, tt)), pairs_plain pairs (All-tail (λ two. IsUtf8 two.0 × IsUtf8 two.1) two pairs all))

env_plain : (env : ScriptEnv) → IsPlainEnv env → IfSome (env_data env) IsPlain
env_plain Unread h = tt
env_plain (Variables pairs) h = pairs_plain pairs h
env_plain (Fault fault) h = tt

-- fields of one object
joined_plain : (fields more : List (List ℕ × Option Data)) → ArePlainFields fields → ArePlainFields more
    → ArePlainFields (fields ++ more)
joined_plain [] more h others = others
joined_plain (field ∷ fields) more h others = (h.0, h.1, joined_plain fields more h.2 others)

-- so an attempt is plain
pub status_plain : (status : ExecuteStatus) → status.attempt < 2 ^ 64 → status.attempts < 2 ^ 64
    → status.delay < 2 ^ 64 → status.start < 2 ^ 64 → status.time < 2 ^ 64 → IsPlainResult status.result
    → ArePlainFields (stream_fields status.output) → All IsUtf8 (child_errors status.output)
    → IsPlain (status_data status)
unfolding attempt_fields
status_plain status attempt attempts delay start time outcome streams errors =
    (has_fields (attempt_fields status ++ stream_fields status.output)).plain
    (joined_plain (attempt_fields status) (stream_fields status.output) own streams)
  where
    own : ArePlainFields (attempt_fields status)
    own =
        let times : ArePlainFields ((codes "slow", Some (boolean status.slow)) ∷ (
          codes "start",
          Some (count
              status.start),
        )
        ∷ (codes "time", Some (count status.time)) ∷ []) =
        (said (codes "slow") refl, tt, (said (codes "start") refl, start, (said (codes "time") refl, time, tt))) in
        let ends : ArePlainFields ((codes "errors", errors_data (child_errors status.output))
        ∷ (codes "result", Some (string (result_text status.result))) ∷ (codes "slow", Some (boolean status.slow))
        ∷ (codes "start", Some (count status.start)) ∷ (codes "time", Some (count status.time)) ∷ []) = (
          said (codes "errors") refl,
          errors_plain (child_errors status.output) errors,
          (said (codes "result") refl, result_utf8 status.result outcome, times),
        ) in (
          said (codes "attempt") refl,
          attempt,
          (said (codes "attempts") refl, attempts, (said (codes "delay") refl, delay, ends)),
        )

pub script_status_plain : (status : SetupScriptExecuteStatus) → status.start < 2 ^ 64 → status.time < 2 ^ 64
    → IsPlainResult status.result → ArePlainFields (stream_fields status.output)
    → All IsUtf8 (child_errors status.output) → IsPlainEnv status.env → IsPlain (script_status_data status)
unfolding script_fields
script_status_plain status start time outcome streams errors env =
    (has_fields (script_fields status ++ stream_fields status.output)).plain
    (joined_plain (script_fields status) (stream_fields status.output) own streams)
  where
    own : ArePlainFields (script_fields status)
    own =
        let times : ArePlainFields ((codes "slow", Some (boolean status.slow)) ∷ (
          codes "start",
          Some (count
              status.start),
        )
        ∷ (codes "time", Some (count status.time)) ∷ []) =
        (said (codes "slow") refl, tt, (said (codes "start") refl, start, (said (codes "time") refl, time, tt))) in (
          said (codes "env") refl,
          env_plain status.env env,
          (
            said (codes "errors") refl,
            errors_plain (child_errors status.output ++ fault_errors (fault_of status.env))
                (All-append IsUtf8 (child_errors status.output) (fault_errors (fault_of status.env)) errors
                (faults_utf8 (fault_of status.env))),
            (said (codes "result") refl, result_utf8 status.result outcome, times),
          ),
        )
