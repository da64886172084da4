-- What each status says, by how the program ended.
use Rattle.std.proofs.Common.{◌≡◌, ℕ, ◌<◌, ◌⊎◌, inl, inr, true, Result}
use Rattle.std.proofs.Common.{Ok, Err, refl, subst, arith}
use Rattle.run_events.specs.declared.outcome.RunOutcome.{RunOutcome}
use Rattle.run_events.specs.declared.outcome.RunOutcome.TheVariants as outcomes
use Rattle.run_events.specs.declared.outcome.RunStep.TheVariants as steps
use Rattle.run_output.specs.declared.fault.Fault.{Fault}
use Rattle.run_output.specs.declared.fault.Fault.TheVariants.{Words, Line, Plan as BadPlan, NotEnabled, ThirdSignal}
use Rattle.run_output.specs.declared.fault.Fault.TheVariants.{Unfinished, Report, Read, Memory, TooLong}
use Rattle.run_cli.specs.Call.{Call, Reading, HasReadFault, Writes}
use Rattle.run_cli.specs.Text.{fault_only, outcome_status, ending_status}
use Rattle.run_cli.specs.Given.{IsTooLong, IsWithin, CountsReadAtEnd}
use Rattle.run_cli.specs.Commands.{NamesCommand}
use Rattle.run_cli.specs.Ending.{IsEnding, WantsMemory}
use Rattle.run_cli.specs.Status.{IsOutcomeStatus, is_status, Headline, SaysBadLine, SaysBadPlan, SaysNotEnabled}
use Rattle.run_cli.specs.Status.{SaysThirdSignal, SaysUnfinished, SaysReport, Answers}
use Rattle.run_cli.proofs.CauseLemmas.{unread_gets, too_much_gets, bad_line_gets, course_gets}

-- an outcome's status is one
pub outcome_is : (o : RunOutcome) → IsOutcomeStatus (outcome_status o)
outcome_is outcomes.Success = inl refl
outcome_is outcomes.NoTestsRun = inr (inl refl)
outcome_is (outcomes.Failed steps.Test) = inr (inr (inl refl))
outcome_is (outcomes.Failed steps.SetupScript) = inr (inr (inr refl))
outcome_is (outcomes.Cancelled steps.Test) = inr (inr (inl refl))
outcome_is (outcomes.Cancelled steps.SetupScript) = inr (inr (inr refl))

-- no other status is an outcome's
pub apart : (n m : ℕ) → IsOutcomeStatus n → n ≡ m → IsOutcomeStatus m
apart n m h e = subst IsOutcomeStatus e h

no_outcome : (n : ℕ) → IsOutcomeStatus n → (0 < n) → (n < 4) → ⊥
no_outcome n (inl a) low high = omega arith
no_outcome n (inr (inl a)) low high = omega arith
no_outcome n (inr (inr (inl a))) low high = omega arith
no_outcome n (inr (inr (inr a))) low high = omega arith

pub no_outcome_above : (n : ℕ) → IsOutcomeStatus n → (4 < n) → (n < 100) → ⊥
no_outcome_above n (inl a) low high = omega arith
no_outcome_above n (inr (inl a)) low high = omega arith
no_outcome_above n (inr (inr (inl a))) low high = omega arith
no_outcome_above n (inr (inr (inr a))) low high = omega arith

-- every status is one of those known
pub status_known : (c : Call) (ending : Result RunOutcome Fault) → IsEnding c ending
    → is_status (ending_status ending) ≡ true
status_known c (Ok outcomes.Success) h = refl
status_known c (Ok outcomes.NoTestsRun) h = refl
status_known c (Ok (outcomes.Failed steps.Test)) h = refl
status_known c (Ok (outcomes.Failed steps.SetupScript)) h = refl
status_known c (Ok (outcomes.Cancelled steps.Test)) h = refl
status_known c (Ok (outcomes.Cancelled steps.SetupScript)) h = refl
status_known c (Err Words) h = refl
status_known c (Err (Line n)) h = refl
status_known c (Err (BadPlan f)) h = refl
status_known c (Err (NotEnabled n)) h = refl
status_known c (Err Unfinished) h = refl
status_known c (Err Report) h = refl
status_known c (Err Read) h = refl
status_known c (Err Memory) h = refl
status_known c (Err TooLong) h = refl
status_known c (Err (ThirdSignal n)) h = refl

-- an outcome's status comes from an outcome
pub headline_says : (c : Call) (ending : Result RunOutcome Fault)
    → IsEnding c ending → IsOutcomeStatus (ending_status ending)
    → Headline c (ending_status ending) × (c.sink.faults_after ≡ c.sink.faults)
headline_says c (Ok o) h s =
    (record { run = h.0; outcome = o; whole = h.1; written = h.2; status_is = refl }, h.3)
headline_says c (Err Words) h s = absurd (no_outcome 2 s (omega arith) (omega arith))
headline_says c (Err (Line n)) h s = absurd (no_outcome 3 s (omega arith) (omega arith))
headline_says c (Err (BadPlan f)) h s = absurd (no_outcome_above 5 s (omega arith) (omega arith))
headline_says c (Err (NotEnabled n)) h s = absurd (no_outcome_above 6 s (omega arith) (omega arith))
headline_says c (Err Unfinished) h s = absurd (no_outcome_above 8 s (omega arith) (omega arith))
headline_says c (Err Report) h s = absurd (no_outcome_above 9 s (omega arith) (omega arith))
headline_says c (Err Read) h s = absurd (no_outcome_above 10 s (omega arith) (omega arith))
headline_says c (Err Memory) h s = absurd (no_outcome_above 11 s (omega arith) (omega arith))
headline_says c (Err TooLong) h s = absurd (no_outcome_above 12 s (omega arith) (omega arith))
headline_says c (Err (ThirdSignal n)) h s = absurd (no_outcome_above 7 s (omega arith) (omega arith))

-- 2: the words
pub words_say : (c : Call) (ending : Result RunOutcome Fault)
    → IsEnding c ending → ending_status ending ≡ 2 → (¬ NamesCommand c.words) × Writes c.sink (fault_only Words)
words_say c (Ok o) h s = absurd (no_outcome 2 (apart _ 2 (outcome_is o) s) (omega arith) (omega arith))
words_say c (Err Words) h s = h
words_say c (Err (Line n)) h s = absurd (omega arith)
words_say c (Err (BadPlan f)) h s = absurd (omega arith)
words_say c (Err (NotEnabled n)) h s = absurd (omega arith)
words_say c (Err Unfinished) h s = absurd (omega arith)
words_say c (Err Report) h s = absurd (omega arith)
words_say c (Err Read) h s = absurd (omega arith)
words_say c (Err Memory) h s = absurd (omega arith)
words_say c (Err TooLong) h s = absurd (omega arith)
words_say c (Err (ThirdSignal n)) h s = absurd (omega arith)

-- and other words give no other status but that of wanting memory
pub no_words : (c : Call) (ending : Result RunOutcome Fault)
    → IsEnding c ending → ¬ NamesCommand c.words → (ending_status ending ≡ 2) ⊎ (ending_status ending ≡ 11)
no_words c (Ok o) h bad = absurd (bad (h.0.command, h.0.named))
no_words c (Err Words) h bad = inl refl
no_words c (Err (Line n)) h bad = absurd (bad h.0)
no_words c (Err (BadPlan f)) h bad = absurd (bad h.0)
no_words c (Err (NotEnabled n)) h bad = absurd (bad (h.0.command, h.0.named))
no_words c (Err Unfinished) h bad = absurd (bad (h.0.command, h.0.named))
no_words c (Err Report) h bad = absurd (bad (h.0.command, h.0.named))
no_words c (Err Read) h bad = absurd (bad h.0)
no_words c (Err Memory) h bad = inr refl
no_words c (Err TooLong) h bad = absurd (bad h.0)
no_words c (Err (ThirdSignal n)) h bad = absurd (bad (h.0.command, h.0.named))

-- 3: a bad line
pub line_says : (c : Call) (ending : Result RunOutcome Fault)
    → IsEnding c ending → ending_status ending ≡ 3 → SaysBadLine c
line_says c (Ok o) h s = absurd (no_outcome 3 (apart _ 3 (outcome_is o) s) (omega arith) (omega arith))
line_says c (Err Words) h s = absurd (omega arith)
line_says c (Err (Line n)) h s = (h.0, (n, h.1, h.2))
line_says c (Err (BadPlan f)) h s = absurd (omega arith)
line_says c (Err (NotEnabled n)) h s = absurd (omega arith)
line_says c (Err Unfinished) h s = absurd (omega arith)
line_says c (Err Report) h s = absurd (omega arith)
line_says c (Err Read) h s = absurd (omega arith)
line_says c (Err Memory) h s = absurd (omega arith)
line_says c (Err TooLong) h s = absurd (omega arith)
line_says c (Err (ThirdSignal n)) h s = absurd (omega arith)

-- 5: a plan that is refused
pub plan_says : (c : Call) (ending : Result RunOutcome Fault)
    → IsEnding c ending → ending_status ending ≡ 5 → SaysBadPlan c
plan_says c (Ok o) h s = absurd (no_outcome_above 5 (apart _ 5 (outcome_is o) s) (omega arith) (omega arith))
plan_says c (Err Words) h s = absurd (omega arith)
plan_says c (Err (Line n)) h s = absurd (omega arith)
plan_says c (Err (BadPlan f)) h s = (h.0, (f, h.1, h.2))
plan_says c (Err (NotEnabled n)) h s = absurd (omega arith)
plan_says c (Err Unfinished) h s = absurd (omega arith)
plan_says c (Err Report) h s = absurd (omega arith)
plan_says c (Err Read) h s = absurd (omega arith)
plan_says c (Err Memory) h s = absurd (omega arith)
plan_says c (Err TooLong) h s = absurd (omega arith)
plan_says c (Err (ThirdSignal n)) h s = absurd (omega arith)

-- 6: a turn that isn't enabled
pub not_enabled_says : (c : Call) (ending : Result RunOutcome Fault)
    → IsEnding c ending → ending_status ending ≡ 6 → SaysNotEnabled c
not_enabled_says c (Ok o) h s = absurd (no_outcome_above 6 (apart _ 6 (outcome_is o) s) (omega arith) (omega arith))
not_enabled_says c (Err Words) h s = absurd (omega arith)
not_enabled_says c (Err (Line n)) h s = absurd (omega arith)
not_enabled_says c (Err (BadPlan f)) h s = absurd (omega arith)
not_enabled_says c (Err (NotEnabled n)) h s = (n, h.0, h.1, h.2)
not_enabled_says c (Err Unfinished) h s = absurd (omega arith)
not_enabled_says c (Err Report) h s = absurd (omega arith)
not_enabled_says c (Err Read) h s = absurd (omega arith)
not_enabled_says c (Err Memory) h s = absurd (omega arith)
not_enabled_says c (Err TooLong) h s = absurd (omega arith)
not_enabled_says c (Err (ThirdSignal n)) h s = absurd (omega arith)

-- 7: a third signal
pub third_signal_says : (c : Call) (ending : Result RunOutcome Fault)
    → IsEnding c ending → ending_status ending ≡ 7 → SaysThirdSignal c
third_signal_says c (Ok o) h s = absurd (no_outcome_above 7 (apart _ 7 (outcome_is o) s) (omega arith) (omega arith))
third_signal_says c (Err Words) h s = absurd (omega arith)
third_signal_says c (Err (Line n)) h s = absurd (omega arith)
third_signal_says c (Err (BadPlan f)) h s = absurd (omega arith)
third_signal_says c (Err (NotEnabled n)) h s = absurd (omega arith)
third_signal_says c (Err (ThirdSignal n)) h s = (n, h.0, h.1, h.2)
third_signal_says c (Err Unfinished) h s = absurd (omega arith)
third_signal_says c (Err Report) h s = absurd (omega arith)
third_signal_says c (Err Read) h s = absurd (omega arith)
third_signal_says c (Err Memory) h s = absurd (omega arith)
third_signal_says c (Err TooLong) h s = absurd (omega arith)

-- 8: a run that isn't over
pub unfinished_says : (c : Call) (ending : Result RunOutcome Fault)
    → IsEnding c ending → ending_status ending ≡ 8 → SaysUnfinished c
unfinished_says c (Ok o) h s = absurd (no_outcome_above 8 (apart _ 8 (outcome_is o) s) (omega arith) (omega arith))
unfinished_says c (Err Words) h s = absurd (omega arith)
unfinished_says c (Err (Line n)) h s = absurd (omega arith)
unfinished_says c (Err (BadPlan f)) h s = absurd (omega arith)
unfinished_says c (Err (NotEnabled n)) h s = absurd (omega arith)
unfinished_says c (Err Unfinished) h s = h
unfinished_says c (Err Report) h s = absurd (omega arith)
unfinished_says c (Err Read) h s = absurd (omega arith)
unfinished_says c (Err Memory) h s = absurd (omega arith)
unfinished_says c (Err TooLong) h s = absurd (omega arith)
unfinished_says c (Err (ThirdSignal n)) h s = absurd (omega arith)

-- 9: a sink that failed
pub report_says : (c : Call) (ending : Result RunOutcome Fault)
    → IsEnding c ending → ending_status ending ≡ 9 → SaysReport c
report_says c (Ok o) h s = absurd (no_outcome_above 9 (apart _ 9 (outcome_is o) s) (omega arith) (omega arith))
report_says c (Err Words) h s = absurd (omega arith)
report_says c (Err (Line n)) h s = absurd (omega arith)
report_says c (Err (BadPlan f)) h s = absurd (omega arith)
report_says c (Err (NotEnabled n)) h s = absurd (omega arith)
report_says c (Err Unfinished) h s = absurd (omega arith)
report_says c (Err Report) h s = h
report_says c (Err Read) h s = absurd (omega arith)
report_says c (Err Memory) h s = absurd (omega arith)
report_says c (Err TooLong) h s = absurd (omega arith)
report_says c (Err (ThirdSignal n)) h s = absurd (omega arith)

-- 10: a source that failed
pub read_says : (c : Call) (ending : Result RunOutcome Fault)
    → IsEnding c ending → ending_status ending ≡ 10
    → NamesCommand c.words × IsWithin c.source × Writes c.sink (fault_only Read)
read_says c (Ok o) h s = absurd (no_outcome_above 10 (apart _ 10 (outcome_is o) s) (omega arith) (omega arith))
read_says c (Err Words) h s = absurd (omega arith)
read_says c (Err (Line n)) h s = absurd (omega arith)
read_says c (Err (BadPlan f)) h s = absurd (omega arith)
read_says c (Err (NotEnabled n)) h s = absurd (omega arith)
read_says c (Err Unfinished) h s = absurd (omega arith)
read_says c (Err Report) h s = absurd (omega arith)
read_says c (Err Read) h s = h
read_says c (Err Memory) h s = absurd (omega arith)
read_says c (Err TooLong) h s = absurd (omega arith)
read_says c (Err (ThirdSignal n)) h s = absurd (omega arith)

-- 12: an input that is too long
pub too_long_says : (c : Call) (ending : Result RunOutcome Fault)
    → IsEnding c ending → ending_status ending ≡ 12
    → NamesCommand c.words × IsTooLong c.source × Writes c.sink (fault_only TooLong)
too_long_says c (Ok o) h s = absurd (no_outcome_above 12 (apart _ 12 (outcome_is o) s) (omega arith) (omega arith))
too_long_says c (Err Words) h s = absurd (omega arith)
too_long_says c (Err (Line n)) h s = absurd (omega arith)
too_long_says c (Err (BadPlan f)) h s = absurd (omega arith)
too_long_says c (Err (NotEnabled n)) h s = absurd (omega arith)
too_long_says c (Err Unfinished) h s = absurd (omega arith)
too_long_says c (Err Report) h s = absurd (omega arith)
too_long_says c (Err Read) h s = absurd (omega arith)
too_long_says c (Err Memory) h s = absurd (omega arith)
too_long_says c (Err TooLong) h s = h
too_long_says c (Err (ThirdSignal n)) h s = absurd (omega arith)

-- 11: want of memory
pub memory_says : (c : Call) (ending : Result RunOutcome Fault)
    → IsEnding c ending → ending_status ending ≡ 11 → WantsMemory c
memory_says c (Ok o) h s = absurd (no_outcome_above 11 (apart _ 11 (outcome_is o) s) (omega arith) (omega arith))
memory_says c (Err Memory) h s = h
memory_says c (Err Words) h s = absurd (omega arith)
memory_says c (Err (Line n)) h s = absurd (omega arith)
memory_says c (Err (BadPlan f)) h s = absurd (omega arith)
memory_says c (Err (NotEnabled n)) h s = absurd (omega arith)
memory_says c (Err Unfinished) h s = absurd (omega arith)
memory_says c (Err Report) h s = absurd (omega arith)
memory_says c (Err Read) h s = absurd (omega arith)
memory_says c (Err TooLong) h s = absurd (omega arith)
memory_says c (Err (ThirdSignal n)) h s = absurd (omega arith)

-- the source's count rose where the status is 10
pub read_rose : (r : Reading) (ending : Result RunOutcome Fault) → CountsReadAtEnd r ending → ending_status ending ≡ 10
    → HasReadFault r
read_rose r (Ok o) h s = absurd (no_outcome_above 10 (apart _ 10 (outcome_is o) s) (omega arith) (omega arith))
read_rose r (Err Words) h s = absurd (omega arith)
read_rose r (Err (Line n)) h s = absurd (omega arith)
read_rose r (Err (BadPlan f)) h s = absurd (omega arith)
read_rose r (Err (NotEnabled n)) h s = absurd (omega arith)
read_rose r (Err Unfinished) h s = absurd (omega arith)
read_rose r (Err Report) h s = absurd (omega arith)
read_rose r (Err Read) h s = h
read_rose r (Err Memory) h s = absurd (omega arith)
read_rose r (Err TooLong) h s = absurd (omega arith)
read_rose r (Err (ThirdSignal n)) h s = absurd (omega arith)

-- and stayed where it is neither 10 nor 11
pub read_stayed : (r : Reading) (ending : Result RunOutcome Fault) → CountsReadAtEnd r ending
    → (ending_status ending ≡ 10 → ⊥)
    → (ending_status ending ≡ 11 → ⊥) → r.faults_after ≡ r.faults
read_stayed r (Ok o) h t m = h
read_stayed r (Err Words) h t m = h
read_stayed r (Err (Line n)) h t m = h
read_stayed r (Err (BadPlan f)) h t m = h
read_stayed r (Err (NotEnabled n)) h t m = h
read_stayed r (Err Unfinished) h t m = h
read_stayed r (Err Report) h t m = h
read_stayed r (Err Read) h t m = absurd (t refl)
read_stayed r (Err Memory) h t m = absurd (m refl)
read_stayed r (Err TooLong) h t m = h
read_stayed r (Err (ThirdSignal n)) h t m = h

-- so each end of the program has its answer
pub answers : (c : Call) (ending : Result RunOutcome Fault) → IsEnding c ending → CountsReadAtEnd c.source ending
    → Answers c (ending_status ending)
answers c ending h n = record {
  headline = λ s. (headline_says c ending h s).0;
  sound_sink = λ s. (headline_says c ending h s).1;
  words = words_say c ending h;
  no_words = no_words c ending h;
  line = line_says c ending h;
  plan = plan_says c ending h;
  not_enabled = not_enabled_says c ending h;
  third_signal = third_signal_says c ending h;
  unfinished = unfinished_says c ending h;
  report = report_says c ending h;
  read = λ s. (read_says c ending h s, read_rose c.source ending n s);
  memory = memory_says c ending h;
  sound_source = read_stayed c.source ending n;
  too_long = too_long_says c ending h;
  known = status_known c ending h;
  unread = unread_gets c.source ending n;
  too_much = too_much_gets c ending h n;
  bad_line = bad_line_gets c ending h n;
  course = course_gets c ending h n;
}
