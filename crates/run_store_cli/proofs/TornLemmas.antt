-- How the turns of a torn store end.
use Rattle.std.proofs.Common.{◌≡◌, ◌∙◌, ℕ, ◌≤◌, inl, inr, List, [], ◌++◌, length, true, Option, Some}
use Rattle.std.proofs.Common.{None, Result, Ok, Err, is_none, refl, sym, ap, subst, arith}
use Rattle.run_capture.specs.Faults.{Rose}
use Rattle.run_capture.specs.declared.source.Failed.{Failed}
use Rattle.run_events.specs.declared.plan.Plan.{Plan}
use Rattle.run_events.specs.declared.settings.Settings.{Settings}
use Rattle.run_events.specs.declared.turn.Turn.{Turn}
use Rattle.run_events.specs.declared.ask.Ask.{Ask}
use Rattle.run_events.specs.declared.outcome.RunOutcome.{RunOutcome}
use Rattle.run_input.specs.declared.plan_line.RunnerKeys.{RunnerKeys}
use Rattle.run_laws.specs.Course.{turns_of}
use Rattle.run_engine.specs.Builder.{IsBuilt}
use Rattle.run_engine.specs.declared.errors.TestRunnerBuildError.{TestRunnerBuildError}
use Rattle.run_engine.specs.declared.errors.TestRunnerBuildError.TheVariants as build
use Rattle.run_engine.specs.declared.errors.TestRunnerExecuteErrors.{TestRunnerExecuteErrors}
use Rattle.run_engine.specs.declared.errors.TestRunnerExecuteErrors.TheVariants as engine
use Rattle.run_output.specs.Asks.{ask_lines}
use Rattle.run_output.specs.declared.fault.Fault.{Fault}
use Rattle.run_output.specs.declared.fault.Fault.TheVariants.{NotEnabled, ThirdSignal, Memory}
use Rattle.run_output.specs.Faults.{fault_status}
use Rattle.run_store_io.specs.declared.fault_lines.StoreFault.TheVariants.{Torn}
use Rattle.run_cli.specs.Call.{Writing, then_writing, HasTaken, HasWriteFault, Writes}
use Rattle.run_cli.specs.Executed.{IsExecuted}
use Rattle.run_cli.specs.Finish.{EndsAtFault, IsAnswered}
use Rattle.run_cli.specs.Plans.{builder_of, fault_of_plan}
use Rattle.run_cli.specs.Short.{IsShort, fault_of_error}
use Rattle.run_cli.specs.Text.{whole_form, fault_only, ending_status}
use Rattle.run_cli.proofs.EndLemmas.{rose_then, some_is, whole_text, took_parts, error_ends, short_of, short_run}
use Rattle.run_cli.proofs.EndLemmas.{whole_of, begun_there}
use Rattle.run_cli.proofs.ShortLemmas.{short_written}
use Rattle.run_store_cli.specs.Ends.{EndsAtStore, EndsSo, store_fault_only}
use Rattle.run_store_cli.specs.Torn.{WritesTorn, TornShort, stop_of, stops_play, StopsForMemory, IsTornEnd, IsTornInput}

-- where the sink failed neither in the run nor after it, no event was refused
calm_run : (p : Settings) (turns : List Turn) (w v : Writing) (asks : List (ℕ × Ask))
    (answer : Result RunOutcome (TestRunnerExecuteErrors Failed)) → w.faults_after ≤ v.faults_after
    → (x : IsExecuted whole_form p turns w asks answer) → ¬ HasWriteFault (then_writing w v) → x.refusal ≡ None
calm_run p turns w v asks answer le x calm = by_refusal x.refusal refl
  where
    by_refusal : (o : Option Failed) → x.refusal ≡ o → o ≡ None
    by_refusal None e = refl
    by_refusal (Some d) e =
        absurd (calm (rose_then w.faults w.faults_after v.faults_after (x.risen (some_is x.refusal d e)) le))

-- all turns were taken, and the torn line was written
torn_writes : (p : Settings) (turns : List Turn) (w v : Writing) (asks : List (ℕ × Ask))
    (answer : Result RunOutcome (TestRunnerExecuteErrors Failed)) → v.taken ≡ w.taken_after
    → v.faults ≡ w.faults_after → (x : IsExecuted whole_form p turns w asks answer) → turns_of x.journal ≡ turns
    → v.faults ≤ v.faults_after → Writes v (ask_lines asks ++ store_fault_only (Torn (length turns)))
    → WritesTorn p turns (then_writing w v)
torn_writes p turns w v asks answer on from x all le writes =
    let line : List ℕ = store_fault_only (Torn (length turns)) in
    record {
      run = record {
        journal = x.journal;
        legal = x.runnable.legal;
        tied = λ calm. sym x.marked ∙ ap is_none (calm_run p turns w v asks answer (omega arith) x calm);
      };
      all = all;
      whole = λ calm.
          let none = calm_run p turns w v asks answer (omega arith) x calm in
          let stayed : v.faults ≡ w.faults = from ∙ x.quiet none in
          whole_text whole_form p turns w v asks answer line on x none
          (whole_of v (ask_lines asks ++ line) writes
          (λ rose. calm (subst (λ n. Rose n v.faults_after) stayed rose)));
      parts = took_parts whole_form p turns w v asks answer line on from x writes;
    }

-- all turns were taken, and memory was wanting for the rest
torn_short : (p : Settings) (turns : List Turn) (w v : Writing) (asks : List (ℕ × Ask))
    (answer : Result RunOutcome (TestRunnerExecuteErrors Failed)) → v.taken ≡ w.taken_after
    → v.faults ≡ w.faults_after → (x : IsExecuted whole_form p turns w asks answer) → turns_of x.journal ≡ turns
    → IsShort (ask_lines asks ++ store_fault_only (Torn (length turns))) v → TornShort p turns (then_writing w v)
torn_short p turns w v asks answer on from x all short =
    let line : List ℕ = store_fault_only (Torn (length turns)) in
    record {
      journal = x.journal;
      legal = x.runnable.legal;
      all = all;
      between = w.taken_after;
      count = w.faults_after;
      events = x.took;
      last = subst (λ sent.
          IsShort (ask_lines sent ++ line) (record v { taken = w.taken_after; faults = w.faults_after })) x.asked
          (begun_there v w (ask_lines asks ++ line) on from short);
    }

-- after all turns were taken
torn_over : (p : Settings) (turns : List Turn) (w v : Writing) (lines : List ℕ)
    (answer : Result RunOutcome (TestRunnerExecuteErrors Failed)) (status : ℕ) → v.taken ≡ w.taken_after
    → v.faults ≡ w.faults_after → (asks : List (ℕ × Ask)) → lines ≡ ask_lines asks
    → (x : IsExecuted whole_form p turns w asks answer) → turns_of x.journal ≡ turns
    → EndsAtStore v lines (Torn (length turns)) status → IsTornEnd p turns (then_writing w v) status
torn_over p turns w v lines answer status on from asks is x all (inl (eleven, short)) =
    inr (inr (
      eleven,
      torn_short p turns w v asks answer on from x all
          (subst (λ lines. IsShort (lines ++ store_fault_only (Torn (length turns))) v) is short),
    ))
torn_over p turns w v lines answer status on from asks is x all (inr (says, le, writes)) =
    inl (
      says,
      torn_writes p turns w v asks answer on from x all le
          (subst (λ lines. Writes v (lines ++ store_fault_only (Torn (length turns)))) is writes),
    )

-- after an answer with no fault of its turns
pub torn_after : (p : Settings) (turns : List Turn) (w v : Writing) (lines : List ℕ)
    (answer : Result RunOutcome (TestRunnerExecuteErrors Failed)) (n status : ℕ) → stop_of answer ≡ None
    → v.taken ≡ w.taken_after → v.faults ≡ w.faults_after → n ≡ length turns
    → IsAnswered whole_form p turns w lines answer → EndsAtStore v lines (Torn n) status
    → IsTornEnd p turns (then_writing w v) status
torn_after p turns w v lines (Ok o) n status e on from is ((asks, same, x), _) h =
    torn_over p turns w v lines (Ok o) status on from asks same x x.says.0
    (subst (λ n. EndsAtStore v lines (Torn n) status) is h)
torn_after p turns w v lines (Err (engine.Report d)) n status e on from is ((asks, same, x), _) h =
    torn_over p turns w v lines (Err (engine.Report d)) status on from asks same x x.says.0
    (subst (λ n. EndsAtStore v lines (Torn n) status) is h)
torn_after p turns w v lines (Err engine.Unfinished) n status e on from is ((asks, same, x), _) h =
    torn_over p turns w v lines (Err engine.Unfinished) status on from asks same x x.says.0
    (subst (λ n. EndsAtStore v lines (Torn n) status) is h)
torn_after p turns w v lines (Err (engine.NotEnabled i)) n status e on from is x h = cc
torn_after p turns w v lines (Err (engine.ThirdSignal i)) n status e on from is x h = cc
torn_after p turns w v lines (Err engine.OutOfMemory) n status e on from is x h = cc

-- turns that stop at one that isn't enabled: that was said, or memory was wanting for it
named_stop : (p : Settings) (turns : List Turn) (w v : Writing) (lines : List ℕ)
    (error : TestRunnerExecuteErrors Failed) (ending : Result RunOutcome Fault) (status : ℕ)
    → stops_play (fault_of_error error) ≡ true → status ≡ ending_status ending → v.taken ≡ w.taken_after
    → v.faults ≡ w.faults_after → IsAnswered whole_form p turns w lines (Err error)
    → (IsShort (lines ++ fault_only (fault_of_error error)) v → StopsForMemory p turns (then_writing w v))
    → EndsAtFault v lines (fault_of_error error) ending → IsTornEnd p turns (then_writing w v) status
named_stop p turns w v lines error (Ok o) status stop is on from x short end = absurd end
named_stop p turns w v lines error (Err e) status stop is on from x short (inl (same, front)) =
    inr (inl (inr (is ∙ ap fault_status same, short front)))
named_stop p turns w v lines error (Err e) status stop is on from x short (inr (same, le, writes)) =
    inr (inl (inl (
      e,
      ap stops_play same ∙ stop,
      is,
      error_ends whole_form p turns w v lines error (Err e) on from x (inr (same, le, writes)),
    )))

-- memory was wanting for the lines that say where turns stop
short_not_enabled : (p : Settings) (turns : List Turn) (w v : Writing) (lines : List ℕ) (place : ℕ)
    → v.taken ≡ w.taken_after → v.faults ≡ w.faults_after
    → IsAnswered whole_form p turns w lines (Err (engine.NotEnabled place))
    → IsShort (lines ++ fault_only (NotEnabled place)) v → StopsForMemory p turns (then_writing w v)
unfolding short_of
short_not_enabled p turns w v lines place on from ((asks, is, x), _) h = (
  short_of whole_form p turns w v asks (Err (engine.NotEnabled place)) (λ e. cc) on from x
      (subst (λ lines. IsShort (lines ++ fault_only (NotEnabled place)) v) is h),
  refl,
)

short_third : (p : Settings) (turns : List Turn) (w v : Writing) (lines : List ℕ) (place : ℕ)
    → v.taken ≡ w.taken_after → v.faults ≡ w.faults_after
    → IsAnswered whole_form p turns w lines (Err (engine.ThirdSignal place))
    → IsShort (lines ++ fault_only (ThirdSignal place)) v → StopsForMemory p turns (then_writing w v)
unfolding short_of
short_third p turns w v lines place on from ((asks, is, x), _) h = (
  short_of whole_form p turns w v asks (Err (engine.ThirdSignal place)) (λ e. cc) on from x
      (subst (λ lines. IsShort (lines ++ fault_only (ThirdSignal place)) v) is h),
  refl,
)

-- memory was wanting while turns were taken
short_taken : (p : Settings) (turns : List Turn) (w v : Writing) (lines : List ℕ) → v.taken ≡ w.taken_after
    → v.faults ≡ w.faults_after → IsAnswered whole_form p turns w lines (Err engine.OutOfMemory)
    → IsShort (lines ++ fault_only Memory) v → StopsForMemory p turns (then_writing w v)
unfolding short_run
short_taken p turns w v lines on from (_, out) h =
    let x = out refl in (
      short_run whole_form p turns w v x.0 on from x.2
          (subst (λ lines. IsShort (lines ++ fault_only Memory) v) x.1 h),
      refl,
    )

memory_stop : (p : Settings) (turns : List Turn) (w v : Writing) (lines : List ℕ)
    (ending : Result RunOutcome Fault) (status : ℕ) → status ≡ ending_status ending → v.taken ≡ w.taken_after
    → v.faults ≡ w.faults_after → IsAnswered whole_form p turns w lines (Err engine.OutOfMemory)
    → EndsAtFault v lines Memory ending → IsTornEnd p turns (then_writing w v) status
memory_stop p turns w v lines (Ok o) status is on from x end = absurd end
memory_stop p turns w v lines (Err e) status is on from x (inl (same, front)) =
    inr (inl (inr (is ∙ ap fault_status same, short_taken p turns w v lines on from x front)))
memory_stop p turns w v lines (Err e) status is on from x (inr (same, le, writes)) =
    inr (inl (inr (
      is ∙ ap fault_status same,
      short_taken p turns w v lines on from x (short_written lines v writes),
    )))

-- after an answer with a fault of its turns
pub stopped_after : (p : Settings) (turns : List Turn) (w v : Writing) (lines : List ℕ)
    (answer : Result RunOutcome (TestRunnerExecuteErrors Failed)) (fault : Fault) (ending : Result RunOutcome Fault)
    (status : ℕ) → stop_of answer ≡ Some fault → v.taken ≡ w.taken_after → v.faults ≡ w.faults_after
    → IsAnswered whole_form p turns w lines answer → EndsAtFault v lines fault ending
    → status ≡ ending_status ending → IsTornEnd p turns (then_writing w v) status
stopped_after p turns w v lines (Ok o) fault ending status e on from x end is = cc
stopped_after p turns w v lines (Err (engine.Report d)) fault ending status e on from x end is = cc
stopped_after p turns w v lines (Err engine.Unfinished) fault ending status e on from x end is = cc
stopped_after p turns w v lines (Err (engine.NotEnabled i)) fault ending status e on from x end is =
    let same : fault ≡ NotEnabled i = cc in
    named_stop p turns w v lines (engine.NotEnabled i) ending status refl is on from x
    (short_not_enabled p turns w v lines i on from x) (subst (λ f. EndsAtFault v lines f ending) same end)
stopped_after p turns w v lines (Err (engine.ThirdSignal i)) fault ending status e on from x end is =
    let same : fault ≡ ThirdSignal i = cc in
    named_stop p turns w v lines (engine.ThirdSignal i) ending status refl is on from x
    (short_third p turns w v lines i on from x) (subst (λ f. EndsAtFault v lines f ending) same end)
stopped_after p turns w v lines (Err engine.OutOfMemory) fault ending status e on from x end is =
    let same : fault ≡ Memory = cc in
    memory_stop p turns w v lines ending status is on from x (subst (λ f. EndsAtFault v lines f ending) same end)

-- a plan that is refused
pub refused_torn : (keys : RunnerKeys) (plan : Plan) (turns : List Turn) (w : Writing) (error : TestRunnerBuildError)
    (status : ℕ) → IsBuilt (builder_of keys) plan (Err error) → EndsSo w (fault_of_plan error) status
    → IsTornInput keys plan turns w status
refused_torn keys plan turns w error status built (inl (is, short)) = inr (inr (is, (fault_of_plan error, short)))
refused_torn keys plan turns w (build.ZeroLimit g) status built (inr (is, le, writes)) =
    inr (inl (_, is, (build.ZeroLimit g, built, refl), writes))
refused_torn keys plan turns w (build.DuplicateTest k) status built (inr (is, le, writes)) =
    inr (inl (_, is, (build.DuplicateTest k, built, refl), writes))
refused_torn keys plan turns w (build.UnknownGroup k) status built (inr (is, le, writes)) =
    inr (inl (_, is, (build.UnknownGroup k, built, refl), writes))
refused_torn keys plan turns w (build.ZeroWeight k) status built (inr (is, le, writes)) =
    inr (inl (_, is, (build.ZeroWeight k, built, refl), writes))
refused_torn keys plan turns w (build.TooManyRetries k) status built (inr (is, le, writes)) =
    inr (inl (_, is, (build.TooManyRetries k, built, refl), writes))
refused_torn keys plan turns w build.OutOfMemory status built (inr (is, le, writes)) =
    inr (inr (is, (Memory, short_written [] w writes)))
