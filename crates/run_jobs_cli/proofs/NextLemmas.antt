-- What is found of the wave that is due next.
use Rattle.std.proofs.Common.{◌≡◌, ◌∙◌, ◌&&◌, ◌⊎◌, inl, inr, List, [], ◌∷◌, map, length, Bool, true, false, cond, not}
use Rattle.std.proofs.Common.{nat_lt, Option, Some, None, Result, Ok, Err, IfOk, refl, sym, ap, subst, ℕ}
use Rattle.std.specs.Result.{IfErr}
use Rattle.std.specs.Prelude.{filter_map, slice_get}
use Rattle.std.specs.List.{list_any}
use Rattle.std.specs.declared.convert.Infallible.{Infallible}
use Rattle.std.proofs.lemmas.Option.{same_Some}
use Rattle.run_events.specs.declared.plan.Plan.{Plan}
use Rattle.run_events.specs.declared.turn.Turn.{Turn}
use Rattle.run_input.specs.Input.{plan_line_of}
use Rattle.run_engine.specs.Builder.{Builder, refusal_of}
use Rattle.run_engine.specs.declared.errors.TestRunnerExecuteErrors.TheVariants as engine
use Rattle.run_jobs.specs.declared.job.Job.{Job}
use Rattle.run_jobs.specs.declared.waves_error.WavesError.{WavesError}
use Rattle.run_jobs.specs.declared.waves_error.WavesError.TheVariants as errors
use Rattle.run_jobs.specs.Due.{IsPlanTaken, PlansNext, next_wave}
use Rattle.run_jobs.specs.Jobs.{Batch}
use Rattle.run_jobs.specs.States.{Wave, states_after}
use Rattle.run_jobs.specs.WavePlan.{plan_of_jobs, test_of_job, tests_of_jobs, wave_builder, wave_of, wave_with}
use Rattle.run_jobs.specs.Waves.{ComesTo, ended_cancelled, is_next_due, next_jobs, wants_memory}
use Rattle.run_wave_line.specs.WaveLine.{plain_test, wave_keys, wave_plan, wave_text}
use Rattle.run_capture.specs.declared.memory.OutOfMemory.{OutOfMemory}
use Rattle.run_output.specs.declared.fault.Fault.TheVariants as plain
use Rattle.run_jobs_cli.specs.declared.fault.JobsFault.{JobsFault}
use Rattle.run_jobs_cli.specs.declared.fault.JobsFault.TheVariants as faults
use Rattle.run_jobs_cli.specs.NextWaves.{FindsNext, SaysWave, none_due_text}
use Rattle.run_jobs_cli.specs.RunsJobs.{waves_fault}

-- the tests of jobs are as usual already
plain_tests : (jobs : List Job) → map plain_test (map test_of_job jobs) ≡ map test_of_job jobs
plain_tests [] = refl
plain_tests (job ∷ jobs) = ap (λ tests. test_of_job job ∷ tests) (plain_tests jobs)

plain_plan : (batch : Batch) (ks : List ℕ)
    → wave_plan batch.run_id (tests_of_jobs batch.jobs ks) ≡ plan_of_jobs batch ks
plain_plan batch ks =
    ap (λ tests. record (wave_plan batch.run_id []) { tests = tests })
    (plain_tests (filter_map (slice_get batch.jobs) ks))

-- a wave with some jobs
wave_is : (batch : Batch) (ks : List ℕ) (builder : Builder) (plan : Plan)
    → Some (builder, plan) ≡ wave_with batch ks
    → (builder ≡ wave_builder batch.threads) × (plan ≡ plan_of_jobs batch ks)
wave_is batch [] builder plan is = cc
wave_is batch (k ∷ ks) builder plan is =
    let same = same_Some _ _ is in (ap (λ p. p.0) same, ap (λ p. p.1) same)

-- the next wave is due, or isn't
due_some : (batch : Batch) (waves : List Wave) (next : Builder × Plan) (b : Bool) → is_next_due batch waves ≡ b
    → Some next ≡ cond b (wave_of batch (states_after batch.jobs waves) (length waves)) None
    → (is_next_due batch waves ≡ true) × (Some next ≡ wave_with batch (next_jobs batch waves))
due_some batch waves next true due is = (due, is)
due_some batch waves next false due is = cc

never : (b : Bool) → (b && false) ≡ true → ⊥
never true is = cc
never false is = cc

no_plan : (batch : Batch) (waves : List Wave) (ks : List ℕ)
    → (not (list_any (λ (v : Wave). ended_cancelled v.outcome) waves) && nat_lt 0 (length ks)) ≡ true
    → None ≡ wave_with batch ks → ⊥
no_plan batch waves [] due is = never (not (list_any (λ (v : Wave). ended_cancelled v.outcome) waves)) due
no_plan batch waves (k ∷ ks) due is = cc

due_none : (batch : Batch) (waves : List Wave) (b : Bool) → is_next_due batch waves ≡ b
    → None ≡ cond b (wave_of batch (states_after batch.jobs waves) (length waves)) None
    → is_next_due batch waves ≡ false
due_none batch waves true due is = absurd (no_plan batch waves (next_jobs batch waves) due is)
due_none batch waves false due is = due

says_wave : (batch : Batch) (waves : List Wave) (builder : Builder) (plan : Plan) (line : List ℕ)
    → builder ≡ wave_builder batch.threads → plan ≡ plan_of_jobs batch (next_jobs batch waves)
    → refusal_of builder plan ≡ None → line ≡ wave_text batch.threads plan.head.run_id plan.tests
    → plan_line_of line ≡ Some (wave_keys batch.threads, wave_plan plan.head.run_id plan.tests)
    → SaysWave batch waves line
says_wave batch waves builder plan line built is accepted text reads =
    let ks = next_jobs batch waves in record {
      keys = wave_keys batch.threads;
      plan = plan_of_jobs batch ks;
      is = text ∙ ap (λ (p : Plan). wave_text batch.threads p.head.run_id p.tests) is;
      reads = reads
          ∙ ap (λ (p : Plan). Some (wave_keys batch.threads, wave_plan p.head.run_id p.tests)) is
          ∙ ap (λ p. Some (wave_keys batch.threads, p)) (plain_plan batch ks);
      accepted = sym (ap (λ b. refusal_of b plan) built ∙ ap (refusal_of (wave_builder batch.threads)) is) ∙ accepted;
      settings = refl;
    }

pub next_found : (batch : Batch) (lists : List (List Turn)) (builder : Builder) (plan : Plan) (line : List ℕ)
    → PlansNext {E = Infallible} batch lists (Ok (Some (builder, plan))) → IsPlanTaken (builder, plan)
    → line ≡ wave_text batch.threads plan.head.run_id plan.tests
    → plan_line_of line ≡ Some (wave_keys batch.threads, wave_plan plan.head.run_id plan.tests)
    → FindsNext batch lists (Ok (line, 0))
next_found batch lists builder plan line plans runs text reads =
    let waves = plans.0 in
    let due = due_some batch waves (builder, plan) (is_next_due batch waves) refl plans.3 in
    let is = wave_is batch (next_jobs batch waves) builder plan due.1 in (
      waves,
      plans.1,
      plans.2,
      inl (due.0, says_wave batch waves builder plan line is.0 is.1 runs.1 text reads, refl),
    )

pub next_none : (batch : Batch) (lists : List (List Turn)) → PlansNext {E = Infallible} batch lists (Ok None)
    → FindsNext batch lists (Ok (none_due_text, 4))
next_none batch lists plans = (
  plans.0,
  plans.1,
  plans.2,
  inr (due_none batch plans.0 (is_next_due batch plans.0) refl plans.3, refl, refl),
)

-- the fault of an error
pub next_fault : (batch : Batch) (lists : List (List Turn)) (error : WavesError Infallible)
    → PlansNext {E = Infallible} batch lists (Err error) → FindsNext batch lists (Err (waves_fault error))
next_fault batch lists (errors.Wave n engine.OutOfMemory) plans = inl refl
next_fault batch lists (errors.Wave n engine.Unfinished) (inl wants) = cc
next_fault batch lists (errors.Wave n engine.Unfinished) (inr comes) =
    inr (errors.Wave n engine.Unfinished, comes, refl, refl)
next_fault batch lists (errors.Wave n (engine.Report e)) (inl wants) = cc
next_fault batch lists (errors.Wave n (engine.Report e)) (inr comes) =
    inr (errors.Wave n (engine.Report e), comes, refl, refl)
next_fault batch lists (errors.Wave n (engine.NotEnabled i)) (inl wants) = cc
next_fault batch lists (errors.Wave n (engine.NotEnabled i)) (inr comes) =
    inr (errors.Wave n (engine.NotEnabled i), comes, refl, refl)
next_fault batch lists (errors.Wave n (engine.ThirdSignal i)) (inl wants) = cc
next_fault batch lists (errors.Wave n (engine.ThirdSignal i)) (inr comes) =
    inr (errors.Wave n (engine.ThirdSignal i), comes, refl, refl)
next_fault batch lists (errors.Missing n) plans = absurd plans
next_fault batch lists (errors.Extra g u) (inl wants) = cc
next_fault batch lists (errors.Extra g u) (inr comes) = inr (errors.Extra g u, comes, refl, refl)
next_fault batch lists errors.OutOfMemory plans = inl refl

-- a line that was made, or not for want of memory
pub found_next : (batch : Batch) (lists : List (List Turn)) (builder : Builder) (plan : Plan) (threads : ℕ)
    (line : Result (List ℕ) OutOfMemory) (found : Result (List ℕ × ℕ) JobsFault)
    → PlansNext {E = Infallible} batch lists (Ok (Some (builder, plan))) → IsPlanTaken (builder, plan)
    → threads ≡ batch.threads → IfOk line (λ t. t ≡ wave_text threads plan.head.run_id plan.tests)
    → IfOk line (λ t. plan_line_of t ≡ Some (wave_keys threads, wave_plan plan.head.run_id plan.tests))
    → IfOk found (λ f. (line ≡ Ok f.0) × (f.1 ≡ 0)) → IfErr found (λ fault. fault ≡ faults.Plain plain.Memory)
    → FindsNext batch lists found
found_next batch lists builder plan threads line (Ok (t, n)) plans runs is text reads ok err =
    subst (λ k. FindsNext batch lists (Ok (t, k))) (sym ok.1)
    (next_found batch lists builder plan t plans runs
    (subst (λ m. t ≡ wave_text m plan.head.run_id plan.tests) is
    (subst (λ l. IfOk l (λ u. u ≡ wave_text threads plan.head.run_id plan.tests)) ok.0 text))
    (subst (λ m. plan_line_of t ≡ Some (wave_keys m, wave_plan plan.head.run_id plan.tests)) is
    (subst (λ l. IfOk l (λ u. plan_line_of u ≡ Some (wave_keys threads, wave_plan plan.head.run_id plan.tests))) ok.0
    reads)))
found_next batch lists builder plan threads line (Err fault) plans runs is text reads ok err = inl err

pub found_none : (batch : Batch) (lists : List (List Turn)) (line : Result (List ℕ) OutOfMemory)
    (found : Result (List ℕ × ℕ) JobsFault) → PlansNext {E = Infallible} batch lists (Ok None)
    → IfOk line (λ t. t ≡ none_due_text)
    → IfOk found (λ f. (line ≡ Ok f.0) × (f.1 ≡ 4)) → IfErr found (λ fault. fault ≡ faults.Plain plain.Memory)
    → FindsNext batch lists found
found_none batch lists line (Ok (t, n)) plans is ok err =
    subst (λ k. FindsNext batch lists (Ok (t, k))) (sym ok.1)
    (subst (λ u. FindsNext batch lists (Ok (u, 4))) (sym (subst (λ l. IfOk l (λ u. u ≡ none_due_text)) ok.0 is))
    (next_none batch lists plans))
found_none batch lists line (Err fault) plans is ok err = inl err
