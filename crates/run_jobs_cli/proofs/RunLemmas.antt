-- What jobs that were run come to, and what was written of them.
use Rattle.std.proofs.Common.{◌≡◌, ◌∙◌, ℕ, ◌≤◌, ◌⊎◌, inl, inr, List, [], ◌∷◌, ◌++◌, map, take, slice_get, length, Bool}
use Rattle.std.proofs.Common.{true, false, Option, Some, None, IsSome, Result, Ok, Err, refl, ap, sym, subst, arith}
use Rattle.std.proofs.Common.{append_assoc}
use Rattle.run_capture.specs.Bytes.{Takes}
use Rattle.run_capture.specs.Faults.{Rose}
use Rattle.run_capture.specs.declared.source.Failed.{Failed}
use Rattle.run_capture.proofs.BytesLemmas.{takes_both}
use Rattle.run_events.specs.declared.ask.Ask.{Ask}
use Rattle.run_events.specs.declared.events.ReporterEvent.{ReporterEvent}
use Rattle.run_events.specs.declared.turn.Turn.{Turn}
use Rattle.run_engine.specs.World.{Outside, first_error}
use Rattle.run_engine.specs.declared.errors.TestRunnerExecuteErrors.{TestRunnerExecuteErrors}
use Rattle.run_engine.specs.declared.errors.TestRunnerExecuteErrors.TheVariants as engine
use Rattle.run_output.specs.declared.fault.Fault.TheVariants.{Memory}
use Rattle.run_output.specs.Told.{HasTold, event_lines}
use Rattle.run_jobs.specs.declared.job.Job.{Job}
use Rattle.run_jobs.specs.declared.job.JobState.{JobState}
use Rattle.run_jobs.specs.declared.waves_error.WavesError.{WavesError}
use Rattle.run_jobs.specs.declared.waves_error.WavesError.TheVariants as errors
use Rattle.run_jobs.specs.Jobs.{Batch}
use Rattle.run_jobs.specs.States.{Wave}
use Rattle.run_jobs.specs.Waves.{AnswersWaves, ComesTo, TellsAndStops, all_told, next_settings, wants_memory}
use Rattle.run_cli.specs.Call.{Writing, Writes}
use Rattle.run_cli.specs.Cause.{Gets}
use Rattle.run_cli.specs.Short.{IsShort}
use Rattle.run_cli.specs.Text.{fault_only}
use Rattle.run_cli.proofs.EndLemmas.{rose_then, some_is}
use Rattle.run_cli.proofs.TextLemmas.{front_after}
use Rattle.run_cli.proofs.ToldLines.{rises, stays}
use Rattle.run_jobs_cli.specs.declared.fault.JobsFault.{JobsFault}
use Rattle.run_jobs_cli.specs.declared.fault.JobsFault.TheVariants.{Plain}
use Rattle.run_jobs_cli.specs.JobsEnds.{EndsAtJobsFault, EndsAtStates, jobs_fault_only}
use Rattle.run_jobs_cli.specs.RunsJobs.{FinishesJobs, IsWavesEnd, StopsInWave, StopsUnlessMemory, wave_fault}
use Rattle.run_jobs_cli.specs.RunsJobs.{waves_fault, waves_status, waves_text}
use Rattle.run_jobs_cli.specs.StateLines.{state_lines}
use Rattle.run_jobs_cli.proofs.ToldLemmas.{told_after, told_all, took_events}

-- a sink from one moment to another
abbrev pub writing : Option (List ℕ) → Option (List ℕ) → ℕ → ℕ → Writing
writing before after faults faults_after =
    record { taken = before; taken_after = after; faults = faults; faults_after = faults_after }

-- ---- some bytes, and what was written after them

short_after : (a b c : Option (List ℕ)) (i j k : ℕ) (text more : List ℕ) → Takes a b text
    → IsShort more (writing b c j k) → IsShort (text ++ more) (writing a c i k)
short_after a b c i j k text more one s = record {
  front = text ++ s.front;
  left = s.left;
  some = s.some;
  parts = ap (λ bytes. text ++ bytes) s.parts ∙ sym (append_assoc text s.front s.left);
  said = s.said;
  took = subst (Takes a c) (sym (append_assoc text s.front (take s.said (fault_only Memory))))
      (takes_both a b c text (s.front ++ take s.said (fault_only Memory)) one s.took);
}

writes_after : (a b c : Option (List ℕ)) (i j k : ℕ) (text more : List ℕ) → Takes a b text → j ≡ i
    → Writes (writing b c j k) more → Writes (writing a c i k) (text ++ more)
writes_after a b c i j k text more one same (inl (calm, took)) =
    inl (calm ∙ same, takes_both a b c text more one took)
writes_after a b c i j k text more one same (inr (le, rose, front)) =
    inr (omega arith, subst (λ n. Rose n k) same rose, front_after a b c text more one front)

fault_after : (a b c : Option (List ℕ)) (i j k : ℕ) (text : List ℕ) (fault : JobsFault) (status : ℕ) → Takes a b text
    → j ≡ i → EndsAtJobsFault (writing b c j k) [] fault status → EndsAtJobsFault (writing a c i k) text fault status
fault_after a b c i j k text fault status one same (inl (is, short)) =
    inl (is, short_after a b c i j k text (jobs_fault_only fault) one short)
fault_after a b c i j k text fault status one same (inr (is, le, writes)) =
    inr (is, omega arith, writes_after a b c i j k text (jobs_fault_only fault) one same writes)

states_after : (a b c : Option (List ℕ)) (i j k : ℕ) (text : List ℕ) (jobs : List Job) (states : List JobState)
    (status : ℕ) → Takes a b text → j ≡ i → EndsAtStates (writing b c j k) [] jobs states status
    → EndsAtStates (writing a c i k) text jobs states status
states_after a b c i j k text jobs states status one same (inl (is, took, calm)) =
    inl (is, takes_both a b c text (state_lines jobs 0 states) one took, calm ∙ same)
states_after a b c i j k text jobs states status one same (inr (inl (is, front, le, rose))) =
    inr (inl (
      is,
      front_after a b c text (state_lines jobs 0 states) one front,
      omega arith,
      subst (λ n. Rose n k) same rose,
    ))
states_after a b c i j k text jobs states status one same (inr (inr (is, short))) =
    inr (inr (is, short_after a b c i j k text (state_lines jobs 0 states) one short))

memory_status : (w : Writing) (status : ℕ) → EndsAtJobsFault w [] (Plain Memory) status → status ≡ 11
memory_status w status (inl (is, short)) = is
memory_status w status (inr (is, le, writes)) = is

-- ---- what was written by each answer

-- a reporter told nothing before, and what it tells is what a sink took
pub record IsTied {R : Type 0} (tells : R → List (ReporterEvent × Option Failed) → Type 0) (before now : R)
    (a b : Option (List ℕ)) (i j refusals : ℕ) : Type 0 where
  pub none : tells before []
  pub tied : (answers : List (ReporterEvent × Option Failed)) → tells now answers
      → HasTold a b i j refusals (event_lines answers)

stops_so : {R C : Type 0} (tells : R → List (ReporterEvent × Option Failed) → Type 0)
    (asks : C → List (ℕ × Ask) → Type 0) (o : Outside R C) (batch : Batch) (waves : List Wave) (turns : List Turn)
    (n : ℕ) (error : TestRunnerExecuteErrors Failed) (a b c : Option (List ℕ)) (i j k refusals status : ℕ)
    → IsTied tells o.report o.report_after a b i j refusals → TellsAndStops tells asks o batch waves turns error
    → EndsAtJobsFault (writing b c j k) [] (wave_fault n error) status
    → StopsInWave (next_settings batch waves) turns (waves_text waves) n error (writing a c i k) status
stops_so tells asks o batch waves turns n error a b c i j k refusals status tie x last =
    let takes = x.stops.call.takes in
    let events = takes.told (map (λ event. (event, None)) (all_told waves)) (x.ran.told [] tie.none) in
    let t = told_after (all_told waves) events.0 a b i j refusals (tie.tied _ events.1) in
    record {
      journal = x.stops.call.journal;
      legal = takes.runnable.legal;
      refusal = x.stops.call.refusal;
      marked = takes.marked;
      says = x.stops.call.says;
      between = t.between;
      first = t.first;
      after = b;
      count = j;
      events = took_events (next_settings batch waves) x.stops.call.journal events.0 t.between b i j takes.runnable
          events.2 t.took t.counted;
      risen = λ some. rises events.0 i j (subst IsSome (sym events.3) some) t.counted;
      last = last;
    }

wave_ends : {R C : Type 0} (tells : R → List (ReporterEvent × Option Failed) → Type 0)
    (asks : C → List (ℕ × Ask) → Type 0) (o : Outside R C) (batch : Batch) (lists : List (List Turn)) (n : ℕ)
    (error : TestRunnerExecuteErrors Failed) (a b c : Option (List ℕ)) (i j k refusals status : ℕ)
    → IsTied tells o.report o.report_after a b i j refusals
    → AnswersWaves tells asks o batch lists (Err (errors.Wave n error))
    → EndsAtJobsFault (writing b c j k) [] (wave_fault n error) status
    → IsWavesEnd batch lists (writing a c i k) status (Err (errors.Wave n error))
wave_ends tells asks o batch lists n (engine.NotEnabled t) a b c i j k refusals status tie
    (waves, ran, due, is, (turns, given, x)) last = (
      waves,
      ran,
      due,
      is,
      (
        turns,
        given,
        stops_so tells asks o batch waves turns n (engine.NotEnabled t) a b c i j k
            refusals status tie x last,
      ),
    )
wave_ends tells asks o batch lists n (engine.ThirdSignal t) a b c i j k refusals status tie
    (waves, ran, due, is, (turns, given, x)) last = (
      waves,
      ran,
      due,
      is,
      (
        turns,
        given,
        stops_so tells asks o batch waves turns n (engine.ThirdSignal t) a b c i j k
            refusals status tie x last,
      ),
    )
wave_ends tells asks o batch lists n engine.Unfinished a b c i j k refusals status tie
    (waves, ran, due, is, (turns, given, x)) last = (
      waves,
      ran,
      due,
      is,
      (
        turns,
        given,
        stops_so tells asks o batch waves turns n engine.Unfinished a b c i j k
            refusals status tie x last,
      ),
    )
wave_ends tells asks o batch lists n (engine.Report e) a b c i j k refusals status tie
    (waves, ran, due, is, (turns, given, x)) last = (
      waves,
      ran,
      due,
      is,
      (
        turns,
        given,
        stops_so tells asks o batch waves turns n (engine.Report e) a b c i j k
            refusals status tie x last,
      ),
    )
wave_ends tells asks o batch lists n engine.OutOfMemory a b c i j k refusals status tie
    (waves, ran, due, is, (turns, given, x)) last =
    (waves, ran, due, is, (turns, given, memory_status (writing b c j k) status last))

pub runs_so : {R C : Type 0} (tells : R → List (ReporterEvent × Option Failed) → Type 0)
    (asks : C → List (ℕ × Ask) → Type 0) (o : Outside R C) (batch : Batch) (lists : List (List Turn))
    (answer : Result (List JobState) (WavesError Failed)) (a b c : Option (List ℕ)) (i j k refusals status : ℕ)
    → IsTied tells o.report o.report_after a b i j refusals → AnswersWaves tells asks o batch lists answer
    → FinishesJobs (writing b c j k) batch.jobs status answer
    → IsWavesEnd batch lists (writing a c i k) status answer
runs_so tells asks o batch lists (Ok states) a b c i j k refusals status tie (waves, ran, due, all, are, x) last =
    let t = told_all (all_told waves) a b i j refusals (tie.tied _ (x.told [] tie.none)) in
    (waves, ran, due, all, are, states_after a b c i j k (waves_text waves) batch.jobs states status t.0 t.1 last)
runs_so tells asks o batch lists (Err (errors.Wave n error)) a b c i j k refusals status tie x last =
    wave_ends tells asks o batch lists n error a b c i j k refusals status tie x last
runs_so tells asks o batch lists (Err (errors.Missing n)) a b c i j k refusals status tie
    (waves, ran, due, is, none, x) last =
    let t = told_all (all_told waves) a b i j refusals (tie.tied _ (x.told [] tie.none)) in (
      waves,
      ran,
      due,
      is,
      none,
      fault_after a b c i j k (waves_text waves) (waves_fault {E = Failed} (errors.Missing n)) status t.0 t.1
          last,
    )
runs_so tells asks o batch lists (Err (errors.Extra given due_count)) a b c i j k refusals status tie
    (waves, ran, due, is, are, more, x) last =
    let t = told_all (all_told waves) a b i j refusals (tie.tied _ (x.told [] tie.none)) in (
      waves,
      ran,
      due,
      is,
      are,
      more,
      fault_after a b c i j k (waves_text waves)
          (waves_fault {E = Failed} (errors.Extra given due_count)) status t.0 t.1 last,
    )
runs_so tells asks o batch lists (Err errors.OutOfMemory) a b c i j k refusals status tie x last =
    memory_status (writing b c j k) status last

-- ---- the status where the sink didn't fail

-- the status of what is left to write
finished_status : (w : Writing) (jobs : List Job) (status : ℕ) (answer : Result (List JobState) (WavesError Failed))
    → FinishesJobs w jobs status answer
    → (status ≡ 11) ⊎ ((w.faults ≤ w.faults_after)
    × (¬ Rose w.faults w.faults_after → status ≡ waves_status answer))
finished_status w jobs status (Ok states) (inl (is, took, calm)) = inr (omega arith, λ still. is)
finished_status w jobs status (Ok states) (inr (inl (is, front, le, rose))) = inr (le, λ still. absurd (still rose))
finished_status w jobs status (Ok states) (inr (inr (is, short))) = inl is
finished_status w jobs status (Err error) (inl (is, short)) = inl is
finished_status w jobs status (Err error) (inr (is, le, writes)) = inr (le, λ still. is)

wanting_status : (w : Writing) (jobs : List Job) (status : ℕ) (answer : Result (List JobState) (WavesError Failed))
    → FinishesJobs w jobs status answer → wants_memory answer ≡ true → status ≡ 11
wanting_status w jobs status (Ok states) last some = cc
wanting_status w jobs status (Err (errors.Wave n (engine.NotEnabled t))) last some = cc
wanting_status w jobs status (Err (errors.Wave n (engine.ThirdSignal t))) last some = cc
wanting_status w jobs status (Err (errors.Wave n engine.Unfinished)) last some = cc
wanting_status w jobs status (Err (errors.Wave n (engine.Report e))) last some = cc
wanting_status w jobs status (Err (errors.Wave n engine.OutOfMemory)) last some = memory_status w status last
wanting_status w jobs status (Err (errors.Missing n)) last some = cc
wanting_status w jobs status (Err (errors.Extra given due)) last some = cc
wanting_status w jobs status (Err errors.OutOfMemory) last some = memory_status w status last

-- neither the reporter nor the sink failed
AreStill : {R C : Type 0} → Outside R C → ℕ → ℕ → Type 0
AreStill o i j = (o.faults_after ≡ o.faults) × (j ≡ i)

stopped_still : {R C : Type 0} (tells : R → List (ReporterEvent × Option Failed) → Type 0)
    (asks : C → List (ℕ × Ask) → Type 0) (o : Outside R C) (batch : Batch) (waves : List Wave) (turns : List Turn)
    (error : TestRunnerExecuteErrors Failed) (a b : Option (List ℕ)) (i j k refusals : ℕ)
    → IsTied tells o.report o.report_after a b i j refusals → TellsAndStops tells asks o batch waves turns error
    → j ≤ k → ¬ Rose i k → AreStill o i j
unfolding AreStill
stopped_still tells asks o batch waves turns error a b i j k refusals tie x le calm =
    by_refusal x.stops.call.refusal refl
  where
    by_refusal : (refusal : Option Failed) → x.stops.call.refusal ≡ refusal
        → (o.faults_after ≡ o.faults) × (j ≡ i)
    by_refusal None is =
        let takes = x.stops.call.takes in
        let events = takes.told (map (λ event. (event, None)) (all_told waves)) (x.ran.told [] tie.none) in
        let t = told_after (all_told waves) events.0 a b i j refusals (tie.tied _ events.1) in
        let counted = rw is at takes.counted in
        (counted ∙ x.ran.calm, stays events.0 i j (events.3 ∙ is) t.counted)
    by_refusal (Some d) is =
        let takes = x.stops.call.takes in
        let events = takes.told (map (λ event. (event, None)) (all_told waves)) (x.ran.told [] tie.none) in
        let t = told_after (all_told waves) events.0 a b i j refusals (tie.tied _ events.1) in
        absurd (calm (rose_then i j k
        (rises events.0 i j (some_is (first_error events.0) d (events.3 ∙ is)) t.counted) le))

answer_still : {R C : Type 0} (tells : R → List (ReporterEvent × Option Failed) → Type 0)
    (asks : C → List (ℕ × Ask) → Type 0) (o : Outside R C) (batch : Batch) (lists : List (List Turn))
    (answer : Result (List JobState) (WavesError Failed)) (a b : Option (List ℕ)) (i j k refusals : ℕ)
    → IsTied tells o.report o.report_after a b i j refusals → AnswersWaves tells asks o batch lists answer
    → wants_memory answer ≡ false → j ≤ k → ¬ Rose i k → AreStill o i j
unfolding AreStill
answer_still tells asks o batch lists (Ok states) a b i j k refusals tie (waves, ran, due, all, are, x) some le calm =
    (x.calm, (told_all (all_told waves) a b i j refusals (tie.tied _ (x.told [] tie.none))).1)
answer_still tells asks o batch lists (Err (errors.Wave n (engine.NotEnabled t))) a b i j k refusals tie
    (waves, ran, due, is, (turns, given, x)) some le calm =
    stopped_still tells asks o batch waves turns (engine.NotEnabled t) a b i j k refusals tie x le calm
answer_still tells asks o batch lists (Err (errors.Wave n (engine.ThirdSignal t))) a b i j k refusals tie
    (waves, ran, due, is, (turns, given, x)) some le calm =
    stopped_still tells asks o batch waves turns (engine.ThirdSignal t) a b i j k refusals tie x le calm
answer_still tells asks o batch lists (Err (errors.Wave n engine.Unfinished)) a b i j k refusals tie
    (waves, ran, due, is, (turns, given, x)) some le calm =
    stopped_still tells asks o batch waves turns engine.Unfinished a b i j k refusals tie x le calm
answer_still tells asks o batch lists (Err (errors.Wave n (engine.Report e))) a b i j k refusals tie
    (waves, ran, due, is, (turns, given, x)) some le calm =
    stopped_still tells asks o batch waves turns (engine.Report e) a b i j k refusals tie x le calm
answer_still tells asks o batch lists (Err (errors.Wave n engine.OutOfMemory)) a b i j k refusals tie x some le calm =
    cc
answer_still tells asks o batch lists (Err (errors.Missing n)) a b i j k refusals tie (waves, ran, due, is, none, x)
    some le calm =
    (x.calm, (told_all (all_told waves) a b i j refusals (tie.tied _ (x.told [] tie.none))).1)
answer_still tells asks o batch lists (Err (errors.Extra given due_count)) a b i j k refusals tie
    (waves, ran, due, is, are, more, x) some le calm =
    (x.calm, (told_all (all_told waves) a b i j refusals (tie.tied _ (x.told [] tie.none))).1)
answer_still tells asks o batch lists (Err errors.OutOfMemory) a b i j k refusals tie x some le calm = cc

never_rose : (n : ℕ) → n ≡ 0 → (m : ℕ) → m ≡ n → ¬ Rose n m
never_rose n none m same rose = omega arith

status_by : (x y : Result (List JobState) (WavesError Failed)) (status : ℕ) → status ≡ waves_status x
    → (x ≡ y) ⊎ (wants_memory x ≡ true) → wants_memory x ≡ false → Gets status (waves_status y)
status_by x y status is (inl same) some = inl (is ∙ ap waves_status same)
status_by x y status is (inr wants) some = cc

pub came_so : {R C : Type 0} (tells : R → List (ReporterEvent × Option Failed) → Type 0)
    (asks : C → List (ℕ × Ask) → Type 0) (o : Outside R C) (batch : Batch) (lists : List (List Turn))
    (x : Result (List JobState) (WavesError Failed)) (a b c : Option (List ℕ)) (i j k refusals status : ℕ)
    → IsTied tells o.report o.report_after a b i j refusals → o.faults ≡ 0 → AnswersWaves tells asks o batch lists x
    → FinishesJobs (writing b c j k) batch.jobs status x
    → (¬ Rose o.faults o.faults_after → (y : Result (List JobState) (WavesError Failed)) → ComesTo batch lists y
    → (x ≡ y) ⊎ (wants_memory x ≡ true))
    → ¬ Rose i k → (y : Result (List JobState) (WavesError Failed)) → ComesTo batch lists y
    → Gets status (waves_status y)
unfolding AreStill
came_so tells asks o batch lists x a b c i j k refusals status tie zero_faults says last comes calm y to =
    by_finish (finished_status (writing b c j k) batch.jobs status x last)
  where
    by_memory : (wanting : Bool) → wants_memory x ≡ wanting → j ≤ k → (¬ Rose j k → status ≡ waves_status x)
        → Gets status (waves_status y)
    by_memory true some le is = inr (wanting_status (writing b c j k) batch.jobs status x last some)
    by_memory false some le is =
        let still = answer_still tells asks o batch lists x a b i j k refusals tie says some le calm in
        status_by x y status (is (λ rose. calm (subst (λ n. Rose n k) still.1 rose)))
        (comes (never_rose o.faults zero_faults o.faults_after still.0) y to) some

    by_finish : (status ≡ 11) ⊎ ((j ≤ k) × (¬ Rose j k → status ≡ waves_status x)) → Gets status (waves_status y)
    by_finish (inl is) = inr is
    by_finish (inr (le, is)) = by_memory (wants_memory x) refl le is
