-- Each cause gives its status.
use Rattle.std.proofs.Common.{◌≡◌, ◌∙◌, ℕ, ◌≤◌, ◌<◌, ◌⊎◌, inl, inr, List, [], ◌∷◌, length, Bool, true, false, Some}
use Rattle.std.proofs.Common.{None, Result, Ok, Err, refl, sym, subst, arith, slice_index_or, if◌then◌else◌}
use Rattle.std.specs.List.{Contains, list_all}
use Rattle.run_capture.specs.Faults.{Rose}
use Rattle.run_capture.specs.declared.source.Failed.{Failed}
use Rattle.run_events.specs.declared.turn.Turn.{Turn}
use Rattle.run_input.specs.Lines.{lines_of}
use Rattle.run_engine.specs.declared.errors.TestRunnerExecuteErrors.TheVariants as engine
use Rattle.run_output.specs.declared.fault.Fault.TheVariants as plain
use Rattle.run_jobs.specs.declared.job.Job.{Job}
use Rattle.run_jobs.specs.declared.job.JobState.{JobState}
use Rattle.run_jobs.specs.declared.job.JobsError.{JobsError}
use Rattle.run_jobs.specs.declared.job.JobsError.TheVariants as jobs
use Rattle.run_jobs.specs.declared.waves_error.WavesError.{WavesError}
use Rattle.run_jobs.specs.declared.waves_error.WavesError.TheVariants as errors
use Rattle.run_jobs.specs.Jobs.{Batch, jobs_fault}
use Rattle.run_jobs.specs.States.{is_state_passed}
use Rattle.run_jobs.specs.Waves.{ComesTo}
use Rattle.run_cli.specs.Call.{Reading, Writing, HasReadFault, HasWriteFault}
use Rattle.run_cli.specs.Cause.{Gets}
use Rattle.run_cli.specs.Given.{IsTooLong}
use Rattle.run_cli.proofs.CauseLemmas.{all_given, never_refused, not_too_long}
use Rattle.run_cli.proofs.EndLemmas.{rose_then, some_is}
use Rattle.run_jobs_cli.specs.declared.fault.JobsFault.{JobsFault}
use Rattle.run_jobs_cli.specs.declared.fault.JobsFault.TheVariants as faults
use Rattle.run_jobs_cli.specs.Faults.{jobs_fault_status}
use Rattle.run_jobs_cli.specs.JobsCauses.{GetsBy, GetsJobs, GetsStates, IsStatesStatus, jobs_statuses}
use Rattle.run_jobs_cli.specs.JobsEnds.{EndsAtJobsFault, EndsAtStates}
use Rattle.run_jobs_cli.specs.JobsGiven.{AreBadJobs, AreGoodJobs, GivesLines, IsJobsFault, refusal_fault}
use Rattle.run_jobs_cli.specs.RunsJobs.{IsWavesEnd, RunsJobs, waves_status}
use Rattle.run_jobs_cli.specs.StateLines.{states_status}
use Rattle.run_jobs_cli.specs.WaveLines.{IsFirstBadJobs, IsJobsInput}
use Rattle.run_jobs_cli.proofs.SaidLemmas.{jobs_or_bad, one_batch, same_lines}

-- ---- statuses

pub listed : (k status : ℕ) → k < 13 → slice_index_or jobs_statuses k status ≡ status → Contains jobs_statuses status
listed k status within is = (k, within, is)

pub fault_gets : (w : Writing) (fault : JobsFault) (status : ℕ) → EndsAtJobsFault w [] fault status
    → Gets status (jobs_fault_status fault)
fault_gets w fault status (inl (is, short)) = inr is
fault_gets w fault status (inr (is, le, writes)) = inl is

known_by : (status expected : ℕ) → Gets status expected → Contains jobs_statuses expected
    → Contains jobs_statuses status
known_by status expected (inl is) known = subst (Contains jobs_statuses) (sym is) known
known_by status expected (inr is) known = subst (Contains jobs_statuses) (sym is) (listed 9 11 (omega arith) refl)

-- a status that says nothing of the source or the sink failing, and isn't that of states
pub record IsPlain (status : ℕ) : Type 0 where
  pub known : Contains jobs_statuses status
  pub not_read : status ≡ 10 → ⊥
  pub not_unwritten : status ≡ 9 → ⊥
  pub not_states : IsStatesStatus status → ⊥

far_from : (n : ℕ) → 0 < n → (n ≡ 4 → ⊥) → n < 100 → IsStatesStatus n → ⊥
far_from n some four below (inl is) = omega arith
far_from n some four below (inr (inl is)) = four is
far_from n some four below (inr (inr is)) = omega arith

plain_one : (n : ℕ) → Contains jobs_statuses n → (n ≡ 10 → ⊥) → (n ≡ 9 → ⊥) → 0 < n → (n ≡ 4 → ⊥) → n < 100
    → IsPlain n
plain_one n known ten nine some four below =
    record { known = known; not_read = ten; not_unwritten = nine; not_states = far_from n some four below }

pub plain_11 : IsPlain 11
plain_11 =
    plain_one 11 (listed 9 11 (omega arith) refl) (λ e. omega arith) (λ e. omega arith) (omega arith)
    (λ e. omega arith) (omega arith)

plain_by : (status expected : ℕ) → Gets status expected → IsPlain expected → IsPlain status
plain_by status expected (inl is) x = subst IsPlain (sym is) x
plain_by status expected (inr is) x = subst IsPlain (sym is) plain_11

plain_3 : IsPlain 3
plain_3 =
    plain_one 3 (listed 1 3 (omega arith) refl) (λ e. omega arith) (λ e. omega arith) (omega arith)
    (λ e. omega arith) (omega arith)

plain_5 : IsPlain 5
plain_5 =
    plain_one 5 (listed 3 5 (omega arith) refl) (λ e. omega arith) (λ e. omega arith) (omega arith)
    (λ e. omega arith) (omega arith)

pub plain_6 : IsPlain 6
plain_6 =
    plain_one 6 (listed 4 6 (omega arith) refl) (λ e. omega arith) (λ e. omega arith) (omega arith)
    (λ e. omega arith) (omega arith)

pub plain_7 : IsPlain 7
plain_7 =
    plain_one 7 (listed 5 7 (omega arith) refl) (λ e. omega arith) (λ e. omega arith) (omega arith)
    (λ e. omega arith) (omega arith)

pub plain_8 : IsPlain 8
plain_8 =
    plain_one 8 (listed 6 8 (omega arith) refl) (λ e. omega arith) (λ e. omega arith) (omega arith)
    (λ e. omega arith) (omega arith)

plain_12 : IsPlain 12
plain_12 =
    plain_one 12 (listed 10 12 (omega arith) refl) (λ e. omega arith) (λ e. omega arith) (omega arith)
    (λ e. omega arith) (omega arith)

pub plain_14 : IsPlain 14
plain_14 =
    plain_one 14 (listed 11 14 (omega arith) refl) (λ e. omega arith) (λ e. omega arith) (omega arith)
    (λ e. omega arith) (omega arith)

-- ---- a source that was read

-- the causes of what lines say
pub record GetsLines (Comes : Batch → List (List Turn) → ℕ → Type 0) (lines : List (List ℕ)) (w : Writing) (status : ℕ)
    : Type 0 where
  pub bad : (number : ℕ) → IsFirstBadJobs lines number → Gets status 3
  pub refused : (batch : Batch) (lists : List (List Turn)) → IsJobsInput lines batch lists → (e : JobsError)
      → jobs_fault batch.threads batch.jobs ≡ Some e → Gets status 5
  pub came : (batch : Batch) (lists : List (List Turn)) → IsJobsInput lines batch lists
      → jobs_fault batch.threads batch.jobs ≡ None → ¬ HasWriteFault w → Comes batch lists status

gets_given : (Comes : Batch → List (List Turn) → ℕ → Type 0) (r : Reading) (w : Writing) (status : ℕ)
    (Given : List (List ℕ) → Type 0) → (g : GivesLines r Given)
    → Contains jobs_statuses status → (status ≡ 10 → ⊥) → (status ≡ 9 → HasWriteFault w)
    → (IsStatesStatus status → w.faults_after ≡ w.faults) → GetsLines Comes (lines_of g.bytes) w status
    → GetsBy Comes r w status
gets_given Comes r w status Given g known never unwritten written gets =
    let calm = g.calm in
    record {
      known = known;
      unread = λ lt. absurd (omega arith);
      read = λ is. absurd (never is);
      too_much = λ still much.
          let same = all_given r.left r.left_after much.bytes g.bytes much.told g.all.given g.all.end in
          let above = subst (λ (bytes : List ℕ). 16777216 < length bytes) same much.above in
          let within = g.all.within in absurd (omega arith);
      bad_line = λ still number has. gets.bad number (same_lines r _ Given has g);
      refused = λ still batch lists has e is. gets.refused batch lists (same_lines r _ Given has g) e is;
      came = λ still batch lists has is quiet.
          gets.came batch lists (same_lines r _ Given has g) is quiet;
      unwritten = unwritten;
      written = written;
    }

gets_plain : (Comes : Batch → List (List Turn) → ℕ → Type 0) (r : Reading) (w : Writing) (status : ℕ)
    (Given : List (List ℕ) → Type 0) → (g : GivesLines r Given)
    → IsPlain status → GetsLines Comes (lines_of g.bytes) w status → GetsBy Comes r w status
gets_plain Comes r w status Given g x gets =
    gets_given Comes r w status Given g x.known x.not_read (λ is. absurd (x.not_unwritten is))
    (λ is. absurd (x.not_states is)) gets

-- a bad line
line_gets : (Comes : Batch → List (List Turn) → ℕ → Type 0) (r : Reading) (w : Writing) (status number : ℕ)
    → GivesLines r (λ lines. IsFirstBadJobs lines number)
    → Gets status 3 → GetsBy Comes r w status
line_gets Comes r w status number g is =
    gets_plain Comes r w status (λ lines. IsFirstBadJobs lines number) g (plain_by status 3 is plain_3) (record {
      bad = λ n bad. is;
      refused = λ batch lists says e fault. jobs_or_bad (lines_of g.bytes) batch lists number says g.holds;
      came = λ batch lists says none quiet.
          jobs_or_bad (lines_of g.bytes) batch lists number says g.holds;
    })

-- jobs that are refused
refusal_status : (threads : ℕ) (jobs : List Job) (e : JobsError) (status : ℕ) → jobs_fault threads jobs ≡ Some e
    → Gets status (jobs_fault_status (refusal_fault e)) → Gets status 5
refusal_status threads list jobs.ZeroThreads status is gets = gets
refusal_status threads list (jobs.DuplicateName job) status is gets = gets
refusal_status threads list (jobs.BadAfter job after) status is gets = gets
refusal_status threads list jobs.OutOfMemory status is (inl eleven) = inr eleven
refusal_status threads list jobs.OutOfMemory status is (inr eleven) = inr eleven

jobs_gets : (Comes : Batch → List (List Turn) → ℕ → Type 0) (r : Reading) (w : Writing) (status : ℕ)
    (fault : JobsFault)
    → GivesLines r (λ lines. AreBadJobs lines fault) → Gets status (jobs_fault_status fault) → GetsBy Comes r w status
jobs_gets Comes r w status fault g gets =
    let x = g.holds in
    let five : Gets status 5 = refusal_status x.0.threads x.0.jobs x.3.0 status x.3.1
    (subst (λ f. Gets status (jobs_fault_status f)) x.3.2 gets) in
    gets_plain Comes r w status (λ lines. AreBadJobs lines fault) g (plain_by status 5 five plain_5) (record {
      bad = λ n bad. jobs_or_bad (lines_of g.bytes) x.0 x.1 n x.2 bad;
      refused = λ batch lists says e is. five;
      came = λ batch lists says none quiet.
          let same = one_batch (lines_of g.bytes) x.0 batch x.1 lists x.2 says in
          never_refused (jobs_fault x.0.threads x.0.jobs) x.3.0
          (subst (λ (b : Batch). jobs_fault b.threads b.jobs ≡ None) same.0 none) x.3.1;
    })

-- ---- a source that was not read

read_gets : (Comes : Batch → List (List Turn) → ℕ → Type 0) (r : Reading) (w : Writing) (status : ℕ)
    → HasReadFault r → Gets status 10 → GetsBy Comes r w status
read_gets Comes r w status rose gets = record {
  known = known_by status 10 gets (listed 8 10 (omega arith) refl);
  unread = λ lt. gets;
  read = λ is. rose;
  too_much = λ still much. absurd (still rose);
  bad_line = λ still number has. absurd (still rose);
  refused = λ still batch lists has e is. absurd (still rose);
  came = λ still batch lists has none quiet. absurd (still rose);
  unwritten = λ is. absurd (ten_or_nine gets is);
  written = λ is. absurd (ten_or_states gets is);
}
  where
    ten_or_nine : Gets status 10 → status ≡ 9 → ⊥
    ten_or_nine (inl ten) nine = omega arith
    ten_or_nine (inr eleven) nine = omega arith

    ten_or_states : Gets status 10 → IsStatesStatus status → ⊥
    ten_or_states (inl ten) states = far_from status (omega arith) (λ e. omega arith) (omega arith) states
    ten_or_states (inr eleven) states = far_from status (omega arith) (λ e. omega arith) (omega arith) states

long_gets : (Comes : Batch → List (List Turn) → ℕ → Type 0) (r : Reading) (w : Writing) (status : ℕ) → IsTooLong r
    → r.faults_after ≡ r.faults → Gets status 12
    → GetsBy Comes r w status
long_gets Comes r w status long calm gets =
    let x = plain_by status 12 gets plain_12 in
    record {
      known = x.known;
      unread = λ lt. absurd (omega arith);
      read = λ is. absurd (x.not_read is);
      too_much = λ still much. gets;
      bad_line = λ still number has. absurd (not_too_long r has.bytes has.told has.within long);
      refused = λ still batch lists has e is. absurd (not_too_long r has.bytes has.told has.within long);
      came = λ still batch lists has none quiet.
          absurd (not_too_long r has.bytes has.told has.within long);
      unwritten = λ is. absurd (x.not_unwritten is);
      written = λ is. absurd (x.not_states is);
    }

memory_gets : (Comes : Batch → List (List Turn) → ℕ → Type 0) (r : Reading) (w : Writing) (status : ℕ)
    → ((batch : Batch) (lists : List (List Turn)) → Comes batch lists 11) → r.faults_after ≡ r.faults → status ≡ 11
    → GetsBy Comes r w status
memory_gets Comes r w status eleven calm is =
    let x : IsPlain status = subst IsPlain (sym is) plain_11 in
    record {
      known = x.known;
      unread = λ lt. inr is;
      read = λ ten. absurd (x.not_read ten);
      too_much = λ still much. inr is;
      bad_line = λ still number has. inr is;
      refused = λ still batch lists has e fault. inr is;
      came = λ still batch lists has none quiet. subst (Comes batch lists) (sym is) (eleven batch lists);
      unwritten = λ nine. absurd (x.not_unwritten nine);
      written = λ states. absurd (x.not_states states);
    }

pub same_eleven : (status : ℕ) → Gets status 11 → status ≡ 11
same_eleven status (inl is) = is
same_eleven status (inr is) = is

-- a fault before the first wave gets its status
pub fault_causes : (Comes : Batch → List (List Turn) → ℕ → Type 0) (r : Reading) (w : Writing) (fault : JobsFault)
    (status : ℕ) → ((batch : Batch) (lists : List (List Turn)) → Comes batch lists 11) → IsJobsFault r fault
    → EndsAtJobsFault w [] fault status → GetsBy Comes r w status
fault_causes Comes r w (faults.Plain plain.Read) status eleven why ends =
    read_gets Comes r w status why.1 (fault_gets w (faults.Plain plain.Read) status ends)
fault_causes Comes r w (faults.Plain plain.TooLong) status eleven why ends =
    long_gets Comes r w status why.0 why.1 (fault_gets w (faults.Plain plain.TooLong) status ends)
fault_causes Comes r w (faults.Plain plain.Memory) status eleven why ends =
    memory_gets Comes r w status eleven why (same_eleven status (fault_gets w (faults.Plain plain.Memory) status ends))
fault_causes Comes r w (faults.Plain (plain.Line number)) status eleven why ends =
    line_gets Comes r w status number why (fault_gets w (faults.Plain (plain.Line number)) status ends)
fault_causes Comes r w (faults.Plain plain.Words) status eleven why ends = absurd why.holds
fault_causes Comes r w (faults.Plain (plain.Plan fault)) status eleven why ends = absurd why.holds
fault_causes Comes r w (faults.Plain (plain.NotEnabled turn)) status eleven why ends = absurd why.holds
fault_causes Comes r w (faults.Plain (plain.ThirdSignal turn)) status eleven why ends = absurd why.holds
fault_causes Comes r w (faults.Plain plain.Unfinished) status eleven why ends = absurd why.holds
fault_causes Comes r w (faults.Plain plain.Report) status eleven why ends = absurd why.holds
fault_causes Comes r w faults.ZeroThreads status eleven why ends =
    jobs_gets Comes r w status faults.ZeroThreads why (fault_gets w faults.ZeroThreads status ends)
fault_causes Comes r w (faults.DuplicateName job) status eleven why ends =
    jobs_gets Comes r w status (faults.DuplicateName job) why (fault_gets w (faults.DuplicateName job) status ends)
fault_causes Comes r w (faults.BadAfter job) status eleven why ends =
    jobs_gets Comes r w status (faults.BadAfter job) why (fault_gets w (faults.BadAfter job) status ends)
fault_causes Comes r w (faults.NotEnabled turn wave) status eleven why ends =
    jobs_gets Comes r w status (faults.NotEnabled turn wave) why
    (fault_gets w (faults.NotEnabled turn wave) status ends)
fault_causes Comes r w (faults.ThirdSignal turn wave) status eleven why ends =
    jobs_gets Comes r w status (faults.ThirdSignal turn wave) why
    (fault_gets w (faults.ThirdSignal turn wave) status ends)
fault_causes Comes r w (faults.Unfinished wave) status eleven why ends =
    jobs_gets Comes r w status (faults.Unfinished wave) why (fault_gets w (faults.Unfinished wave) status ends)
fault_causes Comes r w (faults.Extra due given) status eleven why ends =
    jobs_gets Comes r w status (faults.Extra due given) why (fault_gets w (faults.Extra due given) status ends)

-- ---- jobs that ran

-- a status by what it says of the sink: that of states, where it didn't fail; 9, where it did; or another
pub data ShowsSink (w : Writing) (status : ℕ) : Type 0 where
  whole : Contains jobs_statuses status → IsStatesStatus status → w.faults_after ≡ w.faults → ShowsSink w status
  failed : status ≡ 9 → HasWriteFault w → ShowsSink w status
  other : IsPlain status → ShowsSink w status

states_known : (states : List JobState)
    → Contains jobs_statuses (states_status states) × IsStatesStatus (states_status states)
states_known [] = (listed 2 4 (omega arith) refl, inr (inl refl))
states_known (state ∷ states) = by_all (list_all is_state_passed (state ∷ states))
  where
    by_all : (b : Bool) → Contains jobs_statuses (if b then 0 else 100) × IsStatesStatus (if b then 0 else 100)
    by_all true = (listed 0 0 (omega arith) refl, inl refl)
    by_all false = (listed 12 100 (omega arith) refl, inr (inr refl))

shows_states : (w : Writing) (before : List ℕ) (list : List Job) (states : List JobState) (status : ℕ)
    → EndsAtStates w before list states status → ShowsSink w status
shows_states w before list states status (inl (is, took, calm)) =
    let known = states_known states in
    whole (subst (Contains jobs_statuses) (sym is) known.0) (subst IsStatesStatus (sym is) known.1) calm
shows_states w before list states status (inr (inl (is, front, le, rose))) = failed is rose
shows_states w before list states status (inr (inr (is, short))) = other (subst IsPlain (sym is) plain_11)

pub shows_fault : (w : Writing) (before : List ℕ) (fault : JobsFault) (status : ℕ) → IsPlain (jobs_fault_status fault)
    → EndsAtJobsFault w before fault status → IsPlain status
shows_fault w before fault status x (inl (is, short)) = subst IsPlain (sym is) plain_11
shows_fault w before fault status x (inr (is, le, writes)) = subst IsPlain (sym is) x

shows_report : (v w : Writing) (status : ℕ) → v.faults_after ≡ w.faults_after → Rose w.faults v.faults
    → EndsAtJobsFault v [] (faults.Plain plain.Report) status → ShowsSink w status
shows_report v w status same rose (inl (is, short)) = other (subst IsPlain (sym is) plain_11)
shows_report v w status same rose (inr (is, le, writes)) =
    failed is (rose_then w.faults v.faults w.faults_after rose (omega arith))

shows_end : (batch : Batch) (lists : List (List Turn)) (w : Writing) (status : ℕ)
    (answer : Result (List JobState) (WavesError Failed)) → IsWavesEnd batch lists w status answer → ShowsSink w status
shows_end batch lists w status (Ok states) (waves, ran, due, all, are, ends) =
    shows_states w _ batch.jobs states status ends
shows_end batch lists w status (Err (errors.Wave n (engine.NotEnabled t))) (waves, ran, due, is, (turns, given, x)) =
    other (shows_fault _ [] (faults.NotEnabled t n) status plain_6 x.last)
shows_end batch lists w status (Err (errors.Wave n (engine.ThirdSignal t))) (waves, ran, due, is, (turns, given, x)) =
    other (shows_fault _ [] (faults.ThirdSignal t n) status plain_7 x.last)
shows_end batch lists w status (Err (errors.Wave n engine.Unfinished)) (waves, ran, due, is, (turns, given, x)) =
    other (shows_fault _ [] (faults.Unfinished n) status plain_8 x.last)
shows_end batch lists w status (Err (errors.Wave n (engine.Report e))) (waves, ran, due, is, (turns, given, x)) =
    shows_report (record w { taken = x.after; faults = x.count }) w status refl
    (x.risen (some_is x.refusal e x.says.2)) x.last
shows_end batch lists w status (Err (errors.Wave n engine.OutOfMemory)) (waves, ran, due, is, (turns, given, eleven)) =
    other (subst IsPlain (sym eleven) plain_11)
shows_end batch lists w status (Err (errors.Missing n)) (waves, ran, due, is, none, ends) =
    other (shows_fault w _ (faults.Unfinished n) status plain_8 ends)
shows_end batch lists w status (Err (errors.Extra given due_count)) (waves, ran, due, is, are, more, ends) =
    other (shows_fault w _ (faults.Extra due_count given) status plain_14 ends)
shows_end batch lists w status (Err errors.OutOfMemory) eleven = other (subst IsPlain (sym eleven) plain_11)

shown_gets : (Comes : Batch → List (List Turn) → ℕ → Type 0) (r : Reading) (w : Writing) (status : ℕ)
    (Given : List (List ℕ) → Type 0) → (g : GivesLines r Given)
    → GetsLines Comes (lines_of g.bytes) w status → ShowsSink w status → GetsBy Comes r w status
shown_gets Comes r w status Given g gets (whole known states calm) =
    gets_given Comes r w status Given g known
    (λ is. far_from status (omega arith) (λ e. omega arith) (omega arith) states)
    (λ is. absurd (far_from status (omega arith) (λ e. omega arith) (omega arith) states)) (λ s. calm) gets
shown_gets Comes r w status Given g gets (failed is rose) =
    gets_given Comes r w status Given g (subst (Contains jobs_statuses) (sym is) (listed 7 9 (omega arith) refl))
    (λ ten. omega arith) (λ nine. rose)
    (λ states. absurd (far_from status (omega arith) (λ e. omega arith) (omega arith) states)) gets
shown_gets Comes r w status Given g gets (other x) = gets_plain Comes r w status Given g x gets

-- jobs that are taken get the status that their lists give
pub taken_gets : (Comes : Batch → List (List Turn) → ℕ → Type 0) (r : Reading) (w : Writing) (batch : Batch)
    (lists : List (List Turn)) (status : ℕ) → GivesLines r (λ lines. AreGoodJobs lines batch lists)
    → (¬ HasWriteFault w → Comes batch lists status) → ShowsSink w status → GetsBy Comes r w status
taken_gets Comes r w batch lists status g comes shows =
    let x = g.holds in
    shown_gets Comes r w status (λ lines. AreGoodJobs lines batch lists) g (record {
      bad = λ n bad. jobs_or_bad (lines_of g.bytes) batch lists n x.0 bad;
      refused = λ b ls says e is.
          let same = one_batch (lines_of g.bytes) batch b lists ls x.0 says in
          never_refused (jobs_fault batch.threads batch.jobs) e x.1
          (subst (λ (c : Batch). jobs_fault c.threads c.jobs ≡ Some e) same.0 is);
      came = λ b ls says none quiet.
          let same = one_batch (lines_of g.bytes) batch b lists ls x.0 says in
          subst (λ c. Comes c ls status) (sym same.0) (subst (λ l. Comes batch l status) (sym same.1) (comes quiet));
    }) shows

pub run_causes : (r : Reading) (w : Writing) (batch : Batch) (lists : List (List Turn)) (status : ℕ)
    → GivesLines r (λ lines. AreGoodJobs lines batch lists) → RunsJobs batch lists w status
    → (¬ HasWriteFault w → GetsStates batch lists status) → GetsJobs r w status
run_causes r w batch lists status g (answer, ends) comes =
    taken_gets GetsStates r w batch lists status g comes (shows_end batch lists w status answer ends)

pub states_eleven : (batch : Batch) (lists : List (List Turn)) → GetsStates batch lists 11
states_eleven batch lists answer comes = inr refl
