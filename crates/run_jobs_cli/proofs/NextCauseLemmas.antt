-- Each cause gives the status of the wave that is due next.
use Rattle.std.proofs.Common.{◌≡◌, ◌∙◌, ℕ, ◌⊎◌, inl, inr, List, [], length, slice_get, Bool, true, false, Some}
use Rattle.std.proofs.Common.{Result, Ok, Err, refl, sym, ap, subst, arith}
use Rattle.std.specs.List.{Contains}
use Rattle.std.specs.declared.convert.Infallible.{Infallible}
use Rattle.run_events.specs.declared.turn.Turn.{Turn}
use Rattle.run_engine.specs.declared.errors.TestRunnerExecuteErrors.TheVariants as engine
use Rattle.run_output.specs.declared.fault.Fault.TheVariants as plain
use Rattle.run_jobs.specs.declared.job.JobState.{JobState}
use Rattle.run_jobs.specs.declared.waves_error.WavesError.{WavesError}
use Rattle.run_jobs.specs.declared.waves_error.WavesError.TheVariants as errors
use Rattle.run_jobs.specs.Jobs.{Batch}
use Rattle.run_jobs.specs.States.{Wave}
use Rattle.run_jobs.specs.Waves.{ComesTo, HaveRun, is_next_due}
use Rattle.run_jobs.proofs.OneLemmas.{in_error, no_list, not_due, one_answer, one_list}
use Rattle.run_cli.specs.Call.{Reading, Writing, HasWriteFault}
use Rattle.run_cli.specs.Cause.{Gets}
use Rattle.run_jobs_cli.specs.declared.fault.JobsFault.{JobsFault}
use Rattle.run_jobs_cli.specs.declared.fault.JobsFault.TheVariants as faults
use Rattle.run_jobs_cli.specs.Faults.{jobs_fault_status}
use Rattle.run_jobs_cli.specs.JobsCauses.{jobs_statuses, IsStatesStatus}
use Rattle.run_jobs_cli.specs.JobsEnds.{EndsAtJobsFault}
use Rattle.run_jobs_cli.specs.JobsGiven.{AreGoodJobs, GivesLines, IsJobsFault}
use Rattle.run_jobs_cli.specs.NextCauses.{GetsNext, GetsNextWave, next_status}
use Rattle.run_jobs_cli.specs.NextWaves.{EndsAtLine, EndsAtNext, FindsNext, is_missing}
use Rattle.run_jobs_cli.specs.RunsJobs.{waves_fault}
use Rattle.run_jobs_cli.proofs.CauseLemmas.{IsPlain, ShowsSink, failed, fault_causes, fault_gets, listed, other}
use Rattle.run_jobs_cli.proofs.CauseLemmas.{plain_6, plain_7, plain_8, plain_11, plain_14, same_eleven, shows_fault}
use Rattle.run_jobs_cli.proofs.CauseLemmas.{taken_gets, whole}

-- ---- what a status says of the sink

no_hundred : (fault : JobsFault) → jobs_fault_status fault ≡ 100 → ⊥
no_hundred (faults.Plain plain.Words) is = omega arith
no_hundred (faults.Plain (plain.Line number)) is = omega arith
no_hundred (faults.Plain (plain.Plan fault)) is = omega arith
no_hundred (faults.Plain (plain.NotEnabled turn)) is = omega arith
no_hundred (faults.Plain (plain.ThirdSignal turn)) is = omega arith
no_hundred (faults.Plain plain.Unfinished) is = omega arith
no_hundred (faults.Plain plain.Report) is = omega arith
no_hundred (faults.Plain plain.Read) is = omega arith
no_hundred (faults.Plain plain.Memory) is = omega arith
no_hundred (faults.Plain plain.TooLong) is = omega arith
no_hundred faults.ZeroThreads is = omega arith
no_hundred (faults.DuplicateName job) is = omega arith
no_hundred (faults.BadAfter job) is = omega arith
no_hundred (faults.NotEnabled turn wave) is = omega arith
no_hundred (faults.ThirdSignal turn wave) is = omega arith
no_hundred (faults.Unfinished wave) is = omega arith
no_hundred (faults.Extra due given) is = omega arith

fault_below : (w : Writing) (fault : JobsFault) (status : ℕ) → EndsAtJobsFault w [] fault status → status ≡ 100 → ⊥
fault_below w fault status (inl (is, short)) e = omega arith
fault_below w fault status (inr (is, le, writes)) e = no_hundred fault (sym is ∙ e)

line_shows : (w : Writing) (line : List ℕ) (wanted status : ℕ) → Contains jobs_statuses wanted → IsStatesStatus wanted
    → EndsAtLine w line wanted status → ShowsSink w status
line_shows w line wanted status known states (inl (is, took, calm)) =
    whole (subst (Contains jobs_statuses) (sym is) known) (subst IsStatesStatus (sym is) states) calm
line_shows w line wanted status known states (inr (inl (is, front, le, rose))) = failed is rose
line_shows w line wanted status known states (inr (inr (is, short))) = other (subst IsPlain (sym is) plain_11)

line_below : (w : Writing) (line : List ℕ) (wanted status : ℕ) → (wanted ≡ 100 → ⊥) → EndsAtLine w line wanted status
    → status ≡ 100 → ⊥
line_below w line wanted status below (inl (is, took, calm)) e = below (sym is ∙ e)
line_below w line wanted status below (inr (inl (is, front, le, rose))) e = omega arith
line_below w line wanted status below (inr (inr (is, short))) e = omega arith

error_plain : (batch : Batch) (lists : List (List Turn)) (e : WavesError Infallible)
    → ComesTo {E = Infallible} batch lists (Err e) → is_missing e ≡ false → IsPlain (jobs_fault_status (waves_fault e))
error_plain batch lists (errors.Wave n (engine.NotEnabled turn)) comes unlike = plain_6
error_plain batch lists (errors.Wave n (engine.ThirdSignal turn)) comes unlike = plain_7
error_plain batch lists (errors.Wave n engine.Unfinished) comes unlike = plain_8
error_plain batch lists (errors.Wave n (engine.Report e)) comes unlike = absurd comes.4.2
error_plain batch lists (errors.Wave n engine.OutOfMemory) comes unlike = absurd comes.4.2
error_plain batch lists (errors.Missing n) comes unlike = cc
error_plain batch lists (errors.Extra given due) comes unlike = plain_14
error_plain batch lists errors.OutOfMemory comes unlike = absurd comes

next_shows : (batch : Batch) (lists : List (List Turn)) (w : Writing) (status : ℕ)
    (found : Result (List ℕ × ℕ) JobsFault) → FindsNext batch lists found → EndsAtNext w status found
    → ShowsSink w status × (status ≡ 100 → ⊥)
next_shows batch lists w status (Ok (line, n)) (waves, ran, count, inl (due, says, is)) ends =
    let at : EndsAtLine w line 0 status = subst (λ k. EndsAtLine w line k status) is ends in (
      line_shows w line 0 status (listed 0 0 (omega arith) refl) (inl refl) at,
      line_below w line 0 status (λ e. omega arith) at,
    )
next_shows batch lists w status (Ok (line, n)) (waves, ran, count, inr (due, text, is)) ends =
    let at : EndsAtLine w line 4 status = subst (λ k. EndsAtLine w line k status) is ends in (
      line_shows w line 4 status (listed 2 4 (omega arith) refl) (inr (inl refl)) at,
      line_below w line 4 status (λ e. omega arith) at,
    )
next_shows batch lists w status (Err fault) (inl is) ends = (
  other (shows_fault w [] fault status (subst (λ f. IsPlain (jobs_fault_status f)) (sym is) plain_11) ends),
  fault_below w fault status ends,
)
next_shows batch lists w status (Err fault) (inr (e, comes, unlike, is)) ends = (
  other (shows_fault w [] fault status
      (subst (λ f. IsPlain (jobs_fault_status f)) (sym is) (error_plain batch lists e comes unlike)) ends),
  fault_below w fault status ends,
)

-- ---- what lists come to gives the status

calm_line : (w : Writing) (line : List ℕ) (wanted status : ℕ) → EndsAtLine w line wanted status → ¬ HasWriteFault w
    → Gets status wanted
calm_line w line wanted status (inl (is, took, calm)) quiet = inl is
calm_line w line wanted status (inr (inl (is, front, le, rose))) quiet = absurd (quiet rose)
calm_line w line wanted status (inr (inr (is, short))) quiet = inr is

due_status : (batch : Batch) (lists : List (List Turn)) (waves : List Wave) → HaveRun batch lists waves
    → length waves ≡ length lists → is_next_due batch waves ≡ true
    → (answer : Result (List JobState) (WavesError Infallible)) → ComesTo {E = Infallible} batch lists answer
    → 0 ≡ next_status answer
due_status batch lists waves ran count due answer comes =
    ap next_status (one_answer batch lists (Err (errors.Missing (length waves))) answer
    (waves, ran, due, refl, sym count) comes)

true_false : (b : Bool) → b ≡ false → b ≡ true → ⊥
true_false true is_false is_true = cc
true_false false is_false is_true = cc

none_status : (batch : Batch) (lists : List (List Turn)) (waves : List Wave) → HaveRun batch lists waves
    → length waves ≡ length lists → is_next_due batch waves ≡ false
    → (answer : Result (List JobState) (WavesError Infallible)) → ComesTo {E = Infallible} batch lists answer
    → 4 ≡ next_status answer
none_status batch lists waves ran count none (Ok states) comes = refl
none_status batch lists waves ran count none (Err (errors.Wave n e)) (others, too, due, is, (turns, given, comes)) =
    let same : waves ≡ others =
    one_list batch lists waves others ran too (not_due batch lists waves none)
    (in_error batch lists others turns e (subst (λ m. slice_get lists m ≡ Some turns) is given) comes) in
    absurd (true_false (is_next_due batch waves) none (ap (is_next_due batch) same ∙ due))
none_status batch lists waves ran count none (Err (errors.Missing n)) (others, too, due, is, all) =
    let same : waves ≡ others =
    one_list batch lists waves others ran too (not_due batch lists waves none)
    (no_list batch lists others (all ∙ is)) in
    absurd (true_false (is_next_due batch waves) none (ap (is_next_due batch) same ∙ due))
none_status batch lists waves ran count none (Err (errors.Extra given n)) (others, too, due, is, all, more) =
    let same : waves ≡ others =
    one_list batch lists waves others ran too (not_due batch lists waves none) (not_due batch lists others due) in
    absurd (omega (arith, ap length same, is, all, more, count))
none_status batch lists waves ran count none (Err errors.OutOfMemory) comes = absurd comes

error_status : (e : WavesError Infallible) → is_missing e ≡ false
    → jobs_fault_status (waves_fault e) ≡ next_status (Err e)
error_status (errors.Wave n e) unlike = refl
error_status (errors.Missing n) unlike = cc
error_status (errors.Extra given due) unlike = refl
error_status errors.OutOfMemory unlike = refl

next_comes : (batch : Batch) (lists : List (List Turn)) (w : Writing) (status : ℕ)
    (found : Result (List ℕ × ℕ) JobsFault) → FindsNext batch lists found → EndsAtNext w status found
    → ¬ HasWriteFault w → GetsNext batch lists status
next_comes batch lists w status (Ok (line, n)) (waves, ran, count, inl (due, says, is)) ends quiet answer comes =
    subst (Gets status) (is ∙ due_status batch lists waves ran count due answer comes)
    (calm_line w line n status ends quiet)
next_comes batch lists w status (Ok (line, n)) (waves, ran, count, inr (none, text, is)) ends quiet answer comes =
    subst (Gets status) (is ∙ none_status batch lists waves ran count none answer comes)
    (calm_line w line n status ends quiet)
next_comes batch lists w status (Err fault) (inl is) ends quiet answer comes =
    inr (same_eleven status (subst (λ f. Gets status (jobs_fault_status f)) is (fault_gets w fault status ends)))
next_comes batch lists w status (Err fault) (inr (e, stops, unlike, is)) ends quiet answer comes =
    subst (Gets status)
    (ap jobs_fault_status is ∙ error_status e unlike
    ∙ ap next_status (one_answer batch lists (Err e) answer stops comes))
    (fault_gets w fault status ends)

-- ---- the call

pub next_causes : (r : Reading) (w : Writing) (batch : Batch) (lists : List (List Turn)) (status : ℕ)
    (found : Result (List ℕ × ℕ) JobsFault) → GivesLines r (λ lines. AreGoodJobs lines batch lists)
    → FindsNext batch lists found → EndsAtNext w status found → GetsNextWave r w status
next_causes r w batch lists status found g finds ends =
    let shows = next_shows batch lists w status found finds ends in (
      taken_gets GetsNext r w batch lists status g (next_comes batch lists w status found finds ends) shows.0,
      shows.1,
    )

pub early_causes : (r : Reading) (w : Writing) (fault : JobsFault) (status : ℕ) → IsJobsFault r fault
    → EndsAtJobsFault w [] fault status → GetsNextWave r w status
early_causes r w fault status why ends = (
  fault_causes GetsNext r w fault status (λ batch lists answer comes. inr refl) why ends,
  fault_below w fault status ends,
)
