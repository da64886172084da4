-- The waves that are due, up to the last one.
use Rattle.std.proofs.Common.{◌≡◌, ◌∙◌, ℕ, zero, suc, ◌+◌, ◌<◌, ◌≤◌, List, [], ◌∷◌, length}
use Rattle.std.proofs.Common.{take}
use Rattle.std.proofs.Common.{Bool, true, false, not, filter, ◌&&◌, nat_lt, get_or, Option, Some, None, IsSome}
use Rattle.std.proofs.Common.{Result, Ok, Err}
use Rattle.std.proofs.Common.{slice_get, refl, sym, ap, subst, arith, length-take-le}
use Rattle.std.specs.List.{All, list_any}
use Rattle.std.proofs.lemmas.List.Elements.{All-nil, All-head, All-tail, All-push, All-weaker}
use Rattle.std.proofs.lemmas.Option.{slice_get_past}
use Rattle.run_events.specs.declared.ask.Ask.{Ask}
use Rattle.run_events.specs.declared.events.ReporterEvent.{ReporterEvent}
use Rattle.run_events.specs.declared.turn.Turn.{Turn}
use Rattle.run_engine.specs.Execution.{Executes, UnlessMemory}
use Rattle.run_engine.specs.World.{Outside, outside}
use Rattle.run_engine.specs.declared.errors.TestRunnerExecuteErrors.{TestRunnerExecuteErrors}
use Rattle.run_engine.specs.declared.errors.TestRunnerExecuteErrors.TheVariants as engine
use Rattle.run_jobs.specs.declared.job.Job.{Job}
use Rattle.run_jobs.specs.declared.job.JobState.{JobState}
use Rattle.run_jobs.specs.declared.ledger.Results.{Results}
use Rattle.run_jobs.specs.declared.waves_error.WavesError.{WavesError}
use Rattle.run_jobs.specs.declared.waves_error.WavesError.TheVariants as errors
use Rattle.run_jobs.specs.Jobs.{Batch, after_of}
use Rattle.run_jobs.specs.Levels.{AreOrdered, AreLow, at_level, first_levels, job_level, level_after, levels_of}
use Rattle.run_jobs.specs.Next.{AnswersDue, AnswersNext, FinishesWaves, IsQuiet}
use Rattle.run_jobs.specs.Settled.{AreKnown, GivesResults}
use Rattle.run_jobs.specs.States.{Wave, first_states, is_job_ready, job_state, ready_jobs, ready_state, states_after}
use Rattle.run_jobs.specs.WavePlan.{wave_settings}
use Rattle.run_jobs.specs.Waves.{AnswersWaves, HaveRun, TellsAndStops, TellsWaves, ended_cancelled, is_next_due}
use Rattle.run_jobs.specs.Waves.{next_jobs}
use Rattle.run_jobs.specs.Waves.{next_settings}
use Rattle.run_jobs.proofs.FaultLemmas.{none_there, there_within}
use Rattle.run_jobs.proofs.AcceptLemmas.{few_places}
use Rattle.run_jobs.proofs.LevelLemmas.{length-levels, small_more}
use Rattle.run_jobs.proofs.PlaceLemmas.{places_all}
use Rattle.run_jobs.proofs.StateLemmas.{length-states, ready_known}
use Rattle.run_jobs.proofs.WaveLemmas.{AreAfter, AreAt, is_above}

-- the level of a job is its number at most
after_small : (levels after : List ℕ) (m : ℕ) → AreLow levels → All (λ a. a < m) after → level_after levels after ≤ m
after_small levels [] m small below = omega arith
after_small levels (a ∷ after) m small below =
    let first : a < m = All-head (λ a. a < m) a after below in
    let rest : level_after levels after ≤ m = after_small levels after m small (All-tail (λ a. a < m) a after below) in
    let low : get_or levels a 0 ≤ a = small a in
    omega arith

small_levels : (jobs : List Job) (n : ℕ) → AreOrdered jobs → AreLow (first_levels jobs n)
small_levels jobs zero ordered = λ k. omega arith
small_levels jobs (suc n) ordered =
    small_more (first_levels jobs n) (level_after (first_levels jobs n) (after_of jobs n)) (small_levels jobs n ordered)
    (subst (λ m. level_after (first_levels jobs n) (after_of jobs n) ≤ m) (sym (length-levels jobs n))
    (after_small (first_levels jobs n) (after_of jobs n) n (small_levels jobs n ordered) (ordered n)))

pub level_within : (jobs : List Job) (k : ℕ) → AreOrdered jobs → job_level jobs k ≤ k
level_within jobs k ordered = small_levels jobs (length jobs) ordered k

-- no job has so high a level
none_of : (xs : List ℕ) → All (λ x. ⊥) xs → xs ≡ []
none_of [] none = refl
none_of (x ∷ xs) none = absurd (All-head (λ x. ⊥) x xs none)

all_bad : (P : ℕ → Type 0) → ((x : ℕ) → P x → ⊥) → (xs : List ℕ) → All P xs → All (λ x. ⊥) xs
all_bad P bad [] all = All-nil (λ x. ⊥)
all_bad P bad (x ∷ xs) all = absurd (bad x (All-head P x xs all))

pub none_at : (jobs : List Job) (states : List (Option JobState)) (w : ℕ) → AreOrdered jobs → length jobs ≤ w
    → ready_jobs jobs states w ≡ []
none_at jobs states w ordered high =
    ap (filter (is_job_ready jobs states))
    (none_of (at_level w 0 (levels_of jobs))
    (all_bad (λ j. (j < length jobs) × (job_level jobs j ≡ w))
    (λ j h. absurd (omega (arith, h.0, h.1, level_within jobs j ordered))) (at_level w 0 (levels_of jobs))
    (places_all jobs w)))

-- the states of all jobs, once those of all levels are known
same_list : {X : Type 0} (xs ys : List X) → length xs ≡ length ys
    → ((k : ℕ) → k < length xs → slice_get xs k ≡ slice_get ys k) → xs ≡ ys
same_list [] [] count each = refl
same_list [] (y ∷ ys) count each = absurd (omega arith)
same_list (x ∷ xs) [] count each = absurd (omega arith)
same_list (x ∷ xs) (y ∷ ys) count each =
    let first : Some x ≡ Some y = each 0 (omega arith) in
    let same : x ≡ y = cc in
    ap (λ z. z ∷ xs) same
    ∙ ap (λ zs. y ∷ zs) (same_list xs ys (omega arith) (λ k below. each (suc k) (omega arith)))

pub known_all : (jobs : List Job) (waves : List Wave) (states : List (Option JobState)) → AreOrdered jobs
    → AreKnown jobs waves states (length jobs) → length states ≡ length jobs → states ≡ states_after jobs waves
known_all jobs waves states ordered known count =
    same_list states (states_after jobs waves) (count ∙ sym (length-states jobs waves (length jobs)))
    (λ k below. known k (omega (arith, below, count))
    (omega (arith, below, count, level_within jobs k ordered)))

all_some : (jobs : List Job) (waves : List Wave) (n : ℕ) → All IsSome (first_states jobs waves n)
all_some jobs waves zero = All-nil IsSome
all_some jobs waves (suc n) =
    All-push IsSome (first_states jobs waves n) (Some (job_state jobs waves (first_states jobs waves n) n))
    (all_some jobs waves n) refl

pub known_some : (jobs : List Job) (waves : List Wave) (states : List (Option JobState)) → AreOrdered jobs
    → AreKnown jobs waves states (length jobs) → length states ≡ length jobs → All IsSome states
known_some jobs waves states ordered known count =
    subst (All IsSome) (sym (known_all jobs waves states ordered known count)) (all_some jobs waves (length jobs))

-- there was a list for each wave that ran
pub enough : (batch : Batch) (lists : List (List Turn)) (waves : List Wave) → HaveRun batch lists waves
    → length waves ≤ length lists
enough batch lists waves have = by_count (length waves) refl
  where
    by_wave : (m : ℕ) → length waves ≡ suc m → (o : Option Wave) → slice_get waves m ≡ o → suc m ≤ length lists
    by_wave m count None at = absurd (none_there waves m (omega (arith, count)) at)
    by_wave m count (Some wave) at =
        let has = have m wave at in
        let place : length (take m waves) ≡ m = length-take-le m waves (omega (arith, count)) in
        omega (arith, there_within lists (length (take m waves)) has.turns has.given, place)

    by_count : (n : ℕ) → length waves ≡ n → length waves ≤ length lists
    by_count zero count = omega (arith, count)
    by_count (suc m) count = let h = by_wave m count (slice_get waves m) refl in omega (arith, h, count)

-- a wave that has no job isn't due
no_job : (batch : Batch) (waves : List Wave) → next_jobs batch waves ≡ [] → is_next_due batch waves ≡ false
no_job batch waves none =
    ap (λ ks. not (list_any (λ (v : Wave). ended_cancelled v.outcome) waves) && nat_lt 0 (length ks)) none
    ∙ never (not (list_any (λ (v : Wave). ended_cancelled v.outcome) waves))
  where
    never : (b : Bool) → (b && false) ≡ false
    never true = refl
    never false = refl

next_is : {R E C : Type 0} (tells : R → List (ReporterEvent × Option E) → Type 0) (asks : C → List (ℕ × Ask) → Type 0)
    (o : Outside R C) (batch : Batch) (lists : List (List Turn)) (states : List (Option JobState)) (w : ℕ)
    → AreOrdered batch.jobs → (at : AreAt tells asks o batch lists states w)
    → ready_jobs batch.jobs states w ≡ next_jobs batch at.waves
next_is tells asks o batch lists states w ordered at =
    ready_known batch.jobs at.waves states w ordered at.known
    ∙ ap (ready_jobs batch.jobs (states_after batch.jobs at.waves)) (sym at.count)

pub none_due : {R E C : Type 0} (tells : R → List (ReporterEvent × Option E) → Type 0)
    (asks : C → List (ℕ × Ask) → Type 0) (o : Outside R C) (batch : Batch) (lists : List (List Turn))
    (states : List (Option JobState)) (w : ℕ) → AreOrdered batch.jobs → AreAt tells asks o batch lists states w
    → ready_jobs batch.jobs states w ≡ [] → AnswersDue {E = E} tells asks o batch lists states (Ok w)
none_due tells asks o batch lists states w ordered at none = (
  at.waves,
  at.have,
  no_job batch at.waves (sym (next_is tells asks o batch lists states w ordered at) ∙ none),
  sym at.count,
  at.known,
  at.ran,
)

-- after one that ended cancelled none is due
pub cancelled_due : {R E C : Type 0} (tells : R → List (ReporterEvent × Option E) → Type 0)
    (asks : C → List (ℕ × Ask) → Type 0) (o : Outside R C) (batch : Batch) (lists : List (List Turn))
    (s t : List (Option JobState)) (w : ℕ) (cancelled : Bool) (results : Results)
    (after : AreAfter tells asks o batch lists s w cancelled results) → cancelled ≡ true
    → AreKnown batch.jobs after.waves t (w + 1) → AnswersDue {E = E} tells asks o batch lists t (Ok (w + 1))
cancelled_due tells asks o batch lists s t w cancelled results after ended known = (
  after.waves,
  after.have,
  ap (λ b. not b && nat_lt 0 (length (next_jobs batch after.waves))) (after.whether ∙ ended),
  omega (arith, after.count),
  known,
  after.ran,
)

-- a reporter and children that were not called
quiet_at : {R E C : Type 0} (tells : R → List (ReporterEvent × Option E) → Type 0) (asks : C → List (ℕ × Ask) → Type 0)
    (faults : R → ℕ) (r s t : R) (c d e : C) (waves : List Wave) → TellsWaves tells asks (outside faults r s c d) waves
    → IsQuiet (outside faults s t d e) → TellsWaves tells asks (outside faults r t c e) waves
quiet_at tells asks faults r s t c d e waves ran quiet =
    subst (λ x. TellsWaves tells asks (outside faults r x c e) waves) (sym quiet.0)
    (subst (λ y. TellsWaves tells asks (outside faults r s c y) waves) (sym quiet.1) ran)

pub quiet_more : {R E C : Type 0} (tells : R → List (ReporterEvent × Option E) → Type 0)
    (asks : C → List (ℕ × Ask) → Type 0) (faults : R → ℕ) (r s t : R) (c d e : C) (batch : Batch)
    (lists : List (List Turn)) (states : List (Option JobState)) (w : ℕ)
    → AreAt tells asks (outside faults r s c d) batch lists states w → IsQuiet (outside faults s t d e)
    → AreAt tells asks (outside faults r t c e) batch lists states w
quiet_more tells asks faults r s t c d e batch lists states w at quiet = record {
  waves = at.waves;
  count = at.count;
  have = at.have;
  going = at.going;
  known = at.known;
  ran = quiet_at tells asks faults r s t c d e at.waves at.ran quiet;
}

-- an error of the next wave ends all
some_due : (batch : Batch) (waves : List Wave) → list_any (λ (v : Wave). ended_cancelled v.outcome) waves ≡ false
    → 0 < length (next_jobs batch waves) → is_next_due batch waves ≡ true
some_due batch waves going some =
    ap (λ b. not b && nat_lt 0 (length (next_jobs batch waves))) going ∙ tested (length (next_jobs batch waves)) some
  where
    tested : (n : ℕ) → 0 < n → (true && nat_lt 0 n) ≡ true
    tested n below = is_above n below

joined_stop : {R E C : Type 0} (tells : R → List (ReporterEvent × Option E) → Type 0)
    (asks : C → List (ℕ × Ask) → Type 0) (faults : R → ℕ) (r s t : R) (c d e : C) (batch : Batch) (waves : List Wave)
    (turns : List Turn) (error : TestRunnerExecuteErrors E)
    → TellsWaves tells asks (outside faults r s c d) waves
    → UnlessMemory (Err error) (Executes tells asks (outside faults s t d e) (next_settings batch waves) turns
    (Err error))
    → UnlessMemory (Err error) (TellsAndStops tells asks (outside faults r t c e) batch waves turns error)
joined_stop tells asks faults r s t c d e batch waves turns (engine.Report x) ran stops =
    record { report = s; children = d; faults = faults s; ran = ran; stops = stops }
joined_stop tells asks faults r s t c d e batch waves turns (engine.NotEnabled i) ran stops =
    record { report = s; children = d; faults = faults s; ran = ran; stops = stops }
joined_stop tells asks faults r s t c d e batch waves turns (engine.ThirdSignal i) ran stops =
    record { report = s; children = d; faults = faults s; ran = ran; stops = stops }
joined_stop tells asks faults r s t c d e batch waves turns engine.Unfinished ran stops =
    record { report = s; children = d; faults = faults s; ran = ran; stops = stops }
joined_stop tells asks faults r s t c d e batch waves turns engine.OutOfMemory ran stops = tt

no_item : {X : Type 0} (xs : List X) (k : ℕ) → slice_get xs k ≡ None → length xs ≤ k
no_item [] k none = omega arith
no_item (x ∷ xs) zero none = cc
no_item (x ∷ xs) (suc k) none = let h = no_item xs k none in omega arith

pub next_stops : {R E C : Type 0} (tells : R → List (ReporterEvent × Option E) → Type 0)
    (asks : C → List (ℕ × Ask) → Type 0) (faults : R → ℕ) (r s t : R) (c d e : C) (batch : Batch)
    (lists : List (List Turn)) (states : List (Option JobState)) (w : ℕ) (error : WavesError E)
    → AreOrdered batch.jobs → AreAt tells asks (outside faults r s c d) batch lists states w
    → AnswersNext tells asks (outside faults s t d e) batch (ready_jobs batch.jobs states w) lists w (Err error)
    → AnswersDue tells asks (outside faults r t c e) batch lists states (Err error)
next_stops tells asks faults r s t c d e batch lists states w (errors.Wave n x) ordered at next =
    let same = next_is tells asks (outside faults r s c d) batch lists states w ordered at in (
      at.waves,
      at.have,
      some_due batch at.waves at.going (subst (λ ks. 0 < length ks) same next.1),
      next.0 ∙ sym at.count,
      (
        next.2.0,
        ap (slice_get lists) next.0 ∙ next.2.1,
        joined_stop tells asks faults r s t c d e batch at.waves next.2.0 x at.ran
            (subst (λ ks. UnlessMemory (Err x) (Executes tells asks (outside faults s t d e) (wave_settings
            batch ks) next.2.0
            (Err x))) same next.2.2),
      ),
    )
next_stops tells asks faults r s t c d e batch lists states w (errors.Missing n) ordered at next =
    let same = next_is tells asks (outside faults r s c d) batch lists states w ordered at in (
      at.waves,
      at.have,
      some_due batch at.waves at.going (subst (λ ks. 0 < length ks) same next.1),
      next.0 ∙ sym at.count,
      omega (arith, no_item lists w next.2, enough batch lists at.waves at.have, at.count, next.0),
      subst (AreKnown batch.jobs at.waves states) (sym next.0) at.known,
      quiet_at tells asks faults r s t c d e at.waves at.ran next.3,
    )
next_stops tells asks faults r s t c d e batch lists states w (errors.Extra g u) ordered at next = absurd next
next_stops tells asks faults r s t c d e batch lists states w errors.OutOfMemory ordered at next = tt

-- an error of running the waves that are due is that of running all
pub due_error : {R E C : Type 0} (tells : R → List (ReporterEvent × Option E) → Type 0)
    (asks : C → List (ℕ × Ask) → Type 0) (o : Outside R C) (batch : Batch) (lists : List (List Turn))
    (states : List (Option JobState)) (error : WavesError E) → AnswersDue tells asks o batch lists states (Err error)
    → AnswersWaves tells asks o batch lists (Err error)
due_error tells asks o batch lists states (errors.Wave n x) due = due
due_error tells asks o batch lists states (errors.Missing n) due = (due.0, due.1, due.2, due.3, due.4, due.6)
due_error tells asks o batch lists states (errors.Extra g u) due = due
due_error tells asks o batch lists states errors.OutOfMemory due = due

-- what is answered once all waves that were due have run
pub finished : {R E C : Type 0} (tells : R → List (ReporterEvent × Option E) → Type 0)
    (asks : C → List (ℕ × Ask) → Type 0) (o : Outside R C) (batch : Batch) (lists : List (List Turn))
    (states : List (Option JobState)) (n given : ℕ) (result : Result (List JobState) (WavesError E))
    → given ≡ length lists → AnswersDue {E = E} tells asks o batch lists states (Ok n)
    → ((waves : List Wave) → length waves ≡ n → AreKnown batch.jobs waves states n → FinishesWaves batch waves
    given result)
    → AnswersWaves tells asks o batch lists result
finished tells asks o batch lists states n given (Ok known) is due ends =
    let end = ends due.0 (sym due.3) due.4 in
    let all : length due.0 ≤ length lists = enough batch lists due.0 due.1 in
    let low : given ≤ length due.0 = end.0 in
    (due.0, due.1, due.2, omega arith, end.1, due.5)
finished tells asks o batch lists states n given (Err (errors.Wave w x)) is due ends =
    absurd (ends due.0 (sym due.3) due.4)
finished tells asks o batch lists states n given (Err (errors.Missing w)) is due ends =
    absurd (ends due.0 (sym due.3) due.4)
finished tells asks o batch lists states n given (Err (errors.Extra g u)) is due ends =
    let end = ends due.0 (sym due.3) due.4 in
    let more : length due.0 < given = end.2 in
    let first : g ≡ given = end.0 in
    let second : u ≡ length due.0 = end.1 in
    (due.0, due.1, due.2, second, first ∙ is, omega arith, due.5)
finished tells asks o batch lists states n given (Err errors.OutOfMemory) is due ends = tt

-- the jobs of a level, as a caller has them
pub level_jobs : (jobs list : List Job) (xs : List ℕ) (w : ℕ) → xs ≡ at_level w 0 (levels_of jobs) → list ≡ jobs
    → All (λ k. k < length list) xs
level_jobs jobs list xs w is same =
    subst (All (λ k. k < length list)) (sym is)
    (subst (λ js. All (λ k. k < length js) (at_level w 0 (levels_of jobs))) (sym same)
    (All-weaker (λ j. (j < length jobs) × (job_level jobs j ≡ w)) (λ k. k < length jobs) (λ j h. h.0)
    (at_level w 0 (levels_of jobs)) (places_all jobs w)))

pub level_few : (jobs : List Job) (xs : List ℕ) (w : ℕ) → xs ≡ at_level w 0 (levels_of jobs)
    → length xs ≤ length jobs
level_few jobs xs w is = subst (λ ks. length ks ≤ length jobs) (sym is) (few_places jobs w)

-- what is known of more levels is known of fewer
pub known_fewer : (jobs : List Job) (waves : List Wave) (states : List (Option JobState)) (w v : ℕ) → v ≤ w
    → AreKnown jobs waves states w → AreKnown jobs waves states v
known_fewer jobs waves states w v low known k within level = known k within (omega arith)

-- a level whose wave wasn't due
pub no_wave : (waves : List Wave) (w : ℕ) → length waves ≤ w → GivesResults None waves w
no_wave waves w high unit = ap (λ o. ready_state o unit) (sym (slice_get_past waves w high))

-- what a caller knows once the jobs of a level are set
pub settled_known : (jobs list : List Job) (level : List ℕ) (w : ℕ) (results : Option Results)
    (s t : List (Option JobState)) (waves : List Wave) → list ≡ jobs → level ≡ at_level w 0 (levels_of jobs)
    → AreOrdered jobs
    → ((w : ℕ) (waves : List Wave) → AreOrdered list → level ≡ at_level w 0 (levels_of list)
    → GivesResults results waves w → AreKnown list waves s w → AreKnown list waves t (w + 1))
    → GivesResults results waves w → AreKnown jobs waves s w → AreKnown jobs waves t (w + 1)
settled_known jobs list level w results s t waves same is ordered settles gives known =
    subst (λ js. AreKnown js waves t (w + 1)) same
    (settles w waves (subst AreOrdered (sym same) ordered)
    (subst (λ js. level ≡ at_level w 0 (levels_of js)) (sym same) is) gives
    (subst (λ js. AreKnown js waves s w) (sym same) known))
