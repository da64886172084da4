-- Waves, one after the other.
use Rattle.std.proofs.Common.{◌≡◌, ◌∙◌, ℕ, suc, ◌+◌, ◌<◌, ◌⊎◌, inl, inr, List, [], ◌∷◌, ◌++◌, map, length}
use Rattle.std.proofs.Common.{take}
use Rattle.std.proofs.Common.{Bool, true, false, not, ◌||◌, ◌&&◌, nat_lt, Option, Some, None, slice_get, refl}
use Rattle.std.proofs.Common.{sym, ap, subst}
use Rattle.std.proofs.Common.{arith, length-append}
use Rattle.std.specs.List.{flat_map, list_any}
use Rattle.std.proofs.lemmas.List.{append-nil, append_assoc, map-append, take-append-le}
use Rattle.std.proofs.lemmas.List.Folds.{list_any-append}
use Rattle.run_events.specs.Tell.{Adds}
use Rattle.run_events.specs.declared.ask.Ask.{Ask}
use Rattle.run_events.specs.declared.events.ReporterEvent.{ReporterEvent}
use Rattle.run_events.specs.declared.turn.Turn.{Turn}
use Rattle.run_laws.specs.Course.{IsJournalOf, refuses_none}
use Rattle.run_model.specs.Journal.{outcome, past_of}
use Rattle.run_model.specs.Words.{asked, told}
use Rattle.run_engine.specs.World.{Outside, outside}
use Rattle.run_jobs.specs.declared.job.Job.{Job}
use Rattle.run_jobs.specs.declared.job.JobState.{JobState}
use Rattle.run_jobs.specs.declared.ledger.Results.{Results}
use Rattle.run_jobs.specs.Jobs.{Batch}
use Rattle.run_jobs.specs.Levels.{AreOrdered}
use Rattle.run_jobs.specs.Next.{RunsWave}
use Rattle.run_jobs.specs.Settled.{AreKnown, GivesResults}
use Rattle.run_jobs.specs.States.{Wave, ready_jobs, ready_state, state_told, states_after}
use Rattle.run_jobs.specs.WavePlan.{wave_settings}
use Rattle.run_jobs.specs.Waves.{HasRun, HaveRun, TellsWaves, all_asked, all_told, ended_cancelled, is_next_due}
use Rattle.run_jobs.specs.Waves.{next_jobs}
use Rattle.run_jobs.proofs.FaultLemmas.{there_within}
use Rattle.run_jobs.proofs.StateLemmas.{below_or_at, read_before, read_next, ready_known, states_below}

-- the front of a longer list
take_all : {X : Type 0} (xs ys : List X) → take (length xs) (xs ++ ys) ≡ xs
take_all [] ys = refl
take_all (x ∷ xs) ys = ap (λ zs. x ∷ zs) (take_all xs ys)

flat_more : {X Y : Type 0} (f : X → List Y) (xs : List X) (x : X) → flat_map f (xs ++ x ∷ []) ≡ flat_map f xs ++ f x
flat_more f [] x = append-nil (f x)
flat_more f (y ∷ ys) x = ap (λ zs. f y ++ zs) (flat_more f ys x) ∙ sym (append_assoc (f y) (flat_map f ys) (f x))

pub is_above : (n : ℕ) → 0 < n → nat_lt 0 n ≡ true
is_above n below = grind arith

-- one more wave ran
pub have_more : (batch : Batch) (lists : List (List Turn)) (waves : List Wave) (wave : Wave) → HaveRun batch lists waves
    → HasRun batch lists waves wave → HaveRun batch lists (waves ++ wave ∷ [])
have_more batch lists waves wave have has n w at = by_place (below_or_at n (length waves) low)
  where
    low : n < suc (length waves)
    low = omega (arith, there_within (waves ++ wave ∷ []) n w at, length-append waves (wave ∷ []))

    by_place : (n < length waves) ⊎ (n ≡ length waves) → HasRun batch lists (take n (waves ++ wave ∷ [])) w
    by_place (inl h) =
        subst (λ before. HasRun batch lists before w) (sym (take-append-le n waves (wave ∷ []) (omega (arith, h))))
        (have n w (sym (read_before waves (wave ∷ []) n h) ∙ at))
    by_place (inr h) =
        let both : Some wave ≡ Some w = sym (read_next waves wave n h) ∙ at in
        let same : wave ≡ w = cc in
        subst (λ before. HasRun batch lists before w)
        (sym (ap (λ m. take m (waves ++ wave ∷ [])) h ∙ take_all waves (wave ∷ [])))
        (subst (HasRun batch lists waves) same has)

-- what was told and asked before any wave
pub tells_none : {R E C : Type 0} (tells : R → List (ReporterEvent × Option E) → Type 0)
    (asks : C → List (ℕ × Ask) → Type 0) (faults : R → ℕ) (r : R) (c : C)
    → TellsWaves tells asks (outside faults r r c c) []
tells_none tells asks faults r c = record {
  told = λ xs held. subst (tells r) (sym (append-nil xs)) held;
  asked = λ xs held. subst (asks c) (sym (append-nil xs)) held;
  calm = refl;
}

-- and with one more wave
pub tells_more : {R E C : Type 0} (tells : R → List (ReporterEvent × Option E) → Type 0)
    (asks : C → List (ℕ × Ask) → Type 0) (faults : R → ℕ) (r s t : R) (c d e : C) (waves : List Wave) (wave : Wave)
    → TellsWaves tells asks (outside faults r s c d) waves
    → Adds tells s t (map (λ event. (event, None)) wave.told) → Adds asks d e wave.asked → faults t ≡ faults s
    → TellsWaves tells asks (outside faults r t c e) (waves ++ wave ∷ [])
tells_more {R} {E} tells asks faults r s t c d e waves wave ran told_it asked_it calm = record {
  told = λ xs held. subst (tells t) (told_is xs) (told_it (xs ++ map mark (all_told waves)) (ran.told xs held));
  asked = λ xs held. subst (asks e) (asked_is xs) (asked_it (xs ++ all_asked waves) (ran.asked xs held));
  calm = calm ∙ ran.calm;
}
  where
    mark : ReporterEvent → ReporterEvent × Option E
    mark event = (event, None)

    told_is : (xs : List (ReporterEvent × Option E))
        → (xs ++ map mark (all_told waves)) ++ map mark wave.told ≡ xs ++ map mark (all_told (waves ++ wave ∷ []))
    told_is xs =
        append_assoc xs (map mark (all_told waves)) (map mark wave.told)
        ∙ ap (λ zs. xs ++ zs) (sym (map-append mark (all_told waves) wave.told)
        ∙ ap (map mark) (sym (flat_more (λ w. w.told) waves wave)))

    asked_is : (xs : List (ℕ × Ask))
        → (xs ++ all_asked waves) ++ wave.asked ≡ xs ++ all_asked (waves ++ wave ∷ [])
    asked_is xs =
        append_assoc xs (all_asked waves) wave.asked
        ∙ ap (λ zs. xs ++ zs) (sym (flat_more (λ w. w.asked) waves wave))

-- waves, by what is known of the jobs below the level of the next one
pub record AreAt {R E C : Type 0} (tells : R → List (ReporterEvent × Option E) → Type 0)
    (asks : C → List (ℕ × Ask) → Type 0) (o : Outside R C) (batch : Batch) (lists : List (List Turn))
    (states : List (Option JobState)) (w : ℕ) : Type 0 where
  pub waves : List Wave
  pub count : length waves ≡ w
  pub have : HaveRun batch lists waves
  pub going : list_any (λ wave. ended_cancelled wave.outcome) waves ≡ false
  pub known : AreKnown batch.jobs waves states w
  pub ran : TellsWaves tells asks o waves

-- before any wave nothing is known
pub at_first : {R E C : Type 0} (tells : R → List (ReporterEvent × Option E) → Type 0)
    (asks : C → List (ℕ × Ask) → Type 0) (faults : R → ℕ) (r : R) (c : C) (batch : Batch) (lists : List (List Turn))
    (states : List (Option JobState)) → AreAt tells asks (outside faults r r c c) batch lists states 0
at_first tells asks faults r c batch lists states = record {
  waves = [];
  count = refl;
  have = λ n w at. absurd (omega (arith, there_within [] n w at));
  going = refl;
  known = λ k within low. absurd (omega arith);
  ran = tells_none tells asks faults r c;
}

-- the same after one more, which ended cancelled or not
pub record AreAfter {R E C : Type 0} (tells : R → List (ReporterEvent × Option E) → Type 0)
    (asks : C → List (ℕ × Ask) → Type 0) (o : Outside R C) (batch : Batch) (lists : List (List Turn))
    (states : List (Option JobState)) (w : ℕ) (cancelled : Bool) (results : Results) : Type 0 where
  pub waves : List Wave
  pub count : length waves ≡ suc w
  pub have : HaveRun batch lists waves
  pub whether : list_any (λ wave. ended_cancelled wave.outcome) waves ≡ cancelled
  pub known : AreKnown batch.jobs waves states w
  pub gives : GivesResults (Some results) waves w
  pub ran : TellsWaves tells asks o waves

-- what is known of the jobs stays known with one more wave
known_more : (jobs : List Job) (waves : List Wave) (wave : Wave) (states : List (Option JobState)) (w : ℕ)
    → AreOrdered jobs → length waves ≡ w → AreKnown jobs waves states w
    → AreKnown jobs (waves ++ wave ∷ []) states w
known_more jobs waves wave states w ordered count known k within low =
    known k within low
    ∙ states_below jobs waves (waves ++ wave ∷ []) w (length jobs) k ordered
    (λ l below. sym (read_before waves (wave ∷ []) l (omega (arith, below, count)))) (omega arith) within low

pub one_wave : {R E C : Type 0} (tells : R → List (ReporterEvent × Option E) → Type 0)
    (asks : C → List (ℕ × Ask) → Type 0) (faults : R → ℕ) (r s t : R) (c d e : C) (batch : Batch)
    (lists : List (List Turn)) (states : List (Option JobState)) (w : ℕ) (cancelled : Bool) (results : Results)
    (turns : List Turn) → AreOrdered batch.jobs → AreAt tells asks (outside faults r s c d) batch lists states w
    → 0 < length (ready_jobs batch.jobs states w) → slice_get lists w ≡ Some turns
    → RunsWave tells asks (outside faults s t d e) (wave_settings batch (ready_jobs batch.jobs states w)) turns
    cancelled
    results
    → AreAfter tells asks (outside faults r t c e) batch lists states w cancelled results
one_wave tells asks faults r s t c d e batch lists states w cancelled results turns ordered at some given runs
    = record {
      waves = at.waves ++ wave ∷ [];
      count = omega (arith, length-append at.waves (wave ∷ []), at.count);
      have = have_more batch lists at.waves wave at.have has;
      whether = list_any-append (λ (v : Wave). ended_cancelled v.outcome) at.waves (wave ∷ [])
          ∙ ap (λ b. b || list_any (λ (v : Wave). ended_cancelled v.outcome) (wave ∷ [])) at.going
          ∙ alone (ended_cancelled runs.ended) ∙ sym runs.whether;
      known = known_more batch.jobs at.waves wave states w ordered at.count at.known;
      gives = λ unit.
          ap state_told (runs.heard unit)
          ∙ ap (λ o. ready_state o unit) (sym (read_next at.waves wave w (sym at.count)));
      ran = tells_more tells asks faults r s t c d e at.waves wave at.ran runs.runs.told runs.runs.asked runs.runs.calm;
    }
  where
    ks : List ℕ
    ks = ready_jobs batch.jobs states w

    wave : Wave
    wave = record {
      told = told (past_of (wave_settings batch ks) runs.runs.journal);
      asked = asked (past_of (wave_settings batch ks) runs.runs.journal);
      outcome = runs.ended;
    }

    same : ks ≡ next_jobs batch at.waves
    same = ready_known batch.jobs at.waves states w ordered at.known
        ∙ ap (ready_jobs batch.jobs (states_after batch.jobs at.waves)) (sym at.count)

    alone : (b : Bool) → (b || false) ≡ b
    alone true = refl
    alone false = refl

    due : is_next_due batch at.waves ≡ true
    due = ap (λ b. not b && nat_lt 0 (length (next_jobs batch at.waves))) at.going
        ∙ tested (length (next_jobs batch at.waves)) (subst (λ ks. 0 < length ks) same some)
      where
        tested : (n : ℕ) → 0 < n → (true && nat_lt 0 n) ≡ true
        tested n below = is_above n below

    has : HasRun batch lists at.waves wave
    has = record {
      due = due;
      turns = turns;
      given = ap (slice_get lists) at.count ∙ given;
      journal = runs.runs.journal;
      took = subst (λ ks. IsJournalOf (wave_settings batch ks) turns refuses_none runs.runs.journal) same
          runs.runs.took;
      ended = subst (λ ks. outcome (wave_settings batch ks) (past_of (wave_settings batch ks) runs.runs.journal)
          ≡ Some runs.ended) same runs.runs.ends;
      tells = ap (λ ks. told (past_of (wave_settings batch ks) runs.runs.journal)) same;
      asks = ap (λ ks. asked (past_of (wave_settings batch ks) runs.runs.journal)) same;
    }

-- once the jobs of its level are known too, the next one may be due
pub settled_wave : {R E C : Type 0} (tells : R → List (ReporterEvent × Option E) → Type 0)
    (asks : C → List (ℕ × Ask) → Type 0) (o : Outside R C) (batch : Batch) (lists : List (List Turn))
    (s t : List (Option JobState)) (w : ℕ) (cancelled : Bool) (results : Results)
    (after : AreAfter tells asks o batch lists s w cancelled results) → cancelled ≡ false
    → AreKnown batch.jobs after.waves t (w + 1) → AreAt tells asks o batch lists t (w + 1)
settled_wave tells asks o batch lists s t w cancelled results after going known = record {
  waves = after.waves;
  count = omega (arith, after.count);
  have = after.have;
  going = after.whether ∙ going;
  known = known;
  ran = after.ran;
}
