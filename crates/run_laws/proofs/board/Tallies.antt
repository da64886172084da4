-- What one more step adds to the counts of a sub-run.
use Rattle.std.proofs.Common.{◌≡◌, ◌⊎◌, inl, inr, ℕ, add-zero, ◌+◌, ◌<◌, ◌≤◌, ◌==◌, ◌||◌, List, [], ◌∷◌, ◌++◌}
use Rattle.std.proofs.Common.{Bool, true, false, if◌then◌else◌, Option, Some, None}
use Rattle.std.proofs.Common.{option_to_list, filter_map, count_by, sum_by, cond, refl, ap, sym, ◌∙◌, arith}
use Rattle.std.proofs.lemmas.List.{append-nil, append_assoc}
use Rattle.std.proofs.lemmas.List.Elements.{filter_map-append}
use Rattle.std.proofs.lemmas.List.Sums.{sum_by-append, sum_by-cons}
use Rattle.run_events.specs.Cancel.{greater}
use Rattle.run_events.specs.Stats.{plus, total_by}
use Rattle.run_events.proofs.StatsLemmas.{total_by_push}
use Rattle.run_events.specs.declared.stats.RunStats.{RunStats}
use Rattle.run_events.specs.declared.settings.Settings.{Settings}
use Rattle.run_events.specs.declared.cancel.CancelReason.{CancelReason}
use Rattle.run_events.specs.declared.events.ReporterEvent.{ReporterEvent}
use Rattle.run_events.specs.declared.events.ReporterEvent.TheVariants.{Tick, Test}
use Rattle.run_events.specs.declared.events.TestEventKind.{TestEventKind}
use Rattle.run_events.specs.declared.events.TestEventKind.TheVariants.{RunBeginCancel, RunBeginKill, TestStarted}
use Rattle.run_events.specs.declared.events.TestEventKind.TheVariants.{TestFinished, TestSkipped, SetupScriptStarted}
use Rattle.run_events.specs.declared.events.TestEventKind.TheVariants.{SetupScriptFinished, RunStarted, RunFinished}
use Rattle.run_events.specs.declared.events.TestEventKind.TheVariants.{StressSubRunStarted, StressSubRunFinished}
use Rattle.run_model.specs.declared.dispatcher_view.Tally.{Tally}
use Rattle.run_model.specs.declared.entry.Entry.{Entry}
use Rattle.run_model.specs.declared.happening.Happening.{Happening}
use Rattle.run_model.specs.Words.{clock, stats, told, reason, finish_of}
use Rattle.run_model.specs.Words.{FinishedUnit, a_test, a_script, adds_by, finished_test, skips, stats_after, tally}
use Rattle.run_model.specs.Words.{is_by_signal, is_by_report, is_by_time, signals_heard, was_reported}
use Rattle.run_model.specs.Words.{armed, time_limit, global_timer, causes_of}
use Rattle.run_model.specs.Admission.{scripts_in, tests_in}
use Rattle.run_model.specs.Dispatch.{rules_of, tallied, having_told}
use Rattle.run_model.specs.Board.{Deed, deed_events, said, causes_after}
use Rattle.run_model.specs.Board.{with_cause, step}
use Rattle.run_laws.proofs.told.Running.{running_in_told, running-started, running-finished, running-apart}
use Rattle.run_laws.proofs.told.Running.{running-kept}
use Rattle.run_model.specs.Rounds.{global_act, timer_after}
use Rattle.run_laws.proofs.board.OnBoard.{Frame}
use Rattle.run_laws.proofs.told.Cancels.{IsAfter, IsAfterKind, cancel_tallied}
use Rattle.run_laws.proofs.board.DeedFits.{cancel_told, ToldFits, ToldFitsIn, Does}
use Rattle.run_laws.proofs.told.Bounds.{IsBound, IsBoundKind, bound_after}

-- what a dispatcher counts, by the events that were told
abbrev pub counts : Settings → Option CancelReason → List ReporterEvent → Tally
counts p why events = record {
  running = running_in_told (scripts_in p) (tests_in p) events;
  scripts_running = running_in_told 0 (scripts_in p) events;
  stats = stats_after p why (count_by skips events) (filter_map finish_of events);
}

-- a unit that isn't among some is none of them
other_unit : (i a n : ℕ) → (i < a) ⊎ (a + n ≤ i) → (k : ℕ) → a ≤ k → k < a + n → (i == k) ≡ false
other_unit i a n (inl below) k low high = grind arith
other_unit i a n (inr above) k low high = grind arith

-- how many tests run after one more event
abbrev told_kind : ℕ → ℕ → TestEventKind → ReporterEvent
told_kind now elapsed kind = Test (record { clock = now; elapsed = elapsed; kind = kind })

running_one : (p : Settings) (why : Option CancelReason) (now elapsed : ℕ) (kind : TestEventKind)
    (es : List ReporterEvent)
    → ToldFitsIn p es kind
    → running_in_told (scripts_in p) (tests_in p) (es ++ told_kind now elapsed kind ∷ [])
    ≡ (tallied kind (counts p why es)).running
running_one p why now elapsed (SetupScriptStarted e) es fits =
    running-apart (scripts_in p) (tests_in p) es (told_kind now elapsed (SetupScriptStarted e))
    (λ k low high. (other_unit e.script.unit (scripts_in p) (tests_in p) (inl fits.0) k low high, refl))
running_one p why now elapsed (SetupScriptFinished e) es fits =
    running-apart (scripts_in p) (tests_in p) es (told_kind now elapsed (SetupScriptFinished e))
    (λ k low high. (refl, other_unit e.script.unit (scripts_in p) (tests_in p) (inl fits.0) k low high))
running_one p why now elapsed (TestStarted e) es fits =
    running-started (scripts_in p) (tests_in p) e.start.test.unit es _ fits.0 fits.1 fits.2 (λ k. refl) (λ k. refl)
running_one p why now elapsed (TestFinished e) es fits =
    let less = running-finished (scripts_in p) (tests_in p) e.finish.test.unit es
    (told_kind now elapsed (TestFinished e))
    fits.0 fits.1 fits.2 (λ k. refl) (λ k. refl) in omega arith
running_one p why now elapsed kind es fits =
    running-kept (scripts_in p) (tests_in p) es _ (λ k. refl) (λ k. refl)

-- and how many scripts
scripts_one : (p : Settings) (why : Option CancelReason) (now elapsed : ℕ) (kind : TestEventKind)
    (es : List ReporterEvent)
    → ToldFitsIn p es kind
    → running_in_told 0 (scripts_in p) (es ++ told_kind now elapsed kind ∷ [])
    ≡ (tallied kind (counts p why es)).scripts_running
scripts_one p why now elapsed (SetupScriptStarted e) es fits =
    running-started 0 (scripts_in p) e.script.unit es _ (omega arith) (omega (arith, fits.0))
    fits.1 (λ k. refl) (λ k. refl)
scripts_one p why now elapsed (SetupScriptFinished e) es fits =
    let less = running-finished 0 (scripts_in p) e.script.unit es (told_kind now elapsed (SetupScriptFinished e))
    (omega arith) (omega (arith, fits.0)) fits.1 (λ k. refl) (λ k. refl) in omega arith
scripts_one p why now elapsed (TestStarted e) es fits =
    running-apart 0 (scripts_in p) es (told_kind now elapsed (TestStarted e))
    (λ k low high. (other_unit e.start.test.unit 0 (scripts_in p) (inr (omega (arith, fits.0))) k low high, refl))
scripts_one p why now elapsed (TestFinished e) es fits =
    running-apart 0 (scripts_in p) es (told_kind now elapsed (TestFinished e))
    (λ k low high. (refl, other_unit e.finish.test.unit 0 (scripts_in p) (inr (omega (arith, fits.0))) k low high))
scripts_one p why now elapsed kind es fits = running-kept 0 (scripts_in p) es _ (λ k. refl) (λ k. refl)

-- one skip more is counted
one_skip_more : (p : Settings) (why : Option CancelReason) (n : ℕ) (fs : List FinishedUnit)
    → stats_after p why (n + 1) fs ≡ record (stats_after p why n fs) { skipped = (stats_after p why n fs).skipped + 1 }
unfolding total_by
one_skip_more p why n fs =
    ap (λ m. record (stats_after p why n fs) { skipped = m })
    (let more : n + 1 + sum_by (λ f. (adds_by f).skipped) fs ≡ n + sum_by (λ f. (adds_by f).skipped) fs + 1 =
    omega arith in more)

-- the statistics after one more event: one finish more adds what it adds, and what tells neither leaves them
stats_one : (p : Settings) (why : Option CancelReason) (n now elapsed : ℕ) (kind : TestEventKind) (t : Tally)
    (fs : List FinishedUnit) → t.stats ≡ stats_after p why n fs
    → stats_after p why (n + count_by skips (told_kind now elapsed kind ∷ []))
    (fs ++ filter_map finish_of (told_kind now elapsed kind ∷ []))
    ≡ (tallied kind t).stats
stats_one p why n now elapsed (TestFinished e) t fs is =
    ap (λ m. stats_after p why m (fs ++ a_test (finished_test e.finish) ∷ [])) (add-zero n)
    ∙ total_by_push adds_by _ fs (a_test (finished_test e.finish))
    ∙ ap (λ s. plus s (adds_by (a_test (finished_test e.finish)))) (sym is)
stats_one p why n now elapsed (SetupScriptFinished e) t fs is =
    ap (λ m. stats_after p why m (fs ++ a_script e.status.result ∷ [])) (add-zero n)
    ∙ total_by_push adds_by _ fs (a_script e.status.result)
    ∙ ap (λ s. plus s (adds_by (a_script e.status.result))) (sym is)
stats_one p why n now elapsed (TestSkipped e) t fs is = ap (stats_after p why (n + 1)) (append-nil fs)
    ∙ one_skip_more p why n fs ∙ ap (λ (s : RunStats). record s { skipped = s.skipped + 1 }) (sym is)
stats_one p why n now elapsed kind t fs is =
    ap (λ m. stats_after p why m (fs ++ [])) (add-zero n) ∙ ap (stats_after p why n) (append-nil fs) ∙ sym is

same_counts : (a b : Tally) → a.running ≡ b.running → a.scripts_running ≡ b.scripts_running → a.stats ≡ b.stats → a ≡ b
same_counts a b running scripts stats =
    ap (λ n. record a { running = n }) running
    ∙ ap (λ n. record a { running = b.running; scripts_running = n }) scripts
    ∙ ap (λ s. record b { stats = s }) stats

-- so what is counted after one more event is what the dispatcher makes of it
pub counts-more : (p : Settings) (why : Option CancelReason) (o : Option ReporterEvent) (es : List ReporterEvent)
    → ToldFits p es o
    → counts p why (es ++ option_to_list o) ≡ having_told (counts p why es) o
counts-more p why None es fits = ap (counts p why) (append-nil es)
counts-more p why (Some Tick) es fits =
    same_counts (counts p why (es ++ Tick ∷ [])) (counts p why es)
    (running-kept (scripts_in p) (tests_in p) es Tick (λ k. refl) (λ k. refl))
    (running-kept 0 (scripts_in p) es Tick (λ k. refl) (λ k. refl))
    (ap (λ n. stats_after p why n (filter_map finish_of (es ++ Tick ∷ [])))
    (sum_by-append (λ x. cond (skips x) 1 0) es (Tick ∷ []) ∙ add-zero _)
    ∙ ap (stats_after p why (count_by skips es)) (filter_map-append finish_of es _ ∙ append-nil _))
counts-more p why (Some (Test e)) es fits =
    same_counts (counts p why (es ++ Test e ∷ [])) (tallied e.kind (counts p why es))
    (running_one p why e.clock e.elapsed e.kind es fits)
    (scripts_one p why e.clock e.elapsed e.kind es fits)
    (ap (λ n. stats_after p why n (filter_map finish_of (es ++ Test e ∷ [])))
    (sum_by-append (λ x. cond (skips x) 1 0) es (Test e ∷ []))
    ∙ ap (stats_after p why (count_by skips es + count_by skips (Test e ∷ []))) (filter_map-append finish_of es _)
    ∙ stats_one p why (count_by skips es) e.clock e.elapsed e.kind (counts p why es) (filter_map finish_of es) refl)

-- a cause sets the reason of the statistics alone
stats-cause : (p : Settings) (why cause : Option CancelReason) (n : ℕ) (fs : List FinishedUnit)
    → stats_after p (greater why cause) n fs
    ≡ record (stats_after p why n fs) { cancel_reason = greater (stats_after p why n fs).cancel_reason cause }
unfolding total_by
stats-cause p why cause n fs = refl

counts-cause : (p : Settings) (why cause : Option CancelReason) (es : List ReporterEvent)
    → counts p (greater why cause) es ≡ with_cause cause (counts p why es)
counts-cause p why cause es =
    ap (λ s. record (counts p why es) { stats = s })
    (stats-cause p why cause (count_by skips es) (filter_map finish_of es))

-- an event that is told after another one counts nothing
cancel_fits : (p : Settings) (es : List ReporterEvent) (o : Option ReporterEvent) → IsAfter o → ToldFits p es o
cancel_fits p es None h = tt
cancel_fits p es (Some Tick) h = absurd h
cancel_fits p es (Some (Test e)) h = by_kind e.kind h
  where
    by_kind : (kind : TestEventKind) → IsAfterKind kind → ToldFitsIn p es kind
    by_kind (RunBeginCancel cancelled) h = tt
    by_kind (RunBeginKill cancelled) h = tt
    by_kind (StressSubRunStarted progress) h = tt
    by_kind (RunFinished finished) h = tt
    by_kind kind h = absurd h

-- what is counted after one more deed
pub tally-cons : (p : Settings) (f : Frame) (now : ℕ) (run : List Happening) (e : Entry) (d : Deed)
    → Does p f now run d
    → tally p (said now e d ∷ run) ≡ with_cause d.cause (having_told (having_told (tally p run) d.told) d.after)
tally-cons p f now run e d does =
    counts-cause p (reason run) d.cause (told run ++ deed_events d)
    ∙ ap (with_cause d.cause)
    (ap (counts p (reason run)) (sym (append_assoc (told run) (option_to_list d.told) (option_to_list d.after)))
    ∙ counts-more p (reason run) d.after (told run ++ option_to_list d.told)
    (cancel_fits p (told run ++ option_to_list d.told) d.after
    (cancel_told p f now run d does.marks))
    ∙ ap (λ t. having_told t d.after) (counts-more p (reason run) d.told (told run) does.tells))

-- what cancels the run after one more deed
pub causes-cons : (p : Settings) (now : ℕ) (run : List Happening) (e : Entry) (d : Deed)
    → causes_of p (said now e d ∷ run) ≡ causes_after now (rules_of p) (causes_of p run) d
causes-cons p now run e d =
    ap (λ n. record {
      signals = n;
      reported = is_by_report d.cause || was_reported run;
      global =
          if d.begins then armed now (time_limit p)
          else if is_by_time d.cause then None
          else timer_after now (global_act d.stops d.told) (global_timer p run);
    }) (sum_by-cons (λ (x : Happening). cond (is_by_signal x.cause) 1 0) (said now e d) run
    ∙ one_first (cond (is_by_signal d.cause) 1 0) (signals_heard run))
  where
    one_first : (a b : ℕ) → a + b ≡ b + a
    one_first a b = omega arith

pub with_cause-none : (t : Tally) → with_cause None t ≡ t
with_cause-none t =
    ap (λ r. record t { stats = record t.stats { cancel_reason = r } }) (greater-none t.stats.cancel_reason)
  where
    greater-none : (r : Option CancelReason) → greater r None ≡ r
    greater-none None = refl
    greater-none (Some r) = refl

-- an event of a begin or an end counts nothing
bound_tallied : (t : Tally) (o : Option ReporterEvent) → IsBound o → having_told t o ≡ t
bound_tallied t None h = refl
bound_tallied t (Some Tick) h = absurd h
bound_tallied t (Some (Test e)) h = by_kind e.kind h
  where
    by_kind : (kind : TestEventKind) → IsBoundKind kind → tallied kind t ≡ t
    by_kind (RunStarted s) h = refl
    by_kind (StressSubRunStarted s) h = refl
    by_kind (StressSubRunFinished s) h = refl
    by_kind (RunFinished s) h = refl
    by_kind kind h = absurd h

-- the end of a sub-run counts nothing more
pub ended_tally : (p : Settings) (f : Frame) (now : ℕ) (run : List Happening) (e : Entry) (d : Deed)
    → Does p f now run d → d.ends ≡ true → tally p (said now e d ∷ run) ≡ tally p run
ended_tally p f now run e d does ends =
    let bounds = does.marks.bounds (ap (λ b. d.begins || b) ends ∙ or_true d.begins) in
    tally-cons p f now run e d does
    ∙ ap (λ t. with_cause d.cause (having_told t d.after)) (bound_tallied (tally p run) d.told bounds.0)
    ∙ ap (with_cause d.cause) (cancel_tallied d.after (tally p run) (bound_after d.after bounds.1))
    ∙ ap (λ o. with_cause o (tally p run)) bounds.2
    ∙ with_cause-none (tally p run)
  where
    or_true : (b : Bool) → (b || true) ≡ true
    or_true true = refl
    or_true false = refl
