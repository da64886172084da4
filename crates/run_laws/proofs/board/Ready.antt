-- An enabled turn can be taken: what the tables allow is what the parts need.
use Rattle.std.proofs.Common.{◌≡◌, ℕ, suc, reverse, ◌+◌, ◌^◌, ◌<◌, ◌≤◌, List, [], ◌∷◌, ◌++◌, length, get_or, Bool}
use Rattle.std.proofs.Common.{true, false, ◌&&◌, not, if◌then◌else◌, Option, Some, None, is_some, sum_by, refl, ap}
use Rattle.std.proofs.Common.{sym, ◌∙◌, arith, rules}
use Rattle.std.specs.List.{range_with_len}
use Rattle.std.specs.Cmp.{first_so, second_so}
use Rattle.std.proofs.lemmas.List.{length-reverse}
use Rattle.std.proofs.lemmas.List.FromFn.{length-range_with_len}
use Rattle.std.proofs.lemmas.List.Sums.{count_by-le-length, sum_by-cons}
use Rattle.run_events.specs.Stats.{FinishedTest, AreBelow, adds_of, script_adds, nothing, total_by}
use Rattle.run_events.proofs.StatsLemmas.{total_by_below, adds_of_small, script_adds_small}
use Rattle.run_events.specs.declared.events.ReporterEvent.{ReporterEvent}
use Rattle.run_events.specs.declared.events.TestEventKind.TheVariants.{SetupScriptStarted, SetupScriptFinished}
use Rattle.run_events.specs.declared.result.ExecutionResult.{ExecutionResult}
use Rattle.run_events.specs.declared.settings.Settings.{Settings}
use Rattle.run_events.specs.declared.stats.RunStats.{RunStats}
use Rattle.run_events.specs.declared.cancel.CancelReason.{CancelReason}
use Rattle.run_events.specs.declared.turn.Turn.{Turn}
use Rattle.run_events.specs.declared.turn.Turn.TheVariants.{Clock}
use Rattle.run_events.specs.declared.message.Message.{Message}
use Rattle.run_events.specs.declared.message.Message.TheVariants.{ScriptStart, ScriptSlow, ScriptFinish, Start, Slow}
use Rattle.run_events.specs.declared.message.Message.TheVariants.{AttemptFailed, Retry, Skip, Finish}
use Rattle.run_model.specs.declared.entry.Entry.{Entry}
use Rattle.run_model.specs.declared.happening.Happening.{Happening}
use Rattle.run_model.specs.declared.unit_turn.UnitTurn.{UnitTurn}
use Rattle.run_model.specs.declared.unit_turn.UnitTurn.TheVariants.{Answered}
use Rattle.run_model.specs.declared.unit_view.UnitView.{UnitView}
use Rattle.run_clock.specs.Sleep.{fires_now}
use Rattle.run_model.specs.Unit.{takes_at}
use Rattle.run_model.specs.Words.{ns_of, was_refused, was_reported, global_timer, clock, is_on, is_over, joined_run}
use Rattle.run_model.specs.Words.{sub_run, told, queue, reason, units, skipped, finished, FinishedUnit, a_test}
use Rattle.run_model.specs.Words.{a_script, adds_by, stats_after, is_running, tally}
use Rattle.run_model.specs.Admission.{is_matched, scripts_in, tests_in, units_in, newcomer}
use Rattle.run_model.specs.Accounts.{started, attempt_of, pending_in}
use Rattle.run_events.specs.Hearing.{heard_key}
use Rattle.run_model.specs.Rounds.{round_count, open_round, answers_told, answers_waiting}
use Rattle.run_model.specs.Board.{Board}
use Rattle.run_model.specs.Turns.{oldest_of}
use Rattle.std.proofs.Common.{is_none, subst}
use Rattle.run_model.specs.Words.{signals_heard}
use Rattle.run_model.specs.Dispatch.{heard_by, is_main, query_waits, is_halted, takes_signal, may_go, started_event}
use Rattle.run_model.specs.Dispatch.{finished_event}
use Rattle.run_model.specs.Board.{board}
use Rattle.run_model.specs.Turns.{enabled, enabled_on, takes_turn, turn_of_unit, unit_takes, is_empty, is_complete}
use Rattle.run_model.specs.Journal.{history, past_of, IsLegal}
use Rattle.run_laws.proofs.board.Holds.{Holds}
use Rattle.run_model.specs.SubRuns.{is_failed, summary_of}
use Rattle.run_model.specs.Words.{ended_runs}
use Rattle.run_laws.proofs.told.FewEnded.{few-ended}
use Rattle.run_laws.specs.Ready.{HasRound, HasSubRun, IsTimelyBoard, CanTakeTurn, CanDeliverOldest}
use Rattle.run_laws.specs.Ready.{CanAdvance}
use Rattle.run_laws.proofs.board.ByTurn.{by_turn}
use Rattle.run_laws.proofs.board.OnBoard.{event_in, board_of, board_with, units-length, unit_in-is}
use Rattle.run_laws.proofs.board.Facts.{start_waits, start_own, script_own, retry_waits, finish_follows, finish_own}
use Rattle.run_laws.proofs.board.Facts.{script_finish_own, oldest_kind, script_below, test_above}
use Rattle.run_laws.proofs.board.RoundLemmas.{below_length}
use Rattle.run_laws.proofs.board.Kept.{HoldsAfter, holds}
use Rattle.run_laws.proofs.told.Running.{running_in_told, running-started, running-finished}
use Rattle.run_laws.proofs.board.OnBoard.{Frame}
use Rattle.run_laws.proofs.board.OnBoard.{index_in}
use Rattle.run_laws.proofs.board.OnBoard.{frame_of}

-- an admitted unit is one of them, and was let go before now
take_ready : (p : Settings) (f : Frame) (refused : Bool) (now : ℕ) (run : List Happening) (k : ℕ) (turn : UnitTurn)
    (v : Option UnitView) → Holds p now run
    → get_or (units p run) k None ≡ v → unit_takes now v turn ≡ true
    → CanTakeTurn (board_with p refused f now run) k turn
take_ready p f refused now run k turn None h e t = cc
take_ready p f refused now run k turn (Some u) h e t =
    let named = h.named k u (sym (unit_in-is p now run k h) ∙ e) in
    let below : k < units_in p = named.1 in
    record { unit = u; is = e; named = named.0; below = omega (arith, units-length p run); takes = t; later = named.2 }

-- no finished unit adds to the numbers of tests and of scripts to run
test_adds_none : (f : FinishedTest)
    → ((adds_of f).initial_run_count ≡ 0) × ((adds_of f).setup_scripts_initial_count ≡ 0)
unfolding adds_of
test_adds_none f = search rules

script_adds_none : (r : ExecutionResult)
    → ((script_adds r).initial_run_count ≡ 0) × ((script_adds r).setup_scripts_initial_count ≡ 0)
script_adds_none r = search rules

adds_none : (f : FinishedUnit) → ((adds_by f).initial_run_count ≡ 0) × ((adds_by f).setup_scripts_initial_count ≡ 0)
adds_none (a_test test) = test_adds_none test
adds_none (a_script result) = script_adds_none result

sum_none_tests : (fs : List FinishedUnit) → sum_by (λ f. (adds_by f).initial_run_count) fs ≡ 0
sum_none_tests [] = refl
sum_none_tests (f ∷ fs) =
    sum_by-cons (λ f. (adds_by f).initial_run_count) f fs ∙ omega (arith, (adds_none f).0, sum_none_tests fs)

sum_none_scripts : (fs : List FinishedUnit) → sum_by (λ f. (adds_by f).setup_scripts_initial_count) fs ≡ 0
sum_none_scripts [] = refl
sum_none_scripts (f ∷ fs) =
    sum_by-cons (λ f. (adds_by f).setup_scripts_initial_count) f fs
    ∙ omega (arith, (adds_none f).1, sum_none_scripts fs)

-- numbers of scripts and of tests to run below a limit leave the others below it
with_units : (limit tests scripts : ℕ) (why : Option CancelReason) (s : RunStats) → AreBelow limit s → tests < limit
    → scripts < limit
    → AreBelow limit (record s {
      initial_run_count = tests;
      setup_scripts_initial_count =
          scripts;
      cancel_reason = why;
    })
with_units limit tests scripts why s b h k = search rules

zero_below : (n : ℕ) → 0 < n + 1
zero_below n = omega arith

below_more : (n : ℕ) → n < n + 1
below_more n = omega arith

-- a finished unit adds at most 1 to each count
adds_small : (f : FinishedUnit) → AreBelow 2 (adds_by f)
adds_small (a_test test) = adds_of_small test
adds_small (a_script result) = script_adds_small result

-- the counts stay below a limit that the number of units and of finishes are below
stats_below : (p : Settings) (why : Option CancelReason) (n limit : ℕ) (fs : List FinishedUnit)
    → units_in p < limit → n + length fs < limit → AreBelow limit (stats_after p why n fs)
unfolding total_by
stats_below p why n limit fs few short =
    with_units limit _ _ why (total_by adds_by (record nothing { skipped = n }) fs)
    (total_by_below adds_by adds_small limit (n + 1) (record nothing { skipped = n }) fs
    (search (rules, zero_below n, below_more n)) (omega arith))
    (omega (arith, sum_none_tests fs, count_by-le-length is_matched p.plan.tests))
    (omega (arith, sum_none_scripts fs))

-- as many units of a range run at most as it has
most_run : (a n : ℕ) (es : List ReporterEvent) → running_in_told a n es ≤ n
most_run a n es = let most = count_by-le-length (is_running es) (range_with_len a n) in
    omega (arith, length-range_with_len a n)

-- the oldest message can be delivered
start_ready : (p : Settings) (f : Frame) (refused : Bool) (now : ℕ) (run : List Happening) (k : ℕ) (m : Message)
    (rest : List Message) → Holds p now run → queue run ≡ m ∷ rest → pending_in k m ≡ Some started
    → CanTakeTurn (board_with p refused f now run) k (Answered (may_go (tally p run)))
start_ready p f refused now run k m rest h eq starts =
    let waits = start_waits p now run k m rest h eq starts in
    take_ready p f refused now run k (Answered (may_go (tally p run))) (Some waits.unit) h
    (unit_in-is p now run k h ∙ waits.is)
    (ap (λ ph. takes_at now ph waits.unit (Answered (may_go (tally p run)))) waits.phase)

oldest_ready : (p : Settings) (f : Frame) (refused : Bool) (now : ℕ) (run : List Happening) (q : List Message)
    → Holds p now run
    → is_on run ≡ true
    → units_in p < 2 ^ 32 → length run < 2 ^ 32 → queue run ≡ q → not (is_empty q) ≡ true
    → CanDeliverOldest (board_with p refused f now run) q
oldest_ready p f refused now run [] h on few short eq en = cc
oldest_ready p f refused now run (ScriptStart start ∷ rest) h on few short eq en =
    let k : ℕ = start.script.unit in
    let e = event_in 0 f (SetupScriptStarted start) in
    let waits = start_waits p now run k (ScriptStart start) rest h eq (script_own start) in
    let below = script_below p k (oldest_kind p now run (ScriptStart start) rest h eq) in
    let more = running-started 0 (scripts_in p) k (told run) e (omega arith) (omega (arith, below))
    waits.untold (λ k. refl)
    (λ k. refl) in
    let most = most_run 0 (scripts_in p) (told run ++ e ∷ []) in
    ((on, omega arith), start_ready p f refused now run k (ScriptStart start) rest h eq (script_own start))
oldest_ready p f refused now run (Start start ∷ rest) h on few short eq en =
    let k : ℕ = start.test.unit in
    let e = event_in 0 f (started_event start (tally p run)) in
    let waits = start_waits p now run k (Start start) rest h eq (start_own start) in
    let above = test_above p k (oldest_kind p now run (Start start) rest h eq) in
    let more = running-started (scripts_in p) (tests_in p) k (told run) e above waits.below waits.untold (λ k. refl)
    (λ k. refl) in
    let most = most_run (scripts_in p) (tests_in p) (told run ++ e ∷ []) in
    ((on, omega arith), start_ready p f refused now run k (Start start) rest h eq (start_own start))
oldest_ready p f refused now run (Retry retry ∷ rest) h on few short eq en =
    let waits = retry_waits p now run retry rest h eq in (
      (on, tt),
      take_ready p f refused now run retry.start.test.unit (Answered (may_go (tally p run))) (Some waits.unit) h
          (unit_in-is p now run retry.start.test.unit h ∙ waits.is)
          (ap (λ ph. takes_at now ph waits.unit (Answered (may_go (tally p run)))) waits.phase),
    )
oldest_ready p f refused now run (AttemptFailed failure ∷ rest) h on few short eq en = ((on, tt), tt)
oldest_ready p f refused now run (Slow slow ∷ rest) h on few short eq en = ((on, tt), tt)
oldest_ready p f refused now run (ScriptSlow slow ∷ rest) h on few short eq en = ((on, tt), tt)
oldest_ready p f refused now run (Skip skip ∷ rest) h on few short eq en =
    let counted = h.counted in
    ((on, (stats_below p (reason run) (skipped run) (2 ^ 32) (finished run) (omega arith) (omega arith)).skipped), tt)
oldest_ready p f refused now run (ScriptFinish finish ∷ rest) h on few short eq en =
    let k : ℕ = finish.script.unit in
    let follows = finish_follows p now run k (ScriptFinish finish) (attempt_of finish.status ∷ []) rest h eq
    (script_finish_own finish) in
    let below = script_below p k (oldest_kind p now run (ScriptFinish finish) rest h eq) in
    let less = running-finished 0 (scripts_in p) k (told run) (event_in 0 f (SetupScriptFinished finish)) (omega arith)
    (omega (arith, below)) follows.runs (λ k. refl) (λ k. refl) in
    let counted = h.counted in (
      (
        on,
        (stats_below p (reason run) (skipped run) (2 ^ 32) (finished run) (omega arith) (omega arith), omega arith),
      ),
      tt,
    )
oldest_ready p f refused now run (Finish finish ∷ rest) h on few short eq en =
    let k : ℕ = finish.test.unit in
    let follows = finish_follows p now run k (Finish finish) finish.statuses rest h eq (finish_own finish) in
    let above = test_above p k (oldest_kind p now run (Finish finish) rest h eq) in
    let less = running-finished (scripts_in p) (tests_in p) k (told run)
    (event_in 0 f (finished_event finish (tally p run))) above follows.below follows.runs (λ k. refl) (λ k. refl) in
    let counted = h.counted in (
      (
        on,
        (
          stats_below p (reason run) (skipped run) (2 ^ 32) (finished run) (omega arith) (omega arith),
          follows.attempted,
          omega arith,
        ),
      ),
      tt,
    )

-- each enabled turn can be taken
ready : (p : Settings) (f : Frame) (refused : Bool) (now : ℕ) (run : List Happening) (turn : Turn) → Holds p now run
    → units_in p < 2 ^ 32 → length run < 2 ^ 32 → (f.over ≡ false → HasSubRun (board_of p f now run))
    → enabled_on p (board_with p refused f now run) turn ≡ true
    → CanAdvance p (board_with p refused f now run) turn (turn_of_unit turn)
ready p f refused now run turn h few short counts en =
    by_turn (λ turn named. takes_turn p (board_with p refused f now run) turn named ≡ true
    → CanAdvance p (board_with p refused f now run) turn named)
    (record {
      begin = λ en. (h.heard, off (is_on run) (not f.over) en);
      admit = λ en. (
        h.heard,
        record {
          candidate = second_so (is_on run) (is_some (newcomer p (index_in p f) (units p run))) en;
          whole = units-length p run;
        },
      );
      deliver = λ en. (
        h.heard,
        oldest_ready p f refused now run (queue run) h (main (not (is_empty (queue run))) en) few short refl
            (second_so (is_main b.dispatcher) (not (is_empty (queue run))) en),
      );
      named = λ turn k to other en. take_ready p f refused now run k to _ h refl en;
      clock = λ ns en. (h.heard, grind (arith, en));
      signal = λ signal en.
          let takes : Bool = takes_signal (signals_heard run) (heard_by p.plan.hearing signal) in
          (h.heard, (second_so (is_main b.dispatcher) takes en, room (main takes en)));
      key = λ key en. (h.heard, room (main (is_some (heard_key p.plan.hearing.input key)) en));
      tick = λ en. (h.heard, tt);
      stop_wait_due = λ en. (h.heard, tt);
      answer = λ en. (
        h.heard,
        (
          second_so (is_on run && query_waits (open_round run)) (is_some (oldest_of (answers_waiting run))) en,
          let on = asked (is_some (oldest_of (answers_waiting run))) en in
              let fewer = below_length answers_told run h.rounds.told on in
              omega arith,
        ),
      );
      info_due = λ en. (h.heard, tt);
      global_due = λ en. (h.heard, main (fires_now now (global_timer p run)) en);
      report_cancel = λ en. (
        h.heard,
        main refused (first_so (is_main b.dispatcher && refused) (not (was_reported run)) en),
      );
      end = λ en. (
        h.heard,
        (
          main (is_complete b) (first_so (is_main b.dispatcher && is_complete b) (not (is_halted b.dispatcher)) en),
          counts (going f.over
              (first_so (not f.over) (takes_turn p (board_with p refused f now run) turn (turn_of_unit turn)) whole)),
        ),
      );
    })
    turn (second_so (not f.over) (takes_turn p (board_with p refused f now run) turn (turn_of_unit turn)) en)
  where
    b : Board
    b = board_with p refused f now run

    main : (more : Bool) → (is_main b.dispatcher && more) ≡ true → is_on run ≡ true
    main more en = first_so (is_on run) (is_none (open_round run)) (first_so (is_main b.dispatcher) more en)

    asked : (more : Bool) → (is_on run && query_waits (open_round run) && more) ≡ true → is_on run ≡ true
    asked more en =
        first_so (is_on run) (query_waits (open_round run))
        (first_so (is_on run && query_waits (open_round run)) more en)

    -- one more round can be numbered
    room : is_on run ≡ true → HasRound b
    room on = let fewer = below_length round_count run h.rounds.opened on in omega arith

    off : (b c : Bool) → (not b && c) ≡ true → b ≡ false
    off true c e = cc
    off false c e = refl

    going : (b : Bool) → not b ≡ true → b ≡ false
    going true e = cc
    going false e = refl

    whole : enabled_on p (board_with p refused f now run) turn ≡ true
    whole = en

-- a history is as long as its journal, and its newest sub-run is no longer
pub history-length : (p : Settings) (backward : List Entry) → length (history p backward) ≡ length backward
history-length p [] = refl
history-length p (e ∷ before) = ap (λ n. suc n) (history-length p before)

pub past_of-length : (p : Settings) (journal : List Entry) → length (past_of p journal) ≡ length journal
past_of-length p journal = history-length p (reverse journal) ∙ length-reverse journal

sub_run-length : (past : List Happening) → length (sub_run past) ≤ length past
sub_run-length [] = omega arith
sub_run-length (x ∷ past) = by_begin x.begins (sub_run past) (sub_run-length past)
  where
    by_begin : (b : Bool) (run : List Happening) → length run ≤ length past
        → length (if b then x ∷ [] else joined_run x run) ≤ length (x ∷ past)
    by_begin true run h = omega arith
    by_begin false [] h = omega arith
    by_begin false (y ∷ run) h = omega arith

-- neither the dispatcher nor a unit took a turn later than the clock is
timely_board : (p : Settings) (f : Frame) (now : ℕ) (run : List Happening) → Holds p now run
    → IsTimelyBoard (board_of p f now run)
timely_board p f now run h = record {
  dispatcher = h.heard;
  units = λ k u is. let named = h.named k u (sym (unit_in-is p now run k h) ∙ is) in named.2;
}

pub timely : (p : Settings) (journal : List Entry) → IsLegal p journal → IsTimelyBoard (board p (past_of p journal))
timely p journal legal =
    let past : List Happening = past_of p journal in
    let it = timely_board p (frame_of p past) (clock past) (sub_run past) (holds p (reverse journal) legal) in
    record { dispatcher = it.dispatcher; units = it.units }

pub ready_after : (p : Settings) (journal : List Entry) (turn : Turn) → IsLegal p journal → units_in p < 2 ^ 32
    → length journal < 2 ^ 32
    → enabled p (past_of p journal) turn ≡ true → CanAdvance p (board p (past_of p journal)) turn (turn_of_unit turn)
ready_after p journal turn legal few short en =
    ready p (frame_of p past) (was_refused past) (clock past) (sub_run past) turn (holds p (reverse journal) legal) few
    (omega (arith, past_of-length p journal, sub_run-length past))
    (λ going. (
      count_by-le-length (λ run. is_failed (summary_of p run)) (ended_runs past),
      few-ended p (reverse journal) legal going,
    )) en
  where
    past : List Happening
    past = past_of p journal

-- the clock moves by its turns
pub clock_moves : (past : List Happening) (x : Happening) → clock (x ∷ past) ≡ clock past + ns_of x.turn
clock_moves past x = refl
