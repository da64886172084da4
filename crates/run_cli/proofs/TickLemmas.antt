-- The ticks that a run tells, and the clocks of its turns.
use Rattle.std.proofs.Common.{◌≡◌, ℕ, zero, suc, ◌+◌, ◌<◌, ◌≤◌, ◌^◌, nat_lt, List, [], ◌∷◌, ◌++◌, length}
use Rattle.std.proofs.Common.{map, drop}
use Rattle.std.proofs.Common.{reverse, slice_get, Bool, true, false, ◌&&◌, if◌then◌else◌, Option}
use Rattle.std.proofs.Common.{unwrap_or, Result, Ok, Err, refl, ap, sym, ◌∙◌, arith}
use Rattle.std.proofs.Common.{IsTrue}
use Rattle.std.proofs.lemmas.List.{append-nil, map-append, length-map, length-append, reverse-append}
use Rattle.std.proofs.lemmas.List.{reverse-reverse, take-append-drop}
use Rattle.run_capture.proofs.Facts.{true_lt}
use Rattle.run_capture.specs.declared.source.Failed.{Failed}
use Rattle.run_events.specs.declared.settings.Settings.{Settings}
use Rattle.run_events.specs.declared.turn.Turn.{Turn}
use Rattle.run_events.specs.declared.turn.Turn.TheVariants as turns
use Rattle.run_events.specs.declared.outcome.RunOutcome.{RunOutcome}
use Rattle.run_events.specs.declared.events.ReporterEvent.{ReporterEvent}
use Rattle.run_events.specs.declared.events.ReporterEvent.TheVariants.{Tick, Test}
use Rattle.run_events.specs.declared.retry_policy.RunMode.{RunMode}
use Rattle.run_progress.specs.declared.max_running.MaxProgressRunning.{MaxProgressRunning}
use Rattle.run_model.specs.declared.entry.Entry.{Entry}
use Rattle.run_model.specs.declared.happening.Happening.{Happening}
use Rattle.run_model.specs.Board.{board}
use Rattle.run_model.specs.Turns.{enabled}
use Rattle.run_model.specs.Words.{clock, ns_of, told, events_in}
use Rattle.run_model.specs.Journal.{history, past_of, IsLegal, IsLegalBackward}
use Rattle.run_laws.specs.Course.{turns_of}
use Rattle.run_engine.specs.Execution.{IsAnswerOf, UnlessMemory}
use Rattle.run_engine.specs.declared.errors.TestRunnerExecuteErrors.{TestRunnerExecuteErrors}
use Rattle.run_engine.specs.declared.errors.TestRunnerExecuteErrors.TheVariants as engine
use Rattle.run_progress.specs.Lines.{tick_of, shown_after}
use Rattle.run_output.specs.Fields.{line_bytes}
use Rattle.run_output.specs.Shown.{Screen, line_in, lines_in, screen_after, first_screen, seen_in, is_hidden_in}
use Rattle.run_cli.specs.Clocks.{clock_after, clock_after_all, clock_at, turn_clocks}
use Rattle.run_cli.specs.Commands.{ticks_in, tick_clocks}
use Rattle.run_cli.proofs.ClockLemmas.{turn_clocks-more, clock_after-more, turn_clocks-append}
use Rattle.run_cli.proofs.QuietLemmas.{ticks_in-append, ticks_by}
use Rattle.run_generate.proofs.WayLemmas.{slice_get-front}

-- a clock that is at most the greatest u64 stays so after an enabled turn
second : (a b : Bool) → IsTrue (a && b) → b ≡ true
second true true h = refl
second true false h = cc
second false b h = cc

fits : (p : Settings) (past : List Happening) (turn : Turn) → clock past < 2 ^ 64 → IsTrue (enabled p past turn)
    → clock past + ns_of turn < 2 ^ 64
fits p past (turns.Clock ns) below on =
    let least : nat_lt (clock past + ns) (2 ^ 64) ≡ true = second _ (nat_lt (clock past + ns) (2 ^ 64)) on in
    grind (arith, least)
fits p past turn below on = omega arith

-- the turns of a journal with one more entry
turns-more : (e : Entry) (before : List Entry)
    → turns_of (reverse (e ∷ before)) ≡ turns_of (reverse before) ++ e.turn ∷ []
turns-more e before =
    ap turns_of (reverse-append (e ∷ []) before) ∙ map-append (λ (e : Entry). e.turn) (reverse before) (e ∷ [])

-- the clock of a legal journal, and the clocks of its ticks, are those of its turns
clocks_of : (p : Settings) (backward : List Entry) → IsLegalBackward p backward
    → (turn_clocks 0 (turns_of (reverse backward)) ≡ tick_clocks (history p backward))
    × (clock_after_all 0 (turns_of (reverse backward)) ≡ clock (history p backward))
    × (clock (history p backward) < 2 ^ 64)
clocks_of p [] legal = (refl, refl, omega arith)
clocks_of p (e ∷ before) legal =
    let past : List Happening = history p before in
    let ts : List Turn = turns_of (reverse before) in
    let (clocks, now, below) = clocks_of p before legal.2 in
    let fit : clock past + ns_of e.turn < 2 ^ 64 = fits p past e.turn below legal.0 in
    let same : clock_after (clock past) e.turn ≡ clock past + ns_of e.turn = omega (arith, fit) in (
      ap (turn_clocks 0) (turns-more e before) ∙ turn_clocks-more 0 ts e.turn
          ∙ ap (λ cs. cs ++ clock_at (clock_after_all 0 ts) e.turn) clocks
          ∙ ap (λ n. tick_clocks past ++ clock_at n e.turn) now
          ∙ ap (λ cs. tick_clocks past ++ cs) (sym (ticks_by p (board p past) (clock past) e.turn)),
      ap (clock_after_all 0) (turns-more e before) ∙ clock_after-more 0 ts e.turn
          ∙ ap (λ n. clock_after n e.turn) now ∙ same,
      fit,
    )

-- there is a clock for each tick
pub ticks_counted : (past : List Happening) → length (ticks_in (told past)) ≡ length (tick_clocks past)
ticks_counted [] = refl
ticks_counted (x ∷ past) =
    ap length (ticks_in-append (told past) (events_in x))
    ∙ length-append (ticks_in (told past)) (ticks_in (events_in x))
    ∙ ap (λ n. n + length (ticks_in (events_in x))) (ticks_counted past)
    ∙ ap (λ n. length (tick_clocks past) + n) (sym (length-map (ticks_in (events_in x)) (λ
    (tick : ReporterEvent). x.moment)))
    ∙ sym (length-append (tick_clocks past) (map (λ (tick : ReporterEvent). x.moment) (ticks_in (events_in x))))

-- the turns of an answer begin with those of its journal
rest_of : (p : Settings) (ts : List Turn) (journal : List Entry) (refusal : Option Failed)
    (answer : Result RunOutcome (TestRunnerExecuteErrors Failed)) → (answer ≡ Err engine.OutOfMemory → ⊥)
    → IsAnswerOf p ts journal refusal answer → (rest : List Turn) × (ts ≡ turns_of journal ++ rest)
rest_of p ts journal refusal (Ok o) some h = ([], sym h.0 ∙ sym (append-nil (turns_of journal)))
rest_of p ts journal refusal (Err (engine.Report e)) some h = ([], sym h.0 ∙ sym (append-nil (turns_of journal)))
rest_of p ts journal refusal (Err (engine.NotEnabled i)) some h =
    (drop i ts, sym (take-append-drop i ts) ∙ ap (λ us. us ++ drop i ts) (sym h.0))
rest_of p ts journal refusal (Err (engine.ThirdSignal i)) some h =
    (drop i ts, sym (take-append-drop i ts) ∙ ap (λ us. us ++ drop i ts) (sym h.0))
rest_of p ts journal refusal (Err engine.Unfinished) some h = ([], sym h.0 ∙ sym (append-nil (turns_of journal)))
rest_of p ts journal refusal (Err engine.OutOfMemory) some h = absurd (some refl)

-- a display with these clocks
abbrev with_clocks : Screen → List ℕ → Screen
with_clocks w clocks = record w { clocks = clocks }

-- its line at a tick that has a clock, and the display after it, where there are more clocks
tick_line : (w : Screen) (clocks more : List ℕ) → w.ticks < length clocks
    → line_in (with_clocks w (clocks ++ more)) Tick ≡ line_in (with_clocks w clocks) Tick
tick_line w clocks more below =
    ap (λ (now : Option ℕ). if is_hidden_in w then [] else line_bytes (tick_of w.showing (seen_in w)
    (unwrap_or now 0) w.width))
    (slice_get-front clocks more w.ticks below)

tick_after : (w : Screen) (clocks more : List ℕ) → w.ticks < length clocks
    → screen_after (with_clocks w (clocks ++ more)) Tick ≡ with_clocks (screen_after (with_clocks w clocks) Tick)
    (clocks ++ more)
tick_after w clocks more below =
    let longer : w.ticks < length (clocks ++ more) = omega (arith, length-append clocks more) in
    ap (λ (b : Bool). record w {
      clocks = clocks ++ more;
      ticks = if b then w.ticks + 1 else w.ticks;
      showing = if is_hidden_in w then w.showing
          else shown_after w.showing (seen_in w) (unwrap_or (slice_get (clocks ++ more) w.ticks) 0) w.width;
    }) (true_lt w.ticks (length (clocks ++ more)) longer ∙ sym (true_lt w.ticks (length clocks) below))
    ∙ ap (λ (now : Option ℕ). record w {
      clocks = clocks ++ more;
      ticks = if nat_lt w.ticks (length clocks) then w.ticks + 1 else w.ticks;
      showing = if is_hidden_in w then w.showing else shown_after w.showing (seen_in w) (unwrap_or now 0) w.width;
    }) (slice_get-front clocks more w.ticks below)

-- the lines of events among which are no more ticks than clocks
lines_more : (w : Screen) (clocks more : List ℕ) (events : List ReporterEvent)
    → w.ticks + length (ticks_in events) ≤ length clocks
    → lines_in (with_clocks w (clocks ++ more)) events ≡ lines_in (with_clocks w clocks) events
lines_more w clocks more [] few = refl
lines_more w clocks more (Test e ∷ events) few =
    ap (λ lines. [] ∷ lines) (lines_more (record w { told = w.told ++ e ∷ [] }) clocks more events few)
lines_more w clocks more (Tick ∷ events) few =
    let below : w.ticks < length clocks = omega arith in
    let after : Screen = screen_after (with_clocks w clocks) Tick in
    let counted : after.ticks ≡ w.ticks + 1 =
    ap (λ b. if b then w.ticks + 1 else w.ticks) (true_lt w.ticks (length clocks) below) in
    ap (λ line. line ∷ lines_in (screen_after (with_clocks w (clocks ++ more)) Tick) events)
    (tick_line w clocks more below)
    ∙ ap (λ v. line_in (with_clocks w clocks) Tick ∷ lines_in v events) (tick_after w clocks more below)
    ∙ ap (λ lines. line_in (with_clocks w clocks) Tick ∷ lines)
    (lines_more after clocks more events (omega (arith, counted)))

-- a fact that holds unless memory was wanting, from one for which it wasn't
pub unless_with : (answer : Result RunOutcome (TestRunnerExecuteErrors Failed)) (A B : Type 0)
    → ((answer ≡ Err engine.OutOfMemory → ⊥) → A → B) → UnlessMemory answer A → UnlessMemory answer B
unless_with (Ok o) A B f a = f (λ e. cc) a
unless_with (Err (engine.Report e)) A B f a = f (λ e. cc) a
unless_with (Err (engine.NotEnabled i)) A B f a = f (λ e. cc) a
unless_with (Err (engine.ThirdSignal i)) A B f a = f (λ e. cc) a
unless_with (Err engine.Unfinished) A B f a = f (λ e. cc) a
unless_with (Err engine.OutOfMemory) A B f a = tt

-- the lines of a run's events with the clocks of all turns are those with the clocks of its ticks
pub shown_by : (p : Settings) (ts : List Turn) (journal : List Entry) (rest : List Turn) (mode : RunMode)
    (max : MaxProgressRunning) (width : ℕ) → IsLegal p journal → ts ≡ turns_of journal ++ rest
    → lines_in (first_screen mode max width (turn_clocks 0 ts)) (told (past_of p journal))
    ≡ lines_in (first_screen mode max width (tick_clocks (past_of p journal))) (told (past_of p journal))
shown_by p ts journal rest mode max width legal are =
    let past : List Happening = past_of p journal in
    let more : List ℕ = turn_clocks (clock_after_all 0 (turns_of journal)) rest in
    let there : turns_of (reverse (reverse journal)) ≡ turns_of journal = ap turns_of (reverse-reverse journal) in
    let clocks : turn_clocks 0 (turns_of journal) ≡ tick_clocks past =
    ap (turn_clocks 0) (sym there) ∙ (clocks_of p (reverse journal) legal).0 in
    let all : turn_clocks 0 ts ≡ tick_clocks past ++ more =
    ap (turn_clocks 0) are ∙ turn_clocks-append 0 (turns_of journal) rest ∙ ap (λ cs. cs ++ more) clocks in
    let few : 0 + length (ticks_in (told past)) ≤ length (tick_clocks past) = omega (arith, ticks_counted past) in
    ap (λ cs. lines_in (first_screen mode max width cs) (told past)) all
    ∙ lines_more (first_screen mode max width []) (tick_clocks past) more (told past) few

-- so are those of a run that was answered
pub shown_clocks : (p : Settings) (ts : List Turn) (journal : List Entry) (refusal : Option Failed)
    (answer : Result RunOutcome (TestRunnerExecuteErrors Failed)) (mode : RunMode) (max : MaxProgressRunning)
    (width : ℕ)
    → (answer ≡ Err engine.OutOfMemory → ⊥) → IsLegal p journal → IsAnswerOf p ts journal refusal answer
    → lines_in (first_screen mode max width (turn_clocks 0 ts)) (told (past_of p journal))
    ≡ lines_in (first_screen mode max width (tick_clocks (past_of p journal))) (told (past_of p journal))
shown_clocks p ts journal refusal answer mode max width some legal h =
    let rest = rest_of p ts journal refusal answer some h in
    shown_by p ts journal rest.0 mode max width legal rest.1
