-- A display is hidden for a pause exactly where the run is paused.
use Rattle.std.proofs.Common.{◌≡◌, List, [], ◌∷◌, Bool, false, Option, Some, None, option_to_list, refl, ap, ◌∙◌}
use Rattle.std.specs.List.{cons_option}
use Rattle.run_clock.specs.Counted.{is_paused_after}
use Rattle.run_events.specs.Stats.{last_or}
use Rattle.run_events.specs.declared.settings.Settings.{Settings}
use Rattle.run_events.specs.declared.events.ReporterEvent.{ReporterEvent}
use Rattle.run_events.specs.declared.events.ReporterEvent.TheVariants.{Tick, Test}
use Rattle.run_events.specs.declared.events.TestEvent.{TestEvent}
use Rattle.run_events.specs.declared.events.TestEventKind.{TestEventKind}
use Rattle.run_events.specs.declared.events.TestEventKind.TheVariants as kinds
use Rattle.run_model.specs.declared.entry.Entry.{Entry}
use Rattle.run_model.specs.declared.happening.Happening.{Happening}
use Rattle.run_model.specs.Board.{board}
use Rattle.run_model.specs.Journal.{history, IsLegalBackward}
use Rattle.run_model.specs.Rounds.{act_in, act_of}
use Rattle.run_model.specs.Turns.{deed_on, happening}
use Rattle.run_model.specs.Words.{clock, is_run_paused, sub_run, told}
use Rattle.run_laws.proofs.board.DeedFits.{cancel_told}
use Rattle.run_laws.proofs.board.Deeds.{base_of}
use Rattle.run_laws.proofs.board.Kept.{does_after, holds}
use Rattle.run_laws.proofs.board.OnBoard.{frame_of}
use Rattle.run_laws.proofs.told.Cancels.{IsAfter, IsAfterKind}
use Rattle.run_progress.specs.Seen.{last_told, pause_in}
use Rattle.run_laws_display.specs.Displays.{events_heard}
use Rattle.run_laws_display.proofs.LastTold.{last_more, said}

-- whether an event says that the run is paused, or goes on
abbrev pub pause_said : TestEvent → Option Bool
pause_said event = pause_in event.kind

after_silent : (o : Option ReporterEvent) → IsAfter o → said pause_said (option_to_list o) ≡ []
after_silent None h = refl
after_silent (Some Tick) h = absurd h
after_silent (Some (Test e)) h = by_kind e.kind h
  where
    by_kind : (kind : TestEventKind) → IsAfterKind kind → cons_option (pause_in kind) [] ≡ []
    by_kind (kinds.RunBeginCancel cancelled) h = refl
    by_kind (kinds.RunBeginKill cancelled) h = refl
    by_kind (kinds.StressSubRunStarted progress) h = refl
    by_kind (kinds.RunFinished finished) h = refl
    by_kind kind h = absurd h

own_pause : (o : Option ReporterEvent) (before : Bool)
    → last_or before (said pause_said (option_to_list o)) ≡ is_paused_after (act_of o) before
own_pause None before = refl
own_pause (Some Tick) before = refl
own_pause (Some (Test e)) before = by_kind e.kind
  where
    by_kind : (kind : TestEventKind)
        → last_or before (cons_option (pause_in kind) []) ≡ is_paused_after (act_in kind) before
    by_kind (kinds.RunPaused event) = refl
    by_kind (kinds.RunContinued event) = refl
    by_kind kind = refl

pub pause_is : (p : Settings) (backward : List Entry) → IsLegalBackward p backward
    → last_told false pause_said (events_heard (told (history p backward))) ≡ is_run_paused (history p backward)
pause_is p [] legal = refl
pause_is p (e ∷ before) legal =
    last_more false pause_said (told past) x.told x.after (after_silent x.after cancels)
    ∙ own_pause x.told (last_told false pause_said (events_heard (told past)))
    ∙ ap (is_paused_after (act_of x.told)) (pause_is p before legal.2)
  where
    past : List Happening
    past = history p before

    x : Happening
    x = happening p past e

    cancels : IsAfter x.after
    cancels = cancel_told p (frame_of p past) (clock past) (base_of x.begins (sub_run past))
        (deed_on p (board p past) e.turn) (does_after p past e (holds p before legal.2) legal.0).marks
