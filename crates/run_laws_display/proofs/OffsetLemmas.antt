-- How long a display takes the run to have been paused is how long it was.
use Rattle.std.proofs.Common.{◌≡◌, ℕ, ◌-◌, List, [], ◌∷◌, ◌++◌, true, false, Option}
use Rattle.std.proofs.Common.{Some, None, option_to_list, reverse, refl, ap, sym, subst, ◌∙◌, arith}
use Rattle.std.specs.List.{All}
use Rattle.std.proofs.lemmas.List.{reverse-append, reverse-reverse}
use Rattle.std.proofs.lemmas.List.Elements.{All-head}
use Rattle.run_clock.specs.Counted.{Act, pause, resume, other, IsInOrder, is_paused, is_paused_after, paused_time}
use Rattle.run_clock.proofs.CountedLemmas.{time_adds_up}
use Rattle.run_events.specs.Stats.{last_or}
use Rattle.run_events.specs.declared.settings.Settings.{Settings}
use Rattle.run_events.specs.declared.events.ReporterEvent.{ReporterEvent}
use Rattle.run_events.specs.declared.events.ReporterEvent.TheVariants.{Tick, Test}
use Rattle.run_events.specs.declared.events.TestEvent.{TestEvent}
use Rattle.run_events.specs.declared.events.TestEventKind.{TestEventKind}
use Rattle.run_events.specs.declared.events.TestEventKind.TheVariants as kinds
use Rattle.run_model.specs.declared.entry.Entry.{Entry}
use Rattle.run_model.specs.declared.happening.Happening.{Happening}
use Rattle.run_model.specs.Board.{board}
use Rattle.run_model.specs.Journal.{history, IsLegalBackward}
use Rattle.run_model.specs.Rounds.{act_of, run_marks}
use Rattle.run_model.specs.Turns.{deed_on, happening}
use Rattle.run_model.specs.Words.{clock, elapsed, events_in, is_run_paused, sub_run, told}
use Rattle.run_laws.proofs.board.DeedFits.{cancel_told}
use Rattle.run_laws.proofs.board.Deeds.{base_of}
use Rattle.run_laws.proofs.board.Kept.{does_after, holds}
use Rattle.run_laws.proofs.board.OnBoard.{frame_of}
use Rattle.run_laws.proofs.told.Cancels.{IsAfter, IsAfterKind}
use Rattle.run_progress.specs.declared.max_running.MaxProgressRunning.{MaxProgressRunning}
use Rattle.run_progress.specs.Deeds.{paused_in}
use Rattle.run_progress.specs.Seen.{last_told, seen_of}
use Rattle.run_laws_events.specs.Moments.{SaysMoment}
use Rattle.run_laws_events.proofs.CountLemmas.{moments}
use Rattle.run_laws_display.specs.Displays.{events_heard}
use Rattle.run_laws_display.proofs.LastTold.{last_more, said}

-- the pauses that told events say
abbrev pauses_said : List ReporterEvent → List ℕ
pauses_said events = said paused_in events

-- what a turn tells after its own event says none
after_says : (o : Option ReporterEvent) → IsAfter o → pauses_said (option_to_list o) ≡ []
after_says None h = refl
after_says (Some Tick) h = absurd h
after_says (Some (Test e)) h = by_kind e.kind e.clock e.elapsed h
  where
    by_kind : (kind : TestEventKind) (now active : ℕ) → IsAfterKind kind
        → pauses_said (option_to_list (Some (Test (record { kind = kind; clock = now; elapsed = active })))) ≡ []
    by_kind (kinds.RunBeginCancel cancelled) now active h = refl
    by_kind (kinds.RunBeginKill cancelled) now active h = refl
    by_kind (kinds.StressSubRunStarted progress) now active h = refl
    by_kind (kinds.RunFinished finished) now active h = refl
    by_kind kind now active h = absurd h

-- the last pause that is said, after the turn's own event
abbrev last_by : Act → ℕ → ℕ → ℕ
last_by resume said last = said
last_by act said last = last

own_says : (o : Option ReporterEvent) (now active last : ℕ) (cancel : List ReporterEvent)
    → All (SaysMoment now active) (option_to_list o ++ cancel)
    → last_or last (pauses_said (option_to_list o)) ≡ last_by (act_of o) (now - active) last
own_says None now active last cancel says = refl
own_says (Some Tick) now active last cancel says = refl
own_says (Some (Test e)) now active last cancel says =
    by_kind e.kind e.clock e.elapsed (All-head (SaysMoment now active) (Test e) cancel says)
  where
    told_with : TestEventKind → ℕ → ℕ → Option ReporterEvent
    told_with kind clock elapsed = Some (Test (record { kind = kind; clock = clock; elapsed = elapsed }))

    by_kind : (kind : TestEventKind) (clock elapsed : ℕ) → (clock ≡ now) × (elapsed ≡ active)
        → last_or last (pauses_said (option_to_list (told_with kind clock elapsed)))
        ≡ last_by (act_of (told_with kind clock elapsed)) (now - active) last
    by_kind (kinds.RunContinued e) clock elapsed says = omega (arith, says.0, says.1)
    by_kind kind clock elapsed says = refl

offset_more : (o c : Option ReporterEvent) (now active : ℕ) (es : List ReporterEvent) → IsAfter c
    → All (SaysMoment now active) (option_to_list o ++ option_to_list c)
    → last_told 0 paused_in (events_heard (es ++ (option_to_list o ++ option_to_list c)))
    ≡ last_by (act_of o) (now - active) (last_told 0 paused_in (events_heard es))
offset_more o c now active es cancels says =
    last_more 0 paused_in es o c (after_says c cancels)
    ∙ own_says o now active (last_or 0 (pauses_said es)) (option_to_list c) says

-- the marks of a history are in order
marks_order : (p : Settings) (backward : List Entry)
    → IsInOrder 0 (run_marks (history p backward)) (clock (history p backward))
marks_order p [] = omega arith
marks_order p (e ∷ before) = (omega arith, marks_order p before)

-- what a turn tells says its moment
says_moment : (p : Settings) (e : Entry) (before : List Entry) → IsLegalBackward p (e ∷ before)
    → All (SaysMoment (clock (history p before)) (elapsed (history p before)))
    (events_in (happening p (history p before) e))
says_moment p e before legal =
    subst (λ b. All (SaysMoment (clock (history p b)) (elapsed (history p b)))
    (events_in (happening p (history p b) e)))
    (reverse-reverse before)
    (moments p (reverse before) e (subst (IsLegalBackward p)
    (sym (reverse-append (reverse before) (e ∷ []) ∙ ap (λ es. e ∷ es) (reverse-reverse before))) legal))

pub offset_is : (p : Settings) (backward : List Entry) → IsLegalBackward p backward
    → is_run_paused (history p backward) ≡ false
    → last_told 0 paused_in (events_heard (told (history p backward)))
    ≡ paused_time 0 (run_marks (history p backward)) (clock (history p backward))
offset_is p [] legal goes = refl
offset_is p (e ∷ before) legal goes =
    offset_more x.told x.after (clock past) (elapsed past) (told past) cancels (says_moment p e before legal)
    ∙ by_act (offset_is p before legal.2) (act_of x.told) refl ∙ sym later
  where
    past : List Happening
    past = history p before

    x : Happening
    x = happening p past e

    cancels : IsAfter x.after
    cancels = cancel_told p (frame_of p past) (clock past) (base_of x.begins (sub_run past))
        (deed_on p (board p past) e.turn) (does_after p past e (holds p before legal.2) legal.0).marks

    later : paused_time 0 (run_marks (x ∷ past)) (clock (x ∷ past)) ≡ paused_time 0 (run_marks past) (clock past)
    later = rw goes (omega arith)

    by_act : (is_run_paused past ≡ false → last_told 0 paused_in (events_heard (told past))
        ≡ paused_time 0 (run_marks past) (clock past)) → (a : Act) → act_of x.told ≡ a
        → last_by a (clock past - elapsed past) (last_told 0 paused_in (events_heard (told past)))
        ≡ paused_time 0 (run_marks past) (clock past)
    by_act was resume is = omega (arith, time_adds_up 0 (run_marks past) (clock past) (marks_order p before))
    by_act was other is =
        was (subst (λ a. is_paused_after a (is_paused (run_marks past)) ≡ false) is goes)
    by_act was pause is =
        let never : true ≡ false = subst (λ a. is_paused_after a (is_paused (run_marks past)) ≡ false) is goes in cc

-- which is what a display has seen
pub paused-seen : (max : MaxProgressRunning) (events : List TestEvent)
    → (seen_of max events).paused ≡ last_told 0 paused_in events
unfolding seen_of
paused-seen max events = refl
