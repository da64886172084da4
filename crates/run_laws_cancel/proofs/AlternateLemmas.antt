-- Pauses are told in turn: each is the other of the one before.
use Rattle.std.proofs.Common.{◌≡◌, ◌&&◌, ◌++◌, List, [], ◌∷◌, Bool, true, false, not, Option, Some, None}
use Rattle.std.proofs.Common.{option_to_list, refl, ap, sym, subst, ◌∙◌}
use Rattle.std.specs.List.{cons_option}
use Rattle.std.proofs.lemmas.List.{append-nil}
use Rattle.std.proofs.lemmas.List.Elements.{filter_map-append}
use Rattle.run_clock.specs.Counted.{is_paused_after}
use Rattle.run_events.specs.declared.events.ReporterEvent.{ReporterEvent}
use Rattle.run_events.specs.declared.events.ReporterEvent.TheVariants.{Tick, Test}
use Rattle.run_events.specs.declared.events.TestEventKind.{TestEventKind}
use Rattle.run_events.specs.declared.events.TestEventKind.TheVariants.{RunBeginCancel, RunBeginKill, RunContinued}
use Rattle.run_events.specs.declared.events.TestEventKind.TheVariants.{RunPaused}
use Rattle.run_events.specs.declared.settings.Settings.{Settings}
use Rattle.run_model.specs.declared.entry.Entry.{Entry}
use Rattle.run_model.specs.declared.happening.Happening.{Happening}
use Rattle.run_model.specs.Board.{board}
use Rattle.run_model.specs.Journal.{history, IsLegalBackward}
use Rattle.run_model.specs.Rounds.{act_in, act_of}
use Rattle.run_model.specs.Turns.{deed_on, happening}
use Rattle.run_model.specs.Words.{clock, is_over, is_run_paused, sub_run, told}
use Rattle.run_laws.proofs.board.DeedFits.{cancel_told}
use Rattle.run_laws.proofs.board.Kept.{does_after, holds}
use Rattle.run_laws.proofs.told.Cancels.{IsAfter, IsAfterKind}
use Rattle.run_laws_cancel.specs.Enabled.{continues, continues_in}
use Rattle.run_laws_cancel.specs.Pauses.{AlternateFrom, TellsItsPause, is_cont, is_tstp, pause_told, pause_told_in}
use Rattle.run_laws_cancel.specs.Pauses.{pauses, pauses_in, pauses_told}
use Rattle.run_laws_cancel.proofs.PauseLemmas.{pause_of}
use Rattle.run_laws.proofs.board.OnBoard.{frame_of}
use Rattle.run_events.specs.declared.events.TestEventKind.TheVariants.{RunFinished, StressSubRunStarted}

-- what comes next after such events
next : Bool → List Bool → Bool
next first [] = first
next first (b ∷ later) = next (not first) later

record Alternates (bs : List Bool) (paused : Bool) : Type 0 where
  from : AlternateFrom true bs
  next_is : next true bs ≡ not paused

-- with one more that is that
one_more : (first : Bool) (bs : List Bool) (b : Bool) → AlternateFrom first bs → b ≡ next first bs
    → AlternateFrom first (bs ++ b ∷ []) × (next first (bs ++ b ∷ []) ≡ not b)
unfolding next
one_more first [] b from is = ((is, tt), ap not (sym is))
one_more first (c ∷ bs) b from is =
    let later = one_more (not first) bs b from.1 is in ((from.0, later.0), later.1)

-- the event of a cause is none
cancel_none : (o : Option ReporterEvent) → IsAfter o → pauses_told (option_to_list o) ≡ []
cancel_none None h = refl
cancel_none (Some Tick) h = absurd h
cancel_none (Some (Test event)) h = by_kind event.kind h
  where
    by_kind : (kind : TestEventKind) → IsAfterKind kind → cons_option (pause_told_in kind) [] ≡ []
    by_kind (RunBeginCancel cancelled) h = refl
    by_kind (RunBeginKill cancelled) h = refl
    by_kind (StressSubRunStarted progress) h = refl
    by_kind (RunFinished finished) h = refl
    by_kind kind h = absurd h

-- what a turn tells of a pause, with what it does to that
record TellsSo (paused : Bool) (o : Option ReporterEvent) : Type 0 where
  begins : pauses o ≡ true → paused ≡ false
  ends : continues o ≡ true → paused ≡ true

with_told : (o : Option ReporterEvent) (bs : List Bool) (paused : Bool) → TellsSo paused o → Alternates bs paused
    → Alternates (bs ++ pauses_told (option_to_list o)) (is_paused_after (act_of o) paused)
with_told None bs paused so h = subst (λ bs. Alternates bs paused) (sym (append-nil bs)) h
with_told (Some Tick) bs paused so h = subst (λ bs. Alternates bs paused) (sym (append-nil bs)) h
with_told (Some (Test event)) bs paused so h = by_kind event.kind so.begins so.ends
  where
    by_kind : (kind : TestEventKind) → (pauses_in kind ≡ true → paused ≡ false) → (continues_in kind ≡ true
        → paused ≡ true)
        → Alternates (bs ++ cons_option (pause_told_in kind) []) (is_paused_after (act_in kind) paused)
    by_kind (RunPaused event) begins ends =
        let more = one_more true bs true h.from (sym (h.next_is ∙ ap not (begins refl))) in
        record { from = more.0; next_is = more.1 }
    by_kind (RunContinued event) begins ends =
        let more = one_more true bs false h.from (sym (h.next_is ∙ ap not (ends refl))) in
        record { from = more.0; next_is = more.1 }
    by_kind kind begins ends = subst (λ bs. Alternates bs paused) (sym (append-nil bs)) h

-- so all that was told
so_told : (past : List Happening) (x : Happening) → TellsItsPause past x → TellsSo (is_run_paused past) x.told
so_told past x h = record {
  begins = λ some. off (is_tstp x.turn) (is_run_paused past) (sym h.paused ∙ some);
  ends = λ some. on (is_cont x.turn) (is_run_paused past) (sym h.continued ∙ some);
}
  where
    off : (a b : Bool) → (a && not b) ≡ true → b ≡ false
    off true true e = cc
    off true false e = refl
    off false b e = cc

    on : (a b : Bool) → (a && b) ≡ true → b ≡ true
    on true b e = e
    on false b e = cc

alternates : (p : Settings) (backward : List Entry) → IsLegalBackward p backward
    → Alternates (pauses_told (told (history p backward))) (is_run_paused (history p backward))
unfolding next
alternates p [] legal = record { from = tt; next_is = refl }
alternates p (e ∷ before) legal =
    subst (λ bs. Alternates bs (is_run_paused (x ∷ past))) (sym events)
    (with_told x.told (pauses_told (told past)) (is_run_paused past) (so_told past x (pause_of p past e legal.0))
    (alternates p before legal.2))
  where
    past : List Happening
    past = history p before

    x : Happening
    x = happening p past e

    none : pauses_told (option_to_list x.after) ≡ []
    none = cancel_none x.after
        (cancel_told p (frame_of p past) (clock past) _ (deed_on p (board p past) e.turn)
        (does_after p past e (holds p before legal.2) legal.0).marks)

    events : pauses_told (told past ++ (option_to_list x.told ++ option_to_list x.after))
        ≡ pauses_told (told past) ++ pauses_told (option_to_list x.told)
    events =
        filter_map-append pause_told (told past) (option_to_list x.told ++ option_to_list x.after)
        ∙ ap (λ bs. pauses_told (told past) ++ bs)
        (filter_map-append pause_told (option_to_list x.told) (option_to_list x.after)
        ∙ ap (λ bs. pauses_told (option_to_list x.told) ++ bs) none
        ∙ append-nil (pauses_told (option_to_list x.told)))

pub alternate : (p : Settings) (backward : List Entry) → IsLegalBackward p backward
    → AlternateFrom true (pauses_told (told (history p backward)))
alternate p backward legal = (alternates p backward legal).from
