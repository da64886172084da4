-- A whole history and its newest sub-run.
use Rattle.std.specs.Prelude.{ℕ, ◌≡◌, List, [], ◌∷◌, ◌++◌, map, length, filter_map, option_to_list}
use Rattle.std.specs.Prelude.{if◌then◌else◌, None}
use Rattle.run_events.specs.declared.ask.Ask.{Ask}
use Rattle.run_events.specs.declared.cancel.CancelReason.{CancelReason}
use Rattle.run_events.specs.declared.settings.Settings.{Settings}
use Rattle.run_model.specs.declared.entry.Entry.{Entry}
use Rattle.run_model.specs.declared.happening.Happening.{Happening}
use Rattle.run_model.specs.Journal.{IsLegal, past_of}
use Rattle.run_model.specs.Story.{never_started, was_left}
use Rattle.run_model.specs.Turns.{happening}
use Rattle.run_model.specs.Words.{asked, ended_runs, events_in, is_over, reason, sent, sub_run, told}

-- the history of a journal with one more entry, with what is told and asked in it: the events and the ask of the entry
-- after those before it, and the ask with the place of the entry
pub record AddsOne (p : Settings) (journal : List Entry) (e : Entry) : Type 0 where
  pub past : past_of p (journal ++ e ∷ []) ≡ happening p (past_of p journal) e ∷ past_of p journal
  pub told : told (past_of p (journal ++ e ∷ []))
      ≡ told (past_of p journal) ++ events_in (happening p (past_of p journal) e)
  pub asked : asked (past_of p (journal ++ e ∷ []))
      ≡ asked (past_of p journal)
      ++ map (λ ask. (length journal, ask)) (option_to_list (happening p (past_of p journal) e).asked)

abbrev pub OneMoreIsTold : Type 0
OneMoreIsTold = (p : Settings) (journal : List Entry) (e : Entry) → AddsOne p journal e

-- what was asked, in order, without the turns that asked it
abbrev pub asks_of : List Happening → List Ask
asks_of past = map (λ a. a.1) (asked past)

-- the reasons of all causes, the newest first
abbrev pub reasons_of : List Happening → List CancelReason
reasons_of past = filter_map (λ x. x.cause) past

-- two histories tell, ask and send the same, with the same causes, and the same units were never started and left
pub record SayTheSame (past run : List Happening) : Type 0 where
  pub told : told past ≡ told run
  pub asked : asks_of past ≡ asks_of run
  pub sent : sent past ≡ sent run
  pub causes : reasons_of past ≡ reasons_of run
  pub reason : reason past ≡ reason run
  pub never : (k : ℕ) → never_started k past ≡ never_started k run
  pub left : (k : ℕ) → was_left k past ≡ was_left k run

-- a whole history says what its newest sub-run says, which is the one that ended where the run is over; else none has
pub record IsOneRun (past : List Happening) : Type 0 where
  pub same : SayTheSame past (sub_run past)
  pub ended : ended_runs past ≡ (if is_over past then sub_run past ∷ [] else [])

-- that holds of the history of every legal journal, but of a stress run
abbrev pub RunsAreOne : Type 0
RunsAreOne = (p : Settings) (journal : List Entry) → p.stress ≡ None → IsLegal p journal
    → IsOneRun (past_of p journal)
