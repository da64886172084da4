-- What is told of the rounds in which the live units are asked what they are doing.
use Rattle.std.specs.Prelude.{ℕ, ◌≡◌, ◌+◌, ◌≤◌, List, [], ◌∷◌, ◌++◌, length, Bool, true, false, Option, Some, None}
use Rattle.std.specs.Prelude.{is_some, IfSome, slice_get}
use Rattle.run_events.specs.Hearing.{heard_key}
use Rattle.run_events.specs.declared.events.InfoAnswered.{InfoAnswered}
use Rattle.run_events.specs.declared.events.TestEventKind.{TestEventKind}
use Rattle.run_events.specs.declared.events.TestEventKind.TheVariants as kinds
use Rattle.run_events.specs.declared.info.InfoResponse.{InfoResponse}
use Rattle.run_events.specs.declared.input.InputEvent.{InputEvent}
use Rattle.run_events.specs.declared.input.InputEvent.TheVariants as inputs
use Rattle.run_events.specs.declared.plan.Hearing.{Hearing}
use Rattle.run_events.specs.declared.request.Request.TheVariants.{GetInfo}
use Rattle.run_events.specs.declared.signal.Heard.{Heard}
use Rattle.run_events.specs.declared.signal.Heard.TheVariants.{Info}
use Rattle.run_events.specs.declared.turn.Turn.{Turn}
use Rattle.run_events.specs.declared.turn.Turn.TheVariants.{Answer, InfoDue, Key, Signal}
use Rattle.run_events.specs.declared.settings.Settings.{Settings}
use Rattle.run_model.specs.declared.entry.Entry.{Entry}
use Rattle.run_model.specs.declared.happening.Happening.{Happening}
use Rattle.run_model.specs.Dispatch.{heard_by, query_waits}
use Rattle.run_model.specs.Journal.{IsLegal, past_of}
use Rattle.run_model.specs.Rounds.{answers_given, answers_told, of_told, open_round, round_count, round_total}
use Rattle.run_model.specs.Turns.{happening, live_in}
use Rattle.run_model.specs.Words.{sub_run, units}

-- how many units an event says to be asked; the answer that it tells; how many answers it says to be missing
abbrev pub asked_in : TestEventKind → Option ℕ
asked_in (kinds.InfoStarted event) = Some event.total
asked_in kind = None

abbrev pub answer_told_in : TestEventKind → Option InfoAnswered
answer_told_in (kinds.InfoResponse event) = Some event
answer_told_in kind = None

abbrev pub missing_in : TestEventKind → Option ℕ
missing_in (kinds.InfoFinished missing) = Some missing
missing_in kind = None

-- which turns ask what the units are doing, by what is heard: a signal, or a key; and which ask for the next answer,
-- and for the end of a round of queries
abbrev pub is_info_signal : Option Heard → Bool
is_info_signal (Some Info) = true
is_info_signal _ = false

abbrev pub is_info_key : Option InputEvent → Bool
is_info_key (Some inputs.Info) = true
is_info_key _ = false

abbrev pub asks_information : Hearing → Turn → Bool
asks_information hearing (Signal signal) = is_info_signal (heard_by hearing signal)
asks_information hearing (Key key) = is_info_key (heard_key hearing.input key)
asks_information hearing _ = false

abbrev pub is_answer_turn : Turn → Bool
is_answer_turn Answer = true
is_answer_turn _ = false

abbrev pub is_info_due : Turn → Bool
is_info_due InfoDue = true
is_info_due _ = false

-- the answers that were given in the open round by now to what it asks, in the order of the turns that gave them
abbrev pub given_so_far : List Happening → List InfoResponse
given_so_far run = answers_given (open_round run) run

-- a turn after others of a sub-run broadcasts a query, and tells that units are asked, exactly where it asks what they
-- are doing: with its own number, and with the count of the live ones. The turns that ask for an answer tell one: the
-- nth that is told in a round, counted from 0, is the nth that was given in it. And those that ask for the end of a
-- round tell of how many of the units that were asked no answer was told
pub record TellsOfQueries (p : Settings) (run : List Happening) (x : Happening) : Type 0 where
  pub queries : query_waits x.request ≡ asks_information p.plan.hearing x.turn
  pub asks : is_some (of_told asked_in None x.told) ≡ asks_information p.plan.hearing x.turn
  pub answers : is_some (of_told answer_told_in None x.told) ≡ is_answer_turn x.turn
  pub ends : is_some (of_told missing_in None x.told) ≡ is_info_due x.turn
  pub start : IfSome (of_told asked_in None x.told) (λ total.
      (x.request ≡ Some (GetInfo (round_count run))) × (total ≡ live_in (units p run)))
  pub answer : IfSome (of_told answer_told_in None x.told) (λ answer.
      (answer.index ≡ answers_told run) × (answer.total ≡ round_total run)
      × (slice_get (given_so_far run) (answers_told run) ≡ Some answer.response))
  pub finish : IfSome (of_told missing_in None x.told) (λ missing.
      (query_waits (open_round run) ≡ true) × (answers_told run + missing ≡ round_total run))

-- that holds of each turn of every legal journal
abbrev pub QueriesAreTold : Type 0
QueriesAreTold = (p : Settings) (journal : List Entry) (e : Entry) → IsLegal p (journal ++ e ∷ [])
    → TellsOfQueries p (sub_run (past_of p journal)) (happening p (past_of p journal) e)

-- in the newest sub-run of every legal journal no more answers were given in a round of queries, and none more told,
-- than units were asked
pub record AnswersFit (run : List Happening) : Type 0 where
  pub given : query_waits (open_round run) ≡ true → length (given_so_far run) ≤ round_total run
  pub told : answers_told run ≤ round_total run

abbrev pub NoneAnswersTwice : Type 0
NoneAnswersTwice = (p : Settings) (journal : List Entry) → IsLegal p journal → AnswersFit (sub_run (past_of p journal))
