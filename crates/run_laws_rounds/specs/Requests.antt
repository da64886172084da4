-- What a unit takes of the requests that were broadcast to it, and the answers that it gives to queries.
use Rattle.std.specs.Prelude.{ℕ, ◌≡◌, ◌+◌, ◌==◌, ◌&&◌, nat_lt, List, [], ◌∷◌, ◌++◌, map, Bool, true, false}
use Rattle.std.specs.Prelude.{if◌then◌else◌, Option, Some, None, is_none, option_to_list}
use Rattle.std.specs.List.{list_all}
use Rattle.run_events.specs.declared.info.InfoResponse.{InfoResponse}
use Rattle.run_events.specs.declared.info.UnitState.TheVariants.{Exited}
use Rattle.run_events.specs.declared.request.Request.{Request}
use Rattle.run_events.specs.declared.result.ExecuteStatus.{ExecuteStatus}
use Rattle.run_events.specs.declared.result.ScriptEnv.{ScriptEnv}
use Rattle.run_events.specs.declared.settings.Settings.{Settings}
use Rattle.run_model.specs.declared.entry.Entry.{Entry}
use Rattle.run_model.specs.declared.happening.Happening.{Happening}
use Rattle.run_model.specs.declared.happening.UnitPart.{UnitPart}
use Rattle.run_model.specs.declared.happening.UnitPart.TheVariants.{Acts}
use Rattle.run_model.specs.declared.unit_turn.UnitTurn.{UnitTurn}
use Rattle.run_model.specs.declared.unit_view.AttemptTerms.{AttemptTerms}
use Rattle.run_model.specs.declared.unit_view.UnitView.{UnitView}
use Rattle.run_model.specs.Admission.{is_done, unit_terms}
use Rattle.run_model.specs.Attempts.{statuses_of}
use Rattle.run_model.specs.Ending.{last_status}
use Rattle.run_model.specs.Info.{fault_in, rounds_in, stops_in, subject_of}
use Rattle.run_model.specs.Journal.{IsLegal, past_of}
use Rattle.run_model.specs.Story.{OwnTurn, broadcast_to, line_of, stopped_at, story_of}
use Rattle.run_model.specs.Turns.{happening}
use Rattle.run_model.specs.Unit.{row, takes}
use Rattle.run_model.specs.Words.{sub_run, unit_of}
use Rattle.run_laws.specs.Laws.{Extends}
use Rattle.run_laws.specs.Starts.{env_said}

-- the requests that a unit took by its own turns, the oldest first
abbrev pub requests_taken : List OwnTurn → List Request
requests_taken [] = []
requests_taken (t ∷ before) = requests_taken before ++ option_to_list t.request

-- whether a turn was one of unit k
abbrev pub is_turn_of : ℕ → Option UnitPart → Bool
is_turn_of k (Some (Acts j turn)) = j == k
is_turn_of k _ = false

-- the answers that unit k gave, each with the round of its query, in the order of its turns; and those rounds
abbrev pub answers_by : ℕ → List Happening → List (ℕ × InfoResponse)
answers_by k [] = []
answers_by k (x ∷ run) = answers_by k run ++ (if is_turn_of k x.part then x.info else [])

abbrev pub rounds_answered : ℕ → List Happening → List ℕ
rounds_answered k run = map (λ a. a.0) (answers_by k run)

-- whether unit k is over, and no cause stopped it: it ended its last attempt
abbrev pub has_finished : ℕ → List Happening → Bool
has_finished k run = is_done (unit_of k run) && is_none (stopped_at k run)

-- numbers that rise
abbrev pub are_rising : List ℕ → Bool
are_rising [] = true
are_rising (n ∷ ns) = list_all (nat_lt n) ns && are_rising ns

-- what a unit took is the first part of what was broadcast while it was live; the rounds of the queries that were
-- broadcast to it rise; and it answered just the queries that it took, each once and in order, or, where it has ended
-- its last attempt, just those that were broadcast to it
pub record HasItsRequests (k : ℕ) (run : List Happening) : Type 0 where
  pub took : Extends (requests_taken (story_of k run)) (broadcast_to k run)
  pub rising : are_rising (rounds_in (broadcast_to k run)) ≡ true
  pub answered : rounds_answered k run
      ≡ rounds_in (if has_finished k run then broadcast_to k run else requests_taken (story_of k run))

-- after every legal journal that holds of each unit in the newest sub-run
abbrev pub RequestsAreAnswered : Type 0
RequestsAreAnswered = (p : Settings) (journal : List Entry) → IsLegal p journal → (k : ℕ)
    → HasItsRequests k (sub_run (past_of p journal))

-- the answer of a unit whose last attempt came to this, on these terms, and its environment file to that
abbrev pub exited_with : AttemptTerms → ScriptEnv → ExecuteStatus → UnitView → InfoResponse
exited_with terms env s u = record {
  subject = subject_of u.role u;
  state = Exited s.result s.time (if s.slow then Some terms.slow.period else None) (fault_in env);
  output = s.output;
}

-- the turn with which a unit has ended its last attempt answers each query in its line once, with its own round, and
-- with what came of that attempt by its own turns
abbrev pub AnswersAsExited : Settings → List Happening → Happening → Type 0
AnswersAsExited p run x = (k : ℕ) (u : UnitView) → is_turn_of k x.part ≡ true → unit_of k run ≡ Some u
    → has_finished k (x ∷ run) ≡ true
    → (s : ExecuteStatus) × ((last_status (statuses_of p k run) ≡ Some s)
    × (x.info ≡ map (λ round. (round, exited_with (unit_terms p k) (env_said (story_of k run)) s u))
    (rounds_in (line_of k run))))

-- that holds of each turn of every legal journal
abbrev pub FinishesAnswer : Type 0
FinishesAnswer = (p : Settings) (journal : List Entry) (e : Entry) → IsLegal p (journal ++ e ∷ [])
    → AnswersAsExited p (sub_run (past_of p journal)) (happening p (past_of p journal) e)

-- each stop that leaves the line of a unit is counted once, with the turn that it leaves with
abbrev pub StopsAreCounted : Type 0
StopsAreCounted = (now : ℕ) (turn : UnitTurn) (u : UnitView) → takes now u turn ≡ true
    → stops_in (row now turn u).next.line + (row now turn u).acks ≡ stops_in u.line
