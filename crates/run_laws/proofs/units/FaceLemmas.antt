-- What of a unit says its starts is left by its rows.
use Rattle.std.proofs.Common.{◌≡◌, inl, inr, ℕ, zero, suc, ◌+◌, ◌<◌, ◌==◌, List, [], ◌∷◌, ◌++◌, map, Bool, true}
use Rattle.std.proofs.Common.{false, if◌then◌else◌, Option, Some, None, option_map, option_to_list, filter_map, refl}
use Rattle.std.proofs.Common.{ap, ◌∙◌, arith}
use Rattle.std.specs.Prelude.{⊤}
use Rattle.std.specs.List.{list_any, range_with_len}
use Rattle.std.proofs.lemmas.List.FromFn.{take-map-range_with_len}
use Rattle.run_events.specs.declared.ask.Ask.{Ask}
use Rattle.run_events.specs.declared.ask.Ask.TheVariants.{Start as StartAsked, Signal, StopSelf}
use Rattle.run_events.specs.declared.message.Message.{Message}
use Rattle.run_events.specs.declared.message.Message.TheVariants.{ScriptStart, ScriptSlow, ScriptFinish}
use Rattle.run_events.specs.declared.message.Message.TheVariants.{Start as StartMessage, Slow}
use Rattle.run_events.specs.declared.events.ReporterEvent.{ReporterEvent}
use Rattle.run_events.specs.declared.events.ReporterEvent.TheVariants.{Test}
use Rattle.run_events.specs.declared.events.TestEventKind.{TestEventKind}
use Rattle.run_events.specs.declared.events.TestEventKind.TheVariants.{SetupScriptStarted, SetupScriptFinished}
use Rattle.run_events.specs.declared.events.TestEventKind.TheVariants.{TestStarted}
use Rattle.run_events.specs.declared.result.ExecuteStatus.{ExecuteStatus}
use Rattle.run_events.specs.declared.plan.PlanTest.{PlanTest}
use Rattle.run_events.specs.declared.request.Request.{Request}
use Rattle.run_events.specs.declared.settings.Settings.{Settings}
use Rattle.run_model.specs.declared.happening.Happening.{Happening}
use Rattle.run_model.specs.declared.phase.Phase.{Phase}
use Rattle.run_model.specs.declared.phase.Phase.TheVariants.{StartSent, Delay, RetrySent}
use Rattle.run_model.specs.declared.unit_turn.UnitTurn.{UnitTurn}
use Rattle.run_model.specs.declared.unit_turn.UnitTurn.TheVariants.{Answered}
use Rattle.run_model.specs.declared.unit_view.UnitRole.{UnitRole}
use Rattle.run_model.specs.declared.unit_view.UnitRole.TheVariants as roles
use Rattle.run_model.specs.declared.unit_view.UnitView.{UnitView}
use Rattle.run_commands.specs.Pair.{Pair}
use Rattle.run_model.specs.Environment.{number, start_ask, environment_as}
use Rattle.run_model.specs.Admission.{begun_view, handed_by, handed_from, handed_to, scripts_in, start_message}
use Rattle.run_model.specs.Admission.{units_in}
use Rattle.run_model.specs.Ending.{last_status}
use Rattle.run_model.specs.Row.{Row}
use Rattle.run_model.specs.Retries.{failure_message, finish_message, next_delay, retry_message, script_finish}
use Rattle.run_model.specs.Unit.{at_moment, is_live, reach, row, row_at, takes_at}
use Rattle.run_model.specs.Story.{begins_attempt}
use Rattle.run_model.specs.Words.{unit_of, units}
use Rattle.run_laws.specs.Starts.{given_from, start_at, start_for, message_of}
use Rattle.run_laws.proofs.units.OpenRows.{Keeps, IsNoStart, IsReport}
use Rattle.run_laws.proofs.units.Rows.{row_keeps, StaysOrGoes, Takes, answers, opens, decides, passes, again}
use Rattle.run_laws.proofs.units.Rows.{continues, decide_cases, row_moves, row_passes, row_takes}

-- a unit as it began: its role, its command, its surroundings and its terms say its starts
abbrev pub face : UnitView → UnitView
face u = begun_view u.role u.command u.around u.terms

pub face_kept : (u v : UnitView) → Keeps u v → face v ≡ face u
face_kept u v it = rw (it.role, it.command, it.around, it.terms) refl

pub start_face : (u : UnitView) (n : ℕ) → start_at u n ≡ start_at (face u) n
unfolding start_ask
start_face u n = rw (same u.role) refl
  where
    same : (role : UnitRole)
        → environment_as role (record u { attempt = n }) ≡ environment_as role (record (face u) { attempt = n })
    same (roles.Test t) = refl
    same (roles.Script s) = refl

pub message_face : (u : UnitView) → message_of u ≡ message_of (face u)
message_face u = by_role u.role
  where
    by_role : (role : UnitRole) → start_message role u ≡ start_message role (face u)
    by_role (roles.Test t) = refl
    by_role (roles.Script s) = refl

-- a request, and a turn that lets no new unit join under this number, leave it
pub face_reach : (request : Option Request) (v : Option UnitView)
    → option_map face (reach request v) ≡ option_map face v
face_reach None v = refl
face_reach (Some request) None = refl
face_reach (Some request) (Some u) = by_live (is_live u.phase)
  where
    by_live : (b : Bool) → Some (face (if b then record u { line = u.line ++ request ∷ [] } else u)) ≡ Some (face u)
    by_live true = refl
    by_live false = refl

pub face_row : (now : ℕ) (turn : UnitTurn) (v : Option UnitView)
    → option_map face (option_map (λ w. (row now turn w).next) v) ≡ option_map face v
face_row now turn None = refl
face_row now turn (Some u) =
    ap Some (face_kept (at_moment now u) (row now turn u).next (row_keeps now u.phase turn (at_moment now u) refl))

-- the starts of unit k among what is asked at a time
abbrev pub starts_in : ℕ → Option Ask → List Ask
starts_in k ask = filter_map (start_for k) (option_to_list ask)

pub no_start : (k : ℕ) (ask : Option Ask) → IsNoStart ask → starts_in k ask ≡ []
no_start k None none = refl
no_start k (Some (StartAsked ask)) none = absurd none
no_start k (Some (Signal ask)) none = refl
no_start k (Some StopSelf) none = refl

-- the start of a unit is that of its number
pub own_start : (k n : ℕ) (u : UnitView)
    → starts_in k (Some (start_at u n)) ≡ (if number u == k then start_at u n ∷ [] else [])
unfolding start_ask
own_start k n u = by_unit (number u == k) refl
  where
    by_unit : (b : Bool) → (number u == k) ≡ b
        → starts_in k (Some (start_at u n)) ≡ (if b then start_at u n ∷ [] else [])
    by_unit true e = rw e refl
    by_unit false e = rw e refl

-- a row where a unit is let go asks the start of its attempt: the first, or the next one
abbrev pub attempt_to : Phase → ℕ → ℕ
attempt_to RetrySent n = n + 1
attempt_to ph n = n

pub row_asks_start : (now : ℕ) (ph : Phase) (turn : UnitTurn) (u : UnitView) → takes_at now ph u turn ≡ true
    → begins_attempt turn ≡ true → (row_at now ph turn u).asked ≡ Some (start_at u (attempt_to ph u.attempt))
row_asks_start now StartSent (Answered true) u en begins = refl
row_asks_start now RetrySent (Answered true) u en begins = refl
row_asks_start now ph (Answered false) u en begins = cc
row_asks_start now ph turn u en begins = cc

-- the message of a start, or of the finish of a script, that an event tells
abbrev pub said_in : TestEventKind → Option Message
said_in (SetupScriptStarted start) = Some (ScriptStart start)
said_in (SetupScriptFinished finish) = Some (ScriptFinish finish)
said_in (TestStarted event) = Some (StartMessage event.start)
said_in _ = None

abbrev pub said_of : ReporterEvent → Option Message
said_of (Test event) = said_in event.kind
said_of _ = None

-- whether a message is that of a start
abbrev pub is_start : Message → Bool
is_start (ScriptStart start) = true
is_start (StartMessage start) = true
is_start _ = false

abbrev pub SendsNoStart : Option Message → Type 0
SendsNoStart None = ⊤
SendsNoStart (Some m) = is_start m ≡ false

pub row_sends_none : (now : ℕ) (ph : Phase) (turn : UnitTurn) (u : UnitView) → u.phase ≡ ph
    → takes_at now ph u turn ≡ true → SendsNoStart (row_at now ph turn u).sent
row_sends_none now ph turn u is en = by_take (row_takes now ph turn u en)
  where
    report : (o : Option Message) → IsReport o → SendsNoStart o
    report None h = tt
    report (Some (ScriptSlow slow)) h = refl
    report (Some (Slow slow)) h = refl
    report (Some m) h = absurd h

    failure : (delay : ℕ) (role : UnitRole) (status : Option ExecuteStatus)
        → SendsNoStart (failure_message role delay status)
    failure delay (roles.Test t) None = tt
    failure delay (roles.Test t) (Some status) = refl
    failure delay (roles.Script s) status = tt

    finish : (role : UnitRole) → SendsNoStart (finish_message role u)
    finish (roles.Test t) = refl
    finish (roles.Script s) = by_last (last_status u.statuses)
      where
        by_last : (o : Option ExecuteStatus) → SendsNoStart (option_map (script_finish s u) o)
        by_last None = tt
        by_last (Some status) = refl

    retry : (role : UnitRole) → SendsNoStart (retry_message role u)
    retry (roles.Test t) = refl
    retry (roles.Script s) = tt

    by_way : (r : Row) → StaysOrGoes u r → SendsNoStart r.sent
    by_way r (inl stays) = rw stays.1 tt
    by_way r (inr goes) = rw goes.1 (retry u.role)

    by_take : Takes ph turn → SendsNoStart (row_at now ph turn u).sent
    by_take (answers true at to) = rw (at, to) tt
    by_take (answers false at to) = rw (at, to) tt
    by_take (opens on) = report _ (continues u _ (row_moves now ph turn u is on)).sent
    by_take (decides word at to) = rw (at, to) (decide_cases (λ r. SendsNoStart r.sent) now word u
        (λ _. failure (next_delay word u) u.role (last_status u.statuses)) (λ _. finish u.role))
    by_take (passes at to) = rw at (by_way (row_at now Delay turn u) (row_passes now turn u (is ∙ at)).way)
    by_take (again true at to) = rw (at, to) tt
    by_take (again false at to) = rw (at, to) tt

-- what units hand on, by their numbers
pub handed-from : (run : List Happening) (numbers : List ℕ) (k n : ℕ)
    → handed_from numbers k (map (λ k. unit_of k run) (range_with_len k n))
    ≡ given_from (λ i. handed_by (unit_of i run)) numbers k n
handed-from run numbers k zero = refl
handed-from run numbers k (suc n) =
    ap (λ vs. (if list_any (λ i. i == k) numbers then handed_by (unit_of k run) else []) ++ vs)
    (handed-from run numbers (k + 1) n)

pub handed-to : (p : Settings) (run : List Happening) (test : PlanTest) → handed_to p (units p run) test
    ≡ given_from (λ i. handed_by (unit_of i run)) test.scripts 0 (scripts_in p)
handed-to p run test =
    ap (handed_from test.scripts 0)
    (take-map-range_with_len (λ k. unit_of k run) 0 (units_in p) (scripts_in p) (omega arith))
    ∙ handed-from run test.scripts 0 (scripts_in p)

-- what is given is the same where each of the numbers gives the same
pub given-same : (f g : ℕ → List Pair) (numbers : List ℕ) (k n : ℕ)
    → ((i : ℕ) → i < k + n → f i ≡ g i) → given_from f numbers k n ≡ given_from g numbers k n
given-same f g numbers k zero same = refl
given-same f g numbers k (suc n) same =
    rw (same k (omega arith), given-same f g numbers (k + 1) n (λ i below. same i (omega arith))) refl
