-- What a row of the unit table does to a unit, apart from its attempt.
use Rattle.std.proofs.Common.{◌≡◌, ◌⊎◌, inl, inr, ℕ, List, [], ◌∷◌, Bool, true, false, if◌then◌else◌, Option, Some}
use Rattle.std.proofs.Common.{None, option_map, refl, ap, sym, subst, ◌∙◌}
use Rattle.run_events.specs.declared.result.ExecuteStatus.{ExecuteStatus}
use Rattle.run_events.specs.declared.request.Request.{Request}
use Rattle.run_events.specs.declared.request.Request.TheVariants.{Stop, Continue, Shutdown, OtherCancel, GetInfo}
use Rattle.run_model.specs.declared.phase.Phase.{Phase}
use Rattle.run_model.specs.declared.phase.Phase.TheVariants.{StartSent, Starting, Running, Grace, KillWait, Leak}
use Rattle.run_model.specs.declared.phase.Phase.TheVariants.{EnvWait, Deciding, Delay, RetrySent, Over}
use Rattle.run_model.specs.declared.unit_turn.UnitTurn.{UnitTurn}
use Rattle.run_model.specs.declared.unit_turn.UnitTurn.TheVariants.{Answered, Due, Take, Decide}
use Rattle.run_model.specs.declared.unit_view.UnitRole.{UnitRole}
use Rattle.run_model.specs.declared.unit_view.UnitRole.TheVariants as roles
use Rattle.run_model.specs.declared.unit_view.UnitView.{UnitView}
use Rattle.run_model.specs.Environment.{number, start_ask}
use Rattle.run_model.specs.Ending.{last_status}
use Rattle.run_model.specs.Row.{Row, quiet}
use Rattle.run_model.specs.Retries.{finish_message, failure_message, script_finish, has_retry, next_delay, delayed}
use Rattle.run_model.specs.Retries.{decided, decide_row, retry_message, retried}
use Rattle.run_model.specs.Requests.{requested, take_row}
use Rattle.run_model.specs.Unit.{at_moment, row_at, takes_at, at_next}
use Rattle.run_model.specs.Admission.{is_last}
use Rattle.run_model.specs.Story.{begins_attempt}
use Rattle.run_laws.proofs.units.OpenRows.{is_open, Keeps, same, IsReport, Moves, IsForOwn, IsNoStart, IsReportOf}
use Rattle.run_laws.proofs.units.OpenRows.{no_report, own}

-- a delay goes on, or is over: its unit is to be let go for its next attempt
abbrev pub StaysOrGoes : UnitView → Row → Type 0
StaysOrGoes u r =
    ((r.next.phase ≡ Delay) × (r.sent ≡ None)) ⊎ ((r.next.phase ≡ RetrySent) × (r.sent ≡ retry_message u.role u))

pub record Passes (u : UnitView) (r : Row) : Type 0 where
  pub keeps : Keeps u r.next
  pub attempt : r.next.attempt ≡ u.attempt
  pub statuses : r.next.statuses ≡ u.statuses
  pub asked : r.asked ≡ None
  pub way : StaysOrGoes u r

-- each row of a delay
pub row_passes : (now : ℕ) (turn : UnitTurn) (u : UnitView) → u.phase ≡ Delay → Passes u (row_at now Delay turn u)
row_passes now Due u is = record {
  keeps = record { role = refl; command = refl; around = refl; terms = refl; latest = refl };
  attempt = refl;
  statuses = refl;
  asked = refl;
  way = inr (refl, refl);
}
row_passes now Take u is = by_line u.line
  where
    still : (line : List Request) → Passes u (quiet (record u { line = line }))
    still line = record {
      keeps = record { role = refl; command = refl; around = refl; terms = refl; latest = refl };
      attempt = refl;
      statuses = refl;
      asked = refl;
      way = inl (is, refl);
    }

    same_retry : (role : UnitRole) (line : List Request)
        → retry_message role (record u { line = line }) ≡ retry_message role u
    same_retry (roles.Test t) line = refl
    same_retry (roles.Script s) line = refl

    over : (request : Request) (line : List Request) → requested now Delay request (record u { line = line })
        ≡ retried (record u { line = line }) → Passes u (requested now Delay request (record u { line = line }))
    over request line e = rw e (record {
      keeps = record { role = refl; command = refl; around = refl; terms = refl; latest = refl };
      attempt = refl;
      statuses = refl;
      asked = refl;
      way = inr (refl, same_retry u.role line);
    })

    by_request : (request : Request) (line : List Request)
        → Passes u (requested now Delay request (record u { line = line }))
    by_request (Shutdown request) line = over (Shutdown request) line refl
    by_request OtherCancel line = over OtherCancel line refl
    by_request (Stop round) line = record {
      keeps = record { role = refl; command = refl; around = refl; terms = refl; latest = refl };
      attempt = refl;
      statuses = refl;
      asked = refl;
      way = inl (is, refl);
    }
    by_request Continue line = record {
      keeps = record { role = refl; command = refl; around = refl; terms = refl; latest = refl };
      attempt = refl;
      statuses = refl;
      asked = refl;
      way = inl (is, refl);
    }
    by_request (GetInfo round) line = record {
      keeps = record { role = refl; command = refl; around = refl; terms = refl; latest = refl };
      attempt = refl;
      statuses = refl;
      asked = refl;
      way = inl (is, refl);
    }

    by_line : (line : List Request) → Passes u (take_row now Delay line u)
    by_line [] = still u.line
    by_line (request ∷ line) = by_request request line
row_passes now turn u is = record {
  keeps = same u;
  attempt = refl;
  statuses = refl;
  asked = refl;
  way = inl (is, refl);
}

-- a unit that decides is tried again, or is done
pub decide_cases : (P : Row → Type 0) (now word : ℕ) (u : UnitView)
    → (has_retry u ≡ true → P (delayed now (next_delay word u) u)) → (has_retry u ≡ false → P (decided u))
    → P (decide_row now word u)
decide_cases P now word u again done = by_retry (has_retry u) refl
  where
    by_retry : (b : Bool) → has_retry u ≡ b → P (if b then delayed now (next_delay word u) u else decided u)
    by_retry true e = again e
    by_retry false e = done e

-- a row leaves a unit its role, its terms and the moment of its latest turn
pub row_keeps : (now : ℕ) (ph : Phase) (turn : UnitTurn) (u : UnitView) → u.phase ≡ ph
    → Keeps u (row_at now ph turn u).next
row_keeps now ph turn u is = by_open ph turn is (is_open ph) refl
  where
    closed : (ph : Phase) (turn : UnitTurn) → u.phase ≡ ph → is_open ph ≡ false → Keeps u (row_at now ph turn u).next
    closed Delay turn is e = (row_passes now turn u is).keeps
    closed StartSent (Answered true) is e = record {
      role = refl;
      command = refl;
      around = refl;
      terms = refl;
      latest = refl;
    }
    closed StartSent (Answered false) is e = record {
      role = refl;
      command = refl;
      around = refl;
      terms = refl;
      latest = refl;
    }
    closed StartSent turn is e = same u
    closed Deciding (Decide word) is e = decide_cases (λ r. Keeps u r.next) now word u
        (λ _. record { role = refl; command = refl; around = refl; terms = refl; latest = refl })
        (λ _. record { role = refl; command = refl; around = refl; terms = refl; latest = refl })
    closed Deciding turn is e = same u
    closed RetrySent (Answered true) is e = record {
      role = refl;
      command = refl;
      around = refl;
      terms = refl;
      latest = refl;
    }
    closed RetrySent (Answered false) is e = record {
      role = refl;
      command = refl;
      around = refl;
      terms = refl;
      latest = refl;
    }
    closed RetrySent turn is e = same u
    closed Over turn is e = same u
    closed ph turn is e = cc

    by_open : (ph : Phase) (turn : UnitTurn) → u.phase ≡ ph → (b : Bool) → is_open ph ≡ b
        → Keeps u (row_at now ph turn u).next
    by_open ph turn is true e = (own now ph turn u is e).keeps
    by_open ph turn is false e = closed ph turn is e

-- a row of an attempt that goes on leaves it so, or ends it, and sends nothing but a slow report
pub row_moves : (now : ℕ) (ph : Phase) (turn : UnitTurn) (u : UnitView) → u.phase ≡ ph → is_open ph ≡ true
    → Moves u (row_at now ph turn u)
row_moves now ph turn u is on = (own now ph turn u is on).moves

-- so it isn't over, and what it sends is a slow report
pub record Continues (r : Row) : Type 0 where
  pub phase : is_last r.next.phase ≡ false
  pub sent : IsReport r.sent

pub open_on : (ph : Phase) → is_open ph ≡ true → is_last ph ≡ false
open_on Over e = cc
open_on ph e = refl

pub continues : (u : UnitView) (r : Row) → Moves u r → Continues r
continues u r (inl on) = record { phase = open_on r.next.phase on.phase; sent = on.sent }
continues u r (inr end) = record { phase = ap is_last end.phase; sent = subst IsReport (sym end.sent) tt }

-- a unit that takes a turn waits for an answer and gets it, at first or once more, has an attempt that goes on,
-- decides, or is in a delay
pub data Takes (ph : Phase) (turn : UnitTurn) : Type 0 where
  answers : (go : Bool) → ph ≡ StartSent → turn ≡ Answered go → Takes ph turn
  opens : is_open ph ≡ true → Takes ph turn
  decides : (word : ℕ) → ph ≡ Deciding → turn ≡ Decide word → Takes ph turn
  passes : ph ≡ Delay → (turn ≡ Due) ⊎ (turn ≡ Take) → Takes ph turn
  again : (go : Bool) → ph ≡ RetrySent → turn ≡ Answered go → Takes ph turn

pub row_takes : (now : ℕ) (ph : Phase) (turn : UnitTurn) (u : UnitView) → takes_at now ph u turn ≡ true
    → Takes ph turn
row_takes now StartSent (Answered go) u en = answers go refl refl
row_takes now Deciding (Decide word) u en = decides word refl refl
row_takes now Delay Due u en = passes refl (inl refl)
row_takes now Delay Take u en = passes refl (inr refl)
row_takes now RetrySent (Answered go) u en = again go refl refl
row_takes now Starting turn u en = opens refl
row_takes now Running turn u en = opens refl
row_takes now Grace turn u en = opens refl
row_takes now KillWait turn u en = opens refl
row_takes now Leak turn u en = opens refl
row_takes now EnvWait turn u en = opens refl
row_takes now ph turn u en = cc

-- the moment of its latest turn says nothing of which turns a unit takes
pub takes_moment : (now : ℕ) (ph : Phase) (u : UnitView) (turn : UnitTurn) → takes_at now ph u turn ≡ true
    → takes_at now ph (at_moment now u) turn ≡ true
takes_moment now StartSent u turn en = en
takes_moment now Starting u turn en = en
takes_moment now Running u turn en = en
takes_moment now Grace u turn en = en
takes_moment now KillWait u turn en = en
takes_moment now Leak u turn en = en
takes_moment now EnvWait u turn en = en
takes_moment now Deciding u turn en = en
takes_moment now Delay u turn en = en
takes_moment now RetrySent u turn en = en
takes_moment now Over u turn en = en

-- a start is no signal
asks_start : (u : UnitView) → IsForOwn (number u) (Some (start_ask u))
unfolding start_ask
asks_start u = tt

-- nor is the failure of an attempt, its retry, or a finish, a slow report
failure_own : (delay : ℕ) (role : UnitRole) (status : Option ExecuteStatus)
    → IsReportOf role (failure_message role delay status)
failure_own delay (roles.Test t) None = tt
failure_own delay (roles.Test t) (Some status) = tt
failure_own delay (roles.Script s) status = tt

retry_own : (role : UnitRole) (u : UnitView) → IsReportOf role (retry_message role u)
retry_own (roles.Test t) u = tt
retry_own (roles.Script s) u = tt

finish_own : (role : UnitRole) (u : UnitView) → IsReportOf role (finish_message role u)
finish_own (roles.Test t) u = tt
finish_own (roles.Script s) u = by_last (last_status u.statuses)
  where
    by_last : (o : Option ExecuteStatus) → IsReportOf (roles.Script s) (option_map (script_finish s u) o)
    by_last None = tt
    by_last (Some status) = tt

passing_own : (u : UnitView) (r : Row) → Passes u r → IsForOwn (number u) r.asked × IsReportOf u.role r.sent
passing_own u r it = (rw it.asked tt, by_way it.way)
  where
    by_way : StaysOrGoes u r → IsReportOf u.role r.sent
    by_way (inl stays) = rw stays.1 (no_report u.role)
    by_way (inr goes) = rw goes.1 (retry_own u.role u)

-- what a row asks and reports is of the unit itself
pub row_asks_own : (now : ℕ) (ph : Phase) (turn : UnitTurn) (u : UnitView) → u.phase ≡ ph
    → takes_at now ph u turn ≡ true
    → IsForOwn (number u) (row_at now ph turn u).asked × IsReportOf u.role (row_at now ph turn u).sent
row_asks_own now ph turn u is en = by_take (row_takes now ph turn u en)
  where
    by_take : Takes ph turn
        → IsForOwn (number u) (row_at now ph turn u).asked × IsReportOf u.role (row_at now ph turn u).sent
    by_take (answers true at to) = rw (at, to) (asks_start u, no_report u.role)
    by_take (answers false at to) = rw (at, to) (tt, no_report u.role)
    by_take (opens on) = let it = own now ph turn u is on in (it.asks.0, it.reports)
    by_take (decides word at to) =
        rw (at, to) (decide_cases (λ r. IsForOwn (number u) r.asked × IsReportOf u.role r.sent) now word u
        (λ _. (tt, failure_own (next_delay word u) u.role (last_status u.statuses))) (λ _. (tt, finish_own u.role u)))
    by_take (passes at to) = rw at (passing_own u (row_at now Delay turn u) (row_passes now turn u (is ∙ at)))
    by_take (again true at to) = rw (at, to) (asks_start (at_next u), no_report u.role)
    by_take (again false at to) = rw (at, to) (tt, no_report u.role)

-- a start is asked only where a unit is let go
pub row_starts_none : (now : ℕ) (ph : Phase) (turn : UnitTurn) (u : UnitView) → u.phase ≡ ph
    → takes_at now ph u turn ≡ true → begins_attempt turn ≡ false → IsNoStart (row_at now ph turn u).asked
row_starts_none now ph turn u is en none = by_take (row_takes now ph turn u en)
  where
    by_take : Takes ph turn → IsNoStart (row_at now ph turn u).asked
    by_take (answers true at to) = let never : true ≡ false = sym (ap begins_attempt to) ∙ none in cc
    by_take (answers false at to) = rw (at, to) tt
    by_take (opens on) = (own now ph turn u is on).asks.1
    by_take (decides word at to) =
        rw (at, to) (decide_cases (λ r. IsNoStart r.asked) now word u (λ _. tt) (λ _. tt))
    by_take (passes at to) = rw at (rw (row_passes now turn u (is ∙ at)).asked tt)
    by_take (again true at to) = let never : true ≡ false = sym (ap begins_attempt to) ∙ none in cc
    by_take (again false at to) = rw (at, to) tt
