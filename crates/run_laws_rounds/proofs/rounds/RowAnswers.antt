-- What a row of the unit table answers to queries, and which stops leave the line with it.
use Rattle.std.proofs.Common.{◌≡◌, ◌⊎◌, inl, inr, ℕ, ◌==◌, List, [], ◌∷◌, map, Bool, true, false, if◌then◌else◌, Some}
use Rattle.std.proofs.Common.{option_to_list, refl, ap, add-zero, zero-add, ◌+◌, drop, cond, ◌∙◌, arith}
use Rattle.run_events.specs.declared.info.InfoResponse.{InfoResponse}
use Rattle.run_events.specs.declared.request.Request.{Request}
use Rattle.run_events.specs.declared.request.Request.TheVariants.{Stop, Continue, Shutdown, OtherCancel, GetInfo}
use Rattle.run_events.specs.declared.request.TermSignal.{TermSignal}
use Rattle.run_events.specs.declared.request.TermSignal.TheVariants.{Kill}
use Rattle.run_events.specs.declared.request.TerminateReason.{TerminateReason}
use Rattle.run_events.specs.declared.request.TerminateReason.TheVariants.{Signal as Signalled}
use Rattle.run_events.specs.declared.result.ExecuteStatus.{ExecuteStatus}
use Rattle.run_model.specs.declared.phase.Phase.{Phase}
use Rattle.run_model.specs.declared.phase.Phase.TheVariants.{Running, Grace, Leak, Delay, Starting, KillWait, EnvWait}
use Rattle.run_model.specs.declared.unit_turn.UnitTurn.{UnitTurn}
use Rattle.run_model.specs.declared.unit_turn.UnitTurn.TheVariants.{Due, Take, Started, StartFailed, Exit, WaitFailed}
use Rattle.run_model.specs.declared.unit_turn.UnitTurn.TheVariants.{Piece, StreamEnd, ReadError, Env}
use Rattle.run_model.specs.declared.unit_view.UnitView.{UnitView}
use Rattle.run_model.specs.Ending.{last_status}
use Rattle.run_model.specs.Info.{is_stop, answers_to, rounds_in, stops_in}
use Rattle.run_model.specs.Requests.{asked_to_end, requested, take_row}
use Rattle.run_model.specs.Retries.{decided}
use Rattle.run_model.specs.Row.{Row}
use Rattle.run_model.specs.Slow.{is_out_of_time, one_more}
use Rattle.run_model.specs.Story.{oldest, request_of}
use Rattle.run_model.specs.Terminate.{terminate_method}
use Rattle.run_model.specs.Unit.{in_grace, out_of_time, row_at, slow_again, slow_row, takes_at, at_moment, row, takes}
use Rattle.run_laws.proofs.units.OpenRows.{is_open}
use Rattle.run_laws.proofs.units.Lines.{left_of, row_line, taken_line}
use Rattle.run_laws.proofs.units.Rows.{Takes, answers, opens, decides, passes, again, decide_cases, row_takes}
use Rattle.run_laws.proofs.units.Rows.{takes_moment}
use Rattle.std.proofs.lemmas.List.Sums.{sum_by-cons}

-- the rounds of some answers
abbrev pub rounds_by : List (ℕ × InfoResponse) → List ℕ
rounds_by given = map (λ a. a.0) given

-- queries that are answered alike are answered with their own rounds
pub rounds_to : (rounds : List ℕ) (answer : InfoResponse) → rounds_by (answers_to rounds (Some answer)) ≡ rounds
rounds_to [] answer = refl
rounds_to (round ∷ rounds) answer = ap (λ ns. round ∷ ns) (rounds_to rounds answer)

-- a request to end is no query, and no stop
ends_quietly : (now : ℕ) (reason : TerminateReason) (signal : TermSignal) (u : UnitView)
    → ((asked_to_end now reason signal u).info ≡ []) × ((asked_to_end now reason signal u).acks ≡ 0)
ends_quietly now reason Kill u = (refl, refl)
ends_quietly now reason signal u = (refl, refl)

-- whether an attempt that goes on takes requests in this phase
abbrev is_asked : Phase → Bool
is_asked Running = true
is_asked Grace = true
is_asked Leak = true
is_asked _ = false

-- what a row answers, and the stops that leave the line with it, are those of these requests
pub record IsOfRequests (r : Row) (requests : List Request) : Type 0 where
  pub rounds : rounds_by r.info ≡ rounds_in requests
  pub stops : r.acks ≡ stops_in requests

none_gone : (r : Row) → r.info ≡ [] → r.acks ≡ 0 → IsOfRequests r []
none_gone r info acks = record { rounds = ap rounds_by info; stops = acks }

-- it takes the oldest request of its line: a query is answered with its round
take_answers : (now : ℕ) (ph : Phase) (line : List Request) (u : UnitView) → is_asked ph ≡ true
    → IsOfRequests (take_row now ph line u) (option_to_list (oldest line))
take_answers now ph [] u on = record { rounds = refl; stops = refl }
take_answers now ph (request ∷ line) u on = by_request ph request (record u { line = line }) on
  where
    by_request : (ph : Phase) (request : Request) (v : UnitView) → is_asked ph ≡ true
        → IsOfRequests (requested now ph request v) (request ∷ [])
    by_request Running (Shutdown request) v on =
        let it = ends_quietly now (Signalled request) (terminate_method (Signalled request) v.terms.slow.grace) v in
        record { rounds = ap rounds_by it.0; stops = it.1 }
    by_request Running (Stop round) v on = record { rounds = refl; stops = refl }
    by_request Running Continue v on = record { rounds = refl; stops = refl }
    by_request Running (GetInfo round) v on = record { rounds = refl; stops = refl }
    by_request Running OtherCancel v on = record { rounds = refl; stops = refl }
    by_request Grace (Shutdown request) v on = record { rounds = refl; stops = refl }
    by_request Grace (Stop round) v on = record { rounds = refl; stops = refl }
    by_request Grace Continue v on = record { rounds = refl; stops = refl }
    by_request Grace (GetInfo round) v on = record { rounds = refl; stops = refl }
    by_request Grace OtherCancel v on = record { rounds = refl; stops = refl }
    by_request Leak (Shutdown request) v on = record { rounds = refl; stops = refl }
    by_request Leak (Stop round) v on = record { rounds = refl; stops = refl }
    by_request Leak Continue v on = record { rounds = refl; stops = refl }
    by_request Leak (GetInfo round) v on = record { rounds = refl; stops = refl }
    by_request Leak OtherCancel v on = record { rounds = refl; stops = refl }
    by_request ph request v on = cc

-- in a delay it answers with the attempt that failed
delayed_rounds : (now : ℕ) (line : List Request) (u : UnitView) (s : ExecuteStatus) → last_status u.statuses ≡ Some s
    → rounds_by (take_row now Delay line u).info ≡ rounds_in (option_to_list (oldest line))
delayed_rounds now [] u s last = refl
delayed_rounds now (Stop round ∷ line) u s last = refl
delayed_rounds now (Continue ∷ line) u s last = refl
delayed_rounds now (GetInfo round ∷ line) u s last = rw last refl
delayed_rounds now (Shutdown request ∷ line) u s last = refl
delayed_rounds now (OtherCancel ∷ line) u s last = refl

delayed_stops : (now : ℕ) (line : List Request) (u : UnitView)
    → (take_row now Delay line u).acks ≡ stops_in (option_to_list (oldest line))
delayed_stops now [] u = refl
delayed_stops now (Stop round ∷ line) u = refl
delayed_stops now (Continue ∷ line) u = refl
delayed_stops now (GetInfo round ∷ line) u = refl
delayed_stops now (Shutdown request ∷ line) u = refl
delayed_stops now (OtherCancel ∷ line) u = refl

-- each row of an attempt that goes on answers the query that it takes, if it takes one
slow_answers : (now n : ℕ) (u : UnitView) → ((slow_row now n u).info ≡ []) × ((slow_row now n u).acks ≡ 0)
slow_answers now n u = by_time (is_out_of_time u.terms.slow n) (u.terms.slow.grace == 0)
  where
    rows : (out none : Bool) → Row
    rows out none = if out then (if none then out_of_time n u else in_grace now n u) else slow_again now n u

    by_time : (out none : Bool) → ((rows out none).info ≡ []) × ((rows out none).acks ≡ 0)
    by_time false none = (refl, refl)
    by_time true true = (refl, refl)
    by_time true false = (refl, refl)

pub open_answers : (now : ℕ) (ph : Phase) (turn : UnitTurn) (u : UnitView) → is_open ph ≡ true
    → takes_at now ph u turn ≡ true → IsOfRequests (row_at now ph turn u) (option_to_list (request_of turn u.line))
open_answers now Running Due u on en =
    let it = slow_answers now (one_more u.timers.slow_count) u in none_gone _ it.0 it.1
open_answers now Running Take u on en = take_answers now Running u.line u refl
open_answers now Grace Take u on en = take_answers now Grace u.line u refl
open_answers now Leak Take u on en = take_answers now Leak u.line u refl
open_answers now Starting (Started pid) u on en = none_gone _ refl refl
open_answers now Starting (StartFailed error) u on en = none_gone _ refl refl
open_answers now Running (Exit exit) u on en = none_gone _ refl refl
open_answers now Running (WaitFailed error) u on en = none_gone _ refl refl
open_answers now Running (Piece stream bytes) u on en = none_gone _ refl refl
open_answers now Running (StreamEnd stream) u on en = none_gone _ refl refl
open_answers now Running (ReadError stream error) u on en = none_gone _ refl refl
open_answers now Grace Due u on en = none_gone _ refl refl
open_answers now Grace (Exit exit) u on en = none_gone _ refl refl
open_answers now Grace (WaitFailed error) u on en = none_gone _ refl refl
open_answers now Grace (Piece stream bytes) u on en = none_gone _ refl refl
open_answers now Grace (StreamEnd stream) u on en = none_gone _ refl refl
open_answers now Grace (ReadError stream error) u on en = none_gone _ refl refl
open_answers now KillWait (Exit exit) u on en = none_gone _ refl refl
open_answers now KillWait (WaitFailed error) u on en = none_gone _ refl refl
open_answers now Leak Due u on en = none_gone _ refl refl
open_answers now Leak (Piece stream bytes) u on en = none_gone _ refl refl
open_answers now Leak (StreamEnd stream) u on en = none_gone _ refl refl
open_answers now Leak (ReadError stream error) u on en = none_gone _ refl refl
open_answers now EnvWait (Env input) u on en = none_gone _ refl refl
open_answers now ph turn u on en = cc

-- and so does one that passes a delay
pub delay_answers : (now : ℕ) (turn : UnitTurn) (u : UnitView) (s : ExecuteStatus) → (turn ≡ Due) ⊎ (turn ≡ Take)
    → last_status u.statuses ≡ Some s
    → rounds_by (row_at now Delay turn u).info ≡ rounds_in (option_to_list (request_of turn u.line))
delay_answers now turn u s (inl to) last = rw to refl
delay_answers now turn u s (inr to) last = rw to (delayed_rounds now u.line u s last)

-- where it has ended its last attempt each query in its line is answered with that
pub finish_answers : (u : UnitView) (s : ExecuteStatus) → last_status u.statuses ≡ Some s
    → rounds_by (decided u).info ≡ rounds_in u.line
finish_answers u s last = rw last (rounds_to (rounds_in u.line) _)

-- the stops of a line are those of its oldest request, and of the rest
stops_apart : (line : List Request) → stops_in (drop 1 line) + stops_in (option_to_list (oldest line)) ≡ stops_in line
stops_apart [] = refl
stops_apart (request ∷ line) = omega (arith, sum_by-cons (λ r. cond (is_stop r) 1 0) request line)

-- each stop that leaves the line is counted once, where its unit takes it, ends its last attempt or is left
row_counts : (now : ℕ) (ph : Phase) (turn : UnitTurn) (u : UnitView) → u.phase ≡ ph → takes_at now ph u turn ≡ true
    → stops_in (row_at now ph turn u).next.line + (row_at now ph turn u).acks ≡ stops_in u.line
row_counts now ph turn u is en = by_take (row_takes now ph turn u en)
  where
    Counts : Row → Type 0
    Counts r = stops_in r.next.line + r.acks ≡ stops_in u.line

    taken : (turn : UnitTurn) (r : Row) → r.next.line ≡ left_of turn u.line
        → r.acks ≡ stops_in (option_to_list (request_of turn u.line)) → Counts r
    taken Take r line acks = ap (λ l. stops_in l + r.acks) line ∙ ap (λ n. stops_in (drop 1 u.line) + n) acks
        ∙ stops_apart u.line
    taken turn r line acks = ap (λ l. stops_in l + r.acks) line ∙ ap (λ n. stops_in u.line + n) acks
        ∙ add-zero (stops_in u.line)

    by_take : Takes ph turn → Counts (row_at now ph turn u)
    by_take (answers true at to) = rw (at, to) (add-zero (stops_in u.line))
    by_take (answers false at to) = rw (at, to) (add-zero (stops_in u.line))
    by_take (opens on) =
        taken turn (row_at now ph turn u) (row_line now ph turn u on en) (open_answers now ph turn u on en).stops
    by_take (decides word at to) = rw (at, to) (decide_cases Counts now word u
        (λ more. add-zero (stops_in u.line)) (λ done. zero-add (stops_in u.line)))
    by_take (passes at (inl to)) = rw (at, to) (add-zero (stops_in u.line))
    by_take (passes at (inr to)) = rw (at, to) (taken Take (row_at now Delay Take u) (taken_line now Delay u)
        (delayed_stops now u.line u))
    by_take (again true at to) = rw (at, to) (add-zero (stops_in u.line))
    by_take (again false at to) = rw (at, to) (zero-add (stops_in u.line))

pub stops_counted : (now : ℕ) (turn : UnitTurn) (u : UnitView) → takes now u turn ≡ true
    → stops_in (row now turn u).next.line + (row now turn u).acks ≡ stops_in u.line
stops_counted now turn u en =
    row_counts now u.phase turn (at_moment now u) refl (takes_moment now u.phase u turn en)
