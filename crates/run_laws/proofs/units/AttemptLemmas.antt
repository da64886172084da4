-- The attempts of a unit are what its own turns made them.
use Rattle.std.proofs.Common.{◌≡◌, ℕ, ◌≤◌, List, [], ◌∷◌, ◌++◌, Bool, true, false, if◌then◌else◌, Option, Some, None}
use Rattle.std.proofs.Common.{option_map, refl, sym, subst, ◌∙◌, arith}
use Rattle.run_capture.specs.Captured.{with_wait_error}
use Rattle.run_events.specs.declared.request.Request.{Request}
use Rattle.run_model.specs.declared.phase.Phase.{Phase}
use Rattle.run_model.specs.declared.phase.Phase.TheVariants.{StartSent, Starting, Running, Grace, KillWait, Leak}
use Rattle.run_model.specs.declared.phase.Phase.TheVariants.{EnvWait, Deciding, Delay, RetrySent}
use Rattle.run_model.specs.declared.unit_turn.UnitTurn.{UnitTurn}
use Rattle.run_model.specs.declared.unit_turn.UnitTurn.TheVariants.{Answered, Started, StartFailed, Exit, WaitFailed}
use Rattle.run_model.specs.declared.unit_turn.UnitTurn.TheVariants.{Piece, StreamEnd, ReadError, Env, Due, Take, Decide}
use Rattle.run_model.specs.declared.unit_view.AttemptTerms.{AttemptTerms}
use Rattle.run_model.specs.declared.unit_view.UnitView.{UnitView}
use Rattle.run_model.specs.Unit.{at_moment, row, row_at, takes, takes_at, at_next, is_live, reach}
use Rattle.run_model.specs.Story.{OwnTurn, Attempt, cut, request_of, begins_attempt, with_turn, pieces}
use Rattle.run_model.specs.Attempts.{attempt_in, start_in}
use Rattle.run_laws.proofs.units.CaptureLemmas.{taken}
use Rattle.run_laws.proofs.units.PieceLemmas.{quiet_said}
use Rattle.run_laws.proofs.units.WatchLemmas.{resumed_start}
use Rattle.run_laws.proofs.units.GoingLemmas.{past_refused}
use Rattle.run_laws.proofs.units.MadeLemmas.{later_pieces, made_lined}
use Rattle.run_laws.proofs.units.RowLemmas.{made_more, exit_made, heard_running, heard_made, started_made, begun_made}
use Rattle.run_laws.proofs.units.RowLemmas.{read_made}
use Rattle.run_laws.proofs.units.AfterLemmas.{decide_made, retried_made, left_made}
use Rattle.run_laws.proofs.units.DueLemmas.{leaked_made, killed_due, slow_made}
use Rattle.run_laws.proofs.units.RequestLemmas.{take_running, take_grace, take_leak, take_delay}
pub use Rattle.run_laws.proofs.units.MadeLemmas.{
  HasPieces,
  IsMade,
  made_first,
  made_statuses,
  made_ended,
  made_last,
  made_due,
}

-- the pieces after one more turn
abbrev pub more : OwnTurn → List Attempt → List Attempt
more t ps = if begins_attempt t.turn then cut (t ∷ []) [] ∷ ps else with_turn t ps

-- each row of a unit that takes its turn keeps that
row_made : (now : ℕ) (ph : Phase) (turn : UnitTurn) (before u : UnitView) (ps : List Attempt)
    → before.timers ≡ u.timers → takes_at now ph before turn ≡ true → u.phase ≡ ph → u.latest ≡ now
    → u.attempt ≡ attempt_in ps → u.timers.stopwatch.start ≡ start_in ps → HasPieces u.terms ph u ps
    → IsMade u.terms (row_at now ph turn u).next (more (taken now turn (request_of turn u.line)) ps)
row_made now StartSent (Answered true) before u [] same en is latest a st h = begun_made now u [] latest a h
row_made now StartSent (Answered false) before u [] same en is latest a st h = record {
  attempt = a;
  start = st;
  terms = refl;
  has = h.0;
}
row_made now Starting (Started pid) before u (cut piece [] ∷ earlier) same en is latest a st (on, ss) =
    started_made now pid u piece earlier (rw latest (omega arith)) a (on, ss)
row_made now Starting (StartFailed error) before u (cut piece [] ∷ earlier) same en is latest a st (on, ss) =
    made_more (row_at now Starting (StartFailed error) u).next Deciding
    (taken now (StartFailed error) None) piece earlier refl
    a (resumed_start u.timers.stopwatch now ∙ simp quiet_said st)
    (past_refused now error None u piece earlier latest on a ss)
row_made now Running Due before u (cut piece [] ∷ earlier) same en is latest a st h =
    slow_made now u piece earlier is (rw latest (omega arith)) (rw same at en) a h
row_made now Running Take before u (cut piece [] ∷ earlier) same en is latest a st h =
    take_running now u.line u piece earlier is latest a h
row_made now Running (Exit exit) before u (cut piece [] ∷ earlier) same en is latest a st h =
    exit_made Running now (Some exit) u.capture (Exit exit) u piece earlier latest a h refl refl refl refl refl refl
row_made now Running (WaitFailed error) before u (cut piece [] ∷ earlier) same en is latest a st h =
    exit_made Running now None (with_wait_error u.capture error) (WaitFailed error) u piece earlier
    latest a h refl refl refl
    refl refl refl
row_made now Running (Piece stream bytes) before u (cut piece [] ∷ earlier) same en is latest a st h =
    heard_running Running now (Piece stream bytes) u piece earlier (λ h. h) is a h refl refl refl refl refl refl refl
row_made now Running (StreamEnd stream) before u (cut piece [] ∷ earlier) same en is latest a st h =
    heard_running Running now (StreamEnd stream) u piece earlier (λ h. h) is a h refl refl refl refl refl refl refl
row_made now Running (ReadError stream error) before u (cut piece [] ∷ earlier) same en is latest a st h =
    heard_running Running now (ReadError stream error) u piece earlier (λ h. h) is a h refl refl
    refl refl refl refl refl
row_made now Grace Due before u (cut piece [] ∷ earlier) same en is latest a st h = killed_due now u piece earlier a h
row_made now Grace Take before u (cut piece [] ∷ earlier) same en is latest a st h =
    take_grace now u.line u piece earlier is latest a h
row_made now Grace (Exit exit) before u (cut piece [] ∷ earlier) same en is latest a st h =
    exit_made Grace now (Some exit) u.capture (Exit exit) u piece earlier latest a h refl refl refl refl refl refl
row_made now Grace (WaitFailed error) before u (cut piece [] ∷ earlier) same en is latest a st h =
    exit_made Grace now None (with_wait_error u.capture error) (WaitFailed error) u piece earlier
    latest a h refl refl refl
    refl refl refl
row_made now Grace (Piece stream bytes) before u (cut piece [] ∷ earlier) same en is latest a st h =
    heard_running Grace now (Piece stream bytes) u piece earlier (λ h. h) is a h refl refl refl refl refl refl refl
row_made now Grace (StreamEnd stream) before u (cut piece [] ∷ earlier) same en is latest a st h =
    heard_running Grace now (StreamEnd stream) u piece earlier (λ h. h) is a h refl refl refl refl refl refl refl
row_made now Grace (ReadError stream error) before u (cut piece [] ∷ earlier) same en is latest a st h =
    heard_running Grace now (ReadError stream error) u piece earlier (λ h. h) is a h refl refl refl refl refl refl refl
row_made now KillWait (Exit exit) before u (cut piece [] ∷ earlier) same en is latest a st h =
    exit_made KillWait now (Some exit) u.capture (Exit exit) u piece earlier latest a h refl refl refl refl refl refl
row_made now KillWait (WaitFailed error) before u (cut piece [] ∷ earlier) same en is latest a st h =
    exit_made KillWait now None (with_wait_error u.capture error) (WaitFailed error) u piece earlier
    latest a h refl refl refl
    refl refl refl
row_made now Leak (Piece stream bytes) before u (cut piece [] ∷ earlier) same en is latest a st h =
    heard_made now (Piece stream bytes) u piece earlier is latest a h refl refl refl refl refl refl refl
row_made now Leak (StreamEnd stream) before u (cut piece [] ∷ earlier) same en is latest a st h =
    heard_made now (StreamEnd stream) u piece earlier is latest a h refl refl refl refl refl refl refl
row_made now Leak (ReadError stream error) before u (cut piece [] ∷ earlier) same en is latest a st h =
    heard_made now (ReadError stream error) u piece earlier is latest a h refl refl refl refl refl refl refl
row_made now Leak Take before u (cut piece [] ∷ earlier) same en is latest a st h =
    take_leak now u.line u piece earlier is latest a h
row_made now Leak Due before u (cut piece [] ∷ earlier) same en is latest a st h =
    leaked_made now u piece earlier latest a h
row_made now EnvWait (Env input) before u (cut piece [] ∷ earlier) same en is latest a st (on, ss) =
    read_made now input u piece earlier latest a st on ss
row_made now Deciding (Decide word) before u (cut piece [] ∷ earlier) same en is latest a st h =
    decide_made now word u piece earlier (rw latest (omega arith)) a st h
row_made now Delay Due before u (cut piece (d ∷ after) ∷ earlier) same en is latest a st h =
    retried_made (taken now Due None) u piece d after earlier a st h refl refl
row_made now Delay Take before u (cut piece (d ∷ after) ∷ earlier) same en is latest a st h =
    take_delay now u.line u piece d after earlier is latest a st h
row_made now RetrySent (Answered true) before u (cut piece (d ∷ after) ∷ earlier) same en is latest a st (again, over) =
    begun_made now (at_next u) (cut piece (d ∷ after) ∷ earlier) latest (omega arith) (again.0.1, again.2)
row_made now RetrySent (Answered false) before u (cut piece (d ∷ after) ∷ earlier) same en is latest a st h =
    left_made now u piece d after earlier a st h
row_made now ph turn before u ps same en is latest a st h = first_of (cc, grind arith)

-- of a unit that wasn't admitted there is no story
abbrev pub IsMadeIf : AttemptTerms → Option UnitView → List OwnTurn → Type 0
IsMadeIf terms None story = story ≡ []
IsMadeIf terms (Some u) story = IsMade terms u (pieces story)

-- a row keeps the attempts of a unit what its own turns make them
pub row_made_if : (terms : AttemptTerms) (now : ℕ) (turn : UnitTurn) (u : UnitView) (v : Option UnitView)
    (story : List OwnTurn) → v ≡ Some u → takes now u turn ≡ true → u.latest ≤ now → IsMadeIf terms v story
    → IsMadeIf terms (option_map (λ w. (row now turn w).next) v)
    (record { moment = now; turn = turn; request = request_of turn u.line } ∷ story)
row_made_if terms now turn u v story is en le h = rw is (by_terms (rw is at h))
  where
    after : UnitView
    after = at_moment now u

    after_turn : List Attempt
    after_turn = more (taken now turn (request_of turn u.line)) (pieces story)

    by_terms : IsMade terms u (pieces story) → IsMade terms (row now turn u).next after_turn
    by_terms made =
        subst (λ terms. IsMade terms (row now turn u).next after_turn) made.terms
        (row_made now u.phase turn u after (pieces story) refl en refl refl made.attempt made.start
        (later_pieces u.terms now u.phase u (pieces story) le
        (subst (λ terms. HasPieces terms u.phase u (pieces story)) (sym made.terms) made.has)))

-- a request that reaches its line says nothing of its attempts
pub reach_made_if : (terms : AttemptTerms) (request : Option Request) (v : Option UnitView) (story : List OwnTurn)
    → IsMadeIf terms v story → IsMadeIf terms (reach request v) story
reach_made_if terms None v story h = h
reach_made_if terms (Some request) None story h = h
reach_made_if terms (Some request) (Some u) story h = by_live (is_live u.phase)
  where
    by_live : (b : Bool)
        → IsMade terms (if b then record u { line = u.line ++ request ∷ [] } else u) (pieces story)
    by_live true = made_lined terms (u.line ++ request ∷ []) u (pieces story) h
    by_live false = h
