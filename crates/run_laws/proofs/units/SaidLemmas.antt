-- What a row asks and sends where it is what its turn says.
use Rattle.std.proofs.Common.{◌≡◌, ℕ, ◌+◌, ◌==◌, List, [], ◌∷◌, ◌++◌, length, Bool, true, false, Option, Some, None}
use Rattle.std.proofs.Common.{option_to_list, refl, ap, sym, ◌∙◌, arith, append_assoc, option_map}
use Rattle.std.proofs.lemmas.List.{append-nil}
use Rattle.run_events.specs.declared.plan.SlowTimeout.{SlowTimeout}
use Rattle.run_events.specs.declared.result.ExecuteStatus.{ExecuteStatus}
use Rattle.run_model.specs.declared.unit_view.UnitRole.{UnitRole}
use Rattle.run_model.specs.declared.unit_view.UnitRole.TheVariants as roles
use Rattle.run_model.specs.declared.unit_view.UnitView.{UnitView}
use Rattle.run_model.specs.declared.unit_view.AttemptTerms.{AttemptTerms}
use Rattle.run_model.specs.Ending.{last_status}
use Rattle.run_model.specs.Row.{Row}
use Rattle.run_model.specs.Retries.{failure_message, retry_message, finish_message, script_finish}
use Rattle.run_model.specs.Story.{OwnTurn, Attempt, cut, begins_attempt, decides, any_is}
use Rattle.run_model.specs.Timing.{ends_wait, is_due_turn, signal_of}
use Rattle.run_laws.specs.Reports.{job_signal, signal_with, signals_in, signals_by, report_with, reports_in, reports_by}
use Rattle.run_laws.specs.Reports.{signals_for, reports_waiting}
use Rattle.run_laws.proofs.units.StandingLemmas.{is_in_grace}
use Rattle.run_laws.proofs.units.AttemptLemmas.{more}
use Rattle.run_laws.proofs.units.AccountRows.{same_number}

-- what a row asks and sends is what its turn says, after these pieces
pub record IsSaid (terms : AttemptTerms) (k : ℕ) (t : OwnTurn) (ps : List Attempt) (r : Row) : Type 0 where
  pub asks : signals_by terms.stops terms.slow (more t ps) ≡ signals_by terms.stops terms.slow ps
      ++ signals_for k r.asked
  pub sends : reports_by terms.slow (more t ps) ≡ reports_by terms.slow ps ++ reports_waiting k (option_to_list r.sent)

-- the same of the newest piece alone
pub said_more : (terms : AttemptTerms) (k : ℕ) (t : OwnTurn) (piece : List OwnTurn) (earlier : List Attempt) (r : Row)
    → begins_attempt t.turn ≡ false → decides t.turn ≡ false
    → option_to_list (signal_with terms.stops terms.slow t piece) ≡ signals_for k r.asked
    → option_to_list (report_with terms.slow (length earlier + 1) t piece) ≡ reports_waiting k (option_to_list r.sent)
    → IsSaid terms k t (cut piece [] ∷ earlier) r
said_more terms k t piece earlier r goes undecided asks sends = record {
  asks = rw (goes, undecided) (
      sym (append_assoc (signals_by terms.stops terms.slow earlier) (signals_in terms.stops terms.slow piece)
      (option_to_list (signal_with terms.stops terms.slow t piece)))
      ∙ ap (λ s. signals_by terms.stops terms.slow (cut piece [] ∷ earlier) ++ s) asks);
  sends = rw (goes, undecided) (
      sym (append_assoc (reports_by terms.slow earlier) (reports_in terms.slow (length earlier + 1) piece)
      (option_to_list (report_with terms.slow (length earlier + 1) t piece)))
      ∙ ap (λ s. reports_by terms.slow (cut piece [] ∷ earlier) ++ s) sends);
}

-- a turn that isn't due, and takes no request to end the child, says nothing
signal_still : (stops : Bool) (slow : SlowTimeout) (t : OwnTurn) (piece : List OwnTurn) → is_due_turn t.turn ≡ false
    → signal_of slow t.request ≡ None → job_signal stops slow t.request piece ≡ None
    → signal_with stops slow t piece ≡ None
signal_still stops slow t piece due none job = by_case (any_is ends_wait piece) (is_in_grace slow piece) refl refl
  where
    by_case : (w g : Bool) → any_is ends_wait piece ≡ w → is_in_grace slow piece ≡ g
        → signal_with stops slow t piece ≡ None
    by_case true g e f = rw e refl
    by_case false true e f = rw (e, job, f, due, none) refl
    by_case false false e f = rw (e, job, f, due, none) refl

report_still : (slow : SlowTimeout) (attempt : ℕ) (t : OwnTurn) (piece : List OwnTurn) → is_due_turn t.turn ≡ false
    → report_with slow attempt t piece ≡ None
report_still slow attempt t piece due = by_wait (any_is ends_wait piece) refl
  where
    by_wait : (w : Bool) → any_is ends_wait piece ≡ w → report_with slow attempt t piece ≡ None
    by_wait true e = rw e refl
    by_wait false e = rw (e, due) refl

pub said_still : (terms : AttemptTerms) (k : ℕ) (t : OwnTurn) (piece : List OwnTurn) (earlier : List Attempt) (r : Row)
    → begins_attempt t.turn ≡ false → decides t.turn ≡ false → is_due_turn t.turn ≡ false
    → signal_of terms.slow t.request ≡ None → job_signal terms.stops terms.slow t.request piece ≡ None → r.asked ≡ None
    → reports_waiting k (option_to_list r.sent) ≡ [] → IsSaid terms k t (cut piece [] ∷ earlier) r
said_still terms k t piece earlier r goes undecided due none job asks sends =
    said_more terms k t piece earlier r goes undecided
    (rw (signal_still terms.stops terms.slow t piece due none job, asks) refl)
    (rw (report_still terms.slow (length earlier + 1) t piece due) (sym sends))

-- neither does any turn once its child has ended
pub said_after : (terms : AttemptTerms) (k : ℕ) (t : OwnTurn) (piece : List OwnTurn) (earlier : List Attempt) (r : Row)
    → any_is ends_wait piece ≡ true → begins_attempt t.turn ≡ false → decides t.turn ≡ false → r.asked ≡ None
    → reports_waiting k (option_to_list r.sent) ≡ [] → IsSaid terms k t (cut piece [] ∷ earlier) r
said_after terms k t piece earlier r waited goes undecided asks sends =
    said_more terms k t piece earlier r goes undecided (rw (waited, asks) refl) (rw waited (sym sends))

-- a turn that adds nothing to a piece says nothing
pub said_apart : (terms : AttemptTerms) (k : ℕ) (t : OwnTurn) (ps : List Attempt) (r : Row)
    → signals_by terms.stops terms.slow (more t ps) ≡ signals_by terms.stops terms.slow ps
    → reports_by terms.slow (more t ps) ≡ reports_by terms.slow ps
    → r.asked ≡ None → reports_waiting k (option_to_list r.sent) ≡ [] → IsSaid terms k t ps r
said_apart terms k t ps r signals reports asks sends = record {
  asks = signals ∙ sym (append-nil (signals_by terms.stops terms.slow ps))
      ∙ ap (λ asked. signals_by terms.stops terms.slow ps ++ signals_for k asked) (sym asks);
  sends = reports ∙ sym (append-nil (reports_by terms.slow ps)) ∙ ap (λ s. reports_by terms.slow ps ++ s) (sym sends);
}

-- the failure of an attempt, its retry and a finish report nothing
pub failure_silent : (k delay : ℕ) (role : UnitRole) (o : Option ExecuteStatus)
    → reports_waiting k (option_to_list (failure_message role delay o)) ≡ []
failure_silent k delay (roles.Test t) None = refl
failure_silent k delay (roles.Test t) (Some status) = refl
failure_silent k delay (roles.Script r) o = refl

pub retry_silent : (k : ℕ) (role : UnitRole) (u : UnitView)
    → reports_waiting k (option_to_list (retry_message role u)) ≡ []
retry_silent k (roles.Test t) u = refl
retry_silent k (roles.Script r) u = refl

pub finish_silent : (k : ℕ) (role : UnitRole) (u : UnitView)
    → reports_waiting k (option_to_list (finish_message role u)) ≡ []
finish_silent k (roles.Test t) u = refl
finish_silent k (roles.Script r) u = by_last (last_status u.statuses)
  where
    by_last : (o : Option ExecuteStatus) → reports_waiting k (option_to_list (option_map (script_finish r u) o)) ≡ []
    by_last None = refl
    by_last (Some status) = refl
