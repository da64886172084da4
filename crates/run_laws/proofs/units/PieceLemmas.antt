-- An attempt after the turns of a piece of a story.
use Rattle.std.proofs.Common.{◌≡◌, ℕ, List, [], ◌∷◌, Bool, true, false, not, ◌&&◌, ◌||◌, if◌then◌else◌, Option, Some}
use Rattle.std.proofs.Common.{None, is_some, unwrap_or, refl, ap, sym, ◌∙◌}
use Rattle.std.specs.Option.{option_or}
use Rattle.run_clock.specs.Counted.{counted_time}
use Rattle.run_clock.specs.Stopwatch.{active_by}
use Rattle.run_capture.specs.Captured.{Captured, is_done}
use Rattle.run_events.specs.declared.request.Request.{Request}
use Rattle.run_events.specs.declared.result.ChildExit.{ChildExit}
use Rattle.run_events.specs.declared.result.ChildExecutionOutput.TheVariants.{Output, StartError}
use Rattle.run_events.specs.Result.{is_success}
use Rattle.run_events.specs.declared.result.ExecutionResult.{ExecutionResult}
use Rattle.run_events.specs.declared.result.ExecutionResult.TheVariants.{ExecFail}
use Rattle.run_events.specs.declared.result.ScriptEnv.{ScriptEnv}
use Rattle.run_events.specs.declared.result.ScriptEnv.TheVariants.{Unread, Variables, Fault}
use Rattle.run_model.specs.declared.unit_turn.UnitTurn.{UnitTurn}
use Rattle.run_model.specs.declared.unit_turn.UnitTurn.TheVariants.{StartFailed, Due}
use Rattle.run_model.specs.declared.unit_view.AttemptTerms.{AttemptTerms}
use Rattle.run_model.specs.declared.unit_view.UnitView.{UnitView}
use Rattle.run_model.specs.Ending.{result_of, result_with, status_at, awaits_env}
use Rattle.run_model.specs.Story.{OwnTurn, begins_attempt, first_said, any_is}
use Rattle.run_model.specs.Timing.{ends_wait, is_due_turn, slow_count, has_leaked}
use Rattle.run_model.specs.Attempts.{moment_if, start_error_in, start_error_of, exit_in, exit_of, result_by, env_read}
use Rattle.run_model.specs.Attempts.{env_by, is_fault, is_settled, awaits_env_file, has_ended, end_of, status_of}
use Rattle.run_model.specs.Attempts.{attempt_pauses, start_of, time_of}
use Rattle.run_laws.proofs.units.CaptureLemmas.{captured_by, heard_by, taken, captured_more, done_as}
use Rattle.run_laws.proofs.units.StandingLemmas.{count_still}

-- an attempt after the turns of a piece: it was let go at this moment and not refused; whether its child is waited for
-- no more, how that ended, whether it leaked, how often it was slow, and what was captured of it
pub record IsAt (terms : AttemptTerms) (start : ℕ) (waited : Bool) (exit : Option ChildExit) (leaked : Bool)
    (count : ℕ) (capture : Captured) (piece : List OwnTurn) : Type 0 where
  pub let_go : first_said (moment_if begins_attempt) piece ≡ Some start
  pub not_refused : start_error_of piece ≡ None
  pub wait_over : any_is ends_wait piece ≡ waited
  pub ended_so : exit_of piece ≡ exit
  pub leaked_so : has_leaked piece ≡ leaked
  pub counted : slow_count terms.slow piece ≡ count
  pub captured : capture ≡ captured_by terms.streams piece

-- a turn that neither lets go nor ends says nothing of it
pub quiet_said : {X : Type 0} (said : Option X) → option_or said None ≡ said
quiet_said None = refl
quiet_said (Some x) = refl

-- an attempt after one more turn that neither refuses it nor is due
pub at_more : (terms : AttemptTerms) (start : ℕ) (waited : Bool) (exit : Option ChildExit) (leaked : Bool) (count : ℕ)
    (c : Captured) (now : ℕ) (turn : UnitTurn) (request : Option Request) (piece : List OwnTurn)
    → IsAt terms start waited exit leaked count c piece
    → start_error_in turn ≡ None → is_due_turn turn ≡ false
    → IsAt terms start (ends_wait turn || waited) (option_or exit (exit_in turn)) leaked count (heard_by c turn)
    (taken now turn request ∷ piece)
at_more terms start waited exit leaked count c now turn request piece it unrefused due = record {
  let_go = rw it.let_go refl;
  not_refused = rw it.not_refused unrefused;
  wait_over = ap (λ w. ends_wait turn || w) it.wait_over;
  ended_so = ap (λ e. option_or e (exit_in turn)) it.ended_so;
  leaked_so = rw due it.leaked_so;
  counted = count_still terms.slow (taken now turn request) piece due ∙ it.counted;
  captured = ap (λ c. heard_by c turn) it.captured ∙ captured_more terms.streams now turn request piece;
}

-- an attempt after one more turn that is due, by how often it was slow after that
pub at_due : (terms : AttemptTerms) (start : ℕ) (waited : Bool) (exit : Option ChildExit) (count more : ℕ)
    (c : Captured) (now : ℕ) (piece : List OwnTurn)
    → IsAt terms start waited exit false count c piece → slow_count terms.slow (taken now Due None ∷ piece) ≡ more
    → IsAt terms start waited exit waited more c (taken now Due None ∷ piece)
at_due terms start waited exit count more c now piece it counted = record {
  let_go = rw it.let_go refl;
  not_refused = rw it.not_refused refl;
  wait_over = it.wait_over;
  ended_so = quiet_said (exit_of piece) ∙ it.ended_so;
  leaked_so = rw (it.wait_over, it.leaked_so) (or_false waited);
  counted = counted;
  captured = it.captured ∙ captured_more terms.streams now Due None piece;
}
  where
    or_false : (b : Bool) → (b || false) ≡ b
    or_false true = refl
    or_false false = refl

-- its child is done with where it is waited for no more, and its streams aren't waited for, its capture is done, or it
-- leaked
pub settled_as : (terms : AttemptTerms) (start : ℕ) (waited : Bool) (exit : Option ChildExit) (leaked : Bool)
    (count : ℕ)
    (c : Captured) (piece : List OwnTurn) → IsAt terms start waited exit leaked count c piece
    → is_settled terms piece ≡ (waited && (terms.skips_leak_detection || is_done c || leaked))
settled_as terms start waited exit leaked count c piece it =
    rw (it.not_refused, it.wait_over, it.leaked_so)
    (ap (λ d. waited && (terms.skips_leak_detection || d || leaked))
    (sym (done_as terms.streams piece) ∙ ap is_done (sym it.captured)))

-- what its child's end makes its result
pub result_as : (start : ℕ) (waited : Bool) (exit : Option ChildExit) (leaked : Bool) (c : Captured)
    (piece : List OwnTurn)
    (u : UnitView) → IsAt u.terms start waited exit leaked u.timers.slow_count c piece
    → result_by u.terms piece (start_error_of piece) ≡ result_of exit c.errors leaked u
result_as start waited exit leaked c piece u it =
    rw (it.captured, it.not_refused, it.ended_so, it.leaked_so, it.counted) refl

-- whether its environment file is to be read, before it was
and_true : (a b : Bool) → (a && b && true) ≡ (a && b)
and_true true true = refl
and_true true false = refl
and_true false b = refl

pub awaits_as : (start : ℕ) (waited : Bool) (exit : Option ChildExit) (leaked : Bool) (c : Captured)
    (piece : List OwnTurn)
    (u : UnitView) → IsAt u.terms start waited exit leaked u.timers.slow_count c piece → env_read piece ≡ None
    → awaits_env_file u.terms piece ≡ awaits_env (result_of exit c.errors leaked u) u
awaits_as start waited exit leaked c piece u it unread =
    ap (λ o. u.terms.reads_env && is_success (result_by u.terms piece (start_error_of piece)) && not (is_some o)) unread
    ∙ and_true u.terms.reads_env (is_success (result_by u.terms piece (start_error_of piece)))
    ∙ ap (λ r. u.terms.reads_env && is_success r) (result_as start waited exit leaked c piece u it)

-- when it ended, where it had not before its newest turn
pub end_more : (terms : AttemptTerms) (t : OwnTurn) (before : List OwnTurn) (b : Bool) → end_of terms before ≡ None
    → has_ended terms (t ∷ before) ≡ b → end_of terms (t ∷ before) ≡ (if b then Some t.moment else None)
end_more terms t before b none is =
    ap (λ e. option_or e (if has_ended terms (t ∷ before) then Some t.moment else None)) none
    ∙ ap (λ b. if b then Some t.moment else None) is

-- how long it took, by where it began and ended
pub time_is : (terms : AttemptTerms) (piece : List OwnTurn) (start now : ℕ) → start_of piece ≡ start
    → end_of terms piece ≡ Some now → time_of terms piece ≡ counted_time start (attempt_pauses terms piece) now
time_is terms piece start now begins ends =
    ap (λ s. counted_time s (attempt_pauses terms piece) (unwrap_or (end_of terms piece) 0)) begins
    ∙ ap (λ e. counted_time start (attempt_pauses terms piece) (unwrap_or e 0)) ends

-- a result with what came of its environment file
with_is : (env : ScriptEnv) (result : ExecutionResult)
    → result_with env result ≡ (if is_fault env then ExecFail else result)
with_is Unread result = refl
with_is (Variables pairs) result = refl
with_is (Fault fault) result = refl

-- its status where it ended at a moment, with this of its environment file
pub status_as : (env : ScriptEnv) (waited : Bool) (exit : Option ChildExit) (leaked : Bool) (c : Captured) (now d k : ℕ)
    (piece : List OwnTurn) (u : UnitView)
    → IsAt u.terms u.timers.stopwatch.start waited exit leaked u.timers.slow_count c piece
    → active_by u.timers.stopwatch now ≡ counted_time u.timers.stopwatch.start (attempt_pauses u.terms piece) now
    → env_by piece ≡ env → end_of u.terms piece ≡ Some now → u.attempt ≡ k → u.delay ≡ d
    → status_at now (result_with env (result_of exit c.errors leaked u)) (Output c.output c.errors) u
    ≡ status_of u.terms d k piece
status_as env waited exit leaked c now d k piece u it time reads end at delay =
    ap (λ r. status_at now r (Output c.output c.errors) u) (with_is env (result_of exit c.errors leaked u))
    ∙ rw (
      time,
      reads,
      it.captured,
      it.not_refused,
      it.ended_so,
      it.leaked_so,
      it.counted,
      it.let_go,
      end,
      at,
      delay,
    ) refl

-- it has ended where its start is refused
refuses : (reads unread : Bool) → not (reads && false && unread) ≡ true
refuses true unread = refl
refuses false unread = refl

pub refused_ends : (terms : AttemptTerms) (now : ℕ) (error : List ℕ) (piece : List OwnTurn)
    → start_error_of piece ≡ None
    → has_ended terms (taken now (StartFailed error) None ∷ piece) ≡ true
refused_ends terms now error piece none =
    rw none (refuses terms.reads_env (not (is_some (env_read (taken now (StartFailed error) None ∷ piece)))))

-- its status where its start was refused
pub refused_as : (now d k : ℕ) (error : List ℕ) (exit : Option ChildExit) (c : Captured) (piece : List OwnTurn)
    (u : UnitView)
    → IsAt u.terms u.timers.stopwatch.start false exit false u.timers.slow_count c piece
    → active_by u.timers.stopwatch now ≡ time_of u.terms (taken now (StartFailed error) None ∷ piece)
    → env_read piece ≡ None → end_of u.terms piece ≡ None → u.attempt ≡ k → u.delay ≡ d
    → status_at now ExecFail (StartError error) u ≡ status_of u.terms d k (taken now (StartFailed error) None ∷ piece)
refused_as now d k error exit c piece u it time unread end at delay =
    rw (
      time,
      unread,
      it.not_refused,
      count,
      it.let_go,
      end,
      refuses u.terms.reads_env true,
      at,
      delay,
    ) refl
  where
    count : slow_count u.terms.slow (taken now (StartFailed error) None ∷ piece) ≡ u.timers.slow_count
    count = count_still u.terms.slow (taken now (StartFailed error) None) piece refl ∙ it.counted

-- one with no end hasn't ended
not_yet : (o : Option ℕ) (m : ℕ) (b : Bool) → option_or o (if b then Some m else None) ≡ None → b ≡ false
not_yet None m true e = cc
not_yet (Some n) m true e = cc
not_yet o m false e = refl

pub unended_has : (terms : AttemptTerms) (piece : List OwnTurn) → end_of terms piece ≡ None
    → has_ended terms piece ≡ false
unended_has terms [] e = refl
unended_has terms (t ∷ before) e = not_yet (end_of terms before) t.moment (has_ended terms (t ∷ before)) e
