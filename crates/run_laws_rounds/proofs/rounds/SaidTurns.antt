-- Each turn of a unit is enabled as its own turns say.
use Rattle.std.proofs.Common.{◌≡◌, ℕ, ◌+◌, ◌==◌, ◌&&◌, ◌||◌, not, List, [], ◌∷◌, length, Bool, true, false, Option}
use Rattle.std.proofs.Common.{Some, None}
use Rattle.std.proofs.Common.{is_some, refl, ap, sym, subst, ◌∙◌}
use Rattle.run_events.specs.declared.result.ChildExit.{ChildExit}
use Rattle.run_model.specs.declared.unit_view.AttemptTerms.{AttemptTerms}
use Rattle.run_model.specs.Attempts.{awaits_env_file, has_ended, is_delay_over, is_retried, is_settled}
use Rattle.run_model.specs.Attempts.{start_error_of, are_streams_done}
use Rattle.run_model.specs.Story.{Attempt, cut, OwnTurn, any_is}
use Rattle.run_model.specs.Timing.{ends_wait, has_timed_out, starts_child, slow_count, has_leaked}
use Rattle.run_laws_rounds.specs.UnitTurns.{of_undecided, awaits_start, awaits_child, is_killed, hears_streams}
use Rattle.run_laws_rounds.specs.UnitTurns.{awaits_file, hears_requests}
use Rattle.run_model.specs.declared.phase.Phase.{Phase}
use Rattle.run_model.specs.declared.phase.Phase.TheVariants.{StartSent, Starting, Running, Grace, KillWait, Leak}
use Rattle.run_model.specs.declared.phase.Phase.TheVariants.{EnvWait, Deciding, Delay, RetrySent, Over}
use Rattle.run_model.specs.declared.unit_turn.UnitTurn.{UnitTurn}
use Rattle.run_model.specs.declared.unit_turn.UnitTurn.TheVariants.{Started}
use Rattle.run_model.specs.declared.unit_view.UnitView.{UnitView}
use Rattle.run_model.specs.Slow.{is_out_of_time}
use Rattle.run_model.specs.Ending.{settled}
use Rattle.run_model.specs.Unit.{started}
use Rattle.run_laws_rounds.proofs.rounds.KilledRows.{is_at_once, IsKilledIn}
use Rattle.std.specs.Option.{option_or}
use Rattle.run_laws_rounds.specs.Answers.{pid_in}
use Rattle.run_laws_rounds.proofs.rounds.Shown.{pid_said, IsShown}
use Rattle.run_laws.proofs.units.PieceLemmas.{unended_has}
use Rattle.run_laws.proofs.units.GoingLemmas.{IsGoing}
use Rattle.run_laws.proofs.units.MadeLemmas.{HasPieces}
use Rattle.run_model.specs.Requests.{killed}
use Rattle.run_laws_rounds.proofs.rounds.PhaseTurns.{is_deciding, is_delaying, is_hearing, is_reading, is_starting}
use Rattle.run_laws_rounds.proofs.rounds.PhaseTurns.{is_waiting}

-- whether its child has started is whether its process was said
pid_any : (piece : List OwnTurn) → is_some (pid_said piece) ≡ any_is starts_child piece
pid_any [] = refl
pid_any (t ∷ before) = by_turn t.turn ∙ ap (λ b. starts_child t.turn || b) (pid_any before)
  where
    by_said : (o : Option ℕ) → is_some (option_or o None) ≡ is_some o
    by_said None = refl
    by_said (Some pid) = refl

    or_some : (o : Option ℕ) (pid : ℕ) → is_some (option_or o (Some pid)) ≡ true
    or_some None pid = refl
    or_some (Some other) pid = refl

    by_turn : (turn : UnitTurn)
        → is_some (option_or (pid_said before) (pid_in turn)) ≡ (starts_child turn || is_some (pid_said before))
    by_turn (Started pid) = or_some (pid_said before) pid
    by_turn turn = by_said (pid_said before)

started_as : (piece : List OwnTurn) (said : Option ℕ) → pid_said piece ≡ said → any_is starts_child piece ≡ is_some said
started_as piece said is = sym (pid_any piece) ∙ ap is_some is

-- what is said of an attempt that was not decided on, by its own turns
record SaysSo (terms : AttemptTerms) (start child hears reads decides : Bool) (piece : List OwnTurn) : Type 0 where
  start_is : awaits_start piece ≡ start
  child_is : awaits_child piece ≡ child
  hears_is : hears_streams terms piece ≡ hears
  reads_is : awaits_file terms piece ≡ reads
  decides_is : has_ended terms piece ≡ decides

-- of one that goes on: whether its child has started, is waited for no more, and was killed at once
says_going : (terms : AttemptTerms) (started waited killed : Bool) (piece : List OwnTurn)
    → any_is starts_child piece ≡ started → any_is ends_wait piece ≡ waited → start_error_of piece ≡ None
    → is_settled terms piece ≡ false → is_killed terms piece ≡ killed
    → SaysSo terms (not started && not waited) (started && not waited) (started && not killed) false false piece
says_going terms started waited killed piece s w r settled k = record {
  start_is = rw (s, w, r) (one started waited);
  child_is = rw (s, w, r) (two started waited);
  hears_is = rw (s, settled, k) (three started killed);
  reads_is = rw settled refl;
  decides_is = rw settled refl;
}
  where
    one : (a b : Bool) → (not a && true && not b) ≡ (not a && not b)
    one true b = refl
    one false b = refl

    two : (a b : Bool) → (a && true && not b) ≡ (a && not b)
    two true b = refl
    two false b = refl

    three : (a b : Bool) → (a && true && not b) ≡ (a && not b)
    three true b = refl
    three false b = refl

-- of one that is done with: it waits for its file, or has ended
says_settled : (terms : AttemptTerms) (awaits : Bool) (piece : List OwnTurn) → is_settled terms piece ≡ true
    → awaits_env_file terms piece ≡ awaits → SaysSo terms false false false awaits (not awaits) piece
says_settled terms awaits piece settled file = record {
  start_is = by_settled (is_some (start_error_of piece)) (any_is ends_wait piece)
      (terms.skips_leak_detection || are_streams_done terms.streams piece || has_leaked piece)
      (not (any_is starts_child piece)) settled;
  child_is = by_settled (is_some (start_error_of piece)) (any_is ends_wait piece)
      (terms.skips_leak_detection || are_streams_done terms.streams piece || has_leaked piece)
      (any_is starts_child piece) settled;
  hears_is = rw settled (never (any_is starts_child piece) (is_killed terms piece));
  reads_is = rw (settled, file) refl;
  decides_is = rw (settled, file) refl;
}
  where
    by_settled : (r w s a : Bool) → (r || (w && s)) ≡ true → (a && not r && not w) ≡ false
    by_settled true w s true is = refl
    by_settled true w s false is = refl
    by_settled false true s true is = refl
    by_settled false true s false is = refl
    by_settled false false s a is = cc

    never : (a b : Bool) → (a && false && not b) ≡ false
    never true b = refl
    never false b = refl

-- whether it was killed at once, by the count of the unit
killed_as : (terms : AttemptTerms) (waited : Bool) (n : ℕ) (piece : List OwnTurn) → any_is ends_wait piece ≡ waited
    → slow_count terms.slow piece ≡ n
    → is_killed terms piece ≡ (not waited && is_out_of_time terms.slow n && (terms.slow.grace == 0))
killed_as terms waited n piece w count =
    ap (λ b. not b && has_timed_out terms.slow piece && (terms.slow.grace == 0)) w
    ∙ ap (λ n. not waited && is_out_of_time terms.slow n && (terms.slow.grace == 0)) count

-- so in each phase
pub record SaysIn (terms : AttemptTerms) (ph : Phase) (ps : List Attempt) : Type 0 where
  pub start : is_starting ph ≡ of_undecided awaits_start ps
  pub child : is_waiting ph ≡ of_undecided awaits_child ps
  pub hears_is : is_hearing ph ≡ of_undecided (hears_streams terms) ps
  pub reads : is_reading ph ≡ of_undecided (awaits_file terms) ps
  pub decides_is : is_deciding ph ≡ of_undecided (has_ended terms) ps
  pub requests : (is_hearing ph || is_delaying ph) ≡ hears_requests terms ps

says_one : (terms : AttemptTerms) (ph : Phase) (piece : List OwnTurn) (earlier : List Attempt) → is_delaying ph ≡ false
    → SaysSo terms (is_starting ph) (is_waiting ph) (is_hearing ph) (is_reading ph) (is_deciding ph) piece
    → SaysIn terms ph (cut piece [] ∷ earlier)
says_one terms ph piece earlier off so = record {
  start = sym so.start_is;
  child = sym so.child_is;
  hears_is = sym so.hears_is;
  reads = sym so.reads_is;
  decides_is = sym so.decides_is;
  requests = ap (λ b. is_hearing ph || b) off ∙ or_false (is_hearing ph) ∙ sym so.hears_is;
}
  where
    or_false : (b : Bool) → (b || false) ≡ b
    or_false true = refl
    or_false false = refl

pub says_in : (terms : AttemptTerms) (ph : Phase) (u : UnitView) (ps : List Attempt) → u.terms ≡ terms
    → HasPieces terms ph u ps → IsShown ph u ps → IsKilledIn ph u → SaysIn terms ph ps
says_in terms ph u ps on = by_phase ph ps
  where
    at_once : (b : Bool) → is_at_once u ≡ b
        → (is_out_of_time terms.slow u.timers.slow_count && (terms.slow.grace == 0)) ≡ b
    at_once b is =
        subst (λ terms. (is_out_of_time terms.slow u.timers.slow_count && (terms.slow.grace == 0)) ≡ b) on is

    going : (ph : Phase) (waited killed : Bool) (exit : Option ChildExit) (piece : List OwnTurn) (said : Option ℕ)
        → IsGoing terms ph waited exit u piece → pid_said piece ≡ said
        → (not waited && is_out_of_time terms.slow u.timers.slow_count && (terms.slow.grace == 0)) ≡ killed
        → SaysSo terms (not (is_some said) && not waited) (is_some said && not waited) (is_some said && not killed)
        false false piece
    going ph waited killed exit piece said it pid k =
        says_going terms (is_some said) waited killed piece (started_as piece said pid) it.is_at.wait_over
        it.is_at.not_refused it.unsettled
        (killed_as terms waited u.timers.slow_count piece it.is_at.wait_over it.is_at.counted ∙ k)

    awaiting : (settled awaits : Bool) → settled ≡ true → (settled && not awaits) ≡ false → awaits ≡ true
    awaiting true true s e = refl
    awaiting true false s e = cc
    awaiting false awaits s e = cc

    ends : (settled awaits : Bool) → (settled && not awaits) ≡ true → (settled ≡ true) × (awaits ≡ false)
    ends true true e = cc
    ends true false e = (refl, refl)
    ends false awaits e = cc

    none : SaysIn terms Over []
    none = record { start = refl; child = refl; hears_is = refl; reads = refl; decides_is = refl; requests = refl }

    shut : (a b : Bool) → b ≡ true → false ≡ (a && not b)
    shut true b e = rw e refl
    shut false b e = refl

    by_phase : (ph : Phase) (ps : List Attempt) → HasPieces terms ph u ps → IsShown ph u ps → IsKilledIn ph u
        → SaysIn terms ph ps
    by_phase StartSent [] h s k =
        record { start = refl; child = refl; hears_is = refl; reads = refl; decides_is = refl; requests = refl }
    by_phase Starting (cut piece [] ∷ earlier) (it, ss) s k =
        says_one terms Starting piece earlier refl (going Starting false false None piece None it s (at_once false k))
    by_phase Running (cut piece [] ∷ earlier) (it, ss) s k =
        says_one terms Running piece earlier refl
        (going Running false false None piece (Some u.pid) it s (at_once false k))
    by_phase Grace (cut piece [] ∷ earlier) (it, ss) s k =
        says_one terms Grace piece earlier refl
        (going Grace false false None piece (Some u.pid) it s.0 (at_once false k))
    by_phase KillWait (cut piece [] ∷ earlier) (it, ss) s k =
        says_one terms KillWait piece earlier refl
        (going KillWait false true None piece (Some u.pid) it s (at_once true k))
    by_phase Leak (cut piece [] ∷ earlier) (it, ss) s k =
        says_one terms Leak piece earlier refl (going Leak true false u.exit piece (Some u.pid) it s.0 refl)
    by_phase EnvWait (cut piece [] ∷ earlier) (it, ss) s k =
        says_one terms EnvWait piece earlier refl
        (says_settled terms true piece it.settled
        (awaiting (is_settled terms piece) (awaits_env_file terms piece) it.settled
        (unended_has terms piece it.not_ended.0)))
    by_phase Deciding (cut piece [] ∷ earlier) h s k =
        let e = ends (is_settled terms piece) (awaits_env_file terms piece) h.0 in
        says_one terms Deciding piece earlier refl (says_settled terms false piece e.0 e.1)
    by_phase Delay (cut piece (d ∷ after) ∷ earlier) h s k = record {
      start = refl;
      child = refl;
      hears_is = refl;
      reads = refl;
      decides_is = refl;
      requests = rw (h.0.1, h.1) refl;
    }
    by_phase RetrySent (cut piece (d ∷ after) ∷ earlier) h s k = record {
      start = refl;
      child = refl;
      hears_is = refl;
      reads = refl;
      decides_is = refl;
      requests = shut (is_retried terms (length earlier + 1) piece) (is_delay_over (d ∷ after)) h.1;
    }
    by_phase Over [] h s k = none
    by_phase Over (cut piece (d ∷ after) ∷ earlier) h s k = record {
      start = refl;
      child = refl;
      hears_is = refl;
      reads = refl;
      decides_is = refl;
      requests = sym h.1;
    }
    by_phase ph ps h s k = absurd h
