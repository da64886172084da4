-- What a unit keeps for its answers after a row of the unit table.
use Rattle.std.proofs.Common.{◌≡◌, ℕ, ◌||◌, List, [], ◌∷◌, Bool, true, false, if◌then◌else◌, Option, Some, None}
use Rattle.std.proofs.Common.{is_some, ap, sym, subst, ◌∙◌}
use Rattle.run_capture.specs.Captured.{Captured, is_done}
use Rattle.run_clock.specs.Counted.{pause, mark_of, is_paused as is_open}
use Rattle.run_events.specs.declared.result.ChildExecutionOutput.TheVariants.{Output}
use Rattle.run_events.specs.declared.result.ChildExit.{ChildExit}
use Rattle.run_model.specs.declared.phase.Phase.{Phase}
use Rattle.run_model.specs.declared.unit_turn.UnitTurn.{UnitTurn}
use Rattle.run_model.specs.declared.unit_view.Timers.{Timers}
use Rattle.run_model.specs.declared.unit_view.UnitView.{UnitView}
use Rattle.run_model.specs.Attempts.{exit_of, result_by}
use Rattle.run_model.specs.Ending.{awaiting_env, awaits_env, ended, exited, is_timed_out, leaking, result_of, settled}
use Rattle.run_model.specs.Pauses.{all_paused, is_paused, waits_from}
use Rattle.run_model.specs.Slow.{is_out_of_time}
use Rattle.run_model.specs.Story.{Attempt, OwnTurn, cut}
use Rattle.run_model.specs.Timing.{ends_wait, pauses_in, slow_count}
use Rattle.run_laws_rounds.specs.Answers.{pid_in, result_there}
use Rattle.run_laws.proofs.units.CaptureLemmas.{taken}
use Rattle.run_laws.proofs.units.PieceLemmas.{IsAt, result_as}
use Rattle.run_laws_rounds.proofs.rounds.Shown.{IsShown, WaitsFor, pid_more, pid_said, waits_paused, waits_set}

-- what a unit keeps in its own phase
abbrev pub Shows : UnitView → List Attempt → Type 0
Shows v ps = IsShown v.phase v ps

pub in_phase : (v : UnitView) (ph : Phase) (ps : List Attempt) → v.phase ≡ ph → IsShown ph v ps → Shows v ps
in_phase v ph ps is h = subst (λ ph. IsShown ph v ps) (sym is) h

-- an attempt that is done with keeps how often it was slow
pub exited_shown : (now : ℕ) (exit : Option ChildExit) (leaked : Bool) (c : Captured) (u : UnitView)
    (piece : List OwnTurn) (earlier : List Attempt) → slow_count u.terms.slow piece ≡ u.timers.slow_count
    → Shows (exited now exit leaked c u) (cut piece [] ∷ earlier)
exited_shown now exit leaked c u piece earlier counted = by_env (awaits_env (result_of exit c.errors leaked u) u)
  where
    by_env : (b : Bool) → Shows (if b then awaiting_env now exit leaked c u
        else ended now (result_of exit c.errors leaked u) (Output c.output c.errors) u) (cut piece [] ∷ earlier)
    by_env true = tt
    by_env false = counted

-- the wait for its streams
left_waits : (now period : ℕ) (stopped : Bool) (t : Timers)
    → WaitsFor (record { set = now; duration = period; past = if stopped then mark_of pause now ∷ [] else [] })
    (if stopped then all_paused now (waits_from now period t) else waits_from now period t).waiting now
left_waits now period false t = waits_set now period
left_waits now period true t = waits_paused _ _ now (waits_set now period)

-- the result as its child ended
there_is : (exit : Option ChildExit) (c : Captured) (p : List OwnTurn) (u : UnitView)
    → IsAt u.terms u.timers.stopwatch.start true exit false u.timers.slow_count c p
    → result_there u.terms p
    ≡ (if is_timed_out u || is_some exit then Some (result_of exit c.errors false u) else None)
there_is exit c p u it =
    ap (λ b. if b || is_some (exit_of p) then Some (result_by u.terms p None) else None)
    (ap (is_out_of_time u.terms.slow) it.counted)
    ∙ ap (λ o. if is_timed_out u || is_some o then Some (result_by u.terms p None) else None) it.ended_so
    ∙ ap (λ r. if is_timed_out u || is_some exit then Some r else None)
    (sym (ap (result_by u.terms p) it.not_refused) ∙ result_as u.timers.stopwatch.start true exit false c p u it)

pub settled_shown : (now : ℕ) (exit : Option ChildExit) (c : Captured) (turn : UnitTurn) (u : UnitView)
    (piece : List OwnTurn) (earlier : List Attempt) → u.latest ≡ now → pid_said piece ≡ Some u.pid
    → pid_in turn ≡ None → ends_wait turn ≡ true
    → IsAt u.terms u.timers.stopwatch.start true exit false u.timers.slow_count c (taken now turn None ∷ piece)
    → is_paused u.timers ≡ is_open (pauses_in piece)
    → Shows (settled now exit c u) (cut (taken now turn None ∷ piece) [] ∷ earlier)
settled_shown now exit c turn u piece earlier latest pid quiet ends it stopped =
    by_done (u.terms.skips_leak_detection || is_done c)
  where
    t : OwnTurn
    t = taken now turn None

    waits : WaitsFor (record {
      set = now;
      duration = u.terms.leak.period;
      past = if is_paused u.timers then mark_of pause now ∷ [] else [];
    }) (leaking now exit c u).timers.waiting u.latest
    waits = subst (WaitsFor _ (leaking now exit c u).timers.waiting) (sym latest)
        (left_waits now u.terms.leak.period (is_paused u.timers) (record u.timers { slow = None }))

    by_done : (b : Bool) → Shows (if b then exited now exit false c u else leaking now exit c u)
        (cut (t ∷ piece) [] ∷ earlier)
    by_done true = exited_shown now exit false c u (t ∷ piece) earlier it.counted
    by_done false = (
      pid_more t piece (Some u.pid) pid quiet,
      rw ends (there_is exit c (t ∷ piece) u it),
      rw (ends, sym stopped) waits,
    )
