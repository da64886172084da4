-- An attempt that goes on, and one that has ended, after one more turn.
use Rattle.std.proofs.Common.{◌≡◌, ℕ, ◌+◌, ◌≤◌, List, [], ◌∷◌, ◌++◌, length, Bool, true, false, ◌&&◌, ◌||◌}
use Rattle.std.proofs.Common.{if◌then◌else◌, Option, Some, None, not, unwrap_or, refl, ap, sym, subst, ◌∙◌}
use Rattle.std.specs.Option.{option_or}
use Rattle.run_capture.specs.Captured.{Captured, is_done}
use Rattle.run_events.specs.declared.request.Request.{Request}
use Rattle.run_events.specs.declared.result.ChildExit.{ChildExit}
use Rattle.run_events.specs.declared.result.ChildExecutionOutput.TheVariants.{Output, StartError}
use Rattle.run_events.specs.declared.result.ExecuteStatus.{ExecuteStatus}
use Rattle.run_events.specs.declared.result.ExecutionResult.TheVariants.{ExecFail}
use Rattle.run_events.specs.declared.result.ScriptEnv.TheVariants.{Unread}
use Rattle.run_model.specs.declared.phase.Phase.{Phase}
use Rattle.run_model.specs.declared.phase.Phase.TheVariants.{Starting, Leak}
use Rattle.run_model.specs.declared.unit_turn.UnitTurn.{UnitTurn}
use Rattle.run_commands.specs.declared.script_helpers.EnvInput.{EnvInput}
use Rattle.run_model.specs.declared.unit_turn.UnitTurn.TheVariants.{StartFailed, Env}
use Rattle.run_model.specs.declared.unit_view.AttemptTerms.{AttemptTerms}
use Rattle.run_model.specs.declared.unit_view.UnitView.{UnitView}
use Rattle.run_model.specs.Env.{env_of}
use Rattle.run_model.specs.Ending.{result_of, result_with, status_at, ended, ended_with, awaits_env, awaiting_env}
use Rattle.run_model.specs.Pauses.{watch_resumed}
use Rattle.run_model.specs.Unit.{at_moment}
use Rattle.run_model.specs.Story.{OwnTurn, Attempt, cut}
use Rattle.run_model.specs.Attempts.{env_in, env_read, is_settled, awaits_env_file, has_ended, end_of, status_of}
use Rattle.run_model.specs.Attempts.{delay_after, ended_statuses, attempt_pauses}
use Rattle.run_model.specs.Timing.{pauses_in}
use Rattle.run_laws.proofs.units.CaptureLemmas.{taken}
use Rattle.run_laws.proofs.units.TimerLemmas.{HasTimer, timer_later}
use Rattle.run_laws.proofs.units.WatchLemmas.{IsTimed, timed_later, timed_settled, time_settled, pauses_unsettled}
use Rattle.run_laws.proofs.units.WatchLemmas.{resumed_start}
use Rattle.run_laws.proofs.units.PieceLemmas.{IsAt, at_more, settled_as, awaits_as, end_more, status_as, refused_as}
use Rattle.run_laws.proofs.units.PieceLemmas.{refused_ends, quiet_said, time_is}

-- the attempt of a piece hasn't ended, and no environment file was read
abbrev pub IsUnended : AttemptTerms → List OwnTurn → Type 0
IsUnended terms piece = (end_of terms piece ≡ None) × (env_read piece ≡ None)

-- the attempt of a unit goes on after the turns of a piece, on these terms and in this phase: whether its child is
-- waited for no more, and how that ended
pub record IsGoing (terms : AttemptTerms) (ph : Phase) (waited : Bool) (exit : Option ChildExit) (u : UnitView)
    (piece : List OwnTurn) : Type 0 where
  pub is_at : IsAt terms u.timers.stopwatch.start waited exit false u.timers.slow_count u.capture piece
  pub not_ended : IsUnended terms piece
  pub unsettled : is_settled terms piece ≡ false
  pub watch : IsTimed terms u.timers.stopwatch u.latest piece
  pub pauses : attempt_pauses terms piece ≡ pauses_in piece
  pub timer : HasTimer terms ph u.timers u.latest piece

-- the statuses of a unit, and the delay before its current attempt, are those of the attempts before that
abbrev pub Follows : AttemptTerms → UnitView → List Attempt → Type 0
Follows terms u earlier = (u.statuses ≡ ended_statuses terms earlier) × (u.delay ≡ delay_after terms.retries earlier)

-- the attempt of this piece has ended, and the statuses of a unit are those of its attempts
abbrev pub IsPast : AttemptTerms → UnitView → List OwnTurn → List Attempt → Type 0
IsPast terms u piece earlier =
    (has_ended terms piece ≡ true) × (u.statuses ≡ ended_statuses terms (cut piece [] ∷ earlier))

-- the moment of the latest turn may be later
pub going_later : (terms : AttemptTerms) (ph : Phase) (waited : Bool) (exit : Option ChildExit) (now : ℕ)
    (u : UnitView) (piece : List OwnTurn) → u.latest ≤ now
    → IsGoing terms ph waited exit u piece → IsGoing terms ph waited exit (at_moment now u) piece
going_later terms ph waited exit now u piece le on = record {
  is_at = on.is_at;
  not_ended = on.not_ended;
  unsettled = on.unsettled;
  watch = timed_later terms u.timers.stopwatch u.latest now piece le on.watch;
  pauses = on.pauses;
  timer = timer_later terms ph u.timers u.latest now piece le on.timer;
}

-- the requests that wait for it say nothing of it
pub going_lined : (terms : AttemptTerms) (ph : Phase) (waited : Bool) (exit : Option ChildExit) (line : List Request)
    (u : UnitView) (piece : List OwnTurn)
    → IsGoing terms ph waited exit u piece → IsGoing terms ph waited exit (record u { line = line }) piece
going_lined terms ph waited exit line u piece on = record {
  is_at = on.is_at;
  not_ended = on.not_ended;
  unsettled = on.unsettled;
  watch = on.watch;
  pauses = on.pauses;
  timer = on.timer;
}

-- it goes on where its child is waited for, or some stream is waited for and isn't done
unsettled : (waited skips done : Bool) → (waited && (skips || done)) ≡ false
    → (waited && (skips || done || false)) ≡ false
unsettled true true done e = cc
unsettled true false true e = cc
unsettled true false false e = refl
unsettled false skips done e = refl

ended_not : (settled awaits : Bool) → settled ≡ false → (settled && not awaits) ≡ false
ended_not true awaits e = cc
ended_not false awaits e = refl

-- no environment file is read with such a turn
pub unread_more : (t : OwnTurn) (before : List OwnTurn) → env_read before ≡ None → env_in t.turn ≡ None
    → env_read (t ∷ before) ≡ None
unread_more t before none quiet = rw none quiet

pub going_more : (terms : AttemptTerms) (ph : Phase) (waited : Bool) (exit : Option ChildExit) (u : UnitView)
    (t : OwnTurn) (before : List OwnTurn)
    → IsAt terms u.timers.stopwatch.start waited exit false u.timers.slow_count u.capture (t ∷ before)
    → IsUnended terms before → env_in t.turn ≡ None
    → (waited && (terms.skips_leak_detection || is_done u.capture)) ≡ false
    → (is_settled terms (t ∷ before) ≡ false → IsTimed terms u.timers.stopwatch u.latest (t ∷ before))
    → attempt_pauses terms before ≡ pauses_in before
    → HasTimer terms ph u.timers u.latest (t ∷ before)
    → IsGoing terms ph waited exit u (t ∷ before)
going_more terms ph waited exit u t before it none quiet goes watch pauses timer = record {
  is_at = it;
  not_ended = (
    end_more terms t before false none.0 (ended_not _ (awaits_env_file terms (t ∷ before)) still),
    unread_more t before none.1 quiet,
  );
  unsettled = still;
  watch = watch still;
  pauses = pauses_unsettled terms t before still pauses;
  timer = timer;
}
  where
    still : is_settled terms (t ∷ before) ≡ false
    still =
        settled_as terms u.timers.stopwatch.start waited exit false u.timers.slow_count u.capture (t ∷ before) it
        ∙ unsettled waited terms.skips_leak_detection (is_done u.capture) goes

-- one that goes on and whose child is waited for no more waits for a stream
pub waits_on : (ph : Phase) (waited : Bool) (exit : Option ChildExit) (u : UnitView) (piece : List OwnTurn)
    → IsGoing u.terms ph waited exit u piece
    → (waited && (u.terms.skips_leak_detection || is_done u.capture)) ≡ false
waits_on ph waited exit u piece on =
    by_done waited u.terms.skips_leak_detection (is_done u.capture)
    (sym (settled_as u.terms u.timers.stopwatch.start waited exit false u.timers.slow_count u.capture piece on.is_at)
    ∙ on.unsettled)
  where
    by_done : (w s d : Bool) → (w && (s || d || false)) ≡ false → (w && (s || d)) ≡ false
    by_done true true d e = e
    by_done true false true e = e
    by_done true false false e = refl
    by_done false s d e = refl

-- so streams are waited for
unskipped : (s d : Bool) → (s || d) ≡ false → s ≡ false
unskipped true d e = e
unskipped false d e = refl

-- and it goes on where they aren't done after one more turn
pub waits_further : (exit : Option ChildExit) (c : Captured) (u : UnitView) (piece : List OwnTurn)
    → IsGoing u.terms Leak true exit u piece → is_done c ≡ false
    → (u.terms.skips_leak_detection || is_done c) ≡ false
waits_further exit c u piece on e =
    rw (unskipped u.terms.skips_leak_detection (is_done u.capture) (waits_on Leak true exit u piece on), e) refl

-- an attempt has ended where its streams aren't waited for or are done, and where they are done
pub ended_or : (skips done : Bool) → (skips || done) ≡ true → (skips || done || false) ≡ true
ended_or true done e = refl
ended_or false true e = refl
ended_or false false e = cc

pub ended_done : (skips done : Bool) → done ≡ true → (skips || done || false) ≡ true
ended_done true done e = refl
ended_done false true e = refl
ended_done false false e = cc

-- the status of a piece after these attempts, and the statuses where it has ended
abbrev pub next_status : AttemptTerms → List OwnTurn → List Attempt → ExecuteStatus
next_status terms piece earlier =
    status_of terms (delay_after terms.retries earlier) (length earlier + 1) piece

pub ended_statuses-past : (terms : AttemptTerms) (piece : List OwnTurn) (earlier : List Attempt)
    → has_ended terms piece ≡ true
    → ended_statuses terms (cut piece [] ∷ earlier)
    ≡ ended_statuses terms earlier ++ next_status terms piece earlier ∷ []
ended_statuses-past terms piece earlier ends =
    ap (λ b. ended_statuses terms earlier ++ (if b then next_status terms piece earlier ∷ [] else [])) ends

past_with : (terms : AttemptTerms) (statuses : List ExecuteStatus) (status : ExecuteStatus) (piece : List OwnTurn)
    (earlier : List Attempt) → has_ended terms piece ≡ true → status ≡ next_status terms piece earlier
    → statuses ≡ ended_statuses terms earlier
    → statuses ++ status ∷ [] ≡ ended_statuses terms (cut piece [] ∷ earlier)
past_with terms statuses status piece earlier ends is ss =
    ap (λ ss. ss ++ status ∷ []) ss ∙ ap (λ status. ended_statuses terms earlier ++ status ∷ []) is
    ∙ sym (ended_statuses-past terms piece earlier ends)

-- it ends where its child is done with, and no environment file is to be read
ends_settled : (settled awaits : Bool) → settled ≡ true → awaits ≡ false → (settled && not awaits) ≡ true
ends_settled true false e n = refl
ends_settled settled awaits e n = cc

pub past_exited : (now : ℕ) (exit : Option ChildExit) (leaked : Bool) (c : Captured) (turn : UnitTurn) (u : UnitView)
    (piece : List OwnTurn) (earlier : List Attempt)
    → IsAt u.terms u.timers.stopwatch.start true exit leaked u.timers.slow_count c (taken now turn None ∷ piece)
    → IsUnended u.terms piece → env_in turn ≡ None → (u.terms.skips_leak_detection || is_done c || leaked) ≡ true
    → awaits_env (result_of exit c.errors leaked u) u ≡ false
    → IsTimed u.terms u.timers.stopwatch now piece → u.attempt ≡ length earlier + 1
    → Follows u.terms u earlier
    → IsPast u.terms (ended now (result_of exit c.errors leaked u) (Output c.output c.errors) u)
    (taken now turn None ∷ piece) earlier
past_exited now exit leaked c turn u piece earlier it none quiet done awaits watch a (ss, delay) = (
  ends,
  past_with u.terms u.statuses
      (status_at now (result_of exit c.errors leaked u) (Output c.output c.errors) u)
      (taken now turn None ∷ piece) earlier ends
      (status_as Unread true exit leaked c now (delay_after u.terms.retries earlier) (length earlier + 1)
      (taken now turn None ∷ piece) u it (time_settled u.terms u.timers.stopwatch
      (taken now turn None) piece still watch)
      (rw unread refl) end a delay) ss,
)
  where
    still : is_settled u.terms (taken now turn None ∷ piece) ≡ true
    still =
        settled_as u.terms u.timers.stopwatch.start true exit leaked u.timers.slow_count c
        (taken now turn None ∷ piece) it
        ∙ done

    unread : env_read (taken now turn None ∷ piece) ≡ None
    unread = unread_more (taken now turn None) piece none.1 quiet

    ends : has_ended u.terms (taken now turn None ∷ piece) ≡ true
    ends =
        ends_settled _ _ still
        (awaits_as u.timers.stopwatch.start true exit leaked c (taken now turn None ∷ piece) u it unread ∙ awaits)

    end : end_of u.terms (taken now turn None ∷ piece) ≡ Some now
    end = end_more u.terms (taken now turn None) piece true none.0 ends

-- the child of a unit is done with, and its environment file is to be read
pub record IsAwaiting (terms : AttemptTerms) (u : UnitView) (piece : List OwnTurn) : Type 0 where
  pub is_at : IsAt terms u.timers.stopwatch.start true u.exit u.leaked u.timers.slow_count u.capture piece
  pub not_ended : IsUnended terms piece
  pub settled : is_settled terms piece ≡ true
  pub watch : IsTimed terms u.timers.stopwatch u.latest piece

-- so where it ended well
ended_awaiting : (settled awaits : Bool) → awaits ≡ true → (settled && not awaits) ≡ false
ended_awaiting true true e = refl
ended_awaiting false true e = refl
ended_awaiting settled false e = cc

pub awaiting_exited : (now : ℕ) (exit : Option ChildExit) (leaked : Bool) (c : Captured) (turn : UnitTurn)
    (u : UnitView)
    (piece : List OwnTurn)
    → IsAt u.terms u.timers.stopwatch.start true exit leaked u.timers.slow_count c (taken now turn None ∷ piece)
    → IsUnended u.terms piece → env_in turn ≡ None → (u.terms.skips_leak_detection || is_done c || leaked) ≡ true
    → awaits_env (result_of exit c.errors leaked u) u ≡ true
    → u.latest ≡ now → IsTimed u.terms u.timers.stopwatch now piece
    → IsAwaiting u.terms (awaiting_env now exit leaked c u) (taken now turn None ∷ piece)
awaiting_exited now exit leaked c turn u piece it none quiet done awaits latest watch = record {
  is_at =
      subst (λ start. IsAt u.terms start true exit leaked u.timers.slow_count c (taken now turn None ∷ piece))
      (sym (resumed_start u.timers.stopwatch now)) it;
  not_ended = (
    end_more u.terms (taken now turn None) piece false none.0 (ended_awaiting _ _
        (awaits_as u.timers.stopwatch.start true exit leaked c (taken now turn None ∷ piece) u it unread ∙ awaits)),
    unread,
  );
  settled = still;
  watch =
      subst (λ latest. IsTimed u.terms (watch_resumed now u.timers.stopwatch) latest
      (taken now turn None ∷ piece)) (sym latest)
      (timed_settled u.terms u.timers.stopwatch (taken now turn None) piece still watch);
}
  where
    still : is_settled u.terms (taken now turn None ∷ piece) ≡ true
    still =
        settled_as u.terms u.timers.stopwatch.start true exit leaked u.timers.slow_count c
        (taken now turn None ∷ piece) it
        ∙ done

    unread : env_read (taken now turn None ∷ piece) ≡ None
    unread = unread_more (taken now turn None) piece none.1 quiet

-- the moment of the latest turn may be later, and the requests that wait for it say nothing of it
pub awaiting_later : (terms : AttemptTerms) (now : ℕ) (u : UnitView) (piece : List OwnTurn) → u.latest ≤ now
    → IsAwaiting terms u piece → IsAwaiting terms (at_moment now u) piece
awaiting_later terms now u piece le on = record {
  is_at = on.is_at;
  not_ended = on.not_ended;
  settled = on.settled;
  watch = timed_later terms u.timers.stopwatch u.latest now piece le on.watch;
}

pub awaiting_lined : (terms : AttemptTerms) (line : List Request) (u : UnitView) (piece : List OwnTurn)
    → IsAwaiting terms u piece → IsAwaiting terms (record u { line = line }) piece
awaiting_lined terms line u piece on = record {
  is_at = on.is_at;
  not_ended = on.not_ended;
  settled = on.settled;
  watch = on.watch;
}

-- it ends where its environment file was read, or could not be
reads_no_more : (reads success : Bool) → not (reads && success && false) ≡ true
reads_no_more true true = refl
reads_no_more true false = refl
reads_no_more false success = refl

pub past_read : (now : ℕ) (input : EnvInput) (u : UnitView) (piece : List OwnTurn) (earlier : List Attempt)
    → u.latest ≡ now → IsAwaiting u.terms u piece → u.attempt ≡ length earlier + 1 → Follows u.terms u earlier
    → IsPast u.terms (ended_with now (env_of input) u.exit u.leaked u.capture u)
    (taken now (Env input) None ∷ piece) earlier
past_read now input u piece earlier latest on a (ss, delay) = (
  ends,
  past_with u.terms u.statuses
      (status_at now (result_with (env_of input) (result_of u.exit u.capture.errors u.leaked u))
      (Output u.capture.output u.capture.errors) u) (taken now (Env input) None ∷ piece) earlier ends
      (status_as (env_of input) true u.exit u.leaked u.capture now
      (delay_after u.terms.retries earlier) (length earlier + 1)
      (taken now (Env input) None ∷ piece) u it
      (time_settled u.terms u.timers.stopwatch (taken now (Env input) None) piece still
      (subst (λ latest. IsTimed u.terms u.timers.stopwatch latest piece) latest on.watch))
      (rw on.not_ended.1 refl) end a delay) ss,
)
  where
    it : IsAt u.terms u.timers.stopwatch.start true u.exit u.leaked u.timers.slow_count u.capture
        (taken now (Env input) None ∷ piece)
    it = rw (quiet_said u.exit) at
        (at_more u.terms u.timers.stopwatch.start true u.exit u.leaked u.timers.slow_count u.capture
        now (Env input) None piece
        on.is_at refl refl)

    still : is_settled u.terms (taken now (Env input) None ∷ piece) ≡ true
    still =
        settled_as u.terms u.timers.stopwatch.start true u.exit u.leaked u.timers.slow_count u.capture
        (taken now (Env input) None ∷ piece) it
        ∙ sym (settled_as u.terms u.timers.stopwatch.start true u.exit u.leaked u.timers.slow_count
        u.capture piece on.is_at)
        ∙ on.settled

    ends : has_ended u.terms (taken now (Env input) None ∷ piece) ≡ true
    ends = rw (still, on.not_ended.1) (reads_no_more u.terms.reads_env _)

    end : end_of u.terms (taken now (Env input) None ∷ piece) ≡ Some now
    end = end_more u.terms (taken now (Env input) None) piece true on.not_ended.0 ends

-- it ends where its start was refused
pub past_refused : (now : ℕ) (error : List ℕ) (exit : Option ChildExit) (u : UnitView) (piece : List OwnTurn)
    (earlier : List Attempt) → u.latest ≡ now → IsGoing u.terms Starting false exit u piece
    → u.attempt ≡ length earlier + 1 → Follows u.terms u earlier
    → IsPast u.terms (ended now ExecFail (StartError error) u) (taken now (StartFailed error) None ∷ piece) earlier
past_refused now error exit u piece earlier latest on a (ss, delay) = (
  ends,
  past_with u.terms u.statuses (status_at now ExecFail (StartError error) u)
      (taken now (StartFailed error) None ∷ piece) earlier ends
      (refused_as now (delay_after u.terms.retries earlier) (length earlier + 1) error exit u.capture piece u on.is_at
      (time_settled u.terms u.timers.stopwatch (taken now (StartFailed error) None) piece still
      (subst (λ latest. IsTimed u.terms u.timers.stopwatch latest piece) latest on.watch)
      ∙ sym (time_is u.terms (taken now (StartFailed error) None ∷ piece) u.timers.stopwatch.start now
      (ap (λ o. unwrap_or (option_or o None) 0) on.is_at.let_go) end))
      on.not_ended.1 on.not_ended.0 a delay) ss,
)
  where
    still : is_settled u.terms (taken now (StartFailed error) None ∷ piece) ≡ true
    still = rw on.is_at.not_refused refl

    ends : has_ended u.terms (taken now (StartFailed error) None ∷ piece) ≡ true
    ends = refused_ends u.terms now error piece on.is_at.not_refused

    end : end_of u.terms (taken now (StartFailed error) None ∷ piece) ≡ Some now
    end = end_more u.terms (taken now (StartFailed error) None) piece true on.not_ended.0 ends
