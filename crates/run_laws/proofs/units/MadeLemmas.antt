-- A unit at the attempt that its pieces say.
use Rattle.std.proofs.Common.{◌≡◌, ◌≢◌, ◌⊎◌, inl, inr, ℕ, ◌+◌, ◌≤◌, List, [], ◌∷◌, ◌++◌, length, Bool, true, false}
use Rattle.std.proofs.Common.{◌&&◌, not, if◌then◌else◌, Option, Some, None, refl, ap, sym, subst, ◌∙◌, arith}
use Rattle.std.proofs.lemmas.List.{append-nil}
use Rattle.run_events.specs.declared.request.Request.{Request}
use Rattle.run_events.specs.declared.result.ChildExit.{ChildExit}
use Rattle.run_events.specs.declared.result.ExecuteStatus.{ExecuteStatus}
use Rattle.run_model.specs.declared.phase.Phase.{Phase}
use Rattle.run_model.specs.declared.phase.Phase.TheVariants.{StartSent, Starting, Running, Grace, KillWait, Leak}
use Rattle.run_model.specs.declared.phase.Phase.TheVariants.{EnvWait, Deciding, Delay, RetrySent, Over}
use Rattle.run_model.specs.declared.unit_turn.UnitTurn.TheVariants.{Due}
use Rattle.run_model.specs.declared.unit_view.AttemptTerms.{AttemptTerms}
use Rattle.run_model.specs.declared.unit_view.UnitView.{UnitView}
use Rattle.run_clock.specs.Sleep.{fires_now}
use Rattle.run_model.specs.Unit.{at_moment, takes, takes_at}
use Rattle.run_model.specs.Story.{OwnTurn, Attempt, cut}
use Rattle.run_model.specs.Timing.{timer_of, is_timer_due_at}
use Rattle.run_model.specs.Attempts.{is_settled, awaits_env_file, end_of, delay_after, ended_statuses, attempt_in}
use Rattle.run_model.specs.Attempts.{start_in, is_retried, is_delay_over, delay_timer, is_due_in}
use Rattle.run_model.specs.Attempts.{none_goes_on}
use Rattle.run_model.specs.Admission.{is_last}
use Rattle.run_laws.proofs.units.TimerLemmas.{waits, KeepsSome, IsSetBy, due_as, set_by_later}
use Rattle.run_laws.proofs.units.PieceLemmas.{unended_has}
use Rattle.run_laws.proofs.units.GoingLemmas.{IsGoing, IsAwaiting, Follows, IsPast, next_status, ended_statuses-past}
use Rattle.run_laws.proofs.units.GoingLemmas.{going_later, going_lined, awaiting_later, awaiting_lined}

-- the newest attempt of a unit goes on in this phase, and its statuses are those of the attempts before it
abbrev pub GoesOn : AttemptTerms → Phase → Bool → Option ChildExit → UnitView → List OwnTurn → List Attempt → Type 0
GoesOn terms ph waited exit u piece earlier = IsGoing terms ph waited exit u piece × Follows terms u earlier

-- the newest attempt of a unit has ended and is tried again, by the turns from its decide on
abbrev pub IsRetried : AttemptTerms → UnitView → List OwnTurn → List OwnTurn → List Attempt → Type 0
IsRetried terms u piece after earlier =
    IsPast terms u piece earlier × (is_retried terms (length earlier + 1) piece ≡ true)
    × (u.delay ≡ delay_after terms.retries (cut piece after ∷ earlier))

-- and its delay passes, or is over
abbrev pub IsDelayed : AttemptTerms → UnitView → List OwnTurn → List OwnTurn → List Attempt → Type 0
IsDelayed terms u piece after earlier =
    IsRetried terms u piece after earlier × (is_delay_over after ≡ false)
    × KeepsSome (Some (delay_timer terms.retries after (cut piece after ∷ earlier))) u.timers.wait
    × IsSetBy u.latest (Some (delay_timer terms.retries after (cut piece after ∷ earlier)))

abbrev pub IsAwaited : AttemptTerms → UnitView → List OwnTurn → List OwnTurn → List Attempt → Type 0
IsAwaited terms u piece after earlier =
    IsRetried terms u piece after earlier × (is_delay_over after ≡ true)

-- it has ended, and isn't tried again, or was left after its delay
abbrev pub IsOver : AttemptTerms → UnitView → List OwnTurn → List OwnTurn → List Attempt → Type 0
IsOver terms u piece after earlier =
    IsPast terms u piece earlier
    × ((is_retried terms (length earlier + 1) piece && not (is_delay_over after)) ≡ false)

-- the ended attempts of a unit are those of its pieces, by its phase
abbrev pub HasPieces : AttemptTerms → Phase → UnitView → List Attempt → Type 0
HasPieces terms StartSent u [] = (u.statuses ≡ []) × (u.delay ≡ 0)
HasPieces terms Starting u (cut piece [] ∷ earlier) = GoesOn terms Starting false None u piece earlier
HasPieces terms Running u (cut piece [] ∷ earlier) = GoesOn terms Running false None u piece earlier
HasPieces terms Grace u (cut piece [] ∷ earlier) = GoesOn terms Grace false None u piece earlier
HasPieces terms KillWait u (cut piece [] ∷ earlier) = GoesOn terms KillWait false None u piece earlier
HasPieces terms Leak u (cut piece [] ∷ earlier) = GoesOn terms Leak true u.exit u piece earlier
HasPieces terms EnvWait u (cut piece [] ∷ earlier) = IsAwaiting terms u piece × Follows terms u earlier
HasPieces terms Deciding u (cut piece [] ∷ earlier) = IsPast terms u piece earlier
HasPieces terms Delay u (cut piece (d ∷ after) ∷ earlier) = IsDelayed terms u piece (d ∷ after) earlier
HasPieces terms RetrySent u (cut piece (d ∷ after) ∷ earlier) = IsAwaited terms u piece (d ∷ after) earlier
HasPieces terms Over u [] = u.statuses ≡ []
HasPieces terms Over u (cut piece (d ∷ after) ∷ earlier) = IsOver terms u piece (d ∷ after) earlier
HasPieces terms _ u ps = ⊥

-- a unit is at the attempt that its pieces say, on these terms
pub record IsMade (planned : AttemptTerms) (u : UnitView) (ps : List Attempt) : Type 0 where
  pub attempt : u.attempt ≡ attempt_in ps
  pub start : u.timers.stopwatch.start ≡ start_in ps
  pub terms : u.terms ≡ planned
  pub has : HasPieces planned u.phase u ps

-- a unit that was admitted and took no turn
pub made_first : (terms : AttemptTerms) (u : UnitView) (ph : Phase) → u.phase ≡ ph → HasPieces terms ph u []
    → u.attempt ≡ 1 → u.timers.stopwatch.start ≡ 0 → u.terms ≡ terms → IsMade terms u []
made_first terms u ph is h a start on = record {
  attempt = a;
  start = start;
  terms = on;
  has = subst (λ ph. HasPieces terms ph u []) (sym is) h;
}

-- in each phase its statuses are those of its ended attempts
pub made_statuses : (terms : AttemptTerms) (u : UnitView) (ps : List Attempt) → IsMade terms u ps
    → u.statuses ≡ ended_statuses terms ps
made_statuses terms u ps made = by_phase u.phase ps made.has
  where
    unended : (piece : List OwnTurn) (earlier : List Attempt) → end_of terms piece ≡ None
        → u.statuses ≡ ended_statuses terms earlier → u.statuses ≡ ended_statuses terms (cut piece [] ∷ earlier)
    unended piece earlier none is =
        is ∙ sym (append-nil (ended_statuses terms earlier))
        ∙ ap (λ b. ended_statuses terms earlier ++ (if b then next_status terms piece earlier ∷ [] else []))
        (sym (unended_has terms piece none))

    by_phase : (ph : Phase) (ps : List Attempt) → HasPieces terms ph u ps → u.statuses ≡ ended_statuses terms ps
    by_phase StartSent [] h = h.0
    by_phase Starting (cut piece [] ∷ earlier) (on, is) = unended piece earlier on.not_ended.0 is.0
    by_phase Running (cut piece [] ∷ earlier) (on, is) = unended piece earlier on.not_ended.0 is.0
    by_phase Grace (cut piece [] ∷ earlier) (on, is) = unended piece earlier on.not_ended.0 is.0
    by_phase KillWait (cut piece [] ∷ earlier) (on, is) = unended piece earlier on.not_ended.0 is.0
    by_phase Leak (cut piece [] ∷ earlier) (on, is) = unended piece earlier on.not_ended.0 is.0
    by_phase EnvWait (cut piece [] ∷ earlier) (on, is) = unended piece earlier on.not_ended.0 is.0
    by_phase Deciding (cut piece [] ∷ earlier) h = h.1
    by_phase Delay (cut piece (d ∷ after) ∷ earlier) h = h.0.0.1
    by_phase RetrySent (cut piece (d ∷ after) ∷ earlier) h = h.0.0.1
    by_phase Over [] h = h
    by_phase Over (cut piece (d ∷ after) ∷ earlier) h = h.0.1
    by_phase ph ps h = absurd h

-- none of them goes on where it is over
pub made_ended : (terms : AttemptTerms) (u : UnitView) (ps : List Attempt) → IsMade terms u ps
    → is_last u.phase ≡ true → none_goes_on terms ps ≡ true
made_ended terms u ps made last = by_phase u.phase ps last made.has
  where
    by_phase : (ph : Phase) (ps : List Attempt) → is_last ph ≡ true → HasPieces terms ph u ps
        → none_goes_on terms ps ≡ true
    by_phase Over [] last h = refl
    by_phase Over (cut piece (d ∷ after) ∷ earlier) last h = h.0.0
    by_phase Over (cut piece [] ∷ earlier) last h = absurd h
    by_phase ph ps last h = cc

-- a unit that is over has no attempt, or is at its last one, and has statuses
pub made_last : (terms : AttemptTerms) (u : UnitView) (ps : List Attempt) → IsMade terms u ps → u.phase ≡ Over
    → ((ps ≡ []) × (u.statuses ≡ [])) ⊎ ((u.attempt ≡ length ps) × (u.statuses ≢ []))
made_last terms u ps made over =
    by_pieces ps made.attempt (subst (λ ph. HasPieces terms ph u ps) over made.has)
  where
    some : (ss : List ExecuteStatus) (s : ExecuteStatus) → ss ++ s ∷ [] ≡ [] → ⊥
    some [] s e = cc
    some (x ∷ ss) s e = cc

    by_pieces : (ps : List Attempt) → u.attempt ≡ attempt_in ps → HasPieces terms Over u ps
        → ((ps ≡ []) × (u.statuses ≡ [])) ⊎ ((u.attempt ≡ length ps) × (u.statuses ≢ []))
    by_pieces [] at h = inl (refl, h)
    by_pieces (cut piece (d ∷ after) ∷ earlier) at h =
        inr (
          omega arith,
          λ none. some (ended_statuses terms earlier) (next_status terms piece earlier)
              (sym (h.0.1 ∙ ended_statuses-past terms piece earlier h.0.0) ∙ none),
        )
    by_pieces (cut piece [] ∷ earlier) at h = absurd h

-- whether its timer is due is what its own turns say
pub made_due : (terms : AttemptTerms) (u : UnitView) (ps : List Attempt) → IsMade terms u ps → (now : ℕ)
    → u.latest ≤ now → takes now u Due ≡ is_due_in terms now ps
made_due terms u ps made now le = by_phase u.phase ps made.has
  where
    on_timer : (ph : Phase) (waited : Bool) (exit : Option ChildExit) (piece : List OwnTurn)
        → IsGoing terms ph waited exit u piece
        → fires_now now (waits ph u.timers) ≡ (not (is_settled terms piece) && is_timer_due_at
        now (timer_of terms piece))
    on_timer ph waited exit piece on =
        rw on.unsettled
        (due_as now (timer_of terms piece) (waits ph u.timers)
        (set_by_later u.latest now le (timer_of terms piece) on.timer.set_by) on.timer.waits_for)

    decided : (settled awaits due : Bool) → (settled && not awaits) ≡ true → false ≡ (not settled && due)
    decided true awaits due e = refl
    decided false awaits due e = cc

    over : (r o d : Bool) → (r && not o) ≡ false → false ≡ (r && not o && d)
    over true true d e = refl
    over true false d e = cc
    over false o d e = refl

    by_phase : (ph : Phase) (ps : List Attempt) → HasPieces terms ph u ps
        → takes_at now ph u Due ≡ is_due_in terms now ps
    by_phase StartSent [] h = refl
    by_phase Starting (cut piece [] ∷ earlier) (on, is) = on_timer Starting false None piece on
    by_phase Running (cut piece [] ∷ earlier) (on, is) = on_timer Running false None piece on
    by_phase Grace (cut piece [] ∷ earlier) (on, is) = on_timer Grace false None piece on
    by_phase KillWait (cut piece [] ∷ earlier) (on, is) = on_timer KillWait false None piece on
    by_phase Leak (cut piece [] ∷ earlier) (on, is) = on_timer Leak true u.exit piece on
    by_phase EnvWait (cut piece [] ∷ earlier) (on, is) = rw on.settled refl
    by_phase Deciding (cut piece [] ∷ earlier) h = decided _ (awaits_env_file terms piece) _ h.0
    by_phase Delay (cut piece (d ∷ after) ∷ earlier) (again, not_over, wait, set) =
        rw (again.1, not_over)
        (due_as now (Some (delay_timer terms.retries (d ∷ after) (cut piece (d ∷ after) ∷ earlier))) u.timers.wait
        (set_by_later u.latest now le (Some (delay_timer terms.retries (d ∷ after)
        (cut piece (d ∷ after) ∷ earlier))) set)
        wait)
    by_phase RetrySent (cut piece (d ∷ after) ∷ earlier) (again, is_over) = rw (again.1, is_over) refl
    by_phase Over [] h = refl
    by_phase Over (cut piece (d ∷ after) ∷ earlier) h = over _ _ _ h.1
    by_phase ph ps h = absurd h

-- the moment of its latest turn may be later
pub later_pieces : (terms : AttemptTerms) (now : ℕ) (ph : Phase) (u : UnitView) (ps : List Attempt) → u.latest ≤ now
    → HasPieces terms ph u ps → HasPieces terms ph (at_moment now u) ps
later_pieces terms now StartSent u [] le h = h
later_pieces terms now Starting u (cut piece [] ∷ earlier) le (on, ss) =
    (going_later terms Starting false None now u piece le on, ss)
later_pieces terms now Running u (cut piece [] ∷ earlier) le (on, ss) =
    (going_later terms Running false None now u piece le on, ss)
later_pieces terms now Grace u (cut piece [] ∷ earlier) le (on, ss) =
    (going_later terms Grace false None now u piece le on, ss)
later_pieces terms now KillWait u (cut piece [] ∷ earlier) le (on, ss) =
    (going_later terms KillWait false None now u piece le on, ss)
later_pieces terms now Leak u (cut piece [] ∷ earlier) le (on, ss) =
    (going_later terms Leak true u.exit now u piece le on, ss)
later_pieces terms now EnvWait u (cut piece [] ∷ earlier) le (on, ss) = (awaiting_later terms now u piece le on, ss)
later_pieces terms now Deciding u (cut piece [] ∷ earlier) le h = h
later_pieces terms now Delay u (cut piece (d ∷ after) ∷ earlier) le (again, not_over, wait, set) = (
  again,
  not_over,
  wait,
  set_by_later u.latest now le (Some (delay_timer terms.retries (d ∷ after) (cut piece (d ∷ after) ∷ earlier))) set,
)
later_pieces terms now RetrySent u (cut piece (d ∷ after) ∷ earlier) le h = h
later_pieces terms now Over u [] le h = h
later_pieces terms now Over u (cut piece (d ∷ after) ∷ earlier) le h = h
later_pieces terms now ph u ps le h = absurd h

-- the requests that wait for it say nothing of its attempts
pub lined_pieces : (terms : AttemptTerms) (ph : Phase) (line : List Request) (u : UnitView) (ps : List Attempt)
    → HasPieces terms ph u ps → HasPieces terms ph (record u { line = line }) ps
lined_pieces terms StartSent line u [] h = h
lined_pieces terms Starting line u (cut piece [] ∷ earlier) (on, ss) =
    (going_lined terms Starting false None line u piece on, ss)
lined_pieces terms Running line u (cut piece [] ∷ earlier) (on, ss) =
    (going_lined terms Running false None line u piece on, ss)
lined_pieces terms Grace line u (cut piece [] ∷ earlier) (on, ss) =
    (going_lined terms Grace false None line u piece on, ss)
lined_pieces terms KillWait line u (cut piece [] ∷ earlier) (on, ss) =
    (going_lined terms KillWait false None line u piece on, ss)
lined_pieces terms Leak line u (cut piece [] ∷ earlier) (on, ss) =
    (going_lined terms Leak true u.exit line u piece on, ss)
lined_pieces terms EnvWait line u (cut piece [] ∷ earlier) (on, ss) = (awaiting_lined terms line u piece on, ss)
lined_pieces terms Deciding line u (cut piece [] ∷ earlier) h = h
lined_pieces terms Delay line u (cut piece (d ∷ after) ∷ earlier) h = h
lined_pieces terms RetrySent line u (cut piece (d ∷ after) ∷ earlier) h = h
lined_pieces terms Over line u [] h = h
lined_pieces terms Over line u (cut piece (d ∷ after) ∷ earlier) h = h
lined_pieces terms ph line u ps h = absurd h

pub made_lined : (terms : AttemptTerms) (line : List Request) (u : UnitView) (ps : List Attempt)
    → IsMade terms u ps → IsMade terms (record u { line = line }) ps
made_lined terms line u ps made = record {
  attempt = made.attempt;
  start = made.start;
  terms = made.terms;
  has = lined_pieces terms u.phase line u ps made.has;
}
