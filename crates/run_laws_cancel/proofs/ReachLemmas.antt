-- Which units a request reaches, by their own turns.
use Rattle.std.proofs.Common.{◌≡◌, ◌⊎◌, inl, inr, ℕ, ◌+◌, ◌-◌, List, [], ◌∷◌, ◌++◌, length, Bool, true, false, not}
use Rattle.std.proofs.Common.{◌&&◌, nat_le, if◌then◌else◌, Option, Some, None, option_map, option_to_list, drop, refl}
use Rattle.std.proofs.Common.{zero, suc, ap, sym, subst, ◌∙◌, arith, length-append}
use Rattle.run_events.specs.Result.{is_success}
use Rattle.run_events.specs.declared.request.Request.{Request}
use Rattle.run_events.specs.declared.result.ExecuteStatus.{ExecuteStatus}
use Rattle.run_events.specs.declared.settings.Settings.{Settings}
use Rattle.run_model.specs.declared.entry.Entry.{Entry}
use Rattle.run_model.specs.declared.happening.Happening.{Happening}
use Rattle.run_model.specs.declared.phase.Phase.{Phase}
use Rattle.run_model.specs.declared.phase.Phase.TheVariants.{StartSent, Starting, Running, Grace, KillWait, Leak}
use Rattle.run_model.specs.declared.phase.Phase.TheVariants.{EnvWait, Deciding, Delay, RetrySent, Over}
use Rattle.run_model.specs.declared.unit_view.AttemptTerms.{AttemptTerms}
use Rattle.run_model.specs.declared.unit_view.UnitView.{UnitView}
use Rattle.run_model.specs.Accounts.{News, HasAccount, HasAccountAt, HasSkipIn, is_mismatched, account_of, pending_of}
use Rattle.run_model.specs.Admission.{is_last, unit_terms}
use Rattle.run_model.specs.Attempts.{attempt_in, ended_statuses, is_retried, pieces_of, result_in}
use Rattle.run_model.specs.Backoff.{retry_count}
use Rattle.run_model.specs.Fates.{MeetsAttemptLaw}
use Rattle.run_model.specs.Journal.{history, IsLegalBackward}
use Rattle.run_model.specs.Story.{OwnTurn, Attempt, cut, broadcast_to, is_live_unit, line_of, pieces, story_of}
use Rattle.run_model.specs.Story.{is_at_retry, taken_by, was_left}
use Rattle.run_model.specs.Turns.{happening}
use Rattle.run_model.specs.Unit.{is_live, reach}
use Rattle.run_model.specs.Words.{clock, is_over, queue, sub_run, told, unit_after, unit_of}
use Rattle.run_laws.proofs.units.AttemptLemmas.{HasPieces, IsMade, IsMadeIf}
use Rattle.run_laws.proofs.units.GoingLemmas.{ended_statuses-past, next_status}
use Rattle.run_laws.proofs.board.Holds.{HasEndedAs, HasLine, HasLineIn, Holds, IsOnWay, IsOnWayAt, IsOnWayIn}
use Rattle.run_laws.proofs.board.Holds.{IsOverWith, Way, way_of}
use Rattle.run_laws.proofs.board.Kept.{holds, IsOfRun, IsBeforeRuns, where_joins}
use Rattle.run_laws.proofs.units.MadeLemmas.{IsOver}
use Rattle.run_laws_cancel.specs.Reach.{IsReached, broadcast_by, is_finished, is_live_by, was_let_go}
use Rattle.run_laws.proofs.board.OnBoard.{Frame}
use Rattle.run_laws.proofs.board.OnBoard.{frame_of}
use Rattle.run_laws.proofs.board.Kept.{from_base}

-- a unit that isn't over wasn't left
not_left : (mm : Bool) (u : UnitView) (w : Way) → is_last u.phase ≡ false → IsOnWayAt mm u w
    → is_at_retry w.stopped ≡ false
not_left true u w on h = ap is_at_retry h.1
not_left false u w on h = by_phase u.phase on h
  where
    by_phase : (ph : Phase) → is_last ph ≡ false → IsOnWayIn (retry_count u.terms.retries) ph u.attempt u.statuses w
        → is_at_retry w.stopped ≡ false
    by_phase Over on h = cc
    by_phase ph on h = ap is_at_retry h.0.1

-- the last of some attempts passed, or was the last that there could be
last_law : (n : ℕ) (early : List ExecuteStatus) (s : ExecuteStatus) → MeetsAttemptLaw n (early ++ s ∷ [])
    → (is_success s.result ≡ true) ⊎ (n ≡ length early)
last_law n [] s h = h
last_law n (x ∷ []) s (failed, some, h) = by_last (last_law (n - 1) [] s h)
  where
    by_last : (is_success s.result ≡ true) ⊎ (n - 1 ≡ 0) → (is_success s.result ≡ true) ⊎ (n ≡ 1)
    by_last (inl passed) = inl passed
    by_last (inr none) = inr (omega arith)
last_law n (x ∷ y ∷ early) s (failed, some, h) = by_last (last_law (n - 1) (y ∷ early) s h)
  where
    by_last : (is_success s.result ≡ true) ⊎ (n - 1 ≡ length (y ∷ early))
        → (is_success s.result ≡ true) ⊎ (n ≡ length (x ∷ y ∷ early))
    by_last (inl passed) = inl passed
    by_last (inr rest) = inr (omega arith)

-- so one that is over after its attempts, and wasn't left, isn't tried again
over_law : (n attempt : ℕ) (ss early : List ExecuteStatus) (s : ExecuteStatus) (w : Way) → ss ≡ early ++ s ∷ []
    → is_at_retry w.stopped ≡ false → IsOverWith n attempt ss w
    → ((is_success s.result ≡ true) ⊎ (n ≡ length early)) × (attempt ≡ length early + 1)
over_law n attempt [] [] s w is left h = cc
over_law n attempt [] (x ∷ early) s w is left h = cc
over_law n attempt (x ∷ ss) early s w is left (at, ended) = (
  last_law n early s (subst (MeetsAttemptLaw n) is (by_stop w.stopped left ended)),
  at ∙ ap length is ∙ length-append early (s ∷ []),
)
  where
    by_stop : (stopped : Option ℕ) → is_at_retry stopped ≡ false → HasEndedAs stopped n (x ∷ ss)
        → MeetsAttemptLaw n (x ∷ ss)
    by_stop None left ended = ended
    by_stop (Some zero) left ended = let none : length (x ∷ ss) ≡ 0 = ended.1 in absurd (omega arith)
    by_stop (Some (suc m)) left ended = cc

not_retried : (terms : AttemptTerms) (piece : List OwnTurn) (attempt n m : ℕ) → n ≡ retry_count terms.retries
    → (is_success (result_in terms piece) ≡ true) ⊎ (n ≡ m) → attempt ≡ m + 1 → is_retried terms attempt piece ≡ false
not_retried terms piece attempt n m is (inl passed) at = rw passed refl
not_retried terms piece attempt n m is (inr none) at = either (is_success (result_in terms piece))
  where
    late : nat_le attempt (retry_count terms.retries) ≡ false
    late = grind arith

    either : (b : Bool) → (not b && nat_le attempt (retry_count terms.retries)) ≡ false
    either true = refl
    either false = late

-- a unit is live exactly where its attempts say so
live_is : (mm : Bool) (terms : AttemptTerms) (u : UnitView) (ps : List Attempt) (w : Way) (t q : List News)
    → IsMade terms u ps → IsOnWayAt mm u w → HasAccountAt mm (is_at_retry w.stopped) u.phase u.statuses t q
    → is_live u.phase ≡ (was_let_go ps && not (is_finished terms ps) && not (is_at_retry w.stopped))
live_is mm terms u ps w t q made way account = by_phase u.phase ps refl made.attempt made.has
  where
    left : (ph : Phase) → u.phase ≡ ph → is_last ph ≡ false → is_at_retry w.stopped ≡ false
    left ph is on = not_left mm u w (ap is_last is ∙ on) way

    ended : (b : Bool) → false ≡ (not (not b) && false)
    ended true = refl
    ended false = refl

    over : (piece d_after : List OwnTurn) (earlier : List Attempt) → u.phase ≡ Over → u.attempt ≡ length earlier + 1
        → u.statuses ≡ ended_statuses terms earlier ++ next_status terms piece earlier ∷ []
        → is_at_retry w.stopped ≡ false
        → (m : Bool) → mm ≡ m → is_retried terms (length earlier + 1) piece ≡ false
    over piece after earlier is at ss unleft true kind =
        absurd (skips u.phase u.statuses ss
        (subst (λ mm. HasAccountAt mm (is_at_retry w.stopped) u.phase u.statuses t q) kind account))
      where
        skips : (ph : Phase) (s : List ExecuteStatus)
            → s ≡ ended_statuses terms earlier ++ next_status terms piece earlier ∷ [] → HasSkipIn ph s t q → ⊥
        skips Over [] is h = nothing (ended_statuses terms earlier) is
          where
            nothing : (early : List ExecuteStatus) → [] ≡ early ++ next_status terms piece earlier ∷ [] → ⊥
            nothing [] is = cc
            nothing (x ∷ early) is = cc
        skips Over (s ∷ ss) is h = h
        skips ph s is h = h
    over piece after earlier is at ss unleft false kind =
        let ends : IsOverWith (retry_count u.terms.retries) u.attempt u.statuses w =
        subst (λ ph. IsOnWayIn (retry_count u.terms.retries) ph u.attempt u.statuses w) is
        (subst (λ mm. IsOnWayAt mm u w) kind way) in
        let law = over_law (retry_count u.terms.retries) u.attempt u.statuses (ended_statuses terms earlier)
        (next_status terms piece earlier) w ss unleft ends in
        let same : length earlier + 1 ≡ length (ended_statuses terms earlier) + 1 = sym at ∙ law.1 in
        not_retried terms piece (length earlier + 1) (retry_count u.terms.retries)
        (length (ended_statuses terms earlier))
        (ap (λ (terms : AttemptTerms). retry_count terms.retries) made.terms) law.0 same

    by_left : (piece : List OwnTurn) (d : OwnTurn) (after : List OwnTurn) (earlier : List Attempt) (b : Bool)
        → u.phase ≡ Over → u.attempt ≡ length earlier + 1 → IsOver terms u piece (d ∷ after) earlier
        → is_at_retry w.stopped ≡ b
        → false ≡ (not (not (is_retried terms (length earlier + 1) piece)) && not b)
    by_left piece d after earlier true is at h e = ended (is_retried terms (length earlier + 1) piece)
    by_left piece d after earlier false is at h e =
        rw (over piece after earlier is at (h.0.1 ∙ ended_statuses-past terms piece earlier h.0.0) e mm refl) refl

    by_phase : (ph : Phase) (ps : List Attempt) → u.phase ≡ ph → u.attempt ≡ attempt_in ps → HasPieces terms ph u ps
        → is_live ph ≡ (was_let_go ps && not (is_finished terms ps) && not (is_at_retry w.stopped))
    by_phase StartSent [] is at h = refl
    by_phase Starting (cut piece [] ∷ earlier) is at h = rw (left Starting is refl) refl
    by_phase Running (cut piece [] ∷ earlier) is at h = rw (left Running is refl) refl
    by_phase Grace (cut piece [] ∷ earlier) is at h = rw (left Grace is refl) refl
    by_phase KillWait (cut piece [] ∷ earlier) is at h = rw (left KillWait is refl) refl
    by_phase Leak (cut piece [] ∷ earlier) is at h = rw (left Leak is refl) refl
    by_phase EnvWait (cut piece [] ∷ earlier) is at h = rw (left EnvWait is refl) refl
    by_phase Deciding (cut piece [] ∷ earlier) is at h = rw (left Deciding is refl) refl
    by_phase Delay (cut piece (d ∷ after) ∷ earlier) is at h = rw (h.0.1, left Delay is refl) refl
    by_phase RetrySent (cut piece (d ∷ after) ∷ earlier) is at h = rw (h.0.1, left RetrySent is refl) refl
    by_phase Over [] is at h = refl
    by_phase Over (cut piece (d ∷ after) ∷ earlier) is at h =
        by_left piece d after earlier (is_at_retry w.stopped) is at h refl
    by_phase ph ps is at h = absurd h

live_so : (p : Settings) (f : Frame) (now : ℕ) (run : List Happening) (k : ℕ) → Holds p now run
    → is_live_unit (unit_of k run) ≡ is_live_by p k run
live_so p f now run k h = by_unit (unit_of k run) (h.made k) (h.on_way k) (h.accounts k)
  where
    by_unit : (v : Option UnitView) → IsMadeIf (unit_terms p k) v (story_of k run)
        → IsOnWay (is_mismatched p k) v (way_of k run)
        → HasAccount (is_mismatched p k) (was_left k run) v (account_of k (told run)) (pending_of k (queue run))
        → is_live_unit v ≡ is_live_by p k run
    by_unit None story way account = sym (ap (λ story. was_let_go (pieces story)
        && not (is_finished (unit_terms p k) (pieces story)) && not (was_left k run)) story)
    by_unit (Some u) made way account =
        live_is (is_mismatched p k) (unit_terms p k) u (pieces_of k run) (way_of k run) (account_of k (told run))
        (pending_of k (queue run)) made way account

-- a live unit has all of that in its line
line_so : (p : Settings) (f : Frame) (now : ℕ) (run : List Happening) (k : ℕ) → Holds p now run
    → broadcast_to k run ≡ broadcast_by p k run → is_live_unit (unit_of k run) ≡ true
    → option_map (λ (u : UnitView). u.line) (unit_of k run) ≡ Some (drop (taken_by k run) (broadcast_by p k run))
line_so p f now run k h same live = by_unit (unit_of k run) live (h.lines k)
  where
    by_phase : (ph : Phase) (line : List Request) → is_live ph ≡ true → HasLineIn ph line (line_of k run)
        → line ≡ line_of k run
    by_phase StartSent line live h = cc
    by_phase Over line live h = cc
    by_phase Starting line live h = h
    by_phase Running line live h = h
    by_phase Grace line live h = h
    by_phase KillWait line live h = h
    by_phase Leak line live h = h
    by_phase EnvWait line live h = h
    by_phase Deciding line live h = h
    by_phase Delay line live h = h
    by_phase RetrySent line live h = h

    by_unit : (v : Option UnitView) → is_live_unit v ≡ true → HasLine v (line_of k run)
        → option_map (λ (u : UnitView). u.line) v ≡ Some (drop (taken_by k run) (broadcast_by p k run))
    by_unit None live has = cc
    by_unit (Some u) live has =
        ap Some (by_phase u.phase u.line live has) ∙ ap (λ rs. Some (drop (taken_by k run) rs)) same

-- a request that reaches a unit leaves it as live as it was
live_reach : (request : Option Request) (v : Option UnitView) → is_live_unit (reach request v) ≡ is_live_unit v
live_reach None v = refl
live_reach (Some request) None = refl
live_reach (Some request) (Some u) = by_live (is_live u.phase)
  where
    by_live : (b : Bool) → is_live_unit (Some (if b then record u { line = u.line ++ request ∷ [] } else u))
        ≡ is_live u.phase
    by_live true = refl
    by_live false = refl

-- so what was broadcast to a unit is what was broadcast while it was so
broadcast_so : (p : Settings) (backward : List Entry) → IsLegalBackward p backward → (k : ℕ)
    → broadcast_to k (sub_run (history p backward)) ≡ broadcast_by p k (sub_run (history p backward))
broadcast_so p [] legal k = refl
broadcast_so p (e ∷ before) legal k =
    by_run (broadcast_so p before legal.2 k) (where_joins p past e (holds p before legal.2) legal.0)
  where
    past : List Happening
    past = history p before

    x : Happening
    x = happening p past e

    live : is_live_unit (unit_of k (sub_run (x ∷ past))) ≡ is_live_by p k (sub_run (x ∷ past))
    live = live_so p (frame_of p (x ∷ past)) (clock (x ∷ past)) (sub_run (x ∷ past)) k
        (holds p (e ∷ before) legal)

    one_more : (run : List Happening) → broadcast_to k run ≡ broadcast_by p k run
        → is_live_unit (unit_of k (x ∷ run)) ≡ is_live_by p k (x ∷ run)
        → broadcast_to k (x ∷ run) ≡ broadcast_by p k (x ∷ run)
    one_more run was is =
        ap (λ rs. rs ++ (if is_live_unit (unit_after x.moment k x.part (unit_of k run))
        then option_to_list x.request else [])) was
        ∙ ap (λ b. broadcast_by p k run ++ (if b then option_to_list x.request else []))
        (sym (live_reach x.request (unit_after x.moment k x.part (unit_of k run))) ∙ is)

    by_run : broadcast_to k (sub_run past) ≡ broadcast_by p k (sub_run past)
        → IsOfRun p past e ⊎ IsBeforeRuns p past e
        → broadcast_to k (sub_run (x ∷ past)) ≡ broadcast_by p k (sub_run (x ∷ past))
    by_run was (inl of) =
        subst (λ run. broadcast_to k run ≡ broadcast_by p k run) (sym of.joins)
        (one_more of.base (from_base (λ run. broadcast_to k run ≡ broadcast_by p k run) p past e of refl was)
        (subst (λ run. is_live_unit (unit_of k run) ≡ is_live_by p k run) of.joins live))
    by_run was (inr none) = subst (λ run. broadcast_to k run ≡ broadcast_by p k run) (sym none.still) refl

pub reached : (p : Settings) (backward : List Entry) → IsLegalBackward p backward → (k : ℕ)
    → IsReached p (sub_run (history p backward)) k
reached p backward legal k = record {
  live = live_so p (frame_of p past) (clock past) (sub_run past) k (holds p backward legal);
  broadcast = broadcast_so p backward legal k;
  line = λ live. line_so p (frame_of p past) (clock past) (sub_run past) k (holds p backward legal)
      (broadcast_so p backward legal k)
      (live_so p (frame_of p past) (clock past) (sub_run past) k (holds p backward legal) ∙ live);
}
  where
    past : List Happening
    past = history p backward
