-- What a row adds to the delays of its unit.
use Rattle.std.proofs.Common.{◌≡◌, ◌⊎◌, inl, inr, ℕ, ◌+◌, ◌-◌, ◌==◌, List, [], ◌∷◌, ◌++◌, length, true, false}
use Rattle.std.proofs.Common.{if◌then◌else◌, Option, Some, None, option_map, option_to_list, unwrap_or, refl, ap, sym}
use Rattle.std.proofs.Common.{subst, ◌∙◌, arith, append-nil}
use Rattle.run_events.specs.declared.message.Message.{Message}
use Rattle.run_events.specs.declared.message.Message.TheVariants.{ScriptSlow, Slow}
use Rattle.run_events.specs.declared.result.ExecuteStatus.{ExecuteStatus}
use Rattle.run_model.specs.declared.phase.Phase.{Phase}
use Rattle.run_model.specs.declared.phase.Phase.TheVariants.{Starting, Running, Grace, KillWait, Leak, EnvWait}
use Rattle.run_model.specs.declared.phase.Phase.TheVariants.{Deciding, Delay}
use Rattle.run_model.specs.declared.unit_turn.UnitTurn.{UnitTurn}
use Rattle.run_model.specs.declared.unit_turn.UnitTurn.TheVariants.{Answered, Decide, Due, Take}
use Rattle.run_model.specs.declared.unit_view.AttemptTerms.{AttemptTerms}
use Rattle.run_model.specs.declared.unit_view.UnitRole.{UnitRole}
use Rattle.run_model.specs.declared.unit_view.UnitRole.TheVariants as roles
use Rattle.run_model.specs.declared.unit_view.UnitView.{UnitView}
use Rattle.run_model.specs.Environment.{number_of, number}
use Rattle.run_model.specs.Attempts.{attempt_in, delay_after, ended_statuses, is_retried, word_in}
use Rattle.run_model.specs.Backoff.{delay_by}
use Rattle.run_model.specs.Story.{OwnTurn, Attempt, cut, begins_attempt, decides}
use Rattle.run_model.specs.Ending.{last_status}
use Rattle.run_model.specs.Row.{Row}
use Rattle.run_model.specs.Retries.{failed_message, failure_message, finish_message, has_retry, next_delay}
use Rattle.run_model.specs.Retries.{retry_message, script_finish}
use Rattle.run_model.specs.Unit.{row_at, takes_at}
use Rattle.run_model.specs.Words.{sent}
use Rattle.run_laws.specs.Delays.{delays_by, delays_waiting}
use Rattle.run_laws.proofs.units.AccountRows.{IsTriedOnce}
use Rattle.run_laws.proofs.units.AttemptLemmas.{HasPieces, more}
use Rattle.run_laws.proofs.units.AccountRows.{same_number}
use Rattle.run_laws.proofs.units.GoingLemmas.{next_status, ended_statuses-past}
use Rattle.run_laws.proofs.units.AccountRows.{last-append}
use Rattle.run_laws.proofs.units.AfterLemmas.{delay_kept, retry_as}
use Rattle.run_laws.proofs.units.OpenRows.{is_open, IsReport}
use Rattle.run_laws.proofs.units.Rows.{StaysOrGoes, Takes, answers, opens, decides as decides_now, passes, again}
use Rattle.run_laws.proofs.units.Rows.{continues, decide_cases, row_moves, row_passes, row_takes}

-- what a row sends of delays
abbrev pub delays_sent : ℕ → Option Message → List ℕ
delays_sent k sent = delays_waiting k (option_to_list sent)

pub report_none : (k : ℕ) (o : Option Message) → IsReport o → delays_sent k o ≡ []
report_none k None h = refl
report_none k (Some (ScriptSlow slow)) h = refl
report_none k (Some (Slow slow)) h = refl
report_none k (Some m) h = absurd h

retry_none : (k : ℕ) (role : UnitRole) (u : UnitView) → delays_sent k (retry_message role u) ≡ []
retry_none k (roles.Test t) u = refl
retry_none k (roles.Script s) u = refl

pub finish_none : (k : ℕ) (role : UnitRole) (u : UnitView) → delays_sent k (finish_message role u) ≡ []
finish_none k (roles.Test t) u = refl
finish_none k (roles.Script s) u = by_last (last_status u.statuses)
  where
    by_last : (o : Option ExecuteStatus) → delays_sent k (option_map (script_finish s u) o) ≡ []
    by_last None = refl
    by_last (Some status) = refl

pub way_none : (k : ℕ) (u : UnitView) (r : Row) → StaysOrGoes u r → delays_sent k r.sent ≡ []
way_none k u r (inl stays) = rw stays.1 refl
way_none k u r (inr goes) = ap (delays_sent k) goes.1 ∙ retry_none k u.role u

-- the delay of the attempt that failed
failure_delay : (k delay : ℕ) (role : UnitRole) (o : Option ExecuteStatus) (s : ExecuteStatus) → o ≡ Some s
    → ((t : _) → role ≡ roles.Test t → (t.test.unit == k) ≡ true) → ((r : _) → role ≡ roles.Script r → ⊥)
    → delays_sent k (failure_message role delay o) ≡ delay ∷ []
failure_delay k delay (roles.Test t) o s is here none =
    ap (λ o. delays_sent k (option_map (failed_message delay t) o)) is ∙ rw (here t refl) refl
failure_delay k delay (roles.Script r) o s is here none = absurd (none r refl)

-- a turn of an attempt that goes on begins none, and decides nothing
open_turn : (now : ℕ) (ph : Phase) (turn : UnitTurn) (u : UnitView) → is_open ph ≡ true → takes_at now ph u turn ≡ true
    → (begins_attempt turn ≡ false) × (decides turn ≡ false)
open_turn now Starting (Answered go) u on en = cc
open_turn now Starting (Decide word) u on en = cc
open_turn now Running (Answered go) u on en = cc
open_turn now Running (Decide word) u on en = cc
open_turn now Grace (Answered go) u on en = cc
open_turn now Grace (Decide word) u on en = cc
open_turn now KillWait (Answered go) u on en = cc
open_turn now KillWait (Decide word) u on en = cc
open_turn now Leak (Answered go) u on en = cc
open_turn now Leak (Decide word) u on en = cc
open_turn now EnvWait (Answered go) u on en = cc
open_turn now EnvWait (Decide word) u on en = cc
open_turn now ph (Answered go) u on en = cc
open_turn now ph (Decide word) u on en = cc
open_turn now ph turn u on en = (refl, refl)

says_none : (turn : UnitTurn) → decides turn ≡ false → word_in turn ≡ None
says_none (Decide word) e = cc
says_none turn e = refl

-- such a turn leaves the delays
still_delays : (terms : AttemptTerms) (t : OwnTurn) (ps : List Attempt) → begins_attempt t.turn ≡ false
    → decides t.turn ≡ false → delays_by terms (more t ps) ≡ delays_by terms ps
still_delays terms t [] goes undecided = rw goes refl
still_delays terms t (cut piece [] ∷ earlier) goes undecided = rw (goes, undecided) refl
still_delays terms t (cut piece (d ∷ after) ∷ earlier) goes undecided =
    rw goes (ap (λ n. delays_by terms earlier
    ++ option_to_list (if is_retried terms (length earlier + 1) piece then Some n else None))
    (delay_kept terms.retries t piece (d ∷ after) earlier (says_none t.turn undecided)))

-- what a turn adds to the delays is what its row sends of them
abbrev pub AddsDelay : AttemptTerms → ℕ → OwnTurn → List Attempt → Option Message → Type 0
AddsDelay terms k t ps sent = delays_by terms (more t ps) ≡ delays_by terms ps ++ delays_sent k sent

still_adds : (terms : AttemptTerms) (k : ℕ) (t : OwnTurn) (ps : List Attempt) (sent : Option Message)
    → begins_attempt t.turn ≡ false → decides t.turn ≡ false → delays_sent k sent ≡ [] → AddsDelay terms k t ps sent
still_adds terms k t ps sent goes undecided none =
    still_delays terms t ps goes undecided ∙ sym (append-nil (delays_by terms ps))
    ∙ sym (ap (λ ds. delays_by terms ps ++ ds) none)

begun_adds : (terms : AttemptTerms) (k : ℕ) (t : OwnTurn) (ps : List Attempt) (sent : Option Message)
    → begins_attempt t.turn ≡ true → delays_sent k sent ≡ [] → AddsDelay terms k t ps sent
begun_adds terms k t ps sent goes none = rw goes (sym (ap (λ ds. delays_by terms ps ++ ds) none))

-- it decides what comes after its attempt
decided_adds : (now : ℕ) (u : UnitView) (t : OwnTurn) (word : ℕ) (ps : List Attempt) → t.turn ≡ Decide word
    → u.phase ≡ Deciding → IsTriedOnce u → HasPieces u.terms Deciding u ps
    → u.attempt ≡ attempt_in ps
    → AddsDelay u.terms (number u) t ps (row_at now Deciding (Decide word) u).sent
decided_adds now u t word [] is at once h a = absurd h
decided_adds now u t word (cut piece (d ∷ after) ∷ earlier) is at once h a = absurd h
decided_adds now u t word (cut piece [] ∷ earlier) is at once past a =
    rw (ap begins_attempt is, ap decides is)
    (decide_cases (λ r. delays_by u.terms (cut piece (t ∷ []) ∷ earlier)
    ≡ delays_by u.terms (cut piece [] ∷ earlier) ++ delays_sent (number u) r.sent) now word u
    (λ retry. tells (sym same ∙ retry)
    ∙ sym (ap (λ ds. (delays_by u.terms earlier ++ []) ++ ds) (sends retry)))
    (λ done. quietly (sym same ∙ done)
    ∙ sym (append-nil (delays_by u.terms earlier ++ []))
    ∙ sym (ap (λ ds. (delays_by u.terms earlier ++ []) ++ ds) (finish_none (number u) u.role u))))
  where
    at_last : u.attempt ≡ length earlier + 1
    at_last = a

    same : has_retry u ≡ is_retried u.terms (length earlier + 1) piece
    same = retry_as u piece earlier at_last past

    delay : delay_after u.terms.retries (cut piece (t ∷ []) ∷ earlier) ≡ next_delay word u
    delay = let before : length earlier ≡ u.attempt - 1 = omega (arith, at_last) in
        ap (λ turn. delay_by u.terms.retries (length earlier) (word_said turn)) is
        ∙ ap (λ n. delay_by u.terms.retries n word) before
      where
        word_said : UnitTurn → ℕ
        word_said turn = unwrap_or (word_in turn) 0

    tells : is_retried u.terms (length earlier + 1) piece ≡ true
        → delays_by u.terms (cut piece (t ∷ []) ∷ earlier)
        ≡ (delays_by u.terms earlier ++ []) ++ next_delay word u ∷ []
    tells e = rw (e, delay) (ap (λ ds. ds ++ next_delay word u ∷ []) (sym (append-nil (delays_by u.terms earlier))))

    quietly : is_retried u.terms (length earlier + 1) piece ≡ false
        → delays_by u.terms (cut piece (t ∷ []) ∷ earlier) ≡ delays_by u.terms earlier ++ []
    quietly e = rw e refl

    last : last_status u.statuses ≡ Some (next_status u.terms piece earlier)
    last = ap last_status (past.1 ∙ ended_statuses-past u.terms piece earlier past.0)
        ∙ last-append (ended_statuses u.terms earlier) (next_status u.terms piece earlier)

    sends : has_retry u ≡ true
        → delays_sent (number u) (failure_message u.role (next_delay word u) (last_status u.statuses))
        ≡ next_delay word u ∷ []
    sends retry = failure_delay (number u) (next_delay word u) u.role (last_status u.statuses)
        (next_status u.terms piece earlier) last
        (λ t role. ap (λ n. n == number u) (sym (ap number_of role)) ∙ same_number (number u))
        (λ r role. let never : false ≡ true = sym ((once r role).done at) ∙ retry in cc)

pub row_adds : (now : ℕ) (ph : Phase) (turn : UnitTurn) (u : UnitView) (t : OwnTurn) (ps : List Attempt) → t.turn ≡ turn
    → u.phase ≡ ph → takes_at now ph u turn ≡ true → IsTriedOnce u → HasPieces u.terms ph u ps
    → u.attempt ≡ attempt_in ps
    → AddsDelay u.terms (number u) t ps (row_at now ph turn u).sent
row_adds now ph turn u t ps is at en once h a = by_take (row_takes now ph turn u en)
  where
    k : ℕ
    k = number u

    by_take : Takes ph turn → AddsDelay u.terms k t ps (row_at now ph turn u).sent
    by_take (answers true from to) =
        rw (from, to) (begun_adds u.terms k t ps None (ap begins_attempt (is ∙ to)) refl)
    by_take (answers false from to) =
        rw (from, to) (still_adds u.terms k t ps None (ap begins_attempt (is ∙ to)) (ap decides (is ∙ to)) refl)
    by_take (opens on) =
        let other = open_turn now ph turn u on en in
        still_adds u.terms k t ps (row_at now ph turn u).sent (ap begins_attempt is ∙ other.0) (ap decides is ∙ other.1)
        (report_none k (row_at now ph turn u).sent (continues u _ (row_moves now ph turn u at on)).sent)
    by_take (decides_now word from to) =
        rw (from, to) (decided_adds now u t word ps (is ∙ to) (at ∙ from) once
        (subst (λ ph. HasPieces u.terms ph u ps) from h) a)
    by_take (passes from to) =
        let other : (begins_attempt turn ≡ false) × (decides turn ≡ false) = passing to in
        rw from (still_adds u.terms k t ps (row_at now Delay turn u).sent (ap begins_attempt is ∙ other.0)
        (ap decides is ∙ other.1) (way_none k u (row_at now Delay turn u) (row_passes now turn u (at ∙ from)).way))
      where
        passing : (turn ≡ Due) ⊎ (turn ≡ Take) → (begins_attempt turn ≡ false) × (decides turn ≡ false)
        passing (inl due) = (ap begins_attempt due, ap decides due)
        passing (inr take) = (ap begins_attempt take, ap decides take)
    by_take (again true from to) =
        rw (from, to) (begun_adds u.terms k t ps None (ap begins_attempt (is ∙ to)) refl)
    by_take (again false from to) =
        rw (from, to) (still_adds u.terms k t ps None (ap begins_attempt (is ∙ to)) (ap decides (is ∙ to)) refl)
