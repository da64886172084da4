-- What holds of the oldest message.
use Rattle.std.proofs.Common.{◌≡◌, inl, inr, ℕ, ◌<◌, ◌≤◌, ◌==◌, List, [], ◌∷◌, ◌++◌, length, Bool, true, false}
use Rattle.std.proofs.Common.{Option, Some, None, is_none, refl, ap, sym, subst, arith}
use Rattle.std.specs.List.{list_any}
use Rattle.std.proofs.lemmas.List.Elements.{All-head, All-same, All-drop}
use Rattle.std.proofs.lemmas.Bool.Decides.{nat_tests}
use Rattle.run_events.specs.Stats.{total_by}
use Rattle.run_events.specs.declared.cancel.CancelReason.{CancelReason}
use Rattle.run_events.specs.declared.message.ScriptStart.{ScriptStart}
use Rattle.run_events.specs.declared.message.ScriptFinish.{ScriptFinish}
use Rattle.run_events.specs.declared.message.Message.TheVariants.{ScriptStart as ScriptStarts}
use Rattle.run_events.specs.declared.message.Message.TheVariants.{ScriptFinish as ScriptFinishes}
use Rattle.run_events.specs.declared.settings.Settings.{Settings}
use Rattle.run_events.specs.declared.message.Message.{Message}
use Rattle.run_events.specs.declared.message.Message.TheVariants.{Start, Retry, Finish}
use Rattle.run_events.specs.declared.message.TestStart.{TestStart}
use Rattle.run_events.specs.declared.message.TestFinish.{TestFinish}
use Rattle.run_events.specs.declared.message.TestRetry.{TestRetry}
use Rattle.run_events.specs.declared.result.ExecuteStatus.{ExecuteStatus}
use Rattle.run_model.specs.declared.happening.Happening.{Happening}
use Rattle.run_model.specs.declared.phase.Phase.{Phase}
use Rattle.run_model.specs.declared.phase.Phase.TheVariants.{StartSent, Starting, Running, Grace, KillWait, Leak}
use Rattle.run_model.specs.declared.phase.Phase.TheVariants.{EnvWait, Deciding, Delay, RetrySent, Over}
use Rattle.run_model.specs.declared.unit_turn.UnitTurn.{UnitTurn}
use Rattle.run_model.specs.declared.unit_view.UnitView.{UnitView}
use Rattle.run_model.specs.Words.{FinishedUnit, reason, finished as finishes_told, skipped, sent, delivered, queue}
use Rattle.run_model.specs.Words.{told, unit_of, tally, stats_after, is_running}
use Rattle.run_model.specs.Story.{is_at_retry, was_left}
use Rattle.run_model.specs.Admission.{is_script, scripts_in, units_in}
use Rattle.run_model.specs.Dispatch.{may_go}
use Rattle.run_model.specs.Accounts.{News, started, failed, retried, finished, tried, HasAccount, HasAccountAt}
use Rattle.run_model.specs.Accounts.{is_mismatched, attempt_of, account_of, pending_in, pending_of}
use Rattle.run_model.specs.Backoff.{retry_count}
use Rattle.run_model.specs.Unit.{takes, takes_at}
use Rattle.run_laws.proofs.told.Running.{is_finish, runs-account, tried-unfinished, failing-unfinished}
use Rattle.run_laws.proofs.board.Holds.{Holds, IsOfKind, Way, IsWaiting, IsOnWayIn, IsOnWayAt}
use Rattle.run_laws.proofs.units.AccountRows.{same_number}

-- a unit that takes a turn wasn't stopped
pub unstopped : (mm : Bool) (now : ℕ) (u : UnitView) (turn : UnitTurn) (w : Way) → takes now u turn ≡ true
    → IsOnWayAt mm u w → w.stopped ≡ None
unstopped true now u turn w en h = h.1
unstopped false now u turn w en h = by_phase u.phase en h
  where
    by_phase : (ph : Phase) → takes_at now ph u turn ≡ true
        → IsOnWayIn (retry_count u.terms.retries) ph u.attempt u.statuses w → w.stopped ≡ None
    by_phase Over en h = cc
    by_phase StartSent en h = h.0.1
    by_phase ph en h = h.0.1

pub unleft : (mm : Bool) (now : ℕ) (u : UnitView) (turn : UnitTurn) (w : Way) → takes now u turn ≡ true
    → IsOnWayAt mm u w → is_at_retry w.stopped ≡ false
unleft mm now u turn w en h = ap is_at_retry (unstopped mm now u turn w en h)

-- how often its start and its retries were delivered: never before its start, and then once at least
pub undelivered : (mm : Bool) (u : UnitView) (w : Way) → u.phase ≡ StartSent → IsOnWayAt mm u w → IsWaiting w
undelivered true u w at h = h
undelivered false u w at h =
    (subst (λ ph. IsOnWayIn (retry_count u.terms.retries) ph u.attempt u.statuses w) at h).0

pub delivered_once : (mm : Bool) (u : UnitView) (w : Way) → mm ≡ false → u.phase ≡ RetrySent → IsOnWayAt mm u w
    → 0 < w.delivered
delivered_once true u w mm_not at h = cc
delivered_once false u w mm_not at h =
    (subst (λ ph. IsOnWayIn (retry_count u.terms.retries) ph u.attempt u.statuses w) at h).0.0

-- the number of the last attempt of a unit whose delay passes
pub delay_number : (mm : Bool) (u : UnitView) (w : Way) → IsOnWayAt mm u w → mm ≡ false → u.phase ≡ Delay
    → u.attempt ≡ length u.statuses
delay_number true u w h matched at = cc
delay_number false u w h matched at =
    (subst (λ ph. IsOnWayIn (retry_count u.terms.retries) ph u.attempt u.statuses w) at h).1

-- a test whose start message is the oldest waits for it, and nothing was told of it
pub record Waits (p : Settings) (now : ℕ) (run : List Happening) (k : ℕ) : Type 0 where
  pub unit : UnitView
  pub is : unit_of k run ≡ Some unit
  pub phase : unit.phase ≡ StartSent
  pub latest : unit.latest ≤ now
  pub below : k < units_in p
  pub untold : account_of k (told run) ≡ []

pub start_in : (mm left : Bool) (ph : Phase) (ss : List ExecuteStatus) (t q : List News)
    → HasAccountAt mm left ph ss t (started ∷ q) → (ph ≡ StartSent) × (t ≡ []) × (q ≡ [])
start_in false left StartSent ss t q (none, (told, waits)) = (refl, told, cc)
start_in false left Starting ss t q (told, waits) = cc
start_in false left Running ss t q (told, waits) = cc
start_in false left Grace ss t q (told, waits) = cc
start_in false left KillWait ss t q (told, waits) = cc
start_in false left Leak ss t q (told, waits) = cc
start_in false left EnvWait ss t q (told, waits) = cc
start_in false left Deciding ss t q (early, (s, (e, (told, waits)))) = cc
start_in false left Delay ss t q (early, (s, (e, inl (told, waits)))) = cc
start_in false left Delay ss t q (early, (s, (e, inr (told, waits)))) = cc
start_in false left RetrySent ss t q (early, (s, (e, inl (told, waits)))) = cc
start_in false left RetrySent ss t q (early, (s, (e, inr (told, waits)))) = cc
start_in false true Over ss t q (early, (s, (e, (told, waits)))) = cc
start_in false false Over [] t q (told, waits) = cc
start_in false false Over (x ∷ ss) t q (early, (s, (e, inl (told, waits)))) = cc
start_in false false Over (x ∷ ss) t q (early, (s, (e, inr (told, waits)))) = cc
start_in true left Over [] t q (inl (told, waits)) = cc
start_in true left Over [] t q (inr (told, waits)) = cc
start_in true left Over (s ∷ ss) t q h = absurd h
start_in true left ph ss t q h = absurd h

start_of_unit : (mm left : Bool) (k : ℕ) (m : Message) (v : Option UnitView) (t : List News) (rest : List Message)
    → pending_in k m ≡ Some started → HasAccount mm left v t (pending_of k (m ∷ rest))
    → (u : UnitView) × (v ≡ Some u) × (u.phase ≡ StartSent) × (t ≡ [])
start_of_unit mm left k m None t rest starts h = let never = (rw starts at h).1 in cc
start_of_unit mm left k m (Some u) t rest starts h =
    let found = start_in mm left u.phase u.statuses t (pending_of k rest) (rw starts at h) in
    (u, refl, found.0, found.1)

-- what a start, and a finish, tell of their own unit
pub start_own : (start : TestStart) → pending_in start.test.unit (Start start) ≡ Some started
start_own start = rw (same_number start.test.unit) refl

pub script_own : (start : ScriptStart) → pending_in start.script.unit (ScriptStarts start) ≡ Some started
script_own start = rw (same_number start.script.unit) refl

pub start_waits : (p : Settings) (now : ℕ) (run : List Happening) (k : ℕ) (m : Message) (rest : List Message)
    → Holds p now run → queue run ≡ m ∷ rest → pending_in k m ≡ Some started → Waits p now run k
start_waits p now run k m rest h eq starts =
    let found = start_of_unit (is_mismatched p k) (was_left k run) k m (unit_of k run)
    (account_of k (told run)) rest starts (rw eq at (h.accounts k)) in
    let named = h.named k found.0 found.1 in
    record { unit = found.0; is = found.1; phase = found.2; latest = named.2; below = named.1; untold = found.3 }

-- a test whose retry message is the oldest matches, waits for that, and runs
pub record WaitsAgain (p : Settings) (now : ℕ) (run : List Happening) (k : ℕ) : Type 0 where
  pub unit : UnitView
  pub is : unit_of k run ≡ Some unit
  pub phase : unit.phase ≡ RetrySent
  pub latest : unit.latest ≤ now
  pub below : k < units_in p
  pub matched : is_mismatched p k ≡ false
  pub runs : is_running (told run) k ≡ true

-- it was told started, and then no finish
abbrev IsBegun : List News → Type 0
IsBegun t = (ns : List News) × ((t ≡ started ∷ ns) × (list_any is_finish ns ≡ false))

retry_in : (mm left : Bool) (ph : Phase) (ss : List ExecuteStatus) (n : ℕ) (t q : List News)
    → HasAccountAt mm left ph ss t (retried n ∷ q) → (ph ≡ RetrySent) × (mm ≡ false) × IsBegun t
retry_in false left RetrySent ss n t q (early, (s, (e, inl (told, waits)))) = cc
retry_in false left RetrySent ss n t q (early, (s, (e, inr (told, waits)))) =
    (refl, refl, (tried early ++ failed s ∷ [], (told, failing-unfinished early s)))
retry_in false left StartSent ss n t q (none, (told, waits)) = cc
retry_in false left Starting ss n t q (told, waits) = cc
retry_in false left Running ss n t q (told, waits) = cc
retry_in false left Grace ss n t q (told, waits) = cc
retry_in false left KillWait ss n t q (told, waits) = cc
retry_in false left Leak ss n t q (told, waits) = cc
retry_in false left EnvWait ss n t q (told, waits) = cc
retry_in false left Deciding ss n t q (early, (s, (e, (told, waits)))) = cc
retry_in false left Delay ss n t q (early, (s, (e, inl (told, waits)))) = cc
retry_in false left Delay ss n t q (early, (s, (e, inr (told, waits)))) = cc
retry_in false true Over ss n t q (early, (s, (e, (told, waits)))) = cc
retry_in false false Over [] n t q (told, waits) = cc
retry_in false false Over (x ∷ ss) n t q (early, (s, (e, inl (told, waits)))) = cc
retry_in false false Over (x ∷ ss) n t q (early, (s, (e, inr (told, waits)))) = cc
retry_in true left Over [] n t q (inl (told, waits)) = cc
retry_in true left Over [] n t q (inr (told, waits)) = cc
retry_in true left Over (s ∷ ss) n t q h = absurd h
retry_in true left ph ss n t q h = absurd h

retry_of_unit : (mm left : Bool) (retry : TestRetry) (v : Option UnitView) (t : List News) (rest : List Message)
    → HasAccount mm left v t (pending_of retry.start.test.unit (Retry retry ∷ rest))
    → (u : UnitView) × (v ≡ Some u) × ((u.phase ≡ RetrySent) × (mm ≡ false) × IsBegun t)
retry_of_unit mm left retry None t rest h = let never = (rw (same_number retry.start.test.unit) at h).1 in cc
retry_of_unit mm left retry (Some u) t rest h = (
  u,
  refl,
  retry_in mm left u.phase u.statuses retry.attempt t (pending_of retry.start.test.unit rest)
      (rw (same_number retry.start.test.unit) at h),
)

pub retry_waits : (p : Settings) (now : ℕ) (run : List Happening) (retry : TestRetry)
    (rest : List Message)
    → Holds p now run → queue run ≡ Retry retry ∷ rest → WaitsAgain p now run retry.start.test.unit
retry_waits p now run retry rest h eq =
    let k : ℕ = retry.start.test.unit in
    let found = retry_of_unit (is_mismatched p k) (was_left k run) retry (unit_of k run)
    (account_of k (told run)) rest (rw eq at (h.accounts k)) in
    let named = h.named k found.0 found.1 in
    record {
      unit = found.0;
      is = found.1;
      phase = found.2.0;
      latest = named.2;
      below = named.1;
      matched = found.2.1;
      runs = runs-account k (told run) found.2.2.0 found.2.2.1.0 found.2.2.1.1;
    }

-- a test whose finish message is the oldest was told started, and no finish
pub record Finishes (p : Settings) (run : List Happening) (k : ℕ) (statuses : List ExecuteStatus) : Type 0 where
  pub below : k < units_in p
  pub runs : is_running (told run) k ≡ true
  pub attempted : 0 < length statuses

finish_in : (mm left : Bool) (ph : Phase) (ss fs : List ExecuteStatus) (t q : List News)
    → HasAccountAt mm left ph ss t (finished fs ∷ q)
    → (early : List ExecuteStatus) × ((t ≡ started ∷ tried early) × (0 < length fs))
finish_in false left StartSent ss fs t q (none, (told, waits)) = cc
finish_in false left Starting ss fs t q (told, waits) = cc
finish_in false left Running ss fs t q (told, waits) = cc
finish_in false left Grace ss fs t q (told, waits) = cc
finish_in false left KillWait ss fs t q (told, waits) = cc
finish_in false left Leak ss fs t q (told, waits) = cc
finish_in false left EnvWait ss fs t q (told, waits) = cc
finish_in false left Deciding ss fs t q (early, (s, (e, (told, waits)))) = cc
finish_in false left Delay ss fs t q (early, (s, (e, inl (told, waits)))) = cc
finish_in false left Delay ss fs t q (early, (s, (e, inr (told, waits)))) = cc
finish_in false left RetrySent ss fs t q (early, (s, (e, inl (told, waits)))) = cc
finish_in false left RetrySent ss fs t q (early, (s, (e, inr (told, waits)))) = cc
finish_in false true Over ss fs t q (early, (s, (e, (told, waits)))) = cc
finish_in false false Over [] fs t q (told, waits) = cc
finish_in false false Over (x ∷ ss) fs t q (early, (s, (e, inl (told, waits)))) =
    let same : finished fs ∷ q ≡ finished (x ∷ ss) ∷ [] = waits in
    let all : fs ≡ x ∷ ss = cc in
    (early, (told, subst (λ fs. 0 < length fs) (sym all) (omega arith)))
finish_in false false Over (x ∷ ss) fs t q (early, (s, (e, inr (told, waits)))) = cc
finish_in true left Over [] fs t q (inl (told, waits)) = cc
finish_in true left Over [] fs t q (inr (told, waits)) = cc
finish_in true left Over (s ∷ ss) fs t q h = absurd h
finish_in true left ph ss fs t q h = absurd h

finish_of_unit : (mm left : Bool) (k : ℕ) (m : Message) (fs : List ExecuteStatus) (v : Option UnitView) (t : List News)
    (rest : List Message) → pending_in k m ≡ Some (finished fs) → HasAccount mm left v t (pending_of k (m ∷ rest))
    → (u : UnitView) × (v ≡ Some u)
    × ((early : List ExecuteStatus) × ((t ≡ started ∷ tried early) × (0 < length fs)))
finish_of_unit mm left k m fs None t rest ends h = let never = (rw ends at h).1 in cc
finish_of_unit mm left k m fs (Some u) t rest ends h =
    (u, refl, finish_in mm left u.phase u.statuses fs t (pending_of k rest) (rw ends at h))

pub finish_own : (finish : TestFinish) → pending_in finish.test.unit (Finish finish) ≡ Some (finished finish.statuses)
finish_own finish = rw (same_number finish.test.unit) refl

pub script_finish_own : (finish : ScriptFinish)
    → pending_in finish.script.unit (ScriptFinishes finish) ≡ Some (finished (attempt_of finish.status ∷ []))
script_finish_own finish = rw (same_number finish.script.unit) refl

pub finish_follows : (p : Settings) (now : ℕ) (run : List Happening) (k : ℕ) (m : Message)
    (fs : List ExecuteStatus) (rest : List Message)
    → Holds p now run → queue run ≡ m ∷ rest → pending_in k m ≡ Some (finished fs) → Finishes p run k fs
finish_follows p now run k m fs rest h eq ends =
    let found = finish_of_unit (is_mismatched p k) (was_left k run) k m fs (unit_of k run)
    (account_of k (told run)) rest ends (rw eq at (h.accounts k)) in
    let named = h.named k found.0 found.1 in
    record {
      below = named.1;
      runs = runs-account k (told run) (tried found.2.0) found.2.1.0 (tried-unfinished found.2.0);
      attempted = found.2.1.1;
    }

-- the statistics have the reason that is given
pub stats-reason : (p : Settings) (why : Option CancelReason) (n : ℕ) (fs : List FinishedUnit)
    → (stats_after p why n fs).cancel_reason ≡ why
unfolding total_by
stats-reason p why n fs = refl

-- a unit is let go where no cause stands
pub may_go-is : (p : Settings) (run : List Happening) → may_go (tally p run) ≡ is_none (reason run)
may_go-is p run = ap is_none (stats-reason p (reason run) (skipped run) (finishes_told run))

-- the oldest message is one of its kind
pub oldest_kind : (p : Settings) (now : ℕ) (run : List Happening) (m : Message) (rest : List Message)
    → Holds p now run → queue run ≡ m ∷ rest → IsOfKind p m
oldest_kind p now run m rest h eq =
    All-head (IsOfKind p) m rest (All-same (IsOfKind p) (m ∷ rest) (queue run) (sym eq)
    (All-drop (IsOfKind p) (delivered run) (sent run) h.kinds))

-- so the number of a script is below those of the tests
pub script_below : (p : Settings) (k : ℕ) → is_script p k ≡ true → k < scripts_in p
script_below p k is = grind (arith, nat_tests)

pub test_above : (p : Settings) (k : ℕ) → is_script p k ≡ false → scripts_in p ≤ k
test_above p k is = grind (arith, nat_tests)
