-- What a row sends of the start of a test and its retries.
use Rattle.std.specs.Prelude.{⊤}
use Rattle.std.proofs.Common.{◌≡◌, ◌⊎◌, inl, inr, ℕ, ◌+◌, ◌<◌, ◌==◌, List, [], ◌∷◌, ◌++◌, map, Bool, true, false}
use Rattle.std.proofs.Common.{if◌then◌else◌, Option, Some, None, option_map, option_to_list, filter_map, refl, ap, sym}
use Rattle.std.proofs.Common.{subst, ◌∙◌, arith, append-nil}
use Rattle.std.specs.List.{cons_option, range_with_len}
use Rattle.std.proofs.lemmas.List.FromFn.{map-range_with_len_more}
use Rattle.run_commands.specs.TargetRunner.{runner_for}
use Rattle.run_events.specs.declared.message.Message.{Message}
use Rattle.run_events.specs.declared.message.Message.TheVariants.{Start, Retry}
use Rattle.run_events.specs.declared.message.TestRetry.{TestRetry}
use Rattle.run_events.specs.declared.message.TestStart.{TestStart}
use Rattle.run_events.specs.declared.plan.PlanTest.{PlanTest}
use Rattle.run_events.specs.declared.plan.TestSlotAssignment.{TestSlotAssignment}
use Rattle.run_events.specs.declared.result.ExecuteStatus.{ExecuteStatus}
use Rattle.run_events.specs.declared.settings.Settings.{Settings}
use Rattle.run_model.specs.declared.phase.Phase.{Phase}
use Rattle.run_model.specs.declared.phase.Phase.TheVariants.{StartSent, Starting, Running, Grace, KillWait, Leak}
use Rattle.run_model.specs.declared.phase.Phase.TheVariants.{EnvWait, Deciding, Delay, RetrySent, Over}
use Rattle.run_model.specs.declared.unit_turn.UnitTurn.{UnitTurn}
use Rattle.run_model.specs.declared.unit_view.TestRole.{TestRole}
use Rattle.run_model.specs.declared.unit_view.UnitRole.{UnitRole}
use Rattle.run_model.specs.declared.unit_view.UnitRole.TheVariants as roles
use Rattle.run_model.specs.declared.unit_view.UnitView.{UnitView}
use Rattle.run_model.specs.Admission.{runner_words, start_message}
use Rattle.run_model.specs.Environment.{attempts, number_of, test_start}
use Rattle.run_model.specs.Ending.{last_status}
use Rattle.run_model.specs.Row.{Row}
use Rattle.run_model.specs.Retries.{failure_message, finish_message, next_delay, retry_message, script_finish}
use Rattle.run_model.specs.Unit.{row_at, slow_message, slow_report, takes_at}
use Rattle.run_laws.proofs.units.AccountRows.{same_number}
use Rattle.run_laws.proofs.units.OpenRows.{is_open, Moves}
use Rattle.run_laws.proofs.units.Rows.{StaysOrGoes, Takes, answers, opens, decides, passes, again}
use Rattle.run_laws.proofs.units.Rows.{decide_cases, row_moves, row_passes, row_takes}
use Rattle.run_laws_events.specs.Names.{test_named, test_of_unit}
use Rattle.run_laws_events.specs.Retries.{retry_as}
use Rattle.run_laws_events.specs.Slots.{slots_in_role}
use Rattle.run_laws_events.proofs.PlanUnits.{IsUnitAs}
use Rattle.run_laws_events.proofs.RowMessages.{SaysSlow, open_says}
use Rattle.run_events.specs.declared.stress.StressIndex.{StressIndex}
use Rattle.run_model.specs.Admission.{index_of_role}

-- the start or the retry of test k that a message is, if it is one
abbrev pub go_in : ℕ → Message → Option Message
go_in k (Start start) = if start.test.unit == k then Some (Start start) else None
go_in k (Retry retry) = if retry.start.test.unit == k then Some (Retry retry) else None
go_in k _ = None

abbrev pub gos_in : ℕ → List Message → List Message
gos_in k messages = filter_map (go_in k) messages

-- the start of a test of the plan in these slots, and then its retries
abbrev pub start_as : Settings → Option StressIndex → ℕ → PlanTest → TestSlotAssignment → TestStart
start_as p index k test slot = record {
  test = test_named index k test;
  command = runner_words (runner_for p.plan.runners test.platform) ++ test.command;
  slot = slot;
}

abbrev pub go_as : Settings → Option StressIndex → ℕ → PlanTest → TestSlotAssignment → ℕ → Message
go_as p index k test slot n = if n == 1 then Start (start_as p index k test slot) else Retry
    (retry_as p index k test slot n)

abbrev pub gos_as : Settings → Option StressIndex → ℕ → Option PlanTest → Option TestSlotAssignment → ℕ → List Message
gos_as p index k (Some test) (Some slot) n = map (go_as p index k test slot) (range_with_len 1 n)
gos_as p index k _ _ n = []

-- which sub-run of a stress run a unit is of, and its slots
abbrev pub unit_index : Option UnitView → Option StressIndex
unit_index None = None
unit_index (Some u) = index_of_role u.role

abbrev pub unit_slots : Option UnitView → Option TestSlotAssignment
unit_slots None = None
unit_slots (Some u) = slots_in_role u.role

-- how many of them a unit has sent, by its phase and its attempt: not known of one that is over
abbrev pub SentGos : Phase → ℕ → ℕ → Type 0
SentGos RetrySent attempt n = n ≡ attempt + 1
SentGos Over attempt n = ⊤
SentGos _ attempt n = n ≡ attempt

abbrev pub HasSentGos : Option UnitView → ℕ → Type 0
HasSentGos None n = n ≡ 0
HasSentGos (Some u) n = SentGos u.phase u.attempt n

-- those of unit k in a sub-run
pub record HasGos (p : Settings) (k : ℕ) (v : Option UnitView) (messages : List Message) : Type 0 where
  pub count : ℕ
  pub fits : HasSentGos v count
  pub sent : gos_in k messages ≡ gos_as p (unit_index v) k (test_of_unit p k) (unit_slots v) count

-- a message that is none of them, if there is one
abbrev pub IsNoGo : Option Message → Type 0
IsNoGo o = (k : ℕ) → gos_in k (option_to_list o) ≡ []

slow_none : (n : ℕ) (u : UnitView) → IsNoGo (slow_message n u)
slow_none n u k = by_grace (u.terms.slow.grace == 0) u.role
  where
    by_grace : (b : Bool) (role : UnitRole)
        → gos_in k (option_to_list (if b then None else Some (slow_report n role u))) ≡ []
    by_grace true role = refl
    by_grace false (roles.Test t) = refl
    by_grace false (roles.Script s) = refl

failure_none : (delay : ℕ) (role : UnitRole) (o : Option ExecuteStatus) → IsNoGo (failure_message role delay o)
failure_none delay (roles.Test t) None k = refl
failure_none delay (roles.Test t) (Some status) k = refl
failure_none delay (roles.Script s) o k = refl

finish_none : (role : UnitRole) (u : UnitView) → IsNoGo (finish_message role u)
finish_none (roles.Test t) u k = refl
finish_none (roles.Script s) u k = by_last (last_status u.statuses)
  where
    by_last : (o : Option ExecuteStatus) → gos_in k (option_to_list (option_map (script_finish s u) o)) ≡ []
    by_last None = refl
    by_last (Some status) = refl

-- a row sends none, or the next retry
abbrev pub SendsGo : UnitView → ℕ → Row → Type 0
SendsGo u n r =
    (SentGos r.next.phase r.next.attempt n × IsNoGo r.sent)
    ⊎ ((n ≡ u.attempt) × (SentGos r.next.phase r.next.attempt (n + 1)) × (r.sent ≡ retry_message u.role u))

open_count : (ph : Phase) (attempt n : ℕ) → is_open ph ≡ true → SentGos ph attempt n → n ≡ attempt
open_count Starting attempt n on h = h
open_count Running attempt n on h = h
open_count Grace attempt n on h = h
open_count KillWait attempt n on h = h
open_count Leak attempt n on h = h
open_count EnvWait attempt n on h = h
open_count ph attempt n on h = cc

open_sent : (ph : Phase) (attempt n : ℕ) → is_open ph ≡ true → n ≡ attempt → SentGos ph attempt n
open_sent Starting attempt n on h = h
open_sent Running attempt n on h = h
open_sent Grace attempt n on h = h
open_sent KillWait attempt n on h = h
open_sent Leak attempt n on h = h
open_sent EnvWait attempt n on h = h
open_sent ph attempt n on h = cc

moves_count : (u : UnitView) (n : ℕ) (r : Row) → n ≡ u.attempt → Moves u r → SentGos r.next.phase r.next.attempt n
moves_count u n r at (inl on) = open_sent r.next.phase r.next.attempt n on.phase (at ∙ sym on.attempt)
moves_count u n r at (inr ends) = subst (λ ph. SentGos ph r.next.attempt n) (sym ends.phase) (at ∙ sym ends.attempt)

slow_no_go : (u : UnitView) (r : Row) → SaysSlow u r → IsNoGo r.sent
slow_no_go u r (inl none) = subst IsNoGo (sym none) (λ k. refl)
slow_no_go u r (inr (n, slow)) = subst IsNoGo (sym slow) (slow_none n u)

pub row_gos : (now : ℕ) (ph : Phase) (turn : UnitTurn) (u : UnitView) (n : ℕ) → u.phase ≡ ph
    → takes_at now ph u turn ≡ true
    → SentGos ph u.attempt n → SendsGo u n (row_at now ph turn u)
row_gos now ph turn u n is en sent_so = by_take (row_takes now ph turn u en)
  where
    by_way : (r : Row) → n ≡ u.attempt → r.next.attempt ≡ u.attempt → StaysOrGoes u r → SendsGo u n r
    by_way r at same (inl stays) = inl (
      subst (λ ph. SentGos ph r.next.attempt n) (sym stays.0) (at ∙ sym same),
      subst IsNoGo (sym stays.1) (λ k. refl),
    )
    by_way r at same (inr goes) = inr (
      at,
      subst (λ ph. SentGos ph r.next.attempt (n + 1)) (sym goes.0) (ap (λ n. n + 1) (at ∙ sym same)),
      goes.1,
    )

    in_phase : (other : Phase) → ph ≡ other → SentGos other u.attempt n
    in_phase other at = subst (λ ph. SentGos ph u.attempt n) at sent_so

    by_take : Takes ph turn → SendsGo u n (row_at now ph turn u)
    by_take (answers true at to) = rw (at, to) (inl (in_phase StartSent at, λ k. refl))
    by_take (answers false at to) = rw (at, to) (inl (tt, λ k. refl))
    by_take (opens on) = inl (
      moves_count u n (row_at now ph turn u) (open_count ph u.attempt n on sent_so) (row_moves now ph turn u is on),
      slow_no_go u (row_at now ph turn u) (open_says now ph turn u on),
    )
    by_take (decides word at to) = rw (at, to) (decide_cases (λ r. SendsGo u n r) now word u
        (λ _. inl (in_phase Deciding at, failure_none (next_delay word u) u.role (last_status u.statuses)))
        (λ _. inl (tt, finish_none u.role u)))
    by_take (passes at to) = rw at (by_way (row_at now Delay turn u) (in_phase Delay at)
        (row_passes now turn u (is ∙ at)).attempt (row_passes now turn u (is ∙ at)).way)
    by_take (again true at to) = rw (at, to) (inl (in_phase RetrySent at, λ k. refl))
    by_take (again false at to) = rw (at, to) (inl (tt, λ k. refl))

-- the retry of a unit of the plan is the one after those that it has sent
pub gos-none : (p : Settings) (index : Option StressIndex) (k n : ℕ) (o : Option PlanTest)
    → gos_as p index k o None n ≡ []
gos-none p index k n None = refl
gos-none p index k n (Some test) = refl

pub gos-zero : (p : Settings) (index : Option StressIndex) (k : ℕ) (o : Option PlanTest)
    (s : Option TestSlotAssignment) → gos_as p index k o s 0 ≡ []
gos-zero p index k None s = refl
gos-zero p index k (Some test) None = refl
gos-zero p index k (Some test) (Some slot) = refl

-- the retry that a test's unit sends
abbrev retry_of : TestRole → UnitView → TestRetry
retry_of t u = record { start = test_start t u; attempt = u.attempt + 1; attempts = attempts u }

none_of : (p : Settings) (index : Option StressIndex) (k n : ℕ) (before : List Message) → before ≡ []
    → before ++ [] ≡ gos_as p index k (test_of_unit p k) None n
none_of p index k n before is = append-nil before ∙ is ∙ sym (gos-none p index k n (test_of_unit p k))

pub retry_more : (p : Settings) (k n : ℕ) (role : UnitRole) (u : UnitView) (before : List Message)
    → IsUnitAs p role u.command u.terms → number_of role ≡ k → 0 < n → n ≡ u.attempt
    → before ≡ gos_as p (index_of_role role) k (test_of_unit p k) (slots_in_role role) n
    → before ++ gos_in k (option_to_list (retry_message role u))
    ≡ gos_as p (index_of_role role) k (test_of_unit p k) (slots_in_role role) (n + 1)
retry_more p k n (roles.Script s) u before it here some at was =
    none_of p (index_of_role (roles.Script s)) k (n + 1) before
    (was ∙ gos-none p (index_of_role (roles.Script s)) k n (test_of_unit p k))
retry_more p k n (roles.Test t) u before it here some at was =
    ap (λ o. before ++ filter_map (go_in k) (option_to_list (Some (Retry o)))) made
    ∙ ap (λ b. before ++ cons_option (if b then Some (Retry retry) else None) []) (same_number k)
    ∙ ap (λ ms. ms ++ Retry retry ∷ []) (was ∙ ap (λ o. gos_as p t.test.stress_index k o (Some t.slot) n) planned)
    ∙ sym (map-range_with_len_more (go_as p t.test.stress_index k it.test t.slot) 1 n (1 + n) refl
    ∙ ap (λ m. map (go_as p t.test.stress_index k it.test t.slot) (range_with_len 1 n) ++ m ∷ []) next)
    ∙ sym (ap (λ o. gos_as p t.test.stress_index k o (Some t.slot) (n + 1)) planned)
  where
    retry : TestRetry
    retry = retry_as p t.test.stress_index k it.test t.slot (n + 1)

    planned : test_of_unit p k ≡ Some it.test
    planned = ap (test_of_unit p) (sym here) ∙ it.planned

    next : go_as p t.test.stress_index k it.test t.slot (1 + n) ≡ Retry retry
    next =
        let later : (1 + n == 1) ≡ false = grind arith in
        let same : 1 + n ≡ n + 1 = omega arith in
        ap (λ b. if b then Start (start_as p t.test.stress_index k it.test t.slot) else Retry
        (retry_as p t.test.stress_index k it.test t.slot (1 + n))) later
        ∙ ap (λ n. Retry (retry_as p t.test.stress_index k it.test t.slot n)) same

    named : t.test ≡ test_named t.test.stress_index k it.test
    named = it.name ∙ ap (λ k. test_named t.test.stress_index k it.test) here

    made : retry_of t u ≡ retry
    made = rw (named, it.command, it.attempts, sym at) refl

-- a message of another unit is none of its
pub apart_none : (k : ℕ) (role : UnitRole) (u : UnitView) → (number_of role == k) ≡ false
    → gos_in k (option_to_list (retry_message role u)) ≡ []
apart_none k (roles.Test t) u apart = rw apart refl
apart_none k (roles.Script s) u apart = refl

pub apart_start : (k : ℕ) (role : UnitRole) (u : UnitView) → (number_of role == k) ≡ false
    → gos_in k (start_message role u ∷ []) ≡ []
apart_start k (roles.Test t) u apart = rw apart refl
apart_start k (roles.Script s) u apart = refl

-- the start of a unit of the plan is the first
pub start_first : (p : Settings) (k : ℕ) (role : UnitRole) (u : UnitView) → IsUnitAs p role u.command u.terms
    → number_of role ≡ k
    → gos_in k (start_message role u ∷ []) ≡ gos_as p (index_of_role role) k (test_of_unit p k) (slots_in_role role) 1
start_first p k (roles.Script s) u it here = sym (gos-none p (index_of_role (roles.Script s)) k 1 (test_of_unit p k))
start_first p k (roles.Test t) u it here =
    ap (λ b. cons_option (if b then Some (Start (test_start t u)) else None) []) (ap (λ j. j == k) here ∙ same_number k)
    ∙ ap (λ start. Start start ∷ []) made
    ∙ sym (ap (λ o. gos_as p t.test.stress_index k o (Some t.slot) 1) (ap (test_of_unit p) (sym here) ∙ it.planned))
  where
    named : t.test ≡ test_named t.test.stress_index k it.test
    named = it.name ∙ ap (λ k. test_named t.test.stress_index k it.test) here

    made : test_start t u ≡ start_as p t.test.stress_index k it.test t.slot
    made = rw (named, it.command) refl
