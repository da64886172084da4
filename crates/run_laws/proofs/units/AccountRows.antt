-- How the account of a unit stands, and what each row of its own does to it.
use Rattle.std.proofs.Common.{◌≡◌, ◌⊎◌, ℕ, ◌+◌, ◌==◌, List, [], ◌∷◌, ◌++◌, length, length-append, Bool, true, false}
use Rattle.std.proofs.Common.{Option, Some, None, option_to_list, option_map, inl, inr, refl, ap, sym, subst, ◌∙◌}
use Rattle.std.proofs.Common.{arith}
use Rattle.std.proofs.lemmas.List.Elements.{filter_map-append}
use Rattle.std.proofs.lemmas.List.{append-nil}
use Rattle.run_events.specs.declared.message.Message.{Message}
use Rattle.run_events.specs.declared.message.Message.TheVariants.{ScriptSlow, Slow}
use Rattle.run_events.specs.declared.result.ExecuteStatus.{ExecuteStatus}
use Rattle.run_model.specs.declared.phase.Phase.{Phase}
use Rattle.run_model.specs.declared.phase.Phase.TheVariants.{StartSent, Starting, Running, Grace, KillWait, Leak}
use Rattle.run_model.specs.declared.phase.Phase.TheVariants.{EnvWait, Deciding, Delay, RetrySent, Over}
use Rattle.run_model.specs.declared.unit_turn.UnitTurn.{UnitTurn}
use Rattle.run_model.specs.declared.unit_view.ScriptRole.{ScriptRole}
use Rattle.run_model.specs.declared.unit_view.UnitRole.{UnitRole}
use Rattle.run_model.specs.declared.unit_view.UnitRole.TheVariants as roles
use Rattle.run_model.specs.declared.unit_view.UnitView.{UnitView}
use Rattle.run_model.specs.Environment.{number_of, number}
use Rattle.run_model.specs.Ending.{last_status}
use Rattle.run_model.specs.Row.{Row}
use Rattle.run_model.specs.Retries.{finish_message, failed_message, retry_message, next_delay, decide_row, has_retry}
use Rattle.run_model.specs.Retries.{failure_message, script_status, script_finish, test_finish, test_retry}
use Rattle.run_model.specs.Unit.{row_at, takes_at}
use Rattle.run_laws.proofs.board.ByTurn.{is_answer}
use Rattle.run_model.specs.Accounts.{News, started, failed, retried, finished, skipped, tried, tried_from}
use Rattle.run_model.specs.Accounts.{HasAccountAt, IsDone, IsFailing, IsRetrying, IsFinishing, attempt_of, pending_in}
use Rattle.run_model.specs.Accounts.{pending_of}
use Rattle.run_laws.proofs.units.OpenRows.{is_open, IsReport, Moves}
use Rattle.run_laws.proofs.units.Rows.{continues, row_moves, Takes, answers, opens, decides, passes, again, row_takes}
use Rattle.run_laws.proofs.units.Rows.{StaysOrGoes, Passes, row_passes, decide_cases}

-- what is told of attempts after one more, and the last status of some
tried_from-append : (n : ℕ) (early : List ExecuteStatus) (s : ExecuteStatus)
    → tried_from n (early ++ s ∷ []) ≡ tried_from n early ++ failed s ∷ retried (n + length early + 1) ∷ []
tried_from-append n [] s =
    let same : n + 1 ≡ n + 0 + 1 = omega arith in ap (λ m. failed s ∷ retried m ∷ []) same
tried_from-append n (x ∷ early) s =
    let same : n + 1 + length early + 1 ≡ n + length (x ∷ early) + 1 = omega arith in
    ap (λ ns. failed x ∷ retried (n + 1) ∷ ns) (tried_from-append (n + 1) early s
    ∙ ap (λ m. tried_from (n + 1) early ++ failed s ∷ retried m ∷ []) same)

pub tried-append : (early : List ExecuteStatus) (s : ExecuteStatus)
    → tried (early ++ s ∷ []) ≡ tried early ++ failed s ∷ retried (length early + 2) ∷ []
tried-append early s =
    let same : 1 + length early + 1 ≡ length early + 2 = omega arith in
    tried_from-append 1 early s ∙ ap (λ m. tried early ++ failed s ∷ retried m ∷ []) same

pub last-append : (early : List ExecuteStatus) (s : ExecuteStatus) → last_status (early ++ s ∷ []) ≡ Some s
last-append [] s = refl
last-append (x ∷ []) s = refl
last-append (x ∷ y ∷ early) s = last-append (y ∷ early) s

-- some attempts the last of which is told finished, or waits for that
pub done_by : (ss early : List ExecuteStatus) (s : ExecuteStatus) (t q : List News) → ss ≡ early ++ s ∷ []
    → IsFinishing ss t q early s → IsDone false ss t q
done_by [] [] s t q e h = cc
done_by [] (x ∷ early) s t q e h = cc
done_by (x ∷ ss) early s t q e h = (early, (s, (e, h)))

-- how the account of a test stands, by what waits of it first: nothing, its start, the failure of its last attempt, its
-- retry, its finish, or its skip
pub data Stands (mm left : Bool) (ph : Phase) (ss : List ExecuteStatus) (t q : List News) : Type 0 where
  idle : q ≡ [] → Stands mm left ph ss t q
  starts : mm ≡ false → ph ≡ StartSent → ss ≡ [] → t ≡ [] → q ≡ started ∷ [] → Stands mm left ph ss t q
  fails : mm ≡ false → (early : List ExecuteStatus) → (s : ExecuteStatus) → ss ≡ early ++ s ∷ []
      → t ≡ started ∷ tried early
      → ((ph ≡ Delay) × (q ≡ failed s ∷ [])) ⊎ ((ph ≡ RetrySent) × (q ≡ failed s ∷ retried (length early + 2) ∷ []))
      → Stands mm left ph ss t q
  retries : mm ≡ false → ph ≡ RetrySent → (early : List ExecuteStatus) → (s : ExecuteStatus) → ss ≡ early ++ s ∷ []
      → t ≡ started ∷ tried early ++ failed s ∷ [] → q ≡ retried (length early + 2) ∷ [] → Stands mm left ph ss t q
  finishes : mm ≡ false → ph ≡ Over → left ≡ false → (early : List ExecuteStatus) → (s : ExecuteStatus)
      → ss ≡ early ++ s ∷ [] → t ≡ started ∷ tried early → q ≡ finished ss ∷ [] → Stands mm left ph ss t q
  skips : mm ≡ true → ph ≡ Over → ss ≡ [] → t ≡ [] → q ≡ skipped ∷ [] → Stands mm left ph ss t q

pub stands : (mm left : Bool) (ph : Phase) (ss : List ExecuteStatus) (t q : List News) → HasAccountAt mm left ph ss t q
    → Stands mm left ph ss t q
stands true left Over [] t q (inl h) = skips refl refl refl h.0 h.1
stands true left Over [] t q (inr h) = idle h.1
stands true left Over (s ∷ ss) t q h = absurd h
stands true left ph ss t q h = absurd h
stands false left StartSent ss t q h = starts refl refl h.0 h.1.0 h.1.1
stands false left Deciding ss t q (early, (s, (e, h))) = idle h.1
stands false left Delay ss t q (early, (s, (e, inl h))) = fails refl early s e h.0 (inl (refl, h.1))
stands false left Delay ss t q (early, (s, (e, inr h))) = idle h.1
stands false left RetrySent ss t q (early, (s, (e, inl h))) = fails refl early s e h.0 (inr (refl, h.1))
stands false left RetrySent ss t q (early, (s, (e, inr h))) = retries refl refl early s e h.0 h.1
stands false true Over ss t q (early, (s, (e, h))) = idle h.1
stands false false Over [] t q h = idle h.1
stands false false Over (x ∷ ss) t q (early, (s, (e, inl h))) = finishes refl refl refl early s e h.0 h.1
stands false false Over (x ∷ ss) t q (early, (s, (e, inr h))) = idle h.1
stands false left ph ss t q h = idle h.1

-- an attempt that goes on was told started, after those before it, and nothing else
open_told : (mm left : Bool) (ph : Phase) (ss : List ExecuteStatus) (t q : List News) → is_open ph ≡ true
    → HasAccountAt mm left ph ss t q → (mm ≡ false) × (t ≡ started ∷ tried ss) × (q ≡ [])
open_told false left Starting ss t q on h = (refl, h.0, h.1)
open_told false left Running ss t q on h = (refl, h.0, h.1)
open_told false left Grace ss t q on h = (refl, h.0, h.1)
open_told false left KillWait ss t q on h = (refl, h.0, h.1)
open_told false left Leak ss t q on h = (refl, h.0, h.1)
open_told false left EnvWait ss t q on h = (refl, h.0, h.1)
open_told false left ph ss t q on h = cc
open_told true left Over ss t q on h = cc
open_told true left ph ss t q on h = absurd h

open_has : (left : Bool) (ph : Phase) (ss : List ExecuteStatus) → is_open ph ≡ true
    → HasAccountAt false left ph ss (started ∷ tried ss) []
open_has left Starting ss on = (refl, refl)
open_has left Running ss on = (refl, refl)
open_has left Grace ss on = (refl, refl)
open_has left KillWait ss on = (refl, refl)
open_has left Leak ss on = (refl, refl)
open_has left EnvWait ss on = (refl, refl)
open_has left ph ss on = cc

-- one more message waits
pub waits_more : (k : ℕ) (q : List Message) (m : Message) (was now : List News) → pending_of k q ≡ was
    → pending_of k (m ∷ []) ≡ now → pending_of k (q ++ m ∷ []) ≡ was ++ now
waits_more k q m was now before one =
    filter_map-append (pending_in k) q (m ∷ []) ∙ ap (λ ns. ns ++ pending_of k (m ∷ [])) before
    ∙ ap (λ ns. was ++ ns) one

-- one of another test tells nothing of this one
pub waits_still : (k : ℕ) (q : List Message) (m : Message) → pending_of k (m ∷ []) ≡ []
    → pending_of k (q ++ m ∷ []) ≡ pending_of k q
waits_still k q m none = waits_more k q m (pending_of k q) [] refl none ∙ append-nil (pending_of k q)

pub same_number : (n : ℕ) → (n == n) ≡ true
same_number n = grind arith

-- a slow report tells nothing of the account
pub report_waits : (k : ℕ) (q : List Message) (m : Option Message) → IsReport m
    → pending_of k (q ++ option_to_list m) ≡ pending_of k q
report_waits k q None h = ap (pending_of k) (append-nil q)
report_waits k q (Some (Slow slow)) h = waits_still k q (Slow slow) refl
report_waits k q (Some (ScriptSlow slow)) h = waits_still k q (ScriptSlow slow) refl
report_waits k q (Some m) h = absurd h

-- the account of a unit after a row of its own
abbrev pub RowAccounts : Bool → Bool → UnitView → List News → List Message → Row → Type 0
RowAccounts mm left u t q r =
    HasAccountAt mm left r.next.phase r.next.statuses t (pending_of (number u) (q ++ option_to_list r.sent))

-- where an attempt goes on, or ends, its account stays
moves_accounted : (mm left : Bool) (u : UnitView) (r : Row) (t : List News) (q : List Message) → is_open u.phase ≡ true
    → Moves u r → HasAccountAt mm left u.phase u.statuses t (pending_of (number u) q) → RowAccounts mm left u t q r
moves_accounted mm left u r t q on moves h =
    let was = open_told mm left u.phase u.statuses t (pending_of (number u) q) on h in
    let waits : pending_of (number u) (q ++ option_to_list r.sent) ≡ [] =
    report_waits (number u) q r.sent (continues u r moves).sent ∙ was.2 in
    rw (was.0, was.1, waits) (by_move moves)
  where
    by_move : Moves u r → HasAccountAt false left r.next.phase r.next.statuses (started ∷ tried u.statuses) []
    by_move (inl goes) = rw goes.statuses (open_has left r.next.phase u.statuses goes.phase)
    by_move (inr ends) = rw (ends.phase, ends.statuses) (u.statuses, (ends.status, (refl, (refl, refl))))

-- a script has one attempt: it isn't tried again, and its status is that of one attempt
pub record IsOneOff (u : UnitView) : Type 0 where
  pub attempt : is_open u.phase ≡ true → u.attempt ≡ 1
  pub never_again : u.phase ≡ Delay → ⊥
  pub never_retried : u.phase ≡ RetrySent → ⊥
  pub done : u.phase ≡ Deciding → has_retry u ≡ false
  pub status : u.phase ≡ Deciding
      → (s : ExecuteStatus) × ((u.statuses ≡ s ∷ []) × (attempt_of (script_status s u.env) ≡ s))

abbrev pub IsTriedOnce : UnitView → Type 0
IsTriedOnce u = (r : ScriptRole) → u.role ≡ roles.Script r → IsOneOff u

-- a unit that decides tells that its last attempt failed, or all its attempts
failure_waits : (delay word : ℕ) (u : UnitView) (s : ExecuteStatus) (q : List Message) → u.phase ≡ Deciding
    → IsTriedOnce u → has_retry u ≡ true → last_status u.statuses ≡ Some s → pending_of (number u) q ≡ []
    → pending_of (number u) (q ++ option_to_list (failure_message u.role delay
    (last_status u.statuses))) ≡ failed s ∷ []
failure_waits delay word u s q at once left last none = by_role u.role refl none
  where
    by_role : (role : UnitRole) → u.role ≡ role → pending_of (number_of role) q ≡ []
        → pending_of (number_of role) (q ++ option_to_list (failure_message role delay (last_status u.statuses)))
        ≡ failed s ∷ []
    by_role (roles.Test t) is none =
        ap (λ o. pending_of t.test.unit (q ++ option_to_list (option_map (failed_message delay t) o))) last
        ∙ waits_more t.test.unit q (failed_message delay t s) [] (failed s ∷ []) none
        (rw (same_number t.test.unit) refl)
    by_role (roles.Script r) is none = let never : false ≡ true = sym ((once r is).done at) ∙ left in cc

finish_waits : (u : UnitView) (q : List Message) → u.phase ≡ Deciding → IsTriedOnce u → pending_of (number u) q ≡ []
    → pending_of (number u) (q ++ option_to_list (finish_message u.role u)) ≡ finished u.statuses ∷ []
finish_waits u q at once none = by_role u.role refl none
  where
    by_role : (role : UnitRole) → u.role ≡ role → pending_of (number_of role) q ≡ []
        → pending_of (number_of role) (q ++ option_to_list (finish_message role u)) ≡ finished u.statuses ∷ []
    by_role (roles.Test t) is none =
        waits_more t.test.unit q (test_finish t u) [] (finished u.statuses ∷ []) none
        (rw (same_number t.test.unit) refl)
    by_role (roles.Script r) is none =
        let it = (once r is).status at in
        ap (λ o. pending_of r.script.unit (q ++ option_to_list
        (option_map (script_finish r u) o))) (ap last_status it.1.0)
        ∙ waits_more r.script.unit q (script_finish r u it.0) [] (finished u.statuses ∷ []) none
        (rw (same_number r.script.unit) (ap (λ ss. finished ss ∷ []) (ap (λ s. s ∷ []) it.1.1 ∙ sym it.1.0)))

decides_accounted : (mm left : Bool) (now word : ℕ) (u : UnitView) (t : List News) (q : List Message) → left ≡ false
    → u.phase ≡ Deciding → IsTriedOnce u
    → HasAccountAt mm left Deciding u.statuses t (pending_of (number u) q)
    → RowAccounts mm left u t q (decide_row now word u)
decides_accounted true left now word u t q unleft at once h = absurd h
decides_accounted false left now word u t q unleft at once (early, (s, (e, h))) =
    decide_cases (RowAccounts false left u t q) now word u
    (λ retry. (
      early,
      (
        s,
        (
          e,
          inl (
            h.0,
            failure_waits (next_delay word u) word u s q at once retry
                (ap last_status e ∙ last-append early s) h.1,
          ),
        ),
      ),
    ))
    (λ _. subst (λ b. IsDone b u.statuses t (pending_of (number u) (q ++ option_to_list (finish_message u.role u))))
    (sym unleft) (done_by u.statuses early s t _ e (inl (h.0, finish_waits u q at once h.1))))

-- after a delay it tells that it is to be tried again
retry_waits : (u : UnitView) (q : List Message) (was : List News) → u.phase ≡ Delay → IsTriedOnce u
    → pending_of (number u) q ≡ was
    → pending_of (number u) (q ++ option_to_list (retry_message u.role u)) ≡ was ++ retried (u.attempt + 1) ∷ []
retry_waits u q was at once waits = by_role u.role refl waits
  where
    by_role : (role : UnitRole) → u.role ≡ role → pending_of (number_of role) q ≡ was
        → pending_of (number_of role) (q ++ option_to_list (retry_message role u)) ≡ was ++ retried (u.attempt + 1) ∷ []
    by_role (roles.Test t) is waits =
        waits_more t.test.unit q (test_retry t u) was (retried (u.attempt + 1) ∷ []) waits
        (rw (same_number t.test.unit) refl)
    by_role (roles.Script r) is waits = absurd ((once r is).never_again at)

passes_accounted : (mm left : Bool) (u : UnitView) (r : Row) (t : List News) (q : List Message) → u.phase ≡ Delay
    → IsTriedOnce u → (mm ≡ false → u.attempt ≡ length u.statuses) → Passes u r
    → HasAccountAt mm left Delay u.statuses t (pending_of (number u) q)
    → RowAccounts mm left u t q r
passes_accounted true left u r t q at once numbered it h = absurd h
passes_accounted false left u r t q at once numbered it (early, (s, (e, h))) = by_way it.way
  where
    next : u.attempt + 1 ≡ length early + 2
    next =
        let long : length u.statuses ≡ length early + 1 = ap length e ∙ length-append early (s ∷ []) in
        let at : u.attempt ≡ length u.statuses = numbered refl in
        omega arith

    by_told : IsFailing t (pending_of (number u) q) early s
        → IsRetrying t (pending_of (number u) (q ++ option_to_list (retry_message u.role u))) early s
    by_told (inl h) =
        inl (h.0, retry_waits u q (failed s ∷ []) at once h.1 ∙ ap (λ n. failed s ∷ retried n ∷ []) next)
    by_told (inr h) = inr (h.0, retry_waits u q [] at once h.1 ∙ ap (λ n. retried n ∷ []) next)

    by_way : StaysOrGoes u r → RowAccounts false left u t q r
    by_way (inl stays) = rw (stays.0, stays.1, it.statuses, append-nil q) (early, (s, (e, h)))
    by_way (inr goes) = rw (goes.0, goes.1, it.statuses) (early, (s, (e, by_told h)))

-- a row other than an answer keeps the account of its unit, which wasn't left, and in a delay is at the number of its
-- last attempt
pub row_accounted : (mm left : Bool) (now : ℕ) (ph : Phase) (turn : UnitTurn) (u : UnitView) (t : List News)
    (q : List Message)
    → u.phase ≡ ph → takes_at now ph u turn ≡ true → is_answer turn ≡ false → left ≡ false → IsTriedOnce u
    → (mm ≡ false → u.phase ≡ Delay → u.attempt ≡ length u.statuses)
    → HasAccountAt mm left u.phase u.statuses t (pending_of (number u) q)
    → RowAccounts mm left u t q (row_at now ph turn u)
row_accounted mm left now ph turn u t q is en other unleft once numbered h = by_take (row_takes now ph turn u en)
  where
    in_phase : (at : Phase) → ph ≡ at → HasAccountAt mm left at u.statuses t (pending_of (number u) q)
    in_phase at e = subst (λ ph. HasAccountAt mm left ph u.statuses t (pending_of (number u) q)) (is ∙ e) h

    by_take : Takes ph turn → RowAccounts mm left u t q (row_at now ph turn u)
    by_take (answers go at to) = let never : false ≡ true = sym other ∙ ap is_answer to in cc
    by_take (opens on) =
        moves_accounted mm left u (row_at now ph turn u) t q (ap is_open is ∙ on) (row_moves now ph turn u is on) h
    by_take (decides word at to) =
        rw (at, to) (decides_accounted mm left now word u t q unleft (is ∙ at) once (in_phase Deciding at))
    by_take (passes at to) =
        rw at (passes_accounted mm left u (row_at now Delay turn u) t q (is ∙ at) once
        (λ matched. numbered matched (is ∙ at)) (row_passes now turn u (is ∙ at)) (in_phase Delay at))
    by_take (again go at to) = let never : false ≡ true = sym other ∙ ap is_answer to in cc
