-- A slow report of a unit that waits finds it running once it is told.
use Rattle.std.proofs.Common.{◌≡◌, ◌⊎◌, inl, inr, ℕ, ◌==◌, List, [], ◌∷◌, ◌++◌, append-nil, Bool, true, false, ◌&&◌}
use Rattle.std.proofs.Common.{◌||◌}
use Rattle.std.proofs.Common.{◌+◌, not, if◌then◌else◌, Option, Some, None, is_some, option_to_list, drop, refl, ap}
use Rattle.std.proofs.Common.{sym, subst, ◌∙◌, arith}
use Rattle.std.specs.Prelude.{⊤}
use Rattle.std.specs.Cmp.{first_so, second_so}
use Rattle.std.specs.List.{cons_option, list_any}
use Rattle.std.proofs.lemmas.List.Folds.{list_any-append}
use Rattle.run_events.specs.declared.message.Message.{Message}
use Rattle.run_events.specs.declared.message.Message.TheVariants.{ScriptSlow, Slow}
use Rattle.run_events.specs.declared.result.ExecuteStatus.{ExecuteStatus}
use Rattle.run_model.specs.declared.phase.Phase.{Phase}
use Rattle.run_model.specs.declared.phase.Phase.TheVariants.{StartSent, Starting, Running, Grace, KillWait, Leak}
use Rattle.run_model.specs.declared.phase.Phase.TheVariants.{EnvWait, Delay, RetrySent}
use Rattle.run_model.specs.declared.unit_turn.UnitTurn.{UnitTurn}
use Rattle.run_model.specs.declared.unit_turn.UnitTurn.TheVariants.{Answered}
use Rattle.run_model.specs.declared.unit_view.UnitRole.{UnitRole}
use Rattle.run_model.specs.declared.unit_view.UnitRole.TheVariants as roles
use Rattle.run_model.specs.declared.unit_view.UnitView.{UnitView}
use Rattle.run_model.specs.Accounts.{News, started, tried_from, HasAccountAt}
use Rattle.run_model.specs.Accounts.{pending_in, pending_of}
use Rattle.run_model.specs.Admission.{start_message}
use Rattle.run_model.specs.Ending.{last_status}
use Rattle.run_model.specs.Environment.{number_of}
use Rattle.run_model.specs.Retries.{next_delay}
use Rattle.run_model.specs.Row.{Row}
use Rattle.run_model.specs.Unit.{row_at, takes_at}
use Rattle.run_laws.specs.Reports.{SlowReport, report_in, reports_waiting}
use Rattle.run_laws.proofs.told.Running.{tried_from-unfinished}
use Rattle.run_laws.proofs.told.Running.{is_finish, is_start}
use Rattle.run_laws.proofs.units.AccountLemmas.{IsFirst}
use Rattle.run_laws.proofs.units.OpenRows.{IsReportOf, Moves, is_open}
use Rattle.run_laws.proofs.units.Rows.{StaysOrGoes, Takes, again, answers, decide_cases, decides, opens, passes}
use Rattle.run_laws.proofs.units.Rows.{row_moves, row_passes, row_takes}
use Rattle.run_laws.proofs.units.SaidLemmas.{failure_silent, finish_silent, retry_silent}
use Rattle.run_laws_events.proofs.Told.{is_told, told_from}
use Rattle.run_laws_display.proofs.CourseLemmas.{runs_by}

-- whether a message would tell that a unit finishes
abbrev pub is_ending : Option News → Bool
is_ending None = false
is_ending (Some n) = is_finish n

-- each slow report of unit k among messages finds it running, where it runs or not before they are told
abbrev pub SlowsFind : ℕ → Bool → List Message → Type 0
SlowsFind k runs [] = ⊤
SlowsFind k runs (m ∷ rest) =
    (is_some (report_in k m) ≡ true → runs ≡ true) × SlowsFind k (runs && not (is_ending (pending_in k m))) rest

-- so they do where it runs
find_more : (k : ℕ) (b : Bool) (q : List Message) → SlowsFind k false q → SlowsFind k b q
find_more k b [] h = tt
find_more k b (m ∷ rest) h =
    (λ slow. let never : false ≡ true = h.0 slow in cc, find_more k (b && not (is_ending (pending_in k m))) rest h.1)

find_if : (k : ℕ) (a b : Bool) (q : List Message) → (a ≡ true → b ≡ true) → SlowsFind k a q → SlowsFind k b q
find_if k false b q le h = find_more k b q h
find_if k true b q le h = subst (λ b. SlowsFind k b q) (sym (le refl)) h

-- one more message
none_waits : (o : Option News) (ns : List News) → cons_option o ns ≡ [] → (o ≡ None) × (ns ≡ [])
none_waits None ns e = (refl, e)
none_waits (Some n) ns e = cc

find_push : (k : ℕ) (b : Bool) (q : List Message) (m : Message) → SlowsFind k b q
    → (is_some (report_in k m) ≡ true → (b ≡ true) × (pending_of k q ≡ [])) → SlowsFind k b (q ++ m ∷ [])
find_push k b [] m h fits = (λ slow. (fits slow).0, tt)
find_push k b (x ∷ q) m h fits = (h.0, find_push k (b && not (is_ending (pending_in k x))) q m h.1 later)
  where
    later : is_some (report_in k m) ≡ true → ((b && not (is_ending (pending_in k x))) ≡ true) × (pending_of k q ≡ [])
    later slow =
        let it = fits slow in
        let none = none_waits (pending_in k x) (pending_of k q) it.1 in
        (rw (it.0, none.0) refl, none.1)

pub find_sent : (k : ℕ) (b : Bool) (q : List Message) (o : Option Message) → SlowsFind k b q
    → ((m : Message) → o ≡ Some m → is_some (report_in k m) ≡ true → (b ≡ true) × (pending_of k q ≡ []))
    → SlowsFind k b (q ++ option_to_list o)
find_sent k b q None h fits = subst (SlowsFind k b) (sym (append-nil q)) h
find_sent k b q (Some m) h fits = find_push k b q m h (fits m refl)

-- a unit that runs does so after news other than its finish
runs_more : (t : List News) (n : News) → is_finish n ≡ false → runs_by t ≡ true → runs_by (t ++ n ∷ []) ≡ true
runs_more t n other runs =
    rw (list_any-append is_start t (n ∷ []), list_any-append is_finish t (n ∷ []))
    (by_parts (list_any is_start t) (list_any is_finish t) (is_start n) (is_finish n) other runs)
  where
    by_parts : (s f sn fn : Bool) → fn ≡ false → (s && not f) ≡ true
        → ((s || (sn || false)) && not (f || (fn || false))) ≡ true
    by_parts true false sn false other runs = refl
    by_parts true false sn true other runs = cc
    by_parts true true sn fn other runs = cc
    by_parts false f sn fn other runs = cc

-- the oldest message is taken, and told or not
find_one : (k : ℕ) (told : Bool) (t : List News) (m : Message) (rest : List Message)
    → SlowsFind k (runs_by t) (m ∷ rest)
    → SlowsFind k (runs_by (t ++ pending_of k (if told then m ∷ [] else []))) rest
find_one k false t m rest h =
    find_if k (runs_by t && not (is_ending (pending_in k m))) (runs_by (t ++ [])) rest
    (λ both. ap runs_by (append-nil t) ∙ first_so (runs_by t) _ both) h.1
find_one k true t m rest h =
    find_if k (runs_by t && not (is_ending (pending_in k m))) (runs_by (t ++ cons_option (pending_in k m) [])) rest
    (by_news (pending_in k m)) h.1
  where
    by_news : (o : Option News) → (runs_by t && not (is_ending o)) ≡ true → runs_by (t ++ cons_option o []) ≡ true
    by_news None both = ap runs_by (append-nil t) ∙ first_so (runs_by t) true both
    by_news (Some n) both =
        let other : not (is_finish n) ≡ true = second_so (runs_by t) (not (is_finish n)) both in
        runs_more t n (not_so (is_finish n) other) (first_so (runs_by t) (not (is_finish n)) both)
      where
        not_so : (b : Bool) → not b ≡ true → b ≡ false
        not_so false e = refl
        not_so true e = cc

pub find_taken : (k : ℕ) (go taken : Bool) (t : List News) (q : List Message) → SlowsFind k (runs_by t) q
    → SlowsFind k (runs_by (t ++ pending_of k (told_from go taken q))) (drop (if taken then 1 else 0) q)
find_taken k go false t q h = subst (λ t. SlowsFind k (runs_by t) q) (sym (append-nil t)) h
find_taken k go true t [] h = tt
find_taken k go true t (m ∷ rest) h = find_one k (is_told go m) t m rest h

-- a slow report is of a unit whose attempt goes on
abbrev Silent : ℕ → Row → Type 0
Silent k r = reports_waiting k (option_to_list r.sent) ≡ []

row_slow : (k now : ℕ) (ph : Phase) (turn : UnitTurn) (u : UnitView) → u.phase ≡ ph → takes_at now ph u turn ≡ true
    → Silent k (row_at now ph turn u) ⊎ (is_open (row_at now ph turn u).next.phase ≡ true)
row_slow k now ph turn u is en = by_take (row_takes now ph turn u en)
  where
    Fine : Row → Type 0
    Fine r = Silent k r ⊎ (is_open r.next.phase ≡ true)

    by_moves : (r : Row) → Moves u r → Fine r
    by_moves r (inl on) = inr on.phase
    by_moves r (inr end) = inl (ap (λ o. reports_waiting k (option_to_list o)) end.sent)

    by_way : (r : Row) → StaysOrGoes u r → Silent k r
    by_way r (inl stays) = ap (λ o. reports_waiting k (option_to_list o)) stays.1
    by_way r (inr goes) = ap (λ o. reports_waiting k (option_to_list o)) goes.1 ∙ retry_silent k u.role u

    by_go : (go : Bool) → Silent k (row_at now StartSent (Answered go) u)
    by_go true = refl
    by_go false = refl

    by_retry : (go : Bool) → Silent k (row_at now RetrySent (Answered go) u)
    by_retry true = refl
    by_retry false = refl

    by_take : Takes ph turn → Fine (row_at now ph turn u)
    by_take (answers go at to) = rw (at, to) (inl (by_go go))
    by_take (opens on) = by_moves (row_at now ph turn u) (row_moves now ph turn u is on)
    by_take (decides word at to) =
        rw (at, to) (inl (decide_cases (Silent k) now word u
        (λ _. failure_silent k (next_delay word u) u.role (last_status u.statuses)) (λ _. finish_silent k u.role u)))
    by_take (passes at to) = rw at (inl (by_way (row_at now Delay turn u) (row_passes now turn u (is ∙ at)).way))
    by_take (again go at to) = rw (at, to) (inl (by_retry go))

silent_none : (k : ℕ) (m : Message) → reports_waiting k (m ∷ []) ≡ [] → is_some (report_in k m) ≡ true → ⊥
silent_none k m none slow = by_report (report_in k m) none slow
  where
    by_report : (o : Option SlowReport) → cons_option o [] ≡ [] → is_some o ≡ true → ⊥
    by_report None none slow = cc
    by_report (Some report) none slow = cc

pub slow_opens : (k now : ℕ) (ph : Phase) (turn : UnitTurn) (u : UnitView) (m : Message) → u.phase ≡ ph
    → takes_at now ph u turn ≡ true → (row_at now ph turn u).sent ≡ Some m → is_some (report_in k m) ≡ true
    → is_open (row_at now ph turn u).next.phase ≡ true
slow_opens k now ph turn u m is en sends slow = by_row (row_slow k now ph turn u is en)
  where
    by_row : Silent k (row_at now ph turn u) ⊎ (is_open (row_at now ph turn u).next.phase ≡ true)
        → is_open (row_at now ph turn u).next.phase ≡ true
    by_row (inr on) = on
    by_row (inl silent) =
        absurd (silent_none k m (sym (ap (λ o. reports_waiting k (option_to_list o)) sends) ∙ silent) slow)

-- and it is that unit's
own_unit : (j k : ℕ) (report : SlowReport) → is_some (if j == k then Some report else None) ≡ true → j ≡ k
own_unit j k report is = by_unit (j == k) refl is
  where
    by_unit : (b : Bool) → (j == k) ≡ b → is_some (if b then Some report else None) ≡ true → j ≡ k
    by_unit true e is = grind arith
    by_unit false e is = cc

pub report_own : (k : ℕ) (role : UnitRole) (m : Message) → IsReportOf role (Some m) → is_some (report_in k m) ≡ true
    → number_of role ≡ k
report_own k (roles.Test t) (Slow slow) own is = sym own ∙ own_unit slow.test.unit k _ is
report_own k (roles.Script s) (ScriptSlow slow) own is = sym own ∙ own_unit slow.script.unit k _ is
report_own k (roles.Test t) (ScriptSlow slow) own is = absurd own
report_own k (roles.Script s) (Slow slow) own is = absurd own
report_own k role m own is = cc

-- the first message of a unit is no slow report
pub first_silent : (k : ℕ) (skips : Bool) (u : UnitView) (m : Message) → IsFirst skips u m
    → is_some (report_in k m) ≡ false
first_silent k true u m (ph, (t, (role, (reason, is)))) = ap (λ m. is_some (report_in k m)) is
first_silent k false u m (ph, is) = ap (λ m. is_some (report_in k m)) is ∙ by_role u.role
  where
    by_role : (role : UnitRole) → is_some (report_in k (start_message role u)) ≡ false
    by_role (roles.Test t) = refl
    by_role (roles.Script s) = refl

-- nothing waits of a unit whose attempt goes on, and it was told started
pub open_account : (mm left : Bool) (ph : Phase) (ss : List ExecuteStatus) (t q : List News) → is_open ph ≡ true
    → HasAccountAt mm left ph ss t q → (runs_by t ≡ true) × (q ≡ [])
open_account mm left ph ss t q on h = by_case mm ph on h
  where
    runs : t ≡ started ∷ tried_from 1 ss → runs_by t ≡ true
    runs is = ap runs_by is ∙ ap not (tried_from-unfinished 1 ss)

    by_case : (mm : Bool) (ph : Phase) → is_open ph ≡ true → HasAccountAt mm left ph ss t q
        → (runs_by t ≡ true) × (q ≡ [])
    by_case false Starting on h = (runs h.0, h.1)
    by_case false Running on h = (runs h.0, h.1)
    by_case false Grace on h = (runs h.0, h.1)
    by_case false KillWait on h = (runs h.0, h.1)
    by_case false Leak on h = (runs h.0, h.1)
    by_case false EnvWait on h = (runs h.0, h.1)
    by_case true Starting on h = absurd h
    by_case true Running on h = absurd h
    by_case true Grace on h = absurd h
    by_case true KillWait on h = absurd h
    by_case true Leak on h = absurd h
    by_case true EnvWait on h = absurd h
    by_case mm ph on h = cc
