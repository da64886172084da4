-- What the rows of a unit send: messages of its own, of its kind and of its role.
use Rattle.std.proofs.Common.{◌≡◌, ℕ, ◌==◌, List, ◌++◌, Bool, true, false, Option, Some, None, option_to_list}
use Rattle.std.proofs.Common.{option_map, inl, inr, refl, ap, sym, ◌∙◌}
use Rattle.std.specs.Prelude.{⊤}
use Rattle.std.proofs.lemmas.List.{append-nil}
use Rattle.run_events.specs.declared.message.Message.{Message}
use Rattle.run_events.specs.declared.message.Message.TheVariants.{ScriptSlow, Slow}
use Rattle.run_events.specs.declared.settings.Settings.{Settings}
use Rattle.run_events.specs.declared.result.ExecuteStatus.{ExecuteStatus}
use Rattle.run_model.specs.declared.phase.Phase.{Phase}
use Rattle.run_model.specs.declared.phase.Phase.TheVariants.{StartSent, Delay, RetrySent}
use Rattle.run_model.specs.declared.unit_turn.UnitTurn.{UnitTurn}
use Rattle.run_model.specs.declared.unit_turn.UnitTurn.TheVariants.{Answered}
use Rattle.run_model.specs.declared.unit_view.ScriptRole.{ScriptRole}
use Rattle.run_model.specs.declared.unit_view.UnitRole.{UnitRole}
use Rattle.run_model.specs.declared.unit_view.UnitRole.TheVariants as roles
use Rattle.run_model.specs.declared.unit_view.UnitView.{UnitView}
use Rattle.run_model.specs.Environment.{number_of, number}
use Rattle.run_model.specs.Ending.{last_status}
use Rattle.run_model.specs.Row.{Row}
use Rattle.run_model.specs.Retries.{finish_message, failed_message, retry_message, next_delay, failure_message}
use Rattle.run_model.specs.Retries.{script_finish, test_finish, test_retry}
use Rattle.run_model.specs.Unit.{row_at, takes_at}
use Rattle.run_model.specs.Admission.{is_script}
use Rattle.run_laws.proofs.board.Holds.{IsOfKind, is_script_role}
use Rattle.run_laws.proofs.board.Order.{is_of_script}
use Rattle.run_laws.proofs.board.ByTurn.{is_answer}
use Rattle.run_model.specs.Accounts.{pending_of}
use Rattle.run_laws.proofs.units.OpenRows.{IsReport, IsReportOf}
use Rattle.run_laws.proofs.units.Rows.{row_asks_own, continues, row_moves, Takes, answers, opens, decides, passes}
use Rattle.run_laws.proofs.units.Rows.{again, row_takes, StaysOrGoes, row_passes, decide_cases}
use Rattle.run_laws.proofs.units.AccountRows.{waits_still, report_waits}

-- a row sends only messages of its own unit
pub row_sends_own : (now : ℕ) (ph : Phase) (turn : UnitTurn) (u : UnitView) (k : ℕ) (q : List Message)
    → u.phase ≡ ph → takes_at now ph u turn ≡ true → is_answer turn ≡ false → (number u == k) ≡ false
    → pending_of k (q ++ option_to_list (row_at now ph turn u).sent) ≡ pending_of k q
row_sends_own now ph turn u k q is en other apart = by_take (row_takes now ph turn u en)
  where
    failure_apart : (role : UnitRole) (delay : ℕ) (o : Option ExecuteStatus) → (number_of role == k) ≡ false
        → pending_of k (q ++ option_to_list (failure_message role delay o)) ≡ pending_of k q
    failure_apart (roles.Test t) delay None apart = ap (pending_of k) (append-nil q)
    failure_apart (roles.Test t) delay (Some s) apart = waits_still k q (failed_message delay t s) (rw apart refl)
    failure_apart (roles.Script r) delay o apart = ap (pending_of k) (append-nil q)

    retry_apart : (role : UnitRole) → (number_of role == k) ≡ false
        → pending_of k (q ++ option_to_list (retry_message role u)) ≡ pending_of k q
    retry_apart (roles.Test t) apart = waits_still k q (test_retry t u) (rw apart refl)
    retry_apart (roles.Script r) apart = ap (pending_of k) (append-nil q)

    status_apart : (r : ScriptRole) (o : Option ExecuteStatus) → (r.script.unit == k) ≡ false
        → pending_of k (q ++ option_to_list (option_map (script_finish r u) o)) ≡ pending_of k q
    status_apart r None apart = ap (pending_of k) (append-nil q)
    status_apart r (Some s) apart = waits_still k q (script_finish r u s) (rw apart refl)

    finish_apart : (role : UnitRole) → (number_of role == k) ≡ false
        → pending_of k (q ++ option_to_list (finish_message role u)) ≡ pending_of k q
    finish_apart (roles.Test t) apart = waits_still k q (test_finish t u) (rw apart refl)
    finish_apart (roles.Script r) apart = status_apart r (last_status u.statuses) apart

    by_way : (r : Row) → StaysOrGoes u r → pending_of k (q ++ option_to_list r.sent) ≡ pending_of k q
    by_way r (inl stays) = rw stays.1 (ap (pending_of k) (append-nil q))
    by_way r (inr goes) = rw goes.1 (retry_apart u.role apart)

    by_take : Takes ph turn
        → pending_of k (q ++ option_to_list (row_at now ph turn u).sent) ≡ pending_of k q
    by_take (answers go at to) = let never : false ≡ true = sym other ∙ ap is_answer to in cc
    by_take (opens on) =
        report_waits k q (row_at now ph turn u).sent (continues u _ (row_moves now ph turn u is on)).sent
    by_take (decides word at to) =
        rw (at, to) (decide_cases (λ r. pending_of k (q ++ option_to_list r.sent) ≡ pending_of k q) now word u
        (λ _. failure_apart u.role (next_delay word u) (last_status u.statuses) apart)
        (λ _. finish_apart u.role apart))
    by_take (passes at to) = rw at (by_way (row_at now Delay turn u) (row_passes now turn u (is ∙ at)).way)
    by_take (again go at to) = let never : false ≡ true = sym other ∙ ap is_answer to in cc

-- a message, if there is one, of which this holds
abbrev pub HoldsIf : (Message → Type 0) → Option Message → Type 0
HoldsIf P None = ⊤
HoldsIf P (Some m) = P m

-- it sends none but a report, the failure of an attempt, a retry and a finish
pub record Sends (P : Message → Type 0) (u : UnitView) : Type 0 where
  pub report : (o : Option Message) → IsReport o → IsReportOf u.role o → HoldsIf P o
  pub failure : (delay : ℕ) (o : Option ExecuteStatus) → HoldsIf P (failure_message u.role delay o)
  pub retry : HoldsIf P (retry_message u.role u)
  pub finish : HoldsIf P (finish_message u.role u)

row_sends : (P : Message → Type 0) (now : ℕ) (ph : Phase) (turn : UnitTurn) (u : UnitView) → Sends P u
    → u.phase ≡ ph → takes_at now ph u turn ≡ true → HoldsIf P (row_at now ph turn u).sent
row_sends P now ph turn u sends is en = by_take (row_takes now ph turn u en)
  where
    by_go : (go : Bool) → HoldsIf P (row_at now StartSent (Answered go) u).sent
    by_go true = tt
    by_go false = tt

    by_retry : (go : Bool) → HoldsIf P (row_at now RetrySent (Answered go) u).sent
    by_retry true = tt
    by_retry false = tt

    by_way : (r : Row) → StaysOrGoes u r → HoldsIf P r.sent
    by_way r (inl stays) = rw stays.1 tt
    by_way r (inr goes) = rw goes.1 sends.retry

    by_take : Takes ph turn → HoldsIf P (row_at now ph turn u).sent
    by_take (answers go at to) = rw (at, to) (by_go go)
    by_take (opens on) =
        sends.report _ (continues u _ (row_moves now ph turn u is on)).sent (row_asks_own now ph turn u is en).1
    by_take (decides word at to) =
        rw (at, to) (decide_cases (λ r. HoldsIf P r.sent) now word u
        (λ _. sends.failure (next_delay word u) (last_status u.statuses)) (λ _. sends.finish))
    by_take (passes at to) = rw at (by_way (row_at now Delay turn u) (row_passes now turn u (is ∙ at)).way)
    by_take (again go at to) = rw (at, to) (by_retry go)

-- so all are of its kind
abbrev pub IsOfKindIf : Settings → Option Message → Type 0
IsOfKindIf p o = HoldsIf (IsOfKind p) o

pub row_sends_kind : (p : Settings) (now : ℕ) (ph : Phase) (turn : UnitTurn) (u : UnitView)
    → is_script_role u.role ≡ is_script p (number u)
    → u.phase ≡ ph → takes_at now ph u turn ≡ true → IsOfKindIf p (row_at now ph turn u).sent
row_sends_kind p now ph turn u fits is en = row_sends (IsOfKind p) now ph turn u (record {
  report = λ o h own. report u.role o fits h own;
  failure = λ delay o. failure u.role delay o fits;
  retry = retry u.role fits;
  finish = finish u.role fits;
}) is en
  where
    Fits : UnitRole → Type 0
    Fits role = is_script_role role ≡ is_script p (number_of role)

    report : (role : UnitRole) (m : Option Message) → Fits role → IsReport m → IsReportOf role m → IsOfKindIf p m
    report role None fits h own = tt
    report (roles.Test t) (Some (Slow slow)) fits h own = ap (is_script p) own ∙ sym fits
    report (roles.Script s) (Some (ScriptSlow slow)) fits h own = ap (is_script p) own ∙ sym fits
    report (roles.Test t) (Some (ScriptSlow slow)) fits h own = absurd own
    report (roles.Script s) (Some (Slow slow)) fits h own = absurd own
    report role (Some m) fits h own = absurd h

    failure : (role : UnitRole) (delay : ℕ) (o : Option ExecuteStatus) → Fits role
        → IsOfKindIf p (failure_message role delay o)
    failure (roles.Test t) delay None fits = tt
    failure (roles.Test t) delay (Some s) fits = sym fits
    failure (roles.Script r) delay o fits = tt

    retry : (role : UnitRole) → Fits role → IsOfKindIf p (retry_message role u)
    retry (roles.Test t) fits = sym fits
    retry (roles.Script r) fits = tt

    status : (r : ScriptRole) (o : Option ExecuteStatus) → true ≡ is_script p r.script.unit
        → IsOfKindIf p (option_map (script_finish r u) o)
    status r None fits = tt
    status r (Some s) fits = sym fits

    finish : (role : UnitRole) → Fits role → IsOfKindIf p (finish_message role u)
    finish (roles.Test t) fits = sym fits
    finish (roles.Script r) fits = status r (last_status u.statuses) fits

-- and of a script where it is one
abbrev pub IsAsRole : UnitRole → Message → Type 0
IsAsRole role m = is_of_script m ≡ is_script_role role

pub row_sends_role : (now : ℕ) (ph : Phase) (turn : UnitTurn) (u : UnitView)
    → u.phase ≡ ph → takes_at now ph u turn ≡ true → HoldsIf (IsAsRole u.role) (row_at now ph turn u).sent
row_sends_role now ph turn u is en = row_sends (IsAsRole u.role) now ph turn u (record {
  report = report u.role;
  failure = failure u.role;
  retry = retry u.role;
  finish = finish u.role;
}) is en
  where
    report : (role : UnitRole) (m : Option Message) → IsReport m → IsReportOf role m → HoldsIf (IsAsRole role) m
    report role None h own = tt
    report (roles.Test t) (Some (Slow slow)) h own = refl
    report (roles.Script s) (Some (ScriptSlow slow)) h own = refl
    report (roles.Test t) (Some (ScriptSlow slow)) h own = absurd own
    report (roles.Script s) (Some (Slow slow)) h own = absurd own
    report role (Some m) h own = absurd h

    failure : (role : UnitRole) (delay : ℕ) (o : Option ExecuteStatus)
        → HoldsIf (IsAsRole role) (failure_message role delay o)
    failure (roles.Test t) delay None = tt
    failure (roles.Test t) delay (Some s) = refl
    failure (roles.Script r) delay o = tt

    retry : (role : UnitRole) → HoldsIf (IsAsRole role) (retry_message role u)
    retry (roles.Test t) = refl
    retry (roles.Script r) = tt

    status : (r : ScriptRole) (o : Option ExecuteStatus)
        → HoldsIf (IsAsRole (roles.Script r)) (option_map (script_finish r u) o)
    status r None = tt
    status r (Some s) = refl

    finish : (role : UnitRole) → HoldsIf (IsAsRole role) (finish_message role u)
    finish (roles.Test t) = refl
    finish (roles.Script r) = status r (last_status u.statuses)
