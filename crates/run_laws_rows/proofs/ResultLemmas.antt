-- The results of attempts, by what their children did.
use Rattle.std.proofs.Common.{◌≡◌, ℕ, ◌+◌, ◌-◌, ◌==◌, ◌≤◌, ◌<◌, nat_lt, pos, negsuc, zero, suc, List, [], ◌∷◌, ◌++◌}
use Rattle.std.proofs.Common.{length}
use Rattle.std.proofs.Common.{Bool, true, false, ◌&&◌, ◌||◌, not, if◌then◌else◌, Option, Some, None, is_some, is_none}
use Rattle.std.proofs.Common.{IfSome}
use Rattle.std.proofs.Common.{option_map, option_to_list, refl, ap, sym, subst, ◌∙◌, arith, slice_get}
use Rattle.std.specs.List.{All, Contains}
use Rattle.std.specs.Option.{option_map_or}
use Rattle.std.proofs.lemmas.List.{append-nil}
use Rattle.std.proofs.lemmas.List.Elements.{All-nil, All-cons, All-head, All-tail, All-append, All-weaker}
use Rattle.run_capture.specs.declared.test_output.ChildFdError.{ChildFdError}
use Rattle.run_capture.specs.declared.test_output.ChildFdError.TheVariants.{Wait}
use Rattle.run_model.specs.Admission.{unit_terms}
use Rattle.run_model.specs.Attempts.{ended_statuses, errors_heard, error_in, result_by, result_in, status_of}
use Rattle.run_model.specs.Attempts.{statuses_of}
use Rattle.run_model.specs.Attempts.{has_ended, delay_after}
use Rattle.run_model.specs.Journal.{IsLegalBackward, history}
use Rattle.run_laws.specs.Laws.{Extends}
use Rattle.run_laws.proofs.told.OnceLemmas.{told_once}
use Rattle.run_laws.proofs.board.Kept.{accounts, made}
use Rattle.run_laws_rows.specs.Results.{HasItsResult, IsByItsChild, PassesAreThree, piece_at}
use Rattle.run_events.specs.Result.{is_success, execution_result}
use Rattle.run_events.specs.Usual.{usual_leak, usual_slow}
use Rattle.run_events.specs.declared.plan.SlowTimeout.{SlowTimeout}
use Rattle.run_events.specs.declared.result.ChildExit.{ChildExit}
use Rattle.run_events.specs.declared.result.ExecuteStatus.{ExecuteStatus}
use Rattle.run_events.specs.declared.result.ExecutionResult.{ExecutionResult}
use Rattle.run_events.specs.declared.result.ExecutionResult.TheVariants.{Pass, Leak, Fail, ExecFail, Timeout}
use Rattle.run_events.specs.declared.result.LeakTimeoutResult.{LeakTimeoutResult}
use Rattle.run_events.specs.declared.result.SlowTimeoutResult.{SlowTimeoutResult}
use Rattle.run_events.specs.declared.settings.Settings.{Settings}
use Rattle.run_model.specs.declared.entry.Entry.{Entry}
use Rattle.run_model.specs.declared.happening.Happening.{Happening}
use Rattle.run_model.specs.declared.unit_turn.UnitTurn.{UnitTurn}
use Rattle.run_model.specs.declared.unit_turn.UnitTurn.TheVariants.{ReadError, WaitFailed}
use Rattle.run_model.specs.Accounts.{account_of}
use Rattle.run_model.specs.Admission.{scripts_in}
use Rattle.run_model.specs.Attempts.{env_by, exit_of, is_fault, pieces_of, start_error_of}
use Rattle.run_model.specs.Fates.{told_ended}
use Rattle.run_model.specs.Story.{Attempt, cut, OwnTurn, any_is}
use Rattle.run_model.specs.Timing.{has_leaked, has_timed_out}
use Rattle.run_model.specs.Words.{sub_run, told}
use Rattle.run_events.specs.declared.result.ChildExit.TheVariants as exits
use Rattle.run_events.specs.declared.result.LeakTimeoutResult.TheVariants as leaks
use Rattle.run_events.specs.declared.result.SlowTimeoutResult.TheVariants as timeouts
use Rattle.run_capture.specs.Captured.{read_error}
use Rattle.run_model.specs.declared.unit_view.AttemptTerms.{AttemptTerms}
use Rattle.run_events.specs.declared.plan.PlanScript.{PlanScript}
use Rattle.run_events.specs.declared.plan.PlanTest.{PlanTest}
use Rattle.run_laws_rows.specs.Results.{slow_planned, leak_planned, exits_with_zero, failure_by}
use Rattle.run_laws_rows.specs.Results.{is_error, is_passing, is_pass}
use Rattle.run_laws_rows.specs.Results.{is_exec_fail, leak_in, timeout_in, failure_in, is_refused, ran_too_long}
use Rattle.run_model.specs.Admission.{terms_if, terms_at, script_terms_if}
use Rattle.run_events.specs.Result.{exit_result}

-- whether errors were heard is whether some turn says one
abbrev some_error : List ChildFdError → Bool
some_error [] = false
some_error (e ∷ errors) = true

errors_any : (piece : List OwnTurn) → some_error (errors_heard piece) ≡ any_is is_error piece
errors_any [] = refl
errors_any (t ∷ before) = by_turn t.turn (errors_any before)
  where
    joined : (errors : List ChildFdError) (e : ChildFdError) → some_error (errors ++ e ∷ []) ≡ true
    joined [] e = refl
    joined (x ∷ errors) e = refl

    by_turn : (turn : UnitTurn) → some_error (errors_heard before) ≡ any_is is_error before
        → some_error (errors_heard before ++ option_to_list (error_in turn))
        ≡ (is_error turn || any_is is_error before)
    by_turn (ReadError stream error) was = joined (errors_heard before) (read_error stream error)
    by_turn (WaitFailed error) was = joined (errors_heard before) (Wait error)
    by_turn turn was = ap some_error (append-nil (errors_heard before)) ∙ was

-- a result over plain values: whether its start was refused or its file at fault, whether it ran out of time, how its
-- child ended, whether something failed, and whether it leaked
abbrev plain : Bool → Bool → SlowTimeoutResult → Option ChildExit → Bool → Bool → LeakTimeoutResult → ExecutionResult
plain true late out exit failed leaked leak = ExecFail
plain false true out exit failed leaked leak = Timeout out
plain false false out None failed leaked leak = ExecFail
plain false false out (Some exit) true leaked leak = ExecFail
plain false false out (Some exit) false leaked leak = exit_result exit leaked leak

plain_is : (terms : AttemptTerms) (piece : List OwnTurn) → result_in terms piece
    ≡ plain (is_refused piece) (has_timed_out terms.slow piece) terms.slow.on_timeout (exit_of piece)
    (any_is is_error piece) (has_leaked piece) terms.leak.result
plain_is terms piece = by_error (start_error_of piece) (is_fault (env_by piece))
  where
    by_exit : (exit : Option ChildExit) (errors : List ChildFdError) (failed : Bool) → some_error errors ≡ failed
        → execution_result exit errors (has_leaked piece) terms.leak.result
        ≡ plain false false terms.slow.on_timeout exit failed (has_leaked piece) terms.leak.result
    by_exit None errors failed is = refl
    by_exit (Some exit) [] true is = cc
    by_exit (Some exit) [] false is = refl
    by_exit (Some exit) (e ∷ errors) true is = refl
    by_exit (Some exit) (e ∷ errors) false is = cc

    by_late : (late : Bool) → (if late then Timeout terms.slow.on_timeout
        else execution_result (exit_of piece) (errors_heard piece) (has_leaked piece) terms.leak.result)
        ≡ plain false late terms.slow.on_timeout (exit_of piece) (any_is is_error piece) (has_leaked piece)
        terms.leak.result
    by_late true = refl
    by_late false = by_exit (exit_of piece) (errors_heard piece) (any_is is_error piece) (errors_any piece)

    by_error : (error : Option (List ℕ)) (fault : Bool) → (if fault then ExecFail else result_by terms piece error)
        ≡ plain (is_some error || fault) (has_timed_out terms.slow piece) terms.slow.on_timeout (exit_of piece)
        (any_is is_error piece) (has_leaked piece) terms.leak.result
    by_error (Some error) true = refl
    by_error (Some error) false = refl
    by_error None true = refl
    by_error None false = by_late (has_timed_out terms.slow piece)

-- what is said of such a result
record IsJudged (refused late : Bool) (out : SlowTimeoutResult) (exit : Option ChildExit) (failed leaked : Bool)
    (leak : LeakTimeoutResult) (result : ExecutionResult) : Type 0 where
  timeout : timeout_in result ≡ (if not refused && late then Some out else None)
  exec_fail : is_exec_fail result ≡ (refused || (not late && (is_none exit || failed)))
  pass : is_pass result
      ≡ ((not refused && not late && not (is_none exit || failed)) && exits_with_zero exit
      && (not leaked || is_passing leak))
  leak_is : leak_in result
      ≡ (if (not refused && not late && not (is_none exit || failed)) && exits_with_zero exit && leaked
      then Some leak
      else None)
  fail : failure_in result
      ≡ (if not refused && not late && not (is_none exit || failed)
      then option_map (λ status. (status, leaked)) (failure_by exit)
      else None)

judge : (refused late : Bool) (out : SlowTimeoutResult) (exit : Option ChildExit) (failed leaked : Bool)
    (leak : LeakTimeoutResult)
    → IsJudged refused late out exit failed leaked leak (plain refused late out exit failed leaked leak)
judge true late out exit failed leaked leak =
    record { timeout = refl; exec_fail = refl; pass = refl; leak_is = refl; fail = refl }
judge false true out exit failed leaked leak =
    record { timeout = refl; exec_fail = refl; pass = refl; leak_is = refl; fail = refl }
judge false false out None failed leaked leak =
    record { timeout = refl; exec_fail = refl; pass = refl; leak_is = refl; fail = refl }
judge false false out (Some exit) true leaked leak =
    record { timeout = refl; exec_fail = refl; pass = refl; leak_is = refl; fail = refl }
judge false false out (Some (exits.Code (pos zero))) false true leaks.Pass =
    record { timeout = refl; exec_fail = refl; pass = refl; leak_is = refl; fail = refl }
judge false false out (Some (exits.Code (pos zero))) false true leaks.Fail =
    record { timeout = refl; exec_fail = refl; pass = refl; leak_is = refl; fail = refl }
judge false false out (Some (exits.Code (pos zero))) false false leak =
    record { timeout = refl; exec_fail = refl; pass = refl; leak_is = refl; fail = refl }
judge false false out (Some (exits.Code (pos (suc n)))) false leaked leak =
    record { timeout = refl; exec_fail = refl; pass = refl; leak_is = refl; fail = refl }
judge false false out (Some (exits.Code (negsuc n))) false leaked leak =
    record { timeout = refl; exec_fail = refl; pass = refl; leak_is = refl; fail = refl }
judge false false out (Some (exits.Signal signal)) false leaked leak =
    record { timeout = refl; exec_fail = refl; pass = refl; leak_is = refl; fail = refl }

-- the plan's terms are those of the unit
pub slow_is : (p : Settings) (k : ℕ) → (unit_terms p k).slow ≡ slow_planned p k
slow_is p k = by_kind (nat_lt k (scripts_in p))
  where
    by_script : (o : Option PlanScript) → (script_terms_if p o).slow
        ≡ option_map_or (λ script. record script.slow { on_timeout = timeouts.Fail }) o usual_slow
    by_script None = refl
    by_script (Some script) = refl

    by_test : (o : Option PlanTest) → (terms_if p o).slow ≡ option_map_or (λ test. test.slow) o usual_slow
    by_test None = refl
    by_test (Some test) = refl

    by_kind : (b : Bool)
        → (if b then script_terms_if p (slice_get p.plan.scripts k) else terms_at p (k - scripts_in p)).slow
        ≡ (if b
        then option_map_or (λ script. record script.slow { on_timeout = timeouts.Fail }) (slice_get p.plan.scripts k)
        usual_slow
        else option_map_or (λ test. test.slow) (slice_get p.plan.tests (k - scripts_in p)) usual_slow)
    by_kind true = by_script (slice_get p.plan.scripts k)
    by_kind false = by_test (slice_get p.plan.tests (k - scripts_in p))

leak_is : (p : Settings) (k : ℕ) → (unit_terms p k).leak.result ≡ leak_planned p k
leak_is p k = by_kind (nat_lt k (scripts_in p))
  where
    by_script : (o : Option PlanScript) → (script_terms_if p o).leak.result
        ≡ option_map_or (λ script. script.leak.result) o usual_leak.result
    by_script None = refl
    by_script (Some script) = refl

    by_test : (o : Option PlanTest) → (terms_if p o).leak.result
        ≡ option_map_or (λ test. test.leak.result) o usual_leak.result
    by_test None = refl
    by_test (Some test) = refl

    by_kind : (b : Bool)
        → (if b then script_terms_if p (slice_get p.plan.scripts k) else terms_at p (k - scripts_in p)).leak.result
        ≡ (if b
        then option_map_or (λ script. script.leak.result) (slice_get p.plan.scripts k) usual_leak.result
        else option_map_or (λ test. test.leak.result) (slice_get p.plan.tests (k - scripts_in p)) usual_leak.result)
    by_kind true = by_script (slice_get p.plan.scripts k)
    by_kind false = by_test (slice_get p.plan.tests (k - scripts_in p))

-- so the result of each attempt is that of its own turns
has_result : (p : Settings) (k : ℕ) (piece : List OwnTurn)
    → HasItsResult (slow_planned p k) (leak_planned p k) piece (result_in (unit_terms p k) piece)
has_result p k piece =
    subst (λ slow. HasItsResult slow (leak_planned p k) piece (result_in terms piece)) (slow_is p k)
    (subst (λ leak. HasItsResult terms.slow leak piece (result_in terms piece)) (leak_is p k)
    (subst (HasItsResult terms.slow terms.leak.result piece) (sym (plain_is terms piece))
    (record { timeout = it.timeout; exec_fail = it.exec_fail; pass = it.pass; leak = it.leak_is; fail = it.fail })))
  where
    terms : AttemptTerms
    terms = unit_terms p k

    it : IsJudged (is_refused piece) (has_timed_out terms.slow piece) terms.slow.on_timeout (exit_of piece)
        (any_is is_error piece) (has_leaked piece) terms.leak.result
        (plain (is_refused piece) (has_timed_out terms.slow piece) terms.slow.on_timeout (exit_of piece)
        (any_is is_error piece) (has_leaked piece) terms.leak.result)
    it = judge (is_refused piece) (has_timed_out terms.slow piece) terms.slow.on_timeout (exit_of piece)
        (any_is is_error piece) (has_leaked piece) terms.leak.result

-- an attempt has its number, whatever attempts come after it
within : (ps : List Attempt) (n : ℕ) (piece : List OwnTurn) → piece_at n ps ≡ Some piece → n ≤ length ps
within [] n piece is = cc
within (cut other after ∷ earlier) n piece is =
    by_here (length earlier + 1 == n) refl (within earlier n piece) is
  where
    by_here : (b : Bool) → (length earlier + 1 == n) ≡ b → (piece_at n earlier ≡ Some piece → n ≤ length earlier)
        → (if b then Some other else piece_at n earlier) ≡ Some piece → n ≤ suc (length earlier)
    by_here true e rest is = grind arith
    by_here false e rest is = let h : n ≤ length earlier = rest is in omega arith

wider : (earlier : List Attempt) (n : ℕ) (piece other after : List OwnTurn) → piece_at n earlier ≡ Some piece
    → piece_at n (cut other after ∷ earlier) ≡ Some piece
wider earlier n piece other after is =
    let h : n ≤ length earlier = within earlier n piece is in
    let apart : (length earlier + 1 == n) ≡ false = grind arith in
    rw apart is

abbrev IsOf : AttemptTerms → List Attempt → ExecuteStatus → Type 0
IsOf terms ps s = (piece : List OwnTurn) × (piece_at s.attempt ps ≡ Some piece) × (s.result ≡ result_in terms piece)

all_of : (terms : AttemptTerms) (ps : List Attempt) → All (IsOf terms ps) (ended_statuses terms ps)
all_of terms [] = All-nil (IsOf terms [])
all_of terms (cut piece after ∷ earlier) =
    All-append (IsOf terms (cut piece after ∷ earlier)) (ended_statuses terms earlier) _
    (All-weaker (IsOf terms earlier) (IsOf terms (cut piece after ∷ earlier))
    (λ s is. (is.0, wider earlier s.attempt is.0 piece after is.1, is.2)) (ended_statuses terms earlier)
    (all_of terms earlier))
    (last (has_ended terms piece))
  where
    here : (n : ℕ) → (n == n) ≡ true
    here n = grind arith

    last : (b : Bool) → All (IsOf terms (cut piece after ∷ earlier))
        (if b then status_of terms (delay_after terms.retries earlier) (length earlier + 1) piece ∷ [] else [])
    last true = All-cons (IsOf terms (cut piece after ∷ earlier)) _ []
        (piece, rw (here (length earlier + 1)) refl, refl) (All-nil (IsOf terms (cut piece after ∷ earlier)))
    last false = All-nil (IsOf terms (cut piece after ∷ earlier))

-- those that are told are the first of them
all_first : {X : Type 0} (P : X → Type 0) (xs more : List X) → All P (xs ++ more) → All P xs
all_first P [] more h = All-nil P
all_first P (x ∷ xs) more h =
    All-cons P x xs (All-head P x (xs ++ more) h) (all_first P xs more (All-tail P x (xs ++ more) h))

pub first_of : {X : Type 0} (P : X → Type 0) (xs ys : List X) → Extends xs ys → All P ys → All P xs
first_of P xs ys (more, is) h = all_first P xs more (subst (All P) is h)

pub by_children : (p : Settings) (backward : List Entry) → IsLegalBackward p backward → (k : ℕ)
    → All (IsByItsChild p (sub_run (history p backward)) k)
    (told_ended (account_of k (told (sub_run (history p backward)))))
by_children p backward legal k =
    first_of (IsByItsChild p run k) _ (statuses_of p k run)
    (told_once p run k (accounts p backward legal k) (λ u is. (made p backward legal k u is).statuses)).once
    (All-weaker (IsOf (unit_terms p k) (pieces_of k run)) (IsByItsChild p run k)
    (λ s is. (
      is.0,
      is.1,
      subst (HasItsResult (slow_planned p k) (leak_planned p k) is.0) (sym is.2)
          (has_result p k is.0),
    ))
    (statuses_of p k run) (all_of (unit_terms p k) (pieces_of k run)))
  where
    run : List Happening
    run = sub_run (history p backward)

-- a script's time-out is a failure
scripts_fail : (slow : SlowTimeout) (late : Bool) (said : Option SlowTimeoutResult) → slow.on_timeout ≡ timeouts.Fail
    → said ≡ (if late then Some slow.on_timeout else None) → IfSome said (λ result. result ≡ timeouts.Fail)
scripts_fail slow true None fails is = tt
scripts_fail slow true (Some result) fails is = cc
scripts_fail slow false None fails is = tt
scripts_fail slow false (Some result) fails is = cc

pub scripts_late : (p : Settings) (backward : List Entry) → IsLegalBackward p backward → (k : ℕ) → k < scripts_in p
    → All (λ s. IfSome (timeout_in s.result) (λ result. result ≡ timeouts.Fail))
    (told_ended (account_of k (told (sub_run (history p backward)))))
scripts_late p backward legal k lt =
    All-weaker (IsByItsChild p (sub_run (history p backward)) k)
    (λ s. IfSome (timeout_in s.result) (λ result. result ≡ timeouts.Fail))
    (λ s is. scripts_fail (slow_planned p k) (ran_too_long (slow_planned p k) is.0)
    (timeout_in s.result) fails is.2.timeout) _
    (by_children p backward legal k)
  where
    by_script : (o : Option PlanScript) → slice_get p.plan.scripts k ≡ o
        → (option_map_or (λ script. record script.slow { on_timeout = timeouts.Fail }) o usual_slow).on_timeout
        ≡ timeouts.Fail
    by_script None is = refl
    by_script (Some script) is = refl

    fails : (slow_planned p k).on_timeout ≡ timeouts.Fail
    fails =
        let script : nat_lt k (scripts_in p) ≡ true = grind arith in
        rw script (by_script (slice_get p.plan.scripts k) refl)

-- which results pass
abbrev IsSuccess : ExecutionResult → Type 0
IsSuccess result = is_success result ≡ true

pub three_pass : PassesAreThree
three_pass = record {
  each = All-cons IsSuccess Pass (Leak leaks.Pass ∷ Timeout timeouts.Pass ∷ []) refl
      (All-cons IsSuccess (Leak leaks.Pass) (Timeout timeouts.Pass ∷ []) refl
      (All-cons IsSuccess (Timeout timeouts.Pass) [] refl (All-nil IsSuccess)));
  only = by_result;
}
  where
    by_result : (result : ExecutionResult) → is_success result ≡ true
        → Contains (Pass ∷ Leak leaks.Pass ∷ Timeout timeouts.Pass ∷ []) result
    by_result Pass is = (0, omega arith, refl)
    by_result (Leak leaks.Pass) is = (1, omega arith, refl)
    by_result (Timeout timeouts.Pass) is = (2, omega arith, refl)
    by_result (Leak leaks.Fail) is = cc
    by_result (Fail status leaked) is = cc
    by_result ExecFail is = cc
    by_result (Timeout timeouts.Fail) is = cc
