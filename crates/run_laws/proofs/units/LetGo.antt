-- How far a test is on its way after one more turn: how often it was let go, and where it was stopped.
use Rattle.std.proofs.Common.{◌≡◌, ◌⊎◌, inl, inr, ℕ, add-zero, ◌+◌, ◌-◌, ◌<◌, ◌≤◌, ◌==◌, ◌&&◌, List, [], ◌∷◌, ◌++◌}
use Rattle.std.proofs.Common.{length, Bool, true, false, not, Option, Some, None, is_some, is_none, option_map}
use Rattle.std.proofs.Common.{if◌then◌else◌, refl, ap, sym, subst, ◌∙◌, arith, length-append}
use Rattle.std.specs.Prelude.{nat_le}
use Rattle.std.specs.Option.{option_or}
use Rattle.std.specs.List.{list_all}
use Rattle.std.specs.Cmp.{first_so, second_so}
use Rattle.std.proofs.lemmas.Bool.Decides.{nat_tests}
use Rattle.std.proofs.lemmas.List.Folds.{list_all-append}
use Rattle.run_events.specs.Result.{is_success}
use Rattle.run_events.specs.declared.cancel.CancelReason.{CancelReason}
use Rattle.run_events.specs.declared.request.Request.{Request}
use Rattle.run_events.specs.declared.result.ExecuteStatus.{ExecuteStatus}
use Rattle.run_events.specs.declared.message.Message.{Message}
use Rattle.run_events.specs.declared.settings.Settings.{Settings}
use Rattle.run_model.specs.declared.happening.Happening.{Happening}
use Rattle.run_model.specs.declared.happening.UnitPart.{UnitPart}
use Rattle.run_model.specs.declared.happening.UnitPart.TheVariants.{Joins, Acts}
use Rattle.run_model.specs.declared.phase.Phase.{Phase}
use Rattle.run_model.specs.declared.phase.Phase.TheVariants.{StartSent, Starting, Running, Grace, KillWait, Leak}
use Rattle.run_model.specs.declared.phase.Phase.TheVariants.{EnvWait, Deciding, Delay, RetrySent, Over}
use Rattle.run_model.specs.declared.unit_turn.UnitTurn.{UnitTurn}
use Rattle.run_model.specs.declared.unit_turn.UnitTurn.TheVariants.{Answered, Due, Take, Decide}
use Rattle.run_model.specs.declared.unit_view.UnitView.{UnitView}
use Rattle.run_model.specs.Environment.{number}
use Rattle.run_model.specs.Backoff.{retry_count}
use Rattle.run_model.specs.Ending.{last_status}
use Rattle.run_model.specs.Row.{Row}
use Rattle.run_model.specs.Retries.{has_passed, has_retry, decide_row}
use Rattle.run_model.specs.Unit.{at_moment, row, row_at, takes, takes_at, is_live, reach}
use Rattle.run_model.specs.Words.{unit_of, unit_after, reason}
use Rattle.run_model.specs.Accounts.{News, HasAccount, HasAccountAt, is_mismatched}
use Rattle.run_model.specs.Story.{is_at_retry, lets_go}
use Rattle.run_model.specs.Fates.{MeetsAttemptLaw}
use Rattle.run_laws.proofs.units.OpenRows.{is_open, Keeps, Moves}
use Rattle.run_laws.proofs.units.Rows.{StaysOrGoes, Passes, Takes, answers, opens, decides, passes, again, row_keeps}
use Rattle.run_laws.proofs.units.Rows.{row_moves, row_passes, row_takes, decide_cases}
use Rattle.run_laws.proofs.board.ByTurn.{is_answer}
use Rattle.run_laws.proofs.board.Holds.{Way, IsWaiting, IsUnderWay, AreFailed, HasEndedAs, IsOverWith, IsOnWayIn}
use Rattle.run_laws.proofs.board.Holds.{IsOnWayAt, IsOnWay}
use Rattle.run_laws.proofs.units.AccountLemmas.{IsFirst}
use Rattle.run_laws.proofs.units.AccountRows.{last-append}
use Rattle.run_laws.proofs.board.DeedFits.{PartFits, or_none}

-- the way of a test after one more turn, by whether its start or a retry was delivered, and the reason before it
abbrev pub way_with : Bool → Option CancelReason → Way → Way
way_with delivers why w = record {
  delivered = w.delivered + (if delivers then 1 else 0);
  stopped = option_or w.stopped (if delivers && is_some why then Some w.delivered else None);
}

way_still : (why : Option CancelReason) (w : Way) → way_with false why w ≡ w
way_still why w = rw (add-zero w.delivered, or_none w.stopped) refl

failing : (s : ExecuteStatus) → not (is_success s.result) ≡ true → is_success s.result ≡ false
failing s e = by_result (is_success s.result) e
  where
    by_result : (b : Bool) → not b ≡ true → b ≡ false
    by_result true e = cc
    by_result false e = refl

-- attempts that all failed, each with a retry left, and then one that passed, or after which none is left
attempts_meet : (early : List ExecuteStatus) (s : ExecuteStatus) (n : ℕ)
    → list_all (λ s. not (is_success s.result)) early ≡ true → length early ≤ n
    → (is_success s.result ≡ true) ⊎ (n ≡ length early) → MeetsAttemptLaw n (early ++ s ∷ [])
attempts_meet [] s n all le (inl passed) = inl passed
attempts_meet [] s n all le (inr none) = inr none
attempts_meet (x ∷ []) s n all le last = (
  failing x (first_so (not (is_success x.result)) true all),
  omega arith,
  attempts_meet [] s (n - 1) refl (omega arith) (one_less last),
)
  where
    one_less : (is_success s.result ≡ true) ⊎ (n ≡ 1) → (is_success s.result ≡ true) ⊎ (n - 1 ≡ 0)
    one_less (inl passed) = inl passed
    one_less (inr none) = inr (omega arith)
attempts_meet (x ∷ y ∷ early) s n all le last = (
  failing x (first_so (not (is_success x.result)) _ all),
  omega arith,
  attempts_meet (y ∷ early) s (n - 1) (second_so (not (is_success x.result)) _ all) (omega arith) (one_less last),
)
  where
    one_less : (is_success s.result ≡ true) ⊎ (n ≡ length (x ∷ y ∷ early))
        → (is_success s.result ≡ true) ⊎ (n - 1 ≡ length (y ∷ early))
    one_less (inl passed) = inl passed
    one_less (inr none) = inr (omega arith)

-- what it decides where its attempts are these
failed_again : (early : List ExecuteStatus) (s : ExecuteStatus) (u : UnitView) → u.statuses ≡ early ++ s ∷ []
    → u.attempt ≡ length u.statuses → AreFailed (retry_count u.terms.retries) early → has_retry u ≡ true
    → AreFailed (retry_count u.terms.retries) u.statuses × (0 < length u.statuses)
failed_again early s u e at failed tried =
    let last : not (has_passed (last_status u.statuses)) ≡ true =
    first_so (not (has_passed (last_status u.statuses))) (nat_le u.attempt (retry_count u.terms.retries)) tried in
    let more : nat_le u.attempt (retry_count u.terms.retries) ≡ true =
    second_so (not (has_passed (last_status u.statuses))) (nat_le u.attempt (retry_count u.terms.retries)) tried in
    let failed_last : not (is_success s.result) ≡ true =
    sym (ap (λ o. not (has_passed o)) (ap last_status e ∙ last-append early s)) ∙ last in
    let long : length u.statuses ≡ length early + 1 = ap length e ∙ length-append early (s ∷ []) in
    let left : u.attempt ≤ retry_count u.terms.retries = grind (arith, nat_tests) in (
      (
        ap (list_all (λ s. not (is_success s.result))) e
            ∙ list_all-append (λ s. not (is_success s.result)) early (s ∷ [])
            ∙ rw (failed.0, failed_last) refl,
        omega arith,
      ),
      omega arith,
    )

ended_so : (early : List ExecuteStatus) (s : ExecuteStatus) (u : UnitView) → u.statuses ≡ early ++ s ∷ []
    → u.attempt ≡ length u.statuses → AreFailed (retry_count u.terms.retries) early → has_retry u ≡ false
    → MeetsAttemptLaw (retry_count u.terms.retries) u.statuses
ended_so early s u e at failed over =
    rw e (attempts_meet early s (retry_count u.terms.retries) failed.0 failed.1
    (by_last (is_success s.result) refl))
  where
    last : last_status u.statuses ≡ Some s
    last = ap last_status e ∙ last-append early s

    long : length u.statuses ≡ length early + 1
    long = ap length e ∙ length-append early (s ∷ [])

    none_left : (b : Bool) → nat_le u.attempt (retry_count u.terms.retries) ≡ b → b ≡ false
        → retry_count u.terms.retries ≡ length early
    none_left b is not_so =
        let few : length early ≤ retry_count u.terms.retries = failed.1 in
        let gone : nat_le u.attempt (retry_count u.terms.retries) ≡ false = is ∙ not_so in
        let above : retry_count u.terms.retries < u.attempt = grind (arith, nat_tests) in
        omega (arith, long)

    by_last : (b : Bool) → is_success s.result ≡ b
        → (is_success s.result ≡ true) ⊎ (retry_count u.terms.retries ≡ length early)
    by_last true is = inl is
    by_last false is =
        inr (none_left _ refl (sym (ap (λ b. not b && nat_le u.attempt (retry_count u.terms.retries))
        (ap has_passed last ∙ is)) ∙ over))

-- a unit that decides is tried again, or is over as it meets the law
decided_on_way : (now word : ℕ) (u : UnitView) (w : Way)
    → IsOnWayIn (retry_count u.terms.retries) Deciding u.attempt u.statuses w
    → IsOnWayAt false (decide_row now word u).next w
decided_on_way now word u w (on, at, (early, (s, (e, failed)))) =
    decide_cases (λ r. IsOnWayAt false r.next w) now word u
    (λ more. let tried = failed_again early s u e at failed more in (on, at, tried.0, tried.1))
    (λ none. over u.statuses e at (ended_so early s u e at failed none))
  where
    over : (ss : List ExecuteStatus) → ss ≡ early ++ s ∷ [] → u.attempt ≡ length ss
        → MeetsAttemptLaw (retry_count u.terms.retries) ss → IsOverWith (retry_count u.terms.retries) u.attempt ss w
    over [] e at law = absurd law
    over (x ∷ ss) e at law =
        (at, subst (λ o. HasEndedAs o (retry_count u.terms.retries) (x ∷ ss)) (sym on.1) law)

-- where an attempt goes on, it was let go, and each before it failed with a retry left
open_on_way : (retries : ℕ) (ph : Phase) (attempt : ℕ) (ss : List ExecuteStatus) (w : Way) → is_open ph ≡ true
    → IsOnWayIn retries ph attempt ss w → IsUnderWay attempt w × (attempt ≡ length ss + 1) × AreFailed retries ss
open_on_way retries Starting attempt ss w on h = h
open_on_way retries Running attempt ss w on h = h
open_on_way retries Grace attempt ss w on h = h
open_on_way retries KillWait attempt ss w on h = h
open_on_way retries Leak attempt ss w on h = h
open_on_way retries EnvWait attempt ss w on h = h
open_on_way retries ph attempt ss w on h = cc

open_is : (retries : ℕ) (ph : Phase) (attempt : ℕ) (ss : List ExecuteStatus) (w : Way) → is_open ph ≡ true
    → IsUnderWay attempt w × (attempt ≡ length ss + 1) × AreFailed retries ss → IsOnWayIn retries ph attempt ss w
open_is retries Starting attempt ss w on h = h
open_is retries Running attempt ss w on h = h
open_is retries Grace attempt ss w on h = h
open_is retries KillWait attempt ss w on h = h
open_is retries Leak attempt ss w on h = h
open_is retries EnvWait attempt ss w on h = h
open_is retries ph attempt ss w on h = cc

moved_on_way : (u : UnitView) (r : Row) (w : Way) → Keeps u r.next → Moves u r
    → IsUnderWay u.attempt w × (u.attempt ≡ length u.statuses + 1)
    × AreFailed (retry_count u.terms.retries) u.statuses
    → IsOnWayAt false r.next w
moved_on_way u r w keeps moves (on, at, failed) = rw keeps.terms (by_move moves)
  where
    by_move : Moves u r → IsOnWayIn (retry_count u.terms.retries) r.next.phase r.next.attempt r.next.statuses w
    by_move (inl goes) =
        rw (goes.attempt, goes.statuses)
        (open_is (retry_count u.terms.retries) r.next.phase u.attempt u.statuses w goes.phase (on, at, failed))
    by_move (inr ends) =
        rw (ends.phase, ends.attempt, ends.statuses)
        (on, at ∙ sym (length-append u.statuses (ends.status ∷ [])), (u.statuses, (ends.status, (refl, failed))))

-- a delay goes on, or is over
passed_on_way : (u : UnitView) (r : Row) (w : Way) → Passes u r
    → IsOnWayIn (retry_count u.terms.retries) Delay u.attempt u.statuses w → IsOnWayAt false r.next w
passed_on_way u r w it h = by_way it.way
  where
    by_way : StaysOrGoes u r → IsOnWayAt false r.next w
    by_way (inl stays) = rw (stays.0, it.keeps.terms, it.attempt, it.statuses) h
    by_way (inr goes) = rw (goes.0, it.keeps.terms, it.attempt, it.statuses) h

pub and_false : (b : Bool) → (b && false) ≡ false
and_false true = refl
and_false false = refl

pub and_true : (b : Bool) → (b && true) ≡ b
and_true true = refl
and_true false = refl

-- a start is answered by whether a cause stands: its test is let go, or was never started
answered_on_way : (now : ℕ) (go : Bool) (u : UnitView) (w : Way) (why : Option CancelReason) → go ≡ is_none why
    → IsOnWayIn (retry_count u.terms.retries) StartSent u.attempt u.statuses w
    → IsOnWayAt false (row_at now StartSent (Answered go) u).next (way_with true why w)
answered_on_way now true u w None is (waits, at, none) =
    rw (none, waits.0, waits.1) ((omega arith, refl, sym at), at, (refl, omega arith))
answered_on_way now false u w (Some why) is (waits, at, none) = rw (none, waits.0, waits.1) refl
answered_on_way now true u w (Some why) is h = cc
answered_on_way now false u w None is h = cc

-- and so is a retry: it is let go once more, or was left
retried_on_way : (now : ℕ) (go : Bool) (u : UnitView) (w : Way) (why : Option CancelReason) → go ≡ is_none why
    → IsOnWayIn (retry_count u.terms.retries) RetrySent u.attempt u.statuses w
    → IsOnWayAt false (row_at now RetrySent (Answered go) u).next (way_with true why w)
retried_on_way now true u w None is (on, at, failed, some) =
    let delivered : 0 < w.delivered = on.0 in (
      (
        omega arith,
        ap (λ o. option_or o None) on.1,
        ap (λ n. n + 1) on.2,
      ),
      ap (λ n. n + 1) at,
      failed,
    )
retried_on_way now false u w (Some why) is (on, at, failed, some) = over u.statuses at failed some
  where
    over : (ss : List ExecuteStatus) → u.attempt ≡ length ss → AreFailed (retry_count u.terms.retries) ss
        → 0 < length ss
        → IsOverWith (retry_count u.terms.retries) u.attempt ss (way_with true (Some why) w)
    over [] at failed some = absurd (omega arith)
    over (s ∷ ss) at failed some =
        rw on.1 (at, ((failed.0, failed.1, some), sym (on.2 ∙ at)))
retried_on_way now true u w (Some why) is h = cc
retried_on_way now false u w None is h = cc

-- what an own turn of a unit makes of that: one that is skipped takes none
own_on_way : (mm : Bool) (now : ℕ) (turn : UnitTurn) (u : UnitView) (t q : List News) (w : Way)
    (why : Option CancelReason)
    → takes now u turn ≡ true → ((go : Bool) → turn ≡ Answered go → go ≡ is_none why)
    → HasAccountAt mm (is_at_retry w.stopped) u.phase u.statuses t q → IsOnWayAt mm u w
    → IsOnWayAt mm (row now turn u).next (way_with (is_answer turn) why w)
own_on_way true now turn u t q w why en go a h = absurd (skipped u.phase u.statuses en a)
  where
    skipped : (ph : Phase) (ss : List ExecuteStatus) → takes_at now ph u turn ≡ true
        → HasAccountAt true (is_at_retry w.stopped) ph ss t q → ⊥
    skipped Over ss en a = cc
    skipped ph ss en a = a
own_on_way false now turn u t q w why en go a h = by_take (row_takes now u.phase turn u en)
  where
    v : UnitView
    v = at_moment now u

    in_phase : (at : Phase) → u.phase ≡ at → IsOnWayIn (retry_count u.terms.retries) at u.attempt u.statuses w
    in_phase at e = subst (λ ph. IsOnWayIn (retry_count u.terms.retries) ph u.attempt u.statuses w) e h

    still : is_answer turn ≡ false → IsOnWayAt false (row now turn u).next w
        → IsOnWayAt false (row now turn u).next (way_with (is_answer turn) why w)
    still quiet h =
        subst (λ b. IsOnWayAt false (row now turn u).next (way_with b why w)) (sym quiet)
        (subst (IsOnWayAt false (row now turn u).next) (sym (way_still why w)) h)

    open_answer : (ph : Phase) (turn : UnitTurn) → is_open ph ≡ true → takes_at now ph u turn ≡ true
        → is_answer turn ≡ false
    open_answer ph (Answered go) on en = no_answer ph on en
      where
        no_answer : (ph : Phase) → is_open ph ≡ true → takes_at now ph u (Answered go) ≡ true
            → is_answer (Answered go) ≡ false
        no_answer StartSent on en = cc
        no_answer RetrySent on en = cc
        no_answer ph on en = cc
    open_answer ph turn on en = refl

    waits_none : (turn ≡ Due) ⊎ (turn ≡ Take) → is_answer turn ≡ false
    waits_none (inl to) = ap is_answer to
    waits_none (inr to) = ap is_answer to

    by_take : Takes u.phase turn → IsOnWayAt false (row now turn u).next (way_with (is_answer turn) why w)
    by_take (answers go_now at to) =
        subst (λ turn. IsOnWayAt false (row now turn u).next (way_with (is_answer turn) why w)) (sym to)
        (subst (λ ph. IsOnWayAt false (row_at now ph (Answered go_now) v).next (way_with true why w)) (sym at)
        (answered_on_way now go_now v w why (go go_now to) (in_phase StartSent at)))
    by_take (opens on) =
        still (open_answer u.phase turn on en)
        (moved_on_way v (row_at now u.phase turn v) w (row_keeps now u.phase turn v refl)
        (row_moves now u.phase turn v refl on)
        (open_on_way (retry_count u.terms.retries) u.phase u.attempt u.statuses w on h))
    by_take (decides word at to) =
        still (ap is_answer to)
        (subst (λ turn. IsOnWayAt false (row now turn u).next w) (sym to)
        (subst (λ ph. IsOnWayAt false (row_at now ph (Decide word) v).next w) (sym at)
        (decided_on_way now word v w (in_phase Deciding at))))
    by_take (passes at to) =
        still (waits_none to)
        (subst (λ ph. IsOnWayAt false (row_at now ph turn v).next w) (sym at)
        (passed_on_way v (row_at now Delay turn v) w (row_passes now turn v at) (in_phase Delay at)))
    by_take (again go_now at to) =
        subst (λ turn. IsOnWayAt false (row now turn u).next (way_with (is_answer turn) why w)) (sym to)
        (subst (λ ph. IsOnWayAt false (row_at now ph (Answered go_now) v).next (way_with true why w)) (sym at)
        (retried_on_way now go_now v w why (go go_now to) (in_phase RetrySent at)))

-- whose start or retry a part delivers
pub lets_go-is : (j k : ℕ) (turn : UnitTurn) → lets_go k (Some (Acts j turn)) ≡ (is_answer turn && (j == k))
lets_go-is j k (Answered go) = refl
lets_go-is j k turn = refl

-- a request says nothing of that
reach_on_way : (mm : Bool) (request : Option Request) (v : Option UnitView) (w : Way)
    → IsOnWay mm v w → IsOnWay mm (reach request v) w
reach_on_way mm None v w h = h
reach_on_way mm (Some request) None w h = h
reach_on_way mm (Some request) (Some u) w h = by_live mm (is_live u.phase) h
  where
    by_live : (mm b : Bool) → IsOnWayAt mm u w
        → IsOnWay mm (Some (if b then record u { line = u.line ++ request ∷ [] } else u)) w
    by_live true true h = h
    by_live true false h = h
    by_live false true h = h
    by_live false false h = h

-- how far a test is after one more part
part_on_way : (p : Settings) (run : List Happening) (now k : ℕ) (part : Option UnitPart) (v : Option UnitView)
    (t q : List News) (w : Way)
    → IsOnWay (is_mismatched p k) v w → HasAccount (is_mismatched p k) (is_at_retry w.stopped) v t q
    → v ≡ unit_of k run → PartFits p now run part
    → IsOnWay (is_mismatched p k) (unit_after now k part v) (way_with (lets_go k part) (reason run) w)
part_on_way p run now k None v t q w h a is fits =
    subst (IsOnWay (is_mismatched p k) v) (sym (way_still (reason run) w)) h
part_on_way p run now k (Some (Joins first)) v t q w h a is (sent, new) =
    subst (IsOnWay (is_mismatched p k) (if (number first) == k then Some first else v))
    (sym (way_still (reason run) w)) (begins ((number first) == k) refl)
  where
    first_on_way : (mm : Bool) (m : Message) → IsFirst mm first m → IsWaiting w → IsOnWayAt mm first w
    first_on_way true m is waits = waits
    first_on_way false m (ph, sends) waits = rw ph (waits, new.attempt, new.statuses)

    begins : (b : Bool) → ((number first) == k) ≡ b
        → IsOnWay (is_mismatched p k) (if b then Some first else v) w
    begins true e =
        let here : (number first) ≡ k = grind arith in
        let none : v ≡ None = is ∙ ap (λ k. unit_of k run) (sym here) ∙ new.unknown in
        subst (λ k. IsOnWay (is_mismatched p k) (Some first) w) here
        (first_on_way _ sent new.first (subst (λ v. IsOnWay (is_mismatched p k) v w) none h))
    begins false e = h
part_on_way p run now k (Some (Acts j turn)) v t q w h a is taken =
    subst (λ b. IsOnWay (is_mismatched p k) (unit_after now k (Some (Acts j turn)) v)
    (way_with b (reason run) w)) (sym (lets_go-is j k turn)) (by_unit (j == k) refl)
  where
    mm : Bool
    mm = is_mismatched p k

    by_unit : (b : Bool) → (j == k) ≡ b
        → IsOnWay mm (if b then option_map (λ w. (row now turn w).next) v else v)
        (way_with (is_answer turn && b) (reason run) w)
    by_unit true e =
        let here : k ≡ j = grind arith in
        let own : v ≡ Some taken.unit = is ∙ ap (λ k. unit_of k run) here ∙ taken.is in
        subst (λ b. IsOnWay mm (option_map (λ w. (row now turn w).next) v) (way_with b (reason run) w))
        (sym (and_true (is_answer turn)))
        (subst (λ u. IsOnWay mm (option_map (λ w. (row now turn w).next) u) (way_with (is_answer turn) (reason run) w))
        (sym own)
        (own_on_way mm now turn taken.unit t q w (reason run) taken.takes taken.answers
        (subst (λ u. HasAccount mm (is_at_retry w.stopped) u t q) own a) (subst (λ u. IsOnWay mm u w) own h)))
    by_unit false e =
        subst (λ b. IsOnWay mm v (way_with b (reason run) w)) (sym (and_false (is_answer turn)))
        (subst (IsOnWay mm v) (sym (way_still (reason run) w)) h)

pub on_way_after : (p : Settings) (run : List Happening) (now k : ℕ) (request : Option Request) (part : Option UnitPart)
    (v : Option UnitView) (t q : List News) (w : Way)
    → IsOnWay (is_mismatched p k) v w → HasAccount (is_mismatched p k) (is_at_retry w.stopped) v t q
    → v ≡ unit_of k run → PartFits p now run part
    → IsOnWay (is_mismatched p k) (reach request (unit_after now k part v))
    (way_with (lets_go k part) (reason run) w)
on_way_after p run now k request part v t q w h a is fits =
    reach_on_way (is_mismatched p k) request (unit_after now k part v) _
    (part_on_way p run now k part v t q w h a is fits)
