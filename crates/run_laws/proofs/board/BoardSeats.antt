-- Where the tests stand on the board, after a turn of one.
use Rattle.std.specs.Prelude.{⊤}
use Rattle.std.proofs.Common.{◌≡◌, ◌≢◌, inl, inr, ℕ, ◌==◌, List, map, Bool, true, false, if◌then◌else◌, Option, Some}
use Rattle.std.proofs.Common.{None, option_map, option_to_list, refl, ap, sym, subst, ◌∙◌, arith}
use Rattle.std.specs.List.{range_with_len}
use Rattle.std.proofs.lemmas.Grind.{common_steps}
use Rattle.run_events.specs.declared.settings.Settings.{Settings}
use Rattle.run_events.specs.declared.message.Message.{Message}
use Rattle.run_events.specs.declared.message.Message.TheVariants.{ScriptSlow, Start, Slow, Finish}
use Rattle.run_events.specs.declared.result.ExecuteStatus.{ExecuteStatus}
use Rattle.run_admission.specs.declared.seat.Seat.{Seat}
use Rattle.run_admission.specs.declared.seat.Seat.TheVariants.{Gone}
use Rattle.run_admission.specs.InUse.{is_in_use}
use Rattle.run_admission.proofs.FewerLemmas.{AreKept, IsBelow, below-map, kept_below}
use Rattle.run_model.specs.declared.happening.Happening.{Happening}
use Rattle.run_model.specs.declared.happening.UnitPart.{UnitPart}
use Rattle.run_model.specs.declared.happening.UnitPart.TheVariants.{Acts}
use Rattle.run_model.specs.declared.phase.Phase.{Phase}
use Rattle.run_model.specs.declared.phase.Phase.TheVariants.{StartSent, RetrySent, Over}
use Rattle.run_model.specs.declared.unit_turn.UnitTurn.{UnitTurn}
use Rattle.run_model.specs.declared.unit_turn.UnitTurn.TheVariants.{Answered}
use Rattle.run_model.specs.declared.unit_view.ScriptRole.{ScriptRole}
use Rattle.run_model.specs.declared.unit_view.TestRole.{TestRole}
use Rattle.run_model.specs.declared.unit_view.UnitRole.{UnitRole}
use Rattle.run_model.specs.declared.unit_view.UnitRole.TheVariants as roles
use Rattle.run_model.specs.declared.unit_view.UnitView.{UnitView}
use Rattle.run_model.specs.Environment.{number_of, number}
use Rattle.run_model.specs.Ending.{last_status}
use Rattle.run_model.specs.Row.{Row}
use Rattle.run_model.specs.Retries.{decided, delayed, next_delay, failure_message, retry_message, finish_message}
use Rattle.run_model.specs.Retries.{script_finish}
use Rattle.run_model.specs.Unit.{at_moment, row, row_at, takes, takes_at}
use Rattle.run_model.specs.Words.{unit_of, unit_after}
use Rattle.run_model.specs.Admission.{is_last, seat_as, seat_of, tests_in, unit_of_test}
use Rattle.run_laws.specs.Limits.{limits_with}
use Rattle.run_laws.proofs.units.OpenRows.{IsReport, Moves}
use Rattle.run_laws.proofs.units.Rows.{open_on, row_keeps, row_moves, continues, Takes, answers, opens, decides}
use Rattle.run_laws.proofs.units.Rows.{passes, again, StaysOrGoes, Passes, row_passes, decide_cases, row_takes}
use Rattle.run_laws.proofs.units.Rows.{takes_moment}
use Rattle.run_laws.proofs.board.OpenSeats.{at_last, AreLower, IsOfFewer}

-- where each unit stands after a sub-run
abbrev pub board_seat : List Happening → ℕ → Seat
board_seat run k = seat_of (unit_of k run)

-- where each unit stands after a sub-run and the part of one more turn
abbrev pub seat_after : ℕ → Option UnitPart → List Happening → ℕ → Seat
seat_after now part run k = seat_of (unit_after now k part (unit_of k run))

-- in such seats the tests in use keep the limits and hold slots of their own
abbrev pub AreKeptIn : Settings → (ℕ → Seat) → Type 0
AreKeptIn p seat = AreKept (limits_with p seat)

-- in lower seats the limits are kept where they are in higher ones
pub kept_fewer : (p : Settings) → IsOfFewer (AreKeptIn p)
kept_fewer p seat other h kept =
    kept_below (limits_with p other) (map (λ j. seat (unit_of_test p j)) (range_with_len 0 (tests_in p)))
    (below-map (λ j. seat (unit_of_test p j)) (λ j. other (unit_of_test p j)) (range_with_len 0 (tests_in p))
    (λ j. h (unit_of_test p j)))
    kept

-- a unit that is over takes no turn
row_over : (now : ℕ) (ph : Phase) (turn : UnitTurn) (u : UnitView) → is_last ph ≡ true → (row_at now ph turn u).next ≡ u
row_over now Over turn u e = refl
row_over now ph turn u e = cc

-- two units of one role, neither of which is over, are in the same seat
pub seat_going : (u : UnitView) → is_last u.phase ≡ false → seat_of (Some u) ≡ seat_as u.role
seat_going u e = ap (λ b. if b then Gone else seat_as u.role) e

same_seat : (u v : UnitView) → v.role ≡ u.role → is_last u.phase ≡ false → is_last v.phase ≡ false
    → seat_of (Some v) ≡ seat_of (Some u)
same_seat u v role e f = seat_going v f ∙ ap seat_as role ∙ sym (seat_going u e)

-- a row leaves a unit its seat, or ends its use
row_lowers : (now : ℕ) (ph : Phase) (turn : UnitTurn) (u : UnitView) → u.phase ≡ ph
    → is_in_use (seat_of (Some (row_at now ph turn u).next)) ≡ true
    → seat_of (Some (row_at now ph turn u).next) ≡ seat_of (Some u)
row_lowers now ph turn u is used = by_last (is_last u.phase) refl
  where
    by_next : (b : Bool) → is_last (row_at now ph turn u).next.phase ≡ b → is_last u.phase ≡ false
        → seat_of (Some (row_at now ph turn u).next) ≡ seat_of (Some u)
    by_next false f e = same_seat u (row_at now ph turn u).next (row_keeps now ph turn u is).role e f
    by_next true f e =
        let never : false ≡ true =
        sym (ap (λ b. is_in_use (if b then Gone else seat_as (row_at now ph turn u).next.role)) f) ∙ used in cc

    by_last : (b : Bool) → is_last u.phase ≡ b → seat_of (Some (row_at now ph turn u).next) ≡ seat_of (Some u)
    by_last false e = by_next (is_last (row_at now ph turn u).next.phase) refl e
    by_last true e = ap (λ (v : UnitView). seat_of (Some v)) (row_over now ph turn u (ap is_last (sym is) ∙ e))

-- a message that neither starts nor finishes a test leaves all seats
abbrev IsQuiet : Option Message → Type 0
IsQuiet None = ⊤
IsQuiet (Some (Start start)) = ⊥
IsQuiet (Some (Finish finish)) = ⊥
IsQuiet _ = ⊤

quiet_leaves : (seat : ℕ → Seat) (m : Option Message) (k : ℕ) → IsQuiet m → at_last seat (option_to_list m) k ≡ seat k
quiet_leaves seat None k h = refl
quiet_leaves seat (Some (Start start)) k h = absurd h
quiet_leaves seat (Some (Finish finish)) k h = absurd h
quiet_leaves seat (Some m) k h = refl

report_quiet : (m : Option Message) → IsReport m → IsQuiet m
report_quiet None h = tt
report_quiet (Some (Slow slow)) h = tt
report_quiet (Some (ScriptSlow slow)) h = tt
report_quiet (Some m) h = absurd h

failed_quiet : (delay : ℕ) (role : UnitRole) (status : Option ExecuteStatus)
    → IsQuiet (failure_message role delay status)
failed_quiet delay (roles.Test t) None = tt
failed_quiet delay (roles.Test t) (Some status) = tt
failed_quiet delay (roles.Script s) status = tt

retry_quiet : (role : UnitRole) (u : UnitView) → IsQuiet (retry_message role u)
retry_quiet (roles.Test t) u = tt
retry_quiet (roles.Script s) u = tt

script_quiet : (s : ScriptRole) (u : UnitView) (status : Option ExecuteStatus)
    → IsQuiet (option_map (script_finish s u) status)
script_quiet s u None = tt
script_quiet s u (Some status) = tt

-- a row after which the unit isn't over, and that sends no more than such a message
record Stays (r : Row) : Type 0 where
  phase : is_last r.next.phase ≡ false
  sent : IsQuiet r.sent

moves_stays : (u : UnitView) (r : Row) → Moves u r → Stays r
moves_stays u r moves =
    let on = continues u r moves in record { phase = on.phase; sent = report_quiet r.sent on.sent }

passes_stays : (u : UnitView) (r : Row) → Passes u r → Stays r
passes_stays u r it = by_way it.way
  where
    by_way : StaysOrGoes u r → Stays r
    by_way (inl stays) = record { phase = ap is_last stays.0; sent = subst IsQuiet (sym stays.1) tt }
    by_way (inr goes) = record { phase = ap is_last goes.0; sent = subst IsQuiet (sym goes.1) (retry_quiet u.role u) }

-- a row that ends the use of a seat sends the finish that closes it: the last seat of its unit stays below the board's
row_finishes : (now : ℕ) (ph : Phase) (turn : UnitTurn) (u : UnitView) (seat : ℕ → Seat) → u.phase ≡ ph
    → takes_at now ph u turn ≡ true → turn ≢ Answered false
    → IsBelow (seat (number u)) (seat_of (Some u))
    → IsBelow (at_last seat (option_to_list (row_at now ph turn u).sent) (number u))
    (seat_of (Some (row_at now ph turn u).next))
row_finishes now ph turn u seat is en goes below = by_take (row_takes now ph turn u en)
  where
    EndsBelow : Row → Type 0
    EndsBelow r = IsBelow (at_last seat (option_to_list r.sent) (number u)) (seat_of (Some r.next))

    stays : (r : Row) → r.next.role ≡ u.role → is_last ph ≡ false → Stays r → EndsBelow r
    stays r role before on used =
        let quiet = quiet_leaves seat r.sent (number u) on.sent in
        quiet ∙ below (ap is_in_use (sym quiet) ∙ used) ∙ sym
        (same_seat u r.next role (ap is_last is ∙ before) on.phase)

    keeps : (row_at now ph turn u).next.role ≡ u.role
    keeps = (row_keeps now ph turn u is).role

    closes : (t : TestRole) → at_last seat (option_to_list (finish_message (roles.Test t) u)) t.test.unit ≡ Gone
    closes t = grind (arith, common_steps)

    done : is_last ph ≡ false → EndsBelow (decided u)
    done going = by_role u.role refl
      where
        by_role : (role : UnitRole) → u.role ≡ role
            → IsBelow (at_last seat (option_to_list (finish_message role u)) (number_of role)) Gone
        by_role (roles.Test t) role used = closes t
        by_role (roles.Script s) role used =
            let leaves = quiet_leaves seat (finish_message (roles.Script s) u) s.script.unit
            (script_quiet s u (last_status u.statuses)) in
            let here : number u ≡ s.script.unit = ap number_of role in
            leaves ∙ sym (ap seat here)
            ∙ below (ap (λ i. is_in_use (seat i)) here ∙ sym (ap is_in_use leaves) ∙ used)
            ∙ seat_going u (ap is_last is ∙ going) ∙ ap seat_as role

    by_take : Takes ph turn → EndsBelow (row_at now ph turn u)
    by_take (answers true at to) =
        stays (row_at now ph turn u) keeps (ap is_last at) (rw (at, to) (record { phase = refl; sent = tt }))
    by_take (answers false at to) = absurd (goes to)
    by_take (opens on) =
        stays (row_at now ph turn u) keeps (open_on ph on) (moves_stays u _ (row_moves now ph turn u is on))
    by_take (decides word at to) =
        rw (at, to) (decide_cases EndsBelow now word u
        (λ retry. stays (delayed now (next_delay word u) u) refl (ap is_last at)
        (record { phase = refl; sent = failed_quiet (next_delay word u) u.role (last_status u.statuses) }))
        (λ none. done (ap is_last at)))
    by_take (passes at to) =
        stays (row_at now ph turn u) keeps (ap is_last at)
        (passes_stays u _ (rw at (row_passes now turn u (is ∙ at))))
    by_take (again true at to) =
        stays (row_at now ph turn u) keeps (ap is_last at) (rw (at, to) (record { phase = refl; sent = tt }))
    by_take (again false at to) = absurd (goes to)

-- what a row sends leaves the seats of other units
row_others : (now : ℕ) (ph : Phase) (turn : UnitTurn) (u : UnitView) (seat : ℕ → Seat) (k : ℕ) → u.phase ≡ ph
    → takes_at now ph u turn ≡ true
    → ((number u) == k) ≡ false → at_last seat (option_to_list (row_at now ph turn u).sent) k ≡ seat k
row_others now ph turn u seat k is en apart = by_take (row_takes now ph turn u en)
  where
    Leaves : Row → Type 0
    Leaves r = at_last seat (option_to_list r.sent) k ≡ seat k

    finish_apart : (role : UnitRole) → (number_of role == k) ≡ false
        → at_last seat (option_to_list (finish_message role u)) k ≡ seat k
    finish_apart (roles.Test t) apart = ap (λ b. if b then Gone else seat k) apart
    finish_apart (roles.Script s) apart =
        quiet_leaves seat (finish_message (roles.Script s) u) k (script_quiet s u (last_status u.statuses))

    by_go : (go : Bool) → Leaves (row_at now StartSent (Answered go) u)
    by_go true = refl
    by_go false = refl

    once_more : (go : Bool) → Leaves (row_at now RetrySent (Answered go) u)
    once_more true = refl
    once_more false = refl

    by_take : Takes ph turn → Leaves (row_at now ph turn u)
    by_take (answers go at to) = rw (at, to) (by_go go)
    by_take (opens on) = quiet_leaves seat _ k (moves_stays u _ (row_moves now ph turn u is on)).sent
    by_take (decides word at to) =
        rw (at, to) (decide_cases Leaves now word u
        (λ retry. quiet_leaves seat _ k (failed_quiet (next_delay word u) u.role (last_status u.statuses)))
        (λ none. finish_apart u.role apart))
    by_take (passes at to) =
        quiet_leaves seat _ k (passes_stays u (row_at now ph turn u) (rw at (row_passes now turn u (is ∙ at)))).sent
    by_take (again go at to) = rw (at, to) (once_more go)

-- a unit's own turn leaves the board's seats, or ends the use of its own
pub acts_lower : (now j : ℕ) (turn : UnitTurn) (run : List Happening)
    → AreLower (seat_after now (Some (Acts j turn)) run) (board_seat run)
acts_lower now j turn run k = by_unit (j == k) (unit_of k run)
  where
    by_unit : (b : Bool) (v : Option UnitView)
        → IsBelow (seat_of (if b then option_map (λ v. (row now turn v).next) v else v)) (seat_of v)
    by_unit true None used = refl
    by_unit true (Some u) used = row_lowers now u.phase turn (at_moment now u) refl used
    by_unit false v used = refl

-- a unit's own turn leaves the last seats below the board's
pub acts_last : (now j : ℕ) (turn : UnitTurn) (run : List Happening) (u : UnitView) (seat : ℕ → Seat)
    → unit_of j run ≡ Some u → takes now u turn ≡ true → turn ≢ Answered false → (number u) ≡ j
    → AreLower seat (board_seat run)
    → AreLower (at_last seat (option_to_list (row now turn u).sent)) (seat_after now (Some (Acts j turn)) run)
acts_last now j turn run u seat is en goes named below k = by_unit (j == k) refl
  where
    by_unit : (b : Bool) → (j == k) ≡ b
        → IsBelow (at_last seat (option_to_list (row now turn u).sent) k)
        (seat_of (if b then option_map (λ v. (row now turn v).next) (unit_of k run) else unit_of k run))
    by_unit true e =
        let own : (number u) ≡ k = grind arith in
        let here : unit_of k run ≡ Some u = ap (λ k. unit_of k run) (sym own ∙ named) ∙ is in
        let was : IsBelow (seat (number u)) (seat_of (Some u)) =
        subst (λ i. IsBelow (seat i) (seat_of (Some u))) (sym own)
        (subst (λ v. IsBelow (seat k) (seat_of v)) here (below k)) in
        subst (λ v. IsBelow (at_last seat (option_to_list (row now turn u).sent) k)
        (seat_of (option_map (λ v. (row now turn v).next) v))) (sym here)
        (subst (λ i. IsBelow (at_last seat (option_to_list (row now turn u).sent) i)
        (seat_of (Some (row now turn u).next))) own
        (row_finishes now u.phase turn (at_moment now u) seat refl (takes_moment now u.phase u turn en) goes was))
    by_unit false e =
        let apart : ((number u) == k) ≡ false = grind arith in
        subst (λ s. IsBelow s (board_seat run k))
        (sym (row_others now u.phase turn (at_moment now u) seat k refl (takes_moment now u.phase u turn en) apart))
        (below k)

-- a unit whose start is refused gives its seat back: the last seats stay below the board's where it is in none of them
pub acts_refused : (now j : ℕ) (run : List Happening) (u : UnitView) (seat : ℕ → Seat)
    → unit_of j run ≡ Some u → u.phase ≡ StartSent → seat j ≡ Gone → AreLower seat (board_seat run)
    → AreLower (at_last seat (option_to_list (row now (Answered false) u).sent))
    (seat_after now (Some (Acts j (Answered false))) run)
acts_refused now j run u seat is waits gone below k = by_unit (j == k) refl
  where
    quiet : at_last seat (option_to_list (row now (Answered false) u).sent) k ≡ seat k
    quiet = ap (λ ph. at_last seat (option_to_list (row_at now ph (Answered false) (at_moment now u)).sent) k) waits

    by_unit : (b : Bool) → (j == k) ≡ b
        → IsBelow (at_last seat (option_to_list (row now (Answered false) u).sent) k)
        (seat_of (if b then option_map (λ v. (row now (Answered false) v).next) (unit_of k run) else unit_of k run))
    by_unit true e used =
        let here : k ≡ j = grind arith in
        let never : false ≡ true = sym (ap is_in_use (quiet ∙ ap seat here ∙ gone)) ∙ used in cc
    by_unit false e used = subst (λ s. IsBelow s (board_seat run k)) (sym quiet) (below k) used
