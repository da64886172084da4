-- What a row answers, and what it leaves in the line to answer.
use Rattle.std.proofs.Common.{◌≡◌, ◌⊎◌, inl, inr, ℕ, ◌&&◌, List, [], ◌∷◌, ◌++◌, drop, Bool, true, false}
use Rattle.std.proofs.Common.{if◌then◌else◌, Option, Some, None, is_none, is_some, option_to_list, refl, ap, sym, subst}
use Rattle.std.proofs.Common.{◌∙◌}
use Rattle.std.specs.Option.{option_or}
use Rattle.std.proofs.lemmas.List.{append-nil}
use Rattle.run_events.specs.declared.cancel.CancelReason.{CancelReason}
use Rattle.run_events.specs.declared.request.Request.{Request}
use Rattle.run_events.specs.declared.result.ExecuteStatus.{ExecuteStatus}
use Rattle.run_model.specs.declared.phase.Phase.{Phase}
use Rattle.run_model.specs.declared.phase.Phase.TheVariants.{Deciding, Delay, Over}
use Rattle.run_model.specs.declared.unit_turn.UnitTurn.{UnitTurn}
use Rattle.run_model.specs.declared.unit_turn.UnitTurn.TheVariants.{Answered, Decide}
use Rattle.run_model.specs.declared.unit_view.UnitView.{UnitView}
use Rattle.run_model.specs.Admission.{is_done, is_last}
use Rattle.run_model.specs.Ending.{last_status}
use Rattle.run_model.specs.Info.{rounds_in}
use Rattle.run_model.specs.Retries.{decide_row}
use Rattle.run_model.specs.Row.{Row}
use Rattle.run_model.specs.Story.{is_live_unit, request_of}
use Rattle.run_model.specs.Unit.{is_live, reach, row_at, takes_at}
use Rattle.run_laws_rounds.proofs.rounds.RowAnswers.{delay_answers, finish_answers, open_answers, rounds_by}
use Rattle.run_laws.proofs.board.ByTurn.{is_answer}
use Rattle.run_laws.proofs.units.Lines.{is_take}
use Rattle.run_laws.proofs.units.Rows.{StaysOrGoes, Takes, answers, opens, decides, passes, again, continues}
use Rattle.run_laws.proofs.units.Rows.{decide_cases, row_moves, row_passes, row_takes}

-- what was broadcast to unit k with a turn
abbrev pub heard_with : Option Request → Option UnitView → List Request
heard_with request v = if is_live_unit v then option_to_list request else []

-- a unit that is over is reached by nothing
pub reach_done : (request : Option Request) (v : Option UnitView) → is_done (reach request v) ≡ is_done v
reach_done None v = refl
reach_done (Some request) None = refl
reach_done (Some request) (Some u) = by_live (is_live u.phase)
  where
    by_live : (b : Bool) → is_last (if b then record u { line = u.line ++ request ∷ [] } else u).phase ≡ is_last u.phase
    by_live true = refl
    by_live false = refl

pub done_deaf : (request : Option Request) (v : Option UnitView) → is_done v ≡ true → heard_with request v ≡ []
done_deaf request None done = cc
done_deaf request (Some u) done = by_phase u.phase done
  where
    by_phase : (ph : Phase) → is_last ph ≡ true → (if is_live ph then option_to_list request else []) ≡ []
    by_phase Over done = refl
    by_phase ph done = cc

-- what is left to answer of a line after a turn that is none of its unit's own: the same as before
pub still_left : (request : Option Request) (v : Option UnitView) (stopped : Option ℕ) (line : List Request)
    → (if is_done (reach request v) && is_none stopped then line ++ heard_with request v else [])
    ≡ (if is_done v && is_none stopped then line else [])
still_left request v stopped line =
    ap (λ b. if b && is_none stopped then line ++ heard_with request v else []) (reach_done request v)
    ∙ by_done (is_done v) refl
  where
    by_done : (b : Bool) → is_done v ≡ b
        → (if b && is_none stopped then line ++ heard_with request v else [])
        ≡ (if b && is_none stopped then line else [])
    by_done true e = ap (λ ls. if is_none stopped then ls else [])
        (ap (λ ls. line ++ ls) (done_deaf request v e) ∙ append-nil line)
    by_done false e = refl

-- where a unit that took these turns is stopped after one more that delivers, or not, for this reason
abbrev pub stopped_with : Option ℕ → Bool → Option CancelReason → ℕ → Option ℕ
stopped_with stopped delivers why delivered =
    option_or stopped (if delivers && is_some why then Some delivered else None)

-- what a unit's own turn answers, and what it leaves to answer of this line
abbrev pub LeavesOwn : UnitTurn → List Request → Option ℕ → Row → Type 0
LeavesOwn turn line stopped r =
    rounds_by r.info ≡ rounds_in (option_to_list (request_of turn line))
    ++ rounds_in (if is_last r.next.phase && is_none stopped then drop (if is_take turn then 1 else 0) line else [])

-- it isn't over: nothing is left
leaves_none : (turn : UnitTurn) (line : List Request) (stopped : Option ℕ) (r : Row) → is_last r.next.phase ≡ false
    → rounds_by r.info ≡ rounds_in (option_to_list (request_of turn line)) → LeavesOwn turn line stopped r
leaves_none turn line stopped r on answered =
    answered ∙ sym (append-nil (rounds_in (option_to_list (request_of turn line))))
    ∙ ap (λ b. rounds_in (option_to_list (request_of turn line))
    ++ rounds_in (if b && is_none stopped then drop (if is_take turn then 1 else 0) line else [])) (sym on)

-- it was stopped: nothing is left either
pub leaves_stopped : (line : List Request) (stopped : Option ℕ) (why : Option CancelReason) (delivered : ℕ)
    (last : Bool)
    → stopped ≡ None → false ≡ is_none why
    → rounds_in (if last && is_none (stopped_with stopped true why delivered) then line else []) ≡ []
leaves_stopped line stopped None delivered last none never = cc
leaves_stopped line stopped (Some why) delivered true none never = rw none refl
leaves_stopped line stopped (Some why) delivered false none never = refl

pub row_leaves : (now : ℕ) (ph : Phase) (turn : UnitTurn) (u : UnitView) (line : List Request) (stopped : Option ℕ)
    (why : Option CancelReason) (delivered : ℕ) → u.phase ≡ ph → takes_at now ph u turn ≡ true
    → request_of turn line ≡ request_of turn u.line → (ph ≡ Deciding → u.line ≡ line) → stopped ≡ None
    → ((go : Bool) → turn ≡ Answered go → go ≡ is_none why)
    → ((ph ≡ Deciding) ⊎ (ph ≡ Delay) → (s : ExecuteStatus) × (last_status u.statuses ≡ Some s))
    → LeavesOwn turn line (stopped_with stopped (is_answer turn) why delivered) (row_at now ph turn u)
row_leaves now ph turn u line stopped why delivered is en asked lined none goes ended =
    by_take (row_takes now ph turn u en)
  where
    after : Option ℕ
    after = stopped_with stopped (is_answer turn) why delivered

    asked_own : (r : Row) → rounds_by r.info ≡ rounds_in (option_to_list (request_of turn u.line))
        → rounds_by r.info ≡ rounds_in (option_to_list (request_of turn line))
    asked_own r answered = answered ∙ ap (λ o. rounds_in (option_to_list o)) (sym asked)

    in_turn : (own : UnitTurn) → turn ≡ own
        → LeavesOwn own line (stopped_with stopped (is_answer own) why delivered) (row_at now ph own u)
        → LeavesOwn turn line (stopped_with stopped (is_answer turn) why delivered) (row_at now ph turn u)
    in_turn own to it =
        subst (λ turn. LeavesOwn turn line (stopped_with stopped (is_answer turn) why delivered) (row_at now ph turn u))
        (sym to) it

    by_decide : (word : ℕ) → ph ≡ Deciding → LeavesOwn (Decide word) line (stopped_with stopped false why delivered)
        (decide_row now word u)
    by_decide word at =
        let it = ended (inl at) in
        decide_cases (LeavesOwn (Decide word) line (stopped_with stopped false why delivered)) now word u
        (λ more. refl)
        (λ done. finish_answers u it.0 it.1 ∙ ap rounds_in (lined at)
        ∙ ap (λ o. rounds_in (if is_none (option_or o None) then line else [])) (sym none))

    delay_on : (u : UnitView) (r : Row) → StaysOrGoes u r → is_last r.next.phase ≡ false
    delay_on u r (inl stays) = ap is_last stays.0
    delay_on u r (inr goes) = ap is_last goes.0

    by_take : Takes ph turn → LeavesOwn turn line after (row_at now ph turn u)
    by_take (answers true at to) = in_turn (Answered true) to (rw at refl)
    by_take (answers false at to) = in_turn (Answered false) to
        (rw at (sym (leaves_stopped line stopped why delivered true none (goes false to))))
    by_take (opens on) =
        leaves_none turn line after (row_at now ph turn u)
        (continues u (row_at now ph turn u) (row_moves now ph turn u is on)).phase
        (asked_own (row_at now ph turn u) (open_answers now ph turn u on en).rounds)
    by_take (decides word at to) = in_turn (Decide word) to
        (subst (λ ph. LeavesOwn (Decide word) line (stopped_with stopped false why delivered)
        (row_at now ph (Decide word) u))
        (sym at) (by_decide word at))
    by_take (passes at to) =
        let it = ended (inr at) in
        subst (λ ph. LeavesOwn turn line after (row_at now ph turn u)) (sym at)
        (leaves_none turn line after (row_at now Delay turn u)
        (delay_on u (row_at now Delay turn u) (row_passes now turn u (is ∙ at)).way)
        (asked_own (row_at now Delay turn u) (delay_answers now turn u it.0 to it.1)))
    by_take (again true at to) = in_turn (Answered true) to (rw at refl)
    by_take (again false at to) = in_turn (Answered false) to
        (rw at (sym (leaves_stopped line stopped why delivered true none (goes false to))))
