-- The queries of a round in the line of a unit, and its answers to them.
use Rattle.std.proofs.Common.{◌≡◌, inl, inr, ℕ, ◌+◌, ◌≤◌, ◌==◌, List, [], ◌∷◌, ◌++◌, drop, length, count_by, filter_map}
use Rattle.std.proofs.Common.{Bool, true, false, cond, if◌then◌else◌, Option, Some, None, option_to_list, refl, ap, sym}
use Rattle.std.proofs.Common.{◌∙◌, arith, subst}
use Rattle.std.specs.List.{cons_option}
use Rattle.std.proofs.lemmas.List.Elements.{filter_map-append}
use Rattle.std.proofs.lemmas.List.Sums.{sum_by-append, sum_by-cons}
use Rattle.run_events.specs.declared.info.InfoResponse.{InfoResponse}
use Rattle.run_events.specs.declared.request.Request.{Request}
use Rattle.run_events.specs.declared.request.Request.TheVariants.{Stop, Continue, Shutdown, OtherCancel, GetInfo}
use Rattle.run_events.specs.declared.result.ExecuteStatus.{ExecuteStatus}
use Rattle.run_model.specs.declared.phase.Phase.{Phase}
use Rattle.run_model.specs.declared.phase.Phase.TheVariants.{Delay}
use Rattle.run_model.specs.declared.unit_turn.UnitTurn.{UnitTurn}
use Rattle.run_model.specs.declared.unit_turn.UnitTurn.TheVariants.{Take}
use Rattle.run_model.specs.declared.unit_view.UnitView.{UnitView}
use Rattle.run_model.specs.Ending.{last_status}
use Rattle.run_model.specs.Info.{answers_to, exited_answer, round_of, rounds_in}
use Rattle.run_model.specs.Requests.{take_row}
use Rattle.run_model.specs.Rounds.{answer_of}
use Rattle.run_model.specs.Row.{Row}
use Rattle.run_model.specs.Story.{oldest, request_of}
use Rattle.run_model.specs.Words.{times}
use Rattle.run_model.specs.Unit.{at_moment, row, row_at, takes, takes_at}
use Rattle.run_laws_rounds.proofs.rounds.RowAnswers.{open_answers, rounds_by, rounds_to}
use Rattle.run_laws_rounds.proofs.rounds.Taken.{oldest_first}
use Rattle.run_laws.proofs.units.Lines.{left_of, row_line, taken_line}
use Rattle.run_laws.proofs.units.Rows.{Takes, answers, opens, decides, passes, again, decide_cases, row_takes}
use Rattle.run_laws.proofs.units.Rows.{takes_moment}

-- how many queries of a round a unit has in its line
abbrev pub queries_of : ℕ → Option UnitView → ℕ
queries_of round None = 0
queries_of round (Some u) = times round (rounds_in u.line)

-- the answers to a round are as many as stand with it
pub answers_times : (round : ℕ) (info : List (ℕ × InfoResponse))
    → length (filter_map (answer_of (Some (GetInfo round))) info) ≡ times round (rounds_by info)
answers_times round [] = refl
answers_times round ((n, answer) ∷ info) =
    by_round (n == round) ∙ ap (λ m. cond (n == round) 1 0 + m) (answers_times round info)
    ∙ sym (sum_by-cons (λ m. cond (m == round) 1 0) n (rounds_by info))
  where
    rest : List InfoResponse
    rest = filter_map (answer_of (Some (GetInfo round))) info

    by_round : (b : Bool) → length (cons_option (if b then Some answer else None) rest) ≡ cond b 1 0 + length rest
    by_round true = omega arith
    by_round false = omega arith

-- the queries of a line are its oldest, if that is one, and those of the rest
line_times : (round : ℕ) (line : List Request)
    → times round (rounds_in (drop 1 line)) + times round (rounds_in (option_to_list (oldest line)))
    ≡ times round (rounds_in line)
line_times round line =
    let whole : times round (rounds_in (option_to_list (oldest line) ++ drop 1 line)) ≡ times round (rounds_in line) =
    ap (λ line. times round (rounds_in line)) (oldest_first line) in
    let apart : times round (rounds_in (option_to_list (oldest line) ++ drop 1 line))
    ≡ times round (rounds_in (option_to_list (oldest line))) + times round (rounds_in (drop 1 line)) =
    ap (times round) (filter_map-append round_of (option_to_list (oldest line)) (drop 1 line))
    ∙ sum_by-append (λ n. cond (n == round) 1 0) (rounds_in (option_to_list (oldest line))) (rounds_in (drop 1 line)) in
    omega arith

-- a row leaves in the line, and answers, no more queries of a round than the line had
abbrev KeepsQueries : ℕ → UnitView → Row → Type 0
KeepsQueries round u r =
    times round (rounds_in r.next.line) + times round (rounds_by r.info) ≤ times round (rounds_in u.line)

taken_keeps : (round : ℕ) (turn : UnitTurn) (u : UnitView) (r : Row) → r.next.line ≡ left_of turn u.line
    → times round (rounds_by r.info) ≤ times round (rounds_in (option_to_list (request_of turn u.line)))
    → KeepsQueries round u r
taken_keeps round Take u r line answered =
    let whole = line_times round u.line in
    let left : times round (rounds_in r.next.line) ≡ times round (rounds_in (drop 1 u.line)) =
    ap (λ line. times round (rounds_in line)) line in
    omega arith
taken_keeps round turn u r line answered =
    let left : times round (rounds_in r.next.line) ≡ times round (rounds_in u.line) =
    ap (λ line. times round (rounds_in line)) line in
    omega arith

at_most : (n m : ℕ) → n ≡ m → n ≤ m
at_most n m same = omega arith

none_left : (n m : ℕ) → n ≤ m → 0 + n ≤ m
none_left n m le = omega arith

delayed_most : (round now : ℕ) (line : List Request) (u : UnitView)
    → times round (rounds_by (take_row now Delay line u).info) ≤ times round (rounds_in (option_to_list (oldest line)))
delayed_most round now [] u = omega arith
delayed_most round now (Stop n ∷ line) u = omega arith
delayed_most round now (Continue ∷ line) u = omega arith
delayed_most round now (GetInfo n ∷ line) u = by_last (last_status u.statuses) refl
  where
    by_last : (o : Option ExecuteStatus) → last_status u.statuses ≡ o
        → times round (rounds_by (take_row now Delay (GetInfo n ∷ line) u).info) ≤ times round (n ∷ [])
    by_last None none = rw none (omega arith)
    by_last (Some s) last = rw last (at_most _ _ refl)
delayed_most round now (Shutdown request ∷ line) u = omega arith
delayed_most round now (OtherCancel ∷ line) u = omega arith

decided_most : (round : ℕ) (u : UnitView)
    → times round (rounds_by (answers_to (rounds_in u.line) (exited_answer u))) ≤ times round (rounds_in u.line)
decided_most round u = by_last (last_status u.statuses) refl
  where
    by_last : (o : Option ExecuteStatus) → last_status u.statuses ≡ o
        → times round (rounds_by (answers_to (rounds_in u.line) (exited_answer u))) ≤ times round (rounds_in u.line)
    by_last None none = rw none (omega arith)
    by_last (Some s) last = rw last (at_most _ _ (ap (times round) (rounds_to (rounds_in u.line) _)))

row_keeps_queries : (round now : ℕ) (ph : Phase) (turn : UnitTurn) (u : UnitView) → u.phase ≡ ph
    → takes_at now ph u turn ≡ true → KeepsQueries round u (row_at now ph turn u)
row_keeps_queries round now ph turn u is en = by_take (row_takes now ph turn u en)
  where
    still : times round (rounds_in u.line) + 0 ≤ times round (rounds_in u.line)
    still = omega arith

    by_take : Takes ph turn → KeepsQueries round u (row_at now ph turn u)
    by_take (answers true at to) = rw (at, to) still
    by_take (answers false at to) = rw (at, to) still
    by_take (opens on) =
        taken_keeps round turn u (row_at now ph turn u) (row_line now ph turn u on en)
        (at_most _ _ (ap (times round) (open_answers now ph turn u on en).rounds))
    by_take (decides word at to) = rw (at, to) (decide_cases (KeepsQueries round u) now word u (λ more. still)
        (λ done. none_left _ _ (decided_most round u)))
    by_take (passes at (inl to)) = rw (at, to) still
    by_take (passes at (inr to)) =
        rw (at, to) (taken_keeps round Take u (row_at now Delay Take u) (taken_line now Delay u)
        (delayed_most round now u.line u))
    by_take (again true at to) = rw (at, to) still
    by_take (again false at to) = rw (at, to) (none_left 0 (times round (rounds_in u.line)) (omega arith))

-- so an own turn of a unit answers no more queries of a round than leave its line
pub own_keeps_queries : (round now : ℕ) (turn : UnitTurn) (u : UnitView) → takes now u turn ≡ true
    → queries_of round (Some (row now turn u).next)
    + length (filter_map (answer_of (Some (GetInfo round))) (row now turn u).info)
    ≤ queries_of round (Some u)
own_keeps_queries round now turn u en =
    subst (λ n. queries_of round (Some (row now turn u).next) + n ≤ queries_of round (Some u))
    (sym (answers_times round (row now turn u).info))
    (row_keeps_queries round now u.phase turn (at_moment now u) refl (takes_moment now u.phase u turn en))
