-- No more answers are given in a round of queries than units were asked.
use Rattle.std.proofs.Common.{◌≡◌, ℕ, ◌+◌, ◌==◌, nat_lt, List, [], ◌∷◌, ◌++◌, sum_by, Bool, true, false, cond}
use Rattle.std.proofs.Common.{if◌then◌else◌, Option, Some, None, refl, ap, sym, ◌∙◌, arith}
use Rattle.std.specs.Cmp.{first_so, second_so}
use Rattle.std.specs.List.{list_all, range_with_len}
use Rattle.std.proofs.lemmas.Bool.Decides.{nat_tests}
use Rattle.std.proofs.lemmas.List.{append-nil}
use Rattle.std.proofs.lemmas.List.Elements.{filter_map-append}
use Rattle.std.proofs.lemmas.List.Folds.{list_all-append}
use Rattle.std.proofs.lemmas.List.Sums.{sum_by-append, sum_by-cons}
use Rattle.run_events.specs.declared.request.Request.{Request}
use Rattle.run_events.specs.declared.request.Request.TheVariants.{Stop, Continue, Shutdown, OtherCancel, GetInfo}
use Rattle.run_events.specs.declared.settings.Settings.{Settings}
use Rattle.run_model.specs.declared.happening.Happening.{Happening}
use Rattle.run_model.specs.declared.phase.Phase.{Phase}
use Rattle.run_model.specs.declared.phase.Phase.TheVariants.{StartSent, Over}
use Rattle.run_model.specs.declared.unit_view.UnitView.{UnitView}
use Rattle.run_model.specs.Admission.{units_in}
use Rattle.run_model.specs.Info.{round_of, rounds_in}
use Rattle.run_model.specs.Rounds.{opens_round}
use Rattle.run_model.specs.Story.{broadcast_to, is_live_unit, line_of, story_of}
use Rattle.run_model.specs.Unit.{is_live, reach}
use Rattle.run_model.specs.Words.{unit_of}
use Rattle.run_laws_rounds.specs.Requests.{requests_taken}
use Rattle.run_laws.proofs.board.Holds.{HasLine, HasLineIn}
use Rattle.run_model.specs.Words.{times}
use Rattle.run_laws_rounds.proofs.rounds.Queried.{queries_of}
use Rattle.run_laws_rounds.proofs.rounds.Taken.{HasAnswered}

-- how many queries of a round the units have in their lines
abbrev pub queries_in : Settings → ℕ → List Happening → ℕ
queries_in p round run = sum_by (λ k. queries_of round (unit_of k run)) (range_with_len 0 (units_in p))

-- a round that is above those of a line doesn't stand there
times_below : (round : ℕ) (rounds : List ℕ) → list_all (λ n. nat_lt n round) rounds ≡ true → times round rounds ≡ 0
times_below round [] below = refl
times_below round (n ∷ rounds) below =
    let rest : times round rounds ≡ 0 =
    times_below round rounds (second_so (nat_lt n round) (list_all (λ n. nat_lt n round) rounds) below) in
    let lower : nat_lt n round ≡ true = first_so (nat_lt n round) (list_all (λ n. nat_lt n round) rounds) below in
    let other : (n == round) ≡ false = grind (arith, nat_tests) in
    sum_by-cons (λ m. cond (m == round) 1 0) n rounds ∙ ap (λ b. cond b 1 0 + times round rounds) other ∙ omega arith

pub line_below : (count k : ℕ) (run : List Happening) → HasAnswered k run
    → list_all (λ n. nat_lt n count) (rounds_in (broadcast_to k run)) ≡ true
    → list_all (λ n. nat_lt n count) (rounds_in (line_of k run)) ≡ true
line_below count k run it below =
    second_so (list_all (λ n. nat_lt n count) (rounds_in (requests_taken (story_of k run)))) _
    (sym (list_all-append (λ n. nat_lt n count) (rounds_in (requests_taken (story_of k run)))
    (rounds_in (line_of k run)))
    ∙ ap (list_all (λ n. nat_lt n count))
    (sym (filter_map-append round_of (requests_taken (story_of k run)) (line_of k run))
    ∙ ap rounds_in it.whole) ∙ below)

-- a query of a new round stands once in the line of each live unit, and of no other
pub reach_query : (round : ℕ) (v : Option UnitView) (line : List Request) → HasLine v line
    → list_all (λ n. nat_lt n round) (rounds_in line) ≡ true
    → queries_of round (reach (Some (GetInfo round)) v) ≡ cond (is_live_unit v) 1 0
reach_query round None line h below = refl
reach_query round (Some u) line h below = by_phase u.phase refl
  where
    itself : (round == round) ≡ true
    itself = grind arith

    once : u.line ≡ line → times round (rounds_in (u.line ++ GetInfo round ∷ [])) ≡ 1
    once is =
        let none : times round (rounds_in u.line) ≡ 0 =
        ap (λ line. times round (rounds_in line)) is ∙ times_below round (rounds_in line) below in
        let one : times round (round ∷ []) ≡ 1 = ap (λ b. 0 + cond b 1 0) itself in
        let both : times round (rounds_in (u.line ++ GetInfo round ∷ []))
        ≡ times round (rounds_in u.line) + times round (round ∷ []) =
        ap (times round) (filter_map-append round_of u.line (GetInfo round ∷ []))
        ∙ sum_by-append (λ n. cond (n == round) 1 0) (rounds_in u.line) (round ∷ []) in
        omega arith

    live : (ph : Phase) → HasLineIn ph u.line line → is_live ph ≡ true → u.line ≡ line
    live StartSent h on = cc
    live Over h on = cc
    live ph h on = h

    still : (ph : Phase) → HasLineIn ph u.line line → is_live ph ≡ false → u.line ≡ []
    still StartSent h off = h.0
    still Over h off = h
    still ph h off = cc

    by_phase : (ph : Phase) → u.phase ≡ ph
        → queries_of round (Some (if is_live u.phase then record u { line = u.line ++ GetInfo round ∷ [] } else u))
        ≡ cond (is_live u.phase) 1 0
    by_phase ph at = by_live (is_live u.phase) refl
      where
        by_live : (b : Bool) → is_live u.phase ≡ b
            → queries_of round (Some (if b then record u { line = u.line ++ GetInfo round ∷ [] } else u)) ≡ cond b 1 0
        by_live true on = once (live u.phase h on)
        by_live false off = ap (λ line. times round (rounds_in line)) (still u.phase h off)

-- a request that is no query of a round says nothing of that
quiet_rounds : (request : Request) → opens_round (Some request) ≡ false → rounds_in (request ∷ []) ≡ []
quiet_rounds (Stop round) none = refl
quiet_rounds Continue none = refl
quiet_rounds (Shutdown reason) none = refl
quiet_rounds OtherCancel none = refl
quiet_rounds (GetInfo round) none = cc

pub reach_still : (round : ℕ) (request : Option Request) (v : Option UnitView) → opens_round request ≡ false
    → queries_of round (reach request v) ≡ queries_of round v
reach_still round None v none = refl
reach_still round (Some request) None none = refl
reach_still round (Some request) (Some u) none = by_live (is_live u.phase)
  where
    by_live : (b : Bool) → queries_of round (Some (if b then record u { line = u.line ++ request ∷ [] } else u))
        ≡ queries_of round (Some u)
    by_live true = ap (times round) (filter_map-append round_of u.line (request ∷ [])
        ∙ ap (λ ns. rounds_in u.line ++ ns) (quiet_rounds request none) ∙ append-nil (rounds_in u.line))
    by_live false = refl
