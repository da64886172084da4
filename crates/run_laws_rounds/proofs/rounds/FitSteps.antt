-- After each turn no more answers were given in the open round of queries, and no more of its queries stand in lines,
-- than units were asked.
use Rattle.std.proofs.Common.{refl, Bool, List, None, Option, Some, [], ap, arith, cond, false, filter_map}
use Rattle.std.proofs.Common.{if◌then◌else◌, is_some, length, length-append, nat_lt, option_map, subst, sum_by, sym}
use Rattle.std.proofs.Common.{true, unwrap_or, ℕ, ◌++◌, ◌+◌, ◌==◌, ◌∙◌, ◌∷◌, ◌≡◌, ◌≢◌, ◌≤◌, ◌<◌}
use Rattle.std.specs.Prelude.{IfSome}
use Rattle.std.specs.List.{list_all, range_with_len}
use Rattle.std.proofs.lemmas.Option.{same_Some}
use Rattle.run_model.specs.declared.happening.UnitPart.TheVariants.{Acts, Joins}
use Rattle.run_model.specs.declared.happening.Happening.{Happening}
use Rattle.run_model.specs.declared.happening.UnitPart.{UnitPart}
use Rattle.run_model.specs.Board.{Deed, said}
use Rattle.run_model.specs.declared.entry.Entry.{Entry}
use Rattle.run_model.specs.declared.unit_view.UnitView.{UnitView}
use Rattle.run_model.specs.Rounds.{answer_of, answers_given, asked_by, closes_round, of_told, open_round, opens_round}
use Rattle.run_model.specs.Rounds.{round_count, round_total}
use Rattle.run_model.specs.Story.{broadcast_to, is_live_unit, line_of}
use Rattle.run_model.specs.Words.{unit_after, unit_of, units}
use Rattle.run_model.specs.Turns.{live_in}
use Rattle.run_model.specs.Dispatch.{query_waits}
use Rattle.run_model.specs.Environment.{number}
use Rattle.run_model.specs.Unit.{reach, row}
use Rattle.run_model.specs.Info.{rounds_in}
use Rattle.run_model.specs.Admission.{units_in}
use Rattle.run_events.specs.declared.request.Request.TheVariants.{GetInfo}
use Rattle.run_events.specs.declared.request.Request.{Request}
use Rattle.run_events.specs.declared.info.InfoResponse.{InfoResponse}
use Rattle.run_events.specs.declared.events.TestEventKind.TheVariants.{InfoStarted}
use Rattle.run_events.specs.declared.events.ReporterEvent.{ReporterEvent}
use Rattle.run_events.specs.declared.events.ReporterEvent.TheVariants.{Test, Tick}
use Rattle.run_events.specs.declared.events.TestEventKind.{TestEventKind}
use Rattle.run_events.specs.declared.settings.Settings.{Settings}
use Rattle.run_laws_rounds.proofs.rounds.Taken.{HasAnswered}
use Rattle.run_laws_rounds.proofs.rounds.RoundDeeds.{IsNumbered, IsOfRound}
use Rattle.run_laws_rounds.proofs.rounds.DeedAnswers.{info_by}
use Rattle.run_laws_rounds.proofs.rounds.AnswersFit.{line_below, queries_in, reach_query, reach_still}
use Rattle.run_model.specs.Words.{times}
use Rattle.run_laws_rounds.proofs.rounds.Queried.{own_keeps_queries, queries_of}
use Rattle.run_laws_rounds.proofs.rounds.RangeSums.{sum-one, sum-same, sum-through}
use Rattle.run_laws.proofs.board.Holds.{HasLine, Holds}
use Rattle.run_laws.proofs.board.OnBoard.{Frame, board_of}
use Rattle.run_laws.proofs.board.DeedFits.{PartFits}
use Rattle.run_laws_rounds.specs.Queries.{asked_in}

-- of the open round of queries the answers that were given, and the queries that stand in lines, are as many as the
-- units that were asked, at most
pub record IsFilled (p : Settings) (run : List Happening) : Type 0 where
  pub most : (round : ℕ) → open_round run ≡ Some (GetInfo round)
      → length (answers_given (Some (GetInfo round)) run) + queries_in p round run ≤ round_total run

-- how many units an event says to be asked
total_is : (o : Option ReporterEvent) (total : ℕ) → of_told asked_in None o ≡ Some total → of_told asked_by 0 o ≡ total
total_is None total is = cc
total_is (Some Tick) total is = cc
total_is (Some (Test event)) total is = by_kind event.kind is
  where
    by_kind : (kind : TestEventKind) → asked_in kind ≡ Some total → asked_by kind ≡ total
    by_kind (InfoStarted event) is = same_Some _ _ is
    by_kind kind is = cc

-- what a turn told, and the units that it says to be asked
asks_total : (o : Option ReporterEvent) (request : Option Request) (count live : ℕ) → query_waits request ≡ true
    → query_waits request ≡ is_some (of_told asked_in None o)
    → IfSome (of_told asked_in None o) (λ total. (request ≡ Some (GetInfo count)) × (total ≡ live))
    → of_told asked_by 0 o ≡ live
asks_total o request count live waits asked start = by_total (of_told asked_in None o) refl (sym asked ∙ waits) start
  where
    by_total : (t : Option ℕ) → of_told asked_in None o ≡ t → is_some t ≡ true
        → IfSome t (λ total. (request ≡ Some (GetInfo count)) × (total ≡ live)) → of_told asked_by 0 o ≡ live
    by_total None is some start = cc
    by_total (Some total) is some start = total_is o total is ∙ start.1

-- a new round of queries: one stands in the line of each live unit
opens_filled : (p : Settings) (run : List Happening) (now round : ℕ) (e : Entry) (d : Deed)
    → ((k : ℕ) → HasLine (unit_of k run) (line_of k run)) → ((k : ℕ) → HasAnswered k run)
    → ((k : ℕ) → list_all (λ n. nat_lt n round) (rounds_in (broadcast_to k run)) ≡ true)
    → d.part ≡ None → d.request ≡ Some (GetInfo round)
    → queries_in p round (said now e d ∷ run) ≡ live_in (units p run)
opens_filled p run now round e d lines answered below alone request =
    sum-same (λ k. cond (is_live_unit (unit_of k run)) 1 0) (λ k. queries_of round (unit_of k (said now e d ∷ run)))
    (units_in p) 0 (λ k low. one k)
    ∙ sym (sum-through (λ v. cond (is_live_unit v) 1 0) (λ k. unit_of k run) (range_with_len 0 (units_in p)))
  where
    one : (k : ℕ) → queries_of round (unit_of k (said now e d ∷ run)) ≡ cond (is_live_unit (unit_of k run)) 1 0
    one k = ap (λ part. queries_of round (reach d.request (unit_after now k part (unit_of k run)))) alone
        ∙ ap (λ request. queries_of round (reach request (unit_of k run))) request
        ∙ reach_query round (unit_of k run) (line_of k run) (lines k) (line_below round k run (answered k) (below k))

-- sums that stay, with nothing answered, and sums that lose what is answered
as_many : (m n a : ℕ) → m ≡ n → a ≡ 0 → m + a ≤ n
as_many m n a same none = omega arith

moved : (m n before after a : ℕ) (own : ℕ) → m + before ≡ n + after → before ≡ own → after + a ≤ own → m + a ≤ n
moved m n before after a own sums is less = omega arith

-- any other turn: what is answered leaves a line
part_filled : (p : Settings) (run : List Happening) (now round : ℕ) (request : Option Request)
    (part : Option UnitPart) (info : List (ℕ × InfoResponse)) → Holds p now run → PartFits p now run part
    → info ≡ info_by now run part → opens_round request ≡ false
    → sum_by (λ k. queries_of round (reach request (unit_after now k part (unit_of k run))))
    (range_with_len 0 (units_in p))
    + length (filter_map (answer_of (Some (GetInfo round))) info)
    ≤ queries_in p round run
part_filled p run now round request None info h fits is none =
    let same = sum-same (λ k. queries_of round (unit_of k run)) (λ k. queries_of round (reach request (unit_of k run)))
    (units_in p) 0 (λ k low. reach_still round request (unit_of k run) none) in
    as_many _ _ _ same (ap (λ info. length (filter_map (answer_of (Some (GetInfo round))) info)) is)
part_filled p run now round request (Some (Joins first)) info h (sent, new) is none =
    as_many _ _ _ (sum-same (λ k. queries_of round (unit_of k run))
    (λ k. queries_of round (reach request (unit_after now k (Some (Joins first)) (unit_of k run)))) (units_in p) 0
    (λ k low. reach_still round request (unit_after now k (Some (Joins first)) (unit_of k run)) none
    ∙ begins k (number first == k) refl))
    (ap (λ info. length (filter_map (answer_of (Some (GetInfo round))) info)) is)
  where
    begins : (k : ℕ) (b : Bool) → (number first == k) ≡ b
        → queries_of round (if b then Some first else unit_of k run) ≡ queries_of round (unit_of k run)
    begins k true e =
        let here : k ≡ number first = grind arith in
        ap (λ line. times round (rounds_in line)) new.line
        ∙ sym (ap (queries_of round) (ap (λ k. unit_of k run) here ∙ new.unknown))
    begins k false e = refl
part_filled p run now round request (Some (Acts j turn)) info h fits is none =
    moved _ _ _ _ _ _ (sum-one (λ k. queries_of round (unit_of k run))
    (λ k. queries_of round (reach request (unit_after now k (Some (Acts j turn)) (unit_of k run)))) (units_in p) 0 j
    (omega arith) (below (h.named j u fits.is).1) others)
    (ap (queries_of round) fits.is) own
  where
    u : UnitView
    u = fits.unit

    below : j < units_in p → j < 0 + units_in p
    below lt = omega arith

    others : (k : ℕ) → k ≢ j
        → queries_of round (reach request (unit_after now k (Some (Acts j turn)) (unit_of k run)))
        ≡ queries_of round (unit_of k run)
    others k apart =
        let other : (j == k) ≡ false = grind arith in
        reach_still round request (unit_after now k (Some (Acts j turn)) (unit_of k run)) none
        ∙ ap (λ b. queries_of round
        (if b then option_map (λ v. (row now turn v).next) (unit_of k run) else unit_of k run))
        other

    given : info ≡ (row now turn u).info
    given = is ∙ ap (λ v. unwrap_or (option_map (λ v. (row now turn v).info) v) []) fits.is

    itself : (j == j) ≡ true
    itself = grind arith

    after : queries_of round (reach request (unit_after now j (Some (Acts j turn)) (unit_of j run)))
        ≡ queries_of round (Some (row now turn u).next)
    after = reach_still round request (unit_after now j (Some (Acts j turn)) (unit_of j run)) none
        ∙ ap (λ b. queries_of round
        (if b then option_map (λ v. (row now turn v).next) (unit_of j run) else unit_of j run))
        itself
        ∙ ap (λ v. queries_of round (option_map (λ v. (row now turn v).next) v)) fits.is

    own : queries_of round (reach request (unit_after now j (Some (Acts j turn)) (unit_of j run)))
        + length (filter_map (answer_of (Some (GetInfo round))) info)
        ≤ queries_of round (Some u)
    own =
        subst (λ n. n + length (filter_map (answer_of (Some (GetInfo round))) info) ≤ queries_of round (Some u))
        (sym after)
        (subst (λ info. queries_of round (Some (row now turn u).next)
        + length (filter_map (answer_of (Some (GetInfo round))) info) ≤ queries_of round (Some u)) (sym given)
        (own_keeps_queries round now turn u fits.takes))

pub filled-cons : (p : Settings) (f : Frame) (now : ℕ) (run : List Happening) (e : Entry) (d : Deed) → Holds p now run
    → PartFits p now run d.part → d.info ≡ info_by now run d.part → IsOfRound (board_of p f now run) d
    → ((k : ℕ) → HasAnswered k run)
    → ((k : ℕ) → list_all (λ n. nat_lt n (round_count run)) (rounds_in (broadcast_to k run)) ≡ true)
    → IsFilled p run → IsFilled p (said now e d ∷ run)
filled-cons p f now run e d h fits is it answered below was =
    record { most = λ round opened. by_opens round (opens_round d.request) refl opened }
  where
    Most : ℕ → Bool → Type 0
    Most round opens = length (if opens then []
        else answers_given (Some (GetInfo round)) run ++ filter_map (answer_of (Some (GetInfo round))) d.info)
        + queries_in p round (said now e d ∷ run)
        ≤ (if opens then of_told asked_by 0 d.told else round_total run)

    new : (round : ℕ) → d.request ≡ Some (GetInfo round) → opens_round d.request ≡ true → Most round true
    new round request opens =
        let number : round ≡ round_count run = subst (IsNumbered (round_count run)) request it.number in
        let many : queries_in p round (said now e d ∷ run) ≡ live_in (units p run) =
        opens_filled p run now round e d h.lines answered
        (λ k. subst (λ count. list_all (λ n. nat_lt n count) (rounds_in (broadcast_to k run)) ≡ true) (sym number)
        (below k))
        (it.alone opens) request in
        let total : of_told asked_by 0 d.told ≡ live_in (units p run) =
        asks_total d.told d.request (round_count run) (live_in (units p run)) (ap query_waits request) it.asked
        it.start in
        omega arith

    more : (round : ℕ) → open_round run ≡ Some (GetInfo round) → opens_round d.request ≡ false → Most round false
    more round open_before none =
        let before = was.most round open_before in
        let step = part_filled p run now round d.request d.part d.info h fits is none in
        let long = length-append (answers_given (Some (GetInfo round)) run)
        (filter_map (answer_of (Some (GetInfo round))) d.info) in
        omega (arith, before, step, long)

    by_closes : (round : ℕ) (b : Bool) → closes_round d.stops d.told ≡ b → opens_round d.request ≡ false
        → (if b then None else open_round run) ≡ Some (GetInfo round) → Most round false
    by_closes round true closes none opened = cc
    by_closes round false closes none opened = more round opened none

    by_opens : (round : ℕ) (b : Bool) → opens_round d.request ≡ b
        → (if b then d.request else if closes_round d.stops d.told then None else open_round run)
        ≡ Some (GetInfo round)
        → Most round b
    by_opens round true opens opened = new round opened opens
    by_opens round false none opened = by_closes round (closes_round d.stops d.told) refl none opened
