-- The counts of live units, and of those that hold a request, after one more turn.
use Rattle.std.proofs.Common.{◌≡◌, ◌≢◌, ℕ, ◌+◌, ◌<◌, ◌==◌, ◌||◌, List, [], ◌∷◌, ◌++◌, count_by, sum_by, cond, reverse}
use Rattle.std.proofs.Common.{Bool, true, false, if◌then◌else◌, Option, Some, None, option_map, refl, ap, sym, subst}
use Rattle.std.proofs.Common.{◌∙◌, arith}
use Rattle.std.specs.List.{list_any, range_with_len}
use Rattle.std.proofs.lemmas.List.{reverse-append}
use Rattle.std.proofs.lemmas.List.Folds.{list_any-append}
use Rattle.run_events.specs.declared.message.Message.{Message}
use Rattle.run_events.specs.declared.request.Request.{Request}
use Rattle.run_events.specs.declared.request.Request.TheVariants.{Stop, Continue, Shutdown, OtherCancel, GetInfo}
use Rattle.run_events.specs.declared.settings.Settings.{Settings}
use Rattle.run_model.specs.declared.entry.Entry.{Entry}
use Rattle.run_model.specs.declared.happening.Happening.{Happening}
use Rattle.run_model.specs.declared.happening.UnitPart.{UnitPart}
use Rattle.run_model.specs.declared.happening.UnitPart.TheVariants.{Joins, Acts}
use Rattle.run_model.specs.declared.phase.Phase.{Phase}
use Rattle.run_model.specs.declared.phase.Phase.TheVariants.{StartSent, Over}
use Rattle.run_model.specs.declared.unit_view.UnitView.{UnitView}
use Rattle.run_model.specs.Admission.{units_in}
use Rattle.run_model.specs.Board.{Deed, board, said}
use Rattle.run_model.specs.Environment.{number}
use Rattle.run_model.specs.Journal.{IsLegal, IsLegalBackward, history, past_of}
use Rattle.run_model.specs.Rounds.{opens_round, round_count}
use Rattle.run_model.specs.Same.{is_request}
use Rattle.run_model.specs.Story.{is_live_unit, line_of}
use Rattle.run_model.specs.Turns.{deed_on, happening, holds as has_request, live_in}
use Rattle.run_model.specs.Unit.{is_live, reach, row}
use Rattle.run_model.specs.Words.{clock, sub_run, unit_after, unit_of, units}
use Rattle.run_laws_rounds.specs.LiveCounts.{MovesBy, MovesCounts, holders, is_asked, unit_before, unit_then}
use Rattle.run_laws.proofs.board.DeedFits.{PartFits}
use Rattle.run_laws.proofs.board.Holds.{HasLine, HasLineIn, Holds}
use Rattle.run_laws.proofs.board.Kept.{HoldsAfter, holds}
use Rattle.run_laws_rounds.proofs.rounds.DeedAnswers.{part_fits}
use Rattle.run_laws.proofs.units.AccountLemmas.{IsFirst}
use Rattle.run_laws_rounds.proofs.rounds.Fresh.{before_all, new_to_line}
use Rattle.run_laws_rounds.proofs.rounds.RangeSums.{sum-one, sum-same, sum-through}
use Rattle.run_laws_rounds.proofs.rounds.RequestLaws.{answered}
use Rattle.run_laws_rounds.proofs.rounds.RoundDeeds.{IsNumbered, IsOfRound, of_round}

-- a count over the units, one by one
count-each : (is : Option UnitView → Bool) (p : Settings) (run : List Happening)
    → count_by is (units p run) ≡ sum_by (λ k. cond (is (unit_of k run)) 1 0) (range_with_len 0 (units_in p))
count-each is p run = sum-through (λ v. cond (is v) 1 0) (λ k. unit_of k run) (range_with_len 0 (units_in p))

-- a unit that joins isn't live, and holds nothing
first_waits : (mm : Bool) (first : UnitView) (m : Message) → IsFirst mm first m → is_live first.phase ≡ false
first_waits true first m (ph, sends) = ap is_live ph
first_waits false first m (ph, sends) = ap is_live ph

-- such a count is moved by the unit whose turn it is alone, where a request doesn't change what it counts
moves_by : (is : Option UnitView → Bool) (p : Settings) (run : List Happening) (now : ℕ) (e : Entry)
    (d : Deed)
    → Holds p now run → PartFits p now run d.part → is None ≡ false
    → ((first : UnitView) (mm : Bool) (m : Message) → IsFirst mm first m → first.line ≡ [] → is (Some first) ≡ false)
    → ((v : Option UnitView) → is (reach d.request v) ≡ is v)
    → MovesBy (count_by is (units p run)) (is (unit_before run d.part)) (is (unit_then now run d.part))
    (count_by is (units p (said now e d ∷ run)))
moves_by is p run now e d h fits none first reached =
    ap (λ n. n + cond (is (unit_before run d.part)) 1 0) (count-each is p (said now e d ∷ run)) ∙ by_moves d.part fits
  where
    one : ℕ → ℕ
    one k = cond (is (unit_of k run)) 1 0

    next : Option UnitPart → ℕ → ℕ
    next part k = cond (is (reach d.request (unit_after now k part (unit_of k run)))) 1 0

    still : (part : Option UnitPart) → ((k : ℕ) → is (unit_after now k part (unit_of k run)) ≡ is (unit_of k run))
        → sum_by (next part) (range_with_len 0 (units_in p)) + 0 ≡ count_by is (units p run) + 0
    still part same =
        ap (λ n. n + 0) (sum-same one (next part) (units_in p) 0
        (λ k low. ap (λ b. cond b 1 0) (reached (unit_after now k part (unit_of k run)) ∙ same k))
        ∙ sym (count-each is p run))

    Moves : Option UnitPart → Type 0
    Moves part = sum_by (next part) (range_with_len 0 (units_in p)) + cond (is (unit_before run part)) 1 0
        ≡ count_by is (units p run) + cond (is (unit_then now run part)) 1 0

    quiet : (part : Option UnitPart) → is (unit_before run part) ≡ false → is (unit_then now run part) ≡ false
        → ((k : ℕ) → is (unit_after now k part (unit_of k run)) ≡ is (unit_of k run)) → Moves part
    quiet part before after same = rw (before, after) (still part same)

    by_moves : (part : Option UnitPart) → PartFits p now run part → Moves part
    by_moves None fits = quiet None none none (λ k. refl)
    by_moves (Some (Joins u)) (sent, new) = quiet (Some (Joins u)) none none (λ k. begins k (number u == k) refl)
      where
        begins : (k : ℕ) (b : Bool) → (number u == k) ≡ b
            → is (if b then Some u else unit_of k run) ≡ is (unit_of k run)
        begins k true e =
            let here : k ≡ number u = grind arith in
            first u _ sent new.first new.line ∙ sym none ∙ ap is (sym (ap (λ k. unit_of k run) here ∙ new.unknown))
        begins k false e = refl
    by_moves (Some (Acts j turn)) fits =
        moved _ _ _ _ _ _ (count-each is p run)
        (sum-one one (next (Some (Acts j turn))) (units_in p) 0 j (omega arith)
        (below (h.named j fits.unit fits.is).1) others)
        (ap (λ b. cond b 1 0) (reached (unit_after now j (Some (Acts j turn)) (unit_of j run)) ∙ ap is own))
      where
        below : j < units_in p → j < 0 + units_in p
        below lt = omega arith

        itself : (j == j) ≡ true
        itself = grind arith

        own : unit_after now j (Some (Acts j turn)) (unit_of j run) ≡ option_map (λ u. (row now turn u).next)
            (unit_of j run)
        own = ap (λ b. if b then option_map (λ u. (row now turn u).next) (unit_of j run) else unit_of j run) itself

        others : (k : ℕ) → k ≢ j → next (Some (Acts j turn)) k ≡ one k
        others k apart =
            let other : (j == k) ≡ false = grind arith in
            ap (λ b. cond b 1 0) (reached (unit_after now k (Some (Acts j turn)) (unit_of k run))
            ∙ ap (λ b. is (if b then option_map (λ u. (row now turn u).next) (unit_of k run) else unit_of k run)) other)

        moved : (count sum before after own left : ℕ) → count ≡ sum → after + before ≡ sum + own → own ≡ left
            → after + before ≡ count + left
        moved count sum before after own left total sums same = omega arith

-- a request leaves which units are live
reach_live : (request : Option Request) (v : Option UnitView) → is_live_unit (reach request v) ≡ is_live_unit v
reach_live None v = refl
reach_live (Some request) None = refl
reach_live (Some request) (Some u) = by_live (is_live u.phase)
  where
    by_live : (b : Bool) → is_live (if b then record u { line = u.line ++ request ∷ [] } else u).phase ≡ is_live u.phase
    by_live true = refl
    by_live false = refl

-- and those that hold another
or_false : (b : Bool) → (b || (false || false)) ≡ b
or_false true = refl
or_false false = refl

reach_held : (request : Request) (asked : Option Request) (v : Option UnitView) → is_asked request asked ≡ false
    → has_request request (reach asked v) ≡ has_request request v
reach_held request None v other = refl
reach_held request (Some asked) None other = refl
reach_held request (Some asked) (Some u) other = by_live (is_live u.phase)
  where
    by_live : (b : Bool) → has_request request (Some (if b then record u { line = u.line ++ asked ∷ [] } else u))
        ≡ has_request request (Some u)
    by_live true = list_any-append (is_request request) u.line (asked ∷ [])
        ∙ ap (λ b. list_any (is_request request) u.line || (b || false)) other
        ∙ or_false (list_any (is_request request) u.line)
    by_live false = refl

-- what a new round asks is held by each live unit
itself_so : (request : Request) → opens_round (Some request) ≡ true → is_request request request ≡ true
itself_so (Stop round) opens = grind arith
itself_so (GetInfo round) opens = grind arith
itself_so Continue opens = cc
itself_so (Shutdown reason) opens = cc
itself_so OtherCancel opens = cc

or_true : (a b : Bool) → b ≡ true → (a || (b || false)) ≡ true
or_true true b e = refl
or_true false b e = rw e refl

reach_opened : (request : Request) (v : Option UnitView) (line : List Request) → opens_round (Some request) ≡ true
    → HasLine v line → list_any (is_request request) line ≡ false
    → has_request request (reach (Some request) v) ≡ is_live_unit v
reach_opened request None line opens h new = refl
reach_opened request (Some u) line opens h new = by_live (is_live u.phase) refl
  where
    none_here : (ph : Phase) → HasLineIn ph u.line line → is_live ph ≡ false → u.line ≡ []
    none_here StartSent h off = h.0
    none_here Over h off = h
    none_here ph h off = cc

    by_live : (b : Bool) → is_live u.phase ≡ b
        → has_request request (Some (if b then record u { line = u.line ++ request ∷ [] } else u)) ≡ b
    by_live true on = list_any-append (is_request request) u.line (request ∷ [])
        ∙ or_true (list_any (is_request request) u.line) (is_request request request) (itself_so request opens)
    by_live false off = ap (list_any (is_request request)) (none_here u.phase h off)

-- so after each enabled turn
moves_counts : (p : Settings) (backward : List Entry) (e : Entry) → IsLegalBackward p (e ∷ backward)
    → MovesCounts p (sub_run (history p backward)) (happening p (history p backward) e)
moves_counts p backward e legal = record {
  live = moves_by is_live_unit p run (clock past) e d h fits refl
      (λ first mm m new line. first_waits mm first m new) (reach_live d.request);
  held = λ request other. moves_by (has_request request) p run (clock past) e d h fits refl
      (λ first mm m new line. ap (list_any (is_request request)) line) (λ v. reach_held request d.request v other);
  opened = λ request opens is. opened request opens is;
}
  where
    past : List Happening
    past = history p backward

    run : List Happening
    run = sub_run past

    d : Deed
    d = deed_on p (board p past) e.turn

    h : HoldsAfter p past
    h = holds p backward legal.2

    fits : PartFits p (clock past) run d.part
    fits = part_fits p past e h legal.0

    it : IsOfRound (board p past) d
    it = of_round p (board p past) e.turn legal.0

    opened : (request : Request) → opens_round d.request ≡ true → d.request ≡ Some request
        → holders p request (happening p past e ∷ run) ≡ live_in (units p (happening p past e ∷ run))
    opened request opens is =
        count-each (has_request request) p (happening p past e ∷ run)
        ∙ sum-same (λ k. cond (is_live_unit (unit_of k (happening p past e ∷ run))) 1 0)
        (λ k. cond (has_request request (unit_of k (happening p past e ∷ run))) 1 0) (units_in p) 0 (λ k low. one k)
        ∙ sym (count-each is_live_unit p (happening p past e ∷ run))
      where
        one_if : Bool → ℕ
        one_if b = cond b 1 0

        new : opens_round (Some request) ≡ true
        new = sym (ap opens_round is) ∙ opens

        number : IsNumbered (round_count run) (Some request)
        number = subst (IsNumbered (round_count run)) is it.number

        one : (k : ℕ) → one_if (has_request request (unit_of k (happening p past e ∷ run)))
            ≡ one_if (is_live_unit (unit_of k (happening p past e ∷ run)))
        one k = ap one_if
            (ap (λ part. has_request request (reach d.request (unit_after (clock past) k part (unit_of k run))))
            (it.alone opens)
            ∙ ap (λ request0. has_request request (reach request0 (unit_of k run))) is
            ∙ reach_opened request (unit_of k run) (line_of k run) new (h.lines k)
            (new_to_line (round_count run) k run request (answered p backward legal.2 k)
            (before_all p backward legal.2 k)
            number new)
            ∙ sym (ap (λ part. is_live_unit (reach d.request (unit_after (clock past) k part (unit_of k run))))
            (it.alone opens)
            ∙ reach_live d.request (unit_of k run)))

pub counts_move : (p : Settings) (journal : List Entry) (e : Entry) → IsLegal p (journal ++ e ∷ [])
    → MovesCounts p (sub_run (past_of p journal)) (happening p (past_of p journal) e)
counts_move p journal e legal =
    moves_counts p (reverse journal) e (subst (IsLegalBackward p) (reverse-append journal (e ∷ [])) legal)
