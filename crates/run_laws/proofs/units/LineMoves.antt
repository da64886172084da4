-- The line of a unit after one more turn of a sub-run.
use Rattle.std.proofs.Common.{◌≡◌, ℕ, add-zero, ◌+◌, ◌≤◌, ◌==◌, List, [], ◌++◌, drop, length, Bool, true, false, ◌&&◌}
use Rattle.std.proofs.Common.{if◌then◌else◌, Option, Some, None, option_map, option_to_list, refl, ap, sym, subst}
use Rattle.std.proofs.Common.{◌∙◌, arith, length-append}
use Rattle.std.proofs.lemmas.List.{drop-drop, drop-append-le}
use Rattle.run_events.specs.declared.settings.Settings.{Settings}
use Rattle.run_events.specs.declared.message.Message.{Message}
use Rattle.run_events.specs.declared.request.Request.{Request}
use Rattle.run_model.specs.Environment.{number}
use Rattle.run_model.specs.declared.happening.Happening.{Happening}
use Rattle.run_model.specs.declared.happening.UnitPart.{UnitPart}
use Rattle.run_model.specs.declared.happening.UnitPart.TheVariants.{Joins, Acts}
use Rattle.run_model.specs.Unit.{row, reach}
use Rattle.run_model.specs.Words.{unit_of, unit_after}
use Rattle.run_model.specs.Story.{is_live_unit, broadcast_to, takes_request, taken_by, line_of}
use Rattle.run_laws.proofs.board.Holds.{HasLineIn, HasLine}
use Rattle.run_laws.proofs.units.AccountLemmas.{IsFirst}
use Rattle.run_laws.proofs.units.Lines.{is_take, takes_request-is, own_line, own_taken, reach_line}
use Rattle.run_laws.proofs.board.DeedFits.{PartFits}

-- the line of a unit after a part
pub part_line : (p : Settings) (run : List Happening) (now k : ℕ) (part : Option UnitPart)
    → HasLine (unit_of k run) (line_of k run) → taken_by k run ≤ length (broadcast_to k run) → PartFits p now run part
    → HasLine (unit_after now k part (unit_of k run))
    (drop (taken_by k run + (if takes_request k part then 1 else 0)) (broadcast_to k run))
    × (taken_by k run + (if takes_request k part then 1 else 0) ≤ length (broadcast_to k run))
part_line p run now k None h le fits = (
  subst (λ n. HasLine (unit_of k run) (drop n (broadcast_to k run)))
      (sym (add-zero (taken_by k run))) h,
  omega arith,
)
part_line p run now k (Some (Joins first)) h le (sent, new) = (
  subst (λ n. HasLine (if (number first) == k then Some first else unit_of k run) (drop n (broadcast_to k run)))
      (sym (add-zero (taken_by k run))) (begins ((number first) == k) refl),
  omega arith,
)
  where
    first_line : (mm : Bool) (m : Message) (is : List Request) → IsFirst mm first m → is ≡ []
        → HasLineIn first.phase first.line is
    first_line true m is (ph, sends) none = rw ph new.line
    first_line false m is (ph, sends) none = rw ph (new.line, none)

    begins : (b : Bool) → ((number first) == k) ≡ b
        → HasLine (if b then Some first else unit_of k run) (line_of k run)
    begins true e =
        let here : k ≡ (number first) = grind arith in
        let none : unit_of k run ≡ None = ap (λ k. unit_of k run) here ∙ new.unknown in
        first_line _ sent (line_of k run) new.first (subst (λ v. HasLine v (line_of k run)) none h)
    begins false e = h
part_line p run now k (Some (Acts j turn)) h le taken =
    subst (λ b. HasLine (unit_after now k (Some (Acts j turn)) (unit_of k run))
    (drop (taken_by k run + (if b then 1 else 0)) (broadcast_to k run))
    × (taken_by k run + (if b then 1 else 0) ≤ length (broadcast_to k run))) (sym (takes_request-is j k turn))
    (by_unit (j == k) refl)
  where
    by_unit : (b : Bool) → (j == k) ≡ b
        → HasLine (if b then option_map (λ w. (row now turn w).next) (unit_of k run) else unit_of k run)
        (drop (taken_by k run + (if is_take turn && b then 1 else 0)) (broadcast_to k run))
        × (taken_by k run + (if is_take turn && b then 1 else 0) ≤ length (broadcast_to k run))
    by_unit true e =
        let here : k ≡ j = grind arith in
        let own : unit_of k run ≡ Some taken.unit = ap (λ k. unit_of k run) here ∙ taken.is in
        let was : HasLineIn taken.unit.phase taken.unit.line (line_of k run) =
        subst (λ v. HasLine v (line_of k run)) own h in
        subst (λ b. HasLine (option_map (λ w. (row now turn w).next) (unit_of k run))
        (drop (taken_by k run + (if b then 1 else 0)) (broadcast_to k run))
        × (taken_by k run + (if b then 1 else 0) ≤ length (broadcast_to k run))) (sym (and_true (is_take turn))) (
          subst (λ v. HasLine (option_map (λ w. (row now turn w).next) v)
              (drop (taken_by k run + (if is_take turn then 1 else 0)) (broadcast_to k run))) (sym own)
              (subst (HasLineIn (row now turn taken.unit).next.phase (row now turn taken.unit).next.line)
              (drop-drop (if is_take turn then 1 else 0) (taken_by k run) (broadcast_to k run))
              (own_line now turn taken.unit (line_of k run) taken.takes was)),
          own_taken now turn taken.unit (taken_by k run) (broadcast_to k run) taken.takes was le,
        )
      where
        and_true : (b : Bool) → (b && true) ≡ b
        and_true true = refl
        and_true false = refl
    by_unit false e =
        subst (λ b. HasLine (unit_of k run) (drop (taken_by k run + (if b then 1 else 0)) (broadcast_to k run))
        × (taken_by k run + (if b then 1 else 0) ≤ length (broadcast_to k run))) (sym (and_false (is_take turn))) (
          subst (λ n. HasLine (unit_of k run) (drop n (broadcast_to k run)))
              (sym (add-zero (taken_by k run))) h,
          omega arith,
        )
      where
        and_false : (b : Bool) → (b && false) ≡ false
        and_false true = refl
        and_false false = refl

-- and after a broadcast
pub line_after : (p : Settings) (run : List Happening) (now k : ℕ) (request : Option Request) (part : Option UnitPart)
    → HasLine (unit_of k run) (line_of k run) → taken_by k run ≤ length (broadcast_to k run) → PartFits p now run part
    → HasLine (reach request (unit_after now k part (unit_of k run)))
    (drop (taken_by k run + (if takes_request k part then 1 else 0))
    (broadcast_to k run
    ++ (if is_live_unit (unit_after now k part (unit_of k run)) then option_to_list request else [])))
    × (taken_by k run + (if takes_request k part then 1 else 0) ≤ length (broadcast_to k run
    ++ (if is_live_unit (unit_after now k part (unit_of k run)) then option_to_list request else [])))
line_after p run now k request part h le fits =
    let it = part_line p run now k part h le fits in
    let within = it.1 in (
      subst (HasLine (reach request (unit_after now k part (unit_of k run))))
          (sym (drop-append-le (taken_by k run + (if takes_request k part then 1 else 0))
          (broadcast_to k run) _ within))
          (reach_line request (unit_after now k part (unit_of k run)) _ it.0),
      omega (
        arith,
        within,
        length-append (broadcast_to k run)
            (if is_live_unit (unit_after now k part (unit_of k run)) then option_to_list request else []),
      ),
    )
