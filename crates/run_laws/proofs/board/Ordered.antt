-- Scripts come before tests, after one more deed.
use Rattle.std.proofs.Common.{◌≡◌, ◌⊎◌, inl, inr, ℕ, ◌<◌, ◌==◌, List, [], ◌∷◌, ◌++◌, drop, take, Bool, true, false}
use Rattle.std.proofs.Common.{not, ◌||◌, if◌then◌else◌, Option, Some, None, is_some, option_map, option_to_list, refl}
use Rattle.std.proofs.Common.{ap, sym, subst, ◌∙◌, arith, length-take}
use Rattle.std.specs.Prelude.{IfSome}
use Rattle.std.specs.List.{list_any}
use Rattle.std.proofs.lemmas.Bool.Decides.{nat_tests}
use Rattle.std.proofs.lemmas.List.{get_or-take}
use Rattle.std.proofs.lemmas.List.Folds.{list_any-append}
use Rattle.run_events.specs.declared.events.ReporterEvent.{ReporterEvent}
use Rattle.run_events.specs.declared.events.ReporterEvent.TheVariants.{Tick, Test}
use Rattle.run_events.specs.declared.events.TestEventKind.{TestEventKind}
use Rattle.run_events.specs.declared.events.TestEventKind.TheVariants.{RunBeginCancel, RunBeginKill}
use Rattle.run_events.specs.declared.message.Message.{Message}
use Rattle.run_events.specs.declared.request.Request.{Request}
use Rattle.run_events.specs.declared.settings.Settings.{Settings}
use Rattle.run_model.specs.declared.entry.Entry.{Entry}
use Rattle.run_model.specs.declared.happening.Happening.{Happening}
use Rattle.run_model.specs.declared.happening.UnitPart.{UnitPart}
use Rattle.run_model.specs.declared.happening.UnitPart.TheVariants.{Joins, Acts}
use Rattle.run_model.specs.declared.phase.Phase.{Phase}
use Rattle.run_model.specs.declared.phase.Phase.TheVariants.{Over}
use Rattle.run_model.specs.declared.unit_turn.UnitTurn.{UnitTurn}
use Rattle.run_model.specs.declared.unit_view.UnitView.{UnitView}
use Rattle.run_model.specs.Admission.{is_done, is_last, is_script, scripts_in, scripts_over}
use Rattle.run_model.specs.Board.{Deed, deed_events, said}
use Rattle.run_model.specs.Environment.{number}
use Rattle.run_model.specs.Unit.{row, takes, takes_at, is_live, reach}
use Rattle.run_model.specs.Words.{queue, sent, told, unit_after, unit_of, units}
use Rattle.run_laws.specs.Scripts.{starts_test, starts_test_in}
use Rattle.run_laws.proofs.told.Cancels.{IsAfter, IsAfterKind}
use Rattle.run_laws.proofs.board.DeedFits.{cancel_told, PartFits, IsSentFor, IsSentBy, IsInOrder, Does}
use Rattle.run_laws.proofs.board.Holds.{Holds}
use Rattle.run_laws.proofs.board.OnBoard.{units-at, units-length}
use Rattle.run_laws.proofs.board.Order.{is_of_script, no_test, AreSorted, AreScriptsOver, AreSettled, all_at}
use Rattle.run_laws.proofs.board.Order.{sorted-if, none-drop}
use Rattle.run_laws.proofs.board.Queue.{queue-cons}
use Rattle.run_laws.proofs.board.OnBoard.{Frame}
use Rattle.run_events.specs.declared.events.TestEventKind.TheVariants.{StressSubRunStarted}
use Rattle.run_events.specs.declared.events.TestEventKind.TheVariants.{RunFinished}
use Rattle.run_laws.proofs.board.Facts.{script_below}

-- each script is over where all on the board are
pub board_over : (p : Settings) (run : List Happening) → scripts_over p (units p run) ≡ true → AreScriptsOver p run
board_over p run all k within =
    sym (ap is_done (get_or-take (scripts_in p) (units p run) k None within ∙ units-at p run k (omega arith)))
    ∙ all_at is_done (take (scripts_in p) (units p run)) k None all
    (omega (arith, length-take (scripts_in p) (units p run), units-length p run))

-- a unit that takes a turn isn't over
still_on : (now : ℕ) (turn : UnitTurn) (u : UnitView) → takes now u turn ≡ true → is_done (Some u) ≡ true → ⊥
still_on now turn u en done = by_phase u.phase en done
  where
    by_phase : (ph : Phase) → takes_at now ph u turn ≡ true → is_last ph ≡ true → ⊥
    by_phase Over en done = cc
    by_phase ph en done = cc

-- one that is over stays so
pub done_reach : (request : Option Request) (v : Option UnitView) → is_done v ≡ true → is_done (reach request v) ≡ true
done_reach None v done = done
done_reach (Some request) None done = done
done_reach (Some request) (Some u) done = by_live (is_live u.phase)
  where
    by_live : (b : Bool) → is_done (Some (if b then record u { line = u.line ++ request ∷ [] } else u)) ≡ true
    by_live true = done
    by_live false = done

-- a part leaves a unit that is over as it is
pub over_kept : (p : Settings) (run : List Happening) (now k : ℕ) (part : Option UnitPart)
    → is_done (unit_of k run) ≡ true
    → PartFits p now run part → unit_after now k part (unit_of k run) ≡ unit_of k run
over_kept p run now k None done fits = refl
over_kept p run now k (Some (Joins first)) done (sent, new) = by_unit (number first == k) refl
  where
    by_unit : (b : Bool) → (number first == k) ≡ b → (if b then Some first else unit_of k run) ≡ unit_of k run
    by_unit false e = refl
    by_unit true e =
        let here : k ≡ number first = grind arith in
        let never : false ≡ true = sym (ap is_done (ap (λ k. unit_of k run) here ∙ new.unknown)) ∙ done in cc
over_kept p run now k (Some (Acts j turn)) done taken = by_unit (j == k) refl
  where
    by_unit : (b : Bool) → (j == k) ≡ b
        → (if b then option_map (λ v. (row now turn v).next) (unit_of k run) else unit_of k run) ≡ unit_of k run
    by_unit false e = refl
    by_unit true e =
        let here : k ≡ j = grind arith in
        let own : unit_of k run ≡ Some taken.unit = ap (λ k. unit_of k run) here ∙ taken.is in
        absurd (still_on now turn taken.unit taken.takes (sym (ap is_done own) ∙ done))

scripts_kept : (p : Settings) (now : ℕ) (run : List Happening) (e : Entry) (d : Deed) → AreScriptsOver p run
    → PartFits p now run d.part → AreScriptsOver p (said now e d ∷ run)
scripts_kept p now run e d over fits k within =
    done_reach d.request (unit_after now k d.part (unit_of k run))
    (ap is_done (over_kept p run now k d.part (over k within) fits) ∙ over k within)

-- so it sends nothing once each is over
sends_none : (p : Settings) (f : Frame) (now : ℕ) (run : List Happening) (part : Option UnitPart) (m : Message)
    → Holds p now run → AreScriptsOver p run → PartFits p now run part → IsSentFor run part (Some m)
    → is_of_script m ≡ true → ⊥
sends_none p f now run None m h all fits from script = from
sends_none p f now run (Some (Joins first)) m h all (sent, new) from script =
    let is : is_script p (number first) ≡ true = sym new.role ∙ sym from ∙ script in
    let never : false ≡ true = sym (ap is_done new.unknown) ∙ all (number first)
    (script_below p (number first) is) in cc
sends_none p f now run (Some (Acts j turn)) m h all taken from script =
    let own : IsSentBy (Some taken.unit) m = subst (λ v. IsSentBy v m) taken.is from in
    let is : is_script p j ≡ true = sym (h.named j taken.unit taken.is).3 ∙ sym own ∙ script in
    still_on now turn taken.unit taken.takes (sym (ap is_done taken.is) ∙ all j (script_below p j is))

-- and a test sends once each is
test_sends : (p : Settings) (f : Frame) (now : ℕ) (run : List Happening) (part : Option UnitPart) (m : Message)
    → Holds p now run → PartFits p now run part → IsSentFor run part (Some m) → is_of_script m ≡ false
    → AreScriptsOver p run
test_sends p f now run None m h fits from test = absurd from
test_sends p f now run (Some (Joins first)) m h (sent, new) from test =
    board_over p run (new.scripts (sym new.role ∙ sym from ∙ test))
test_sends p f now run (Some (Acts j turn)) m h taken from test =
    let own : IsSentBy (Some taken.unit) m = subst (λ v. IsSentBy v m) taken.is from in
    h.admitted j (sym (h.named j taken.unit taken.is).3 ∙ sym own ∙ test) (ap is_some taken.is)

-- a test is admitted once each is over
pub some_reach : (request : Option Request) (v : Option UnitView) → is_some (reach request v) ≡ true → is_some v ≡ true
some_reach None v e = e
some_reach (Some request) None e = e
some_reach (Some request) (Some u) e = refl

admitted_after : (p : Settings) (f : Frame) (now : ℕ) (run : List Happening) (k : ℕ) (part : Option UnitPart)
    → Holds p now run → PartFits p now run part → is_script p k ≡ false
    → is_some (unit_after now k part (unit_of k run)) ≡ true → AreScriptsOver p run
admitted_after p f now run k None h fits test e = h.admitted k test e
admitted_after p f now run k (Some (Joins first)) h (sent, new) test e = by_unit (number first == k) refl e
  where
    by_unit : (b : Bool) → (number first == k) ≡ b → is_some (if b then Some first else unit_of k run) ≡ true
        → AreScriptsOver p run
    by_unit false at e = h.admitted k test e
    by_unit true at e =
        let here : number first ≡ k = grind arith in
        board_over p run (new.scripts (ap (is_script p) here ∙ test))
admitted_after p f now run k (Some (Acts j turn)) h taken test e = by_unit (j == k) e
  where
    still_some : (v : Option UnitView) → is_some (option_map (λ v. (row now turn v).next) v) ≡ true → is_some v ≡ true
    still_some None e = e
    still_some (Some u) e = refl

    by_unit : (b : Bool)
        → is_some (if b then option_map (λ v. (row now turn v).next) (unit_of k run) else unit_of k run) ≡ true
        → AreScriptsOver p run
    by_unit false e = h.admitted k test e
    by_unit true e = h.admitted k test (still_some (unit_of k run) e)

-- what holds of the order of scripts and tests, of a sub-run after one more deed
either : (a b : Bool) → (a || b) ≡ true → (a ≡ true) ⊎ (b ≡ true)
either true b e = inl refl
either false b e = inr e

pub cancel_starts : (e : ReporterEvent) → IsAfter (Some e) → starts_test e ≡ false
cancel_starts Tick h = absurd h
cancel_starts (Test e) h = by_kind e.kind h
  where
    by_kind : (kind : TestEventKind) → IsAfterKind kind → starts_test_in kind ≡ false
    by_kind (RunBeginCancel cancelled) h = refl
    by_kind (RunBeginKill cancelled) h = refl
    by_kind (StressSubRunStarted progress) h = refl
    by_kind (RunFinished finished) h = refl
    by_kind kind h = absurd h

cancel_starts_if : (o : Option ReporterEvent) → IsAfter o → list_any starts_test (option_to_list o) ≡ false
cancel_starts_if None h = refl
cancel_starts_if (Some e) h = rw (cancel_starts e h) refl

pub record IsOrdered (p : Settings) (run : List Happening) : Type 0 where
  pub admitted : (k : ℕ) → is_script p k ≡ false → is_some (unit_of k run) ≡ true → AreScriptsOver p run
  pub tests_sent : list_any (λ m. not (is_of_script m)) (sent run) ≡ true → AreScriptsOver p run
  pub sorted : AreSorted (sent run)
  pub tests_told : list_any starts_test (told run) ≡ true → AreSettled p run

pub ordered_after : (p : Settings) (f : Frame) (now : ℕ) (run : List Happening) (e : Entry) (d : Deed)
    → Holds p now run → Does p f now run d → IsOrdered p (said now e d ∷ run)
ordered_after p f now run e d h does = record {
  admitted = λ k test some. kept (admitted_after p f now run k d.part h does.part test
      (some_reach d.request (unit_after now k d.part (unit_of k run)) some));
  tests_sent = λ some. kept (by_sent d.sent does.source
      (either _ _ (sym (list_any-append (λ m. not (is_of_script m)) (sent run) (option_to_list d.sent)) ∙ some)));
  sorted = sorted-if (sent run) d.sent h.sorted (λ m is script. early m is script _ refl);
  tests_told = λ some. settled (by_told d.told does.order
      (either _ _ (sym (list_any-append starts_test (told run) (deed_events d)) ∙ some)));
}
  where
    kept : AreScriptsOver p run → AreScriptsOver p (said now e d ∷ run)
    kept all = scripts_kept p now run e d all does.part

    by_kind : (m : Message) (b : Bool) → is_of_script m ≡ b → (not b || false) ≡ true → is_of_script m ≡ false
    by_kind m false e some = e
    by_kind m true e some = cc

    by_sent : (o : Option Message) → IsSentFor run d.part o
        → (list_any (λ m. not (is_of_script m)) (sent run) ≡ true)
        ⊎ (list_any (λ m. not (is_of_script m)) (option_to_list o) ≡ true) → AreScriptsOver p run
    by_sent o from (inl some) = h.tests_sent some
    by_sent None from (inr some) = cc
    by_sent (Some m) from (inr some) =
        test_sends p f now run d.part m h does.part from (by_kind m (is_of_script m) refl some)

    early : (m : Message) → d.sent ≡ Some m → is_of_script m ≡ true → (b : Bool)
        → list_any (λ m. not (is_of_script m)) (sent run) ≡ b → no_test (sent run)
    early m is script false some = some
    early m is script true some =
        absurd (sends_none p f now run d.part m h (h.tests_sent some) does.part
        (subst (IsSentFor run d.part) is does.source) script)

    cancels : IsAfter d.after
    cancels = cancel_told p f now run d does.marks

    by_event : (o : Option ReporterEvent) → IfSome o (IsInOrder p run) → list_any starts_test (option_to_list o) ≡ true
        → AreSettled p run
    by_event None order some = cc
    by_event (Some e) order some = order.test (one (starts_test e) some)
      where
        one : (b : Bool) → (b || false) ≡ true → b ≡ true
        one true some = refl
        one false some = some

    by_told : (o : Option ReporterEvent) → IfSome o (IsInOrder p run)
        → (list_any starts_test (told run) ≡ true) ⊎ (list_any starts_test
        (option_to_list o ++ option_to_list d.after) ≡ true)
        → AreSettled p run
    by_told o order (inl some) = h.tests_told some
    by_told o order (inr some) =
        by_own (either _ _ (sym (list_any-append starts_test (option_to_list o) (option_to_list d.after)) ∙ some))
      where
        by_own : (list_any starts_test (option_to_list o) ≡ true)
            ⊎ (list_any starts_test (option_to_list d.after) ≡ true)
            → AreSettled p run
        by_own (inl own) = by_event o order own
        by_own (inr cancel) = let never : false ≡ true = sym (cancel_starts_if d.after cancels) ∙ cancel in cc

    none_sent : (o : Option Message) → d.sent ≡ o → AreScriptsOver p run
        → list_any is_of_script (option_to_list o) ≡ false
    none_sent None is all = refl
    none_sent (Some m) is all = by_script (is_of_script m) refl
      where
        by_script : (b : Bool) → is_of_script m ≡ b → (b || false) ≡ false
        by_script false script = refl
        by_script true script =
            absurd (sends_none p f now run d.part m h all does.part
            (subst (IsSentFor run d.part) is does.source) script)

    settled : AreSettled p run → AreSettled p (said now e d ∷ run)
    settled (none, all) = (
      ap (list_any is_of_script) (queue-cons (said now e d) run does.room)
          ∙ list_any-append is_of_script (drop (if d.taken then 1 else 0) (queue run)) (option_to_list d.sent)
          ∙ ap (λ b. b || list_any is_of_script (option_to_list d.sent))
          (none-drop (if d.taken then 1 else 0) (queue run) none)
          ∙ none_sent d.sent refl all,
      kept all,
    )
