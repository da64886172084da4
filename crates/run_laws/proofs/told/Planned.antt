-- Each unit is that of the plan as it began, and so are the starts that are asked and told of it.
use Rattle.std.proofs.Common.{◌≡◌, inl, inr, ℕ, ◌==◌, List, [], ◌∷◌, ◌++◌, map, length, Bool, true, false}
use Rattle.std.proofs.Common.{if◌then◌else◌, Option, Some, None, option_map, option_and_then, option_to_list}
use Rattle.std.proofs.Common.{filter_map, is_some, refl, ap, sym, subst, ◌∙◌, arith}
use Rattle.std.specs.Prelude.{IfSome}
use Rattle.std.specs.List.{All}
use Rattle.std.proofs.lemmas.List.Elements.{All-nil, All-cons, All-append, All-drop, All-head, All-weaker}
use Rattle.std.proofs.lemmas.List.Elements.{filter_map-append}
use Rattle.std.proofs.lemmas.Option.{same_Some}
use Rattle.run_events.specs.declared.ask.Ask.{Ask}
use Rattle.run_events.specs.declared.ask.Ask.TheVariants.{StopSelf}
use Rattle.run_events.specs.declared.events.ReporterEvent.{ReporterEvent}
use Rattle.run_events.specs.declared.events.ReporterEvent.TheVariants.{Tick, Test}
use Rattle.run_events.specs.declared.events.TestEventKind.{TestEventKind}
use Rattle.run_events.specs.declared.events.TestEventKind.TheVariants.{SetupScriptStarted, TestStarted, RunBeginCancel}
use Rattle.run_events.specs.declared.events.TestEventKind.TheVariants.{RunBeginKill}
use Rattle.run_events.specs.declared.message.Message.{Message}
use Rattle.run_events.specs.declared.plan.PlanTest.{PlanTest}
use Rattle.run_events.specs.declared.request.Request.{Request}
use Rattle.run_events.specs.declared.settings.Settings.{Settings}
use Rattle.run_model.specs.declared.entry.Entry.{Entry}
use Rattle.run_model.specs.declared.happening.Happening.{Happening}
use Rattle.run_model.specs.declared.happening.UnitPart.{UnitPart}
use Rattle.run_model.specs.declared.happening.UnitPart.TheVariants.{Joins, Acts}
use Rattle.run_model.specs.declared.phase.Phase.TheVariants.{StartSent, Over}
use Rattle.run_model.specs.declared.unit_view.UnitView.{UnitView}
use Rattle.run_model.specs.Environment.{number}
use Rattle.run_model.specs.Admission.{handed_by, handed_to, first_view, is_script, scripts_in}
use Rattle.run_model.specs.Accounts.{is_mismatched}
use Rattle.run_model.specs.Dispatch.{having_told}
use Rattle.run_model.specs.Board.{Deed, deed_events, said}
use Rattle.run_model.specs.Unit.{at_moment, is_live, reach, row}
use Rattle.run_model.specs.Attempts.{pieces_of}
use Rattle.run_model.specs.Words.{asked, delivered, sent, told, tally, unit_after, unit_of, units}
use Rattle.run_laws.specs.Starts.{start_for, starts_by, starts_asked, start_told, start_told_in}
use Rattle.run_laws.proofs.units.AccountLemmas.{IsFirst}
use Rattle.run_laws.proofs.told.Cancels.{IsAfter, IsAfterKind, cancel_is}
use Rattle.run_laws.proofs.board.OnBoard.{moment_in}
use Rattle.run_laws.proofs.board.DeedFits.{asked_by, PartFits, IsInOrder, IsSentAs, Does, cancel_told}
use Rattle.run_laws.proofs.units.FaceLemmas.{face, face_reach, face_row, message_face, starts_in, is_start}
use Rattle.run_laws.proofs.units.FaceLemmas.{SendsNoStart, row_sends_none, said_in, said_of, handed-to, given-same}
use Rattle.run_laws.proofs.units.AccountRows.{same_number}
use Rattle.run_laws.proofs.board.Holds.{Holds}
use Rattle.run_laws.proofs.board.Newcomers.{IsPlanned}
use Rattle.run_laws.proofs.board.Order.{AreScriptsOver}
use Rattle.run_laws.proofs.board.Ordered.{board_over, over_kept}
use Rattle.run_laws.proofs.units.Rows.{takes_moment}
use Rattle.run_laws.proofs.told.PlannedTurns.{IsPlannedIf, IsStartOfUnit, HasStarts, asked_after, read_reach}
use Rattle.run_laws.proofs.told.PlannedTurns.{read_after}
use Rattle.run_laws.proofs.board.OnBoard.{Frame}
use Rattle.run_model.specs.Admission.{index_of_role}
use Rattle.run_events.specs.declared.events.TestEventKind.TheVariants.{StressSubRunStarted}
use Rattle.run_events.specs.declared.events.TestEventKind.TheVariants.{RunFinished}

-- a unit that was admitted keeps its face
face_after : (p : Settings) (run : List Happening) (now k : ℕ) (part : Option UnitPart) (v : UnitView)
    → PartFits p now run part → option_map face (unit_of k run) ≡ Some v
    → option_map face (unit_after now k part (unit_of k run)) ≡ Some v
face_after p run now k None v fits is = is
face_after p run now k (Some (Joins first)) v (first_sent, new) is = by_unit (number first == k) refl
  where
    by_unit : (b : Bool) → (number first == k) ≡ b → option_map face (if b then Some first else unit_of k run) ≡ Some v
    by_unit false e = is
    by_unit true e =
        let here : k ≡ number first = grind arith in
        let none : unit_of k run ≡ None = ap (λ k. unit_of k run) here ∙ new.unknown in
        let never : None ≡ Some v = sym (ap (option_map face) none) ∙ is in cc
face_after p run now k (Some (Acts j turn)) v taken is = by_unit (j == k)
  where
    by_unit : (b : Bool)
        → option_map face (if b then option_map (λ w. (row now turn w).next) (unit_of k run)
        else unit_of k run) ≡ Some v
    by_unit true = face_row now turn (unit_of k run) ∙ is
    by_unit false = is

face_stays : (p : Settings) (now : ℕ) (run : List Happening) (e : Entry) (d : Deed) (k : ℕ) (v : UnitView)
    → PartFits p now run d.part → option_map face (unit_of k run) ≡ Some v
    → option_map face (unit_of k (said now e d ∷ run)) ≡ Some v
face_stays p now run e d k v fits is =
    face_reach d.request (unit_after now k d.part (unit_of k run)) ∙ face_after p run now k d.part v fits is

start_stays : (p : Settings) (now : ℕ) (run : List Happening) (e : Entry) (d : Deed) (m : Message)
    → PartFits p now run d.part → IsStartOfUnit p run m → IsStartOfUnit p (said now e d ∷ run) m
start_stays p now run e d m fits it = record {
  unit = it.unit;
  view = it.view;
  matched = it.matched;
  is = face_stays p now run e d it.unit it.view fits it.is;
  sent = it.sent;
}

-- what scripts hand on is left once each is over
handed_reach : (request : Option Request) (v : Option UnitView) → handed_by (reach request v) ≡ handed_by v
handed_reach None v = refl
handed_reach (Some request) None = refl
handed_reach (Some request) (Some u) = by_live (is_live u.phase)
  where
    by_live : (b : Bool)
        → handed_by (Some (if b then record u { line = u.line ++ request ∷ [] } else u)) ≡ handed_by (Some u)
    by_live true = refl
    by_live false = refl

handed_kept : (p : Settings) (now : ℕ) (run : List Happening) (e : Entry) (d : Deed) (test : PlanTest)
    → AreScriptsOver p run → PartFits p now run d.part
    → handed_to p (units p run) test ≡ handed_to p (units p (said now e d ∷ run)) test
handed_kept p now run e d test all fits =
    handed-to p run test
    ∙ given-same (λ i. handed_by (unit_of i run)) (λ i. handed_by (unit_of i (said now e d ∷ run))) test.scripts 0
    (scripts_in p) (λ i below. sym (handed_reach d.request (unit_after now i d.part (unit_of i run))
    ∙ ap handed_by (over_kept p run now i d.part (all i (omega arith)) fits)))
    ∙ sym (handed-to p (said now e d ∷ run) test)

planned_kept : (p : Settings) (now : ℕ) (run : List Happening) (e : Entry) (d : Deed) (k : ℕ) (u : UnitView)
    → (is_script p k ≡ false → AreScriptsOver p run) → PartFits p now run d.part
    → IsPlanned p (units p run) k u → IsPlanned p (units p (said now e d ∷ run)) k u
planned_kept p now run e d k u all fits (inl script) = inl script
planned_kept p now run e d k u all fits (inr test) = inr (record {
  test = test.test;
  slot = test.slot;
  kind = test.kind;
  planned = test.planned;
  is = test.is ∙ ap (λ vs. first_view p (index_of_role u.role) k test.slot vs test.test)
      (handed_kept p now run e d test.test (all test.kind) fits);
})

planned_face : (p : Settings) (us : List (Option UnitView)) (k : ℕ) (u : UnitView) → IsPlanned p us k u
    → IsPlanned p us k (face u)
planned_face p us k u (inl script) = inl (record {
  script = script.script;
  kind = script.kind;
  planned = script.planned;
  is = ap face script.is;
})
planned_face p us k u (inr test) = inr (record {
  test = test.test;
  slot = test.slot;
  kind = test.kind;
  planned = test.planned;
  is = ap face test.is;
})

planned_after : (p : Settings) (f : Frame) (now : ℕ) (run : List Happening) (e : Entry) (d : Deed) (k : ℕ)
    → Holds p now run → PartFits p now run d.part → is_mismatched p k ≡ false
    → IsPlannedIf p (units p run) k (option_map face (unit_of k run))
    → IsPlannedIf p (units p (said now e d ∷ run)) k (option_map face (unit_of k (said now e d ∷ run)))
planned_after p f now run e d k h fits matched was =
    subst (IsPlannedIf p (units p (said now e d ∷ run)) k)
    (sym (face_reach d.request (unit_after now k d.part (unit_of k run)))) (by_part d.part refl fits)
  where
    Later : Option UnitView → Type 0
    Later v = IsPlannedIf p (units p (said now e d ∷ run)) k v

    kept : (v : Option UnitView) → unit_of k run ≡ v → IsPlannedIf p (units p run) k (option_map face v)
        → Later (option_map face v)
    kept None is was = tt
    kept (Some u) is was = planned_kept p now run e d k (face u) (λ test. h.admitted k test (ap is_some is)) fits was

    by_part : (part : Option UnitPart) → d.part ≡ part → PartFits p now run part
        → Later (option_map face (unit_after now k part (unit_of k run)))
    by_part None is none = kept (unit_of k run) refl was
    by_part (Some (Joins first)) is (first_sent, new) = by_unit (number first == k) refl
      where
        by_unit : (b : Bool) → (number first == k) ≡ b
            → Later (option_map face (if b then Some first else unit_of k run))
        by_unit false at = kept (unit_of k run) refl was
        by_unit true at =
            let here : number first ≡ k = grind arith in
            let planned : IsPlanned p (units p run) k first =
            subst (λ k. IsPlanned p (units p run) k first) here (new.planned (ap (is_mismatched p) here ∙ matched)) in
            planned_face p (units p (said now e d ∷ run)) k first
            (planned_kept p now run e d k first
            (λ test. board_over p run (new.scripts (ap (is_script p) here ∙ test))) fits planned)
    by_part (Some (Acts j turn)) is taken = by_unit (j == k)
      where
        by_unit : (b : Bool) → Later (option_map face
            (if b then option_map (λ w. (row now turn w).next) (unit_of k run) else unit_of k run))
        by_unit false = kept (unit_of k run) refl was
        by_unit true = subst Later (sym (face_row now turn (unit_of k run))) (kept (unit_of k run) refl was)

-- a start that is sent is that of the unit that joins
sent_after : (p : Settings) (f : Frame) (now : ℕ) (run : List Happening) (e : Entry) (d : Deed)
    → PartFits p now run d.part
    → IsSentAs now run d.part d.sent
    → All (λ m. is_start m ≡ true → IsStartOfUnit p (said now e d ∷ run) m) (option_to_list d.sent)
sent_after p f now run e d fits from = by_sent d.part d.sent refl fits from
  where
    x : Happening
    x = said now e d

    Fine : Message → Type 0
    Fine m = is_start m ≡ true → IsStartOfUnit p (x ∷ run) m

    never_sent : (m : Message) → is_start m ≡ false → Fine m
    never_sent m none starts = let never : false ≡ true = sym none ∙ starts in cc

    one : (part : Option UnitPart) (m : Message) → d.part ≡ part → PartFits p now run part
        → IsSentAs now run part (Some m) → Fine m
    one None m is fits from = cc
    one (Some (Acts j turn)) m is taken from = never_sent m (subst SendsNoStart (sym from)
        (subst (λ v. SendsNoStart (option_and_then (λ v. (row now turn v).sent) v)) (sym taken.is)
        (row_sends_none now taken.unit.phase turn (at_moment now taken.unit) refl
        (takes_moment now taken.unit.phase taken.unit turn taken.takes))))
    one (Some (Joins first)) m is (first_sent, new) (true, from) = never_sent m (ap is_start from.1.1.1.1)
    one (Some (Joins first)) m is (first_sent, new) (false, from) = λ starts. record {
      unit = number first;
      view = face first;
      matched = by_first (is_mismatched p (number first)) from.0 new.first;
      is = face_reach d.request (unit_after now (number first) d.part (unit_of (number first) run))
          ∙ ap (λ part. option_map face (unit_after now (number first) part (unit_of (number first) run))) is
          ∙ joined (number first == number first) (same_number (number first));
      sent = sym (message_face first) ∙ sym from.1;
    }
      where
        by_first : (b : Bool) → first.phase ≡ StartSent → IsFirst b first first_sent → b ≡ false
        by_first false at it = refl
        by_first true at it = let never : StartSent ≡ Over = sym at ∙ it.0 in cc

        joined : (b : Bool) → b ≡ true
            → option_map face (if b then Some first else unit_of (number first) run) ≡ Some (face first)
        joined true e = refl
        joined false e = cc

    by_sent : (part : Option UnitPart) (o : Option Message) → d.part ≡ part → PartFits p now run part
        → IsSentAs now run part o
        → All Fine (option_to_list o)
    by_sent part None is fits from = All-nil Fine
    by_sent part (Some m) is fits from = All-cons Fine m [] (one part m is fits from) (All-nil Fine)

-- and one that is told was sent
starts_told : (e : ReporterEvent) (m : Message) → start_told e ≡ Some m → is_start m ≡ true
starts_told Tick m is = cc
starts_told (Test event) m is = by_kind event.kind is
  where
    by_kind : (kind : TestEventKind) → start_told_in kind ≡ Some m → is_start m ≡ true
    by_kind (SetupScriptStarted start) is = sym (ap is_start (same_Some _ _ is))
    by_kind (TestStarted start) is = sym (ap is_start (same_Some _ _ is))
    by_kind kind is = cc

started_said : (e : ReporterEvent) (m : Message) → start_told e ≡ Some m → said_of e ≡ Some m
started_said Tick m is = cc
started_said (Test event) m is = by_kind event.kind is
  where
    by_kind : (kind : TestEventKind) → start_told_in kind ≡ Some m → said_in kind ≡ Some m
    by_kind (SetupScriptStarted start) is = is
    by_kind (TestStarted start) is = is
    by_kind kind is = cc

cancel_none : (e : ReporterEvent) → IsAfter (Some e) → start_told e ≡ None
cancel_none Tick h = absurd h
cancel_none (Test event) h = by_kind event.kind h
  where
    by_kind : (kind : TestEventKind) → IsAfterKind kind → start_told_in kind ≡ None
    by_kind (RunBeginCancel cancelled) h = refl
    by_kind (RunBeginKill cancelled) h = refl
    by_kind (StressSubRunStarted progress) h = refl
    by_kind (RunFinished finished) h = refl
    by_kind kind h = absurd h

told_after : (p : Settings) (f : Frame) (now : ℕ) (run : List Happening) (e : Entry) (d : Deed)
    → PartFits p now run d.part
    → All (λ m. is_start m ≡ true → IsStartOfUnit p run m) (sent run) → IfSome d.told (IsInOrder p run)
    → IsAfter d.after
    → All (λ x. IfSome (start_told x) (IsStartOfUnit p (said now e d ∷ run))) (deed_events d)
told_after p f now run e d fits starts order cancels =
    All-append Fine (option_to_list d.told) (option_to_list d.after) (by_told d.told order) (by_cancel d.after cancels)
  where
    Fine : ReporterEvent → Type 0
    Fine x = IfSome (start_told x) (IsStartOfUnit p (said now e d ∷ run))

    one : (x : ReporterEvent) (o : Option Message) → start_told x ≡ o → IsInOrder p run x
        → IfSome o (IsStartOfUnit p (said now e d ∷ run))
    one x None is order = tt
    one x (Some m) is order =
        let oldest = order.said m (started_said x m is) in
        let waits : All (λ m. is_start m ≡ true → IsStartOfUnit p run m) (m ∷ oldest.0) =
        subst (All (λ m. is_start m ≡ true → IsStartOfUnit p run m)) oldest.1
        (All-drop (λ m. is_start m ≡ true → IsStartOfUnit p run m) (delivered run) (sent run) starts) in
        start_stays p now run e d m fits
        (All-head (λ m. is_start m ≡ true → IsStartOfUnit p run m) m oldest.0 waits (starts_told x m is))

    by_told : (o : Option ReporterEvent) → IfSome o (IsInOrder p run) → All Fine (option_to_list o)
    by_told None order = All-nil Fine
    by_told (Some x) order = All-cons Fine x [] (one x (start_told x) refl order) (All-nil Fine)

    by_cancel : (o : Option ReporterEvent) → IsAfter o → All Fine (option_to_list o)
    by_cancel None none = All-nil Fine
    by_cancel (Some x) none =
        All-cons Fine x [] (subst (λ o. IfSome o (IsStartOfUnit p (said now e d ∷ run))) (sym (cancel_none x none)) tt)
        (All-nil Fine)

-- what was asked after one more deed
asked_one : (k n : ℕ) (ask : Option Ask)
    → filter_map (λ (a : ℕ × Ask). start_for k a.1) (map (λ ask. (n, ask)) (option_to_list ask)) ≡ starts_in k ask
asked_one k n None = refl
asked_one k n (Some ask) = refl

-- so all of that holds after one more deed
pub starts-cons : (p : Settings) (f : Frame) (now : ℕ) (run : List Happening) (e : Entry) (d : Deed)
    → Holds p now run → Does p f now run d → (d.stops ≡ true → d.part ≡ None) → HasStarts p run
    → HasStarts p (said now e d ∷ run)
starts-cons p f now run e d h does alone was = record {
  asked = λ k. filter_map-append (λ (a : ℕ × Ask). start_for k a.1) (asked run)
      (map (λ ask. (length run, ask)) (option_to_list d.asked))
      ∙ ap (λ s. starts_asked k run ++ s) (asked_one k (length run) d.asked
      ∙ ap (starts_in k) does.asks ∙ by_stop k d.stops refl)
      ∙ asked_after p f now run k d.part h does.part (was.asked k)
      ∙ sym (ap (λ v. starts_by v (length (pieces_of k (said now e d ∷ run))))
      (face_reach d.request (unit_after now k d.part (unit_of k run))));
  reads = λ k. read_reach d.request (unit_after now k d.part (unit_of k run)) _
      (read_after p f now run k d.part h does.part (was.reads k));
  planned = λ k matched. planned_after p f now run e d k h does.part matched (was.planned k matched);
  sent = All-append (λ m. is_start m ≡ true → IsStartOfUnit p (said now e d ∷ run) m) (sent run) (option_to_list d.sent)
      (All-weaker (λ m. is_start m ≡ true → IsStartOfUnit p run m)
      (λ m. is_start m ≡ true → IsStartOfUnit p (said now e d ∷ run) m)
      (λ m it starts. start_stays p now run e d m does.part (it starts)) (sent run) was.sent)
      (sent_after p f now run e d does.part does.sent_as);
  told = All-append (λ x. IfSome (start_told x) (IsStartOfUnit p (said now e d ∷ run))) (told run) (deed_events d)
      (All-weaker (λ x. IfSome (start_told x) (IsStartOfUnit p run))
      (λ x. IfSome (start_told x) (IsStartOfUnit p (said now e d ∷ run)))
      (λ x it. stays (start_told x) it) (told run) was.told)
      (told_after p f now run e d does.part was.sent does.order
      (cancel_told p f now run d does.marks));
}
  where
    by_stop : (k : ℕ) (b : Bool) → d.stops ≡ b
        → starts_in k (if b then Some StopSelf else asked_by now run d.part) ≡ starts_in k (asked_by now run d.part)
    by_stop k true stops = ap (λ part. starts_in k (asked_by now run part)) (sym (alone stops))
    by_stop k false stops = refl

    stays : (o : Option Message) → IfSome o (IsStartOfUnit p run) → IfSome o (IsStartOfUnit p (said now e d ∷ run))
    stays None it = tt
    stays (Some m) it = start_stays p now run e d m does.part it

pub starts-none : (p : Settings) → HasStarts p []
starts-none p = record {
  asked = λ k. refl;
  reads = λ k. tt;
  planned = λ k matched. tt;
  sent = All-nil _;
  told = All-nil _;
}
