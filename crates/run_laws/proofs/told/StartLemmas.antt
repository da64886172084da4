-- The starts that are asked and told are those of the plan.
use Rattle.std.proofs.Common.{◌≡◌, ◌≢◌, ◌⊎◌, inl, inr, ℕ, zero, suc, ◌<◌, ◌==◌, ◌||◌, List, [], ◌∷◌, length, Bool, true}
use Rattle.std.proofs.Common.{false, if◌then◌else◌, Option, Some, None, option_map, is_some, refl, ap, sym, subst, ◌∙◌}
use Rattle.std.proofs.Common.{arith}
use Rattle.std.specs.Prelude.{IfSome}
use Rattle.std.specs.List.{All, list_any}
use Rattle.std.specs.Option.{option_or}
use Rattle.std.proofs.lemmas.List.Elements.{All-nil, All-cons, All-head, All-tail}
use Rattle.std.proofs.lemmas.Option.{same_Some}
use Rattle.run_events.specs.declared.events.ReporterEvent.{ReporterEvent}
use Rattle.run_events.specs.declared.events.ReporterEvent.TheVariants.{Tick, Test}
use Rattle.run_events.specs.declared.events.TestEventKind.{TestEventKind}
use Rattle.run_events.specs.declared.events.TestEventKind.TheVariants.{SetupScriptStarted, TestStarted}
use Rattle.run_events.specs.declared.message.Message.{Message}
use Rattle.run_events.specs.declared.message.Message.TheVariants.{ScriptStart, Start}
use Rattle.run_events.specs.declared.plan.PlanTest.{PlanTest}
use Rattle.run_events.specs.declared.plan.TestSlotAssignment.{TestSlotAssignment}
use Rattle.run_events.specs.declared.result.ExecuteStatus.{ExecuteStatus}
use Rattle.run_events.specs.declared.result.ScriptEnv.{ScriptEnv}
use Rattle.run_events.specs.declared.result.ScriptEnv.TheVariants.{Unread, Variables, Fault}
use Rattle.run_events.specs.declared.settings.Settings.{Settings}
use Rattle.run_model.specs.declared.entry.Entry.{Entry}
use Rattle.run_model.specs.declared.happening.Happening.{Happening}
use Rattle.run_model.specs.declared.phase.Phase.{Phase}
use Rattle.run_model.specs.declared.phase.Phase.TheVariants.{StartSent, Starting, Running, Grace, KillWait, Leak}
use Rattle.run_model.specs.declared.phase.Phase.TheVariants.{EnvWait, Deciding, Delay, RetrySent, Over}
use Rattle.run_model.specs.declared.unit_view.UnitRole.{UnitRole}
use Rattle.run_model.specs.declared.unit_view.UnitRole.TheVariants as roles
use Rattle.run_model.specs.declared.unit_view.AttemptTerms.{AttemptTerms}
use Rattle.run_model.specs.declared.unit_view.UnitView.{UnitView}
use Rattle.run_commands.specs.Pair.{Pair}
use Rattle.run_model.specs.Environment.{number_of, number}
use Rattle.run_model.specs.Admission.{first_view, global_slot, handed_by, handed_to, is_done, is_last, scripts_in}
use Rattle.run_model.specs.Admission.{start_message, unit_terms, variables_of}
use Rattle.run_model.specs.Accounts.{News, HasAccountAt, HasAccountIn, HasSkipIn, IsDone, is_mismatched, account_of}
use Rattle.run_model.specs.Accounts.{pending_of}
use Rattle.run_model.specs.Attempts.{pieces_of, statuses_of}
use Rattle.run_model.specs.Board.{board}
use Rattle.run_model.specs.Journal.{history, IsLegalBackward}
use Rattle.run_model.specs.Story.{Attempt, pieces, story_of, was_left}
use Rattle.run_model.specs.Turns.{deed_on}
use Rattle.run_model.specs.Ending.{last_status}
use Rattle.run_model.specs.Retries.{has_passed}
use Rattle.run_model.specs.Words.{clock, is_over, queue, starts, starts_in, sub_run, told, unit_of, units}
use Rattle.run_laws.specs.Limits.{slots_in, slots_by, slots_told}
use Rattle.run_laws.specs.Starts.{AreStartsPlanned, IsPlannedStart, env_said, given_by, given_to, message_of}
use Rattle.run_laws.specs.Starts.{planned_unit, start_told, start_told_in, starts_asked, starts_by}
use Rattle.run_laws.proofs.units.AttemptLemmas.{HasPieces, IsMade, IsMadeIf, made_last, made_statuses}
use Rattle.run_laws.proofs.units.FaceLemmas.{face, given-same, handed-to}
use Rattle.run_laws.proofs.units.AccountRows.{same_number}
use Rattle.run_laws.proofs.board.Holds.{Holds}
use Rattle.run_laws.proofs.board.Kept.{HoldsAfter, does_after, IsOfRun, IsBeforeRuns, where_joins, holds}
use Rattle.run_laws.proofs.board.Newcomers.{IsPlanned}
use Rattle.run_laws.proofs.board.Order.{AreScriptsOver}
use Rattle.run_laws.proofs.told.PlannedTurns.{HasStarts, IsStartOfUnit, HasReadIf, IsPlannedIf}
use Rattle.run_laws.proofs.told.Planned.{starts-cons, starts-none}
use Rattle.run_laws.proofs.told.Indexes.{AreIndexed, index_of_face, indexed}
use Rattle.run_model.specs.SubRuns.{stress_index}
use Rattle.run_model.specs.Admission.{index_of_role}
use Rattle.run_events.specs.declared.stress.StressIndex.{StressIndex}
use Rattle.run_laws.proofs.units.ReadLemmas.{is_given, HasRead}
use Rattle.run_laws.proofs.told.Running.{is_start, starts-account}
use Rattle.run_laws.proofs.told.Asides.{stops_alone}
use Rattle.run_laws.proofs.board.OnBoard.{Frame}
use Rattle.run_laws.proofs.board.OnBoard.{frame_of}
use Rattle.run_laws.proofs.board.Kept.{from_base}

-- a start that an event tells is that of a unit, and that of the plan
abbrev IsToldOfUnit : Settings → List Happening → ReporterEvent → Type 0
IsToldOfUnit p run e = IfSome (start_told e) (IsStartOfUnit p run)

abbrev IsToldAsPlanned : Settings → Option StressIndex → List Happening → ReporterEvent → Type 0
IsToldAsPlanned p index run e = IfSome (start_told e) (IsPlannedStart p index run)

-- what a script that is over handed on is what it gives
given_so : (env : ScriptEnv) (passed : Bool) → (is_given env ≡ true → passed ≡ true)
    → (if passed then variables_of env else []) ≡ variables_of env
given_so env true h = refl
given_so (Variables pairs) false h = let never : false ≡ true = h refl in cc
given_so Unread false h = refl
given_so (Fault fault) false h = refl

read_over : (ph : Phase) (u : UnitView) → is_last ph ≡ true → HasRead ph u
    → is_given u.env ≡ true → has_passed (last_status u.statuses) ≡ true
read_over Over u last h = h
read_over ph u last h = cc

given_is : (p : Settings) (f : Frame) (now : ℕ) (run : List Happening) (i : ℕ) → Holds p now run → HasStarts p run
    → is_done (unit_of i run) ≡ true → given_by p i run ≡ handed_by (unit_of i run)
given_is p f now run i h has done = by_unit (unit_of i run) refl done (h.made i) (has.reads i)
  where
    by_unit : (v : Option UnitView) → unit_of i run ≡ v → is_done v ≡ true
        → IsMadeIf (unit_terms p i) v (story_of i run)
        → HasReadIf v (story_of i run) → given_by p i run ≡ handed_by v
    by_unit None is done made reads = cc
    by_unit (Some u) is done made (env, has) =
        let ss : u.statuses ≡ statuses_of p i run = made_statuses (unit_terms p i) u (pieces_of i run) made in
        ap (λ ss. if has_passed (last_status ss) then variables_of (env_said (story_of i run)) else []) (sym ss)
        ∙ ap (λ env. if has_passed (last_status u.statuses) then variables_of env else []) (sym env)
        ∙ given_so u.env (has_passed (last_status u.statuses)) (read_over u.phase u done has)

given_handed : (p : Settings) (f : Frame) (now : ℕ) (run : List Happening) (test : PlanTest) → Holds p now run
    → HasStarts p run → AreScriptsOver p run → given_to p run test ≡ handed_to p (units p run) test
given_handed p f now run test h has all =
    given-same (λ i. given_by p i run) (λ i. handed_by (unit_of i run)) test.scripts 0 (scripts_in p)
    (λ i below. given_is p f now run i h has (all i (omega arith)))
    ∙ sym (handed-to p run test)

-- the number of the unit whose start a message is
abbrev number_said : Message → ℕ
number_said (ScriptStart start) = start.script.unit
number_said (Start start) = start.test.unit
number_said _ = 0

message_number : (v : UnitView) (m : Message) → message_of v ≡ m → number v ≡ number_said m
message_number v m is = by_role v.role ∙ ap number_said is
  where
    by_role : (role : UnitRole) → number_of role ≡ number_said (start_message role v)
    by_role (roles.Test t) = refl
    by_role (roles.Script s) = refl

face_named : (p : Settings) (f : Frame) (now : ℕ) (run : List Happening) (k : ℕ) (v : UnitView) → Holds p now run
    → option_map face (unit_of k run) ≡ Some v → number v ≡ k
face_named p f now run k v h is = by_unit (unit_of k run) refl is
  where
    by_unit : (w : Option UnitView) → unit_of k run ≡ w → option_map face w ≡ Some v → number v ≡ k
    by_unit None at is = cc
    by_unit (Some u) at is = sym (ap number (same_Some _ _ is)) ∙ (h.named k u at).0

start_number : (p : Settings) (f : Frame) (now : ℕ) (run : List Happening) (m : Message) → Holds p now run
    → (it : IsStartOfUnit p run m) → it.unit ≡ number_said m
start_number p f now run m h it =
    sym (face_named p f now run it.unit it.view h it.is) ∙ message_number it.view m it.sent

-- a test that was told started was told so in its slots
abbrev slot_said : Message → TestSlotAssignment
slot_said (Start start) = start.slot
slot_said _ = global_slot 0

slots_one : (p : Settings) (f : Frame) (now : ℕ) (run : List Happening) (k : ℕ) (index : Option StressIndex)
    (slot : TestSlotAssignment) (vs : List Pair) (test : PlanTest) (e : ReporterEvent) → Holds p now run
    → option_map face (unit_of k run) ≡ Some (first_view p index k slot vs test)
    → IfSome (start_told e) (IsStartOfUnit p run) → starts k e ≡ true → slots_by k e ≡ Some slot
slots_one p f now run k index slot vs test Tick h is of start = cc
slots_one p f now run k index slot vs test (Test event) h is of start = by_kind event.kind of start
  where
    sent_so : (m : Message) → IsStartOfUnit p run m → number_said m ≡ k
        → message_of (first_view p index k slot vs test) ≡ m
    sent_so m it here =
        let at : it.unit ≡ k = start_number p f now run m h it ∙ here in
        let view : it.view ≡ first_view p index k slot vs test =
        same_Some _ _ (sym it.is ∙ ap (λ k. option_map face (unit_of k run)) at ∙ is) in
        sym (ap message_of view) ∙ it.sent

    by_kind : (kind : TestEventKind) → IfSome (start_told_in kind) (IsStartOfUnit p run) → starts_in k kind ≡ true
        → slots_in k kind ≡ Some slot
    by_kind (SetupScriptStarted s) it start = let sent = sent_so (ScriptStart s) it (grind arith) in cc
    by_kind (TestStarted s) it start =
        let sent = sent_so (Start s.start) it (grind arith) in
        rw start (ap Some (sym (ap slot_said sent)))
    by_kind kind it start = cc

pub slots_other : (k : ℕ) (e : ReporterEvent) → starts k e ≡ false → slots_by k e ≡ None
slots_other k Tick other = refl
slots_other k (Test event) other = by_kind event.kind other
  where
    by_kind : (kind : TestEventKind) → starts_in k kind ≡ false → slots_in k kind ≡ None
    by_kind (TestStarted s) other = rw other refl
    by_kind kind other = refl

slots_all : (p : Settings) (f : Frame) (now : ℕ) (run : List Happening) (k : ℕ) (index : Option StressIndex)
    (slot : TestSlotAssignment) (vs : List Pair) (test : PlanTest) (es : List ReporterEvent) → Holds p now run
    → option_map face (unit_of k run) ≡ Some (first_view p index k slot vs test)
    → All (IsToldOfUnit p run) es → list_any (starts k) es ≡ true
    → slots_told k es ≡ Some slot
slots_all p f now run k index slot vs test [] h is of some = cc
slots_all p f now run k index slot vs test (e ∷ es) h is of some =
    by_start (slots_all p f now run k index slot vs test es h is
    (All-tail (IsToldOfUnit p run) e es of)) (starts k e) refl
    some
  where
    by_start : (list_any (starts k) es ≡ true → slots_told k es ≡ Some slot) → (b : Bool) → starts k e ≡ b
        → (b || list_any (starts k) es) ≡ true → option_or (slots_by k e) (slots_told k es) ≡ Some slot
    by_start later true start some =
        rw (slots_one p f now run k index slot vs test e h is (All-head (IsToldOfUnit p run) e es of) start) refl
    by_start later false start some = rw (slots_other k e start) (later some)

-- a unit that was told started is that of the plan
planned_is : (p : Settings) (f : Frame) (now : ℕ) (run : List Happening) (k : ℕ) (v : UnitView) → Holds p now run
    → HasStarts p run → is_mismatched p k ≡ false → option_map face (unit_of k run) ≡ Some v
    → list_any (starts k) (told run) ≡ true → planned_unit p (index_of_role v.role) run k ≡ Some v
planned_is p f now run k v h has matched is some =
    by_planned (subst (IsPlannedIf p (units p run) k) is (has.planned k matched))
  where
    admitted : is_some (unit_of k run) ≡ true
    admitted = by_unit (unit_of k run) is
      where
        by_unit : (w : Option UnitView) → option_map face w ≡ Some v → is_some w ≡ true
        by_unit None is = cc
        by_unit (Some u) is = refl

    by_planned : IsPlanned p (units p run) k v → planned_unit p (index_of_role v.role) run k ≡ Some v
    by_planned (inl script) = rw (script.kind, script.planned) (ap Some (sym script.is))
    by_planned (inr test) =
        let slots = slots_all p f now run k (index_of_role v.role) test.slot
        (handed_to p (units p run) test.test) test.test (told run) h
        (is ∙ ap Some test.is) has.told some in
        let given = given_handed p f now run test.test h has (h.admitted k test.kind admitted) in
        rw (test.kind, test.planned, slots, given) (ap Some (sym test.is))

-- a test that is skipped is let go for no attempt
skipped_none : (terms : AttemptTerms) (u : UnitView) (ps : List Attempt) (t q : List News) → IsMade terms u ps
    → HasSkipIn u.phase u.statuses t q → 0 < length ps → ⊥
skipped_none terms u ps t q made h some = by_skip u.phase u.statuses refl refl h
  where
    by_skip : (ph : Phase) (ss : List ExecuteStatus) → u.phase ≡ ph → u.statuses ≡ ss → HasSkipIn ph ss t q → ⊥
    by_skip Over [] at is h = by_last (made_last terms u ps made at)
      where
        by_last : ((ps ≡ []) × (u.statuses ≡ [])) ⊎ ((u.attempt ≡ length ps) × (u.statuses ≢ [])) → ⊥
        by_last (inl none) = let empty : length ps ≡ 0 = ap length none.0 in absurd (omega arith)
        by_last (inr some) = some.1 is
    by_skip Over (s ∷ ss) at is h = h
    by_skip ph ss at is h = h

-- one that was let go was told started
told_start : (mm left : Bool) (terms : AttemptTerms) (u : UnitView) (ps : List Attempt) (t q : List News)
    → IsMade terms u ps → 0 < length ps → HasAccountAt mm left u.phase u.statuses t q → list_any is_start t ≡ true
told_start true left terms u ps t q made some h = absurd (skipped_none terms u ps t q made h some)
told_start false left terms u ps t q made some h = by_phase u.phase u.statuses refl refl made.has h
  where
    by_phase : (ph : Phase) (ss : List ExecuteStatus) → u.phase ≡ ph → u.statuses ≡ ss → HasPieces terms ph u ps
        → HasAccountIn left ph ss t q → list_any is_start t ≡ true
    by_phase StartSent ss at is has h = by_none ps some has
      where
        by_none : (ps : List Attempt) → 0 < length ps → HasPieces terms StartSent u ps → list_any is_start t ≡ true
        by_none [] some has = absurd (omega arith)
        by_none (a ∷ ps) some has = absurd has
    by_phase Starting ss at is has h = ap (list_any is_start) h.0
    by_phase Running ss at is has h = ap (list_any is_start) h.0
    by_phase Grace ss at is has h = ap (list_any is_start) h.0
    by_phase KillWait ss at is has h = ap (list_any is_start) h.0
    by_phase Leak ss at is has h = ap (list_any is_start) h.0
    by_phase EnvWait ss at is has h = ap (list_any is_start) h.0
    by_phase Deciding ss at is has (early, (s, (e, h))) = ap (list_any is_start) h.0
    by_phase Delay ss at is has (early, (s, (e, inl h))) = ap (list_any is_start) h.0
    by_phase Delay ss at is has (early, (s, (e, inr h))) = ap (list_any is_start) h.0
    by_phase RetrySent ss at is has (early, (s, (e, inl h))) = ap (list_any is_start) h.0
    by_phase RetrySent ss at is has (early, (s, (e, inr h))) = ap (list_any is_start) h.0
    by_phase Over ss at is has h = by_last (made_last terms u ps made at)
      where
        by_done : (left : Bool) (ss : List ExecuteStatus) → u.statuses ≡ ss → u.statuses ≢ [] → IsDone left ss t q
            → list_any is_start t ≡ true
        by_done true ss is some (early, (s, (e, h))) = ap (list_any is_start) h.0
        by_done false [] is some h = absurd (some is)
        by_done false (x ∷ ss) is some (early, (s, (e, inl h))) = ap (list_any is_start) h.0
        by_done false (x ∷ ss) is some (early, (s, (e, inr h))) = ap (list_any is_start) h.0

        by_last : ((ps ≡ []) × (u.statuses ≡ [])) ⊎ ((u.attempt ≡ length ps) × (u.statuses ≢ []))
            → list_any is_start t ≡ true
        by_last (inl none) = let empty : length ps ≡ 0 = ap length none.0 in absurd (omega arith)
        by_last (inr some) = by_done left ss is some.1 h

-- so the starts that were asked are those of the plan
no_starts : (o : Option UnitView) → starts_by o 0 ≡ []
no_starts None = refl
no_starts (Some u) = refl

asked_so : (p : Settings) (f : Frame) (now : ℕ) (index : Option StressIndex) (run : List Happening) (k : ℕ)
    → Holds p now run → HasStarts p run → AreIndexed index run
    → starts_asked k run ≡ starts_by (planned_unit p index run k) (length (pieces_of k run))
asked_so p f now index run k h has indexed = has.asked k ∙ by_pieces (length (pieces_of k run)) refl
  where
    by_unit : (v : Option UnitView) → unit_of k run ≡ v → 0 < length (pieces_of k run)
        → option_map face v ≡ planned_unit p index run k
    by_unit None is some =
        let story : story_of k run ≡ [] = subst (λ v. IsMadeIf (unit_terms p k) v (story_of k run)) is (h.made k) in
        let none : length (pieces_of k run) ≡ 0 = ap (λ s. length (pieces s)) story in absurd (omega arith)
    by_unit (Some u) is some =
        let made : IsMade (unit_terms p k) u (pieces_of k run) =
        subst (λ v. IsMadeIf (unit_terms p k) v (story_of k run)) is (h.made k) in
        let account : HasAccountAt (is_mismatched p k) (was_left k run) u.phase u.statuses (account_of k (told run))
        (pending_of k (queue run)) =
        rw is at (h.accounts k) in
        let started : list_any (starts k) (told run) ≡ true = starts-account k (told run)
        ∙ told_start (is_mismatched p k) (was_left k run) (unit_terms p k) u (pieces_of k run) (account_of k (told run))
        (pending_of k (queue run)) made some account in
        sym (planned_is p f now run k (face u) h has
        (matched (is_mismatched p k) refl u made some account) (ap (option_map face) is) started)
        ∙ ap (λ index. planned_unit p index run k) (index_of_face index run k (face u) indexed
        (ap (option_map face) is))
      where
        matched : (b : Bool) → is_mismatched p k ≡ b → (u : UnitView) → IsMade (unit_terms p k) u (pieces_of k run)
            → 0 < length (pieces_of k run)
            → HasAccountAt b (was_left k run) u.phase u.statuses (account_of k (told run)) (pending_of k (queue run))
            → b ≡ false
        matched false is u made some account = refl
        matched true is u made some account = absurd
            (skipped_none (unit_terms p k) u (pieces_of k run) (account_of k (told run)) (pending_of k (queue run)) made
            account some)

    by_pieces : (n : ℕ) → length (pieces_of k run) ≡ n
        → starts_by (option_map face (unit_of k run)) n ≡ starts_by (planned_unit p index run k) n
    by_pieces zero e = no_starts (option_map face (unit_of k run)) ∙ sym (no_starts (planned_unit p index run k))
    by_pieces (suc n) e = ap (λ v. starts_by v (suc n)) (by_unit (unit_of k run) refl (omega (arith, e)))

-- and so are those that were told
start_begins : (e : ReporterEvent) (m : Message) → start_told e ≡ Some m → starts (number_said m) e ≡ true
start_begins Tick m is = cc
start_begins (Test event) m is = by_kind event.kind is
  where
    by_kind : (kind : TestEventKind) → start_told_in kind ≡ Some m → starts_in (number_said m) kind ≡ true
    by_kind (SetupScriptStarted s) is = ap (λ m. s.script.unit == number_said m)
        (sym (same_Some _ _ is)) ∙ same_number s.script.unit
    by_kind (TestStarted s) is =
        ap (λ m. s.start.test.unit == number_said m) (sym (same_Some _ _ is)) ∙ same_number s.start.test.unit
    by_kind kind is = cc

told_so : (p : Settings) (f : Frame) (now : ℕ) (index : Option StressIndex) (run : List Happening)
    (es : List ReporterEvent) → Holds p now run → HasStarts p run → AreIndexed index run
    → ((k : ℕ) → list_any (starts k) es ≡ true → list_any (starts k) (told run) ≡ true)
    → All (IsToldOfUnit p run) es → All (IsToldAsPlanned p index run) es
told_so p f now index run [] h has indexed among of = All-nil _
told_so p f now index run (e ∷ es) h has indexed among of =
    All-cons (IsToldAsPlanned p index run) e es (one (start_told e) refl (All-head (IsToldOfUnit p run) e es of))
    (told_so p f now index run es h has indexed (λ k some. among k (later (starts k e) (list_any (starts k) es) some))
    (All-tail (IsToldOfUnit p run) e es of))
  where
    later : (a b : Bool) → b ≡ true → (a || b) ≡ true
    later true b e = refl
    later false b e = e

    first : (a b : Bool) → a ≡ true → (a || b) ≡ true
    first a b e = rw e refl

    one : (o : Option Message) → start_told e ≡ o → IfSome o (IsStartOfUnit p run)
        → IfSome o (IsPlannedStart p index run)
    one None is it = tt
    one (Some m) is it =
        let some : starts it.unit e ≡ true =
        ap (λ k. starts k e) (start_number p f now run m h it) ∙ start_begins e m is in (
          it.unit,
          ap (option_map message_of) (ap (λ index. planned_unit p index run it.unit)
              (sym (index_of_face index run it.unit it.view indexed it.is))
              ∙ planned_is p f now run it.unit it.view h has it.matched it.is
              (among it.unit (first (starts it.unit e) (list_any (starts it.unit) es) some))) ∙ ap Some it.sent,
        )

-- what holds of the starts after every legal journal
pub has_starts : (p : Settings) (backward : List Entry) → IsLegalBackward p backward
    → HasStarts p (sub_run (history p backward))
has_starts p [] legal = starts-none p
has_starts p (e ∷ before) legal = one_more (has_starts p before legal.2) (holds p before legal.2)
  where
    past : List Happening
    past = history p before

    one_more : HasStarts p (sub_run past) → HoldsAfter p past → HasStarts p (sub_run (history p (e ∷ before)))
    one_more has h = by_run (where_joins p past e h legal.0)
      where
        by_run : IsOfRun p past e ⊎ IsBeforeRuns p past e → HasStarts p (sub_run (history p (e ∷ before)))
        by_run (inl of) = subst (HasStarts p) (sym of.joins)
            (starts-cons p (frame_of p past) (clock past) of.base e (deed_on p (board p past) e.turn) of.holds of.does
            (stops_alone p (board p past) e.turn) (from_base (HasStarts p) p past e of (starts-none p) has))
        by_run (inr none) = subst (HasStarts p) (sym none.still) (starts-none p)

pub starts_planned : (p : Settings) (backward : List Entry) → IsLegalBackward p backward
    → AreStartsPlanned p (stress_index p (history p backward)) (sub_run (history p backward))
starts_planned p backward legal = record {
  asked = λ k. asked_so p (frame_of p past) (clock past) (stress_index p past) (sub_run past) k h has
      (indexed p backward legal);
  told = told_so p (frame_of p past) (clock past) (stress_index p past) (sub_run past) (told (sub_run past)) h has
      (indexed p backward legal) (λ k some. some) has.told;
}
  where
    past : List Happening
    past = history p backward

    h : Holds p (clock past) (sub_run past)
    h = (holds p backward legal)

    has : HasStarts p (sub_run past)
    has = has_starts p backward legal
