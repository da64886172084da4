-- A start is told in the slots with which its test joined.
use Rattle.std.specs.Prelude.{IfSome}
use Rattle.std.proofs.Common.{◌≡◌, ℕ, ◌==◌, List, [], ◌∷◌, Bool, true, false, if◌then◌else◌, Option, Some, None}
use Rattle.std.proofs.Common.{option_map, option_and_then, option_to_list, refl, ap, sym, subst, ◌∙◌, arith}
use Rattle.std.specs.List.{All}
use Rattle.std.specs.Option.{option_or}
use Rattle.std.proofs.lemmas.List.Elements.{All-nil, All-cons, All-append, All-weaker}
use Rattle.run_events.specs.declared.events.ReporterEvent.{ReporterEvent}
use Rattle.run_events.specs.declared.events.ReporterEvent.TheVariants.{Tick, Test}
use Rattle.run_events.specs.declared.events.TestEventKind.{TestEventKind}
use Rattle.run_events.specs.declared.events.TestEventKind.TheVariants.{SetupScriptStarted, TestStarted}
use Rattle.run_events.specs.declared.message.Message.{Message}
use Rattle.run_events.specs.declared.message.Message.TheVariants.{Start}
use Rattle.run_events.specs.declared.plan.TestSlotAssignment.{TestSlotAssignment}
use Rattle.run_events.specs.declared.settings.Settings.{Settings}
use Rattle.run_model.specs.declared.entry.Entry.{Entry}
use Rattle.run_model.specs.declared.happening.Happening.{Happening}
use Rattle.run_model.specs.declared.happening.UnitPart.{UnitPart}
use Rattle.run_model.specs.declared.happening.UnitPart.TheVariants.{Joins, Acts}
use Rattle.run_model.specs.declared.unit_view.UnitRole.{UnitRole}
use Rattle.run_model.specs.declared.unit_view.UnitRole.TheVariants as roles
use Rattle.run_model.specs.declared.unit_view.UnitView.{UnitView}
use Rattle.run_model.specs.Admission.{start_message}
use Rattle.run_model.specs.Board.{Deed, said}
use Rattle.run_model.specs.Environment.{number, number_of}
use Rattle.run_model.specs.Journal.{history, IsLegalBackward}
use Rattle.run_model.specs.Turns.{deed_on}
use Rattle.run_model.specs.Unit.{at_moment, row}
use Rattle.run_model.specs.Words.{sent, sub_run, told, unit_after, unit_of}
use Rattle.run_laws.specs.Starts.{start_told, start_told_in}
use Rattle.run_laws.proofs.board.DeedFits.{IsSentAs, PartFits}
use Rattle.run_laws.proofs.units.FaceLemmas.{is_start, SendsNoStart, row_sends_none}
use Rattle.run_laws.proofs.units.AccountRows.{same_number}
use Rattle.run_laws.proofs.board.OnBoard.{board_with}
use Rattle.run_laws.proofs.units.Rows.{row_keeps, takes_moment}
use Rattle.run_laws_events.specs.Slots.{IsInSlots, slots_in_role, slots_joined, slots_joining}
use Rattle.run_laws_events.proofs.ByJournal.{IsKept, by_journal}
use Rattle.run_laws_events.proofs.Goes.{reach_slots}
use Rattle.run_laws_events.proofs.GoRows.{unit_slots}
use Rattle.run_laws_events.proofs.PlanMessages.{of_messages}
use Rattle.run_laws_events.proofs.Told.{message_in, message_of, told_among}

-- a unit has the slots with which it joined
abbrev HasJoined : ℕ → List Happening → Type 0
HasJoined k run = slots_joined k run ≡ unit_slots (unit_of k run)

or-none : (o : Option TestSlotAssignment) → option_or o None ≡ o
or-none None = refl
or-none (Some slots) = refl

part_joined : (p : Settings) (now : ℕ) (run : List Happening) (k : ℕ) (part : Option UnitPart) → PartFits p now run part
    → HasJoined k run
    → option_or (slots_joined k run) (slots_joining k part) ≡ unit_slots (unit_after now k part (unit_of k run))
part_joined p now run k None fits was = or-none (slots_joined k run) ∙ was
part_joined p now run k (Some (Joins first)) (first_sent, new) was = by_unit (number first == k) refl
  where
    by_unit : (b : Bool) → (number first == k) ≡ b
        → option_or (slots_joined k run) (if b then slots_in_role first.role else None)
        ≡ unit_slots (if b then Some first else unit_of k run)
    by_unit true e =
        let here : k ≡ number first = grind arith in
        let none : slots_joined k run ≡ None = was ∙ ap unit_slots (ap (λ k. unit_of k run) here ∙ new.unknown) in
        ap (λ o. option_or o (slots_in_role first.role)) none
    by_unit false e = or-none (slots_joined k run) ∙ was
part_joined p now run k (Some (Acts j turn)) taken was = or-none (slots_joined k run) ∙ was
    ∙ by_unit (j == k) (unit_of k run)
  where
    by_unit : (b : Bool) (v : Option UnitView)
        → unit_slots v ≡ unit_slots (if b then option_map (λ w. (row now turn w).next) v else v)
    by_unit true None = refl
    by_unit true (Some u) = sym (ap slots_in_role (row_keeps now u.phase turn (at_moment now u) refl).role)
    by_unit false v = refl

stays : (x : Happening) (run : List Happening) (m : Message) → IsInSlots run m → IsInSlots (x ∷ run) m
stays x run (Start start) h = ap (λ o. option_or o (slots_joining start.test.unit x.part)) h
stays x run m h = tt

no_start : (run : List Happening) (m : Message) → is_start m ≡ false → IsInSlots run m
no_start run (Start start) none = cc
no_start run m none = tt

start_so : (run : List Happening) (role : UnitRole) (u : UnitView)
    → slots_joined (number_of role) run ≡ slots_in_role role
    → IsInSlots run (start_message role u)
start_so run (roles.Test t) u h = h
start_so run (roles.Script s) u h = tt

sends_none : (run : List Happening) (o : Option Message) → SendsNoStart o → All (IsInSlots run) (option_to_list o)
sends_none run None h = All-nil _
sends_none run (Some m) h = All-cons (IsInSlots run) m [] (no_start run m h) (All-nil _)

part_in_slots : (p : Settings) (now : ℕ) (run later : List Happening) (part : Option UnitPart) (o : Option Message)
    → PartFits p now run part → IsSentAs now run part o
    → ((first : UnitView) → part ≡ Some (Joins first) → slots_joined (number first) later ≡ slots_in_role first.role)
    → All (IsInSlots later) (option_to_list o)
part_in_slots p now run later None o fits from joins =
    subst (λ o. All (IsInSlots later) (option_to_list o)) (sym from) (All-nil _)
part_in_slots p now run later (Some (Joins first)) None fits from joins = All-nil _
part_in_slots p now run later (Some (Joins first)) (Some m) fits (true, (ph, (t, (role, (reason, is))))) joins =
    sends_none later (Some m) (ap is_start is)
part_in_slots p now run later (Some (Joins first)) (Some m) fits (false, (ph, is)) joins =
    All-cons (IsInSlots later) m []
    (subst (IsInSlots later) (sym is) (start_so later first.role first (joins first refl))) (All-nil _)
part_in_slots p now run later (Some (Acts j turn)) o taken from joins =
    subst (λ o. All (IsInSlots later) (option_to_list o))
    (sym (from ∙ ap (option_and_then (λ v. (row now turn v).sent)) taken.is))
    (sends_none later (row now turn taken.unit).sent
    (row_sends_none now taken.unit.phase turn (at_moment now taken.unit) refl
    (takes_moment now taken.unit.phase taken.unit turn taken.takes)))

abbrev AreInSlots : List Happening → Type 0
AreInSlots run = ((k : ℕ) → HasJoined k run) × All (IsInSlots run) (sent run)

in_slots_kept : (p : Settings) → IsKept p AreInSlots
in_slots_kept p f refused now run e h en does was = (
  joined,
  All-append (IsInSlots later) (sent run) (option_to_list d.sent)
      (All-weaker (IsInSlots run) (IsInSlots later) (stays (said now e d) run) (sent run) was.1)
      (part_in_slots p now run later d.part d.sent does.part does.sent_as
      (λ first is. joined (number first) ∙ own first is)),
)
  where
    d : Deed
    d = deed_on p (board_with p refused f now run) e.turn

    later : List Happening
    later = said now e d ∷ run

    joined : (k : ℕ) → HasJoined k later
    joined k = part_joined p now run k d.part does.part (was.0 k)
        ∙ sym (reach_slots d.request (unit_after now k d.part (unit_of k run)))

    own : (first : UnitView) → d.part ≡ Some (Joins first)
        → unit_slots (unit_of (number first) later) ≡ slots_in_role first.role
    own first is =
        reach_slots d.request (unit_after now (number first) d.part (unit_of (number first) run))
        ∙ ap (λ part. unit_slots (unit_after now (number first) part (unit_of (number first) run))) is
        ∙ ap (λ b. unit_slots (if b then Some first else unit_of (number first) run)) (same_number (number first))

pub starts_in_slots : (p : Settings) (backward : List Entry) → IsLegalBackward p backward
    → All (λ e. IfSome (start_told e) (IsInSlots (sub_run (history p backward)))) (told (sub_run (history p backward)))
starts_in_slots p backward legal =
    of_messages (IsInSlots run) (λ e. IfSome (start_told e) (IsInSlots run)) one (told run)
    (told_among p (IsInSlots run) backward legal
    (by_journal p AreInSlots (λ k. refl, All-nil _) (in_slots_kept p) backward legal).1)
  where
    run : List Happening
    run = sub_run (history p backward)

    one : (e : ReporterEvent) → IfSome (message_of e) (IsInSlots run) → IfSome (start_told e) (IsInSlots run)
    one Tick it = tt
    one (Test event) it = by_kind event.kind it
      where
        by_kind : (kind : TestEventKind) → IfSome (message_in kind) (IsInSlots run)
            → IfSome (start_told_in kind) (IsInSlots run)
        by_kind (SetupScriptStarted start) it = it
        by_kind (TestStarted start) it = it
        by_kind kind it = tt
