-- What who listens beside the lines of a run has heard.
use Rattle.std.proofs.Common.{◌≡◌, ℕ, List, [], ◌∷◌, map, Option, Some, None, IfSome, refl, ap, subst, sym}
use Rattle.std.proofs.Common.{◌∙◌, Bool, true, false, true≢false, inl, inr}
use Rattle.std.specs.Option.{IsNone}
use Rattle.std.specs.List.{filter_map}
use Rattle.run_capture.specs.declared.source.Failed.{Failed}
use Rattle.run_events.specs.declared.settings.Settings.{Settings}
use Rattle.run_events.specs.declared.events.ReporterEvent.{ReporterEvent}
use Rattle.run_events.specs.declared.turn.Turn.{Turn}
use Rattle.run_events.specs.declared.ask.Ask.{Ask}
use Rattle.run_events.specs.declared.outcome.RunOutcome.{RunOutcome}
use Rattle.run_model.specs.declared.entry.Entry.{Entry}
use Rattle.run_model.specs.Journal.{IsLegal}
use Rattle.run_laws.specs.Course.{turns_of}
use Rattle.run_engine.specs.World.{flagged}
use Rattle.run_shared.specs.Closed.{IsLeft, IsLeftUnclosed}
use Rattle.run_shared.specs.declared.closing.CloseError.{CloseError}
use Rattle.run_live.specs.Left.{HasTakenSome}
use Rattle.run_output.specs.declared.fault.Fault.TheVariants.{Words, Line, Plan as BadPlan, NotEnabled, ThirdSignal}
use Rattle.run_output.specs.declared.fault.Fault.TheVariants.{Unfinished, Report, Read, Memory, TooLong}
use Rattle.run_report.specs.Both.{taken_event}
use Rattle.run_whole.specs.declared.left.CutOff.{CutOff}
use Rattle.run_whole.specs.declared.left.Whole.{Whole}
use Rattle.run_whole.specs.Whole.{receipts_error}
use Rattle.run_whole_cli.specs.Relations.{Relations}
use Rattle.run_whole_cli.specs.Given.{GivesRunner}
use Rattle.run_whole_cli.specs.Hears.{HasHeardLeft, HasHeardPart, HasHeardPlan, events_taken}
use Rattle.run_whole_cli.specs.Hears.{AreLegal, HasHeardTurns, turns_left}
use Rattle.run_whole_cli.specs.Last.{IsLeftWhole, left_by}
use Rattle.run_whole_cli.specs.declared.left.WholeEnding.{WholeEnding}
use Rattle.run_whole_cli.specs.declared.left.WholeEnding.TheVariants as ends
use Rattle.run_whole_cli.specs.declared.left.WholeLeft.{WholeLeft}
use Rattle.run_whole_cli.specs.declared.left.WholeLeft.TheVariants as lefts
use Rattle.run_whole_cli.proofs.LeftLemmas.{flags_are, left_of}

-- the events that were taken are those that weren't refused
taken-flagged : {E : Type 0} (ys : List (ReporterEvent × Option E))
    → filter_map taken_event ys ≡ events_taken (map flagged ys)
taken-flagged [] = refl
taken-flagged ((event, None) ∷ ys) = ap (λ events. event ∷ events) (taken-flagged ys)
taken-flagged ((event, Some e) ∷ ys) = taken-flagged ys

-- what holds of what is left holds of what is handed back of it
some_left : {L : Type 0} (ending : WholeEnding) (l : L) (holds : L → Type 0) → holds l
    → IfSome (left_by ending l) holds
some_left (ends.Outcome o) l holds h = h
some_left ends.Receipt l holds h = h
some_left ends.Order l holds h = h
some_left (ends.Fault Words) l holds h = h
some_left (ends.Fault (Line m)) l holds h = h
some_left (ends.Fault (BadPlan f)) l holds h = h
some_left (ends.Fault (NotEnabled m)) l holds h = h
some_left (ends.Fault (ThirdSignal at)) l holds h = h
some_left (ends.Fault Unfinished) l holds h = h
some_left (ends.Fault Report) l holds h = h
some_left (ends.Fault Read) l holds h = h
some_left (ends.Fault TooLong) l holds h = h
some_left (ends.Fault Memory) l holds h = tt

-- a run whose threads have ended
pub heard_whole : {B W T O S R : Type 0} (k : Relations W T O S)
    (tells : R → List (ReporterEvent × Option Failed) → Type 0) (heard : B → List ReporterEvent → Type 0) (report : B)
    (p : Settings) (x : Whole W T O S R) (ending : WholeEnding)
    → ((ys : List (ReporterEvent × Option Failed)) → tells x.run.report ys
    → heard report (filter_map taken_event ys))
    → IsLeftWhole k tells p x → IfSome (left_by ending (lefts.Run (left_of x))) (HasHeardLeft heard report p)
heard_whole k tells heard report p x ending hears h =
    some_left ending (lefts.Run (left_of x)) (HasHeardLeft heard report p) (λ calm stopped.
    let left = h.left calm in
    let flags = flags_are tells x.run.report x.run.asks p x.run.journal x.run.outcome left stopped in
    subst (heard report) (taken-flagged left.events ∙ ap events_taken flags) (hears left.events left.told))

-- a run that was cut off
pub heard_cut : {B W T O S R : Type 0} (tells : R → List (ReporterEvent × Option Failed) → Type 0)
    (heard : B → List ReporterEvent → Type 0) (both : R) (report : B) (p : Settings) (c : CutOff) (ending : WholeEnding)
    (back : Option (WholeLeft W T O S)) → back ≡ left_by ending (lefts.CutOff c)
    → ((ys : List (ReporterEvent × Option Failed)) → tells both ys → heard report (filter_map taken_event ys))
    → IsLeft tells both c.asks p c.journal None → IfSome back (HasHeardLeft heard report p)
heard_cut tells heard both report p c ending back is hears left =
    subst (λ o. IfSome o (HasHeardLeft heard report p)) (sym is)
    (some_left ending (lefts.CutOff c) (HasHeardLeft heard report p) (record {
      extra = left.extra;
      sent = left.sent;
      part = left.part;
      events = subst (heard report) (taken-flagged left.events ∙ ap events_taken left.flags)
          (hears left.events left.told);
    }))

-- the plan that a line says
pub heard_plan : {B W T O S : Type 0} (heard : B → List ReporterEvent → Type 0) (report : B) (line : List ℕ)
    (p : Settings) (left : Option (WholeLeft W T O S)) → GivesRunner line p
    → IfSome left (HasHeardLeft heard report p) → IfSome left (HasHeardPlan heard report line)
heard_plan heard report line p None given h = tt
heard_plan heard report line p (Some l) (x, is) h = (x, subst (λ q. HasHeardLeft heard report q l) is h)

pub heard_none : {B W T O S : Type 0} (heard : B → List ReporterEvent → Type 0) (report : B) (line : List ℕ)
    (left : Option (WholeLeft W T O S)) → left ≡ None → IfSome left (HasHeardPlan heard report line)
heard_none heard report line None e = tt
heard_none heard report line (Some l) e = cc

-- of which turns who listens has heard, by what is handed back of a run
turns_by : {B W T O S : Type 0} (taken : B → List Turn → Type 0) (report : B) (back : Option (WholeLeft W T O S))
    → IfSome back (λ l. taken report (turns_left l) × AreLegal (turns_left l)) → HasTakenSome taken report
    → HasHeardTurns taken report back false
turns_by taken report (Some l) h some = record {
  turns = turns_left l;
  heard = h.0;
  journal = refl;
  legal = h.1;
  none = λ is. absurd (true≢false (sym is));
}
turns_by taken report None h some = record {
  turns = turns_of some.journal;
  heard = some.turns;
  journal = tt;
  legal = inr (some.settings, some.journal, some.legal, refl);
  none = λ is. absurd (true≢false (sym is));
}

-- the journal of a run whose threads have ended is legal by some settings
legal_by : {R : Type 0} (tells : R → List (ReporterEvent × Option Failed) → Type 0) (report : R)
    (asks : List (ℕ × Ask)) (p : Settings) (journal : List Entry) (end : Option RunOutcome) (error : Option CloseError)
    → (IsNone error → IsLeft tells report asks p journal end)
    → IfSome error (λ e. IsLeftUnclosed tells report asks p journal e.kind) → (q : Settings) × IsLegal q journal
legal_by tells report asks p journal end None left unclosed = (p, (left refl).legal.legal)
legal_by tells report asks p journal end (Some e) left unclosed = (unclosed.settings, unclosed.left.legal.legal)

-- of a run whose threads have ended
pub turns_whole : {B W T O S R : Type 0} (k : Relations W T O S)
    (tells : R → List (ReporterEvent × Option Failed) → Type 0) (taken : B → List Turn → Type 0) (report : B)
    (p : Settings) (x : Whole W T O S R) (ending : WholeEnding) → taken report (turns_of x.run.journal)
    → IsLeftWhole k tells p x → HasHeardTurns taken report (left_by ending (lefts.Run (left_of x))) false
turns_whole k tells taken report p x ending turns h =
    let legal = legal_by tells x.run.report x.run.asks p x.run.journal x.run.outcome (receipts_error x.error) h.left
    h.left_too in
    let left = lefts.Run (left_of x) in
    turns_by taken report (left_by ending left)
    (some_left ending left (λ l. taken report (turns_left l) × AreLegal (turns_left l))
    (turns, inr (legal.0, x.run.journal, legal.1, refl)))
    (record { settings = legal.0; journal = x.run.journal; legal = legal.1; turns = turns })

-- of a run that was cut off
pub turns_cut : {B W T O S R : Type 0} (tells : R → List (ReporterEvent × Option Failed) → Type 0)
    (taken : B → List Turn → Type 0) (both : R) (report : B) (p : Settings) (c : CutOff) (ending : WholeEnding)
    (back : Option (WholeLeft W T O S)) → back ≡ left_by ending (lefts.CutOff c) → taken report (turns_of c.journal)
    → HasTakenSome taken report → IsLeft tells both c.asks p c.journal None → HasHeardTurns taken report back false
turns_cut {W} {T} {O} {S} tells taken both report p c ending back is turns some left =
    subst (λ o. HasHeardTurns taken report o false) (sym is)
    (turns_by taken report (left_by ending (lefts.CutOff c))
    (some_left ending (lefts.CutOff c)
    (λ (l : WholeLeft W T O S). taken report (turns_left l) × AreLegal (turns_left l))
    (turns, inr (p, c.journal, left.legal.legal, refl))) some)

-- of a run that was given up
pub turns_given_up : {B W T O S : Type 0} (taken : B → List Turn → Type 0) (report : B)
    (back : Option (WholeLeft W T O S)) → back ≡ None → HasTakenSome taken report
    → HasHeardTurns taken report back false
turns_given_up taken report back is some =
    subst (λ o. HasHeardTurns taken report o false) (sym is) (turns_by taken report None tt some)

-- of a run that was begun, and of a plan of which none was
pub turns_begun : {B W T O S : Type 0} (taken : B → List Turn → Type 0) (report : B) (left : Option (WholeLeft W T O S))
    (unbegun : Bool) → (unbegun ≡ true → ⊥) → HasHeardTurns taken report left false
    → HasHeardTurns taken report left unbegun
turns_begun taken report left unbegun begun h = record {
  turns = h.turns;
  heard = h.heard;
  journal = h.journal;
  legal = h.legal;
  none = λ is. absurd (begun is);
}

pub turns_unbegun : {B W T O S : Type 0} (taken : B → List Turn → Type 0) (report : B)
    (left : Option (WholeLeft W T O S)) (unbegun : Bool) → left ≡ None → taken report []
    → HasHeardTurns taken report left unbegun
turns_unbegun taken report left unbegun is none = record {
  turns = [];
  heard = none;
  journal = subst (λ o. IfSome o (λ l. [] ≡ turns_left l)) (sym is) tt;
  legal = inl refl;
  none = λ _. refl;
}
