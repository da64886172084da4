-- What a reporter has told of a run that was closed, or wasn't, and of which turns it was told.
use Rattle.std.proofs.Common.{◌≡◌, ℕ, inl, List, [], Option, Result, Ok, Err, IfErr, IfOk, refl, sym, subst}
use Rattle.run_events.specs.declared.settings.Settings.{Settings}
use Rattle.run_events.specs.declared.ask.Ask.{Ask}
use Rattle.run_events.specs.declared.turn.Turn.{Turn}
use Rattle.run_events.specs.declared.events.ReporterEvent.{ReporterEvent}
use Rattle.run_events.specs.declared.outcome.RunOutcome.{RunOutcome}
use Rattle.run_model.specs.declared.entry.Entry.{Entry}
use Rattle.run_laws.specs.Course.{turns_of}
use Rattle.run_shared.specs.Closed.{IsLeft, IsLeftUnclosed}
use Rattle.run_shared.specs.declared.closing.CloseKind.{CloseKind}
use Rattle.run_live.specs.Left.{HasToldSome, HasTakenSome}

-- of a run that was closed
pub told_closed : {R E : Type 0} (tells : R → List (ReporterEvent × Option E) → Type 0) (report : R)
    (asks : List (ℕ × Ask)) (p : Settings) (journal : List Entry) (end : Option RunOutcome)
    → IsLeft tells report asks p journal end → HasToldSome tells report
told_closed tells report asks p journal end x = record {
  settings = p;
  journal = journal;
  legal = x.legal.legal;
  events = x.events;
  told = x.told;
  extra = x.extra;
  sent = x.sent;
  flags = x.flags;
  part = x.part;
}

-- of one that wasn't
pub told_unclosed : {R E : Type 0} (tells : R → List (ReporterEvent × Option E) → Type 0) (report : R)
    (asks : List (ℕ × Ask)) (p : Settings) (journal : List Entry) (kind : CloseKind)
    → IsLeftUnclosed tells report asks p journal kind → HasToldSome tells report
told_unclosed tells report asks p journal kind x = told_closed tells report asks x.settings journal _ x.left

-- and of one that has taken no turn
pub told_nothing : {R E : Type 0} (tells : R → List (ReporterEvent × Option E) → Type 0) (report : R) (p : Settings)
    → tells report [] → HasToldSome tells report
told_nothing tells report p none = record {
  settings = p;
  journal = [];
  legal = tt;
  events = [];
  told = none;
  extra = [];
  sent = [];
  flags = refl;
  part = inl (refl, refl);
}

-- the turns of the journal of a run that was closed are those of a legal journal
pub taken_closed : {R E : Type 0} (tells : R → List (ReporterEvent × Option E) → Type 0)
    (taken : R → List Turn → Type 0) (report : R) (asks : List (ℕ × Ask)) (p : Settings) (journal : List Entry)
    (end : Option RunOutcome) → IsLeft tells report asks p journal end → taken report (turns_of journal)
    → HasTakenSome taken report
taken_closed tells taken report asks p journal end x turns = record {
  settings = p;
  journal = journal;
  legal = x.legal.legal;
  turns = turns;
}

-- and of one that wasn't
pub taken_unclosed : {R E : Type 0} (tells : R → List (ReporterEvent × Option E) → Type 0)
    (taken : R → List Turn → Type 0) (report : R) (asks : List (ℕ × Ask)) (p : Settings) (journal : List Entry)
    (kind : CloseKind) → IsLeftUnclosed tells report asks p journal kind → taken report (turns_of journal)
    → HasTakenSome taken report
taken_unclosed tells taken report asks p journal kind x turns =
    taken_closed tells taken report asks x.settings journal _ x.left turns

-- and no turns are those of an empty one
pub taken_nothing : {R : Type 0} (taken : R → List Turn → Type 0) (report : R) (p : Settings) → taken report []
    → HasTakenSome taken report
taken_nothing taken report p none = record { settings = p; journal = []; legal = tt; turns = none }
