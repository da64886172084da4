-- What is told of a cancel has a reason, and so what is told of a run is read as an auditor sees it.
use Rattle.std.proofs.Common.{◌≡◌, List, [], ◌∷◌, Bool, true, false, Option, Some, None, IfSome, is_some}
use Rattle.std.proofs.Common.{option_and_then, option_to_list, ◌∙◌, ◌||◌, refl, sym, true≢false}
use Rattle.std.specs.List.{All, list_any}
use Rattle.std.proofs.lemmas.List.Elements.{All-nil, All-cons, All-append, All-weaker}
use Rattle.run_events.specs.declared.events.ReporterEvent.{ReporterEvent}
use Rattle.run_events.specs.declared.events.ReporterEvent.TheVariants.{Tick, Test}
use Rattle.run_events.specs.declared.events.TestEventKind.{TestEventKind}
use Rattle.run_events.specs.declared.events.TestEventKind.TheVariants as kinds
use Rattle.run_events.specs.declared.settings.Settings.{Settings}
use Rattle.run_model.specs.declared.entry.Entry.{Entry}
use Rattle.run_model.specs.declared.happening.Happening.{Happening}
use Rattle.run_model.specs.Journal.{IsLegalBackward, history}
use Rattle.run_model.specs.Turns.{happening}
use Rattle.run_model.specs.Words.{sub_run, told}
use Rattle.run_laws.specs.Cancels.{reason_in, reason_told}
use Rattle.run_laws_calls.specs.Stops.{tells_cancel, tells_cancel_in}
use Rattle.run_laws_calls.proofs.ToldLemmas.{Tells, tells}
use Rattle.run_laws_audit_line.specs.ToldLines.{IsReadIfPlain}
use Rattle.run_laws_audit_line.proofs.EventLemmas.{lines_read}
use Rattle.run_laws_audit_line.specs.EventLines.{TellsWhy, TellsWhyIn}

-- an event that says a reason exactly where it tells of a cancel has one there
kind_has : (kind : TestEventKind) → tells_cancel_in kind ≡ is_some (reason_in kind) → TellsWhyIn kind
kind_has (kinds.RunBeginCancel event) says = sym says
kind_has (kinds.RunBeginKill event) says = sym says
kind_has kind says = tt

event_has : (e : ReporterEvent) → tells_cancel e ≡ is_some (reason_told e) → TellsWhy e
event_has Tick says = tt
event_has (Test event) says = kind_has event.kind says

-- so has one that tells of none
calm_kind : (kind : TestEventKind) → tells_cancel_in kind ≡ false → TellsWhyIn kind
calm_kind (kinds.RunBeginCancel event) calm = absurd (true≢false calm)
calm_kind (kinds.RunBeginKill event) calm = absurd (true≢false calm)
calm_kind kind calm = tt

calm_has : (e : ReporterEvent) → tells_cancel e ≡ false → TellsWhy e
calm_has Tick calm = tt
calm_has (Test event) calm = calm_kind event.kind calm

-- what a turn tells by itself tells of none
own_has : {P : ReporterEvent → Type 0} → (o : Option ReporterEvent) → IfSome o P
    → ((e : ReporterEvent) → P e → tells_cancel e ≡ false) → All TellsWhy (option_to_list o)
own_has None own calm = All-nil TellsWhy
own_has (Some e) own calm = All-cons TellsWhy e [] (calm_has e (calm e own)) (All-nil TellsWhy)

-- and what it tells after that says a reason where it tells of one
or_false : (b : Bool) → b ≡ (b || false)
or_false true = refl
or_false false = refl

after_has : (o : Option ReporterEvent)
    → list_any tells_cancel (option_to_list o) ≡ is_some (option_and_then reason_told o)
    → All TellsWhy (option_to_list o)
after_has None says = All-nil TellsWhy
after_has (Some e) says =
    All-cons TellsWhy e [] (event_has e (or_false (tells_cancel e) ∙ says)) (All-nil TellsWhy)

pub all_have : (p : Settings) (backward : List Entry) → IsLegalBackward p backward
    → All TellsWhy (told (history p backward))
all_have p [] legal = All-nil TellsWhy
all_have p (e ∷ before) legal =
    All-append TellsWhy (told (history p before)) _ (all_have p before legal.2)
    (All-append TellsWhy (option_to_list x.told) (option_to_list x.after)
    (own_has x.told t.own (λ event own. own.calm)) (after_has x.after t.says))
  where
    x : Happening
    x = happening p (history p before) e

    t : Tells p (sub_run (history p before)) x
    t = tells p e before legal

-- so the line of each told event is read as an auditor sees it
pub all_read_so : (p : Settings) (backward : List Entry) → IsLegalBackward p backward
    → All IsReadIfPlain (told (history p backward))
all_read_so p backward legal =
    All-weaker TellsWhy IsReadIfPlain (λ e has plain fits. lines_read e plain fits has) (told (history p backward))
    (all_have p backward legal)
