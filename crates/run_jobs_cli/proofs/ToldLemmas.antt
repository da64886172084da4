-- What a sink took of events that waves told, none of which was refused, and of the events after them.
use Rattle.std.proofs.Common.{◌≡◌, ◌∙◌, ℕ, ◌≤◌, List, [], ◌∷◌, ◌++◌, map, zip, Bool, Option, Some, None, option_map}
use Rattle.std.proofs.Common.{refl, ap, sym, subst, append_assoc, append-nil, is_some}
use Rattle.run_capture.specs.Bytes.{Takes}
use Rattle.run_capture.specs.Faults.{RoseExactlyIf}
use Rattle.run_capture.specs.declared.source.Failed.{Failed}
use Rattle.run_events.specs.declared.events.ReporterEvent.{ReporterEvent}
use Rattle.run_events.specs.declared.settings.Settings.{Settings}
use Rattle.run_model.specs.declared.entry.Entry.{Entry}
use Rattle.run_model.specs.Journal.{past_of}
use Rattle.run_model.specs.Words.{answers, told}
use Rattle.run_engine.specs.Standing.{IsRunnable}
use Rattle.run_engine.specs.World.{flagged}
use Rattle.run_output.specs.Told.{AreCounted, AreWritten, HasTold, TookLines, event_line, event_lines, marks}
use Rattle.run_output.specs.Told.{some_refused}
use Rattle.run_cli.specs.Executed.{TookEvents}
use Rattle.run_cli.specs.Text.{joined, whole_form}
use Rattle.run_cli.proofs.ToldLines.{lines_beside, told_is}

-- events that were told, and none of them refused
abbrev pub unrefused : List ReporterEvent → List (ReporterEvent × Option Failed)
unrefused events = map (λ event. (event, None)) events

written_after : (events : List ReporterEvent) (ys : List (ReporterEvent × Option Failed)) (bytes : List ℕ)
    → AreWritten (event_lines (unrefused events ++ ys)) bytes
    → (rest : List ℕ) × AreWritten (event_lines ys) rest × (bytes ≡ joined (map event_line events) ++ rest)
written_after [] ys bytes written = (bytes, written, refl)
written_after (event ∷ events) ys bytes (first, rest, is, later, whole) =
    let more = written_after events ys rest later in (
      more.0,
      more.1,
      whole ∙ ap (λ line. line ++ rest) is ∙ ap (λ left. event_line event ++ left) more.2
          ∙ sym (append_assoc (event_line event) (joined (map event_line events)) more.0),
    )

counted_after : (events : List ReporterEvent) (ys : List (ReporterEvent × Option Failed)) (before now : ℕ)
    → AreCounted (marks (event_lines (unrefused events ++ ys))) before now
    → AreCounted (marks (event_lines ys)) before now
counted_after [] ys before now counted = counted
counted_after (event ∷ events) ys before now (between, same, later) =
    subst (λ n. AreCounted (marks (event_lines ys)) n now) same (counted_after events ys between now later)

refused_after : (events : List ReporterEvent) (ys : List (ReporterEvent × Option Failed))
    → some_refused (event_lines (unrefused events ++ ys)) ≡ some_refused (event_lines ys)
refused_after [] ys = refl
refused_after (event ∷ events) ys = refused_after events ys

marks_lines : (ys : List (ReporterEvent × Option Failed)) → marks (event_lines ys) ≡ marks ys
marks_lines [] = refl
marks_lines (y ∷ ys) = ap (λ bs. is_some y.1 ∷ bs) (marks_lines ys)

-- bytes that were taken at once are taken one part after the other
parted : (before after : Option (List ℕ)) (first rest : List ℕ) → Takes before after (first ++ rest)
    → Takes (option_map (λ taken. taken ++ first) before) after rest
parted None after first rest takes = takes
parted (Some taken) after first rest takes = takes ∙ ap Some (sym (append_assoc taken first rest))

-- the lines of events that weren't refused went out whole, and then these
pub record ToldAfter (events : List ReporterEvent) (ys : List (ReporterEvent × Option Failed))
    (before now : Option (List ℕ)) (faults faults_now : ℕ) : Type 0 where
  pub between : Option (List ℕ)
  pub first : Takes before between (joined (map event_line events))
  pub took : TookLines between now (event_lines ys)
  pub counted : AreCounted (marks ys) faults faults_now

pub told_after : (events : List ReporterEvent) (ys : List (ReporterEvent × Option Failed))
    (before now : Option (List ℕ)) (faults faults_now refusals : ℕ)
    → HasTold before now faults faults_now refusals (event_lines (unrefused events ++ ys))
    → ToldAfter events ys before now faults faults_now
told_after events ys before now faults faults_now refusals h =
    let took = h.took in
    let parts = written_after events ys took.0 took.1 in
    let text = joined (map event_line events) in
    record {
      between = option_map (λ taken. taken ++ text) before;
      first = refl;
      took = (parts.0, parts.1, parted before now text parts.0 (subst (Takes before now) parts.2 took.2));
      counted = subst (λ bs. AreCounted bs faults faults_now) (marks_lines ys)
          (counted_after events ys faults faults_now h.counted);
    }

nothing_taken : (before after : Option (List ℕ)) (bytes : List ℕ) → bytes ≡ [] → Takes before after bytes
    → after ≡ before
nothing_taken None after bytes none takes = takes
nothing_taken (Some taken) after bytes none takes = takes ∙ ap (λ b. Some (taken ++ b)) none
    ∙ ap Some (append-nil taken)

-- with nothing after them
pub told_all : (events : List ReporterEvent) (before now : Option (List ℕ)) (faults faults_now refusals : ℕ)
    → HasTold before now faults faults_now refusals (event_lines (unrefused events))
    → Takes before now (joined (map event_line events)) × (faults_now ≡ faults)
told_all events before now faults faults_now refusals h =
    let x = told_after events [] before now faults faults_now refusals
    (subst (λ es. HasTold before now faults faults_now refusals (event_lines es)) (sym (append-nil (unrefused events)))
    h) in
    let none = nothing_taken x.between now x.took.0 x.took.1 x.took.2 in
    (subst (λ t. Takes before t (joined (map event_line events))) (sym none) x.first, x.counted)

-- the events after them are those of a journal
pub took_events : (p : Settings) (journal : List Entry) (ys : List (ReporterEvent × Option Failed))
    (between now : Option (List ℕ)) (faults faults_now : ℕ) → IsRunnable p journal
    → map flagged ys ≡ answers (past_of p journal) → TookLines between now (event_lines ys)
    → AreCounted (marks ys) faults faults_now
    → TookEvents whole_form (past_of p journal)
    (record { taken = between; taken_after = now; faults = faults; faults_after = faults_now })
took_events p journal ys between now faults faults_now runnable flags took counted = record {
  events = ys;
  flags = flags;
  took = subst (TookLines between now)
      (lines_beside ys
      ∙ ap (λ es. zip (map event_line es) (map (λ y. y.1) ys)) (told_is p journal ys runnable flags)) took;
  counted = counted;
}
