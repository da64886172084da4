-- What a deed asks, sends and tells of signals and slow reports.
use Rattle.std.proofs.Common.{◌≡◌, ℕ, ◌≤◌, ◌==◌, List, [], ◌∷◌, ◌++◌, map, length, drop, Bool, true, false}
use Rattle.std.proofs.Common.{if◌then◌else◌, Option, Some, None, option_to_list, filter_map, refl, ap, sym, subst}
use Rattle.std.proofs.Common.{◌∙◌, arith, append_assoc, ◌-◌, slice_get}
use Rattle.std.proofs.lemmas.List.{append-nil}
use Rattle.std.proofs.lemmas.List.Elements.{filter_map-append}
use Rattle.run_events.specs.declared.ask.Ask.{Ask}
use Rattle.run_events.specs.declared.ask.Ask.TheVariants.{Signal}
use Rattle.run_events.specs.declared.message.Message.{Message}
use Rattle.run_events.specs.declared.message.Message.TheVariants.{ScriptSlow, Slow}
use Rattle.run_events.specs.declared.events.TestEventKind.{TestEventKind}
use Rattle.run_model.specs.declared.entry.Entry.{Entry}
use Rattle.run_model.specs.declared.happening.Happening.{Happening}
use Rattle.run_model.specs.declared.happening.UnitPart.{UnitPart}
use Rattle.run_model.specs.declared.happening.UnitPart.TheVariants.{Acts}
use Rattle.run_model.specs.declared.unit_turn.UnitTurn.{UnitTurn}
use Rattle.run_model.specs.declared.unit_view.AttemptTerms.{AttemptTerms}
use Rattle.run_model.specs.declared.unit_view.UnitRole.{UnitRole}
use Rattle.run_model.specs.declared.unit_view.UnitRole.TheVariants as roles
use Rattle.run_model.specs.declared.unit_view.UnitView.{UnitView}
use Rattle.run_events.specs.declared.settings.Settings.{Settings}
use Rattle.run_events.specs.declared.plan.PlanTest.{PlanTest}
use Rattle.run_events.specs.declared.plan.PlanScript.{PlanScript}
use Rattle.run_commands.specs.Interceptor.{sends_sigtstp}
use Rattle.run_model.specs.Admission.{is_script, script_terms_if, scripts_in, terms_at, terms_if, unit_terms}
use Rattle.run_model.specs.Environment.{number_of, number}
use Rattle.run_model.specs.Unit.{at_moment, row, takes}
use Rattle.run_events.specs.declared.request.Request.{Request}
use Rattle.run_model.specs.Story.{OwnTurn, own_turn, story_of, line_of, request_of, pieces}
use Rattle.run_model.specs.Words.{sent, delivered, queue, told, asked}
use Rattle.run_model.specs.Dispatch.{Moment, event}
use Rattle.run_model.specs.Board.{Deed, deed_events, said}
use Rattle.run_laws.specs.Reports.{SlowReport, signal_for, signals_for, signals_asked, signals_by, report_in}
use Rattle.run_laws.specs.Reports.{report_of_kind, report_of, reports_told, reports_waiting, reports_by}
use Rattle.run_laws.proofs.board.Holds.{IsReported}
use Rattle.run_laws.proofs.board.Queue.{queue-cons}
use Rattle.run_laws.proofs.units.OpenRows.{IsForOwn, IsReportOf}
use Rattle.run_laws.proofs.units.Rows.{row_asks_own, takes_moment}
use Rattle.run_laws.proofs.units.AttemptLemmas.{IsMadeIf}
use Rattle.run_laws.proofs.units.ReportLemmas.{own_said}
use Rattle.run_laws.proofs.units.AccountRows.{IsTriedOnce}
use Rattle.std.specs.List.{cons_option}

-- the story of unit k with its own turn of a part
abbrev pub story_with : ℕ → ℕ → Option UnitPart → List Request → List OwnTurn → List OwnTurn
story_with k now part line story = option_to_list (own_turn k now part line) ++ story

-- what a deed asks and sends for unit k is what its own turn says, and what it tells waited
pub record DoesReport (terms : AttemptTerms) (k now : ℕ) (run : List Happening) (d : Deed) : Type 0 where
  pub asks : signals_by terms.stops terms.slow (pieces (story_with k now d.part (line_of k run) (story_of k run)))
      ≡ signals_by terms.stops terms.slow (pieces (story_of k run)) ++ signals_for k d.asked
  pub sends : reports_by terms.slow (pieces (story_with k now d.part (line_of k run) (story_of k run)))
      ≡ reports_by terms.slow (pieces (story_of k run)) ++ reports_waiting k (option_to_list d.sent)
  pub tells : reports_told k (deed_events d) ++ reports_waiting k (drop (if d.taken then 1 else 0) (queue run))
      ≡ reports_waiting k (queue run)

-- a deed that is no turn of a unit
pub still_reports : (terms : AttemptTerms) (k now : ℕ) (run : List Happening) (d : Deed)
    → own_turn k now d.part (line_of k run) ≡ None → signals_for k d.asked ≡ []
    → reports_waiting k (option_to_list d.sent) ≡ []
    → reports_told k (deed_events d) ++ reports_waiting k (drop (if d.taken then 1 else 0) (queue run))
    ≡ reports_waiting k (queue run)
    → DoesReport terms k now run d
still_reports terms k now run d none asks sends tells = record {
  asks = ap (λ t. signals_by terms.stops terms.slow (pieces (option_to_list t ++ story_of k run))) none
      ∙ sym (append-nil (signals_by terms.stops terms.slow (pieces (story_of k run))))
      ∙ ap (λ s. signals_by terms.stops terms.slow (pieces (story_of k run)) ++ s) (sym asks);
  sends = ap (λ t. reports_by terms.slow (pieces (option_to_list t ++ story_of k run))) none
      ∙ sym (append-nil (reports_by terms.slow (pieces (story_of k run))))
      ∙ ap (λ r. reports_by terms.slow (pieces (story_of k run)) ++ r) (sym sends);
  tells = tells;
}

-- what is for another unit is none of k
other_signals : (j k : ℕ) (ask : Option Ask) → IsForOwn j ask → (j == k) ≡ false → signals_for k ask ≡ []
other_signals j k None own apart = refl
other_signals j k (Some (Signal ask)) own apart = let other : (ask.unit == k) ≡ false = ap (λ i. i == k) own ∙ apart in
    rw other refl
other_signals j k (Some ask) own apart = refl

other_reports : (role : UnitRole) (k : ℕ) (m : Option Message) → IsReportOf role m → (number_of role == k) ≡ false
    → reports_waiting k (option_to_list m) ≡ []
other_reports role k None own apart = refl
other_reports (roles.Test t) k (Some (Slow slow)) own apart =
    let other : (slow.test.unit == k) ≡ false = ap (λ i. i == k) own ∙ apart in rw other refl
other_reports (roles.Script s) k (Some (ScriptSlow slow)) own apart =
    let other : (slow.script.unit == k) ≡ false = ap (λ i. i == k) own ∙ apart in rw other refl
other_reports (roles.Test t) k (Some (ScriptSlow slow)) own apart = absurd own
other_reports (roles.Script s) k (Some (Slow slow)) own apart = absurd own
other_reports role k (Some m) own apart = refl

-- what a unit's own turn asks and sends
pub record ActsReport (terms : AttemptTerms) (k now : ℕ) (part : Option UnitPart) (line : List Request)
    (story : List OwnTurn) (asked : Option Ask) (sent : Option Message) : Type 0 where
  pub asks : signals_by terms.stops terms.slow (pieces (story_with k now part line story))
      ≡ signals_by terms.stops terms.slow (pieces story) ++ signals_for k asked
  pub sends : reports_by terms.slow (pieces (story_with k now part line story))
      ≡ reports_by terms.slow (pieces story) ++ reports_waiting k (option_to_list sent)

pub acts_report : (terms : AttemptTerms) (k now j : ℕ) (turn : UnitTurn) (u : UnitView) (v : Option UnitView)
    (line : List Request) (story : List OwnTurn) → takes now u turn ≡ true → u.latest ≤ now
    → IsTriedOnce u → (number u) ≡ j
    → ((j == k) ≡ true → request_of turn line ≡ request_of turn u.line)
    → ((j == k) ≡ true → v ≡ Some u) → IsMadeIf terms v story
    → ActsReport terms k now (Some (Acts j turn)) line story (row now turn u).asked (row now turn u).sent
acts_report terms k now j turn u v line story en le once named oldest same made = by_unit (j == k) refl
  where
    own : IsForOwn (number u) (row now turn u).asked × IsReportOf u.role (row now turn u).sent
    own = row_asks_own now u.phase turn (at_moment now u) refl (takes_moment now u.phase u turn en)

    by_unit : (b : Bool) → (j == k) ≡ b
        → ActsReport terms k now (Some (Acts j turn)) line story (row now turn u).asked (row now turn u).sent
    by_unit true e =
        let here : (number u) ≡ k = grind arith in
        let is_made : IsMadeIf terms (Some u) story = subst (λ w. IsMadeIf terms w story) (same e) made in
        let said = own_said terms now turn u story en le once is_made in
        record {
          asks = rw (e, oldest e) (said.asks
              ∙ ap (λ i. signals_by terms.stops terms.slow (pieces story)
              ++ signals_for i (row now turn u).asked) here);
          sends = rw (e, oldest e) (said.sends
              ∙ ap (λ i. reports_by terms.slow (pieces story)
              ++ reports_waiting i (option_to_list (row now turn u).sent)) here);
        }
    by_unit false e =
        let apart : ((number u) == k) ≡ false = grind arith in
        record {
          asks = rw (e, other_signals (number u) k (row now turn u).asked own.0 apart) (sym (append-nil _));
          sends = rw (e, other_reports u.role k (row now turn u).sent own.1 apart) (sym (append-nil _));
        }

-- a slow report that is told had waited
pub told_report : (k : ℕ) (moment : Moment) (m : Message) (kind : TestEventKind) (rest : List Message)
    → report_of_kind k kind ≡ report_in k m
    → reports_told k (event moment kind ∷ []) ++ reports_waiting k rest ≡ reports_waiting k (m ∷ rest)
told_report k moment m kind rest same = rw same (by_report (report_in k m))
  where
    by_report : (o : Option SlowReport)
        → cons_option o [] ++ reports_waiting k rest ≡ cons_option o (reports_waiting k rest)
    by_report None = refl
    by_report (Some report) = refl

-- what was asked, told and waits after one more deed
signals_one : (k n : ℕ) (ask : Option Ask)
    → filter_map (λ (a : ℕ × Ask). signal_for k a.1) (map (λ ask. (n, ask)) (option_to_list ask)) ≡ signals_for k ask
signals_one k n None = refl
signals_one k n (Some ask) = refl

pub reported_after : (terms : AttemptTerms) (k now : ℕ) (run : List Happening) (e : Entry) (d : Deed)
    → delivered (said now e d ∷ run) ≤ length (sent run)
    → IsReported terms k run → DoesReport terms k now run d → IsReported terms k (said now e d ∷ run)
reported_after terms k now run e d room was does = record {
  signals = filter_map-append (λ (a : ℕ × Ask). signal_for k a.1) (asked run)
      (map (λ ask. (length run, ask)) (option_to_list d.asked))
      ∙ ap (λ s. signals_asked k run ++ s) (signals_one k (length run) d.asked)
      ∙ ap (λ s. s ++ signals_for k d.asked) was.signals ∙ sym does.asks;
  reports = ap (λ q. reports_told k (told run ++ deed_events d) ++ reports_waiting k q)
      (queue-cons (said now e d) run room)
      ∙ ap (λ r. r ++ reports_waiting k (rest ++ option_to_list d.sent))
      (filter_map-append (report_of k) (told run) (deed_events d))
      ∙ ap (λ r. (before ++ now_told) ++ r) (filter_map-append (report_in k) rest (option_to_list d.sent))
      ∙ sym (append_assoc (before ++ now_told) (reports_waiting k rest) more)
      ∙ ap (λ r. r ++ more) (append_assoc before now_told (reports_waiting k rest)
      ∙ ap (λ r. before ++ r) does.tells ∙ was.reports)
      ∙ sym does.sends;
}
  where
    rest : List Message
    rest = drop (if d.taken then 1 else 0) (queue run)

    before : List SlowReport
    before = reports_told k (told run)

    now_told : List SlowReport
    now_told = reports_told k (deed_events d)

    more : List SlowReport
    more = reports_waiting k (option_to_list d.sent)

-- whether a stop is asked of its child is the same of each unit
pub stops_by_terms : (p : Settings) (k : ℕ) → (unit_terms p k).stops ≡ sends_sigtstp p.interceptor
stops_by_terms p k = by_kind (is_script p k)
  where
    by_place : (o : Option PlanTest) → (terms_if p o).stops ≡ sends_sigtstp p.interceptor
    by_place None = refl
    by_place (Some test) = refl

    by_script : (o : Option PlanScript) → (script_terms_if p o).stops ≡ sends_sigtstp p.interceptor
    by_script None = refl
    by_script (Some script) = refl

    by_kind : (b : Bool)
        → (if b then script_terms_if p (slice_get p.plan.scripts k) else terms_at p (k - scripts_in p)).stops
        ≡ sends_sigtstp p.interceptor
    by_kind true = by_script (slice_get p.plan.scripts k)
    by_kind false = by_place (slice_get p.plan.tests (k - scripts_in p))
