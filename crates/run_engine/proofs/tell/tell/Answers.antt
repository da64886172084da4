use Rattle.std.proofs.Common.{◌≡◌, ◌+◌, ◌∷◌, ◌++◌, [], take, zip, length, refl, sym, subst, arith, ap, ◌∙◌}
use Rattle.std.proofs.Common.{length-append, is_some, is_none, not, Option, Some, None}
use Rattle.std.specs.List.{list_all}
use Rattle.std.proofs.lemmas.List.Folds.{list_all-append}
use Rattle.run_engine.specs.World.{TellsEvents, CountsErrors, earlier}
use Rattle.run_engine.proofs.TakesLemmas.{tells_both, counts_both, none-earlier, marked_both}
use Rattle.run_engine.proofs.TellLemmas.{zip-more}
use Rattle.run_engine.proofs.PartLemmas.{on_err, some_more}
use Rattle.run_engine.proofs.tell.tell.Goals as goal

one-mark : {E : Type 0} (o : Option E) → is_none o ≡ list_all not (is_some o ∷ [])
one-mark None = refl
one-mark (Some e) = refl

pub loop-event-preserved : goal.loop-event-preserved
loop-event-preserved g c =
    let inv = c.loop-event.invariant in
    let i = c.loop-event.event-index in
    let events = c.args.events.now in
    let error = c.in_ok-error.error in
    let pushed : c.tell_marked.new.refused ≡ c.loop-event.refused ++ is_some error ∷ [] =
    c.in_ok-error.ensures.marked in
    let pairs = zip-more events c.loop-event.refused i c.event-item.result (is_some error) c.loop-event-test.true
    inv.answered c.event-item.is in
    record {
      answered = ap length pushed ∙ omega (arith, length-append c.loop-event.refused (is_some error ∷ []));
      marked = ap is_none c.first_of-refusal.ensures ∙ none-earlier c.loop-event.refusal error
          ∙ marked_both _ _ _ _ inv.marked (one-mark error)
          ∙ sym (list_all-append not c.loop-event.refused (is_some error ∷ []))
          ∙ ap (list_all not) (sym pushed);
      told = subst (TellsEvents g.R.Reporter.told c.args.report.now c.tell_marked.new.report
          (zip (take (i + 1) events) c.tell_marked.new.refused))
          (sym c.first_of-refusal.ensures)
          (subst (λ bs. TellsEvents g.R.Reporter.told c.args.report.now c.tell_marked.new.report
          (zip (take (i + 1) events) bs) (earlier c.loop-event.refusal error))
          (sym pushed)
          (subst (λ ps. TellsEvents g.R.Reporter.told c.args.report.now c.tell_marked.new.report ps
          (earlier c.loop-event.refusal error))
          (sym pairs)
          (tells_both g.R.Reporter.told c.args.report.now c.loop-event.report c.tell_marked.new.report
          (zip (take i events) c.loop-event.refused) _
          c.loop-event.refusal error inv.told c.in_ok-error.ensures.told)));
      faults = subst (CountsErrors (g.R.Reporter.faults c.args.report.now)
          (g.R.Reporter.faults c.tell_marked.new.report)) (sym c.first_of-refusal.ensures)
          (counts_both _ _ _ c.loop-event.refusal error inv.faults c.in_ok-error.ensures.faults);
      turns = λ ts had. c.tell_marked.ensures.turns ts (inv.turns ts had);
    }

pub returns-in_err-error-clause-part : goal.returns-in_err-error-clause-part
returns-in_err-error-clause-part g c =
    let inv = c.loop-event.invariant in
    on_err c.from_residual.result _ (some_more g.R.Reporter.told c.args.report.now c.loop-event.report
    c.tell_marked.new.report _ _ _ c.args.events.now
    c.loop-event.event-index c.loop-event.refused c.loop-event.refusal c.event-item.result c.loop-event-test.true
    inv.answered c.event-item.is inv.told inv.faults c.in_err-error.ensures.part)

pub returns-in_err-error-clause-turns : goal.returns-in_err-error-clause-turns
returns-in_err-error-clause-turns g c = λ ts had.
    c.tell_marked.ensures.turns ts (c.loop-event.invariant.turns ts had)
