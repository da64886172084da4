use Rattle.std.proofs.Common.{◌≡◌, ◌∙◌, ap, sym, length}
use Rattle.std.proofs.lemmas.Result.{IfOk-weaker, IfErr-weaker}
use Rattle.run_engine.specs.World.{World}
use Rattle.run_shared.proofs.shared.SharedRun.close.Goals as goal

pub leave-requires-clause-heard : goal.leave-requires-clause-heard
leave-requires-clause-heard g c = rw (sym c.into_parts-run.ensures.run) at c.into_parts-run.ensures.heard

pub leave-requires-clause-turns : goal.leave-requires-clause-turns
leave-requires-clause-turns g c = rw (sym c.into_parts-run.ensures.run) at c.into_parts-run.ensures.turns

pub returns-clause-refused : goal.returns-clause-refused
returns-clause-refused g c = rw c.self.view_is at c.leave.ensures.refused

pub returns-clause-counted : goal.returns-clause-counted
returns-clause-counted g c =
    let run = c.into_parts-run.result.0 in
    IfOk-weaker c.leave.result (λ closed. closed.journal ≡ run.journal) _ (λ closed same all.
    c.into_parts-run.ensures.counted all ∙ ap (λ (w : World). length w.journal) (sym c.into_parts-run.ensures.run)
    ∙ sym (ap length same)) c.leave.ensures.journal

pub returns-clause-counted_too : goal.returns-clause-counted_too
returns-clause-counted_too g c =
    let run = c.into_parts-run.result.0 in
    IfErr-weaker c.leave.result (λ unclosed. unclosed.journal ≡ run.journal) _ (λ unclosed same all.
    c.into_parts-run.ensures.counted all ∙ ap (λ (w : World). length w.journal) (sym c.into_parts-run.ensures.run)
    ∙ sym (ap length same)) c.leave.ensures.journal_too

pub returns-clause-left : goal.returns-clause-left
returns-clause-left g c = rw c.self.view_is at c.leave.ensures.left

pub returns-clause-left_too : goal.returns-clause-left_too
returns-clause-left_too g c = rw c.self.view_is at c.leave.ensures.left_too
