use Rattle.std.proofs.Common.{◌≡◌, Some, None, length, ap, sym, subst, ◌∙◌}
use Rattle.std.proofs.lemmas.Result.{err_from_is_err_and}
use Rattle.run_engine.specs.World.{World}
use Rattle.run_engine.specs.Settling.{first_settled, IsUnsettled}
use Rattle.run_shared.specs.Adds.{AddsTurn}
use Rattle.run_shared.proofs.LockedLemmas.{adds_turn}
use Rattle.run_shared.proofs.locked.Locked.settle.Goals as goal

pub returns-in_err-turn-clause-refused : goal.returns-in_err-turn-clause-refused
returns-in_err-turn-clause-refused g c =
    let p = err_from_is_err_and c.from_residual.result c.from_residual.ensures.1 in
    rw (p.1, p.2) (subst (λ (w : World). IsUnsettled w c.args.word c.in_err-turn.field-0.0) c.self.view_is
    c.in_err-turn.ensures.refused)

pub returns-in_default-clause-first : goal.returns-in_default-clause-first
returns-in_default-clause-first g c =
    subst (λ (w : World). None ≡ first_settled w c.args.word) c.self.view_is
    (sym c.in_default.is ∙ c.in_ok-turn.ensures.first)

pub returns-clause-first : goal.returns-clause-first
returns-clause-first g c =
    subst (λ (w : World). Some c.in-Some.turn ≡ first_settled w c.args.word) c.self.view_is
    (sym c.in-Some.is ∙ c.in_ok-turn.ensures.first)

pub returns-clause-adds : goal.returns-clause-adds
returns-clause-adds g c =
    let takes = rw c.in-Some.is at c.in_ok-turn.ensures.settles in (
      ap length c.journal.ensures.journal ∙ ap (λ (w : World). length w.journal) c.self.view_is,
      subst (λ (w : World). AddsTurn w c.in-Some.turn c.settle.new.self) c.self.view_is
          (adds_turn _ _ _ c.in-Some.turn c.self.inside.run c.settle.new.self _ takes.1),
      c.add.ensures.amount,
    )
