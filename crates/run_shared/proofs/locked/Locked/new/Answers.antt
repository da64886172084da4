use Rattle.std.proofs.Common.{◌≡◌, length, ap, sym, subst, ◌∙◌}
use Rattle.run_laws.specs.Course.{turns_of}
use Rattle.run_engine.specs.World.{World}
use Rattle.run_engine.specs.Heard.{IsHeard}
use Rattle.run_shared.proofs.LockedLemmas.{heard_at_first}
use Rattle.run_shared.proofs.locked.Locked.new.Goals as goal

pub invariant_of-result : goal.invariant_of-result
invariant_of-result g c = (
  c.requires.book ∙ ap (λ (w : World). length w.journal) (sym c.requires.fresh),
  c.requires.rest,
  subst (IsHeard g.R.Reporter.told (λ list xs. list ≡ xs) c.args.report c.new.result) (sym c.requires.fresh)
      (heard_at_first g.R.Reporter.told (λ list xs. list ≡ xs) c.args.report c.new.result c.args.run.settings
      c.requires.told c.new.ensures),
  subst (λ (w : World). g.R.Reporter.taken c.args.report (turns_of w.journal)) (sym c.requires.fresh)
      c.requires.untaken,
)
