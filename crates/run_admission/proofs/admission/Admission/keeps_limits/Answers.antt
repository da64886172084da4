use Rattle.std.proofs.Common.{subst}
use Rattle.run_admission.specs.Laws.{KeepsLimits}
use Rattle.run_admission.proofs.LawLemmas.{keeps_limits}
use Rattle.run_admission.proofs.admission.Admission.keeps_limits.Goals as goal

pub returns : goal.returns
returns c = subst KeepsLimits c.self.view_is (keeps_limits _ _ _ _ _ c.self.invariant.kept)
