use Rattle.std.proofs.Common.{ap, ◌∙◌, nat_eq}
use Rattle.run_admission.specs.InUse.{is_done}
use Rattle.run_admission.proofs.WaitLemmas.{done_is}
use Rattle.run_admission.proofs.admission.Admission.done.Goals as goal

pub returns : goal.returns
returns c =
    ap (λ n. nat_eq n 0) c.self.invariant.kept.waits ∙ done_is c.self.inside.seats.items ∙ ap is_done c.self.view_is
