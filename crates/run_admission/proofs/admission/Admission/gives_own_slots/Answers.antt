use Rattle.std.proofs.Common.{subst}
use Rattle.run_admission.specs.Laws.{HasOwnSlots}
use Rattle.run_admission.proofs.LawLemmas.{own_slots}
use Rattle.run_admission.proofs.admission.Admission.gives_own_slots.Goals as goal

pub returns : goal.returns
returns c = subst HasOwnSlots c.self.view_is (own_slots _ _ _ _ _ c.self.invariant.kept)
