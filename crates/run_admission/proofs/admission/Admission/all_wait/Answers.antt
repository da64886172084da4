use Rattle.std.proofs.Common.{◌≡◌, ap, ◌∙◌, arith, nat_eq, length}
use Rattle.std.specs.List.{list_all}
use Rattle.run_admission.specs.InUse.{Admissions, is_waiting}
use Rattle.run_admission.proofs.WaitLemmas.{all_waiting}
use Rattle.run_admission.proofs.admission.Admission.all_wait.Goals as goal

pub returns : goal.returns
returns c =
    let seats = c.self.inside.seats.items in
    let many : c.len.result ≡ length seats = omega arith in
    ap (nat_eq c.self.inside.waiting) many ∙ ap (λ n. nat_eq n (length seats)) c.self.invariant.kept.waits ∙
    all_waiting seats
    ∙ ap (λ (a : Admissions). list_all is_waiting a.seats) c.self.view_is
