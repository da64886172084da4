use Rattle.std.proofs.Common.{◌∙◌, nat_eq, sym, ap}
use Rattle.std.specs.List.{list_all}
use Rattle.run_audit_machines.specs.Machines.{is_none_due}
use Rattle.run_audit_machines.proofs.AccountPlaceLemmas.{all_done}
use Rattle.run_audit_passes.proofs.test_part.TestPartPartLaw.is_done.Goals as goal

pub returns : goal.returns
returns g c =
    ap (λ n. nat_eq n 0) c.self.invariant.1
    ∙ sym (all_done (λ q. q.items)
    (g.N.TestPlaces.names c.self.inside.places) c.self.inside.due.items c.self.invariant.0)
    ∙ ap (λ accounts. list_all (λ account. is_none_due account.1) accounts) c.self.view_is
