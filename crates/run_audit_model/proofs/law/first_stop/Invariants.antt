use Rattle.std.proofs.Common.{drop}
use Rattle.run_audit_model.proofs.PlaceLemmas.{Continues}
use Rattle.run_audit_model.proofs.law.first_stop.Given as goal

abbrev pub invariant-loop-place : goal.invariant-loop-place
invariant-loop-place g l = record {
  held : g.L.Law.holds l.law;
  rest : Continues g.L.Law.machine l.fn.law l.fn.events l.law (drop l.place l.fn.events) l.place;
}
