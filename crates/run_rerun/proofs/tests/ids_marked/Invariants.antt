use Rattle.std.proofs.Common.{◌≡◌, map, filter, take}
use Rattle.run_rerun.specs.Ledgers.{is_marked}
use Rattle.run_rerun.proofs.tests.ids_marked.Given as goal

abbrev pub invariant-loop-unit : goal.invariant-loop-unit
invariant-loop-unit l =
    l.ids.items ≡ map (λ t. t.1) (filter (λ t. is_marked l.ledger t.0) (take l.unit-index l.had))
