use Rattle.std.proofs.Common.{Bool, List, Some, subst, sym}
use Rattle.std.specs.List.{AllZip}
use Rattle.run_filter.specs.Holds.{HoldsOf}
use Rattle.run_plan.specs.Asks.{FilterSays}
use Rattle.run_plan.proofs.ZipLemmas.{zip_so}
use Rattle.run_plan.proofs.filters.text_column.Goals as goal

pub returns-in-Ok-clause-ok : goal.returns-in-Ok-clause-ok
returns-in-Ok-clause-ok c =
    let h = c.in-Ok.ensures in
    let says = FilterSays (Some c.args.text.now) in
    subst (λ (l : List Bool). AllZip says c.args.tests.now l) (sym c.from_vec.ensures)
    (zip_so (HoldsOf h.0) says c.args.tests.now c.in-Ok.held.items (λ facts b holds. (h.0, h.1, holds)) h.2.1)
