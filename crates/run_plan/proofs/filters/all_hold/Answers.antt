use Rattle.std.proofs.Common.{◌∙◌, Bool, true, List, None, subst, sym}
use Rattle.std.specs.List.{AllZip}
use Rattle.run_plan.specs.Asks.{FilterSays}
use Rattle.run_plan.proofs.ColumnLemmas.{zip_of_map}
use Rattle.run_plan.proofs.filters.all_hold.Goals as goal

pub returns : goal.returns
returns c =
    subst (λ (l : List Bool). AllZip (FilterSays None) c.args.tests.now l)
    (sym (c.from_vec.ensures ∙ c.in_ok-all_true.ensures))
    (zip_of_map (λ facts. true) c.args.tests.now)
