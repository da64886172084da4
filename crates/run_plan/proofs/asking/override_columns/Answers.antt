use Rattle.std.specs.List.{AllZip}
use Rattle.run_profile.specs.declared.settings.Override.{Override}
use Rattle.run_plan.specs.Asks.{FilterSays}
use Rattle.run_plan.proofs.ZipLemmas.{zip_more}
use Rattle.run_plan.proofs.asking.override_columns.Goals as goal

pub loop-o-preserved : goal.loop-o-preserved
loop-o-preserved c =
    zip_more (λ (x : Override). AllZip (FilterSays x.filter) c.args.tests.now) c.args.overrides.now c.loop-o.columns
    c.push.new.self c.loop-o.o-index c.o-item.result c.in_ok-held.held c.loop-o-test.true c.o-item.is
    c.in_ok-push.ensures.ok c.in_ok-held.ensures.ok c.loop-o.invariant
